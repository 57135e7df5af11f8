-- Words of a row that are written from left to right.
use Rattle.std.proofs.Common.{◌≡◌, ◌⊎◌, ℕ, ◌+◌, ◌-◌, ◌*◌, ◌/◌, ◌%◌, ◌<◌, ◌≤◌, List, length, get_or, sym, ap, ◌∙◌, inl}
use Rattle.std.proofs.Common.{inr, arith}
use Rattle.std.specs.Int.{bit_at}
use Rattle.std.proofs.lemmas.Bool.{cases_lt}
use Rattle.life_core.specs.PackedRow.{place}
use Rattle.life_core.specs.PackedRowState.{AreStepped}

-- n more words are written
pub stepped_more : (N : ℕ → ℕ) (a k n : ℕ) (old mid new : List ℕ) → a ≤ k → AreStepped N a k old mid
    → length new ≡ length mid
    → ((j : ℕ) → (j < k) ⊎ (k + n ≤ j) → get_or new j 0 ≡ get_or mid j 0)
    → ((p : ℕ) → p < 64 * n → place new (64 * k + p) ≡ N (64 * k + p)) → AreStepped N a (k + n) old new
stepped_more N a k n old mid new from done long rest places = record {
  long = long ∙ done.long;
  inside = λ p le lt. elim (cases_lt p (64 * k)) [
    | inl earlier ↦ ap (λ x. bit_at x (p % 64)) (rest (p / 64) (inl (omega arith))) ∙ done.inside p le earlier
    | inr here ↦
        let back : 64 * k + (p - 64 * k) ≡ p = omega arith in
        ap (place new) (sym back) ∙ places (p - 64 * k) (omega arith) ∙ ap N back
  ];
  before = λ j lt. rest j (inl (omega arith)) ∙ done.before j lt;
  after = λ j le. rest j (inr le) ∙ done.after j (omega arith);
}
