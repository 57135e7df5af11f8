-- Rows copied into a narrower frame.
use Rattle.std.proofs.Common.{◌≡◌, ℕ, ◌+◌, ◌*◌, ◌/◌, ◌%◌, ◌<◌, ◌≤◌, List, take, drop, replicate, length, get_or, ap}
use Rattle.std.proofs.Common.{◌∙◌, inl, inr, rules, arith}
use Rattle.std.specs.Int.{bit_at}
use Rattle.std.proofs.lemmas.Bool.{cases_lt}
use Rattle.std.proofs.lemmas.List.{places, get_or_past, get_or-replicate, length-replicate}
use Rattle.std.proofs.lemmas.Nat.Bits.{bit_at-zero}
use Rattle.life_core.specs.declared.packed.frame.Frame.{Frame}
use Rattle.life_core.specs.declared.packed.trimming.Narrower.{Narrower}
use Rattle.life_core.specs.PackedRow.{place}
use Rattle.life_core.specs.PackedTrimmingState.{IsNarrower}
use Rattle.life_core.proofs.FrameBounds.{row_fits}
use Rattle.life_core.proofs.PackedGrowth.{put_at}
use Rattle.life_core.proofs.PackedJoins.{place_in_row}

-- a stretch of a row that a narrower frame has lies among all words
pub part_fits : (f : Frame) (rows : List ℕ) (n : Narrower) (y : ℕ) → IsNarrower f rows n → f.height * f.words
    ≡ length rows → y < n.frame.height → (n.top + y) * f.words + n.left + n.frame.words ≤ length rows
part_fits f rows n y narrow size low =
    let at = row_fits f.words f.height (n.top + y) (omega (arith, narrow.wider.tall)) in
    omega (arith, at, size, narrow.wider.wide)

-- a stretch of words
pub length-part : (rows : List ℕ) (start words k : ℕ) → k ≡ words → start + words ≤ length rows
    → length (take k (drop start rows)) ≡ words
length-part rows start words k wide fits = search (rules, places)

pub part_words : (rows : List ℕ) (start words j k : ℕ) → k ≡ words → j < words
    → get_or (take k (drop start rows)) j 0 ≡ get_or rows (start + j) 0
part_words rows start words j k wide lt = search (rules, places)

-- the words in front
pub length-front : (words : List ℕ) (k : ℕ) → k ≤ length words → length (take k words) ≡ k
length-front words k fits = search (rules, places)

-- words without a bit
pub no_words : (words : List ℕ) (n j : ℕ) → words ≡ replicate n 0 → get_or words j 0 ≡ 0
no_words words n j dead = elim (cases_lt j n) [
  | inl inside ↦ ap (λ (ws : List ℕ). get_or ws j 0) dead ∙ get_or-replicate n j 0 0 inside
  | inr past ↦ get_or_past words j 0 (omega (arith, ap length dead, length-replicate {A = ℕ} n 0, past))
]

-- a word with a live place is not dead
pub blank_place : (rows : List ℕ) (words x y : ℕ) → place rows (y * (64 * words) + x) ≡ 1
    → get_or rows (y * words + x / 64) 0 ≡ 0 → ⊥
blank_place rows words x y live none =
    absurd (omega (arith, live, place_in_row rows words x y, ap (λ w. bit_at w (x % 64)) none, bit_at-zero (x % 64)))

-- a row of so many words is written
module _ (out ys : List ℕ) (words height y : ℕ) (size : height * words ≡ length out) (low : y < height)
    (long : length ys ≡ words) where
  written_fits : y * words + words ≤ length out
  written_fits = omega (arith, size, row_fits words height y low)

  pub written_long : length (put_at (y * words) out ys) ≡ length out
  written_long = let room = written_fits in search (rules, places)

  pub written_before : (z j : ℕ) → z < y → j < words
      → get_or (put_at (y * words) out ys) (z * words + j) 0 ≡ get_or out (z * words + j) 0
  written_before z j before inside =
      let room = written_fits in
      let end = row_fits words y z before in
      let apart : z * words + j < y * words = omega (arith, end) in
      search (rules, places)

  pub written_here : (j : ℕ) → j < words → get_or (put_at (y * words) out ys) (y * words + j) 0 ≡ get_or ys j 0
  written_here j inside =
      let room = written_fits in
      search (rules, places)
