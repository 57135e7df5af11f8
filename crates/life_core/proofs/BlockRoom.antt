-- The room that sets have in frames of whole blocks.
use Rattle.std.specs.Prelude.{◌≡◌, ◌⊎◌, ℕ, pos, zero, suc, ◌+◌, ◌-◌, ◌*◌, ◌/◌, ◌<◌, ◌≤◌, ◌+ℤ◌, true, List, length}
use Rattle.std.specs.Prelude.{nat_eq, refl}
use Rattle.std.proofs.Common.{◌∙◌, inl, inr, arith}
use Rattle.std.proofs.lemmas.Bool.Decides.{nat_tests}
use Rattle.std.proofs.lemmas.Int.{ints}
use Rattle.std.proofs.lemmas.Nat.{mul-le}
use Rattle.life_core.specs.declared.packed.frame.Frame.{Frame}
use Rattle.life_core.specs.declared.packed.margins.Wider.{Wider}
use Rattle.life_core.specs.Pattern.{Cells}
use Rattle.life_core.specs.Rule.{RuleSets}
use Rattle.life_core.specs.Generations.{next}
use Rattle.life_core.specs.PackedRow.{place}
use Rattle.life_core.specs.PackedFrameState.{cell_in, framed, HasRoom}
use Rattle.life_core.specs.PackedMarginsState.{HasSlack, IsWider, checked_room}
use Rattle.life_core.proofs.LanePlaces.{place-lt}
use Rattle.life_core.proofs.PackedCells.{place_is_live}
use Rattle.life_core.proofs.PackedSteps.{next_in}
use Rattle.life_core.proofs.FlatSteps.{HasDeadEdges}
use Rattle.life_core.proofs.BlockGenerations.{edges_by_room}

-- room for one cell between the first and the last line of blocks
pub room_of : (f : Frame) (n : ℕ) (X : Cells) → HasSlack f n X
    → HasRoom f.left (f.top +ℤ pos 16) (64 * f.words) (f.height - 32) X
room_of f n X room = record {
  inner = λ c h.
      let a = room.away c h in
      record {
        from_left = omega (arith, ints, a.from_left);
        to_right = omega (arith, ints, a.to_right);
        from_top = omega (arith, ints, a.from_top);
        to_bottom = omega (arith, ints, a.from_top, a.to_bottom);
      };
}

-- room for fewer generations
pub slack_of_more : (f : Frame) (m n : ℕ) (X : Cells) → HasSlack f n X → m ≤ n → HasSlack f m X
slack_of_more f m n X room less = record {
  away = λ c h.
      let a = room.away c h in
      record {
        from_left = omega (arith, ints, a.from_left, less);
        to_right = omega (arith, ints, a.to_right, less);
        from_top = omega (arith, ints, a.from_top, less);
        to_bottom = omega (arith, ints, a.to_bottom, less);
      };
}

-- as much room in a wider frame
pub slack_in_wider : (f : Frame) (w : Wider) (n : ℕ) (X : Cells) → IsWider f w → HasSlack f n X → HasSlack w.frame n X
slack_in_wider f w n X wider room = record {
  away = λ c h.
      let a = room.away c h in
      record {
        from_left = omega (arith, ints, a.from_left, wider.left);
        to_right = omega (arith, ints, a.to_right, wider.left, wider.wide);
        from_top = omega (arith, ints, a.from_top, wider.top);
        to_bottom = omega (arith, ints, a.to_bottom, wider.top, wider.tall);
      };
}

-- a generation later there is room for one less
pub slack_less : (r : RuleSets) (f : Frame) (n : ℕ) (X : Cells) → HasSlack f n X → 1 ≤ n → HasSlack f (n - 1) (next r X)
slack_less r f n X room some = record {
  away = λ c h.
      let i = next_in r (f.left +ℤ pos n) (f.top +ℤ pos (16 + n)) (64 * f.words - 2 * n)
      (f.height - (32 + 2 * n)) X inner c h in
      record {
        from_left = omega (arith, ints, i.from_left, some);
        to_right = omega (arith, ints, i.from_left, i.to_right, some);
        from_top = omega (arith, ints, i.from_top, some);
        to_bottom = omega (arith, ints, i.from_top, i.to_bottom, some);
      };
}
  where
    inner : HasRoom (f.left +ℤ pos n) (f.top +ℤ pos (16 + n)) (64 * f.words - 2 * n) (f.height - (32 + 2 * n)) X
    inner = record {
      inner = λ c h.
          let a = room.away c h in
          record {
            from_left = omega (arith, ints, a.from_left);
            to_right = omega (arith, ints, a.from_left, a.to_right);
            from_top = omega (arith, ints, a.from_top);
            to_bottom = omega (arith, ints, a.from_top, a.to_bottom);
          };
    }

-- ---- rows

-- no cell in the first and the last column
pub dead_edges : (f : Frame) (rows : List ℕ) (n : ℕ) → 0 < f.words → f.height * f.words ≡ length rows
    → HasSlack f n (framed f rows) → HasDeadEdges (64 * f.words) f.height rows
dead_edges f rows n wide size room =
    edges_by_room f rows (f.top +ℤ pos 16) (f.height - 32) wide size (room_of f n (framed f rows) room)

not_one : (b : ℕ) → b < 2 → (nat_eq b 1 ≡ true → ⊥) → b ≡ 0
not_one zero lt never = refl
not_one (suc zero) lt never = absurd (never refl)
not_one (suc (suc b)) lt never = absurd (omega arith)

-- no cell in the first and the last line of blocks
pub dead_guards : (f : Frame) (rows : List ℕ) (n : ℕ) → 0 < f.words → f.height * f.words ≡ length rows
    → HasSlack f n (framed f rows)
    → (x y : ℕ) → x < 64 * f.words → y < f.height → (y < 16) ⊎ (f.height ≤ y + 16)
    → place rows (y * (64 * f.words) + x) ≡ 0
dead_guards f rows n wide size room x y narrow low guard = not_one _ (place-lt rows (y * (64 * f.words) + x)) (λ h.
    let a = room.away (cell_in f.left f.top x y) (place_is_live f rows wide size x y narrow low ∙ h) in
    elim guard [
      | inl first ↦ omega (arith, ints, a.from_top, first)
      | inr last ↦ omega (arith, ints, a.to_bottom, last)
    ])

-- the word of a place in the first and in the last line of blocks
pub first_words : (w x y : ℕ) → x < 64 * (2 * w) → y < 16 → (y * (64 * (2 * w)) + x) / 64 < 16 * 1 * (2 * w) + 2 * 0
first_words w x y narrow low =
    let rows = mul-le (y + 1) (2 * w) 16 (2 * w) (omega (arith, low)) (omega arith) in
    omega (arith, rows, narrow)

pub last_words : (w x y n : ℕ) → 16 * n ≤ y → 16 * n * (2 * w) + 2 * 0 ≤ (y * (64 * (2 * w)) + x) / 64
last_words w x y n low =
    let rows = mul-le (16 * n) (2 * w) y (2 * w) low (omega arith) in
    omega (arith, rows)

-- a look gives room for one generation at the least
pub checked_room_some : (n : ℕ) → 1 ≤ checked_room n
checked_room_some n = grind (arith, nat_tests)
