-- The rows after a step by blocks represent the next set.
use Rattle.std.specs.Prelude.{◌≡◌, ◌⊎◌, ℕ, ℤ, pos, zero, suc, ◌+◌, ◌-◌, ◌*◌, ◌/◌, ◌%◌, ◌<◌, ◌≤◌, ◌+ℤ◌, Bool, true}
use Rattle.std.specs.Prelude.{false, List, length, nat_eq, refl}
use Rattle.std.proofs.Common.{sym, ap, ◌∙◌, inl, inr, arith}
use Rattle.std.proofs.lemmas.Int.{ints}
use Rattle.std.proofs.lemmas.Bool.{cases_lt}
use Rattle.std.specs.FinSet as set
use Rattle.life_core.specs.declared.cell.Cell.{Cell}
use Rattle.life_core.specs.declared.packed.frame.Frame.{Frame}
use Rattle.life_core.specs.Rule.{RuleSets}
use Rattle.life_core.specs.Generations.{next}
use Rattle.life_core.specs.PackedRow.{one_if, place}
use Rattle.life_core.specs.PackedFrameState.{cell_in, framed, IsIn, HasRoom}
use Rattle.life_core.proofs.PackedCells.{place_is_live}
use Rattle.life_core.proofs.PackedSteps.{next_in, rows_are}
use Rattle.life_core.specs.PackedBlocksState.{flat_next}
use Rattle.life_core.specs.PackedMarksState.{IsAdvanced, mark_at, place_at}
use Rattle.life_core.proofs.LanePlaces.{place-lt}
use Rattle.life_core.proofs.FlatSteps.{HasDeadEdges}
use Rattle.life_core.proofs.BlockPlanes.{place_of, next_at, IsOfBlocks, block_done}

none_of : (b : Bool) → (b ≡ true → ⊥) → one_if b ≡ 0
none_of true never = absurd (never refl)
none_of false never = refl

not_one : (b : ℕ) → b < 2 → (nat_eq b 1 ≡ true → ⊥) → b ≡ 0
not_one zero lt never = refl
not_one (suc zero) lt never = absurd (never refl)
not_one (suc (suc b)) lt never = absurd (omega arith)

-- no cell in the first and the last column
pub edges_by_room : (f : Frame) (rows : List ℕ) (top : ℤ) (height : ℕ) → 0 < f.words → f.height * f.words ≡ length rows
    → HasRoom f.left top (64 * f.words) height (framed f rows) → HasDeadEdges (64 * f.words) f.height rows
edges_by_room f rows top height wide size room = record {
  first = λ y low.
      let at : y * (64 * f.words) + 0 ≡ y * (64 * f.words) = omega arith in
      ap (place rows) (sym at) ∙ not_one (place rows (y * (64 * f.words) + 0))
      (place-lt rows (y * (64 * f.words) + 0)) (λ h.
      let i = room.inner (cell_in f.left f.top 0 y)
      (place_is_live f rows wide size 0 y (omega (arith, wide)) low ∙ h) in
      omega (arith, ints, i.from_left));
  last =
      λ y low. not_one (place rows (y * (64 * f.words) + (64 * f.words - 1)))
      (place-lt rows (y * (64 * f.words) + (64 * f.words - 1))) (λ h.
      let i = room.inner (cell_in f.left f.top (64 * f.words - 1) y)
      (place_is_live f rows wide size (64 * f.words - 1) y (omega (arith, wide)) low ∙ h) in
      omega (arith, ints, i.to_right, wide));
}

-- after a step by blocks of a set that keeps away from the first and the last line by a cell, the rows are the next
-- set's
pub next_rows : (f : Frame) (columns lines : ℕ) (r : RuleSets) (rows old new marks nm : List ℕ)
    → IsOfBlocks f columns lines → 3 ≤ lines → set.contains r.birth 0 ≡ false
    → f.height * f.words ≡ length rows → f.height * f.words ≡ length new
    → HasRoom f.left (f.top +ℤ pos 16) (64 * f.words) (f.height - 32) (framed f rows)
    → ((x y : ℕ) → x < 64 * f.words → y < f.height → (y < 16) ⊎ (f.height ≤ y + 16)
    → place new (y * (64 * f.words) + x) ≡ 0)
    → ((z c i p : ℕ) → 1 ≤ z → z + 2 ≤ lines → c < columns → i < 16 → p < 128
    → place marks (mark_at columns z c) ≡ 0
    → place old (place_at columns z c i p) ≡ next_at f r rows z c i p)
    → ((z c : ℕ) → 1 ≤ z → z + 2 ≤ lines → c < columns
    → IsAdvanced (flat_next r rows (64 * (2 * columns))) columns z c marks old new nm)
    → framed f new ≡ next r (framed f rows)
next_rows f columns lines r rows old new marks nm of many quiet size size_new room guards settled steps =
    rows_are f.left f.top (64 * f.words) f.height new (next r (framed f rows))
    (omega (arith, of.wide, of.some)) long inside places
  where
    wide : 0 < f.words
    wide = omega (arith, of.wide, of.some)

    long : 64 * length new ≡ f.height * (64 * f.words)
    long = omega (arith, size_new)

    inner : (c : Cell) → set.contains (next r (framed f rows)) c ≡ true
        → IsIn f.left (f.top +ℤ pos 16) (64 * f.words) (f.height - 32) c
    inner c h = next_in r f.left (f.top +ℤ pos 16) (64 * f.words) (f.height - 32) (framed f rows) room c h

    inside : (c : Cell) → set.contains (next r (framed f rows)) c ≡ true → IsIn f.left f.top (64 * f.words) f.height c
    inside c h =
        let i = inner c h in
        let tall : f.height ≡ 16 * lines = of.tall in
        record {
          from_left = i.from_left;
          to_right = i.to_right;
          from_top = omega (arith, ints, i.from_top);
          to_bottom = omega (arith, ints, i.to_bottom, tall, many);
        }

    places : (x y : ℕ) → x < 64 * f.words → y < f.height
        → place new (y * (64 * f.words) + x) ≡ one_if (set.contains (next r (framed f rows)) (cell_in f.left f.top x y))
    places x y narrow low = elim (cases_lt y 16) [
      | inl first ↦
          guards x y narrow low (inl first)
          ∙ sym (none_of _ (λ h. let i = inner (cell_in f.left f.top x y) h in omega (arith, ints, i.from_top, first)))
      | inr later ↦ elim (cases_lt (y + 16) f.height) [
        | inl before ↦
            at (y / 16) (x / 128) (y % 16) (x % 128) x y (omega arith) (omega arith) (omega (arith, later))
            (omega (arith, before, of.tall)) (omega (arith, narrow, of.wide)) (omega arith) (omega arith)
        | inr last ↦
            guards x y narrow low (inr last) ∙ sym (none_of _ (λ h. let i = inner (cell_in f.left f.top x y) h in
            let tall : f.height ≡ 16 * lines = of.tall in omega (arith, ints, i.to_bottom, last, tall, many)))
      ]
    ]
      where
        at : (z c i p x y : ℕ) → 128 * c + p ≡ x → 16 * z + i ≡ y → 1 ≤ z → z + 2 ≤ lines
            → c < columns → i < 16 → p < 128 → place new (y * (64 * f.words) + x)
            ≡ one_if (set.contains (next r (framed f rows)) (cell_in f.left f.top x y))
        at z c i p x y column row first last within small narrow =
            let W : 64 * f.words ≡ 64 * (2 * columns) = ap (λ (w : ℕ). 64 * w) of.wide in
            let q : y * (64 * f.words) + x ≡ place_at columns z c i p = (λ t. sym row t * W t + sym column t)
            ∙ place_of columns z c i p in
            ap (place new) q
            ∙ block_done f columns lines r rows old new marks nm of quiet size
            (edges_by_room f rows (f.top +ℤ pos 16) (f.height - 32) wide size room) z c i p first
            last within small narrow (settled z c i p first last within small narrow) (steps z c first last within)
            ∙ (λ t. one_if (set.contains (next r (framed f rows)) (cell_in f.left f.top (column t) (row t))))
