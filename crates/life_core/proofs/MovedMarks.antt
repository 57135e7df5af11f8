-- Marks that move with their blocks to a wider frame.
use Rattle.std.specs.Prelude.{◌≡◌, ℕ, pos, ◌+◌, ◌-◌, ◌*◌, ◌/◌, ◌%◌, ◌<◌, ◌≤◌, ◌+ℤ◌, Bool, true, IsTrue, List}
use Rattle.std.specs.Prelude.{length, nat_eq}
use Rattle.std.proofs.Common.{sym, ap, ◌∙◌, inl, inr, arith}
use Rattle.std.proofs.lemmas.Bool.{cases_lt}
use Rattle.std.proofs.lemmas.Int.{ints}
use Rattle.std.proofs.lemmas.Nat.{mul-le}
use Rattle.std.specs.FinSet as set
use Rattle.life_core.specs.declared.cell.Cell.{Cell}
use Rattle.life_core.specs.declared.packed.frame.Frame.{Frame}
use Rattle.life_core.specs.declared.packed.margins.Wider.{Wider}
use Rattle.life_core.specs.Pattern.{Cells}
use Rattle.life_core.specs.Rule.{RuleSets}
use Rattle.life_core.specs.Generations.{next}
use Rattle.life_core.specs.PackedRow.{one_if, place}
use Rattle.life_core.specs.PackedFrameState.{cell_in, framed, IsFrame, IsIn}
use Rattle.life_core.specs.PackedMarksState.{mark_at}
use Rattle.life_core.specs.PackedMarginsState.{HasSlack, IsWhole, IsWider}
use Rattle.life_core.specs.PackedRowsState.{AreMoved, AreSettled, IsPacked}
use Rattle.life_core.proofs.CellLemmas.{same_coordinates}
use Rattle.life_core.proofs.FrameBounds.{places_few, row_fits}
use Rattle.life_core.proofs.PatternMembers.{same_answer}
use Rattle.life_core.proofs.PackedSteps.{next_in, one_if-true}
use Rattle.life_core.proofs.BlockPlanes.{IsOfBlocks, block_place}
use Rattle.life_core.proofs.BlockRoom.{room_of, slack_of_more}
use Rattle.life_core.proofs.BlockSteps.{unmarked}

-- a frame's columns and lines of blocks
blocks : (f : Frame) → IsFrame f → IsWhole f → IsOfBlocks f (f.words / 2) (f.height / 16)
blocks f frame whole = record { wide = whole.wide; tall = whole.tall; some = omega (arith, whole.wide, frame.wide) }

-- the marks of a frame's lines are numbers of a machine
pub marks_few : (f : Frame) (z : ℕ) → IsFrame f → z ≤ f.height / 16
    → mark_at (f.words / 2) z 0 ≤ 75625000000000001
marks_few f z frame low =
    omega (arith, places_few f frame, mul-le z (f.words / 2) f.height f.words (omega (arith, low)) (omega arith))

-- a block's mark in a wider frame is one of that frame's marks
pub mark_fits : (f : Frame) (w : Wider) (b : ℕ) → IsFrame f → IsWhole f → IsWider f w → 1 ≤ b
    → b < mark_at (f.words / 2) (f.height / 16) 0
    → mark_at (w.frame.words / 2) (w.top / 16 + (b - 1) / (f.words / 2)) (w.left / 2 + (b - 1) % (f.words / 2))
    < mark_at (w.frame.words / 2) (w.frame.height / 16) 0
mark_fits f w b frame whole wider first last =
    let some : 0 < f.words / 2 = omega (arith, frame.wide, whole.wide) in
    let line : (b - 1) / (f.words / 2) < f.height / 16 = elim (cases_lt ((b - 1) / (f.words / 2)) (f.height / 16)) [
      | inl low ↦ low
      | inr past ↦
          absurd (omega (
            arith,
            some,
            last,
            mul-le (f.height / 16) (f.words / 2) ((b - 1) / (f.words / 2)) (f.words / 2) past (omega arith),
          ))
    ] in
    let column : (b - 1) % (f.words / 2) < f.words / 2 = omega (arith, some) in
    omega (
      arith,
      row_fits (w.frame.words / 2) (w.frame.height / 16) (w.top / 16 + (b - 1) / (f.words / 2))
          (omega (arith, line, wider.lines, wider.tall)),
      column,
      wider.columns,
      wider.wide,
    )

-- a cell lies between the first and the last line of blocks
abbrev IsBetween : Frame → Cell → Type 0
IsBetween f c = IsIn f.left (f.top +ℤ pos 16) (64 * f.words) (f.height - 32) c

between : (f : Frame) (X : Cells) → HasSlack f 0 X → (c : Cell) → set.contains X c ≡ true → IsBetween f c
between f X room c h =
    let a = room.away c h in
    record {
      from_left = omega (arith, ints, a.from_left);
      to_right = omega (arith, ints, a.to_right);
      from_top = omega (arith, ints, a.from_top);
      to_bottom = omega (arith, ints, a.from_top, a.to_bottom);
    }

module _ (f : Frame) (w : Wider) (rows out marks next_marks : List ℕ) (r : RuleSets) (follows : Bool) (slack : ℕ)
    (packed : IsPacked f rows out marks next_marks r follows slack) (wide_rows wide_out wide_marks : List ℕ)
    (wide_frame : IsFrame w.frame) (wide_whole : IsWhole w.frame) (wider : IsWider f w)
    (wide_size : w.frame.height * w.frame.words ≡ length wide_out)
    (same_rows : framed w.frame wide_rows ≡ framed f rows) (same_out : framed w.frame wide_out ≡ framed f out)
    (moved : AreMoved f w marks wide_marks)
  where
    abbrev columns : ℕ
    columns = f.words / 2

    abbrev wide_columns : ℕ
    wide_columns = w.frame.words / 2

    abbrev wide_cell : ℕ → ℕ → ℕ → ℕ → Cell
    wide_cell z c i p = cell_in w.frame.left w.frame.top (128 * c + p) (16 * z + i)

    size : f.height * f.words ≡ length out
    size = omega (arith, packed.size, packed.long)

    room : HasSlack f 0 (framed f rows)
    room = slack_of_more f 0 slack (framed f rows) packed.room (omega arith)

    -- between those lines, a cell of a block that is not marked is in the set before exactly if it is in the next one
    same_between : IsTrue follows → (z c i p : ℕ) → i < 16 → p < 128 → place wide_marks (mark_at wide_columns z c) ≡ 0
        → IsBetween f (wide_cell z c i p)
        → set.contains (framed f out) (wide_cell z c i p) ≡ set.contains (next r (framed f rows)) (wide_cell z c i p)
    same_between t z c i p small inside idle b =
        let y : ℕ = z - w.top / 16 in
        let x : ℕ = c - w.left / 2 in
        let left : w.left / 2 ≤ c = omega (arith, ints, b.from_left, wider.left, wider.columns, inside) in
        let right : x < columns =
        omega (arith, ints, b.to_right, wider.left, wider.columns, packed.whole.wide, left, inside) in
        let top : w.top / 16 + 1 ≤ z = omega (arith, ints, b.from_top, wider.top, wider.lines, small) in
        let bottom : y + 2 ≤ f.height / 16 =
        omega (arith, ints, b.to_bottom, wider.top, wider.lines, packed.whole.tall, packed.whole.many, top, small) in
        let line : w.top / 16 + y ≡ z = omega (arith, top) in
        let column : w.left / 2 + x ≡ c = omega (arith, left) in
        let first : 1 ≤ y = omega (arith, top) in
        let cell : wide_cell z c i p ≡ cell_in f.left f.top (128 * x + p) (16 * y + i) = same_coordinates _ _
        (omega (arith, ints, wider.top, wider.lines, line)) (omega (arith, ints, wider.left, wider.columns, column)) in
        let unset : place marks (mark_at columns y x) ≡ 0 =
        unmarked marks wide_marks (mark_at columns y x) (mark_at wide_columns (w.top / 16 + y) (w.left / 2 + x))
        (moved.marked y x first bottom right)
        ((λ n. place wide_marks (mark_at wide_columns (line n) (column n))) ∙ idle) in
        ap (set.contains (framed f out)) cell ∙ sym (one_if-true _)
        ∙ ap (λ n. nat_eq n 1)
        (sym (block_place f columns (f.height / 16) out (blocks f packed.frame packed.whole) size y x i p
        (omega (arith, bottom)) right small inside)
        ∙ (packed.settled t).places y x i p first bottom right small inside unset)
        ∙ one_if-true _ ∙ ap (set.contains (next r (framed f rows))) (sym cell)

    -- outside of them, neither set has a cell
    same_members : IsTrue follows → (z c i p : ℕ) → i < 16 → p < 128 → place wide_marks (mark_at wide_columns z c) ≡ 0
        → set.contains (framed f out) (wide_cell z c i p) ≡ set.contains (next r (framed f rows)) (wide_cell z c i p)
    same_members t z c i p small inside idle =
        let d = wide_cell z c i p in
        let at = same_between t z c i p small inside idle in
        same_answer (set.contains (framed f out) d) (set.contains (next r (framed f rows)) d)
        (λ h. sym (at (between f (framed f out) packed.spare_room d h)) ∙ h)
        (λ h. at (next_in r f.left (f.top +ℤ pos 16) (64 * f.words) (f.height - 32) (framed f rows)
        (room_of f 0 (framed f rows) room) d h) ∙ h)

    -- so blocks that are not marked are settled in the wider frame too
    pub moved_settled : IsTrue follows → AreSettled w.frame r wide_rows wide_out wide_marks
    moved_settled t = record {
      places =
          λ z c i p first last narrow small inside idle.
          block_place w.frame wide_columns (w.frame.height / 16) wide_out (blocks w.frame wide_frame wide_whole)
          wide_size z c i p (omega (arith, last)) narrow small inside
          ∙ ap (λ X. one_if (set.contains X (wide_cell z c i p))) same_out
          ∙ ap one_if (same_members t z c i p small inside idle)
          ∙ ap (λ X. one_if (set.contains (next r X) (wide_cell z c i p))) (sym same_rows);
    }
