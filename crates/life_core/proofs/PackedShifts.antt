-- Translations between sets in packed words.
use Rattle.std.proofs.Common.{◌≡◌, ℕ, ℤ, pos, ◌+◌, ◌*◌, ◌/◌, ◌%◌, ◌<◌, ◌≤◌, ◌+ℤ◌, ◌-ℤ◌, neg_ℤ, true, false, List}
use Rattle.std.proofs.Common.{length, get_or, refl, sym, ap, ◌∙◌, inl, inr, arith}
use Rattle.std.specs.Prelude.{None, Some}
use Rattle.std.specs.Int.{bit_at}
use Rattle.std.specs.FinSet as set
use Rattle.std.proofs.lemmas.Int.{ints}
use Rattle.std.proofs.lemmas.Bool.{false≢true, cases_lt, cases_eq}
use Rattle.std.proofs.lemmas.Nat.{mul-le, div-mul-add, mod-mul-add}
use Rattle.std.proofs.lemmas.Nat.Bits.{bit_at-zero}
use Rattle.life_core.specs.declared.cell.Cell.{Cell}
use Rattle.life_core.specs.declared.packed.frame.Frame.{Frame}
use Rattle.life_core.specs.Cell.{cell_cmp, moved_cell}
use Rattle.life_core.specs.Pattern.{Cells, image, ShiftsTo}
use Rattle.life_core.specs.PackedRow.{place}
use Rattle.life_core.specs.PackedFrameState.{framed, cell_of}
use Rattle.life_core.specs.PackedShiftsState.{IsFirst, Covers}
use Rattle.life_core.proofs.CellLemmas.{same_coordinates}
use Rattle.life_core.proofs.FrameBounds.{row_of_place, row_fits}
use Rattle.life_core.proofs.GenerationsLaws.{move_back}
use Rattle.life_core.proofs.PatternMembers.{same_answer, cells_by_members, contains-image}
use Rattle.life_core.proofs.WordShifts.{place_at}
use Rattle.life_core.proofs.PackedCells.{live_place, place_lives}

-- the bit of a live cell
pub record LiveBit (f : Frame) (rows : List ℕ) (c : Cell) : Type 0 where
  pub k : ℕ
  pub i : ℕ
  pub inside : k < length rows
  pub low : i < 64
  pub bit : bit_at (get_or rows k 0) i ≡ 1
  pub cell : c ≡ cell_of f.left f.top (64 * f.words) (64 * k + i)

pub live_bit : (f : Frame) (rows : List ℕ) → 0 < f.words → f.height * f.words ≡ length rows
    → (c : Cell) → set.contains (framed f rows) c ≡ true → LiveBit f rows c
live_bit f rows wide size c h =
    let p = live_place f rows wide size c h in
    let P = p.y * (64 * f.words) + p.x in
    let fits = row_fits f.words f.height p.y p.low in
    let scaled : p.y * (64 * f.words) ≡ 64 * (p.y * f.words) = omega arith in
    let below : P < 64 * length rows = omega (arith, p.narrow) in
    let whole : 64 * (P / 64) + P % 64 ≡ P = omega arith in
    let at : c ≡ cell_of f.left f.top (64 * f.words) P = same_coordinates c _
    (p.row ∙ ap (λ n. f.top +ℤ pos n) (sym (div-mul-add p.y (64 * f.words) p.x p.narrow)))
    (p.column ∙ ap (λ n. f.left +ℤ pos n) (sym (mod-mul-add p.y (64 * f.words) p.x p.narrow))) in
    record {
      k = P / 64;
      i = P % 64;
      inside = omega arith;
      low = omega arith;
      bit = p.live;
      cell = at ∙ ap (cell_of f.left f.top (64 * f.words)) (sym whole);
    }

-- a set bit is a live cell
pub bit_lives : (f : Frame) (rows : List ℕ) → 0 < f.words → f.height * f.words ≡ length rows
    → (k i : ℕ) → k < length rows → i < 64 → bit_at (get_or rows k 0) i ≡ 1
    → set.contains (framed f rows) (cell_of f.left f.top (64 * f.words) (64 * k + i)) ≡ true
bit_lives f rows wide size k i inside low bit =
    let W = 64 * f.words in
    let P = 64 * k + i in
    let some : 0 < W = omega arith in
    let below : P < 64 * (f.height * f.words) = omega arith in
    let whole : P / W * W + P % W ≡ P = omega arith in
    let narrow : P % W < W = omega arith in
    place_lives f rows wide size (cell_of f.left f.top W P) (P % W) (P / W) refl refl narrow
    (row_of_place f.words f.height P wide below) (ap (place rows) whole ∙ place_at rows k i low ∙ bit)

-- the first of the set bits is the first cell
pub first_bit : (f : Frame) (rows : List ℕ) → 0 < f.words → f.height * f.words ≡ length rows
    → (k t : ℕ) → k < length rows → t < 64
    → ((j : ℕ) → j < k → get_or rows j 0 ≡ 0) → bit_at (get_or rows k 0) t ≡ 1
    → ((i : ℕ) → i < t → bit_at (get_or rows k 0) i ≡ 0)
    → IsFirst (framed f rows) (cell_of f.left f.top (64 * f.words) (64 * k + t))
first_bit f rows wide size k t inside low before bit none = record {
  live = bit_lives f rows wide size k t inside low bit;
  rows = λ c h.
      let b = live_bit f rows wide size c h in
      let up = after c h in
      let far = ap (λ (d : Cell). d.row) b.cell in
      let row = quotients (64 * f.words) (64 * k + t) (64 * b.k + b.i) (omega arith) up in
      omega (arith, ints, far, row);
  columns = λ c h same.
      let b = live_bit f rows wide size c h in
      let up = after c h in
      let W = 64 * f.words in
      let P = 64 * k + t in
      let Q = 64 * b.k + b.i in
      let far = ap (λ (d : Cell). d.row) b.cell in
      let along = ap (λ (d : Cell). d.column) b.cell in
      let q : P / W ≡ Q / W = omega (arith, ints, far, same) in
      let lines : P / W * W ≡ Q / W * W = ap (λ n. n * W) q in
      let p_is : P / W * W + P % W ≡ P = omega arith in
      let q_is : Q / W * W + Q % W ≡ Q = omega arith in
      omega (arith, ints, along, lines, p_is, q_is, up);
}
  where
    after : (c : Cell) (h : set.contains (framed f rows) c ≡ true)
        → 64 * k + t ≤ 64 * (live_bit f rows wide size c h).k + (live_bit f rows wide size c h).i
    after c h =
        let b = live_bit f rows wide size c h in
        elim (cases_lt b.k k) [
          | inl less ↦ absurd (omega (arith, b.bit, ap (λ w. bit_at w b.i) (before b.k less), bit_at-zero b.i))
          | inr more ↦ elim (cases_eq b.k k) [
            | inl same ↦ elim (cases_lt b.i t) [
              | inl less ↦ absurd (omega (arith, b.bit, ap (λ n. bit_at (get_or rows n 0) b.i) same, none b.i less))
              | inr past ↦ omega (arith, same, past)
            ]
            | inr other ↦ omega (arith, more, other, low)
          ]
        ]

    quotients : (W P Q : ℕ) → 0 < W → P ≤ Q → P / W ≤ Q / W
    quotients W P Q some le = elim (cases_lt (Q / W) (P / W)) [
      | inl less ↦
          let next : Q / W + 1 ≤ P / W = omega arith in
          let q_is : Q / W * W + Q % W ≡ Q = omega arith in
          let p_is : P / W * W + P % W ≡ P = omega arith in
          let narrow : Q % W < W = omega arith in
          absurd (omega (arith, mul-le (Q / W + 1) W (P / W) W next (omega arith), q_is, p_is, narrow, le))
      | inr more ↦ more
    ]

-- ---- sets and their first cells

pub no_members : (X : Cells) → ((c : Cell) → set.contains X c ≡ false) → X ≡ set.empty
no_members X none = cells_by_members X set.empty (λ c. none c ∙ sym (set.contains-empty cell_cmp c))

contains-moved : (dx dy : ℤ) (X : Cells) (c : Cell)
    → set.contains (image (moved_cell dx dy) X) c ≡ set.contains X (moved_cell (neg_ℤ dx) (neg_ℤ dy) c)
contains-moved dx dy X c =
    contains-image (moved_cell dx dy) (moved_cell (neg_ℤ dx) (neg_ℤ dy))
    (move_back dx dy (neg_ℤ dx) (neg_ℤ dy) (omega (arith, ints)) (omega (arith, ints)))
    (move_back (neg_ℤ dx) (neg_ℤ dy) dx dy (omega (arith, ints)) (omega (arith, ints))) X c

member_moved : (dx dy : ℤ) (X : Cells) (c : Cell) → set.contains X c ≡ true
    → set.contains (image (moved_cell dx dy) X) (moved_cell dx dy c) ≡ true
member_moved dx dy X c h =
    contains-moved dx dy X (moved_cell dx dy c)
    ∙ ap (set.contains X) (move_back (neg_ℤ dx) (neg_ℤ dy) dx dy (omega (arith, ints)) (omega (arith, ints)) c) ∙ h

-- a set without cells is moved nowhere
pub from_none : (X Y : Cells) → ((c : Cell) → set.contains X c ≡ false) → ShiftsTo X Y None
from_none X Y none = λ dx dy e. no_members X none

-- no set with a cell is moved to one without
pub to_none : (X Y : Cells) → ((c : Cell) → set.contains Y c ≡ false) → ShiftsTo X Y None
to_none X Y none = λ dx dy e. no_members X (λ c. same_answer _ _
    (λ h. absurd (false≢true (sym (none (moved_cell dx dy c)) ∙ ap (λ (Z : Cells). set.contains Z (moved_cell dx dy c))
    (sym e) ∙ member_moved dx dy X c h))) (λ h. absurd (false≢true h)))

-- two moves that each cover make one image
pub by_covers : (X Y : Cells) (a : Cell) (there back : ℤ × ℤ) → set.contains X a ≡ true → back.0 ≡ neg_ℤ there.0
    → back.1 ≡ neg_ℤ there.1 → Covers X Y there → Covers Y X back → ShiftsTo X Y (Some there)
by_covers X Y a there back live columns rows on off = (
  λ e. false≢true (sym (set.contains-empty cell_cmp a) ∙ ap (λ (Z : Cells). set.contains Z a) (sym e) ∙ live),
  cells_by_members _ Y (λ c. contains-moved there.0 there.1 X c ∙ same_answer _ _
      (λ h. ap (set.contains Y) (sym (move_back there.0 there.1 (neg_ℤ there.0) (neg_ℤ there.1)
      (omega (arith, ints)) (omega (arith, ints)) c)) ∙ on (moved_cell (neg_ℤ there.0) (neg_ℤ there.1) c) h)
      (λ h. (λ i. set.contains X (moved_cell (sym columns i) (sym rows i) c)) ∙ off c h)),
)

-- a move that makes Y of X takes the first cell of X to the first of Y
firsts_meet : (X Y : Cells) (a b : Cell) (dx dy : ℤ) → IsFirst X a → IsFirst Y b → image (moved_cell dx dy) X ≡ Y
    → (dx ≡ b.column -ℤ a.column) × (dy ≡ b.row -ℤ a.row)
firsts_meet X Y a b dx dy first other e =
    let there : set.contains Y (moved_cell dx dy a) ≡ true =
    ap (λ (Z : Cells). set.contains Z (moved_cell dx dy a)) (sym e) ∙ member_moved dx dy X a first.live in
    let back : set.contains X (moved_cell (neg_ℤ dx) (neg_ℤ dy) b) ≡ true = sym (contains-moved dx dy X b)
    ∙ ap (λ (Z : Cells). set.contains Z b) e ∙ other.live in
    let down = other.rows (moved_cell dx dy a) there in
    let up = first.rows (moved_cell (neg_ℤ dx) (neg_ℤ dy) b) back in
    let row : dy ≡ b.row -ℤ a.row = omega (arith, ints, down, up) in
    let right = other.columns (moved_cell dx dy a) there (omega (arith, ints, row)) in
    let left = first.columns (moved_cell (neg_ℤ dx) (neg_ℤ dy) b) back (omega (arith, ints, row)) in
    (omega (arith, ints, left, right), row)

-- where a move makes Y of X, the move of the first cells covers, and so does its opposite
pub covers_there : (X Y : Cells) (a b : Cell) (there : ℤ × ℤ) (dx dy : ℤ) → IsFirst X a → IsFirst Y b
    → there.0 ≡ b.column -ℤ a.column → there.1 ≡ b.row -ℤ a.row → image (moved_cell dx dy) X ≡ Y → Covers X Y there
covers_there X Y a b there dx dy first other columns rows e = λ c h.
    let same = firsts_meet X Y a b dx dy first other e in
    (λ i. set.contains Y (moved_cell ((columns ∙ sym same.0) i) ((rows ∙ sym same.1) i) c))
    ∙ ap (λ (Z : Cells). set.contains Z (moved_cell dx dy c)) (sym e) ∙ member_moved dx dy X c h

pub covers_back : (X Y : Cells) (a b : Cell) (back : ℤ × ℤ) (dx dy : ℤ) → IsFirst X a → IsFirst Y b
    → back.0 ≡ a.column -ℤ b.column → back.1 ≡ a.row -ℤ b.row → image (moved_cell dx dy) X ≡ Y → Covers Y X back
covers_back X Y a b back dx dy first other columns rows e = λ c h.
    let same = firsts_meet X Y a b dx dy first other e in
    let column : back.0 ≡ neg_ℤ dx = omega (arith, ints, columns, same.0) in
    let row : back.1 ≡ neg_ℤ dy = omega (arith, ints, rows, same.1) in
    (λ i. set.contains X (moved_cell (column i) (row i) c)) ∙ sym (contains-moved dx dy X c)
    ∙ ap (λ (Z : Cells). set.contains Z c) e ∙ h
