-- A generation of a frame of whole blocks, and the blocks that need no step because they have it already.
use Rattle.std.specs.Prelude.{◌≡◌, ◌⊎◌, ℕ, zero, suc, ◌+◌, ◌-◌, ◌*◌, ◌<◌, ◌≤◌, false, List, length, nat_eq, refl}
use Rattle.std.proofs.Common.{sym, ap, subst, ◌∙◌, inl, inr, arith}
use Rattle.std.specs.FinSet as set
use Rattle.life_core.specs.declared.packed.frame.Frame.{Frame}
use Rattle.life_core.specs.Rule.{RuleSets, lives_at}
use Rattle.life_core.specs.Generations.{next}
use Rattle.life_core.specs.PackedRow.{one_if, place}
use Rattle.life_core.specs.PackedFrameState.{cell_in, framed}
use Rattle.life_core.specs.PackedBlocksState.{flat_next}
use Rattle.life_core.specs.PackedMarksState.{IsMarked, AreNeighboursMarked, IsAdvanced, mark_at, place_at}
use Rattle.life_core.proofs.LanePlaces.{place-lt}
use Rattle.life_core.proofs.PackedCells.{place_is_live}
use Rattle.life_core.proofs.FlatSteps.{HasDeadEdges, flat_is}

-- the block of a place in a row
pub place_of : (columns z c i p : ℕ) → (16 * z + i) * (64 * (2 * columns)) + (128 * c + p) ≡ place_at columns z c i p
place_of columns z c i p = omega arith

-- a frame of so many lines and columns of blocks
pub record IsOfBlocks (f : Frame) (columns lines : ℕ) : Type 0 where
  pub wide : f.words ≡ 2 * columns
  pub tall : f.height ≡ 16 * lines
  pub some : 0 < columns

bit_is : (b : ℕ) → b < 2 → one_if (nat_eq b 1) ≡ b
bit_is zero lt = refl
bit_is (suc zero) lt = refl
bit_is (suc (suc b)) lt = absurd (omega arith)

-- a place of a block says whether its cell is live
pub block_place : (f : Frame) (columns lines : ℕ) (rows : List ℕ) → IsOfBlocks f columns lines
    → f.height * f.words ≡ length rows
    → (z c i p : ℕ) → z < lines → c < columns → i < 16 → p < 128 → place rows (place_at columns z c i p)
    ≡ one_if (set.contains (framed f rows) (cell_in f.left f.top (128 * c + p) (16 * z + i)))
block_place f columns lines rows of size z c i p low within row narrow =
    let W : 64 * f.words ≡ 64 * (2 * columns) = ap (λ (w : ℕ). 64 * w) of.wide in
    let at : (16 * z + i) * (64 * f.words) + (128 * c + p) ≡ place_at columns z c i p =
    ap (λ (w : ℕ). (16 * z + i) * w + (128 * c + p)) W ∙ place_of columns z c i p in
    let q : ℕ = (16 * z + i) * (64 * f.words) + (128 * c + p) in
    ap (place rows) (sym at) ∙ sym (bit_is (place rows q) (place-lt rows q))
    ∙ ap one_if (sym (place_is_live f rows (omega (arith, of.wide, of.some)) size (128 * c + p)
    (16 * z + i) (omega (arith, of.wide, within, narrow)) (omega (arith, of.tall, low, row))))

-- whether a cell of a block is live next, as a number
abbrev pub next_at : Frame → RuleSets → List ℕ → ℕ → ℕ → ℕ → ℕ → ℕ
next_at f r rows z c i p =
    one_if (set.contains (next r (framed f rows)) (cell_in f.left f.top (128 * c + p) (16 * z + i)))

-- what the list's neighbours make of a place of a block is the next set's
pub block_is : (f : Frame) (columns lines : ℕ) (r : RuleSets) (rows : List ℕ) → IsOfBlocks f columns lines
    → set.contains r.birth 0 ≡ false → f.height * f.words ≡ length rows → HasDeadEdges (64 * f.words) f.height rows
    → (z c i p : ℕ) → 1 ≤ z → z + 2 ≤ lines → c < columns → i < 16 → p < 128
    → flat_next r rows (64 * (2 * columns)) (place_at columns z c i p) ≡ next_at f r rows z c i p
block_is f columns lines r rows of quiet size dead z c i p first last within row narrow =
    let W : 64 * f.words ≡ 64 * (2 * columns) = ap (λ (w : ℕ). 64 * w) of.wide in
    let at : (16 * z + i) * (64 * f.words) + (128 * c + p) ≡ place_at columns z c i p =
    ap (λ (w : ℕ). (16 * z + i) * w + (128 * c + p)) W ∙ place_of columns z c i p in
    (λ t. flat_next r rows (sym W t) (sym at t))
    ∙ flat_is f rows (omega (arith, of.wide, of.some)) size dead r quiet (128 * c + p) (16 * z + i)
    (omega (arith, of.wide, within, narrow)) (omega (arith, first)) (omega (arith, of.tall, last, row))

-- a block that was stepped has its next, and so has one that was not, where it had it already
pub block_done : (f : Frame) (columns lines : ℕ) (r : RuleSets) (rows old new marks nm : List ℕ)
    → IsOfBlocks f columns lines → set.contains r.birth 0 ≡ false → f.height * f.words ≡ length rows
    → HasDeadEdges (64 * f.words) f.height rows
    → (z c i p : ℕ) → 1 ≤ z → z + 2 ≤ lines → c < columns → i < 16 → p < 128
    → (place marks (mark_at columns z c) ≡ 0 → place old (place_at columns z c i p) ≡ next_at f r rows z c i p)
    → IsAdvanced (flat_next r rows (64 * (2 * columns))) columns z c marks old new nm
    → place new (place_at columns z c i p) ≡ next_at f r rows z c i p
block_done f columns lines r rows old new marks nm of quiet size dead z c i p first last within row narrow settled
    step =
    elim step [
      | inl s ↦
          s.next i p row narrow
          ∙ block_is f columns lines r rows of quiet size dead z c i p first last within row narrow
      | inr k ↦ k.kept i p row narrow ∙ settled k.unmarked
    ]

-- ---- which blocks are settled

-- a line that has a place next to one of line z
abbrev pub IsLineBeside : ℕ → ℕ → ℕ → Type 0
IsLineBeside z y i = (y ≡ z) ⊎ (((y ≡ z + 1) × (i ≡ 0)) ⊎ ((y + 1 ≡ z) × (i ≡ 15)))

-- a column of blocks that has a place next to one of column c
abbrev pub IsColumnBeside : ℕ → ℕ → ℕ → Type 0
IsColumnBeside c x p = (x ≡ c) ⊎ (((x ≡ c + 1) × (p ≡ 0)) ⊎ ((x + 1 ≡ c) × (p ≡ 127)))

-- what a change reaches is marked
pub reached : (columns z c y x i p : ℕ) (nm : List ℕ) → AreNeighboursMarked columns (mark_at columns y x) i p nm
    → IsLineBeside z y i → IsColumnBeside c x p → IsMarked nm (mark_at columns z c)
reached columns z c y x i p nm w (inl line) (inl column) =
    subst (IsMarked nm) (λ t. mark_at columns (line t) (column t)) w.own
reached columns z c y x i p nm w (inl line) (inr (inl e)) =
    let at : mark_at columns y x - 1 ≡ mark_at columns z c = (let up : mark_at columns y x - 1 ≡ mark_at columns y c =
    omega (arith, e.0) in up ∙ ap (λ (m : ℕ). mark_at columns m c) line) in
    subst (IsMarked nm) at (w.left e.1)
reached columns z c y x i p nm w (inl line) (inr (inr e)) =
    let at : mark_at columns y x + 1 ≡ mark_at columns z c = (let up : mark_at columns y x + 1 ≡ mark_at columns y c =
    omega (arith, e.0) in up ∙ ap (λ (m : ℕ). mark_at columns m c) line) in
    subst (IsMarked nm) at (w.right e.1)
reached columns z c y x i p nm w (inr (inl d)) (inl column) =
    let up : mark_at columns y x - columns ≡ mark_at columns z c =
    (let e : y * columns ≡ z * columns + columns = ap (λ (m : ℕ). m * columns) d.0
    ∙ (let f : (z + 1) * columns ≡ z * columns + columns = omega arith in f) in omega (arith, e, column)) in
    subst (IsMarked nm) up (w.above d.1)
reached columns z c y x i p nm w (inr (inl d)) (inr (inl b)) =
    let up : mark_at columns y x - columns - 1 ≡ mark_at columns z c =
    (let e : y * columns ≡ z * columns + columns = ap (λ (m : ℕ). m * columns) d.0
    ∙ (let f : (z + 1) * columns ≡ z * columns + columns = omega arith in f) in omega (arith, e, b.0)) in
    subst (IsMarked nm) up (w.above_left d.1 b.1)
reached columns z c y x i p nm w (inr (inl d)) (inr (inr b)) =
    let up : mark_at columns y x - columns + 1 ≡ mark_at columns z c =
    (let e : y * columns ≡ z * columns + columns = ap (λ (m : ℕ). m * columns) d.0
    ∙ (let f : (z + 1) * columns ≡ z * columns + columns = omega arith in f) in omega (arith, e, b.0)) in
    subst (IsMarked nm) up (w.above_right d.1 b.1)
reached columns z c y x i p nm w (inr (inr d)) (inl column) =
    let up : mark_at columns y x + columns ≡ mark_at columns z c =
    (let e : z * columns ≡ y * columns + columns = ap (λ (m : ℕ). m * columns) (sym d.0)
    ∙ (let f : (y + 1) * columns ≡ y * columns + columns = omega arith in f) in omega (arith, e, column)) in
    subst (IsMarked nm) up (w.below d.1)
reached columns z c y x i p nm w (inr (inr d)) (inr (inl b)) =
    let up : mark_at columns y x + columns - 1 ≡ mark_at columns z c =
    (let e : z * columns ≡ y * columns + columns = ap (λ (m : ℕ). m * columns) (sym d.0)
    ∙ (let f : (y + 1) * columns ≡ y * columns + columns = omega arith in f) in omega (arith, e, b.0)) in
    subst (IsMarked nm) up (w.below_left d.1 b.1)
reached columns z c y x i p nm w (inr (inr d)) (inr (inr b)) =
    let up : mark_at columns y x + columns + 1 ≡ mark_at columns z c =
    (let e : z * columns ≡ y * columns + columns = ap (λ (m : ℕ). m * columns) (sym d.0)
    ∙ (let f : (y + 1) * columns ≡ y * columns + columns = omega arith in f) in omega (arith, e, b.0)) in
    subst (IsMarked nm) up (w.below_right d.1 b.1)

-- a place beside a block that is not marked did not change
pub unchanged_beside : (N : ℕ → ℕ) (columns z c y x i p : ℕ) (marks nm old new : List ℕ)
    → IsAdvanced N columns y x marks old new nm → i < 16 → p < 128 → IsLineBeside z y i → IsColumnBeside c x p
    → place nm (mark_at columns z c) ≡ 0
    → place new (place_at columns y x i p) ≡ place old (place_at columns y x i p)
unchanged_beside N columns z c y x i p marks nm old new step row narrow line column idle = elim step [
  | inr k ↦ k.kept i p row narrow
  | inl s ↦ elim (s.marked i p row narrow) [
    | inl same ↦ same
    | inr w ↦ absurd (omega (arith, idle, reached columns z c y x i p nm w line column))
  ]
]

-- where the nine places round one are the same, so is its next
pub same_next : (r : RuleSets) (W q : ℕ) (old new : List ℕ)
    → place new (q - W - 1) ≡ place old (q - W - 1) → place new (q - W) ≡ place old (q - W)
    → place new (q - W + 1) ≡ place old (q - W + 1)
    → place new (q - 1) ≡ place old (q - 1) → place new q ≡ place old q → place new (q + 1) ≡ place old (q + 1)
    → place new (q + W - 1) ≡ place old (q + W - 1) → place new (q + W) ≡ place old (q + W)
    → place new (q + W + 1) ≡ place old (q + W + 1)
    → flat_next r new W q ≡ flat_next r old W q
same_next r W q old new a0 a1 a2 h0 h1 h2 b0 b1 b2 =
    λ t. one_if (lives_at r (nat_eq (h1 t) 1) ((a0 t + (a1 t + a2 t)) + ((h0 t + h2 t) + (b0 t + (b1 t + b2 t)))))
