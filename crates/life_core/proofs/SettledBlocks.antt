-- For blocks that no change reached, the rows before already have the next generation.
use Rattle.std.specs.Prelude.{◌≡◌, ◌⊎◌, ℕ, zero, suc, ◌+◌, ◌-◌, ◌*◌, ◌/◌, ◌<◌, ◌≤◌, false, List, length, refl}
use Rattle.std.proofs.Common.{get_or, sym, ap, subst, ◌∙◌, inl, inr, arith}
use Rattle.std.proofs.lemmas.Bool.{cases_lt}
use Rattle.std.specs.FinSet as set
use Rattle.life_core.specs.declared.packed.frame.Frame.{Frame}
use Rattle.life_core.specs.Rule.{RuleSets}
use Rattle.life_core.specs.Generations.{next}
use Rattle.life_core.specs.PackedRow.{one_if, place}
use Rattle.life_core.specs.PackedFrameState.{cell_in, framed}
use Rattle.life_core.specs.PackedBlocksState.{flat_next}
use Rattle.life_core.specs.PackedMarksState.{IsAdvanced, block_at, mark_at, place_at}
use Rattle.life_core.proofs.LanePlaces.{place_word}
use Rattle.life_core.proofs.BlockLines.{in_line}
use Rattle.life_core.proofs.FlatSteps.{HasDeadEdges}
use Rattle.life_core.proofs.BlockPlanes.{place_of, next_at, IsOfBlocks, block_place, block_is, IsLineBeside}
use Rattle.life_core.proofs.BlockPlanes.{IsColumnBeside, unchanged_beside, same_next}

module _ (N : ℕ → ℕ) (columns lines : ℕ) (marks nm old new : List ℕ)
    (guards : (j : ℕ) → (j < block_at columns 1 0) ⊎ (block_at columns (lines - 1) 0 ≤ j)
    → get_or new j 0 ≡ get_or old j 0)
    (steps : (y x : ℕ) → 1 ≤ y → y + 2 ≤ lines → x < columns → IsAdvanced N columns y x marks old new nm)
    (dead_old : HasDeadEdges (64 * (2 * columns)) (16 * lines) old)
    (dead_new : HasDeadEdges (64 * (2 * columns)) (16 * lines) new)
    (z c : ℕ) (within : c < columns)
    (idle : place nm (mark_at columns z c) ≡ 0)
  where
    same_block : (y x i p : ℕ) → y < lines → x < columns → i < 16 → p < 128 → IsLineBeside z y i
        → IsColumnBeside c x p → place new (place_at columns y x i p) ≡ place old (place_at columns y x i p)
    same_block y x i p low near row narrow line column = elim (cases_lt y 1) [
      | inl first ↦
          let e : y + 1 ≡ 1 = omega (arith, first) in
          let lt : place_at columns y x i p / 64 < block_at columns 1 0 =
          subst (λ (m : ℕ). place_at columns y x i p / 64 < block_at columns m 0) e
          (in_line columns y x i p near row narrow).1 in
          place_word new old (place_at columns y x i p) (guards (place_at columns y x i p / 64) (inl lt))
      | inr later ↦ elim (cases_lt (y + 1) lines) [
        | inl before ↦
            unchanged_beside N columns z c y x i p marks nm old new
            (steps y x later (omega arith) near) row narrow line column idle
        | inr last ↦
            let e : y ≡ lines - 1 = omega (arith, last, low) in
            let le : block_at columns (lines - 1) 0 ≤ place_at columns y x i p / 64 =
            subst (λ (m : ℕ). block_at columns m 0 ≤ place_at columns y x i p / 64) e
            (in_line columns y x i p near row narrow).0 in
            place_word new old (place_at columns y x i p) (guards (place_at columns y x i p / 64) (inr le))
      ]
    ]

    -- the places of row i of line y at, before and after place p of column c
    own : (y i p : ℕ) → y < lines → i < 16 → p < 128 → IsLineBeside z y i
        → place new ((16 * y + i) * (64 * (2 * columns)) + (128 * c + p))
        ≡ place old ((16 * y + i) * (64 * (2 * columns)) + (128 * c + p))
    own y i p low row narrow line =
        let e = place_of columns y c i p in
        ap (place new) e ∙ same_block y c i p low within row narrow line (inl refl) ∙ ap (place old) (sym e)

    left : (y i d p : ℕ) → d ≡ c → y < lines → 1 ≤ 16 * y + i → i < 16 → p < 128
        → IsLineBeside z y i → place new ((16 * y + i) * (64 * (2 * columns)) + (128 * c + p) - 1)
        ≡ place old ((16 * y + i) * (64 * (2 * columns)) + (128 * c + p) - 1)
    left y i d (suc p) is low later row narrow line =
        let e : (16 * y + i) * (64 * (2 * columns)) + (128 * c + suc p) - 1
        ≡ (16 * y + i) * (64 * (2 * columns)) + (128 * c + p) = omega arith in
        ap (place new) e ∙ own y i p low row (omega arith) line ∙ ap (place old) (sym e)
    left y i (suc d) zero is low later row narrow line =
        let e : (16 * y + i) * (64 * (2 * columns)) + (128 * c + 0) - 1 ≡ place_at columns y d i 127 =
        (let f : (16 * y + i) * (64 * (2 * columns)) + (128 * c + 0) - 1 ≡ (16 * y + i) * (64 * (2 * columns))
        + (128 * d + 127) = omega (arith, is) in f ∙ place_of columns y d i 127) in
        ap (place new) e ∙ same_block y d i 127 low (omega (arith, is, within)) row (omega arith) line
        (inr (inr (omega (arith, is), refl))) ∙ ap (place old) (sym e)
    left y i zero zero is low later row narrow line =
        let W : ℕ = 64 * (2 * columns) in
        let Y : ℕ = 16 * y + i in
        let up : (Y - 1) * W + W ≡ Y * W = (let one : (Y - 1) + 1 ≡ Y = omega (arith, later) in
        (let f : (Y - 1) * W + W ≡ ((Y - 1) + 1) * W = omega arith in f) ∙ ap (λ (m : ℕ). m * W) one) in
        let e : Y * W + (128 * c + 0) - 1 ≡ (Y - 1) * W + (W - 1) = omega (arith, up, is, within) in
        let inside : Y - 1 < 16 * lines = omega (arith, low, row) in
        ap (place new) e ∙ dead_new.last (Y - 1) inside ∙ sym (ap (place old) e ∙ dead_old.last (Y - 1) inside)

    right : (y i p : ℕ) → y < lines → 16 * y + i + 1 < 16 * lines → i < 16 → p < 128
        → IsLineBeside z y i → place new ((16 * y + i) * (64 * (2 * columns)) + (128 * c + p) + 1)
        ≡ place old ((16 * y + i) * (64 * (2 * columns)) + (128 * c + p) + 1)
    right y i p low later row narrow line = elim (cases_lt (p + 1) 128) [
      | inl more ↦
          let e : (16 * y + i) * (64 * (2 * columns)) + (128 * c + p) + 1
          ≡ (16 * y + i) * (64 * (2 * columns)) + (128 * c + (p + 1)) = omega arith in
          ap (place new) e ∙ own y i (p + 1) low row more line ∙ ap (place old) (sym e)
      | inr last ↦ elim (cases_lt (c + 1) columns) [
        | inl more ↦
            let e : (16 * y + i) * (64 * (2 * columns)) + (128 * c + p) + 1 ≡ place_at columns y (c + 1) i 0 =
            (let f : (16 * y + i) * (64 * (2 * columns)) + (128 * c + p) + 1 ≡ (16 * y + i) * (64 * (2 * columns))
            + (128 * (c + 1) + 0) = omega (arith, last, narrow) in f ∙ place_of columns y (c + 1) i 0) in
            ap (place new) e ∙ same_block y (c + 1) i 0 low more row (omega arith) line (inr (inl (refl, refl)))
            ∙ ap (place old) (sym e)
        | inr end ↦
            let W : ℕ = 64 * (2 * columns) in
            let Y : ℕ = 16 * y + i in
            let e : Y * W + (128 * c + p) + 1 ≡ (Y + 1) * W =
            (let f : (Y + 1) * W ≡ Y * W + W = omega arith in omega (arith, f, last, narrow, end, within)) in
            ap (place new) e ∙ dead_new.first (Y + 1) later ∙ sym (ap (place old) e ∙ dead_old.first (Y + 1) later)
      ]
    ]

    -- the row above, and the row below
    above : (i : ℕ) → 1 ≤ z → i < 16 → (P : ℕ → Type 0)
        → ((y j : ℕ) → y ≤ z → j < 16 → IsLineBeside z y j → 16 * y + j + 1 ≡ 16 * z + i → P (16 * y + j))
        → P (16 * z + i - 1)
    above zero some row P by =
        let e : 16 * (z - 1) + 15 ≡ 16 * z + 0 - 1 = omega (arith, some) in
        subst P e (by (z - 1) 15 (omega arith) (omega arith) (inr (inr (omega (arith, some), refl)))
        (omega (arith, some)))
    above (suc i) some row P by =
        let e : 16 * z + i ≡ 16 * z + suc i - 1 = omega arith in
        subst P e (by z i (omega arith) (omega arith) (inl refl) (omega arith))

    below : (i : ℕ) → i < 16 → (P : ℕ → Type 0)
        → ((y j : ℕ) → y ≤ z + 1 → j < 16 → IsLineBeside z y j → 16 * y + j ≡ 16 * z + i + 1 → P (16 * y + j))
        → P (16 * z + i + 1)
    below i row P by = elim (cases_lt (i + 1) 16) [
      | inl more ↦
          let e : 16 * z + (i + 1) ≡ 16 * z + i + 1 = omega arith in
          subst P e (by z (i + 1) (omega arith) more (inl refl) (omega arith))
      | inr last ↦
          let e : 16 * (z + 1) + 0 ≡ 16 * z + i + 1 = omega (arith, last, row) in
          subst P e (by (z + 1) 0 (omega arith) (omega arith) (inr (inl (refl, refl))) (omega (arith, last, row)))
    ]

    -- a place's next is the same in both
    pub next_stays : (r : RuleSets) (i p : ℕ) → 1 ≤ z → z + 2 ≤ lines → i < 16
        → p < 128 → flat_next r new (64 * (2 * columns)) (place_at columns z c i p)
        ≡ flat_next r old (64 * (2 * columns)) (place_at columns z c i p)
    next_stays r i p first last row narrow =
        let W : ℕ = 64 * (2 * columns) in
        let Y : ℕ = 16 * z + i in
        let X : ℕ = 128 * c + p in
        let up : (Y - 1) * W + W ≡ Y * W = (let one : (Y - 1) + 1 ≡ Y = omega (arith, first) in
        (let f : (Y - 1) * W + W ≡ ((Y - 1) + 1) * W = omega arith in f) ∙ ap (λ (m : ℕ). m * W) one) in
        let down : (Y + 1) * W ≡ Y * W + W = omega arith in
        let same =
        λ (q s : ℕ) (e : q ≡ s) (h : place new q ≡ place old q). subst (λ (m : ℕ). place new m ≡ place old m) e h in
        subst (λ (q : ℕ). flat_next r new W q ≡ flat_next r old W q) (place_of columns z c i p)
        (same_next r W (Y * W + X) old new
        (same ((Y - 1) * W + X - 1) (Y * W + X - W - 1) (omega (arith, up))
        (above i first row (λ (m : ℕ). place new (m * W + X - 1) ≡ place old (m * W + X - 1)) (λ y j le small line is.
        left y j c p refl (omega (arith, le, last)) (omega (arith, is, first)) small narrow line)))
        (same ((Y - 1) * W + X) (Y * W + X - W) (omega (arith, up)) (above i first row (λ (m : ℕ). place new (m * W + X)
        ≡ place old (m * W + X)) (λ y j le small line is. own y j p (omega (arith, le, last)) small narrow line)))
        (same ((Y - 1) * W + X + 1) (Y * W + X - W + 1) (omega (arith, up))
        (above i first row (λ (m : ℕ). place new (m * W + X + 1) ≡ place old (m * W + X + 1)) (λ y j le small line is.
        right y j p (omega (arith, le, last)) (omega (arith, is, last, row)) small narrow line)))
        (left z i c p refl (omega (arith, last)) (omega (arith, first)) row narrow (inl refl))
        (own z i p (omega (arith, last)) row narrow (inl refl))
        (right z i p (omega (arith, last)) (omega (arith, last, row)) row narrow (inl refl))
        (same ((Y + 1) * W + X - 1) (Y * W + X + W - 1) (omega (arith, down))
        (below i row (λ (m : ℕ). place new (m * W + X - 1) ≡ place old (m * W + X - 1))
        (λ y j le small line is. left y j c p refl (omega (arith, le, last)) (omega (arith, is)) small narrow line)))
        (same ((Y + 1) * W + X) (Y * W + X + W) (omega (arith, down)) (below i row (λ (m : ℕ). place new (m * W + X)
        ≡ place old (m * W + X)) (λ y j le small line is. own y j p (omega (arith, le, last)) small narrow line)))
        (same ((Y + 1) * W + X + 1) (Y * W + X + W + 1) (omega (arith, down))
        (below i row (λ (m : ℕ). place new (m * W + X + 1) ≡ place old (m * W + X + 1)) (λ y j le small line is.
        right y j p (omega (arith, le, last)) (omega (arith, is, last, row)) small narrow line))))

    -- so where rows follows old, it has the block's next already
    pub settled_block : (f : Frame) (r : RuleSets) (rows : List ℕ) → IsOfBlocks f columns lines → set.contains r.birth 0
        ≡ false → f.height * f.words ≡ length rows → f.height * f.words ≡ length old → f.height * f.words ≡ length new
        → HasDeadEdges (64 * f.words) f.height old → HasDeadEdges (64 * f.words) f.height new
        → framed f rows ≡ next r (framed f old)
        → (i p : ℕ) → 1 ≤ z → z + 2 ≤ lines → i < 16 → p < 128
        → place rows (place_at columns z c i p) ≡ next_at f r new z c i p
    settled_block f r rows of quiet size size_old size_new edges_old edges_new follows i p first last row narrow =
        block_place f columns lines rows of size z c i p (omega (arith, last)) within row narrow
        ∙ ap (λ X. one_if (set.contains X (cell_in f.left f.top (128 * c + p) (16 * z + i)))) follows
        ∙ sym (block_is f columns lines r old of quiet size_old edges_old z c i p first last within row narrow)
        ∙ sym (next_stays r i p first last row narrow)
        ∙ block_is f columns lines r new of quiet size_new edges_new z c i p first last within row narrow
