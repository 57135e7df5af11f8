-- The phases of a set form one cycle up to a move, and periods do not depend on the phase, a move or an orientation.
use Rattle.std.specs.Prelude.{◌≡◌, ℕ, zero, suc, ◌+◌, ◌-◌, ◌*◌, ◌/◌, ◌%◌, ◌<◌, ◌≤◌, ◌&&◌, true, pos, ◌*ℤ◌}
use Rattle.std.proofs.Common.{sym, ap, ◌∙◌, subst, arith, add-zero, add-suc}
use Rattle.std.proofs.lemmas.Bool.{and_parts}
use Rattle.std.proofs.Math.IntN.{suc_ℤ-*ℤ, zero-*ℤ}
use Rattle.std.specs.FinSet as set
use Rattle.life_core.specs.declared.cell.Cell.{Cell}
use Rattle.life_core.specs.declared.orientation.Orientation.{Orientation}
use Rattle.life_core.specs.declared.orientation.Orientation.TheVariants.{O0}
use Rattle.life_core.specs.Cell.{cell_at}
use Rattle.life_core.specs.Generations.{next, generation_of}
use Rattle.life_core.specs.Orientation.{turned_cell}
use Rattle.life_core.specs.Pattern.{Cells, corner, normal}
use Rattle.life_core.specs.Rule.{RuleSets}
use Rattle.life_core.proofs.CellLemmas.{same_coordinates}
use Rattle.life_core.proofs.OrientationLemmas.{opposite}
use Rattle.life_core.proofs.PatternCorners.{normal-moved, same_normal}
use Rattle.life_core.proofs.PatternMembers.{cell_cmp_total, cells_by_members, same_answer}
use Rattle.life_core.proofs.Placements.{origin, minus, plus, after, moved, placed, placed_origin, placed-placed}
use Rattle.life_core.proofs.Placements.{placed_back, moved-placed, moved-moved, generation-placed}
use Rattle.life_code.specs.CodeLaws.{PhasesRepeat, PhasesDiffer}
use Rattle.life_code.specs.Period.{Returns, HasPeriod, same_cells, returns}

-- ---- whether two sets are one

pub same_cells-eq : (X Y : Cells) → same_cells X Y ≡ true → X ≡ Y
same_cells-eq X Y e =
    let both = and_parts (set.is_subset X Y) (set.is_subset Y X) e in
    cells_by_members X Y (λ c. same_answer _ _ (set.is_subset-contains cell_cmp_total X Y both.0 c)
    (set.is_subset-contains cell_cmp_total Y X both.1 c))

pub eq-same_cells : (X Y : Cells) → X ≡ Y → same_cells X Y ≡ true
eq-same_cells X Y e =
    ap (λ b. b && set.is_subset Y X)
    (set.contains-is_subset cell_cmp_total X Y (λ q h. subst (λ (Z : Cells). set.contains Z q ≡ true) e h))
    ∙ set.contains-is_subset cell_cmp_total Y X (λ q h. subst (λ (Z : Cells). set.contains Z q ≡ true) (sym e) h)

-- ---- returns

-- generation j + k is generation k of generation j
pub generation-add : (r : RuleSets) (X : Cells) (j k : ℕ)
    → generation_of r X (j + k) ≡ generation_of r (generation_of r X j) k
generation-add r X j zero = ap (generation_of r X) (add-zero j)
generation-add r X j (suc k) = ap (generation_of r X) (add-suc j k) ∙ ap (next r) (generation-add r X j k)

pub Returns-returns : (r : RuleSets) (X : Cells) (p : ℕ) (v : Cell) → Returns r X p v.column v.row
    → returns r X p ≡ true
unfolding returns
Returns-returns r X p v e =
    eq-same_cells (normal X) (normal (generation_of r X p)) (sym (ap normal e ∙ normal-moved X v))

pub returns-Returns : (r : RuleSets) (X : Cells) (p : ℕ) → returns r X p ≡ true
    → (v : Cell) × Returns r X p v.column v.row
unfolding returns
returns-Returns r X p e =
    let same = same_cells-eq (normal X) (normal (generation_of r X p)) e in
    (plus (minus (corner X)) (corner (generation_of r X p)), same_normal X (generation_of r X p) same)

-- n times the move v
abbrev pub many : ℕ → Cell → Cell
many n v = record { row = pos n *ℤ v.row; column = pos n *ℤ v.column }

many-zero : (v : Cell) → many 0 v ≡ origin
many-zero v = same_coordinates _ _ (zero-*ℤ v.row) (zero-*ℤ v.column)

pub many-suc : (n : ℕ) (v : Cell) → many (suc n) v ≡ plus (many n v) v
many-suc n v = same_coordinates _ _ (suc_ℤ-*ℤ (pos n) v.row) (suc_ℤ-*ℤ (pos n) v.column)

module _ (r : RuleSets) where
  pub generation-moved : (v : Cell) (X : Cells) (k : ℕ) → generation_of r (moved v X) k ≡ moved v (generation_of r X k)
  generation-moved v X k = generation-placed r O0 v X k

  pub return_of_phase : (X : Cells) (p : ℕ) (v : Cell) (k : ℕ) → Returns r X p v.column v.row
      → Returns r (generation_of r X k) p v.column v.row
  return_of_phase X p v k e =
      sym (generation-add r X k p) ∙ ap (generation_of r X) (comm k p) ∙ generation-add r X p k
      ∙ ap (λ Z. generation_of r Z k) e ∙ generation-moved v X k
    where
      comm : (k p : ℕ) → k + p ≡ p + k
      comm k p = omega arith

  pub return_of_placed : (X : Cells) (p : ℕ) (w : Cell) (o : Orientation) (v : Cell) → Returns r X p w.column w.row
      → Returns r (placed o v X) p (turned_cell o w).column (turned_cell o w).row
  return_of_placed X p w o v e = generation-placed r o v X p ∙ ap (placed o v) e ∙ sym (moved-placed w o v X)

  -- each multiple of a return is one
  pub return_of_multiple : (X : Cells) (p : ℕ) (v : Cell) → Returns r X p v.column v.row → (n : ℕ)
      → Returns r X (n * p) (many n v).column (many n v).row
  return_of_multiple X p v e zero =
      ap (generation_of r X) (times_zero p) ∙ sym (placed_origin X) ∙ ap (λ u. moved u X) (sym (many-zero v))
    where
      times_zero : (p : ℕ) → 0 * p ≡ 0
      times_zero p = omega arith
  return_of_multiple X p v e (suc n) =
      ap (generation_of r X) (times_suc n p) ∙ generation-add r X p (n * p) ∙ ap (λ Z. generation_of r Z (n * p)) e
      ∙ generation-moved v X (n * p)
      ∙ ap (moved v) (return_of_multiple X p v e n) ∙ moved-moved v (many n v) X
      ∙ ap (λ u. moved u X) (sym (many-suc n v))
    where
      times_suc : (n p : ℕ) → suc n * p ≡ p + n * p
      times_suc n p = omega arith

  -- each generation is one of the first p, moved
  pub phase_mod : (X : Cells) (p : ℕ) (v : Cell) → 1 ≤ p → Returns r X p v.column v.row → (i : ℕ)
      → generation_of r X i ≡ moved (many (i / p) v) (generation_of r X (i % p))
  phase_mod X p v h e i =
      ap (generation_of r X) (split i p h) ∙ generation-add r X ((i / p) * p) (i % p)
      ∙ ap (λ Z. generation_of r Z (i % p)) (return_of_multiple X p v e (i / p))
      ∙ generation-moved (many (i / p) v) X (i % p)
    where
      split : (i p : ℕ) → 1 ≤ p → i ≡ (i / p) * p + i % p
      split i p h = omega arith

  -- from each phase the set comes back, moved
  pub back_to_start : (X : Cells) (p : ℕ) (v : Cell) → 1 ≤ p → Returns r X p v.column v.row
      → (k : ℕ) → (m : ℕ) × (u : Cell) × (generation_of r (generation_of r X k) m ≡ moved u X)
  back_to_start X p v h e k = (
    k * p - k,
    many k v,
    sym (generation-add r X k (k * p - k)) ∙ ap (generation_of r X) (rest k p h) ∙ return_of_multiple X p v e k,
  )
    where
      rest : (k p : ℕ) → 1 ≤ p → k + (k * p - k) ≡ k * p
      rest k p h = grind arith

  pub return_from_placed : (X : Cells) (q : ℕ) (w : Cell) (o : Orientation) (v : Cell)
      → Returns r (placed o v X) q w.column w.row
      → Returns r X q (turned_cell (opposite o) w).column (turned_cell (opposite o) w).row
  return_from_placed X q w o v e =
      let back = turned_cell (opposite o) w in
      subst (λ Z. Returns r Z q back.column back.row) (placed_back o v X)
      (return_of_placed (placed o v X) q w (opposite o) (turned_cell (opposite o) (minus v)) e)

  pub return_from_phase : (X : Cells) (p : ℕ) (v : Cell) → 1 ≤ p → Returns r X p v.column v.row
      → (k q : ℕ) (w : Cell) → Returns r (generation_of r X k) q w.column w.row → Returns r X q w.column w.row
  return_from_phase X p v h e k q w back =
      let start = back_to_start X p v h e k in
      let there : Returns r (moved start.1 X) q w.column w.row =
      subst (λ Z. Returns r Z q w.column w.row) start.2 (return_of_phase (generation_of r X k) q w start.0 back) in
      return_from_placed X q w O0 start.1 there

  -- ---- periods

  -- the period is that of each phase
  pub period_of_phase : (X : Cells) (p : ℕ) (v : Cell) (k : ℕ) → HasPeriod r X p v.column v.row
      → HasPeriod r (generation_of r X k) p v.column v.row
  period_of_phase X p v k (h, e, first) = (
    h,
    return_of_phase X p v k e,
    λ q from below ex ey back. first q from below ex ey (return_from_phase X p v h e k q (cell_at (ex, ey)) back),
  )

  -- the period is that of each placement, and the move is turned
  pub period_of_placed : (X : Cells) (p : ℕ) (w : Cell) (o : Orientation) (v : Cell) → HasPeriod r X p w.column w.row
      → HasPeriod r (placed o v X) p (turned_cell o w).column (turned_cell o w).row
  period_of_placed X p w o v (h, e, first) = (
    h,
    return_of_placed X p w o v e,
    λ q from below ex ey back.
        let u = turned_cell (opposite o) (cell_at (ex, ey)) in
        first q from below u.column u.row (return_from_placed X q (cell_at (ex, ey)) o v back),
  )

  -- ---- sets that are one but for the phase, an orientation and a move

  -- a placement takes some phase of Y to X
  abbrev pub Taken : Cells → Cells → Type 0
  Taken X Y = (i : ℕ) × (o : Orientation) × (s : Cell) × (placed o s (generation_of r Y i) ≡ X)

  -- two such sets return at the same generations
  pub return_alike : (X Y : Cells) (p : ℕ) (v : Cell) → 1 ≤ p → Returns r Y p v.column v.row
      → Taken X Y → (q : ℕ) → returns r X q ≡ returns r Y q
  return_alike X Y p v h e (i, o, s, taken) q = same_answer _ _ there here
    where
      there : returns r X q ≡ true → returns r Y q ≡ true
      there passes =
          let back = returns-Returns r X q passes in
          let turned = turned_cell (opposite o) back.0 in
          let phase : Returns r (generation_of r Y i) q turned.column turned.row = return_from_placed
          (generation_of r Y i) q back.0 o s (subst (λ Z. Returns r Z q back.0.column back.0.row) (sym taken) back.1) in
          Returns-returns r Y q turned (return_from_phase Y p v h e i q turned phase)

      here : returns r Y q ≡ true → returns r X q ≡ true
      here passes =
          let back = returns-Returns r Y q passes in
          let turned = turned_cell o back.0 in
          Returns-returns r X q turned (subst (λ Z. Returns r Z q turned.column turned.row) taken
          (return_of_placed (generation_of r Y i) q back.0 o s (return_of_phase Y q back.0 i back.1)))

  -- to be taken is an equivalence of sets that return
  pub taken_itself : (X : Cells) → Taken X X
  taken_itself X = (0, O0, origin, placed_origin X)

  pub taken_on : (X Y Z : Cells) → Taken X Y → Taken Y Z → Taken X Z
  taken_on X Y Z (i, o, s, e) (j, u, t, h) = (
    j + i,
    after o u,
    plus (turned_cell o t) s,
    sym (placed-placed o s u t (generation_of r Z (j + i)))
        ∙ ap (λ W. placed o s (placed u t W)) (generation-add r Z j i)
        ∙ ap (placed o s) (sym (generation-placed r u t (generation_of r Z j) i) ∙ ap (λ W. generation_of r W i) h)
        ∙ e,
  )

  pub taken_back : (X Y : Cells) (p : ℕ) (v : Cell) → 1 ≤ p → Returns r Y p v.column v.row → Taken X Y → Taken Y X
  taken_back X Y p v h e (i, o, s, taken) =
      let start = back_to_start Y p v h e i in
      let t : Cell = plus (turned_cell o start.1) s in
      let there : generation_of r X start.0 ≡ placed (after o O0) t Y =
      ap (λ Z. generation_of r Z start.0) (sym taken) ∙ generation-placed r o s (generation_of r Y i) start.0
      ∙ ap (placed o s) start.2 ∙ placed-placed o s O0 start.1 Y in (
        start.0,
        opposite (after o O0),
        turned_cell (opposite (after o O0)) (minus t),
        ap (placed (opposite (after o O0)) (turned_cell (opposite (after o O0)) (minus t))) there
            ∙ placed_back (after o O0) t Y,
      )

  -- and the phase may be taken from the first p
  pub taken_below : (X Y : Cells) (p : ℕ) (v : Cell) → 1 ≤ p → Returns r Y p v.column v.row
      → Taken X Y → (t : Taken X Y) × (t.0 < p)
  taken_below X Y p v h e (i, o, s, taken) =
      let there = many (i / p) v in (
        (
          i % p,
          after o O0,
          plus (turned_cell o there) s,
          sym (placed-placed o s O0 there (generation_of r Y (i % p)))
              ∙ ap (placed o s) (sym (phase_mod Y p v h e i)) ∙ taken,
        ),
        small i p h,
      )
    where
      small : (i p : ℕ) → 1 ≤ p → i % p < p
      small i p h = omega arith

  -- the period of the set that is taken
  pub period_taken : (X Y : Cells) (p : ℕ) (v : Cell) → HasPeriod r Y p v.column v.row → (t : Taken X Y)
      → HasPeriod r X p (turned_cell t.1 v).column (turned_cell t.1 v).row
  period_taken X Y p v is (i, o, s, taken) =
      let turned = turned_cell o v in
      subst (λ Z. HasPeriod r Z p turned.column turned.row) taken
      (period_of_placed (generation_of r Y i) p v o s (period_of_phase Y p v i is))

-- ---- the cycle of the phases

pub phases_repeat : PhasesRepeat
phases_repeat r X p dx dy (h, e, first) i =
    let there = many (i / p) (cell_at (dx, dy)) in
    (there.column, there.row, phase_mod r X p (cell_at (dx, dy)) h e i)

-- phase j is phase i again only if the set comes back in less than its period
pub phases_differ : PhasesDiffer
phases_differ r X p dx dy (h, e, first) i j less below ex ey same =
    let again : Returns r (generation_of r X i) (j - i) ex ey =
    sym (generation-add r X i (j - i)) ∙ ap (generation_of r X) (rest i j less) ∙ same in
    first (j - i) (omega arith) (omega arith) ex ey
    (return_from_phase r X p (cell_at (dx, dy)) h e i (j - i) (cell_at (ex, ey)) again)
  where
    rest : (i j : ℕ) → i < j → i + (j - i) ≡ j
    rest i j less = omega arith
