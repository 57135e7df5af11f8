-- Taking the clusters out of a set, one after another.
use Rattle.std.specs.Prelude.{◌≡◌, ℕ, zero, suc, ◌+◌, ◌<◌, ◌≤◌, pos, ◌+ℤ◌, ◌≤ℤ◌, true, false, List, [], ◌∷◌, ◌++◌}
use Rattle.std.specs.Prelude.{length, refl, ◌⊎◌}
use Rattle.std.proofs.Common.{sym, ap, subst, ◌∙◌, inl, inr, get_or, arith}
use Rattle.std.specs.declared.cmp.Ordering.TheVariants.{Less}
use Rattle.std.proofs.lemmas.Bool.{false≢true, cases_Bool, cases_lt}
use Rattle.std.proofs.lemmas.Int.{ints}
use Rattle.std.proofs.lemmas.List.{get_or_default}
use Rattle.std.proofs.lemmas.List.Sorted.{All-permutation}
use Rattle.std.specs.List.Sorted.{IsPermutation}
use Rattle.std.specs.List.{All, AllByRecursion}
use Rattle.std.specs.FinSet as set
use Rattle.life_core.specs.declared.cell.Cell.{Cell}
use Rattle.life_core.specs.declared.cell.TheConstants.{PLANE}
use Rattle.life_core.specs.Cell.{cell_cmp, IsCellWithin}
use Rattle.life_core.specs.Pattern.{Cells, IsWithin, in_order}
use Rattle.life_code.proofs.ApartNear.{near_symmetric}
use Rattle.life_code.proofs.ApartUnions.{IsIn}
use Rattle.life_code.specs.Apart.{near}
use Rattle.life_core.specs.declared.runs.Run.{Run}
use Rattle.life_census.specs.Cluster.{IsChain, AreJoined, IsCluster, IsBefore, AreInOrder, AreClustersOf}
use Rattle.life_core.specs.Runs.{runs_cells, cells_in, first_cell, last_cell, IsInRun, IsRun, IsRunBefore}
use Rattle.life_core.specs.Runs.{AreRunsInOrder}
use Rattle.life_census.specs.FloodState.{IsClear, IsFlood, IsKept, AreKept}
use Rattle.life_census.proofs.ClusterLaws.{joined_trans, joined_back, near_stays, one_cluster, contains_from_in, all_in}
use Rattle.life_core.proofs.RunsLaws.{in_some, in_any, none_in, comes_first, first_in_run, set_of_runs}
use Rattle.life_core.proofs.RunsLaws.{cells_in-permuted}
use Rattle.life_core.proofs.PatternOrder.{from_list_of}
use Rattle.life_census.proofs.FloodLaws.{in_kept}

-- Ps are the first parts of X, and L is what is left of X
pub record IsParting (X : Cells) (Ps : List Cells) (L : Cells) : Type 0 where
  pub each : AllByRecursion (IsCluster X) Ps
  pub covers : (c : Cell) → set.contains X c ≡ true
      → ((P : Cells) × IsIn Ps P × (set.contains P c ≡ true)) ⊎ (set.contains L c ≡ true)
  pub inside : (c : Cell) → set.contains L c ≡ true → set.contains X c ≡ true
  pub fresh : AllByRecursion (λ P. (c : Cell) → set.contains P c ≡ true → set.contains L c ≡ false) Ps
  pub ascend : AreInOrder Ps
  pub before : AllByRecursion (λ P. IsBefore P L) Ps

pub parting_begins : (X : Cells) → IsParting X [] X
parting_begins X = record { each = tt; covers = λ c h. inr h; inside = λ c h. h; fresh = tt; ascend = tt; before = tt }

in_push : (Ps : List Cells) (Q P : Cells) → IsIn Ps P → IsIn (Ps ++ Q ∷ []) P
in_push [] Q P h = absurd h
in_push (R ∷ Rs) Q P h = elim h [ inl same ↦ inl same | inr rest ↦ inr (in_push Rs Q P rest) ]

in_last : (Ps : List Cells) (Q : Cells) → IsIn (Ps ++ Q ∷ []) Q
in_last [] Q = inl refl
in_last (R ∷ Rs) Q = inr (in_last Rs Q)

all_push : (F : Cells → Type 0) (Ps : List Cells) (Q : Cells) → AllByRecursion F Ps → F Q
    → AllByRecursion F (Ps ++ Q ∷ [])
all_push F [] Q all q = (q, tt)
all_push F (P ∷ Ps) Q all q = (all.0, all_push F Ps Q all.1 q)

all_weaker : (F G : Cells → Type 0) → ((P : Cells) → F P → G P) → (Ps : List Cells) → AllByRecursion F Ps
    → AllByRecursion G Ps
all_weaker F G weaker [] all = tt
all_weaker F G weaker (P ∷ Ps) all = (weaker P all.0, all_weaker F G weaker Ps all.1)

order_push : (Ps : List Cells) (Q : Cells) → AreInOrder Ps → AllByRecursion (λ P. IsBefore P Q) Ps
    → AreInOrder (Ps ++ Q ∷ [])
order_push [] Q order before = (tt, tt)
order_push (P ∷ Ps) Q order before = (all_push (IsBefore P) Ps Q order.0 before.0, order_push Ps Q order.1 before.1)

pub chain_in_more : (L X : Cells) → ((c : Cell) → set.contains L c ≡ true → set.contains X c ≡ true)
    → (c d : Cell) (es : List Cell) → IsChain L c es d → IsChain X c es d
chain_in_more L X more c d [] h = h
chain_in_more L X more c d (e ∷ es) h = (more e h.0, h.1, chain_in_more L X more e d es h.2)

before_fewer : (P L M : Cells) → ((c : Cell) → set.contains M c ≡ true → set.contains L c ≡ true)
    → IsBefore P L → IsBefore P M
before_fewer P L M fewer p = (p.0, p.1, λ d h. p.2 d (fewer d h))

module _ (X : Cells) (Ps : List Cells) (L : Cells) (p : IsParting X Ps L) (start : Cell) (P M : Cells)
    (f : IsFlood L start P M) (clear : IsClear P M) where
  from_start : (c : Cell) → set.contains P c ≡ true → AreJoined X start c
  from_start c h = let j = f.joined c h in (j.0, chain_in_more L X p.inside start c j.0 j.1)

  nobody_near : (c d : Cell) → set.contains P c ≡ true → set.contains X d ≡ true → set.contains P d ≡ false
      → near c d ≡ true → false ≡ true
  nobody_near c d h there other close = elim (p.covers d there) [
    | inl found ↦
        let back = near_stays X found.0 (all_in (IsCluster X) Ps found.0 p.each found.1) d c found.2
        (p.inside c (f.taken c h)) (near_symmetric d c ∙ close) in
        sym (all_in (λ P. (e : Cell) → set.contains P e ≡ true → set.contains L e ≡ false)
        Ps found.0 p.fresh found.1 c back) ∙ f.taken c h
    | inr live ↦ elim (f.split d live) [
      | inl here ↦ sym other ∙ here
      | inr there ↦ sym (clear c d h close) ∙ there
    ]
  ]

  -- the cells that were taken are a part
  pub flood_is_part : IsCluster X P
  flood_is_part = record {
    inside = λ c h. p.inside c (f.taken c h);
    cell = (start, f.begins);
    joined =
        λ c d h k. joined_trans X c start d
        (joined_back X start c (p.inside start (f.taken start f.begins)) (from_start c h)) (from_start d k);
    apart = λ c d h there other. elim (cases_Bool (near c d)) [
      | inl close ↦ absurd (false≢true (nobody_near c d h there other close))
      | inr far ↦ far
    ];
  }

  pub parting_goes_on : ((d : Cell) → set.contains M d ≡ true → cell_cmp start d ≡ Less) → IsParting X (Ps ++ P ∷ []) M
  parting_goes_on least = record {
    each = all_push (IsCluster X) Ps P p.each flood_is_part;
    covers = λ c h. elim (p.covers c h) [
      | inl found ↦ inl (found.0, in_push Ps P found.0 found.1, found.2)
      | inr live ↦ elim (f.split c live) [
        | inl here ↦ inl (P, in_last Ps P, here)
        | inr there ↦ inr there
      ]
    ];
    inside = λ c h. p.inside c (f.kept c h);
    fresh = all_push _ Ps P (all_weaker _ _ (λ P fresh c h. fewer c (fresh c h)) Ps p.fresh) f.fresh;
    ascend = order_push Ps P p.ascend (all_weaker _ _ (λ Q before. before_fewer Q L P f.taken before) Ps p.before);
    before =
        all_push _ Ps P (all_weaker _ _ (λ Q before. before_fewer Q L M f.kept before) Ps p.before)
        (start, f.begins, least);
  }
    where
      fewer : (c : Cell) → set.contains L c ≡ false → set.contains M c ≡ false
      fewer c h = elim (cases_Bool (set.contains M c)) [
        | inl live ↦ absurd (false≢true (sym h ∙ f.kept c live))
        | inr dead ↦ dead
      ]

-- nothing is left
pub parting_ends : (X : Cells) (Ps : List Cells) (L : Cells) → IsParting X Ps L
    → ((c : Cell) → set.contains L c ≡ false) → AreClustersOf X Ps
parting_ends X Ps L p none = record {
  each = p.each;
  all = λ P part. elim (p.covers part.cell.0 (part.inside part.cell.0 part.cell.1)) [
    | inl found ↦
        let same : found.0 ≡ P = one_cluster X found.0 P part.cell.0
        (all_in (IsCluster X) Ps found.0 p.each found.1) part found.2 part.cell.1 in
        contains_from_in Ps P (subst (IsIn Ps) same found.1)
    | inr live ↦ absurd (false≢true (sym (none part.cell.0) ∙ live))
  ];
  covers = λ c h. elim (p.covers c h) [
    | inl found ↦ (found.0, contains_from_in Ps found.0 found.1, found.2)
    | inr live ↦ absurd (false≢true (sym (none c) ∙ live))
  ];
  ascend = p.ascend;
}

-- ---- by runs

-- what is left after a run that was taken comes after the run's first cell
pub left_after : (L M : List Run) (i : ℕ) (e : Run) → AreRunsInOrder L → i < length L → 1 ≤ (get_or L i e).len
    → ((k : ℕ) (d : Run) → k < i → (get_or L k d).len ≡ 0) → AreKept L M
    → set.contains (cells_in M) (first_cell (get_or L i e)) ≡ false → (d : Cell) → set.contains (cells_in M) d ≡ true
    → cell_cmp (first_cell (get_or L i e)) d ≡ Less
left_after L M i e order low some past kept gone d h =
    let found = in_some M d h in go found.0 found.1 found.2 found.3 found.4 (cases_lt found.0 i)
  where
    r : Run
    r = get_or L i e

    by_place : (k : ℕ) (s : Run) → k < length M → get_or M k s ≡ s → IsInRun s d → (i < k) ⊎ (k ≤ i)
        → i ≤ k → cell_cmp (first_cell r) d ≡ Less
    by_place k s short at in_s (inl behind) after =
        let high : k < length L = let same = kept.length in omega arith in
        let in_L : IsInRun (get_or L k s) d =
        in_kept _ _ d (kept.each k s) (subst (λ (t : Run). IsInRun t d) (sym at) in_s) in
        let before : IsRunBefore r (get_or L k s) =
        subst (λ (t : Run). IsRunBefore t (get_or L k s)) (get_or_default L i s e low) (order i k s behind high) in
        comes_first (first_cell r) d (elim before [
          | inl above ↦ inl (let row = in_L.row in omega (arith, ints))
          | inr left ↦ inr (left.0 ∙ sym in_L.row, let p = left.1 in let q = in_L.low in omega (arith, ints))
        ])
    by_place k s short at in_s (inr same) after =
        let one : k ≡ i = omega arith in
        let kept_i : IsKept r (get_or M i e) = kept.each i e in
        let in_M : IsInRun (get_or M i e) d = subst (λ (t : Run). IsInRun t d)
        (sym at ∙ ap (λ n. get_or M n s) one ∙ get_or_default M i s e (let high = short in omega arith)) in_s in
        let first : IsInRun (get_or M i e) (first_cell r) = record {
          row = sym kept_i.row;
          low = let p = kept_i.first in omega (arith, ints);
          high = let p = kept_i.first in let low = in_M.low in let high = in_M.high in omega (arith, ints);
        } in
        absurd (false≢true (sym gone ∙ in_any M i e (first_cell r) (let high = short in omega arith) first))

    go : (k : ℕ) (s : Run) → k < length M → get_or M k s ≡ s → IsInRun s d → (k < i) ⊎ (i ≤ k)
        → cell_cmp (first_cell r) d ≡ Less
    go k s short at in_s (inl before) =
        let none = past k s before in
        let fewer = (kept.each k s).len in
        let in_M : IsInRun (get_or M k s) d = subst (λ (t : Run). IsInRun t d) (sym at) in_s in
        let low = in_M.low in
        let high = in_M.high in
        absurd (omega (arith, ints))
    go k s short at in_s (inr after) = by_place k s short at in_s (cases_lt i k) after

-- where all runs are empty, no cell is left
pub none_left : (L : List Run) (i : ℕ) → length L ≤ i → ((k : ℕ) (d : Run) → k < i → (get_or L k d).len ≡ 0)
    → (c : Cell) → set.contains (cells_in L) c ≡ false
none_left L i end past c = none_in L c (λ k r low at inside.
    let none : r.len ≡ 0 = ap (λ (s : Run). s.len) (sym at) ∙ past k r (omega arith) in
    let p = inside.low in
    let q = inside.high in
    omega (arith, ints))

-- one more place is past
pub past_more : (L M : List Run) (i : ℕ) (e : Run) → i < length M → ((k : ℕ) (d : Run) → k < i → (get_or L k d).len ≡ 0)
    → AreKept L M → (get_or M i e).len ≡ 0
    → (k : ℕ) (d : Run) → k < i + 1 → (get_or M k d).len ≡ 0
past_more L M i e low past kept here k d h = elim (cases_lt k i) [
  | inl before ↦ let none = past k d before in let fewer = (kept.each k d).len in omega arith
  | inr after ↦
      let one : k ≡ i = omega arith in
      ap (λ n. (get_or M n d).len) one ∙ ap (λ (s : Run). s.len) (get_or_default M i d e low) ∙ here
]

-- the place of the start is past where its cell is gone
pub start_gone : (L M : List Run) (i : ℕ) (e : Run) → i < length M → AreKept L M
    → set.contains (cells_in M) (first_cell (get_or L i e)) ≡ false → (get_or M i e).len ≡ 0
start_gone L M i e low kept gone = go (get_or M i e).len refl
  where
    go : (n : ℕ) → (get_or M i e).len ≡ n → (get_or M i e).len ≡ 0
    go zero is = is
    go (suc n) is =
        let k = kept.each i e in
        let first = k.first in
        absurd (false≢true (sym gone ∙ in_any M i e (first_cell (get_or L i e)) low
        (record { row = sym k.row; low = omega (arith, ints); high = omega (arith, ints) })))

-- ---- the runs of the field, and those of a cluster

-- the cells of X in order, by runs
pub field_is : (X : Cells) (left rs : List Run) → left ≡ rs → runs_cells rs ≡ in_order X → cells_in left ≡ X
field_is X left rs same cells = ap cells_in same ∙ sym (set_of_runs rs) ∙ from_list_of X (runs_cells rs) cells

-- what was taken lies where X does
pub taken_within : (X : Cells) (Ps : List Cells) (L : Cells) (start : Cell) (P M : Cells) → IsParting X Ps L
    → IsFlood L start P M → IsWithin PLANE X → IsWithin PLANE P
taken_within X Ps L start P M p f room c here = room c (p.inside c (f.taken c here))

-- a run that can be put at the end of a list of cells
pub record CanBePut (r : Run) : Type 0 where
  pub run : IsRun r
  pub end : (r.first +ℤ pos r.len) ≤ℤ pos 1100000001

-- the runs of a cluster can, in any order
pub can_be_put : (rs ss : List Run) → IsPermutation rs ss → All (λ r. 1 ≤ r.len) rs → IsWithin PLANE (cells_in rs)
    → All CanBePut ss
can_be_put rs ss sorted filled room i d low =
    let r = get_or ss i d in
    let some : 1 ≤ r.len = All-permutation (λ (s : Run). 1 ≤ s.len) rs ss sorted filled i d low in
    let first = inside (first_cell r) (first_in_run r some) in
    let last = inside (last_cell r) (record {
      row = refl;
      low = omega (arith, ints, some);
      high = omega (arith, ints, some);
    }) in
    record {
      run = record { some = some; from = omega (arith, ints, first.left) };
      end = omega (arith, ints, last.right);
    }
  where
    inside : (c : Cell) → IsInRun (get_or ss i d) c → IsCellWithin PLANE c
    inside c h = room c (ap (λ (X : Cells). set.contains X c) (cells_in-permuted rs ss sorted) ∙ in_any ss i d c low h)

-- their cells are those of the cluster
pub put_all : (rs ss : List Run) (cells : List Cell) → IsPermutation rs ss → cells ≡ runs_cells ss
    → set.from_list cells ≡ cells_in rs
put_all rs ss cells sorted same = ap set.from_list same ∙ set_of_runs ss ∙ sym (cells_in-permuted rs ss sorted)
