-- How a flood grows, run by run.
use Rattle.std.specs.Prelude.{◌≡◌, ℕ, zero, suc, ◌+◌, ◌<◌, ◌≤◌, ℤ, pos, negsuc, nat_abs, ◌+ℤ◌, ◌-ℤ◌, ◌≤ℤ◌, ◌<ℤ◌, Bool}
use Rattle.std.specs.Prelude.{true, false, cond, List, [], ◌∷◌, ◌++◌, length, refl, ◌⊎◌}
use Rattle.std.proofs.Common.{sym, ap, subst, ◌∙◌, inl, inr, append_assoc, append-nil, length-append, get_or, set, take}
use Rattle.std.proofs.Common.{arith}
use Rattle.std.specs.Bool.{MatchBool}
use Rattle.std.proofs.lemmas.Bool.{false≢true, cases_Bool, cases_eq, cases_lt}
use Rattle.std.proofs.lemmas.List.Sums.{sum_by-set}
use Rattle.std.proofs.lemmas.Int.{ints, by_lt_z}
use Rattle.std.proofs.lemmas.List.{get_or-set_other, get_or-set_same, get_or_default, length_push, length-set}
use Rattle.std.proofs.lemmas.List.{take-append-le, get_or_append_left}
use Rattle.std.proofs.lemmas.List.Elements.{All-push, All-more, All-same, All-weaker, Contains-append_left}
use Rattle.std.specs.List.{All, Contains, count_by}
use Rattle.std.specs.FinSet as set_of
use Rattle.life_core.specs.declared.cell.Cell.{Cell}
use Rattle.life_core.specs.Pattern.{Cells}
use Rattle.life_core.proofs.CellLemmas.{same_coordinates}
use Rattle.life_code.proofs.ApartNear.{within_near, near_within}
use Rattle.life_code.specs.Apart.{within_two, near}
use Rattle.life_core.specs.declared.runs.Run.{Run}
use Rattle.life_census.specs.Cluster.{AreJoined}
use Rattle.life_core.specs.Runs.{cells_in, first_cell, IsInRun, IsBehind, IsAhead, IsRunBefore, AreRunsInOrder}
use Rattle.life_census.specs.FloodState.{emptied, is_filled, IsClear, IsFlood, IsRound, IsTaken}
use Rattle.life_census.specs.FloodState.{BeginsBefore, BeginsAtOrAfter}
use Rattle.life_census.specs.FloodState.{IsKept, AreKept, HasGrown}
use Rattle.life_census.proofs.NearLaws.{two_apart}
use Rattle.life_census.proofs.ClusterLaws.{joined_self, joined_then, joined_trans, joined_back}
use Rattle.life_core.proofs.RunsLaws.{in_some, in_any, none_in, push_cases, push_old, push_new, first_in_run}

-- ---- what keeps its place

pub kept_same : (rs : List Run) → AreKept rs rs
kept_same rs = record { length = refl; each = λ k d. record { row = refl; first = refl; len = omega arith } }

pub kept_trans : (rs ss ts : List Run) → AreKept rs ss → AreKept ss ts → AreKept rs ts
kept_trans rs ss ts p q = record {
  length = q.length ∙ p.length;
  each = λ k d.
      let a = p.each k d in
      let b = q.each k d in
      record {
        row = b.row ∙ a.row;
        first = b.first ∙ a.first;
        len = let low = a.len in let lower = b.len in omega arith;
      };
}

pub order_kept : (rs ss : List Run) → AreKept rs ss → AreRunsInOrder rs → AreRunsInOrder ss
order_kept rs ss kept order i j d before low =
    let a = kept.each i d in
    let b = kept.each j d in
    let short : j < length rs = let same = kept.length in omega arith in
    elim (order i j d before short) [
      | inl above ↦ inl (let p = a.row in let q = b.row in omega (arith, ints))
      | inr left ↦ inr (
        a.row ∙ left.0 ∙ sym b.row,
        let p = a.first in let q = b.first in let r = a.len in let s = left.1 in omega (arith, ints),
      )
    ]

-- a cell of what is kept of a run is a cell of the run
pub in_kept : (r s : Run) (c : Cell) → IsKept r s → IsInRun s c → IsInRun r c
in_kept r s c kept h =
    let p = kept.first in
    let q = kept.len in
    record {
      row = h.row ∙ kept.row;
      low = let low = h.low in omega (arith, ints);
      high = let high = h.high in omega (arith, ints);
    }

pub kept_fewer : (rs ss : List Run) (c : Cell) → AreKept rs ss → set_of.contains (cells_in ss) c ≡ true
    → set_of.contains (cells_in rs) c ≡ true
kept_fewer rs ss c kept h =
    let found = in_some ss c h in
    let low : found.0 < length ss = found.2 in
    let same = kept.length in
    in_any rs found.0 found.1 c (omega arith)
    (in_kept _ _ c (kept.each found.0 found.1) (subst (λ (r : Run). IsInRun r c) (sym found.3) found.4))

pub none_kept : (rs ss : List Run) (c : Cell) → AreKept rs ss → set_of.contains (cells_in rs) c ≡ false
    → set_of.contains (cells_in ss) c ≡ false
none_kept rs ss c kept none = elim (cases_Bool (set_of.contains (cells_in ss) c)) [
  | inl live ↦ absurd (false≢true (sym none ∙ kept_fewer rs ss c kept live))
  | inr dead ↦ dead
]

-- ---- cells of near runs

-- some cells of the runs are near, if both have cells
pub record AreClose (r s : Run) : Type 0 where
  pub rows_up : r.row ≤ℤ (s.row +ℤ pos 2)
  pub rows_down : s.row ≤ℤ (r.row +ℤ pos 2)
  pub left : s.first <ℤ ((r.first +ℤ pos r.len) +ℤ pos 2)
  pub right : r.first <ℤ ((s.first +ℤ pos s.len) +ℤ pos 2)

-- two near cells, one of each run
record NearCells (r s : Run) : Type 0 where
  p : Cell
  q : Cell
  in_r : IsInRun r p
  in_s : IsInRun s q
  close : near p q ≡ true

near_cells : (r s : Run) (a b : ℤ) → AreClose r s → r.first ≤ℤ a → a <ℤ (r.first +ℤ pos r.len)
    → s.first ≤ℤ b → b <ℤ (s.first +ℤ pos s.len) → a ≤ℤ (b +ℤ pos 2) → b ≤ℤ (a +ℤ pos 2) → NearCells r s
near_cells r s a b close low_a high_a low_b high_b up down = record {
  p = record { row = r.row; column = a };
  q = record { row = s.row; column = b };
  in_r = record { row = refl; low = low_a; high = high_a };
  in_s = record { row = refl; low = low_b; high = high_b };
  close = within_near _ _ (record {
    rows_up = close.rows_up;
    rows_down = close.rows_down;
    columns_up = up;
    columns_down = down;
  });
}

close_cells : (r s : Run) → AreClose r s → 1 ≤ r.len → 1 ≤ s.len → NearCells r s
close_cells r s close some_r some_s =
    let left = close.left in
    let right = close.right in
    by_lt_z s.first r.first
    (λ before. by_lt_z r.first (s.first +ℤ pos s.len)
    (λ over. near_cells r s r.first r.first close (omega (arith, ints)) (omega (arith, ints))
    (omega (arith, ints)) over (omega (arith, ints)) (omega (arith, ints)))
    (λ past. near_cells r s r.first ((s.first +ℤ pos s.len) -ℤ pos 1) close (omega (arith, ints))
    (omega (arith, ints)) (omega (arith, ints)) (omega (arith, ints)) (omega (arith, ints)) (omega (arith, ints))))
    (λ after. by_lt_z s.first (r.first +ℤ pos r.len)
    (λ over. near_cells r s s.first s.first close after over (omega (arith, ints)) (omega (arith, ints))
    (omega (arith, ints)) (omega (arith, ints)))
    (λ past. near_cells r s ((r.first +ℤ pos r.len) -ℤ pos 1) s.first close (omega (arith, ints))
    (omega (arith, ints)) (omega (arith, ints)) (omega (arith, ints)) (omega (arith, ints)) (omega (arith, ints))))

-- ---- the cells of a run are joined

forward : (X : Cells) (r : Run) → ((c : Cell) → IsInRun r c → set_of.contains X c ≡ true) → (n : ℕ) (a b : Cell)
    → IsInRun r a → IsInRun r b → b.column ≡ a.column +ℤ pos n → AreJoined X a b
forward X r all zero a b p q e =
    subst (AreJoined X a) (same_coordinates a b (p.row ∙ sym q.row) (omega (arith, ints))) (joined_self X a)
forward X r all (suc n) a b p q e =
    let low = p.low in
    let high = q.high in
    let m : Cell = record { row = r.row; column = a.column +ℤ pos n } in
    let here : IsInRun r m = record { row = refl; low = omega (arith, ints); high = omega (arith, ints) } in
    let row = q.row in
    joined_then X a m b (forward X r all n a m p here refl) (all b q)
    (within_near m b (record {
      rows_up = omega (arith, ints);
      rows_down = omega (arith, ints);
      columns_up = omega (arith, ints);
      columns_down = omega (arith, ints);
    }))

not_negative : (z : ℤ) → pos 0 ≤ℤ z → z ≡ pos (nat_abs z)
not_negative (pos n) h = refl
not_negative (negsuc n) h = absurd (omega (arith, ints))

pub run_joined : (X : Cells) (r : Run) → ((c : Cell) → IsInRun r c → set_of.contains X c ≡ true)
    → (a b : Cell) → IsInRun r a → IsInRun r b → AreJoined X a b
run_joined X r all a b p q =
    by_lt_z b.column a.column (λ back. joined_back X b a (all b q) (go b a q p (omega (arith, ints))))
    (λ on. go a b p q on)
  where
    go : (a b : Cell) → IsInRun r a → IsInRun r b → a.column ≤ℤ b.column → AreJoined X a b
    go a b p q low =
        let n = nat_abs (b.column -ℤ a.column) in
        let gap : (b.column -ℤ a.column) ≡ pos n = not_negative (b.column -ℤ a.column) (omega (arith, ints)) in
        forward X r all n a b p q (omega (arith, ints))

-- ---- one run goes

apart : (r s : Run) (c : Cell) → IsRunBefore r s → IsInRun r c → IsInRun s c → ⊥
apart r s c (inl above) p q = let a = p.row in let b = q.row in omega (arith, ints)
apart r s c (inr left) p q = let a = p.high in let b = q.low in let e = left.1 in omega (arith, ints)

module _ (L : List Run) (i : ℕ) (r : Run) (order : AreRunsInOrder L) (low : i < length L)
    (item : r ≡ get_or L i r) where
  abbrev M : List Run
  M = set L i (emptied r)

  other : (k : ℕ) (s : Run) → (k ≡ i → ⊥) → get_or M k s ≡ get_or L k s
  other k s differs = get_or-set_other L i k (emptied r) s differs

  here : (s : Run) → get_or M i s ≡ emptied r
  here s = get_or-set_same L i (emptied r) s low

  own : (s : Run) → get_or L i s ≡ r
  own s = get_or_default L i s r low ∙ sym item

  short : (k : ℕ) → k < length M → k < length L
  short k h = let same : length M ≡ length L = length-set L i (emptied r) in omega arith

  only_one : (k : ℕ) (s : Run) (c : Cell) → k < length L → (k ≡ i → ⊥) → get_or L k s ≡ s → IsInRun s c
      → IsInRun r c → ⊥
  only_one k s c high differs at p q = elim (cases_lt k i) [
    | inl before ↦
        apart s r c (subst (λ (t : Run). IsRunBefore t r) at (subst (IsRunBefore (get_or L k s))
        (own s) (order k i s before low))) p q
    | inr after ↦
        let behind : i < k = elim (cases_lt i k) [ inl more ↦ more | inr less ↦ absurd (differs (omega arith)) ] in
        apart r s c (subst (IsRunBefore r) at (subst (λ (t : Run). IsRunBefore t (get_or L k s))
        (own s) (order i k s behind high))) q p
  ]

  pub gone_after : (c : Cell) → set_of.contains (cells_in M) c ≡ true
      → (set_of.contains (cells_in L) c ≡ true) × (IsInRun r c → ⊥)
  gone_after c h = let f = in_some M c h in go f.0 f.1 f.2 f.3 f.4 (cases_eq f.0 i)
    where
      go : (k : ℕ) (s : Run) → k < length M → get_or M k s ≡ s → IsInRun s c → (k ≡ i) ⊎ (k ≡ i → ⊥)
          → (set_of.contains (cells_in L) c ≡ true) × (IsInRun r c → ⊥)
      go k s high at in_s (inl same) =
          let e : s ≡ emptied r = sym at ∙ ap (λ n. get_or M n s) same ∙ here s in
          let inside : IsInRun (emptied r) c = subst (λ (t : Run). IsInRun t c) e in_s in
          let a = inside.low in
          let b = inside.high in
          absurd (omega (arith, ints))
      go k s high at in_s (inr differs) =
          let old : get_or L k s ≡ s = sym (other k s differs) ∙ at in (
            in_any L k s c (short k high) (subst (λ (t : Run). IsInRun t c) (sym old) in_s),
            only_one k s c (short k high) differs old in_s,
          )

  pub gone_or_left : (c : Cell) → set_of.contains (cells_in L) c ≡ true
      → IsInRun r c ⊎ (set_of.contains (cells_in M) c ≡ true)
  gone_or_left c h = let f = in_some L c h in go f.0 f.1 f.2 f.3 f.4 (cases_eq f.0 i)
    where
      go : (k : ℕ) (s : Run) → k < length L → get_or L k s ≡ s → IsInRun s c → (k ≡ i) ⊎ (k ≡ i → ⊥)
          → IsInRun r c ⊎ (set_of.contains (cells_in M) c ≡ true)
      go k s high at in_s (inl same) =
          inl (subst (λ (t : Run). IsInRun t c) (sym at ∙ ap (λ n. get_or L n s) same ∙ own s) in_s)
      go k s high at in_s (inr differs) =
          inr (in_any M k s c (let same : length M ≡ length L = length-set L i (emptied r) in omega arith)
          (subst (λ (t : Run). IsInRun t c) (sym (other k s differs ∙ at)) in_s))

  pub run_inside : (c : Cell) → IsInRun r c → set_of.contains (cells_in L) c ≡ true
  run_inside c h = in_any L i r c low (subst (λ (t : Run). IsInRun t c) item h)

  pub run_gone : (c : Cell) → IsInRun r c → set_of.contains (cells_in M) c ≡ false
  run_gone c h = elim (cases_Bool (set_of.contains (cells_in M) c)) [
    | inl live ↦ absurd ((gone_after c live).1 h)
    | inr dead ↦ dead
  ]

  pub gone_kept : AreKept L M
  gone_kept = record { length = length-set L i (emptied r); each = λ k d. go k d (cases_eq k i) }
    where
      go : (k : ℕ) (d : Run) → (k ≡ i) ⊎ (k ≡ i → ⊥) → IsKept (get_or L k d) (get_or M k d)
      go k d (inl same) =
          let old : get_or L k d ≡ r = ap (λ n. get_or L n d) same ∙ own d in
          let new : get_or M k d ≡ emptied r = ap (λ n. get_or M n d) same ∙ here d in
          rw (old, new) (record { row = refl; first = refl; len = omega arith })
      go k d (inr differs) = rw (other k d differs) (record { row = refl; first = refl; len = omega arith })

  -- a flood begins
  pub flood_begins : 1 ≤ r.len → IsFlood (cells_in L) (first_cell r) (cells_in (r ∷ [])) (cells_in M)
  flood_begins some = record {
    begins = push_new [] r (first_cell r) (first_in_run r some);
    taken = λ c h. elim (push_cases [] r c h) [ inl old ↦ absurd (nothing c old) | inr new ↦ run_inside c new ];
    kept = λ c h. (gone_after c h).0;
    split = λ c h. elim (gone_or_left c h) [ inl new ↦ inl (push_new [] r c new) | inr rest ↦ inr rest ];
    fresh = λ c h. elim (push_cases [] r c h) [ inl old ↦ absurd (nothing c old) | inr new ↦ run_gone c new ];
    joined = λ c h. elim (push_cases [] r c h) [
      | inl old ↦ absurd (nothing c old)
      | inr new ↦ run_joined (cells_in L) r run_inside (first_cell r) c (first_in_run r some) new
    ];
  }
    where
      nothing : (c : Cell) → set_of.contains (cells_in []) c ≡ true → ⊥
      nothing c h = let f = in_some [] c h in let none : f.0 < 0 = f.2 in omega arith

  -- a flood continues
  pub flood_goes_on : (s : Run) (K : List Run) → AreClose s r → 1 ≤ r.len → (X : Cells) (start : Cell)
      → 1 ≤ s.len → Contains K s
      → IsFlood X start (cells_in K) (cells_in L) → IsFlood X start (cells_in (K ++ r ∷ [])) (cells_in M)
  flood_goes_on s K close some_r X start some_s member f = record {
    begins = push_old K r start f.begins;
    taken = λ c h. elim (push_cases K r c h) [ inl old ↦ f.taken c old | inr new ↦ inside c new ];
    kept = λ c h. f.kept c (gone_after c h).0;
    split = λ c h. elim (f.split c h) [
      | inl old ↦ inl (push_old K r c old)
      | inr rest ↦ elim (gone_or_left c rest) [ inl new ↦ inl (push_new K r c new) | inr left ↦ inr left ]
    ];
    fresh = λ c h. elim (push_cases K r c h) [ inl old ↦ still_none c (f.fresh c old) | inr new ↦ run_gone c new ];
    joined = λ c h. elim (push_cases K r c h) [
      | inl old ↦ f.joined c old
      | inr new ↦
          let pair = close_cells s r close some_s some_r in
          let in_K : set_of.contains (cells_in K) pair.p ≡ true =
          in_any K member.0 s pair.p member.1 (subst (λ (t : Run). IsInRun t pair.p) (sym member.2) pair.in_r) in
          joined_trans X start pair.q c (joined_then X start pair.p pair.q (f.joined pair.p in_K)
          (inside pair.q pair.in_s) pair.close) (run_joined X r inside pair.q c pair.in_s new)
    ];
  }
    where
      inside : (c : Cell) → IsInRun r c → set_of.contains X c ≡ true
      inside c h = f.kept c (run_inside c h)

      still_none : (c : Cell) → set_of.contains (cells_in L) c ≡ false → set_of.contains (cells_in M) c ≡ false
      still_none c none = none_kept L M c gone_kept none

-- ---- how far a flood has come

pub grown_none : (s : Run) (L K : List Run) → HasGrown s L K L K
grown_none s L K = record {
  more = ([], sym (append-nil K));
  kept = kept_same L;
  as_many = refl;
  filled = λ all. all;
  flood = λ X start some member f. f;
}

pub grown_trans : (s : Run) (L M N : List Run) (K P Q : List Run) → HasGrown s L K M P → HasGrown s M P N Q
    → HasGrown s L K N Q
grown_trans s L M N K P Q g h = record {
  more = (
    g.more.0 ++ h.more.0,
    h.more.1 ∙ ap (λ (xs : List Run). xs ++ h.more.0) g.more.1 ∙ append_assoc K g.more.0 h.more.0,
  );
  kept = kept_trans L M N g.kept h.kept;
  as_many = h.as_many ∙ g.as_many;
  filled = λ all. h.filled (g.filled all);
  flood =
      λ X start some member f. h.flood X start some (subst (λ (rs : List Run). Contains rs s)
      (sym g.more.1) (Contains-append_left K g.more.0 s member)) (g.flood X start some member f);
}

abbrev one_if_filled : Run → ℕ
one_if_filled r = cond (is_filled r) 1 0

one_less : (L : List Run) (i : ℕ) (r : Run) → i < length L → r ≡ get_or L i r → 1 ≤ r.len
    → count_by is_filled (set L i (emptied r)) + 1 ≡ count_by is_filled L
one_less L i r low item some =
    let step = sum_by-set one_if_filled L i (emptied r) r low in
    let one : one_if_filled (get_or L i r) ≡ 1 = ap one_if_filled (sym item) ∙ filled_one r.len some in
    omega (arith, step, one)
  where
    filled_one : (n : ℕ) → 1 ≤ n → one_if_filled (record { row = pos 0; first = pos 0; len = n }) ≡ 1
    filled_one zero h = absurd (omega arith)
    filled_one (suc n) h = refl

pub grown_one : (s r : Run) (L K : List Run) (i : ℕ) → AreRunsInOrder L → i < length L → r ≡ get_or L i r
    → AreClose s r → 1 ≤ r.len → HasGrown s L K (set L i (emptied r)) (K ++ r ∷ [])
grown_one s r L K i order low item close some = record {
  more = (r ∷ [], refl);
  kept = gone_kept L i r order low item;
  as_many = let less = one_less L i r low item some in let more = length_push K r in omega arith;
  filled = λ all. All-push (λ (t : Run). 1 ≤ t.len) K r all some;
  flood = flood_goes_on L i r order low item s K close some;
}

-- a run is taken, if it has a cell
pub grown_taken : (s r : Run) (L K M N : List Run) (i : ℕ) → AreRunsInOrder L → i < length L
    → r ≡ get_or L i r → AreClose s r → IsTaken r i L K M N → HasGrown s L K M N
grown_taken s r L K M N i order low item close (inl none) = rw (none.1, none.2) (grown_none s L K)
grown_taken s r L K M N i order low item close (inr some) =
    rw (some.1, some.2) (grown_one s r L K i order low item close some.0)

pub taken_empty : (r : Run) (L K M N : List Run) (i : ℕ) (d : Run) → i < length L → r ≡ get_or L i r
    → IsTaken r i L K M N → (get_or M i d).len ≡ 0
taken_empty r L K M N i d low item (inl none) =
    ap (λ (xs : List Run). (get_or xs i d).len) none.1
    ∙ ap (λ (s : Run). s.len) (get_or_default L i d r low ∙ sym item) ∙ none.0
taken_empty r L K M N i d low item (inr some) =
    ap (λ (xs : List Run). (get_or xs i d).len) some.1 ∙ ap (λ (s : Run). s.len) (get_or-set_same L i (emptied r) d low)

-- the runs at other places stay
pub taken_other : (r : Run) (L K M N : List Run) (i k : ℕ) (d : Run) → (k ≡ i → ⊥) → IsTaken r i L K M N
    → get_or M k d ≡ get_or L k d
taken_other r L K M N i k d differs (inl none) = ap (λ (xs : List Run). get_or xs k d) none.1
taken_other r L K M N i k d differs (inr some) =
    ap (λ (xs : List Run). get_or xs k d) some.1 ∙ get_or-set_other L i k (emptied r) d differs

-- ---- round a run

-- no cell of a run that ends before the columns round r is round r
pub none_behind : (r s : Run) (row row' from : ℤ) (c : Cell) → IsBehind s row' from → row' ≡ row
    → from ≡ r.first -ℤ pos 2 → IsRound r c → c.row ≡ row → IsInRun s c → ⊥
none_behind r s row row' from c (inl above) here is round on inside = let a = inside.row in omega (arith, ints)
none_behind r s row row' from c (inr left) here is round on inside =
    let a = left.1 in let b = inside.high in let e = round.left in omega (arith, ints)

-- a run that reaches into the columns round r, in a row round it, is close to it
pub close_in_row : (r s : Run) (row rowA rowB from to : ℤ) → IsAhead s rowA from → BeginsBefore s rowB to
    → within_two r.row row ≡ true → rowA ≡ row → rowB ≡ row → from ≡ r.first -ℤ pos 2
    → to ≡ (r.first +ℤ pos r.len) +ℤ pos 2 → AreClose r s
close_in_row r s row rowA rowB from to (inl below) (inl above) rows a b low high = absurd (omega (arith, ints))
close_in_row r s row rowA rowB from to (inl below) (inr begins) rows a b low high =
    absurd (let e = begins.0 in omega (arith, ints))
close_in_row r s row rowA rowB from to (inr ends) (inl above) rows a b low high =
    absurd (let e = ends.0 in omega (arith, ints))
close_in_row r s row rowA rowB from to (inr ends) (inr begins) rows a b low high =
    let apart = two_apart r.row row rows in
    let up = apart.0 in
    let down = apart.1 in
    let on = ends.0 in
    let p = ends.1 in
    let q = begins.1 in
    record {
      rows_up = omega (arith, ints);
      rows_down = omega (arith, ints);
      left = omega (arith, ints);
      right = omega (arith, ints);
    }

-- nor is a cell of a run from a place on, where that place's run begins after those columns
pub none_beyond : (r : Run) (L : List Run) (i k : ℕ) (d e : Run) (row to : ℤ) (c : Cell) → AreRunsInOrder L
    → BeginsAtOrAfter (get_or L i d) row to → i ≤ k → k < length L → to ≡ (r.first +ℤ pos r.len) +ℤ pos 2
    → IsRound r c → c.row ≡ row → IsInRun (get_or L k e) c → ⊥
none_beyond r L i k d e row to c order beyond after low is round on inside = elim (cases_lt i k) [
  | inl later ↦ go (get_or L k d) (next (get_or L k d) beyond (order i k d later low)) here
  | inr same ↦
      let one : k ≡ i = omega arith in go (get_or L i d) beyond (subst (λ n. IsInRun (get_or L n d) c) one here)
]
  where
    here : IsInRun (get_or L k d) c
    here = subst (λ (s : Run). IsInRun s c) (get_or_default L k e d low) inside

    go : (s : Run) → BeginsAtOrAfter s row to → IsInRun s c → ⊥
    go s (inl below) h = let a = h.row in omega (arith, ints)
    go s (inr right) h = let a = right.1 in let b = h.low in let e = round.right in omega (arith, ints)

    next : (s : Run) → BeginsAtOrAfter (get_or L i d) row to → IsRunBefore (get_or L i d) s → BeginsAtOrAfter s row to
    next s (inl p) (inl q) = inl (omega (arith, ints))
    next s (inl p) (inr q) = inl (let e = q.0 in omega (arith, ints))
    next s (inr p) (inl q) = inl (let e = p.0 in omega (arith, ints))
    next s (inr p) (inr q) = inr (sym q.0 ∙ p.0, let a = p.1 in let b = q.1 in omega (arith, ints))

-- what holds before a place, and at it
pub clear_past : (r : Run) (L M : List Run) (i : ℕ) (row : ℤ) → AreKept L M
    → ((k : ℕ) (d : Run) (c : Cell) → k < i → IsRound r c → c.row ≡ row → IsInRun (get_or L k d) c → ⊥)
    → ((d : Run) → (get_or M i d).len ≡ 0)
    → (k : ℕ) (d : Run) (c : Cell) → k < i + 1 → IsRound r c → c.row ≡ row → IsInRun (get_or M k d) c → ⊥
clear_past r L M i row kept clear empty k d c before round on inside = elim (cases_lt k i) [
  | inl less ↦ clear k d c less round on (in_kept (get_or L k d) (get_or M k d) c (kept.each k d) inside)
  | inr same ↦
      let one : k ≡ i = omega arith in
      let none : (get_or M k d).len ≡ 0 = ap (λ n. (get_or M n d).len) one ∙ empty d in
      let a = inside.low in
      let b = inside.high in
      omega (arith, ints)
]

-- ---- one run after another

-- no cell of M is round r
abbrev pub IsClearRound : List Run → Run → Type 0
IsClearRound M r = (c : Cell) → IsRound r c → set_of.contains (cells_in M) c ≡ false

pub clear_more : (r : Run) (L M K N : List Run) (i : ℕ) → HasGrown r L K M N → i < length K
    → r ≡ get_or K i r → All (IsClearRound L) (take i K) → IsClearRound M r → All (IsClearRound M) (take (i + 1) N)
clear_more r L M K N i g low item all clear =
    let long : length N ≡ length K + length g.more.0 = ap length g.more.1 ∙ length-append K g.more.0 in
    let front : take i N ≡ take i K = ap (take i) g.more.1 ∙ take-append-le i K g.more.0 (omega arith) in
    let at : get_or N i r ≡ get_or K i r = ap (λ xs. get_or xs i r) g.more.1 ∙ get_or_append_left K g.more.0 r i low in
    All-more (IsClearRound M) N i r (omega arith)
    (All-same (IsClearRound M) _ _ front
    (All-weaker (IsClearRound L) (IsClearRound M) (λ s h c round. none_kept L M c g.kept (h c round)) (take i K) all))
    (subst (IsClearRound M) (item ∙ sym at) clear)

pub as_long : (r : Run) (L M K N : List Run) → HasGrown r L K M N → length K ≤ length N
as_long r L M K N g =
    let long : length N ≡ length K + length g.more.0 = ap length g.more.1 ∙ length-append K g.more.0 in omega arith

near_round : (r : Run) (c d : Cell) → IsInRun r c → near c d ≡ true → IsRound r d
near_round r c d inside close =
    let w = near_within c d close in
    let row = inside.row in
    let low = inside.low in
    let high = inside.high in
    let a = w.rows_up in
    let b = w.rows_down in
    let p = w.columns_up in
    let q = w.columns_down in
    record {
      rows_up = omega (arith, ints);
      rows_down = omega (arith, ints);
      left = omega (arith, ints);
      right = omega (arith, ints);
    }

pub all_clear : (N M : List Run) → All (IsClearRound M) N → IsClear (cells_in N) (cells_in M)
all_clear N M all c d h close =
    let f = in_some N c h in all f.0 f.1 f.2 d (near_round _ c d (subst (λ (s : Run). IsInRun s c) (sym f.3) f.4) close)

-- the first run of a flood
pub record HasBegun (L : List Run) (i : ℕ) (M N : List Run) : Type 0 where
  pub kept : AreKept L M
  pub filled : All (λ s. 1 ≤ s.len) N
  pub flood : (d : Run) → IsFlood (cells_in L) (first_cell (get_or L i d)) (cells_in N) (cells_in M)

pub has_begun : (L K M N : List Run) (i : ℕ) (r : Run) → AreRunsInOrder L → i < length L
    → ((d : Run) → 1 ≤ (get_or L i d).len) → r ≡ get_or L i r → K ≡ [] → IsTaken r i L K M N → HasBegun L i M N
has_begun L K M N i r order low some item start (inl none) =
    absurd (let full : 1 ≤ r.len = subst (λ (s : Run). 1 ≤ s.len) (sym item) (some r) in
    let empty = none.0 in omega arith)
has_begun L K M N i r order low some item start (inr taken) =
    let one : N ≡ r ∷ [] = taken.2 ∙ ap (λ (rs : List Run). rs ++ r ∷ []) start in
    rw (taken.1, one) (record {
      kept = gone_kept L i r order low item;
      filled = All-push (λ (s : Run). 1 ≤ s.len) [] r (λ k d none. absurd (omega arith)) taken.0;
      flood = λ d. rw (get_or_default L i d r low ∙ sym item) (flood_begins L i r order low item taken.0);
    })

-- ---- what a test says

pub from_true : (P Q : Type 0) (b : Bool) → MatchBool b P Q → b ≡ true → P
from_true P Q true h e = h
from_true P Q false h e = absurd (false≢true e)

pub from_false : (P Q : Type 0) (b : Bool) → MatchBool b P Q → b ≡ false → Q
from_false P Q true h e = absurd (false≢true (sym e))
from_false P Q false h e = h

-- ---- a row after its sweep

-- where the runs before a place and those from it on have no cell of the row round r, none is left
pub clear_row : (r : Run) (L : List Run) (i : ℕ) (row : ℤ) (c : Cell)
    → ((k : ℕ) (d : Run) (e : Cell) → k < i → IsRound r e → e.row ≡ row → IsInRun (get_or L k d) e → ⊥)
    → IsRound r c → c.row ≡ row
    → ((k : ℕ) (d : Run) → i ≤ k → k < length L → IsInRun (get_or L k d) c → ⊥) → set_of.contains (cells_in L) c ≡ false
clear_row r L i row c clear round on beyond = none_in L c (λ k s low at inside.
    let here : IsInRun (get_or L k s) c = subst (λ (t : Run). IsInRun t c) (sym at) inside in
    elim (cases_lt k i) [ inl less ↦ clear k s c less round on here | inr more ↦ beyond k s more low here ])
