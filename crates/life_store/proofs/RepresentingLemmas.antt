-- Rows represent at most one list of deposits and one list of censuses.
use Rattle.std.proofs.Common.{◌≡◌, ◌∙◌, ◌<◌, ◌+◌, ℕ, List, [], ◌∷◌, ◌++◌, map, Ok, refl, sym, ap, ap₂, arith}
use Rattle.std.specs.Prelude.{⊤, Bool, true, false}
use Rattle.std.specs.List.{AllByRecursion}
use Rattle.sqlite_value.specs.Order.{Row}
use Rattle.life_rle.specs.File.{kept}
use Rattle.life_rle.specs.Writer.{text}
use Rattle.life_census.specs.Rows.{TallyCounts}
use Rattle.life_store.specs.declared.kept.Deposit.{Deposit}
use Rattle.life_store.specs.declared.kept.Census.{Census}
use Rattle.life_store.specs.Migration.{HoldsFirst, unflagged}
use Rattle.life_store.specs.Kept.{Kept, Tallied}
use Rattle.life_store.specs.Stored.{IsFiled, rows_by, deposit_cells, census_cells, count_cells, flag_number, flag_cells}
use Rattle.life_store.specs.Stored.{tagged, counts_from}
use Rattle.life_store.specs.Tables.{Tables, Holds}

abbrev Counted : Type 0
Counted = List ℕ × ℕ

-- rows under ids tell the elements, as far as their cells do
same_list : {X : Type 0} (f : X → Row) (P : X → Type 0) → ((x y : X) → P x → P y → f x ≡ f y → x ≡ y)
    → (id : ℕ) (xs ys : List X) → AllByRecursion P xs → AllByRecursion P ys
    → rows_by f id xs ≡ rows_by f id ys → xs ≡ ys
same_list f P one id [] [] p q e = refl
same_list f P one id [] (y ∷ ys) p q e = absurd cc
same_list f P one id (x ∷ xs) [] p q e = absurd cc
same_list f P one id (x ∷ xs) (y ∷ ys) p q e =
    let cells : f x ≡ f y = cc in
    let rest : rows_by f (id + 1) xs ≡ rows_by f (id + 1) ys = cc in
    ap₂ (λ z zs. z ∷ zs) (one x y p.0 q.0 cells) (same_list f P one (id + 1) xs ys p.1 q.1 rest)

same_deposit : (c d : Deposit) → IsFiled c → IsFiled d → deposit_cells c ≡ deposit_cells d → c ≡ d
same_deposit c d p q e =
    let member : c.member ≡ d.member = cc in
    let token : c.token ≡ d.token = cc in
    let file : text c.content ≡ text d.content = cc in
    let content : c.content ≡ d.content =
    let both : Ok c.content ≡ Ok d.content = sym p.again ∙ ap kept file ∙ q.again in cc in
    ap₂ (λ (mt : List ℕ × List ℕ) r. let it : Deposit = record { member = mt.0; token = mt.1; content = r } in it)
    (ap₂ (λ m t. (m, t)) member token) content

same_census : (s t : Tallied) → census_cells s ≡ census_cells t
    → (s.census ≡ t.census) × (s.tally.unresolved ≡ t.tally.unresolved) × (s.tally.total ≡ t.tally.total)
same_census s t e =
    let member : s.census.member ≡ t.census.member = cc in
    let token : s.census.token ≡ t.census.token = cc in
    let deposit : s.census.deposit ≡ t.census.deposit = cc in
    let generation : s.census.generation ≡ t.census.generation = cc in
    let limit : s.census.limit ≡ t.census.limit = cc in (
      ap₂ (λ (mt : List ℕ × List ℕ) (n : ℕ × (ℕ × ℕ)). let it : Census = record {
        member = mt.0;
        token = mt.1;
        deposit = n.0;
        generation = n.1.0;
        limit = n.1.1;
      } in it)
          (ap₂ (λ m t. (m, t)) member token) (ap₂ (λ d gl. (d, gl)) deposit (ap₂ (λ g l. (g, l)) generation limit)),
      cc,
      cc,
    )

same_count : (r s : ℕ × Counted) → count_cells r ≡ count_cells s → r ≡ s
same_count r s e =
    let id : r.0 ≡ s.0 = cc in
    let code : r.1.0 ≡ s.1.0 = cc in
    let count : r.1.1 ≡ s.1.1 = cc in
    ap₂ (λ i cn. (i, cn)) id (ap₂ (λ c n. (c, n)) code count)

same_flag : (a b : Bool) → flag_number a ≡ flag_number b → a ≡ b
same_flag true true e = refl
same_flag true false e = absurd cc
same_flag false true e = absurd cc
same_flag false false e = refl

all_true : {X : Type 0} (xs : List X) → AllByRecursion (λ x. ⊤) xs
all_true [] = tt
all_true (x ∷ xs) = (tt, all_true xs)

-- ---- the rows of each census

abbrev IsPast : ℕ → ℕ × Counted → Type 0
IsPast id r = id < r.0

tagged_past : (low id : ℕ) → low < id → (rows : List Counted) (more : List (ℕ × Counted))
    → AllByRecursion (IsPast low) more → AllByRecursion (IsPast low) (tagged id rows ++ more)
tagged_past low id below [] more h = h
tagged_past low id below (row ∷ rows) more h = (below, tagged_past low id below rows more h)

all_past : (low id : ℕ) → low < id → (ts : List Tallied) → AllByRecursion (IsPast low) (counts_from id ts)
all_past low id below [] = tt
all_past low id below (t ∷ ts) =
    tagged_past low id below t.tally.rows (counts_from (id + 1) ts) (all_past low (id + 1) (omega arith) ts)

not_past : (id : ℕ) (y : Counted) (us rest : List (ℕ × Counted)) → AllByRecursion (IsPast id) us
    → us ≡ (id, y) ∷ rest → ⊥
not_past id y [] rest h e = absurd cc
not_past id y (u ∷ us) rest h e = let same : u.0 ≡ id = cc in absurd (omega (arith, h.0))

parted : (id : ℕ) (xs ys : List Counted) (us vs : List (ℕ × Counted)) → AllByRecursion (IsPast id) us
    → AllByRecursion (IsPast id) vs → tagged id xs ++ us ≡ tagged id ys ++ vs → (xs ≡ ys) × (us ≡ vs)
parted id [] [] us vs p q e = (refl, e)
parted id [] (y ∷ ys) us vs p q e = absurd (not_past id y us (tagged id ys ++ vs) p e)
parted id (x ∷ xs) [] us vs p q e = absurd (not_past id x vs (tagged id xs ++ us) q (sym e))
parted id (x ∷ xs) (y ∷ ys) us vs p q e =
    let head : (id, x) ≡ (id, y) = cc in
    let first : x ≡ y = ap (λ (r : ℕ × Counted). r.1) head in
    let rest : tagged id xs ++ us ≡ tagged id ys ++ vs = cc in
    let it = parted id xs ys us vs p q rest in
    (ap₂ (λ z zs. z ∷ zs) first it.0, it.1)

same_unflagged : (id : ℕ) (ss ts : List Tallied) → rows_by census_cells id ss ≡ rows_by census_cells id ts
    → counts_from id ss ≡ counts_from id ts → map unflagged ss ≡ map unflagged ts
same_unflagged id [] [] e c = refl
same_unflagged id [] (t ∷ ts) e c = absurd cc
same_unflagged id (s ∷ ss) [] e c = absurd cc
same_unflagged id (s ∷ ss) (t ∷ ts) e c =
    let cells : census_cells s ≡ census_cells t = cc in
    let rest : rows_by census_cells (id + 1) ss ≡ rows_by census_cells (id + 1) ts = cc in
    let it = same_census s t cells in
    let rows = parted id s.tally.rows t.tally.rows (counts_from (id + 1) ss) (counts_from (id + 1) ts)
    (all_past id (id + 1) (omega arith) ss) (all_past id (id + 1) (omega arith) ts) c in
    let tally : s.tally ≡ t.tally = ap₂ (λ (r : List Counted) (ut : ℕ × ℕ). let n : TallyCounts = record {
      rows = r;
      unresolved = ut.0;
      total = ut.1;
    } in n) rows.0 (ap₂ (λ u n. (u, n)) it.1 it.2) in
    let first : unflagged s ≡ unflagged t = ap₂ (λ (x : Census) (y : TallyCounts). (x, y)) it.0 tally in
    ap₂ (λ z zs. z ∷ zs) first (same_unflagged (id + 1) ss ts rest rows.1)

same_flags : (id : ℕ) (ss ts : List Tallied) → map unflagged ss ≡ map unflagged ts
    → rows_by flag_cells id ss ≡ rows_by flag_cells id ts → ss ≡ ts
same_flags id [] [] e f = refl
same_flags id [] (t ∷ ts) e f = absurd cc
same_flags id (s ∷ ss) [] e f = absurd cc
same_flags id (s ∷ ss) (t ∷ ts) e f =
    let head : unflagged s ≡ unflagged t = cc in
    let rest : map unflagged ss ≡ map unflagged ts = cc in
    let flags : rows_by flag_cells (id + 1) ss ≡ rows_by flag_cells (id + 1) ts = cc in
    let number : flag_number s.steady ≡ flag_number t.steady = cc in
    let first : s ≡ t = ap₂ (λ (u : Census × TallyCounts) (b : Bool). let n : Tallied = record {
      census = u.0;
      tally = u.1;
      steady = b;
    } in n) head (same_flag s.steady t.steady number) in
    ap₂ (λ z zs. z ∷ zs) first (same_flags (id + 1) ss ts rest flags)

same_deposits : (a b : List Deposit) → AllByRecursion IsFiled a → AllByRecursion IsFiled b
    → rows_by deposit_cells 1 a ≡ rows_by deposit_cells 1 b → a ≡ b
same_deposits a b p q e = same_list deposit_cells IsFiled same_deposit 1 a b p q e

same_kept : (a b : List Tallied) → rows_by census_cells 1 a ≡ rows_by census_cells 1 b
    → rows_by count_cells 1 (counts_from 1 a) ≡ rows_by count_cells 1 (counts_from 1 b)
    → map unflagged a ≡ map unflagged b
same_kept a b e c =
    let counts : counts_from 1 a ≡ counts_from 1 b = same_list count_cells (λ r. ⊤) (λ r s x y. same_count r s) 1
    (counts_from 1 a) (counts_from 1 b) (all_true (counts_from 1 a)) (all_true (counts_from 1 b)) c in
    same_unflagged 1 a b e counts

pub one_meaning : (t : Tables) (a b : Kept) → Holds t a → Holds t b → a ≡ b
one_meaning t a b p q =
    let deposits : a.deposits ≡ b.deposits =
    same_deposits a.deposits b.deposits p.filed q.filed (sym p.deposits ∙ q.deposits) in
    let kept = same_kept a.censuses b.censuses (sym p.censuses ∙ q.censuses) (sym p.census_rows ∙ q.census_rows) in
    let censuses : a.censuses ≡ b.censuses =
    same_flags 1 a.censuses b.censuses kept (sym p.census_flags ∙ q.census_flags) in
    ap₂ (λ d c. let it : Kept = record { deposits = d; censuses = c } in it) deposits censuses

pub first_meaning : (t : Tables) (a b : Kept) → HoldsFirst t a → HoldsFirst t b
    → (a.deposits ≡ b.deposits) × (map unflagged a.censuses ≡ map unflagged b.censuses)
first_meaning t a b p q = (
  same_deposits a.deposits b.deposits p.filed q.filed (sym p.deposits ∙ q.deposits),
  same_kept a.censuses b.censuses (sym p.censuses ∙ q.censuses) (sym p.census_rows ∙ q.census_rows),
)
