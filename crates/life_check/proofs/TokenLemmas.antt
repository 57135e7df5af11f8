-- Rows that obey the archive's schema never share both member and token.
use Rattle.std.proofs.Common.{◌≡◌, ◌+◌, ◌∙◌, ◌&&◌, ◌||◌, ◌==◌, ℕ, zero, suc, pos, List, [], ◌∷◌, map, Bool, true, false}
use Rattle.std.proofs.Common.{not, bytes_eq, if◌then◌else◌, Option, Some, slice_get, refl, sym, ap, ap₂, subst, arith}
use Rattle.std.specs.List.{AllByRecursion, list_any}
use Rattle.std.specs.Ordering.{is_ne}
use Rattle.std.proofs.lemmas.Bool.{and_parts, and_from}
use Rattle.std.proofs.lemmas.Slice.Eq.{bytes_eq-Decides}
use Rattle.sqlite_value.specs.declared.value.Value.TheVariants.{Int, Text}
use Rattle.sqlite_value.specs.declared.keys.Collation.TheVariants.{Binary}
use Rattle.sqlite_value.specs.Keys.{plain, first_key}
use Rattle.sqlite_value.specs.Order.{Row, column}
use Rattle.sqlite_value.proofs.OrderLemmas.{value_cmp-Int}
use Rattle.sqlite_sql.specs.Ops.{binary}
use Rattle.sqlite_trees.specs.Tree.{Trees, rowid}
use Rattle.sqlite_schema.specs.declared.schema.Constraint.TheVariants.{Unique}
use Rattle.sqlite_schema.specs.Rules.{agree, differ, equal, clashes, Keeps}
use Rattle.life_store.specs.declared.kept.Deposit.{Deposit}
use Rattle.life_store.specs.declared.kept.Census.{Census}
use Rattle.life_store.specs.Kept.{Tallied, numbered, first_from, deposit_by, census_by}
use Rattle.life_store.specs.Layout.{archive_schema}
use Rattle.life_store.specs.Stored.{rows_by, deposit_cells, census_cells}
use Rattle.life_store.proofs.SelectLemmas.{truth_is, same_text}
use Rattle.life_desk.specs.Archive.{Archive}
use Rattle.life_check.specs.Sound.{AreUnique, HasUniqueTokens}
use Rattle.life_check.proofs.WalkLemmas.{some_is, all_more}

-- ---- lists

or_none : (a b : Bool) → (a || b) ≡ false → (a ≡ false) × (b ≡ false)
or_none false b none = (refl, none)
or_none true b none = absurd cc

not_true : (b : Bool) → not b ≡ true → b ≡ false
not_true false it = refl
not_true true it = absurd cc

right_false : (a b : Bool) → a ≡ true → (a && b) ≡ false → b ≡ false
right_false true b is none = none
right_false false b is none = absurd cc

row_at : {X : Type 0} (f : X → Row) (id i : ℕ) (xs : List X) (x : X) → slice_get xs i ≡ Some x
    → slice_get (rows_by f id xs) i ≡ Some (Int (pos (id + i)) ∷ f x)
row_at f id i [] x at = absurd cc
row_at f id zero (y ∷ ys) x at = ap₂ (λ (n : ℕ) z. Some (Int (pos n) ∷ f z)) (omega arith) (some_is y x at)
row_at f id (suc i) (y ∷ ys) x at = row_at f (id + 1) i ys x at ∙ ap (λ (n : ℕ). Some (Int (pos n) ∷ f x)) (omega arith)

all_at : {X : Type 0} (P : X → Type 0) (i : ℕ) (xs : List X) (x : X) → AllByRecursion P xs
    → slice_get xs i ≡ Some x → P x
all_at P i [] x all at = absurd cc
all_at P zero (y ∷ ys) x all at = subst P (some_is y x at) all.0
all_at P (suc i) (y ∷ ys) x all at = all_at P i ys x all.1 at

none_at : {X : Type 0} (p : X → Bool) (i : ℕ) (xs : List X) (x : X) → list_any p xs ≡ false
    → slice_get xs i ≡ Some x → p x ≡ false
none_at p i [] x none at = absurd cc
none_at p zero (y ∷ ys) x none at = subst (λ z. p z ≡ false) (some_is y x at) (or_none (p y) (list_any p ys) none).0
none_at p (suc i) (y ∷ ys) x none at = none_at p i ys x (or_none (p y) (list_any p ys) none).1 at

mapped_at : {X Y : Type 0} (g : X → Y) (i : ℕ) (xs : List X) (y : Y) → slice_get (map g xs) i ≡ Some y
    → (x : X) × (slice_get xs i ≡ Some x) × (y ≡ g x)
mapped_at g i [] y at = absurd cc
mapped_at g zero (x ∷ xs) y at = (x, refl, sym (some_is (g x) y at))
mapped_at g (suc i) (x ∷ xs) y at = mapped_at g i xs y at

unique_mapped : {X Y : Type 0} (g : X → Y) (names : Y → List ℕ × List ℕ) (xs : List X) → AreUnique (λ x. names (g x)) xs
    → AreUnique names (map g xs)
unique_mapped g names xs unique i j y z at_i at_j same =
    let first = mapped_at g i xs y at_i in
    let second = mapped_at g j xs z at_j in
    unique i j first.0 second.0 first.1 second.1 (ap names (sym first.2) ∙ same ∙ ap names second.2)

-- ---- rows

differ_is : (a b : ℕ) → differ (Int (pos a)) (Int (pos b)) ≡ not (a == b)
unfolding binary
differ_is a b = truth_is _ ∙ ap is_ne (value_cmp-Int (pos a) (pos b)) ∙ grind arith

same_id : (a b : ℕ) → differ (Int (pos a)) (Int (pos b)) ≡ false → a ≡ b
same_id a b same = grind (arith, sym (differ_is a b) ∙ same)

-- rows with one member and one token agree in the columns of the index
agree_is : (a b : Row) (member token : List ℕ) → column a 2 ≡ Text member → column a 3 ≡ Text token
    → column b 2 ≡ Text member → column b 3 ≡ Text token → agree plain (2 ∷ 3 ∷ []) a (2 ∷ 3 ∷ []) b ≡ true
unfolding first_key
agree_is a b member token a2 a3 b2 b3 =
    and_from _ _
    (ap₂ (equal Binary) a2 b2 ∙ same_text member member ∙ (bytes_eq-Decides member member).1 refl)
    (and_from _ _ (ap₂ (equal Binary) a3 b3 ∙ same_text token token ∙ (bytes_eq-Decides token token).1 refl) refl)

AreApart : List Row → Type 0
AreApart rows = AllByRecursion (λ row. clashes plain (2 ∷ 3 ∷ []) rows row ≡ false) rows

apart_are_unique : {X : Type 0} (f : X → Row) (names : X → List ℕ × List ℕ) → ((id : ℕ) (x : X)
    → (column (Int (pos id) ∷ f x) 2 ≡ Text (names x).0) × (column (Int (pos id) ∷ f x) 3 ≡ Text (names x).1))
    → (rows : List Row) (xs : List X) → rows ≡ rows_by f 1 xs → AreApart rows → AreUnique names xs
unfolding AreApart
apart_are_unique f names columns rows xs are apart i j x y at_i at_j same =
    let a = Int (pos (1 + i)) ∷ f x in
    let b = Int (pos (1 + j)) ∷ f y in
    let row_i : slice_get rows i ≡ Some a = ap (λ (all : List Row). slice_get all i) are ∙ row_at f 1 i xs x at_i in
    let row_j : slice_get rows j ≡ Some b = ap (λ (all : List Row). slice_get all j) are ∙ row_at f 1 j xs y at_j in
    let none =
    none_at (λ other. agree plain (2 ∷ 3 ∷ []) other (2 ∷ 3 ∷ []) b && differ (rowid other) (rowid b)) i rows a
    (all_at (λ row. clashes plain (2 ∷ 3 ∷ []) rows row ≡ false) j rows b apart row_j) row_i in
    let agrees =
    agree_is a b (names x).0 (names x).1 (columns (1 + i) x).0 (columns (1 + i) x).1
    ((columns (1 + j) y).0 ∙ ap (λ (n : List ℕ × List ℕ). Text n.0) (sym same))
    ((columns (1 + j) y).1 ∙ ap (λ (n : List ℕ × List ℕ). Text n.1) (sym same)) in
    let ids : 1 + i ≡ 1 + j = same_id (1 + i) (1 + j) (right_false _ _ agrees none) in
    omega (arith, ids)

-- ---- the two tables with tokens

deposits_apart : (db : Trees) → Keeps Unique archive_schema db → AreApart (db 1)
unfolding AreApart
deposits_apart db keeps =
    all_more _ _ (λ row unique. not_true _ (and_parts (not (clashes plain (2 ∷ 3 ∷ []) (db 1) row)) _ unique).0)
    (db 1) keeps.1.0

censuses_apart : (db : Trees) → Keeps Unique archive_schema db → AreApart (db 3)
unfolding AreApart
censuses_apart db keeps =
    all_more _ _ (λ row unique. not_true _ (and_parts (not (clashes plain (2 ∷ 3 ∷ []) (db 3) row)) _ unique).0)
    (db 3) keeps.1.1.0

pub unique_deposits : (db : Trees) → Keeps Unique archive_schema db → (ds : List Deposit)
    → db 1 ≡ rows_by deposit_cells 1 ds → AreUnique (λ d. (d.member, d.token)) ds
unique_deposits db keeps ds are =
    apart_are_unique deposit_cells (λ (d : Deposit). (d.member, d.token)) (λ id d. (refl, refl))
    (db 1) ds are (deposits_apart db keeps)

pub unique_censuses : (db : Trees) → Keeps Unique archive_schema db → (ts : List Tallied)
    → db 3 ≡ rows_by census_cells 1 ts → AreUnique (λ c. (c.member, c.token)) (map (λ (t : Tallied). t.census) ts)
unique_censuses db keeps ts are =
    unique_mapped (λ (t : Tallied). t.census) (λ (c : Census). (c.member, c.token)) ts
    (apart_are_unique census_cells (λ (t : Tallied). (t.census.member, t.census.token)) (λ id t. (refl, refl))
    (db 3) ts are (censuses_apart db keeps))

-- ---- what a token finds

-- all elements that pass the test are at this place
IsOnly : {X : Type 0} → (X → Bool) → List X → ℕ → Type 0
IsOnly {X} test xs i = (j : ℕ) (y : X) → slice_get xs j ≡ Some y → test y ≡ true → j ≡ i

chosen : {X : Type 0} (b : Bool) (id i : ℕ) (y x : X) (rest : Option (ℕ × X)) → (b ≡ true → (i ≡ 0) × (y ≡ x))
    → (b ≡ false → rest ≡ Some (id + i, x)) → (if b then Some (id, y) else rest) ≡ Some (id + i, x)
chosen true id i y x rest here there = ap₂ (λ (n : ℕ) z. Some (n, z)) (omega (arith, (here refl).0)) (here refl).1
chosen false id i y x rest here there = there refl

only_is_first : {X : Type 0} (test : X → Bool) (id i : ℕ) (xs : List X) (x : X) → slice_get xs i ≡ Some x
    → test x ≡ true → IsOnly test xs i → first_from test id xs ≡ Some (id + i, x)
unfolding first_from IsOnly
only_is_first test id i [] x at passes only = absurd cc
only_is_first test id zero (y ∷ ys) x at passes only =
    chosen (test y) id 0 y x (first_from test (id + 1) ys) (λ t. (refl, some_is y x at)) (λ no. absurd
    (let same : test y ≡ true = ap test (some_is y x at) ∙ passes in let bad : false ≡ true = sym no ∙ same in cc))
only_is_first test id (suc i) (y ∷ ys) x at passes only =
    chosen (test y) id (suc i) y x (first_from test (id + 1) ys)
    (λ t. absurd (let zero_is : 0 ≡ suc i = only 0 y refl t in omega (arith, zero_is)))
    (λ no. only_is_first test (id + 1) i ys x at passes
    (λ j z there it. let same : suc j ≡ suc i = only (suc j) z there it in omega (arith, same))
    ∙ ap (λ (n : ℕ). Some (n, x)) (omega arith))

same_names : (a b member token : List ℕ) → (bytes_eq a member && bytes_eq b token) ≡ true
    → ◌≡◌ {A = List ℕ × List ℕ} (a, b) (member, token)
same_names a b member token it =
    let parts = and_parts (bytes_eq a member) (bytes_eq b token) it in
    ap₂ (λ (m t : List ℕ). (m, t)) ((bytes_eq-Decides a member).0 parts.0) ((bytes_eq-Decides b token).0 parts.1)

found_by : {X : Type 0} (member token : X → List ℕ) (xs : List X) → AreUnique (λ x. (member x, token x)) xs
    → (i : ℕ) (x : X) → numbered xs i ≡ Some x
    → first_from (λ y. bytes_eq (member y) (member x) && bytes_eq (token y) (token x)) 1 xs ≡ Some (i, x)
unfolding IsOnly
found_by member token xs unique zero x at = absurd cc
found_by member token xs unique (suc i) x at =
    only_is_first (λ y. bytes_eq (member y) (member x) && bytes_eq (token y) (token x)) 1 i xs x at (and_from _ _
    ((bytes_eq-Decides (member x) (member x)).1 refl) ((bytes_eq-Decides (token x) (token x)).1 refl))
    (λ j y there it. unique j i y x there at (same_names (member y) (token y) (member x) (token x) it))
    ∙ ap (λ (n : ℕ). Some (n, x)) (omega arith)

pub deposit_found : (A : Archive) (i : ℕ) (d : Deposit) → HasUniqueTokens A → numbered A.deposits i ≡ Some d
    → deposit_by d.member d.token A.deposits ≡ Some (i, d)
deposit_found A i d unique at =
    found_by (λ (x : Deposit). x.member) (λ (x : Deposit). x.token) A.deposits unique.deposits i d at

pub census_found : (A : Archive) (i : ℕ) (c : Census) → HasUniqueTokens A → numbered A.censuses i ≡ Some c
    → census_by c.member c.token A.censuses ≡ Some (i, c)
census_found A i c unique at =
    found_by (λ (x : Census). x.member) (λ (x : Census). x.token) A.censuses unique.censuses i c at
