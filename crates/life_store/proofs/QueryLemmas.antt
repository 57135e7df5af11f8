-- What a query over one table answers, in the order of its first column.
use Rattle.std.proofs.Common.{◌≡◌, inl, inr, ℕ, List, [], ◌∷◌, map, flat_map, refl, sym, ap, subst, ◌∙◌, arith}
use Rattle.std.proofs.Common.{if◌then◌else◌}
use Rattle.std.specs.List.Sorted.{IsPermutation}
use Rattle.std.proofs.lemmas.List.Sorted.{IsPermutation-map, IsPermutation-sym, IsPermutation-trans, All-permutation}
use Rattle.std.proofs.lemmas.List.Sorted.{length_permutation}
use Rattle.std.proofs.lemmas.List.Elements.{All-from_recursion, recursion_from_All}
use Rattle.std.proofs.lemmas.Bool.{cases_Bool}
use Rattle.std.specs.declared.cmp.Ordering.TheVariants.{Less, Equal}
use Rattle.std.specs.Ordering.{ordering_then}
use Rattle.sqlite_value.specs.Order.{Row, column}
use Rattle.sqlite_trees.specs.Tree.{Trees, IsAscending}
use Rattle.sqlite_sql.specs.Term.{Term}
use Rattle.sqlite_sql.specs.Query.{output, output_cmp, Output, page, IsAnswer}
use Rattle.sqlite_sql.proofs.QueryLemmas.{output_cmp_total}
use Rattle.sqlite_keyed.proofs.SortLemmas.{sorted_unique}
use Rattle.sqlite_keyed.proofs.ListLemmas.{ascending-map, ascending_weaker}
use Rattle.sqlite_value.specs.declared.keys.Key.{Key}
use Rattle.sqlite_value.specs.Keys.{by_key}
use Rattle.sqlite_sql.specs.Term.{eval}
use Rattle.life_store.proofs.StatementTexts.{ordered_query, rows_up_to}
use Rattle.life_store.proofs.Selecting.{is_picked, picked, shows}

pub matches_are : (terms : List Term) (params : Row) (rows : List Row)
    → flat_map (λ r. if is_picked terms params r then (params ∷ r ∷ []) ∷ [] else []) rows
    ≡ map (λ r. params ∷ r ∷ []) (picked terms params rows)
matches_are terms params [] = refl
matches_are terms params (r ∷ rows) = elim (cases_Bool (is_picked terms params r)) [
  | inl met ↦ rw met (ap (λ all. (params ∷ r ∷ []) ∷ all) (matches_are terms params rows))
  | inr not ↦ rw not (matches_are terms params rows)
]

map_both : {A B C : Type 0} (f : B → C) (g : A → B) (xs : List A) → map f (map g xs) ≡ map (λ x. f (g x)) xs
map_both f g [] = refl
map_both f g (x ∷ xs) = ap (λ all. f (g x) ∷ all) (map_both f g xs)

-- the rows stand in the order of the column
abbrev pub AreOrdered : Term → Key → Row → List Row → Type 0
AreOrdered column key params =
    IsAscending (λ a b. by_key key (eval column (params ∷ a ∷ [])) (eval column (params ∷ b ∷ [])) ≡ Less)

-- the rows that are picked, in the one order that the column gives them
pub ordered_answer : (db : Trees) (tree : ℕ) (terms project : List Term) (by : Term) (key : Key)
    (limit : Term) (params : Row) (rows arranged : List Row)
    → IsPermutation (picked terms params (db tree)) arranged → AreOrdered by key params arranged
    → IsAnswer (ordered_query tree terms project by key limit) db params rows
    → rows ≡ page (ordered_query tree terms project by key limit) params (map (shows project params) arranged)
ordered_answer db tree terms project by key limit params rows arranged same rise a =
    let q = ordered_query tree terms project by key limit in
    let show = λ (r : Row). output q (params ∷ r ∷ []) in
    let chosen = picked terms params (db tree) in
    let kept : a.kept ≡ map show chosen = a.distinct ∙ ap (map (output q))
    (a.grouped ∙ matches_are terms params (db tree)) ∙ map_both (output q) (λ r. params ∷ r ∷ []) chosen in
    let rises : IsAscending (λ x y. output_cmp q x y ≡ Less) (map show arranged) =
    ascending-map (λ x y. output_cmp q x y ≡ Less) show arranged (ascending_weaker _
    (λ x y. output_cmp q (show x) (show y) ≡ Less) (λ x y below. ap (λ o. ordering_then o Equal) below) _ rise) in
    let turned : IsPermutation (map show arranged) a.ordered = IsPermutation-trans (map show arranged)
    (map show chosen) a.ordered (IsPermutation-sym _ _ (IsPermutation-map show chosen arranged same))
    (subst (λ k. IsPermutation k a.ordered) kept a.same) in
    let ordered : a.ordered ≡ map show arranged =
    sorted_unique (output_cmp q) (output_cmp_total q) (map show arranged) a.ordered rises turned a.sorted in
    a.shown ∙ ap (page q params) (ap (map (λ (o : Output). o.1)) ordered ∙ map_both (λ (o : Output). o.1) show arranged)

pub unpicked : (params : Row) (rows : List Row) → picked [] params rows ≡ rows
unpicked params [] = refl
unpicked params (r ∷ rows) = ap (λ all. r ∷ all) (unpicked params rows)

one_of : {A : Type 0} (xs : List A) (y : A) → IsPermutation xs (y ∷ []) → xs ≡ y ∷ []
one_of [] y same = absurd (omega (arith, length_permutation [] (y ∷ []) same))
one_of (x ∷ []) y same =
    let all = recursion_from_All (λ z. z ≡ x) (y ∷ [])
    (All-permutation (λ z. z ≡ x) (x ∷ []) (y ∷ []) same (All-from_recursion (λ z. z ≡ x) (x ∷ []) (refl, tt))) in
    ap (λ z. z ∷ []) (sym all.0)
one_of (x ∷ z ∷ xs) y same = absurd (omega (arith, length_permutation (x ∷ z ∷ xs) (y ∷ []) same))

one_shown : (tree : ℕ) (project : List Term) (by : Term) (key : Key) (params one : Row) (all : List Output)
    → page (ordered_query tree [] project by key (rows_up_to 2)) params (map (λ (o : Output). o.1) all) ≡ one ∷ []
    → (o : Output) × (all ≡ o ∷ []) × (o.1 ≡ one)
one_shown tree project by key params one [] e = absurd cc
one_shown tree project by key params one (o ∷ []) e = (o, refl, cc)
one_shown tree project by key params one (o ∷ p ∷ more) e = absurd cc

one_mapped : {A B : Type 0} (f : A → B) (xs : List A) (b : B) → map f xs ≡ b ∷ [] → (x : A) × (xs ≡ x ∷ []) × (f x ≡ b)
one_mapped f [] b e = absurd cc
one_mapped f (x ∷ []) b e = (x, refl, cc)
one_mapped f (x ∷ y ∷ xs) b e = absurd cc

-- where at most two rows were wanted and one came, the table has this one
pub one_answer : (db : Trees) (tree : ℕ) (project : List Term) (by : Term) (key : Key) (params one : Row)
    (rows : List Row) → rows ≡ one ∷ [] → IsAnswer (ordered_query tree [] project by key (rows_up_to 2)) db params rows
    → (row : Row) × (db tree ≡ row ∷ []) × (shows project params row ≡ one)
one_answer db tree project by key params one rows is a =
    let q = ordered_query tree [] project by key (rows_up_to 2) in
    let show = λ (r : Row). output q (params ∷ r ∷ []) in
    let chosen = picked [] params (db tree) in
    let kept : a.kept ≡ map show chosen = a.distinct ∙ ap (map (output q)) (a.grouped ∙ matches_are [] params (db tree))
    ∙ map_both (output q) (λ r. params ∷ r ∷ []) chosen in
    let single = one_shown tree project by key params one a.ordered (sym a.shown ∙ is) in
    let same : IsPermutation a.kept (single.0 ∷ []) = subst (IsPermutation a.kept) single.1 a.same in
    let it = one_mapped show chosen single.0 (sym kept ∙ one_of a.kept single.0 same) in
    (it.0, sym (unpicked params (db tree)) ∙ it.1, ap (λ (o : Output). o.1) it.2 ∙ single.2)
