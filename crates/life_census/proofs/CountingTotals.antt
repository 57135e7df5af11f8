-- The counts and the unresolved add up to the total.
use Rattle.std.specs.Prelude.{◌≡◌, ℕ, zero, suc, ◌+◌, ◌≤◌, cond, List, [], ◌∷◌, length, take, count_by, sum_by, is_none}
use Rattle.std.specs.Prelude.{Option, Some, None, refl}
use Rattle.std.proofs.Common.{sym, ap, ◌∙◌, arith}
use Rattle.std.specs.declared.cmp.Ordering.{Ordering}
use Rattle.std.specs.declared.cmp.Ordering.TheVariants.{Less, Equal, Greater}
use Rattle.std.specs.Ordering.{match_ordering}
use Rattle.std.specs.List.{filter_map, cons_option}
use Rattle.std.proofs.lemmas.List.{take_more, take_all}
use Rattle.std.proofs.lemmas.List.Sums.{sum_by-cons}
use Rattle.life_core.specs.Pattern.{Cells}
use Rattle.life_census.specs.Counting.{row_cmp, occurrences_of}
use Rattle.life_census.specs.CountingState.{one_more}
use Rattle.life_census.specs.CensusLaws.{TalliesAddUp}
use Rattle.life_census.proofs.CountingLaws.{counts_push, counts_none}

abbrev all_of : List (List ℕ × ℕ) → ℕ
all_of es = sum_by (λ e. e.1) es

more_in_all : (es : List (List ℕ × ℕ)) (t : List ℕ) → all_of (one_more es t) ≡ all_of es + 1
more_in_all [] t = let a = sum_by-cons (λ (x : List ℕ × ℕ). x.1) (t, 1) [] in omega (arith, a)
more_in_all (e ∷ es) t = go (row_cmp t e.0) (more_in_all es t)
  where
    go : (o : Ordering) → all_of (one_more es t) ≡ all_of es + 1
        → all_of (match_ordering o ((t, 1) ∷ e ∷ es) ((e.0, e.1 + 1) ∷ es) (e ∷ one_more es t)) ≡ all_of (e ∷ es) + 1
    go Less rest = let a = sum_by-cons (λ (x : List ℕ × ℕ). x.1) (t, 1) (e ∷ es) in omega (arith, a)
    go Equal rest =
        let a = sum_by-cons (λ (x : List ℕ × ℕ). x.1) (e.0, e.1 + 1) es in
        let b = sum_by-cons (λ (x : List ℕ × ℕ). x.1) e es in
        omega (arith, a, b)
    go Greater rest =
        let a = sum_by-cons (λ (x : List ℕ × ℕ). x.1) e (one_more es t) in
        let b = sum_by-cons (λ (x : List ℕ × ℕ). x.1) e es in
        omega (arith, a, b, rest)

all_counted : (ts : List (List ℕ)) (n : ℕ) → n ≤ length ts → all_of (occurrences_of (take n ts)) ≡ n
all_counted ts zero low = ap all_of counts_none
all_counted ts (suc n) low =
    let next : take (suc n) ts ≡ take (n + 1) ts = ap (λ k. take k ts) one_up in
    ap (λ us. all_of (occurrences_of us)) (next ∙ take_more ts n [] (omega arith))
    ∙ ap all_of (counts_push (take n ts) _) ∙ more_in_all (occurrences_of (take n ts)) _
    ∙ ap (λ k. k + 1) (all_counted ts n (omega arith)) ∙ sym one_up
  where
    one_up : suc n ≡ n + 1
    one_up = omega arith

named_and_nameless : (code : Cells → Option (List ℕ)) (Ps : List Cells)
    → length (filter_map code Ps) + count_by (λ P. is_none (code P)) Ps ≡ length Ps
named_and_nameless code [] = refl
named_and_nameless code (P ∷ Ps) =
    go (code P) (named_and_nameless code Ps) (sum_by-cons (λ Q. cond (is_none (code Q)) 1 0) P Ps) refl
  where
    go : (o : Option (List ℕ)) → length (filter_map code Ps) + count_by (λ Q. is_none (code Q)) Ps ≡ length Ps
        → count_by (λ Q. is_none (code Q)) (P ∷ Ps)
        ≡ cond (is_none (code P)) 1 0 + count_by (λ Q. is_none (code Q)) Ps → code P ≡ o
        → length (cons_option o (filter_map code Ps)) + count_by (λ Q. is_none (code Q)) (P ∷ Ps) ≡ length (P ∷ Ps)
    go (Some t) rest whole is =
        let nothing : count_by (λ Q. is_none (code Q)) (P ∷ Ps) ≡ 0 + count_by (λ Q. is_none (code Q)) Ps = whole
        ∙ ap (λ o. cond (is_none o) 1 0 + count_by (λ Q. is_none (code Q)) Ps) is in
        omega (arith, rest, nothing)
    go None rest whole is =
        let one : count_by (λ Q. is_none (code Q)) (P ∷ Ps) ≡ 1 + count_by (λ Q. is_none (code Q)) Ps = whole
        ∙ ap (λ o. cond (is_none o) 1 0 + count_by (λ Q. is_none (code Q)) Ps) is in
        omega (arith, rest, one)

pub adds_up : TalliesAddUp
adds_up code Ps t is =
    let ts = filter_map code Ps in
    let rows : all_of t.rows ≡ length ts = ap all_of is.rows ∙ ap (λ us. all_of (occurrences_of us))
    (sym (take_all (length ts) ts (omega arith))) ∙ all_counted ts (length ts) (omega arith) in
    let split = named_and_nameless code Ps in
    let nameless = is.unresolved in
    let total = is.total in
    omega (arith, rows, split, nameless, total)
