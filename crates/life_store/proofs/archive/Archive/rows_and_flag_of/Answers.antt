use Rattle.std.proofs.Common.{◌≡◌, ◌∙◌, ℕ, Bool, List, Option, None, Some, option_map, IfSome, sym, ap, ap₂, refl}
use Rattle.life_store.specs.Kept.{Tallied}
use Rattle.life_store.proofs.LastingLemmas.{goes_then}
use Rattle.life_store.proofs.archive.Archive.rows_and_flag_of.Goals as goal

abbrev Found : Type 0
Found = List (List ℕ × ℕ) × Bool

no_rows : (o : Option Tallied) → None ≡ option_map (λ (t : Tallied). t.steady) o
    → ◌≡◌ {A = Option Found} None (option_map (λ (t : Tallied). (t.tally.rows, t.steady)) o)
no_rows None e = refl
no_rows (Some t) e = absurd cc

all_rows : (o : Option Tallied) (b : Bool) (rows : List (List ℕ × ℕ))
    → Some b ≡ option_map (λ (t : Tallied). t.steady) o → IfSome o (λ (t : Tallied). rows ≡ t.tally.rows)
    → ◌≡◌ {A = Option Found} (Some (rows, b)) (option_map (λ (t : Tallied). (t.tally.rows, t.steady)) o)
all_rows None b rows e is = absurd cc
all_rows (Some t) b rows e is = let flag : b ≡ t.steady = cc in
    let both : ◌≡◌ {A = Found} (rows, b) (t.tally.rows, t.steady) =
    ap₂ (λ (x : List (List ℕ × ℕ)) (y : Bool). (x, y)) is flag in
    ap (λ (found : Found). Some found) both

pub returns-in-None-clause-value : goal.returns-in-None-clause-value
returns-in-None-clause-value g c k healthy holds =
    no_rows _ (sym c.in-None.is ∙ c.in_ok-flag_of.ensures.value k healthy holds)

pub returns-in_err-rows-in-Some-clause-transition : goal.returns-in_err-rows-in-Some-clause-transition
returns-in_err-rows-in-Some-clause-transition g c =
    goes_then _ _ _ c.flag_of.ensures.transition c.rows_kept.ensures.transition

pub returns-in_ok-rows-in-Some-clause-transition : goal.returns-in_ok-rows-in-Some-clause-transition
returns-in_ok-rows-in-Some-clause-transition g c =
    goes_then _ _ _ c.in_ok-flag_of.ensures.transition c.in_ok-rows-in-Some.ensures.transition

pub returns-in_ok-rows-in-Some-clause-value : goal.returns-in_ok-rows-in-Some-clause-value
returns-in_ok-rows-in-Some-clause-value g c k healthy holds =
    let read = c.in_ok-rows-in-Some.ensures in
    let before = read.transition.was_healthy healthy in
    all_rows _ _ _ (sym c.in-Some.is ∙ c.in_ok-flag_of.ensures.value k before holds)
    (read.value k healthy (c.in_ok-flag_of.ensures.same k before holds))
