use Rattle.std.proofs.Common.{◌∙◌, Result, Ok, Err, sym}
use Rattle.std.specs.Prelude.{IfOk}
use Rattle.life_check.proofs.WalkLemmas.{some_is}
use Rattle.life_check.proofs.checked_censuses.census_follows.Goals as goal

weaker : {A E : Type 0} (r : Result A E) (P Q : A → Type 0) → ((a : A) → P a → Q a) → IfOk r P → IfOk r Q
weaker (Ok a) P Q f p = f a p
weaker (Err e) P Q f p = tt

pub returns-then-quick-clause-none : goal.returns-then-quick-clause-none
returns-then-quick-clause-none g c clean =
    weaker c.uncounted_follows.result _ _
    (λ o it none ds filed t awaits. it none ds filed t
    (some_is _ _ (sym (c.in_ok-census.ensures c.args.id t awaits.good.askable awaits.row_is) ∙ c.in-Some.is)) awaits)
    (c.uncounted_follows.ensures.none clean)

pub returns-clause-none : goal.returns-clause-none
returns-clause-none g c clean =
    weaker c.counted_follows.result _ _
    (λ o it none ds filed t awaits. it none ds filed t
    (some_is _ _ (sym (c.in_ok-census.ensures c.args.id t awaits.good.askable awaits.row_is) ∙ c.in-Some.is)) awaits)
    (c.counted_follows.ensures.none clean)
