-- The answer of a job, from the answers of its steps.
use Rattle.std.specs.Prelude.{◌≡◌, ℕ, List, Option, Result, Ok, Err}
use Rattle.std.proofs.Common.{subst}
use Rattle.life_core.specs.Rule.{RuleSets}
use Rattle.life_core.specs.RuleText.{read_rule}
use Rattle.life_rle.specs.Stream.{Appends, AppendsSome}
use Rattle.life_jobs.specs.Streams.{PutsText}
use Rattle.life_jobs.specs.declared.stop.Stop.{Stop}
use Rattle.life_jobs.specs.declared.stop.Stop.TheVariants.{OutOfLimit, BadPattern, BadRule, BadCode, Unreadable}
use Rattle.life_jobs.specs.declared.stop.Stop.TheVariants.{Unavailable, Unwritable}
use Rattle.life_hauls.specs.HaulJobs.{PutsUnderRule}

-- what is answered if a text is put, which is the one that is wanted under the rule
pub puts_under : (MayBe : Type 0) (name : List ℕ) (wanted : RuleSets → List ℕ) (rule : RuleSets)
    (text : List ℕ) (old new : Option (List ℕ)) (answer : Result (Unit {0}) Stop) → MayBe → read_rule name ≡ Ok rule
    → text ≡ wanted rule
    → PutsText old new text answer → PutsUnderRule MayBe name wanted old new answer
puts_under MayBe name wanted rule text old new (Ok done) may is same puts =
    (may, (rule, is, subst (Appends old new) same puts))
puts_under MayBe name wanted rule text old new (Err OutOfLimit) may is same puts = absurd puts
puts_under MayBe name wanted rule text old new (Err (BadPattern fault)) may is same puts = puts
puts_under MayBe name wanted rule text old new (Err BadRule) may is same puts = absurd puts
puts_under MayBe name wanted rule text old new (Err (BadCode fault)) may is same puts = puts
puts_under MayBe name wanted rule text old new (Err Unreadable) may is same puts = puts
puts_under MayBe name wanted rule text old new (Err Unavailable) may is same puts = tt
puts_under MayBe name wanted rule text old new (Err Unwritable) may is same puts =
    (may, (rule, is, subst (AppendsSome old new) same puts))
