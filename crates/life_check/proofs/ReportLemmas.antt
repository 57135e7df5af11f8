-- The output and the job's result for a check.
use Rattle.std.proofs.Common.{◌≡◌, ℕ, Bool, List, Option, Result, Ok, Err, refl, sym, subst, inl, inr}
use Rattle.life_jobs.specs.declared.stop.Stop.{Stop}
use Rattle.life_jobs.specs.declared.stop.Stop.TheVariants.{OutOfLimit, BadPattern, BadRule, BadCode, Unreadable}
use Rattle.life_jobs.specs.declared.stop.Stop.TheVariants.{Unavailable, Unwritable}
use Rattle.life_jobs.specs.Streams.{PutsText, PutsOnce}
use Rattle.life_check.specs.declared.archive_check.CheckVerdict.{CheckVerdict}
use Rattle.life_check.specs.declared.archive_check.CheckVerdict.TheVariants.{Sound, SoundButForCounts, NotSound}
use Rattle.life_check.specs.declared.report.CheckStop.{CheckStop}
use Rattle.life_check.specs.declared.report.CheckStop.TheVariants as stops
use Rattle.life_check.specs.declared.archive_check.Wrong.{Wrong}
use Rattle.life_check.specs.Report.{checked_lines, answer_of, PutsVerdict, by_output}

-- the lines were not put
pub stopped_verdict : (v : CheckVerdict) (further : List Wrong) (before after : Option (List ℕ)) (stop : Stop)
    → PutsText before after (checked_lines v further) (Err stop)
    → PutsVerdict v further before after (Err (stops.Job stop))
stopped_verdict v further before after Unwritable put = inr (inl (refl, put))
stopped_verdict v further before after Unavailable put = inr (inr refl)
stopped_verdict v further before after OutOfLimit put = absurd put
stopped_verdict v further before after (BadPattern fault) put = absurd put
stopped_verdict v further before after BadRule put = absurd put
stopped_verdict v further before after (BadCode fault) put = absurd put
stopped_verdict v further before after Unreadable put = absurd put

-- they were
pub put_answer : (v : CheckVerdict) (further : List Wrong) (before after : Option (List ℕ))
    (answer : Result (Unit {0}) CheckStop) → answer ≡ answer_of v
    → PutsText before after (checked_lines v further) (Ok tt) → PutsVerdict v further before after answer
put_answer v further before after answer is put = inl (is, put)

by_answer : (v : CheckVerdict) → by_output (answer_of v) ≡ Ok tt
by_answer (Sound d c) = refl
by_answer (SoundButForCounts d c) = refl
by_answer (NotSound w) = refl

pub put_once : {O : Type 0} (old new : O) (a b : ℕ) (last : Bool) (v : CheckVerdict)
    (answer : Result (Unit {0}) CheckStop)
    → answer ≡ answer_of v → PutsOnce old new a b last (Ok tt) → PutsOnce old new a b last (by_output answer)
put_once old new a b last v answer is once =
    subst (λ (r : Result (Unit {0}) CheckStop). PutsOnce old new a b last (by_output r))
    (sym is) (subst (λ (r : Result (Unit {0}) Stop). PutsOnce old new a b last r) (sym (by_answer v)) once)
