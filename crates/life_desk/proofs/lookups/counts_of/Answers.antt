use Rattle.life_desk.proofs.Representing.{looks_as, total_of-kept_of}
use Rattle.life_desk.specs.Represents.{kept_of}
use Rattle.life_desk.proofs.lookups.counts_of.Goals as goal

pub returns : goal.returns
returns g c =
    looks_as _ _ _ c.counts_of.ensures.transition c.counts_of.ensures.healthy c.counts_of.ensures.same (λ A up held.
    rw (← total_of-kept_of A c.args.rule.now c.args.code.now) (c.counts_of.ensures.value (kept_of A) up held))
