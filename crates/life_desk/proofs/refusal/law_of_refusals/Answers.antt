use Rattle.std.proofs.Common.{refl}
use Rattle.life_desk.specs.declared.refusal.Refusal.TheVariants.{NoSuchDeposit}
use Rattle.life_desk.specs.Refusals.{EachIsListed}
use Rattle.life_desk.proofs.refusal.law_of_refusals.Goals as goal

each_is_listed : EachIsListed
each_is_listed NoSuchDeposit = refl
each_is_listed _ = refl

pub returns : goal.returns
returns c = each_is_listed
