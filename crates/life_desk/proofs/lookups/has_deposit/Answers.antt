use Rattle.std.proofs.Common.{◌∙◌}
use Rattle.life_desk.proofs.Tokens.{is_numbered}
use Rattle.life_desk.proofs.lookups.has_deposit.Goals as goal

pub returns : goal.returns
returns g c =
    let counted = c.in_ok-count.ensures in
    record {
      transition = counted.transition;
      healthy = counted.healthy;
      same = counted.same;
      value = λ A healthy m. c.is_number.ensures ∙ is_numbered A.deposits c.args.id _ (counted.value A healthy m);
    }
