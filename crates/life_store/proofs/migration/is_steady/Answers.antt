use Rattle.std.proofs.Common.{rules, ◌≤◌, ◌+◌, arith}
use Rattle.life_core.proofs.GenerationsLaws.{within_more}
use Rattle.life_store.proofs.migration.is_steady.Goals as goal

pub steady-requires : goal.steady-requires
steady-requires c =
    let room : 1023 + c.args.number ≤ 400000000 = omega (arith, c.if-number-gt-GENERATION_LIMIT.false) in
    record {
      from_one = search rules;
      few = search rules;
      room =
          within_more (1023 + c.args.number) 400000000 c.in_ok-pattern.pattern room
          (c.in_ok-pattern.ensures.grown 1023 (rw (← c.content.view_is) at c.requires));
    }
