use Rattle.std.proofs.Common.{arith}
use Rattle.sqlite_trees.specs.View.{IsClean}
use Rattle.life_check.proofs.checked_files.check_and_list.Goals as goal

pub returns-clause-wrong : goal.returns-clause-wrong
returns-clause-wrong g c = λ clean.
    let clean_1 : IsClean (g.S.Store.view c.check-checked.result.1) =
    omega (arith, c.errors_of-further.ensures.calm.clean, clean) in
    c.errors_of-further.ensures.wrong c.args.archive.tables.deposits clean (c.check-checked.ensures.deposits clean_1)
