use Rattle.std.proofs.Common.{◌≡◌, rules, pos}
use Rattle.sqlite_value.specs.declared.value.Value.TheVariants.{Int}
use Rattle.sqlite_value.specs.Value.{owned}
use Rattle.life_store.proofs.executing.query_about.Goals as goal

pub returns-clause-shown : goal.returns-clause-shown
returns-clause-shown g c clean =
    let id : owned c.sql_integer.result ≡ Int (pos c.args.id) = search rules in
    rw id at (c.query_inside.ensures.shown clean)
