use Rattle.std.proofs.Common.{rules, ◌≡◌, false}
use Rattle.life_store.proofs.TreesLemmas.{given_up}
use Rattle.life_store.proofs.archive.Archive.into_trees.Goals as goal

pub returns-clause-trees : goal.returns-clause-trees
returns-clause-trees g c settled clean sound =
    let none : c.into_connection-conn.result.in_transaction ≡ false = search rules in
    given_up g.S.Store c.into_connection-conn.result c.into_store.result c.args.self.tables
    c.into_connection-conn.ensures.tables c.schema-obeyed.ensures.live none
    (c.is_autocommit-is_settled.ensures.settled settled) c.into_store.ensures.undone c.into_store.ensures.quiet.clean
    (g.met.S.Store.broken_if_shut c.into_store.result) clean sound
