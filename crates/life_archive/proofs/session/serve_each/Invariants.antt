use Rattle.life_archive.specs.Session.{ServesSome}
use Rattle.life_archive.proofs.session.serve_each.Given as goal

abbrev pub invariant-loop-connection : goal.invariant-loop-connection
invariant-loop-connection g l =
    ServesSome g.S.Store l.connection l.fn.archive l.archive (g.C.Connections.traffic l.fn.connections)
    (g.C.Connections.traffic l.connections)
