use Rattle.std.proofs.Common.{rules, ◌≡◌, ◌∙◌}
use Rattle.life_rle.specs.Stream.{incremented}
use Rattle.life_cli.proofs.net.PortConnectionsConnections.serve_next.Goals as goal

pub returns-in-Err : goal.returns-in-Err
returns-in-Err g c =
    let counted : c.saturating_add-self.result ≡ incremented c.args.self.now.failures = search rules in
    let it = c.in-Err.ensures c.args.self.now.failures in
    (it.0, it.1, (tt, tt, counted ∙ it.2.2))
