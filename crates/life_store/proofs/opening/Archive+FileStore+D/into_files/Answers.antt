use Rattle.std.proofs.Common.{refl}
use Rattle.life_store.proofs.RecoverableLemmas.{left_honest, left_allowed, left_held}
use Rattle.life_store.proofs.opening.Archive+FileStore+D.into_files.Goals as goal

pub returns-clause-left : goal.returns-clause-left
returns-clause-left g c =
    left_allowed c.args.self.store c.store_of.result c.close.result c.close.ensures c.store_of.ensures.numbered
    c.store_of.ensures.sound (λ db may. c.store_of.ensures.quiet.outcomes db may)

pub returns-clause-held : goal.returns-clause-held
returns-clause-held g c k healthy holds =
    left_held c.args.self.store c.store_of.result c.close.result k g.met.D.Disk.seen_may_stay
    (c.store_of.ensures.was_open healthy) (c.store_of.ensures.crash healthy k holds) (returns-clause-left g c)

pub returns-clause-honest : goal.returns-clause-honest
returns-clause-honest g c clean =
    left_honest c.args.self.store c.args.self.store c.store_of.result c.close.result c.close.ensures refl
    c.store_of.ensures.quiet.clean clean
