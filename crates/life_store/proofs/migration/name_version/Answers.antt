use Rattle.sqlite.specs.Held.{state}
use Rattle.life_store.proofs.UpdateLemmas.{renames, renames_soundly}
use Rattle.life_store.proofs.migration.name_version.Goals as goal

pub returns-clause-named : goal.returns-clause-named
returns-clause-named g c clean begun p stands first =
    renames (state g.S.Store c.args.tx.now.conn.now) (state g.S.Store c.execute.new.self.conn.now)
    c.in_ok-execute.field-0 p stands first (c.in_ok-execute.ensures.runs clean begun).0

pub returns-clause-sound : goal.returns-clause-sound
returns-clause-sound g c clean begun p stands =
    renames_soundly (state g.S.Store c.args.tx.now.conn.now) (state g.S.Store c.execute.new.self.conn.now)
    c.in_ok-execute.field-0 p stands (c.in_ok-execute.ensures.runs clean begun).0
