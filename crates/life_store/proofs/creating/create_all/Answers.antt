use Rattle.std.proofs.Common.{arith}
use Rattle.sqlite.specs.State.{HasCleanDisk}
use Rattle.sqlite.specs.Held.{state}
use Rattle.life_store.proofs.CreatingLemmas.{creates_layout, creates_deposits, creates_censuses, creates_census_rows}
use Rattle.life_store.proofs.CreatingLemmas.{creates_version, creates_soundly}
use Rattle.life_store.proofs.creating.create_all.Goals as goal

pub returns-clause-has_tables : goal.returns-clause-has_tables
returns-clause-has_tables g c clean begun has_tables =
    let s0 = state g.S.Store c.args.tx.now.conn.now in
    let s1 = state g.S.Store c.execute.new.self.conn.now in
    let s2 = state g.S.Store c.execute-2.new.self.conn.now in
    let s3 = state g.S.Store c.execute-3.new.self.conn.now in
    let s4 = state g.S.Store c.execute-4.new.self.conn.now in
    let s5 = state g.S.Store c.create_census_flags.new.tx.conn.now in
    let s6 = state g.S.Store c.execute-5.new.self.conn.now in
    let clean_5 : HasCleanDisk s5 = omega (arith, c.execute-5.ensures.survives.clean, clean) in
    let clean_4 : HasCleanDisk s4 = omega (arith, c.create_census_flags.ensures.survives.clean, clean_5) in
    let clean_3 : HasCleanDisk s3 = omega (arith, c.execute-4.ensures.survives.clean, clean_4) in
    let clean_2 : HasCleanDisk s2 = omega (arith, c.execute-3.ensures.survives.clean, clean_3) in
    let clean_1 : HasCleanDisk s1 = omega (arith, c.execute-2.ensures.survives.clean, clean_2) in
    let ran_1 = c.in_ok-execute.ensures.runs clean_1 begun in
    let ran_2 = c.in_ok-execute-2.ensures.runs clean_2 ran_1.1.mode in
    let ran_3 = c.in_ok-execute-3.ensures.runs clean_3 ran_2.1.mode in
    let ran_4 = c.in_ok-execute-4.ensures.runs clean_4 ran_3.1.mode in
    let made_1 = creates_layout s0 s1 _ has_tables ran_1.0 in
    let made_2 = creates_deposits s1 s2 _ made_1 ran_2.0 in
    let made_3 = creates_censuses s2 s3 _ made_2 ran_3.0 in
    let made_4 = creates_census_rows s3 s4 _ made_3 ran_4.0 in
    let made_5 = c.in_ok-create_census_flags.ensures.has_tables clean_5 ran_4.1.mode made_4 in
    let ran_6 = c.in_ok-execute-5.ensures.runs clean made_5.0 in
    (creates_version s5 s6 _ made_5.1 ran_6.0, creates_soundly s5 s6 _ made_5.1 ran_6.0)
