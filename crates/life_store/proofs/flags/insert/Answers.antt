use Rattle.std.proofs.Common.{◌≡◌, ◌+◌, ◌∙◌, rules, arith, ap, sym, pos, Ok, length, subst}
use Rattle.sqlite_value.specs.declared.value.Value.TheVariants.{Int}
use Rattle.sqlite_value.specs.Value.{owned}
use Rattle.sqlite.specs.State.{ExecutesInside}
use Rattle.sqlite.specs.Held.{state}
use Rattle.life_store.proofs.StatementTexts.{add_flag_text}
use Rattle.life_store.specs.Stored.{flag_number}
use Rattle.life_store.proofs.CensusLemmas.{given_flag, adds_flag, sound_after}
use Rattle.life_store.proofs.StatementLemmas.{withstands_none, withstands_by}
use Rattle.life_store.proofs.flags.insert.Goals as goal

pub returns-clause-added : goal.returns-clause-added
returns-clause-added g c p t same is clean begun stands =
    let old = state g.S.Store c.args.tx.now.conn.now in
    let new = state g.S.Store c.execute.new.self.conn.now in
    let count = c.in_ok-execute.field-0 in
    let a : owned c.sql_integer.result ≡ Int (pos c.args.id) = search rules in
    let b : owned c.flag.result ≡ Int (pos (flag_number t.steady)) = c.flag.ensures
    ∙ ap (λ s. Int (pos (flag_number s))) (sym same) in
    let ran : ExecutesInside 0 add_flag_text (given_flag c.args.id t.steady) old new (Ok count) =
    rw (a, b) at (c.in_ok-execute.ensures.runs clean begun) in
    let next : c.args.id ≡ 1 + length p.flagged = omega (arith, is) in (
      ran.1.mode,
      adds_flag old new p stands count t
          (subst (λ n. ExecutesInside 0 add_flag_text (given_flag n t.steady) old new (Ok count)) next ran).0,
    )

pub returns-in_default-clause-withstands : goal.returns-in_default-clause-withstands
returns-in_default-clause-withstands g c = withstands_none _

pub returns-in_err-execute-clause-withstands : goal.returns-in_err-execute-clause-withstands
returns-in_err-execute-clause-withstands g c =
    withstands_by g.S.Store c.args.tx.now.conn.now c.execute.new.self.conn.now _ c.execute.ensures.survives

pub returns-clause-withstands : goal.returns-clause-withstands
returns-clause-withstands g c =
    withstands_by g.S.Store c.args.tx.now.conn.now c.execute.new.self.conn.now _ c.execute.ensures.survives

pub returns-clause-sound : goal.returns-clause-sound
returns-clause-sound g c clean begun p stands =
    sound_after (state g.S.Store c.args.tx.now.conn.now) (state g.S.Store c.execute.new.self.conn.now) p _
    (Ok c.in_ok-execute.field-0) stands (c.in_ok-execute.ensures.runs clean begun)
