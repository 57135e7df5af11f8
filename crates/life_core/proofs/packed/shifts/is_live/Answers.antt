use Rattle.std.proofs.Common.{sym, ap, ◌∙◌}
use Rattle.std.specs.FinSet as set
use Rattle.std.proofs.lemmas.Bool.{false≢true}
use Rattle.life_core.specs.PackedFrameState.{framed}
use Rattle.life_core.proofs.PatternMembers.{same_answer}
use Rattle.life_core.proofs.PackedCells.{live_in, place_is_live}
use Rattle.life_core.proofs.packed.shifts.is_live.Goals as goal

pub returns-then-has : goal.returns-then-has
returns-then-has c =
    let f = c.args.frame in
    c.is_set.ensures ∙ sym (ap (set.contains (framed f c.args.rows.now)) c.offset-x.ensures.cell
    ∙ place_is_live f c.args.rows.now c.requires.frame.wide c.requires.rows c.offset-x.result.0
    c.offset-x.result.1 c.offset-x.ensures.column c.offset-x.ensures.row)

pub returns-else-has : goal.returns-else-has
returns-else-has c =
    same_answer _ _ (λ h. absurd (false≢true h)) (λ h. absurd (false≢true (sym c.if-has.false
    ∙ c.has.ensures.1 (live_in c.args.frame c.args.rows.now c.requires.frame.wide c.requires.rows c.args.cell h))))
