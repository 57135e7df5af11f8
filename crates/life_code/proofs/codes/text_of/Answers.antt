use Rattle.life_code.proofs.CodesSteps.{text_fits, no_text}
use Rattle.life_code.proofs.codes.text_of.Goals as goal

pub returns-in_ok-wechsler : goal.returns-in_ok-wechsler
returns-in_ok-wechsler g c =
    text_fits _ _ _ _ c.extents-columns.ensures.columns c.extents-columns.ensures.rows c.if-columns-le-LARGEST_BOX.true
    c.if-rows-le-LARGEST_BOX.true c.in_ok-wechsler.ensures

pub returns-else-columns-le-LARGEST_BOX : goal.returns-else-columns-le-LARGEST_BOX
returns-else-columns-le-LARGEST_BOX g c =
    no_text _ _ _ c.extents-columns.ensures.columns c.extents-columns.ensures.rows c.else-columns-le-LARGEST_BOX.either
