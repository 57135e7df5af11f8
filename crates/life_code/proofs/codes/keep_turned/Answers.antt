use Rattle.std.proofs.Common.{ap, sym, subst, ◌∙◌}
use Rattle.life_core.specs.Pattern.{IsWithin, normal}
use Rattle.life_core.proofs.PatternCorners.{normal-normal}
use Rattle.life_code.proofs.CodesSteps.{turned_set_within}
use Rattle.life_code.proofs.codes.keep_turned.Goals as goal

pub into_normal-shape-requires : goal.into_normal-shape-requires
into_normal-shape-requires g c =
    subst (IsWithin 500000000) (sym c.in_ok-turned.ensures)
    (turned_set_within 500000000 c.args.orientation _ c.requires)

pub text_of-requires : goal.text_of-requires
text_of-requires g c = ap normal c.into_normal-shape.ensures ∙ normal-normal _ ∙ sym c.into_normal-shape.ensures
