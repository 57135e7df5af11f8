use Rattle.std.proofs.Common.{subst, sym, refl}
use Rattle.std.specs.Option.{IsNone}
use Rattle.life_code.proofs.CodesSteps.{width_of_box, height_of_box, empty_box}
use Rattle.life_code.proofs.codes.extents.Goals as goal

pub returns-in-None-clause-columns : goal.returns-in-None-clause-columns
returns-in-None-clause-columns g c =
    (empty_box c.args.pattern.now (c.bounds.ensures.none.0 (subst IsNone (sym c.in-None.is) refl))).0

pub returns-in-None-clause-rows : goal.returns-in-None-clause-rows
returns-in-None-clause-rows g c =
    (empty_box c.args.pattern.now (c.bounds.ensures.none.0 (subst IsNone (sym c.in-None.is) refl))).1

pub returns-in-Some-clause-columns : goal.returns-in-Some-clause-columns
returns-in-Some-clause-columns g c = width_of_box _ _ _ _ _ c.requires c.in-Some.ensures.is_box

pub returns-in-Some-clause-rows : goal.returns-in-Some-clause-rows
returns-in-Some-clause-rows g c = height_of_box _ _ _ _ _ c.requires c.in-Some.ensures.is_box
