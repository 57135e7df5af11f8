use Rattle.std.proofs.Common.{refl}
use Rattle.life_code.specs.CodesState.{bytes_of}
use Rattle.life_code.proofs.CodesSteps.{keep_orientation, kept_all}
use Rattle.life_code.proofs.codes.keep_phase.Goals as goal

pub loop-orientation-init : goal.loop-orientation-init
loop-orientation-init g c = refl

pub loop-orientation-preserved : goal.loop-orientation-preserved
loop-orientation-preserved g c =
    keep_orientation (bytes_of c.args.best.now) (bytes_of c.loop-orientation.best)
    (bytes_of c.keep_turned.new.best) c.args.phase.now c.loop-orientation.orientation-index
    c.loop-orientation-test.true c.loop-orientation.invariant c.in_ok-keep_turned.ensures

pub returns : goal.returns
returns g c =
    kept_all _ _ _ c.loop-orientation.orientation-index c.loop-orientation-test.false c.loop-orientation.invariant
