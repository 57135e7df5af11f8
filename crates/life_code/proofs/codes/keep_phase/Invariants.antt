use Rattle.std.proofs.Common.{◌≡◌, take}
use Rattle.life_code.specs.Codes.{orientations}
use Rattle.life_code.specs.CodesState.{bytes_of}
use Rattle.life_code.proofs.CodesSteps.{kept_of}
use Rattle.life_code.proofs.codes.keep_phase.Given as goal

abbrev pub invariant-loop-orientation : goal.invariant-loop-orientation
invariant-loop-orientation g l =
    bytes_of l.best ≡ kept_of (bytes_of l.fn.best) l.phase (take l.orientation-index orientations)
