use Rattle.std.proofs.Common.{take}
use Rattle.life_code.specs.ApartState.{KeepsApartFrom}
use Rattle.life_code.proofs.apart.keeps_apart_from.Given as goal

abbrev pub invariant-loop-part : goal.invariant-loop-part
invariant-loop-part g l = KeepsApartFrom (take l.part-index l.parts) l.orbit
