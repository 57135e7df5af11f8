use Rattle.std.specs.List.{All}
use Rattle.life_code.specs.ApartState.{IsMoving, AreMoving}
use Rattle.life_code.proofs.ApartParts.{AreTaken}
use Rattle.life_code.proofs.apart.moving_parts.Given as goal

abbrev pub invariant-loop-frame : goal.invariant-loop-frame
invariant-loop-frame g l = record {
  taken : AreTaken l.pattern l.parts.items l.rest.items;
  moving : AreMoving l.rule l.parts.items;
  known : All (IsMoving l.rule) l.known.items;
}
