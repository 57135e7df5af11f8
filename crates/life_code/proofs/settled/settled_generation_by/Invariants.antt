use Rattle.std.specs.Prelude.{◌≡◌}
use Rattle.std.specs.List.{All}
use Rattle.life_core.specs.Generations.{generation_of}
use Rattle.life_code.specs.ApartState.{IsMoving}
use Rattle.life_code.proofs.settled.settled_generation_by.Given as goal

abbrev pub invariant-loop-i : goal.invariant-loop-i
invariant-loop-i g l = record {
  now : g.P.Plane.cells l.plane ≡ generation_of l.rule l.pattern l.i;
  known : All (IsMoving l.rule) l.known.items;
}
