use Rattle.std.specs.Prelude.{◌≡◌, ℕ, ◌-◌, ◌<◌, true}
use Rattle.std.specs.FinSet as set
use Rattle.life_core.specs.declared.cell.Cell.{Cell}
use Rattle.life_core.specs.Generations.{generation_of}
use Rattle.life_code.specs.PartFramesState.{IsInFrame}
use Rattle.life_code.proofs.apart.orbit_of.Given as goal

abbrev pub invariant-loop-period : goal.invariant-loop-period
invariant-loop-period g l = record {
  now : g.P.Plane.cells l.plane ≡ generation_of l.rule l.part (l.period - 1);
  inside : (i : ℕ) (c : Cell) → i < l.period → set.contains (generation_of l.rule l.part i) c ≡ true
      → IsInFrame l.frame c;
}
