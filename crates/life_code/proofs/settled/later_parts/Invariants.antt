use Rattle.std.specs.Prelude.{◌≡◌, map, take}
use Rattle.std.specs.List.{All}
use Rattle.std.specs.FinSet as set
use Rattle.life_core.specs.Cell.{IsCellWithin}
use Rattle.life_core.specs.Generations.{generation_of}
use Rattle.life_code.specs.Apart.{union_of}
use Rattle.life_code.specs.ApartState.{parts_of}
use Rattle.life_code.proofs.settled.later_parts.Given as goal

abbrev pub invariant-loop-part : goal.invariant-loop-part
invariant-loop-part g l = record {
  cells : set.from_list l.cells.items
      ≡ union_of (map (λ P. generation_of l.rule P l.n) (parts_of (take l.part-index l.parts)));
  inside : All (IsCellWithin 1000000000) l.cells.items;
}
