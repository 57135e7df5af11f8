use Rattle.std.proofs.Common.{◌≡◌, ◌++◌}
use Rattle.std.specs.List.{flat_map}
use Rattle.life_pictures.specs.Title.{escaped}
use Rattle.life_pictures.proofs.title.put_xml.Given as goal

abbrev pub invariant-loop-c : goal.invariant-loop-c
invariant-loop-c g l = l.out.items ≡ l.initial.out.items ++ flat_map escaped l.yielded
