use Rattle.std.proofs.Common.{◌≡◌, ◌++◌, codes, take}
use Rattle.std.specs.List.{flat_map}
use Rattle.life_pictures.specs.Frames.{frame}
use Rattle.life_pictures.proofs.picture_frames.put_frames.Given as goal

abbrev pub invariant-loop-pattern : goal.invariant-loop-pattern
invariant-loop-pattern g l =
    l.out.items ≡ l.initial.out.items ++ flat_map (λ Y. codes ";" ++ frame l.at Y) (take l.pattern-index l.patterns)
