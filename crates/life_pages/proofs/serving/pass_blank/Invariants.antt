use Rattle.std.proofs.Common.{◌≡◌, ◌≤◌, ◌+◌, ◌*◌, length}
use Rattle.life_rle.specs.Stream.{ConsumesUpTo}
use Rattle.life_pages.specs.Serving.{most_taken}
use Rattle.life_pages.specs.ServingState.{PassesBlank}
use Rattle.life_pages.proofs.serving.pass_blank.Given as goal

abbrev pub invariant-passed : goal.invariant-passed
invariant-passed g l =
    PassesBlank l._i (g.I.Inlet.to_come l.fn.input) (g.I.Inlet.to_come l.input)
    × ConsumesUpTo (l._i * most_taken) (g.I.Inlet.to_come l.fn.input) (g.I.Inlet.to_come l.input)
    × (g.I.Inlet.failures l.input ≡ g.I.Inlet.failures l.fn.input)
    × (length l.space ≡ most_taken)
    × (g.I.Inlet.takes l.input ≤ g.I.Inlet.takes l.fn.input + l._i)
    × (g.I.Inlet.ends l.input ≡ g.I.Inlet.ends l.fn.input)
