use Rattle.std.proofs.Common.{◌≡◌, ◌≤◌, ◌-◌, length}
use Rattle.life_rle.specs.Stream.{Consumes}
use Rattle.life_archive.proofs.deposit.take_file.Given as goal

-- what was taken is held, no take failed, and none found the end
pub record IsTaking (Taken Unfailed Unended Few : Type 0) : Type 0 where
  pub taken : Taken
  pub unfailed : Unfailed
  pub unended : Unended
  pub few : Few

abbrev pub invariant-loop-buffer : goal.invariant-loop-buffer
invariant-loop-buffer g l =
    IsTaking (Consumes (g.I.Inlet.to_come l.initial.input) (g.I.Inlet.to_come l.input) l.file.items)
    (g.I.Inlet.failures l.input ≡ g.I.Inlet.failures l.initial.input)
    (g.I.Inlet.ends l.input ≡ g.I.Inlet.ends l.initial.input) (length l.file.items ≤ 1048577)

abbrev pub decreases-loop-buffer : goal.decreases-loop-buffer
decreases-loop-buffer g l = 1048577 - length l.file.items
