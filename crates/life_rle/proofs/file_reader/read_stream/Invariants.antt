use Rattle.std.proofs.Common.{◌≡◌, ◌≤◌, ◌-◌, ℕ}
use Rattle.life_rle.specs.Stream.{ConsumesUpTo}
use Rattle.life_rle.specs.FileReaderState.{IsSound, Followed}
use Rattle.life_rle.proofs.file_reader.read_stream.Given as goal

-- so many bytes were taken and read, no take failed, and none found the end
pub record IsFollowing (Told Sound Few Unfailed Unended : Type 0) (taken : ℕ) : Type 0 where
  pub told : Told
  pub sound : Sound
  pub few : Few
  pub unfailed : Unfailed
  pub unended : Unended
  pub most : taken ≤ 1048577

abbrev pub invariant-loop-taken : goal.invariant-loop-taken
invariant-loop-taken g l =
    IsFollowing (Followed (g.I.Inlet.to_come l.initial.inlet) (g.I.Inlet.to_come l.inlet) l.file_reader l.taken)
    (IsSound l.file_reader) (ConsumesUpTo l.taken (g.I.Inlet.to_come l.initial.inlet) (g.I.Inlet.to_come l.inlet))
    (g.I.Inlet.failures l.inlet ≡ g.I.Inlet.failures l.initial.inlet)
    (g.I.Inlet.ends l.inlet ≡ g.I.Inlet.ends l.initial.inlet) l.taken

abbrev pub decreases-loop-taken : goal.decreases-loop-taken
decreases-loop-taken g l = 1048577 - l.taken
