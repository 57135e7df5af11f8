-- Narrower frames.
use Rattle.std.specs.Prelude.{◌≡◌, ◌⊎◌, ℕ, ◌+◌, ◌*◌, ◌<◌, ◌≤◌, List, slice_index_or}
use Rattle.life_core.specs.declared.packed.frame.Frame.{Frame}
use Rattle.life_core.specs.declared.packed.trimming.Narrower.{Narrower}
use Rattle.life_core.specs.PackedFrameState.{IsFrame}
use Rattle.life_core.specs.PackedMarginsState.{IsWider}

-- a frame within f that has all words of the rows that are not dead
pub record IsNarrower (f : Frame) (rows : List ℕ) (n : Narrower) : Type 0 where
  pub frame : IsFrame n.frame
  pub wider : IsWider n.frame (record { frame = f; left = n.left; top = n.top })
  pub dead : (y j : ℕ) → y < f.height → j < f.words → ((y < n.top) ⊎ (n.top + n.frame.height ≤ y))
      ⊎ ((j < n.left) ⊎ (n.left + n.frame.words ≤ j)) → slice_index_or rows (y * f.words + j) 0 ≡ 0
