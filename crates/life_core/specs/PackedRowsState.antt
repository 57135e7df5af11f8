-- The state of a plane of packed rows.
use Rattle.std.specs.Prelude.{◌≡◌, ℕ, ◌+◌, ◌*◌, ◌/◌, ◌<◌, ◌≤◌, Bool, IsTrue, List, length}
use Rattle.std.specs.FinSet as set
use Rattle.life_core.specs.declared.cell.TheConstants.{PLANE}
use Rattle.life_core.specs.declared.packed.frame.Frame.{Frame}
use Rattle.life_core.specs.declared.packed.margins.Wider.{Wider}
use Rattle.life_core.specs.Pattern.{IsWithin}
use Rattle.life_core.specs.Rule.{RuleSets}
use Rattle.life_core.specs.Generations.{next}
use Rattle.life_core.specs.PackedRow.{one_if, place}
use Rattle.life_core.specs.PackedFrameState.{cell_in, framed, IsFrame}
use Rattle.life_core.specs.PackedMarksState.{IsMarked, mark_at, place_at}
use Rattle.life_core.specs.PackedMarginsState.{IsWhole, HasSlack}

-- a mark for each block, with one more at each end
pub record AreMarks (f : Frame) (marks : List ℕ) : Type 0 where
  pub count : mark_at (f.words / 2) (f.height / 16) 0 < 64 * length marks

-- each marked block between the first and the last line is also marked in the wider frame
pub record AreMoved (f : Frame) (w : Wider) (old new : List ℕ) : Type 0 where
  pub marked : (z c : ℕ) → 1 ≤ z → z + 2 ≤ f.height / 16 → c < f.words / 2 → IsMarked old (mark_at (f.words / 2) z c)
      → IsMarked new (mark_at (w.frame.words / 2) (w.top / 16 + z) (w.left / 2 + c))

-- between the first and the last line, out has the next generation of each block that is not marked
pub record AreSettled (f : Frame) (r : RuleSets) (rows out marks : List ℕ) : Type 0 where
  pub places : (z c i p : ℕ) → 1 ≤ z → z + 2 ≤ f.height / 16 → c < f.words / 2 → i < 16 → p < 128
      → place marks (mark_at (f.words / 2) z c) ≡ 0
      → place out (place_at (f.words / 2) z c i p)
      ≡ one_if (set.contains (next r (framed f rows)) (cell_in f.left f.top (128 * c + p) (16 * z + i)))

-- the invariant of packed rows
pub record IsPacked (f : Frame) (rows spare blocks next_blocks : List ℕ) (r : RuleSets) (follows : Bool) (slack : ℕ)
    : Type 0 where
  pub frame : IsFrame f
  pub whole : IsWhole f
  pub size : f.height * f.words ≡ length rows
  pub long : length spare ≡ length rows
  pub marks : AreMarks f blocks
  pub next_marks : AreMarks f next_blocks
  pub within : IsWithin PLANE (framed f rows)
  pub room : HasSlack f slack (framed f rows)
  pub spare_room : HasSlack f 0 (framed f spare)
  pub settled : IsTrue follows → AreSettled f r rows spare blocks
  pub after : IsTrue follows → framed f rows ≡ next r (framed f spare)
