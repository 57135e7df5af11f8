-- The arguments of the private functions that draw frames.
use Rattle.std.specs.Prelude.{◌≡◌, ◌≤ℤ◌, ◌<◌, ◌+◌, ◌*◌, ℕ, true, List, ◌++◌, codes, length, map}
use Rattle.std.specs.List.{flat_map, range_with_len}
use Rattle.std.specs.FinSet as set
use Rattle.life_core.specs.declared.cell.Cell.{Cell}
use Rattle.life_core.specs.Pattern.{Cells, IsWithin, in_order}
use Rattle.life_core.specs.Rule.{RuleSets}
use Rattle.life_core.specs.Generations.{generation_of}
use Rattle.life_pictures.specs.declared.picture_frames.TheConstants.{MOST_FRAMES}
use Rattle.life_pictures.specs.Numbers.{with_number}
use Rattle.life_pictures.specs.Frames.{frame}

-- no cell of X is left of `at` or above it
abbrev pub IsCornerOf : Cell → Cells → Type 0
IsCornerOf at X = (c : Cell) → set.contains X c ≡ true → (at.column ≤ℤ c.column) × (at.row ≤ℤ c.row)

-- a pattern near the origin, and no more generations after it than an animation may show. A record fits in 1024 by
-- 1024 and evolves for at most 2048 generations, which gives 3072.
abbrev pub AreFrames : Cells → ℕ → Type 0
AreFrames start more = (more < MOST_FRAMES) × IsWithin 3072 start

-- the generations after X, this many
abbrev pub generations_after : RuleSets → Cells → ℕ → List Cells
generations_after rule X count = map (λ k. generation_of rule X (k + 1)) (range_with_len 0 count)

-- all cells of these sets
abbrev pub all_cells : List Cells → Cells
all_cells Xs = set.from_list (flat_map in_order Xs)

-- a set that can be a frame in a box with this upper left cell
abbrev pub IsFrame : Cell → Cells → Type 0
IsFrame at X = IsWithin 4096 X × IsCornerOf at X

-- a path that shows the frames of X and of later sets
abbrev pub path_of_frames : Cell → Cells → List Cells → List ℕ
path_of_frames at X later =
    codes "<path d=\"" ++ frame at X
    ++ with_number (codes "\"><animate attributeName=\"d\" calcMode=\"discrete\" dur=\"") (125 * (length later + 1))
    ++ codes "ms\" repeatCount=\"indefinite\" values=\"" ++ frame at X ++ flat_map (λ Y. codes ";" ++ frame at Y) later
    ++ codes "\"/></path>\n"
