-- The output of `life-draw` for its input.
use Rattle.std.specs.Prelude.{ℕ, ◌≤◌, ◌<◌, ◌-◌, List, Result}
use Rattle.life_rle.specs.declared.rle_fault.RleFault.{RleFault}
use Rattle.life_rle.specs.Record.{Contents}
use Rattle.life_jobs.specs.PatternJobs.{file_text}
use Rattle.life_pictures.specs.declared.draw_job.Picture.{Picture}
use Rattle.life_pictures.specs.declared.draw_job.Picture.TheVariants.{Text, Svg, Animation}
use Rattle.life_pictures.specs.PictureLines.{text}
use Rattle.life_core.specs.declared.generations.TheConstants.{GENERATION_LIMIT}
use Rattle.life_pictures.specs.declared.picture_frames.TheConstants.{MOST_FRAMES}
use Rattle.life_pictures.specs.Document.{svg}
use Rattle.life_pictures.specs.Frames.{animation}

-- the numbers of a picture are valid: the generations of an animation are in range, and not too many
abbrev pub IsGood : Picture → Type 0
IsGood (Animation first last) = (first ≤ last) × (last ≤ GENERATION_LIMIT) × (last - first < MOST_FRAMES)
IsGood picture = Unit {0}

-- the picture of a record
abbrev pub drawn : Picture → Contents → List ℕ
drawn Text = λ r. text r.cells
drawn Svg = svg
drawn (Animation first last) = λ r. animation r first (last - first)

-- the picture of a file, or the file's first fault
abbrev pub picture_text : Picture → List ℕ → Result (List ℕ) RleFault
picture_text picture = file_text (drawn picture)
