-- Laws that make the definitions of pictures believable.
use Rattle.std.specs.Prelude.{◌≡◌, ◌≢◌, ◌≤◌, ◌<◌, ◌+◌, ◌-◌, ℕ, Bool, true, false, ◌||◌, List, [], ◌∷◌, ◌++◌, replicate}
use Rattle.std.specs.List.{All, flat_map}
use Rattle.std.specs.FinSet as set
use Rattle.life_core.specs.declared.cell.Cell.{Cell}
use Rattle.life_core.specs.Pattern.{Cells, corner, normal}
use Rattle.life_core.specs.Rule.{RuleSets}
use Rattle.life_core.specs.Generations.{generation_of}
use Rattle.life_pictures.specs.declared.picture_runs.Run.{Run}
use Rattle.life_pictures.specs.Frames.{trail, in_box}
use Rattle.life_pictures.specs.PictureLines.{trimmed}
use Rattle.life_pictures.specs.PictureRuns.{is_right_of, cells_of_run, runs_of}
use Rattle.life_pictures.specs.Title.{xml_text}

-- ---- lines

-- A line leaves out only dead cells at its end ..
abbrev pub DeadAreLeftOut : Type 0
DeadAreLeftOut = (all : List (Bool × Bool)) → (n : ℕ) × (trimmed all ++ replicate n (false, false) ≡ all)

-- .. and all of them: if it shows cells, one of the last two is live.
abbrev pub LinesEndLive : Type 0
LinesEndLive =
    (all front : List (Bool × Bool)) (last : Bool × Bool) → trimmed all ≡ front ++ last ∷ [] → (last.0 || last.1) ≡ true

-- ---- paths

-- The runs of a path have exactly the cells, in their order.
abbrev pub RunsAreTheCells : Type 0
RunsAreTheCells = (cells : List (ℕ × ℕ)) → flat_map cells_of_run (runs_of cells) ≡ cells

-- each run has a cell, and no run begins right after the end of the one before it
abbrev pub AreMaximalRuns : List Run → Type 0
AreMaximalRuns [] = Unit {0}
AreMaximalRuns (run ∷ []) = 0 < run.length
AreMaximalRuns (run ∷ next ∷ runs) =
    (0 < run.length) × (is_right_of (run.column + (run.length - 1), run.row) next ≡ false)
    × AreMaximalRuns (next ∷ runs)

-- No two neighbouring runs could be one.
abbrev pub RunsAreLongest : Type 0
RunsAreLongest = (cells : List (ℕ × ℕ)) → AreMaximalRuns (runs_of cells)

-- ---- animations

-- Each cell of a frame is in the set whose box is the view box.
abbrev pub FramesAreInTheBox : Type 0
FramesAreInTheBox =
    (rule : RuleSets) (X : Cells) (more k : ℕ) (c : Cell) → k ≤ more
    → set.contains (in_box (corner (trail rule X (more + 1))) (generation_of rule X k)) c ≡ true
    → set.contains (normal (trail rule X (more + 1))) c ≡ true

-- ---- titles

-- The XML text of a name has no `<`, so no name ends its title.
abbrev pub NamesStayText : Type 0
NamesStayText = (name : List ℕ) → All (λ byte. byte ≢ 60) (xml_text name)
