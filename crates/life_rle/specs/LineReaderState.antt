-- A file that is being read line by line: its result, if these lines remain.
use Rattle.std.specs.Prelude.{ℕ, List, Result, Ok, Err, if◌then◌else◌}
use Rattle.std.specs.List.{flat_map}
use Rattle.life_core.specs.Rule.{RuleSets}
use Rattle.life_rle.specs.declared.rle_fault.RleFault.{RleFault}
use Rattle.life_rle.specs.declared.rle_fault.RleFault.TheVariants.{TextLimit}
use Rattle.life_rle.specs.declared.line_reader.Stage.{Stage}
use Rattle.life_rle.specs.declared.line_reader.Stage.TheVariants as stages
use Rattle.life_rle.specs.declared.line_reader.LineReader.{LineReader}
use Rattle.life_rle.specs.RleFault.{◌>>=◌}
use Rattle.life_rle.specs.Notes.{Notes, is_past_limit, notes}
use Rattle.life_rle.specs.Header.{header_rule}
use Rattle.life_rle.specs.Record.{Contents}
use Rattle.life_rle.specs.File.{contents, chosen_rule, read_lines, body_part}
use Rattle.life_rle.specs.BodyState.{outcome}

-- the rule of a file with these texts and this header line without its blanks
unfoldable pub front_rule : Notes → List ℕ → Result RuleSets RleFault
front_rule notes text =
    if is_past_limit notes then Err TextLimit
    else do
      given ← header_rule text
      chosen_rule given notes.rule

-- the record or the first fault, by the stage, if these lines remain
abbrev pub resumed_at : {A : Type 0} → Stage → LineReader A → List (List ℕ) → Result Contents RleFault
resumed_at stages.Front r lines = read_lines (notes r.notes) lines
resumed_at stages.Body r lines =
    outcome r.body (flat_map body_part lines) >>= λ cells. Ok (contents (notes r.notes) r.rule cells)
resumed_at (stages.Failed fault) r lines = Err fault

-- the record or the first fault, if these lines remain
abbrev pub resumed : {A : Type 0} → LineReader A → List (List ℕ) → Result Contents RleFault
resumed r lines = resumed_at r.stage r lines
