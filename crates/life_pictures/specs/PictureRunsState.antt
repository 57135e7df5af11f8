-- Runs of life_core as the runs of a path.
use Rattle.life_core.specs.declared.runs.Run.{Run as CellRun}
use Rattle.life_rle.specs.WriterState.{column_of, row_of}
use Rattle.life_pictures.specs.declared.picture_runs.Run.{Run}

-- a run of a normal pattern, as it is drawn
abbrev pub drawn : CellRun → Run
drawn r = record { column = column_of r; row = row_of r; length = r.len }
