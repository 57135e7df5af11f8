-- The state while a Wechsler text is read.
use Rattle.std.specs.Prelude.{ℕ, Bool, List}
use Rattle.life_code.specs.declared.decode.CodeReader.{CodeReader}
use Rattle.life_code.specs.DecodeState.{awaited_cell}

-- whether the cell in column x and row y of the box will be live once the remaining text is read
abbrev pub awaited : CodeReader → List ℕ → ℕ → ℕ → Bool
awaited reader text x y = awaited_cell reader.columns reader.strip reader.column reader.after_y text x y
