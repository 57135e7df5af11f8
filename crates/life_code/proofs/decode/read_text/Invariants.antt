use Rattle.std.proofs.Common.{◌≡◌, ◌<◌, ◌≤◌, ◌*◌, ℕ, drop, false}
use Rattle.life_code.specs.DecodeState.{spells_cell}
use Rattle.life_code.specs.CodeReaderState.{awaited}
use Rattle.life_code.proofs.decode.read_text.Given as goal

abbrev pub invariant-loop-c : goal.invariant-loop-c
invariant-loop-c l = record {
  cells : (x y : ℕ) → x < 40 → y < 40 → awaited l.reader (drop l.c-index l.text) x y ≡ spells_cell 0 false l.text x y;
  column : l.reader.column ≤ 300 * l.c-index;
  strip : l.reader.strip ≤ l.c-index;
}
