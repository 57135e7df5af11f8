-- A text that is being written, completed by the cells and items that remain.
use Rattle.std.specs.Prelude.{ℕ, List, ◌++◌, take}
use Rattle.life_rle.specs.declared.writer.ItemLines.{ItemLines}
use Rattle.life_rle.specs.declared.writer.BodyWriter.{BodyWriter}
use Rattle.life_rle.specs.Writer.{laid}
use Rattle.life_rle.specs.WriterState.{texts_from}

-- the complete text, if these items are written next
abbrev pub written : {A : Type 0} → ItemLines A → List (List ℕ) → List ℕ
written lines items = lines.out.items ++ (take lines.used lines.line ++ laid lines.used items)

-- the complete text, if these cells and then these items are written next
abbrev pub body_written : {A : Type 0} → BodyWriter A → List (ℕ × ℕ) → List (List ℕ) → List ℕ
body_written body cells items = written body.lines (texts_from body.live body.row body.column cells ++ items)
