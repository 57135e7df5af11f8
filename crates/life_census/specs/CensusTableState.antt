-- The state while a table is written.
use Rattle.std.specs.Prelude.{◌≡◌, ℕ, List, Some, false, Vec}
use Rattle.csv.specs.Writing.{default_writer, text_written, fields_written, has_written, writer_setup}
use Rattle.csv.specs.declared.writer.Writer.{Writer}

-- a writer that is between two lines and has written this text
pub record Holds {A : Type 0} (w : Writer (Vec ℕ A)) (text : List ℕ) : Type 0 where
  pub text_is : text_written (λ v. Some v.items) w ≡ Some text
  pub fields : fields_written w ≡ 0
  pub wrote : has_written w ≡ false
  pub setup : writer_setup w ≡ default_writer
