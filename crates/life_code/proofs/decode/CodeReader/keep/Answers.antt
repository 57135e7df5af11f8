use Rattle.std.proofs.Common.{rules, inl, inr}
use Rattle.life_code.proofs.DecodeSteps.{IsColumn, column_outside, column_kept}
use Rattle.life_code.proofs.decode.CodeReader.keep.Goals as goal
use Rattle.life_code.proofs.decode.CodeReader.keep.Goals.{then-self-lt8+then-self-lt40, else-self-lt8}
use Rattle.life_code.proofs.decode.CodeReader.keep.Goals.{else-self-lt8-via-then-self-lt8+else-self-lt40}
use Rattle.life_code.proofs.decode.CodeReader.keep.Goals.{else-self-lt8-via-else-self-lt8}

pub returns-clause-cells : goal.returns-clause-cells
returns-clause-cells c text x y in_row in_column =
    let is : IsColumn c.args.c = record {
      not_0 = c.requires.not_0;
      not_w = c.requires.not_w;
      not_x = c.requires.not_x;
      not_y = c.requires.not_y;
      not_z = c.requires.not_z;
    } in
    let reader = c.args.self.now in
    elim c.if-self-lt8.branch [
      | then-self-lt8+then-self-lt40 w ↦
          rw (w.self-is, c.requires.plain, w.value_of.ensures) (column_kept c.args.c is reader.strip reader.column
          text x y reader.columns (search rules) reader.blank in_row in_column w.if-self-lt8.true w.if-self-lt40.true)
      | else-self-lt8 w ↦
          rw (w.self-is, c.requires.plain) (column_outside c.args.c is reader.strip reader.column
          text x y reader.columns in_row in_column (elim w.else-self-lt8.branch [
            | else-self-lt8-via-then-self-lt8+else-self-lt40 w' ↦ inr w'.if-self-lt40.false
            | else-self-lt8-via-else-self-lt8 w' ↦ inl w'.if-self-lt8.false
          ]))
    ]
