use Rattle.std.proofs.Common.{◌∙◌}
use Rattle.std.proofs.lemmas.Result.{IfOk-weaker}
use Rattle.life_census.proofs.TableLines.{line_written}
use Rattle.life_census.proofs.census_table.add_line.Goals as goal

pub returns : goal.returns
returns g c =
    IfOk-weaker c.add_fields.result _ _
    (λ done wrote. line_written c.args.table.now c.add_fields.new.table c.args.code.now c.as_bytes.result.now
    c.args.count c.requires (c.as_bytes.ensures.value ∙ c.format.ensures.text) wrote) c.add_fields.ensures
