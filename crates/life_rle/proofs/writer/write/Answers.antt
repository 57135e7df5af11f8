use Rattle.std.proofs.Common.{◌≡◌, ◌∙◌, ap, subst, rules}
use Rattle.life_core.specs.Rule.{IsRule}
use Rattle.life_rle.specs.Record.{Contents, IsRecord}
use Rattle.life_rle.specs.File.{kept}
use Rattle.life_rle.specs.Writer.{text}
use Rattle.life_rle.proofs.RunPairs.{normal_runs}
use Rattle.life_rle.proofs.RoundText.{read_again}
use Rattle.life_rle.proofs.writer.write.Goals as goal

pub size_of-width-requires : goal.size_of-width-requires
size_of-width-requires g c =
    (normal_runs c.record.inside.cells c.cells.result.now c.runs-runs.result.now c.record.invariant.cells
    c.cells.ensures.cells c.cells.ensures.inside c.runs-runs.ensures.cells c.runs-runs.ensures.longest).0

pub write_body-requires : goal.write_body-requires
write_body-requires g c =
    (normal_runs c.record.inside.cells c.cells.result.now c.runs-runs.result.now c.record.invariant.cells
    c.cells.ensures.cells c.cells.ensures.inside c.runs-runs.ensures.cells c.runs-runs.ensures.longest).1

pub returns-clause-again : goal.returns-clause-again
unfolding text
returns-clause-again g c inside =
    let r : Contents = c.args.record.now in
    let written : c.in_ok-write_body.field-0.items ≡ text c.args.record.now = search rules in
    ap kept written ∙ read_again r (subst IsRecord c.record.view_is c.record.invariant)
    (subst (λ (s : Contents). IsRule s.rule) c.record.view_is c.text.ensures.kept) inside
