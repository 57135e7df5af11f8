use Rattle.std.proofs.Common.{codes, ◌++◌, ◌∷◌, [], List, ℕ, ap, ◌∙◌}
use Rattle.std.proofs.lemmas.List.{take_all}
use Rattle.std.proofs.lemmas.Result.{IfOk-weaker}
use Rattle.std.specs.List.{flat_map}
use Rattle.life_census.specs.CensusTable.{line}
use Rattle.life_census.proofs.TableLines.{same_text, more, names_are, rows_seen}
use Rattle.life_census.proofs.census_table.text_of.Goals as goal

abbrev head : List ℕ
head = codes "code,count" ++ 10 ∷ []

pub loop-row-init : goal.loop-row-init
loop-row-init g c = same_text _ _ _ names_are (c.in_ok-add_fields.ensures [] c.new_table-table.ensures)

pub loop-row-preserved : goal.loop-row-preserved
loop-row-preserved g c =
    same_text _ _ _
    (more (λ r. line r.code r.count) head c.args.rows.now c.loop-row.row-index c.row-item.result c.loop-row-test.true)
    (rw (← c.row-item.is, ← c.as_bytes.ensures.bytes) (c.in_ok-add_line.ensures _ c.loop-row.invariant))

pub returns : goal.returns
returns g c =
    let held = same_text _ _ _ (ap (λ rs. head ++ flat_map (λ r. line r.code r.count) rs) (take_all c.loop-row.row-index
    c.args.rows.now c.loop-row-test.false) ∙ ap (λ ls. head ++ ls) (rows_seen c.args.rows.now)) c.loop-row.invariant in
    IfOk-weaker c.finish.result _ _ (λ v h. h _ (c.in_ok-add_line-2.ensures _ held)) c.finish.ensures
