use Rattle.std.proofs.Common.{◌<◌, length, get_or, pos, sym, ◌∙◌, inl, inr, arith}
use Rattle.std.proofs.lemmas.Bool.{cases_Bool, false≢true}
use Rattle.life_core.specs.declared.runs.Run.{Run}
use Rattle.life_core.specs.Runs.{in_run}
use Rattle.life_core.proofs.RunsLaws.{in_any}
use Rattle.life_core.proofs.RunsPlaces.{not_before, in_run_is, all_behind, below_end}
use Rattle.life_core.proofs.runs.find_cell.Goals as goal

abbrev none : Run
none = record { row = pos 0; first = pos 0; len = 0 }

pub returns-then-place-runs : goal.returns-then-place-runs
returns-then-place-runs c =
    sym (all_behind c.args.runs.now c.args.cell
    (λ k d low. c.first_from-place.ensures.behind k d (omega (arith, low, c.if-place-runs.true))))

pub returns : goal.returns
returns c =
    let rs = c.args.runs.now in
    let i = c.first_from-place.result in
    let low : i < length rs = below_end i (length rs) c.first_from-place.ensures.bound c.if-place-runs.false in
    c.has.ensures ∙ elim (cases_Bool (in_run (get_or rs i none) c.args.cell)) [
      | inl live ↦ live ∙ sym (in_any rs i none c.args.cell low ((in_run_is (get_or rs i none) c.args.cell).0 live))
      | inr dead ↦
          dead ∙ sym (not_before rs i none c.args.cell c.requires low c.first_from-place.ensures.behind
          (c.first_from-place.ensures.ahead i none (omega arith) low)
          (λ inside. false≢true (sym dead ∙ (in_run_is (get_or rs i none) c.args.cell).1 inside)))
    ]
