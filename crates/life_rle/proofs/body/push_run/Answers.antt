use Rattle.std.proofs.lemmas.List.Elements.{All-same}
use Rattle.std.proofs.lemmas.Result.{on_ok_weaker, on_err_weaker}
use Rattle.life_rle.specs.Body.{IsPlaced}
use Rattle.life_rle.proofs.ResultLemmas.{either_way}
use Rattle.life_rle.proofs.RunPairs.{placed_run}
use Rattle.life_rle.proofs.body.push_run.Goals as goal

pub returns-clause-run : goal.returns-clause-run
returns-clause-run g c =
    on_ok_weaker c.push_run.result (λ is. (placed_run c.args.cells.now c.push_run.new.self
    c.args.row c.args.column c.args.count c.requires.row c.requires.columns is).0) c.push_run.ensures.cells

pub returns-clause-inside : goal.returns-clause-inside
returns-clause-inside g c =
    either_way c.push_run.result
    (on_ok_weaker c.push_run.result (λ is. (placed_run c.args.cells.now c.push_run.new.self c.args.row
    c.args.column c.args.count c.requires.row c.requires.columns is).1 c.requires.inside) c.push_run.ensures.cells)
    (on_err_weaker c.push_run.result (λ same. All-same IsPlaced _ _ same c.requires.inside) c.push_run.ensures.same)
