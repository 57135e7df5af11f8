use Rattle.std.proofs.Common.{rules, ◌≡◌, ◌+◌, length, List, sym, ap, ◌∙◌, arith}
use Rattle.life_core.specs.declared.runs.Run.{Run}
use Rattle.life_core.specs.Runs.{runs_cells}
use Rattle.life_core.proofs.RunsLemmas.{length-more}
use Rattle.life_core.proofs.runs.Runs.push_run.Goals as goal

pub invariant_of-self : goal.invariant_of-self
invariant_of-self g c = record {
  longest = c.add_run.ensures.longest;
  count = c.self.invariant.count ∙ ap (λ (rs : List Run). length (runs_cells rs)) (sym c.in_err-add_run.ensures.same);
}

pub invariant_of-self-2 : goal.invariant_of-self-2
invariant_of-self-2 g c =
    let long = ap length c.in_ok-add_run.ensures.cells ∙ length-more (runs_cells c.self.inside.runs.items) c.args.run in
    let sum : c.in-Some.len ≡ c.self.inside.len + c.args.run.len = search rules in
    record { longest = c.add_run.ensures.longest; count = omega (arith, sum, long, c.self.invariant.count) }
