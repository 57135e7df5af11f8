use Rattle.std.specs.Prelude.{◌≡◌, ℕ, List, IfOk}
use Rattle.std.proofs.Common.{◌+◌, ◌-◌, ap, sym, subst, arith}
use Rattle.life_core.specs.Pattern.{Cells, IsWithin}
use Rattle.life_core.proofs.GenerationsLaws.{within_more}
use Rattle.life_rle.specs.Record.{Contents}
use Rattle.life_jobs.proofs.PatternJobsLemmas.{table_of_record}
use Rattle.life_jobs.proofs.pattern_jobs.census_table.Goals as goal

pub tally-requires : goal.tally-requires
tally-requires c =
    let inside = subst (λ (X : Cells). IsWithin (1024 - 1) X)
    (sym (ap (λ (r : Contents). r.cells) c.record.view_is)) c.requires.inside in
    record {
      from_one = c.requires.limit.0;
      few = c.requires.limit.1;
      room =
          within_more ((1024 - 1) + c.args.n) 400000000 _ (omega (arith, c.requires.few))
          (c.in_ok-cells.ensures.grown (1024 - 1) inside);
    }

pub returns : goal.returns
returns c =
    subst (λ (all : List ℕ). IfOk c.csv.result (λ v. v.items ≡ all))
    (table_of_record _ c.args.record.now c.args.n c.args.limit c.in_ok-cells.cells c.in_ok-tally.tally
    c.record.view_is c.in_ok-cells.ensures.value c.in_ok-tally.ensures)
    c.csv.ensures
