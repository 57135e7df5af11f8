use Rattle.std.proofs.Common.{◌+◌, ◌-◌, ap, sym, subst, arith}
use Rattle.life_core.specs.Pattern.{Cells, IsWithin}
use Rattle.life_core.proofs.GenerationsLaws.{within_more}
use Rattle.life_rle.specs.Record.{Contents}
use Rattle.life_jobs.proofs.pattern_jobs.later.Goals as goal

pub into_plain-requires : goal.into_plain-requires
into_plain-requires c =
    let inside = subst (λ (X : Cells). IsWithin (1024 - 1) X)
    (sym (ap (λ (r : Contents). r.cells) c.record.view_is)) c.requires.inside in
    within_more (1024 - 1) 500000000 _ (omega arith) inside

pub into_plain-requires-2 : goal.into_plain-requires-2
into_plain-requires-2 c =
    let inside = subst (λ (X : Cells). IsWithin (1024 - 1) X)
    (sym (ap (λ (r : Contents). r.cells) c.record.view_is)) c.requires.inside in
    within_more ((1024 - 1) + c.args.n) 500000000 _ (omega (arith, c.requires.few))
    (c.in_ok-cells.ensures.grown (1024 - 1) inside)
