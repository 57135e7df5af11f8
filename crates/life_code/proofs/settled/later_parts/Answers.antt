use Rattle.std.proofs.Common.{rules, ◌≡◌, ◌++◌, map, IfSome, ap, subst, sym, ◌∙◌}
use Rattle.std.specs.List.{All}
use Rattle.std.proofs.lemmas.List.{take_all}
use Rattle.std.proofs.lemmas.List.Elements.{All-append}
use Rattle.life_core.specs.Cell.{IsCellWithin}
use Rattle.life_core.specs.Generations.{generation_of}
use Rattle.life_code.specs.Apart.{union_of}
use Rattle.life_code.specs.ApartState.{parts_of}
use Rattle.life_code.proofs.SettledLemmas.{none_together, more_together}
use Rattle.life_code.proofs.settled.later_parts.Goals as goal

pub loop-part-init : goal.loop-part-init
loop-part-init g c =
    record { cells = none_together c.new-cells.result.items c.new-cells.ensures.items; inside = search rules }

pub loop-part-preserved : goal.loop-part-preserved
loop-part-preserved g c =
    let r = c.args.rule.now in
    let later : c.in-Some.later ≡ generation_of r c.part-item.result.part c.args.n = subst
    (λ o. IfSome o (λ X. X ≡ generation_of r c.part-item.result.part c.args.n)) c.in-Some.is c.in_ok-later.ensures in
    record {
      cells =
          more_together r c.args.n c.args.parts.now c.loop-part.part-index c.part-item.result
          c.in-Some.later c.loop-part.cells.items c.list_runs.new.cells.items c.cells.result.now
          c.loop-part-test.true c.part-item.is later
          c.cells.ensures.cells (c.in_ok-list_runs.ensures.cells
          ∙ ap (λ ds. c.loop-part.cells.items ++ ds) c.runs.ensures.cells) c.loop-part.invariant.cells;
      inside =
          subst (All (IsCellWithin 1000000000))
          (sym (c.in_ok-list_runs.ensures.cells ∙ ap (λ ds. c.loop-part.cells.items ++ ds) c.runs.ensures.cells))
          (All-append (IsCellWithin 1000000000) c.loop-part.cells.items c.cells.result.now
          c.loop-part.invariant.inside c.cells.ensures.inside);
    }

pub from_list-requires : goal.from_list-requires
from_list-requires g c = c.loop-part.invariant.inside

pub returns : goal.returns
returns g c =
    c.in_ok-from_list.ensures ∙ c.loop-part.invariant.cells
    ∙ ap (λ ms. union_of (map (λ P. generation_of c.args.rule.now P c.args.n) (parts_of ms)))
    (take_all c.loop-part.part-index c.args.parts.now c.loop-part-test.false)
