use Rattle.std.proofs.Common.{rules, ◌≡◌, ap, ◌∙◌, SFits, w64, to_z, of_z, to_z-of_z}
use Rattle.life_core.specs.declared.cell.Cell.{Cell}
use Rattle.life_core.specs.Generations.{generation_of}
use Rattle.life_core.proofs.Placements.{moved}
use Rattle.life_code.proofs.SettledLemmas.{phase_room, later_is, later_room}
use Rattle.life_code.proofs.settled.later_return.Goals as goal

pub generation-requires : goal.generation-requires
generation-requires g c =
    phase_room c.args.part.now c.args.n c.args.period c.requires.from c.requires.few c.requires.room

pub moved-requires : goal.moved-requires
moved-requires g c =
    let X = c.args.part.now in
    let fits_x : SFits w64 c.in-Some.total.column = search rules in
    let fits_y : SFits w64 c.in-Some.total.row = search rules in
    let v : Cell = record {
      row = to_z w64 (of_z w64 c.in-Some.total.row);
      column = to_z w64 (of_z w64 c.in-Some.total.column);
    } in
    let there : moved v c.in_ok-phase.phase ≡ generation_of c.args.rule.now X c.args.n =
    ap (moved v) c.in_ok-phase.ensures.value ∙ later_is c.args.rule.now X c.args.period c.args.by c.requires.from
    c.requires.back c.args.n v (to_z-of_z fits_x ∙ c.in-Some.ensures.0) (to_z-of_z fits_y ∙ c.in-Some.ensures.1) in
    later_room c.args.rule.now X _ c.args.n c.requires.room c.requires.few there

pub returns : goal.returns
returns g c =
    let X = c.args.part.now in
    let fits_x : SFits w64 c.in-Some.total.column = search rules in
    let fits_y : SFits w64 c.in-Some.total.row = search rules in
    let v : Cell = record {
      row = to_z w64 (of_z w64 c.in-Some.total.row);
      column = to_z w64 (of_z w64 c.in-Some.total.column);
    } in
    c.in_ok-moved.ensures ∙ ap (moved v) c.in_ok-phase.ensures.value
    ∙ later_is c.args.rule.now X c.args.period c.args.by c.requires.from c.requires.back c.args.n v
    (to_z-of_z fits_x ∙ c.in-Some.ensures.0) (to_z-of_z fits_y ∙ c.in-Some.ensures.1)
