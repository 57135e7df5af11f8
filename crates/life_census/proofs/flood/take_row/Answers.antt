use Rattle.std.proofs.Common.{rules, SFits, ◌≡◌, ◌<◌, ◌≤◌, length, get_or, pos, ◌-ℤ◌, to_z, of_z, w64, sym, subst, ◌∙◌}
use Rattle.std.proofs.Common.{arith}
use Rattle.std.proofs.lemmas.Int.{ints, to_z-of_z}
use Rattle.std.proofs.lemmas.List.{get_or_default}
use Rattle.life_core.specs.declared.runs.Run.{Run}
use Rattle.life_core.specs.Runs.{IsAhead}
use Rattle.life_census.specs.FloodState.{IsTaken, HasGrown}
use Rattle.life_census.proofs.FloodLaws.{AreClose, grown_none, grown_trans, grown_taken, order_kept, none_behind}
use Rattle.life_census.proofs.FloodLaws.{close_in_row, none_beyond, clear_past, clear_row, taken_empty, taken_other}
use Rattle.life_census.proofs.FloodLaws.{from_true, from_false}
use Rattle.life_census.proofs.flood.take_row.Goals as goal

abbrev blank : Run
blank = record { row = pos 0; first = pos 0; len = 0 }

pub loop-i-init : goal.loop-i-init
loop-i-init g c =
    let same = to_z-of_z w64 c.args.row c.ranges.row in
    let from : SFits w64 c.reach-from.result.0 = search rules in
    record {
      low = c.first_from-i.ensures.bound;
      grown = grown_none _ _ _;
      clear =
          λ k d e before round on inside. none_behind c.args.run (get_or c.args.left.now k d) c.args.row _ _ e
          (c.first_from-i.ensures.behind k d before) (omega (arith, ints, c.ranges.row))
          (omega (arith, ints, c.reach-from.ensures.from, from)) round (on ∙ same) inside;
      ahead = λ k d after low.
          let column : to_z w64 (of_z w64 c.reach-from.result.0) ≡ c.args.run.first -ℤ pos 2 =
          to_z-of_z w64 c.reach-from.result.0 from ∙ c.reach-from.ensures.from in
          subst (IsAhead (get_or c.args.left.now k d) (to_z w64 (of_z w64 c.args.row))) column
          (c.first_from-i.ensures.ahead k d after low);
    }

pub take_run-requires : goal.take_run-requires
take_run-requires g c = c.loop-i-test.true

pub loop-i-preserved : goal.loop-i-preserved
loop-i-preserved g c =
    let left = c.loop-i.left in
    let after = c.take_run.new.left in
    let cluster = c.loop-i.cluster.items in
    let longer = c.take_run.new.cluster.items in
    let i = c.loop-i.i in
    let low : i < length left = c.loop-i-test.true in
    let before = c.loop-i.invariant in
    let r : Run = get_or left i blank in
    let item : r ≡ get_or left i r = get_or_default left i blank r low in
    let taken : IsTaken r i left cluster after longer = c.in_ok-take_run.ensures blank in
    let order = order_kept c.args.left.now left before.grown.kept c.requires.order in
    let to : SFits w64 c.reach-from.result.1 = search rules in
    let close : AreClose c.args.run r = close_in_row c.args.run r c.args.row _ _ _ _ (before.ahead i blank
    (omega arith) low) (from_true _ _ _ c.begins_before.ensures c.if-begins_before.true) c.requires.row
    (omega (arith, ints, c.ranges.row)) (omega (arith, ints, c.ranges.row)) (omega (arith, ints))
    (omega (arith, ints, c.reach-from.ensures.to, to)) in
    let step : HasGrown c.args.run left cluster after longer =
    grown_taken c.args.run r left cluster after longer i order low item close taken in
    let same : length after ≡ length left = step.kept.length in
    record {
      low = omega arith;
      grown =
          grown_trans c.args.run c.args.left.now left after c.args.cluster.now.items cluster longer before.grown step;
      clear =
          clear_past c.args.run left after i _ step.kept before.clear
          (λ d. taken_empty r left cluster after longer i d low item taken);
      ahead =
          λ k d behind short. rw (taken_other r left cluster after longer i k d (λ one. omega arith) taken)
          (before.ahead k d (omega arith) (omega arith));
    }

pub returns-else-begins_before-clause-clear : goal.returns-else-begins_before-clause-clear
returns-else-begins_before-clause-clear g c e round on =
    let left = c.loop-i.left in
    let before = c.loop-i.invariant in
    let same = to_z-of_z w64 c.args.row c.ranges.row in
    let order = order_kept c.args.left.now left before.grown.kept c.requires.order in
    let to : SFits w64 c.reach-from.result.1 = search rules in
    clear_row c.args.run left c.loop-i.i _ e before.clear round (on ∙ sym same)
    (λ k d after low inside. none_beyond c.args.run left c.loop-i.i k blank d _ _ e order
    (from_false _ _ _ c.begins_before.ensures c.if-begins_before.false) after low
    (omega (arith, ints, c.reach-from.ensures.to, to)) round (on ∙ sym same) inside)

pub returns-after-loop-i-clause-clear : goal.returns-after-loop-i-clause-clear
returns-after-loop-i-clause-clear g c e round on =
    let same = to_z-of_z w64 c.args.row c.ranges.row in
    let end : length c.loop-i.left ≤ c.loop-i.i = c.loop-i-test.false in
    clear_row c.args.run c.loop-i.left c.loop-i.i _ e c.loop-i.invariant.clear round (on ∙ sym same)
    (λ k d after low inside. omega arith)
