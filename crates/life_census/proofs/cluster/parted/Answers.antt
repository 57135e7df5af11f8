use Rattle.std.proofs.Common.{◌≡◌, ◌<◌, ◌≤◌, length, get_or, pos, subst, arith}
use Rattle.std.proofs.lemmas.List.{get_or_default}
use Rattle.life_core.specs.declared.runs.Run.{Run}
use Rattle.life_core.specs.Runs.{cells_in}
use Rattle.life_census.proofs.FloodLaws.{kept_same, order_kept}
use Rattle.life_census.proofs.ClusterSteps.{taken_within, parting_begins, parting_goes_on, parting_ends, left_after}
use Rattle.life_census.proofs.ClusterSteps.{none_left, past_more, start_gone}
use Rattle.life_census.proofs.cluster.parted.Goals as goal
use Rattle.life_census.proofs.cluster.parted.Goals.{then-left-i-gt0+in_ok-runs+in_ok-pattern_of+in_ok-push}
use Rattle.life_census.proofs.cluster.parted.Goals.{else-left-i-gt0}

abbrev blank : Run
blank = record { row = pos 0; first = pos 0; len = 0 }

pub loop-i-init : goal.loop-i-init
loop-i-init g c = record {
  parting = rw c.new-clusters.ensures.items (parting_begins (cells_in c.args.left.now));
  order = c.requires.order;
  past = λ k d none. absurd (omega arith);
}

pub flooded-requires-clause-start : goal.flooded-requires-clause-start
flooded-requires-clause-start g c =
    let low : c.loop-i.i < length c.loop-i.left = omega (arith, c.loop-i-test.true, c.loop-i.auto.left) in (
      low,
      λ d. subst (λ (r : Run). 1 ≤ r.len) (get_or_default c.loop-i.left c.loop-i.i blank d low)
          (omega (arith, c.if-left-i-gt0.true)),
    )

pub pattern_of-requires-clause-filled : goal.pattern_of-requires-clause-filled
pattern_of-requires-clause-filled g c = c.in_ok-runs.ensures.filled

pub pattern_of-requires-clause-inside : goal.pattern_of-requires-clause-inside
pattern_of-requires-clause-inside g c =
    taken_within _ _ _ _ _ _ c.loop-i.invariant.parting (c.in_ok-runs.ensures.flood blank) c.requires.inside

pub loop-i-preserved : goal.loop-i-preserved
loop-i-preserved g c =
    let left = c.loop-i.left in
    let i = c.loop-i.i in
    let low : i < length left = omega (arith, c.loop-i-test.true, c.loop-i.auto.left) in
    let before = c.loop-i.invariant in
    elim c.if-left-i-gt0.branch [
      | then-left-i-gt0+in_ok-runs+in_ok-pattern_of+in_ok-push w ↦
          let after = w.flooded.new.left in
          let kept = w.in_ok-runs.ensures.kept in
          let short : i < length after = let same = kept.length in omega arith in
          let f = w.in_ok-runs.ensures.flood blank in
          let gone = f.fresh _ f.begins in
          let full : 1 ≤ (get_or left i blank).len = omega (arith, w.if-left-i-gt0.true) in
          let least = left_after left after i blank before.order low full before.past kept gone in
          record {
            parting =
                rw (w.left-is, w.clusters-is, w.in_ok-push.ensures.items, w.in_ok-pattern_of.ensures)
                (parting_goes_on _ _ _ before.parting _ _ _ f w.in_ok-runs.ensures.clear least);
            order = rw w.left-is (order_kept left after kept before.order);
            past =
                rw w.left-is (past_more left after i blank short before.past kept
                (start_gone left after i blank short kept gone));
          }
      | else-left-i-gt0 w ↦
          let none : (get_or left i blank).len ≡ 0 = omega (arith, w.if-left-i-gt0.false) in
          record {
            parting = rw (w.left-is, w.clusters-is) before.parting;
            order = rw w.left-is before.order;
            past = rw w.left-is (past_more left left i blank low before.past (kept_same left) none);
          }
    ]

pub returns : goal.returns
returns g c =
    let end : length c.loop-i.left ≤ c.loop-i.i = omega (arith, c.loop-i-test.false, c.loop-i.auto.left) in
    parting_ends _ _ _ c.loop-i.invariant.parting (none_left c.loop-i.left c.loop-i.i end c.loop-i.invariant.past)
