use Rattle.std.proofs.Common.{true≢false, sym, subst}
use Rattle.std.proofs.lemmas.List.Elements.{All-same}
use Rattle.std.proofs.lemmas.List.Sorted.{All-permutation}
use Rattle.std.specs.List.Sorted.{IsSorted, IsPermutation}
use Rattle.life_census.specs.Cluster.{AreClustersOf}
use Rattle.life_census.specs.SteadyState.{visit_cmp, IsVisitInPlane}
use Rattle.life_census.proofs.ClusterListing.{clusters_are}
use Rattle.life_census.proofs.SteadyLemmas.{not_steady, steady_if_apart}
use Rattle.life_census.proofs.meeting.never_meet.Goals as goal

pub returns-in_default-clause-answer : goal.returns-in_default-clause-answer
returns-in_default-clause-answer g c X same =
    let goes = rw c.in_default.is at c.in_ok-visits.ensures.stay in (
      λ wrong. absurd (true≢false (sym wrong)),
      λ steady. absurd (not_steady c.args.search.now.rule c.args.search.now.limit X c.args.clusters.now
          (subst (AreClustersOf X) same (clusters_are X)) goes steady),
    )

pub are_apart-requires-clause-sorted : goal.are_apart-requires-clause-sorted
are_apart-requires-clause-sorted g c =
    subst (IsSorted visit_cmp) (sym c.deref.ensures.value) c.sort_unstable.ensures.sorted

pub are_apart-requires-clause-inside : goal.are_apart-requires-clause-inside
are_apart-requires-clause-inside g c =
    let inside = rw c.in-Some.is at c.in_ok-visits.ensures.inside in
    All-same IsVisitInPlane _ _ c.deref.ensures.value
    (All-permutation IsVisitInPlane _ _ c.sort_unstable.ensures.permutation inside)

pub returns-clause-answer : goal.returns-clause-answer
returns-clause-answer g c X same =
    let stay = rw c.in-Some.is at c.in_ok-visits.ensures.stay in
    let visits = rw c.in-Some.is at c.in_ok-visits.ensures.visits in
    steady_if_apart c.args.search.now.rule c.args.search.now.limit X c.args.clusters.now (subst (AreClustersOf X) same
    (clusters_are X)) stay c.in-Some.visits.items visits c.deref.result.now c.are_apart.result
    (subst (IsPermutation c.in-Some.visits.items) (sym c.deref.ensures.value) c.sort_unstable.ensures.permutation)
    c.are_apart.ensures
