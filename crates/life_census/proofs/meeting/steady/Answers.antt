use Rattle.std.proofs.Common.{◌≡◌, length, sym, ◌∙◌, arith}
use Rattle.std.proofs.lemmas.Result.{IfOk-weaker}
use Rattle.std.proofs.lemmas.List.Elements.{All-same}
use Rattle.life_core.specs.Pattern.{IsWithin}
use Rattle.life_census.proofs.ClusterLaws.{parts_within}
use Rattle.life_census.proofs.ClusterListing.{clusters_listed, whole_part}
use Rattle.life_census.proofs.SteadyLemmas.{one_cluster_steady}
use Rattle.life_census.proofs.SteadyDecided.{steady_computed}
use Rattle.life_census.proofs.meeting.steady.Goals as goal

pub returns-then-len-eq1-clause-steady : goal.returns-then-len-eq1-clause-steady
returns-then-len-eq1-clause-steady g c =
    let Ps = c.in_ok-clusters.clusters.items in
    let one : length Ps ≡ 1 = omega (arith, c.len.ensures, c.if-len-eq1.true, c.in_ok-clusters.clusters.ok) in
    one_cluster_steady c.args.rule.now c.args.limit c.args.pattern.now _ c.stays_in_place.result
    (whole_part c.args.pattern.now Ps c.in_ok-clusters.ensures one) c.in_ok-kind.ensures.value c.stays_in_place.ensures

pub returns-then-len-eq1-clause-computed : goal.returns-then-len-eq1-clause-computed
returns-then-len-eq1-clause-computed g c =
    steady_computed c.args.rule.now c.args.pattern.now c.args.limit c.stays_in_place.result
    (returns-then-len-eq1-clause-steady g c)

pub never_meet-requires-clause-room : goal.never_meet-requires-clause-room
never_meet-requires-clause-room g c =
    All-same (IsWithin 400000000) _ _ c.deref.ensures.value
    (parts_within 400000000 c.args.pattern.now _ c.in_ok-clusters.ensures c.requires.room)

pub returns-clause-steady : goal.returns-clause-steady
returns-clause-steady g c =
    IfOk-weaker c.never_meet.result _ _
    (λ b answer. answer c.args.pattern.now (sym (c.deref.ensures.value ∙ clusters_listed _ _ c.in_ok-clusters.ensures)))
    (rw c.new-search.ensures.rule at (rw c.new-search.ensures.limit at c.never_meet.ensures.answer))

pub returns-clause-computed : goal.returns-clause-computed
returns-clause-computed g c =
    IfOk-weaker c.never_meet.result _ _ (λ b answer. steady_computed c.args.rule.now c.args.pattern.now c.args.limit b
    (answer c.args.pattern.now (sym (c.deref.ensures.value ∙ clusters_listed _ _ c.in_ok-clusters.ensures))))
    (rw c.new-search.ensures.rule at (rw c.new-search.ensures.limit at c.never_meet.ensures.answer))
