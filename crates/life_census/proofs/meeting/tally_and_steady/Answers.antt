use Rattle.std.proofs.Common.{◌≡◌, List, length, sym, subst, ◌∙◌, arith}
use Rattle.std.proofs.lemmas.List.Elements.{All-same}
use Rattle.life_core.specs.Pattern.{Cells, IsWithin}
use Rattle.life_code.specs.Codes.{code_of}
use Rattle.life_census.specs.Counting.{IsTally}
use Rattle.life_census.proofs.ClusterLaws.{parts_within}
use Rattle.life_census.proofs.ClusterListing.{clusters_listed, whole_part}
use Rattle.life_census.proofs.SteadyLemmas.{one_cluster_steady}
use Rattle.life_census.proofs.SteadyDecided.{steady_computed}
use Rattle.life_census.proofs.SurveyLaws.{unlisted}
use Rattle.life_census.proofs.meeting.tally_and_steady.Goals as goal

pub returns-then-len-eq1-clause-tally : goal.returns-then-len-eq1-clause-tally
returns-then-len-eq1-clause-tally g c =
    let one : length c.in_ok-clusters.clusters.items ≡ 1 =
    omega (arith, c.len.ensures, c.if-len-eq1.true, c.in_ok-clusters.clusters.ok) in
    subst (λ (Ps : List Cells). IsTally (λ P. code_of c.args.rule.now P c.args.limit) Ps c.in_ok-tally.tally)
    (whole_part c.args.pattern.now _ c.in_ok-clusters.ensures one)
    (rw c.new-search.ensures.rule at (rw c.new-search.ensures.limit at c.in_ok-tally.ensures))

pub returns-then-len-eq1-clause-steady : goal.returns-then-len-eq1-clause-steady
returns-then-len-eq1-clause-steady g c =
    let one : length c.in_ok-clusters.clusters.items ≡ 1 =
    omega (arith, c.len.ensures, c.if-len-eq1.true, c.in_ok-clusters.clusters.ok) in
    one_cluster_steady c.args.rule.now c.args.limit c.args.pattern.now _ c.stays_in_place.result
    (whole_part c.args.pattern.now _ c.in_ok-clusters.ensures one) c.in_ok-kind.ensures.value c.stays_in_place.ensures

pub returns-then-len-eq1-clause-computed : goal.returns-then-len-eq1-clause-computed
returns-then-len-eq1-clause-computed g c =
    steady_computed c.args.rule.now c.args.pattern.now c.args.limit c.stays_in_place.result
    (returns-then-len-eq1-clause-steady g c)

pub never_meet-requires-clause-room : goal.never_meet-requires-clause-room
never_meet-requires-clause-room g c =
    All-same (IsWithin 400000000) _ _ c.deref.ensures.value
    (parts_within 400000000 c.args.pattern.now _ c.in_ok-clusters.ensures c.requires.room)

pub tally_of-requires-clause-room : goal.tally_of-requires-clause-room
tally_of-requires-clause-room g c =
    All-same (IsWithin 400000000) _ _ c.deref-2.ensures.value
    (parts_within 400000000 c.args.pattern.now _ c.in_ok-clusters.ensures c.requires.room)

pub tally_of-requires-clause-survey : goal.tally_of-requires-clause-survey
tally_of-requires-clause-survey g c =
    unlisted c.new-search.result.rule c.new-search.result.limit c.never_meet.new.shapes.items
    c.in_ok-steady.ensures.survey

pub returns-clause-tally : goal.returns-clause-tally
returns-clause-tally g c =
    subst (λ (Ps : List Cells). IsTally (λ P. code_of c.args.rule.now P c.args.limit) Ps c.in_ok-tally-2.tally)
    (c.deref-2.ensures.value ∙ clusters_listed _ _ c.in_ok-clusters.ensures)
    (rw c.new-search.ensures.rule at (rw c.new-search.ensures.limit at c.in_ok-tally-2.ensures))

pub returns-clause-steady : goal.returns-clause-steady
returns-clause-steady g c =
    (rw c.new-search.ensures.rule at (rw c.new-search.ensures.limit at c.in_ok-steady.ensures.answer))
    c.args.pattern.now (sym (c.deref.ensures.value ∙ clusters_listed _ _ c.in_ok-clusters.ensures))

pub returns-clause-computed : goal.returns-clause-computed
returns-clause-computed g c =
    steady_computed c.args.rule.now c.args.pattern.now c.args.limit c.in_ok-steady.steady (returns-clause-steady g c)
