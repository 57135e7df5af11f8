use Rattle.std.proofs.Common.{List, IfOk, length, subst, ◌∙◌, ◌≡◌, arith}
use Rattle.std.proofs.lemmas.List.Elements.{All-same}
use Rattle.life_core.specs.Pattern.{Cells, IsWithin}
use Rattle.life_code.specs.Codes.{code_of}
use Rattle.life_census.specs.Counting.{IsTally}
use Rattle.life_census.proofs.ClusterLaws.{parts_within}
use Rattle.life_census.proofs.ClusterListing.{clusters_listed, whole_part}
use Rattle.life_census.proofs.tallying.tally.Goals as goal

pub returns-then-len-eq1 : goal.returns-then-len-eq1
returns-then-len-eq1 g c =
    let one : length c.in_ok-clusters.clusters.items ≡ 1 =
    omega (arith, c.len.ensures, c.if-len-eq1.true, c.in_ok-clusters.clusters.ok) in
    subst (λ (Qs : List Cells). IfOk c.tally_of_one.result (IsTally (λ P. code_of c.args.rule.now P c.args.limit) Qs))
    (whole_part c.args.pattern.now c.in_ok-clusters.clusters.items c.in_ok-clusters.ensures one)
    (rw c.new-search.ensures.rule at (rw c.new-search.ensures.limit at c.tally_of_one.ensures))

pub tally_of-requires-clause-room : goal.tally_of-requires-clause-room
tally_of-requires-clause-room g c =
    All-same (IsWithin 400000000) _ _ c.deref.ensures.value
    (parts_within 400000000 c.args.pattern.now _ c.in_ok-clusters.ensures c.requires.room)

pub returns : goal.returns
returns g c =
    subst (λ (Qs : List Cells). IfOk c.tally_of.result (IsTally (λ P. code_of c.args.rule.now P c.args.limit) Qs))
    (c.deref.ensures.value ∙ clusters_listed _ _ c.in_ok-clusters.ensures)
    (rw c.new-search.ensures.rule at (rw c.new-search.ensures.limit at c.tally_of.ensures))
