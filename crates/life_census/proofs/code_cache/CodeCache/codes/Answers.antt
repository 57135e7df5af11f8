use Rattle.std.proofs.Common.{◌≡◌, List, map, IfOk, subst, ◌∙◌}
use Rattle.std.proofs.lemmas.List.Elements.{All-same}
use Rattle.life_core.specs.Pattern.{Cells, IsWithin}
use Rattle.life_code.specs.Codes.{code_of}
use Rattle.life_census.specs.Cluster.{clusters_of}
use Rattle.life_census.specs.CodeCacheState.{CodeQuestion}
use Rattle.life_census.proofs.ClusterLaws.{parts_within}
use Rattle.life_census.proofs.ClusterListing.{clusters_listed}
use Rattle.life_census.proofs.code_cache.CodeCache.codes.Goals as goal

pub named-requires-clause-room : goal.named-requires-clause-room
named-requires-clause-room g c =
    All-same (IsWithin 400000000) _ _ c.deref.ensures.value
    (parts_within 400000000 c.args.pattern.now _ c.in_ok-clusters.ensures c.requires.room)

pub returns-clause-codes : goal.returns-clause-codes
returns-clause-codes g c =
    let X = c.args.pattern.now in
    let same : c.deref.result.now ≡ clusters_of X = c.deref.ensures.value
    ∙ clusters_listed _ _ c.in_ok-clusters.ensures in
    let terms : record { rule = c.self.inside.rule; limit = c.self.inside.limit } ≡ c.args.self.now = c.self.view_is in
    subst (λ (v : CodeQuestion). IfOk c.named.result
    (λ v'. v'.items ≡ map (λ P. code_of v.rule P v.limit) (clusters_of X)))
    terms
    (subst (λ (Qs : List Cells). IfOk c.named.result
    (λ v'. v'.items ≡ map (λ P. code_of c.self.inside.rule P c.self.inside.limit) Qs)) same
    (rw c.new-search.ensures.rule at (rw c.new-search.ensures.limit at c.named.ensures.codes)))
