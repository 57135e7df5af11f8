use Rattle.std.proofs.Common.{◌≡◌, ◌∙◌, ℕ, option_map, rules, sym}
use Rattle.life_store.specs.declared.kept.KeptCensus.{KeptCensus}
use Rattle.life_store.specs.CensusesState.{tallied_by}
use Rattle.life_store.specs.Kept.{Tallied, kept_census}
use Rattle.life_store.proofs.CensusQueries.{census_found, found_some, found_none}
use Rattle.life_store.proofs.archive.Archive.find_census.Goals as goal

pub returns-in-Some-clause-value : goal.returns-in-Some-clause-value
returns-in-Some-clause-value g c k healthy holds =
    let o = tallied_by c.args.member.now c.args.token.now k.censuses in
    let told : c.in_ok-id.field-0 ≡ option_map {U = ℕ × KeptCensus}
    (λ (p : ℕ × Tallied). (p.0, kept_census p.1)) o = search rules in
    found_some o c.in-Some.id c.in-Some.kept (sym c.in-Some.is ∙ told)
    ∙ census_found c.args.member.now c.args.token.now k

pub returns-clause-value : goal.returns-clause-value
returns-clause-value g c k healthy holds =
    let o = tallied_by c.args.member.now c.args.token.now k.censuses in
    let told : c.in_ok-id.field-0 ≡ option_map {U = ℕ × KeptCensus}
    (λ (p : ℕ × Tallied). (p.0, kept_census p.1)) o = search rules in
    found_none o (sym c.in-None.is ∙ told) ∙ census_found c.args.member.now c.args.token.now k
