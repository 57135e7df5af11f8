use Rattle.life_census.proofs.SteadyDecided.{steady_is_decided}
use Rattle.life_census.proofs.SteadyEvolution.{evolve_by_clusters, share_no_cell}
use Rattle.life_census.proofs.census_laws.laws_of_steady_fields.Goals as goal

pub returns-clause-evolve : goal.returns-clause-evolve
returns-clause-evolve c = evolve_by_clusters

pub returns-clause-share : goal.returns-clause-share
returns-clause-share c = share_no_cell

pub returns-clause-decided : goal.returns-clause-decided
returns-clause-decided c = steady_is_decided
