use Rattle.life_census.proofs.CountingRows.{rows_are_counts, rows_ascend}
use Rattle.life_census.proofs.CountingTotals.{adds_up}
use Rattle.life_census.proofs.census_laws.laws_of_tallies.Goals as goal

pub returns-clause-rows : goal.returns-clause-rows
returns-clause-rows c = rows_are_counts

pub returns-clause-ascend : goal.returns-clause-ascend
returns-clause-ascend c = rows_ascend

pub returns-clause-total : goal.returns-clause-total
returns-clause-total c = adds_up
