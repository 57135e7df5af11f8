use Rattle.std.proofs.Common.{take, codes, ◌++◌, ◌∷◌, []}
use Rattle.std.specs.List.{flat_map}
use Rattle.life_census.specs.CensusTable.{line}
use Rattle.life_census.specs.CensusTableState.{Holds}
use Rattle.life_census.proofs.census_table.text_of.Given as goal

abbrev pub invariant-loop-row : goal.invariant-loop-row
invariant-loop-row g l =
    Holds l.table ((codes "code,count" ++ 10 ∷ []) ++ flat_map (λ r. line r.code r.count) (take l.row-index l.rows))
