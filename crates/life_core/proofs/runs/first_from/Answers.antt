use Rattle.std.proofs.Common.{rules, arith, get_or}
use Rattle.std.proofs.lemmas.List.Sorted.{IsPartitionPoint-from_clause}
use Rattle.life_core.specs.RunsState.{is_before_cell}
use Rattle.life_core.proofs.RunsPlaces.{rows_parted, behind_true, ahead_false}
use Rattle.life_core.proofs.runs.first_from.Goals as goal

pub returns-clause-behind : goal.returns-clause-behind
returns-clause-behind c k d low =
    let point = IsPartitionPoint-from_clause (λ r. is_before_cell r c.args.at.row c.args.at.column)
    c.args.runs.now c.partition_point.result c.partition_point.ensures.partitioned
    (rows_parted c.args.runs.now c.args.at.row c.args.at.column c.requires) (λ a r q k. search rules) in
    behind_true (get_or c.args.runs.now k d) c.args.at.row c.args.at.column (point.0 k d (omega arith) low)

pub returns-clause-ahead : goal.returns-clause-ahead
returns-clause-ahead c k d after low =
    let point = IsPartitionPoint-from_clause (λ r. is_before_cell r c.args.at.row c.args.at.column)
    c.args.runs.now c.partition_point.result c.partition_point.ensures.partitioned
    (rows_parted c.args.runs.now c.args.at.row c.args.at.column c.requires) (λ a r q k. search rules) in
    ahead_false (get_or c.args.runs.now k d) c.args.at.row c.args.at.column (point.1 k d after low)
