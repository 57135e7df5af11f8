use Rattle.std.proofs.Common.{rules, arith}
use Rattle.std.proofs.lemmas.List.Sorted.{IsPartitionPoint-from_clause}
use Rattle.life_hauls.proofs.HaulRowLemmas.{below, rows_parted, gt_is_greater, gt_is_not}
use Rattle.life_hauls.proofs.soup_counting.first_not_below.Goals as goal

pub returns-clause-before : goal.returns-clause-before
returns-clause-before g c k d low =
    let point = IsPartitionPoint-from_clause (below c.args.code.now) c.args.rows.now c.partition_point.result
    c.partition_point.ensures.partitioned (rows_parted c.args.rows.now c.args.code.now c.requires)
    (λ a r q k. search rules) in
    gt_is_greater _ (point.0 k d (omega arith) low)

pub returns-clause-behind : goal.returns-clause-behind
returns-clause-behind g c k d after low =
    let point = IsPartitionPoint-from_clause (below c.args.code.now) c.args.rows.now c.partition_point.result
    c.partition_point.ensures.partitioned (rows_parted c.args.rows.now c.args.code.now c.requires)
    (λ a r q k. search rules) in
    gt_is_not _ (point.1 k d after low)
