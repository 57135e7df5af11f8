use Rattle.life_hauls.proofs.OccurrenceLaws.{seen_is_least, nothing_is_seen}
use Rattle.life_hauls.proofs.TallyLaws.{rows_are_of_tallies, rows_ascend, unresolved_are_of_tallies}
use Rattle.life_hauls.proofs.TallyLaws.{clusters_count_once, sums_are_counts}
use Rattle.life_hauls.proofs.TogetherLaws.{hauls_add_up, together_by_codes, together_in_any_order}
use Rattle.life_hauls.proofs.TogetherLaws.{together_in_any_grouping}
use Rattle.life_hauls.proofs.haul_laws.laws_of_hauls.Goals as goal

pub returns-clause-add_up : goal.returns-clause-add_up
returns-clause-add_up c = hauls_add_up

pub returns-clause-by_codes : goal.returns-clause-by_codes
returns-clause-by_codes c = together_by_codes

pub returns-clause-any_order : goal.returns-clause-any_order
returns-clause-any_order c = together_in_any_order

pub returns-clause-any_grouping : goal.returns-clause-any_grouping
returns-clause-any_grouping c = together_in_any_grouping

pub returns-clause-least : goal.returns-clause-least
returns-clause-least c = seen_is_least

pub returns-clause-nothing : goal.returns-clause-nothing
returns-clause-nothing c = nothing_is_seen

pub returns-clause-rows : goal.returns-clause-rows
returns-clause-rows c = rows_are_of_tallies

pub returns-clause-ascend : goal.returns-clause-ascend
returns-clause-ascend c = rows_ascend

pub returns-clause-unresolved : goal.returns-clause-unresolved
returns-clause-unresolved c = unresolved_are_of_tallies

pub returns-clause-once : goal.returns-clause-once
returns-clause-once c = clusters_count_once

pub returns-clause-sums : goal.returns-clause-sums
returns-clause-sums c = sums_are_counts
