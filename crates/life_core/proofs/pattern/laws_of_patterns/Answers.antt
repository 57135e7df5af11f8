use Rattle.life_core.proofs.PatternOrder.{in_order-sorted, from_list-in_order}
use Rattle.life_core.proofs.PatternCorners.{normal_corner}
use Rattle.life_core.proofs.pattern.laws_of_patterns.Goals as goal

pub returns-clause-ascends : goal.returns-clause-ascends
returns-clause-ascends c = in_order-sorted

pub returns-clause-members : goal.returns-clause-members
returns-clause-members c = from_list-in_order

pub returns-clause-at_origin : goal.returns-clause-at_origin
returns-clause-at_origin c = normal_corner
