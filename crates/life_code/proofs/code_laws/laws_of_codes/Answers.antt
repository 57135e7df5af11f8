use Rattle.std.proofs.Common.{sym}
use Rattle.life_code.proofs.PeriodKinds.{one_kind}
use Rattle.life_code.proofs.CodesSteps.{width_of_box, height_of_box}
use Rattle.life_code.proofs.PeriodLemmas.{phases_repeat, phases_differ}
use Rattle.life_code.proofs.PeriodBirths.{birth_at_one_never_returns}
use Rattle.life_code.proofs.PeriodPairs.{pairs_never_return}
use Rattle.life_code.proofs.ApartUnions.{apart_evolve_independently}
use Rattle.life_code.proofs.ApartMoves.{parting_never_returns}
use Rattle.life_code.proofs.WechslerColumns.{strips_are_their_columns}
use Rattle.life_code.proofs.WechslerTexts.{texts_tell_apart}
use Rattle.life_code.proofs.CandidateLemmas.{least_is_least}
use Rattle.life_code.proofs.CodesLaws.{same_is_equivalence, code_is_invariant, code_is_complete, code_stays}
use Rattle.life_code.proofs.OpenLaws.{codes_spell, spells_one}
use Rattle.life_code.proofs.code_laws.laws_of_codes.Goals as goal

pub returns-clause-one_kind : goal.returns-clause-one_kind
returns-clause-one_kind c = one_kind

pub returns-clause-births : goal.returns-clause-births
returns-clause-births c = birth_at_one_never_returns

pub returns-clause-pairs : goal.returns-clause-pairs
returns-clause-pairs c = pairs_never_return

pub returns-clause-alone : goal.returns-clause-alone
returns-clause-alone c = apart_evolve_independently

pub returns-clause-parting : goal.returns-clause-parting
returns-clause-parting c = parting_never_returns

pub returns-clause-phases_repeat : goal.returns-clause-phases_repeat
returns-clause-phases_repeat c = phases_repeat

pub returns-clause-phases_differ : goal.returns-clause-phases_differ
returns-clause-phases_differ c = phases_differ

pub returns-clause-texts_tell_apart : goal.returns-clause-texts_tell_apart
returns-clause-texts_tell_apart c = texts_tell_apart

pub returns-clause-least : goal.returns-clause-least
returns-clause-least c = least_is_least

pub returns-clause-equivalence : goal.returns-clause-equivalence
returns-clause-equivalence c = same_is_equivalence

pub returns-clause-invariant : goal.returns-clause-invariant
returns-clause-invariant c = code_is_invariant

pub returns-clause-complete : goal.returns-clause-complete
returns-clause-complete c = code_is_complete

pub returns-clause-spells : goal.returns-clause-spells
returns-clause-spells c = codes_spell

pub returns-clause-spells_one : goal.returns-clause-spells_one
returns-clause-spells_one c = spells_one

pub returns-clause-one_size : goal.returns-clause-one_size
returns-clause-one_size c =
    λ X left top columns rows same box.
    (sym (width_of_box X left top columns rows same box), sym (height_of_box X left top columns rows same box))

pub returns-clause-columns : goal.returns-clause-columns
returns-clause-columns c = strips_are_their_columns

pub returns-clause-stays : goal.returns-clause-stays
returns-clause-stays c = code_stays
