use Rattle.life_hauls.proofs.SoupLaws.{names_are_read, names_are_one, bits_are_cells, mirrors_keep_soups}
use Rattle.life_hauls.proofs.SoupLaws.{soups_are_fields}
use Rattle.life_hauls.proofs.haul_laws.laws_of_soups.Goals as goal

pub returns-clause-names : goal.returns-clause-names
returns-clause-names c = names_are_read

pub returns-clause-one : goal.returns-clause-one
returns-clause-one c = names_are_one

pub returns-clause-bits : goal.returns-clause-bits
returns-clause-bits c = bits_are_cells

pub returns-clause-mirrors : goal.returns-clause-mirrors
returns-clause-mirrors c = mirrors_keep_soups

pub returns-clause-fields : goal.returns-clause-fields
returns-clause-fields c = soups_are_fields
