use Rattle.life_desk.proofs.MigratedLemmas.{migrated_is}
use Rattle.life_desk.proofs.headline.law_of_migrated_archives.Goals as goal

pub returns : goal.returns
returns c = migrated_is c.laws_of_steady_fields.ensures.decided
