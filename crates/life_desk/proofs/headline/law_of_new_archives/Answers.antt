use Rattle.life_desk.proofs.Representing.{new_is_empty}
use Rattle.life_desk.proofs.headline.law_of_new_archives.Goals as goal

pub returns : goal.returns
returns c = new_is_empty
