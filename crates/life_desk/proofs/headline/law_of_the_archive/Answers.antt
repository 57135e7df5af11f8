use Rattle.life_desk.proofs.ReplyMeanings.{headline_holds}
use Rattle.life_desk.proofs.headline.law_of_the_archive.Goals as goal

pub returns : goal.returns
returns c =
    headline_holds c.laws_of_tallies.ensures.rows c.laws_of_tallies.ensures.total
    c.laws_of_steady_fields.ensures.decided c.laws_of_codes.ensures.complete
