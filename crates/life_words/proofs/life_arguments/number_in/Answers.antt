use Rattle.clap.proofs.WalkLemmas.{one_text-rows}
use Rattle.clap.specs.Words.{found_of}
use Rattle.life_words.proofs.WordsLemmas.{one_number}
use Rattle.life_words.proofs.life_arguments.number_in.Goals as goal

pub returns : goal.returns
returns c =
    rw (← one_text-rows (found_of c.args.found.now) c.args.id.now)
    (one_number _ _ c.get_one.ensures.none c.get_one.ensures.value)
