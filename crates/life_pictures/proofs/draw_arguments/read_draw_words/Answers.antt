use Rattle.std.proofs.Common.{None, Some}
use Rattle.life_words.specs.Words.{by_subcommand}
use Rattle.life_words.proofs.WordsLemmas.{answer_to_fault, asked_of}
use Rattle.life_pictures.specs.DrawWords.{draw, picture_named, words_picture}
use Rattle.life_pictures.proofs.DrawWordsLemmas.{is_draw_simple, is_draw_free}
use Rattle.life_pictures.proofs.draw_arguments.read_draw_words.Goals as goal

pub returns-in_err-matches : goal.returns-in_err-matches
unfolding words_picture
returns-in_err-matches g c =
    answer_to_fault (λ picture. picture) (λ found. by_subcommand picture_named found.1) _ _ _
    (c.in_err-matches.ensures draw c.draw_command.ensures is_draw_simple is_draw_free) c.from_residual.ensures.1

pub returns-in-Some : goal.returns-in-Some
unfolding words_picture
returns-in-Some g c =
    asked_of (λ picture. picture) (λ found. by_subcommand picture_named found.1) _ c.in_ok-matches.matches
    (Some c.in-Some.picture) (c.in_ok-matches.ensures draw c.draw_command.ensures is_draw_simple is_draw_free)
    c.in-Some.ensures

pub returns : goal.returns
unfolding words_picture
returns g c =
    asked_of (λ picture. picture) (λ found. by_subcommand picture_named found.1) _ c.in_ok-matches.matches None
    (c.in_ok-matches.ensures draw c.draw_command.ensures is_draw_simple is_draw_free) c.in-None.ensures
