use Rattle.std.proofs.lemmas.Result.{IfOk-at_ok}
use Rattle.life_words.proofs.WordsLemmas.{found_by_matches, found_by_error}
use Rattle.life_words.proofs.commands.read_matches.Goals as goal

pub returns-in_err-try_get_matches_from : goal.returns-in_err-try_get_matches_from
returns-in_err-try_get_matches_from g c app made simple free =
    found_by_error _ app _ _ _ (IfOk-at_ok _ c.in_ok-command.was made) free c.in_err-try_get_matches_from.ensures.kinds
    c.from_residual-in_err-try_get_matches_from.ensures.1

pub returns : goal.returns
returns g c app made simple free =
    found_by_matches _ app _ _ (IfOk-at_ok _ c.in_ok-command.was made) simple free
    c.in_ok-try_get_matches_from.ensures.kinds c.in_ok-try_get_matches_from.ensures.matches
