use Rattle.std.proofs.Common.{None, Some, sym, ap, ◌∙◌}
use Rattle.std.specs.Prelude.{option_map}
use Rattle.life_words.proofs.WordsLemmas.{answer_to_fault, asked_of}
use Rattle.life_hauls.specs.HaulWords.{haul_app, asked_by, job_of, words_job}
use Rattle.life_hauls.proofs.HaulWordsLemmas.{is_haul_simple, is_haul_free}
use Rattle.life_hauls.proofs.haul_arguments.read_haul_words.Goals as goal

pub returns-in_err-matches : goal.returns-in_err-matches
unfolding words_job
returns-in_err-matches g c =
    answer_to_fault asked_by (λ found. job_of found.0 found.1) _ _ _
    (c.in_err-matches.ensures haul_app c.haul_command.ensures is_haul_simple is_haul_free) c.from_residual.ensures.1

pub returns-in_default : goal.returns-in_default
unfolding words_job
returns-in_default g c =
    let found = c.in_ok-matches.ensures haul_app c.haul_command.ensures is_haul_simple is_haul_free in
    asked_of asked_by (λ found. job_of found.0 found.1) _ c.in_ok-matches.matches None found
    (ap (option_map asked_by) (sym c.in_default.is) ∙ c.job_in.ensures)

pub returns : goal.returns
unfolding words_job
returns g c =
    let found = c.in_ok-matches.ensures haul_app c.haul_command.ensures is_haul_simple is_haul_free in
    asked_of asked_by (λ found. job_of found.0 found.1) _ c.in_ok-matches.matches (Some c.in-Some.job) found
    (ap (option_map asked_by) (sym c.in-Some.is) ∙ c.job_in.ensures)
