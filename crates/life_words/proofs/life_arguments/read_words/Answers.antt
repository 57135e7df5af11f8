use Rattle.std.proofs.Common.{None, Some, sym, ap, ◌∙◌}
use Rattle.std.specs.Prelude.{option_map}
use Rattle.life_words.specs.Words.{life_app, asked_by, job_named, by_subcommand, words_job}
use Rattle.life_words.proofs.WordsLemmas.{is_life_simple, is_life_free, answer_by_fault, answer_to_fault, asked_of}
use Rattle.life_words.proofs.life_arguments.read_words.Goals as goal

pub returns-in_err-matches : goal.returns-in_err-matches
unfolding words_job
returns-in_err-matches g c =
    answer_to_fault asked_by (λ found. by_subcommand job_named found.1) _ _ _
    (c.in_err-matches.ensures life_app c.life_command.ensures is_life_simple is_life_free) c.from_residual.ensures.1

pub returns-in_err-refuse_name : goal.returns-in_err-refuse_name
unfolding words_job
returns-in_err-refuse_name g c =
    let found = c.in_ok-matches.ensures life_app c.life_command.ensures is_life_simple is_life_free in
    let none = asked_of asked_by (λ found. by_subcommand job_named found.1) _ c.in_ok-matches.matches None found
    (ap (option_map asked_by) (sym c.in_default.is) ∙ c.job_in.ensures) in
    answer_by_fault asked_by _ _ _ none c.from_residual-in_err-refuse_name.ensures.1

pub returns-in_default : goal.returns-in_default
unfolding words_job
returns-in_default g c =
    let found = c.in_ok-matches.ensures life_app c.life_command.ensures is_life_simple is_life_free in
    asked_of asked_by (λ found. by_subcommand job_named found.1) _ c.in_ok-matches.matches None found
    (ap (option_map asked_by) (sym c.in_default.is) ∙ c.job_in.ensures)

pub returns : goal.returns
unfolding words_job
returns g c =
    let found = c.in_ok-matches.ensures life_app c.life_command.ensures is_life_simple is_life_free in
    asked_of asked_by (λ found. by_subcommand job_named found.1) _ c.in_ok-matches.matches
    (Some c.in-Some.job) found (ap (option_map asked_by) (sym c.in-Some.is) ∙ c.job_in.ensures)
