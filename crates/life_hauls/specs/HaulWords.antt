-- The arguments of `life-haul`, and the job that they name. The kit's `clap` defines commands, their arguments and how
-- they are parsed; the names of the arguments are the program's own.
use Rattle.std.specs.Prelude.{ℕ, Bool, true, ◌||◌, is_some, if◌then◌else◌, List, Option, None, Some, option_and_then}
use Rattle.std.specs.Prelude.{codes, bytes_eq}
use Rattle.clap.specs.Words.{App, Row, Rule, Text, new_app, new_rule, with_rule, with_subcommand}
use Rattle.clap.specs.Simple.{on_top}
use Rattle.life_words.specs.Words.{with_version, number_rule, text_rule, number_at, text_at, matches_in, if_all}
use Rattle.life_hauls.specs.declared.symmetry.Symmetry.{Symmetry}
use Rattle.life_hauls.specs.declared.symmetry.Symmetry.TheVariants.{C1}
use Rattle.life_hauls.specs.Soups.{symmetry_named}
use Rattle.life_hauls.specs.declared.haul_arguments.HaulJob.{HaulJob}
use Rattle.life_hauls.specs.declared.haul_arguments.HaulJob.TheVariants.{Haul, Soup}

-- the option `--rule RULE`
abbrev pub rule_rule : Rule
rule_rule = record (new_rule (codes "RULE")) { long = Some (codes "rule") }

-- the option `--symmetry NAME`
abbrev pub symmetry_rule : Rule
symmetry_rule = record (new_rule (codes "NAME")) { long = Some (codes "symmetry") }

-- `soup ROOT NUMBER --rule RULE --symmetry NAME`
abbrev pub soup_app : App
soup_app =
    with_rule (with_rule (with_rule (with_rule (new_app (codes "soup")) (text_rule (codes "ROOT")))
    (number_rule (codes "NUMBER"))) rule_rule) symmetry_rule

-- `life-haul` without its arguments. With a subcommand it requires no other arguments, and it has no subcommand
-- `help`.
abbrev pub bare_haul : App
bare_haul =
    on_top (λ top. record top { disable_help_subcommand = true })
    (on_top (λ top. record top { subcommand_negates_reqs = true }) (with_version (new_app (codes "life-haul"))))

-- `life-haul ROOT FIRST COUNT N LIMIT --rule RULE --symmetry NAME`, and `life-haul soup`
abbrev pub haul_app : App
haul_app =
    with_subcommand
    (with_rule
    (with_rule (with_rule (with_rule (with_rule (with_rule (with_rule bare_haul (text_rule (codes "ROOT")))
    (number_rule (codes "FIRST"))) (number_rule (codes "COUNT"))) (number_rule (codes "N")))
    (number_rule (codes "LIMIT"))) rule_rule)
    symmetry_rule)
    soup_app.top

-- ---- the job

-- a job in the specification: `HaulJob` with texts in place of borrowed strings
pub data Asked : Type 0 where
  AsksHaul : (root : Text) (first count : ℕ) (rule : Text) (symmetry : Symmetry) (n limit : ℕ) → Asked
  AsksSoup : (root : Text) (number : ℕ) (rule : Text) (symmetry : Symmetry) → Asked

-- the specification's value of a `HaulJob`
abbrev pub asked_by : HaulJob → Asked
asked_by (Haul words) =
    AsksHaul words.root.now words.first words.count words.rule.now words.symmetry words.n words.limit
asked_by (Soup words) = AsksSoup words.root.now words.number words.rule.now words.symmetry

-- the text of the rule, or B3/S23 if no rule is given
abbrev pub rule_or_life : Option Text → Text
rule_or_life None = codes "B3/S23"
rule_or_life (Some rule) = rule

-- the symmetry of a name, or C1 if no name is given
abbrev pub symmetry_or_c1 : Option Text → Option Symmetry
symmetry_or_c1 None = Some C1
symmetry_or_c1 (Some name) = symmetry_named name

-- the haul with these arguments, if all of them are given
abbrev pub haul_of_words : Option Text → Option ℕ → Option ℕ → Text → Option Symmetry → Option ℕ
    → Option ℕ → Option Asked
haul_of_words (Some root) (Some first) (Some count) rule (Some symmetry) (Some n) (Some limit) =
    Some (AsksHaul root first count rule symmetry n limit)
haul_of_words root first count rule symmetry n limit = None

-- the haul, from the arguments without a subcommand
abbrev pub haul_in : List Row → Option Asked
haul_in rows =
    haul_of_words (text_at (codes "ROOT") rows) (number_at (codes "FIRST") rows) (number_at (codes "COUNT") rows)
    (rule_or_life (text_at (codes "RULE") rows)) (symmetry_or_c1 (text_at (codes "NAME") rows))
    (number_at (codes "N") rows) (number_at (codes "LIMIT") rows)

-- the soup, from the arguments after the subcommand
abbrev pub soup_in : List Row → Option Asked
soup_in rows =
    if_all (λ root number symmetry. AsksSoup root number (rule_or_life (text_at (codes "RULE") rows)) symmetry)
    (text_at (codes "ROOT") rows) (number_at (codes "NUMBER") rows) (symmetry_or_c1 (text_at (codes "NAME") rows))

-- the job of a subcommand, from its name and its arguments
abbrev pub job_named : Text → List Row → Option Asked
job_named name rows = if bytes_eq name (codes "soup") then soup_in rows else None

-- whether a root, a rule or a symmetry comes before a subcommand
abbrev pub is_any_before : List Row → Bool
is_any_before rows =
    is_some (text_at (codes "ROOT") rows)
    || (is_some (text_at (codes "RULE") rows) || is_some (text_at (codes "NAME") rows))

-- the job of parsed arguments; nothing may come before a subcommand
abbrev pub job_of : List Row → Option (Text × List Row) → Option Asked
job_of rows None = haul_in rows
job_of rows (Some met) = if is_any_before rows then None else job_named met.0 met.1

-- the job of a command line that begins with the program's name, if it is valid
unfoldable pub words_job : List Text → Option Asked
words_job words = option_and_then (λ found. job_of found.0 found.1) (matches_in haul_app words)
