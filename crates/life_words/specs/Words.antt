-- The arguments of `life` and the job that they name.
-- The kit's `clap` defines commands, their arguments, and how they are parsed. The names of the subcommands and of
-- their arguments are the program's own.
use Rattle.std.specs.Prelude.{◌≡◌, ℕ, ◌^◌, ◌-◌, Bool, true, if◌then◌else◌, List, [], ◌∷◌, fold, Option, None, Some}
use Rattle.std.specs.Prelude.{option_map, option_and_then, codes, bytes_eq, false, IfOk, Result, Ok, Err}
use Rattle.std.specs.Str.Parse.{digits_value, without_leading_plus}
use Rattle.clap.specs.Words.{App, Row, Rule, Text, Kinds, app_of, new_app, new_rule, with_rule, with_subcommand}
use Rattle.clap.specs.Words.{fault_of, first_of, found_of, matches_of, one_of, rows_of, subcommand_of}
use Rattle.clap.specs.Words.{subcommand_rows_of}
use Rattle.clap.specs.Simple.{on_top}
use Rattle.clap.specs.ValueTests.{is_unsigned_in}
use Rattle.clap.specs.declared.builder.command.Command.{Command}
use Rattle.clap.specs.declared.builder.command.Command.TheViews.{out-Command as fields_of}
use Rattle.clap.specs.declared.builder.action.ArgAction.TheVariants.{SetTrue}
use Rattle.clap.specs.declared.builder.value_parser.ValueParser.TheVariants as vp
use Rattle.clap.specs.declared.parser.matches.ArgMatches.{ArgMatches}
use Rattle.life_words.specs.Explain.{is_refusal}
use Rattle.life_words.specs.declared.life_arguments.Job.{Job}
use Rattle.life_words.specs.declared.life_arguments.Job.TheVariants.{Generation, Kind, Object, Census, Deposit, Serve}
use Rattle.life_words.specs.declared.life_arguments.Job.TheVariants.{Check, Explain}
use Rattle.life_words.specs.declared.word_fault.WordFault.{WordFault}
use Rattle.life_words.specs.declared.word_fault.WordFault.TheVariants.{BadWords, Memory}

-- ---- what the programs have in common

-- a command, if it was built without running out of memory, is this one and has no global argument
abbrev pub MakesCommand : {E : Type 0} → App → Result Command E → Type 0
MakesCommand app made =
    IfOk made (λ command. app_of command ≡ app) × IfOk made (λ command. (fields_of command).has_globals ≡ false)

-- clap's matches: the rows of the command's arguments, and the given subcommand with its own rows
abbrev pub Matches : Type 0
Matches = List Row × Option (Text × List Row)

-- the matches in the value that `clap` returns
abbrev pub matches_by : ArgMatches → Matches
matches_by m = (rows_of (found_of m), subcommand_rows_of m)

-- the matches if there is no fault, otherwise `None`
abbrev pub unless_fault : Kinds → Matches → Option Matches
unless_fault [] found = Some found
unless_fault (first ∷ others) found = None

-- the matches of a command line that begins with the program's name; `None` for a usage error or a request for help
unfoldable pub matches_in : App → List Text → Option Matches
matches_in app words = unless_fault (fault_of app words) (matches_of app words, subcommand_of app words)

-- applies a function to two values, if both are given
abbrev pub if_both : {A B C : Type 0} → (A → B → C) → Option A → Option B → Option C
if_both asks (Some a) (Some b) = Some (asks a b)
if_both asks a b = None

-- applies a function to three values, if all are given
abbrev pub if_all : {A B C D : Type 0} → (A → B → C → D) → Option A → Option B → Option C → Option D
if_all asks (Some a) (Some b) (Some c) = Some (asks a b c)
if_all asks a b c = None

-- applies a function to the name and the rows of the subcommand, if one was given
abbrev pub by_subcommand : {A : Type 0} → (Text → List Row → Option A) → Option (Text × List Row) → Option A
by_subcommand named None = None
by_subcommand named (Some met) = named met.0 met.1

-- what a program may answer to its arguments: the job that they ask for, a usage error if they ask for none, or out of
-- memory in any case
abbrev pub Answers : {J A : Type 0} → (J → A) → Option A → Result J WordFault → Type 0
Answers asked_by asked (Ok job) = asked ≡ Some (asked_by job)
Answers asked_by asked (Err (BadWords error)) = asked ≡ None
Answers asked_by asked (Err Memory) = Unit {0}

-- ---- the command

-- the largest `u64`
abbrev pub last_number : ℕ
last_number = 2 ^ 64 - 1

-- a required argument that is a number
abbrev pub number_rule : Text → Rule
number_rule id = record (new_rule id) { parser = Some (vp.Unsigned 0 last_number); required = true }

-- a required argument that is a text
abbrev pub text_rule : Text → Rule
text_rule id = record (new_rule id) { required = true }

-- the option `--db F`
abbrev pub file_rule : Rule
file_rule = record (text_rule (codes "F")) { long = Some (codes "db") }

-- a required option whose value is a number from 1 to `most`
abbrev pub number_rule_in : Text → Text → ℕ → Rule
number_rule_in id long most =
    record (new_rule id) { long = Some long; parser = Some (vp.Unsigned 1 most); required = true }

-- the option `--quick`, which has no value: `clap` stores `true` if it is given, otherwise `false`
abbrev pub quick_rule : Rule
quick_rule = record (new_rule (codes "quick")) { long = Some (codes "quick"); action = Some SetTrue }

-- `generation N`
abbrev pub generation : App
generation = with_rule (new_app (codes "generation")) (number_rule (codes "N"))

-- `kind LIMIT`
abbrev pub kind : App
kind = with_rule (new_app (codes "kind")) (number_rule (codes "LIMIT"))

-- `object RULE CODE LIMIT`
abbrev pub object : App
object =
    with_rule (with_rule (with_rule (new_app (codes "object")) (text_rule (codes "RULE"))) (text_rule (codes "CODE")))
    (number_rule (codes "LIMIT"))

-- `census N LIMIT`
abbrev pub census : App
census = with_rule (with_rule (new_app (codes "census")) (number_rule (codes "N"))) (number_rule (codes "LIMIT"))

-- `deposit --db F MEMBER TOKEN`
abbrev pub deposit : App
deposit =
    with_rule (with_rule (with_rule (new_app (codes "deposit")) file_rule) (text_rule (codes "MEMBER")))
    (text_rule (codes "TOKEN"))

-- `serve --db F --port P --connections N`
abbrev pub serve : App
serve =
    with_rule (with_rule (with_rule (new_app (codes "serve")) file_rule)
    (number_rule_in (codes "P") (codes "port") 65535)) (number_rule_in (codes "N") (codes "connections") 1000000)

-- `check --db F [--quick]`
abbrev pub check : App
check = with_rule (with_rule (new_app (codes "check")) file_rule) quick_rule

-- `explain NAME`
abbrev pub explain : App
explain = with_rule (new_app (codes "explain")) (text_rule (codes "NAME"))

-- the subcommands, in the order in which help lists them
abbrev pub subcommands : List App
subcommands = generation ∷ kind ∷ object ∷ census ∷ deposit ∷ serve ∷ check ∷ explain ∷ []

-- a command with a version, which `--version` prints
abbrev pub with_version : App → App
with_version command = on_top (λ top. record top { has_version = true }) command

-- `life` without its subcommands, one of which is required
abbrev pub bare_life : App
bare_life = on_top (λ top. record top { subcommand_required = true }) (with_version (new_app (codes "life")))

-- the complete command of `life`
abbrev pub life_app : App
life_app = fold (λ command below. with_subcommand command below.top) bare_life subcommands

-- ---- the job

-- a job in the specification: `Job` with texts in place of borrowed strings
pub data Asked : Type 0 where
  AsksGeneration : (n : ℕ) → Asked
  AsksKind : (limit : ℕ) → Asked
  AsksObject : (rule code : Text) (limit : ℕ) → Asked
  AsksCensus : (n limit : ℕ) → Asked
  AsksDeposit : (file member token : Text) → Asked
  AsksServe : (file : Text) (port connections : ℕ) → Asked
  AsksCheck : (file : Text) (quick : Bool) → Asked
  AsksExplain : (name : Text) → Asked

-- the specification's value of a `Job`
abbrev pub asked_by : Job → Asked
asked_by (Generation n) = AsksGeneration n
asked_by (Kind limit) = AsksKind limit
asked_by (Object rule code limit) = AsksObject rule.now code.now limit
asked_by (Census n limit) = AsksCensus n limit
asked_by (Deposit file member token) = AsksDeposit file.now member.now token.now
asked_by (Serve file port connections) = AsksServe file.now port connections
asked_by (Check file quick) = AsksCheck file.now quick
asked_by (Explain name) = AsksExplain name.now

-- the number that a text writes in decimal digits, with an optional `+` in front
abbrev pub number_text : Text → Option ℕ
number_text text =
    if is_unsigned_in 0 last_number text then Some (digits_value 10 (without_leading_plus text)) else None

-- the number given for the argument `id` in a subcommand's rows
abbrev pub number_at : Text → List Row → Option ℕ
number_at id rows = option_and_then number_text (one_of id rows)

-- the text given for the argument `id`
abbrev pub text_at : Text → List Row → Option Text
text_at id rows = first_of id rows

-- whether `clap` stored `true` for an option that has no value
abbrev pub is_true_text : Option Text → Bool
is_true_text (Some text) = bytes_eq text (codes "true")
is_true_text None = false

abbrev pub is_given : Text → List Row → Bool
is_given id rows = is_true_text (text_at id rows)

-- the job that explains this name, if `life explain` knows it
abbrev pub explain_of : Option Text → Option Asked
explain_of (Some name) = if is_refusal name then Some (AsksExplain name) else None
explain_of None = None

-- the job of a subcommand, from its name and its rows
abbrev pub job_named : Text → List Row → Option Asked
job_named name rows =
    if bytes_eq name (codes "generation") then option_map AsksGeneration (number_at (codes "N") rows)
    else if bytes_eq name (codes "kind") then option_map AsksKind (number_at (codes "LIMIT") rows)
    else if bytes_eq name (codes "object")
    then if_all AsksObject (text_at (codes "RULE") rows) (text_at (codes "CODE") rows) (number_at (codes "LIMIT") rows)
    else if bytes_eq name (codes "census")
    then if_both AsksCensus (number_at (codes "N") rows) (number_at (codes "LIMIT") rows)
    else if bytes_eq name (codes "deposit")
    then if_all AsksDeposit (text_at (codes "F") rows) (text_at (codes "MEMBER") rows) (text_at (codes "TOKEN") rows)
    else if bytes_eq name (codes "serve")
    then if_all AsksServe (text_at (codes "F") rows) (number_at (codes "P") rows) (number_at (codes "N") rows)
    else if bytes_eq name (codes "check")
    then option_map (λ file. AsksCheck file (is_given (codes "quick") rows)) (text_at (codes "F") rows)
    else if bytes_eq name (codes "explain") then explain_of (text_at (codes "NAME") rows)
    else None

-- the job of a command line, if it is valid: `life`, `generation`, `1` gives `AsksGeneration 1`
unfoldable pub words_job : List Text → Option Asked
words_job words = option_and_then (λ found. by_subcommand job_named found.1) (matches_in life_app words)
