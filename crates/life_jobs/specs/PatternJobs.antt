-- The output of each job, from its input or its arguments.
use Rattle.std.specs.Prelude.{◌≡◌, ◌≢◌, ◌≤◌, ℕ, List, [], ◌∷◌, ◌++◌, codes, Option, None, Some, Result, Ok, Err}
use Rattle.std.specs.Fmt.{decimal, signed_decimal}
use Rattle.life_core.specs.Ascii.{line_feed}
use Rattle.life_core.specs.declared.rule_text.RuleFault.{RuleFault}
use Rattle.life_core.specs.declared.generations.TheConstants.{GENERATION_LIMIT}
use Rattle.life_core.specs.Generations.{generation_of}
use Rattle.life_core.specs.Pattern.{Cells}
use Rattle.life_core.specs.Rule.{RuleSets}
use Rattle.life_core.specs.RuleText.{read_rule}
use Rattle.life_rle.specs.declared.rle_fault.RleFault.{RleFault}
use Rattle.life_rle.specs.RleFault.{◌>>=◌}
use Rattle.life_rle.specs.File.{file}
use Rattle.life_rle.specs.Record.{Contents, plain}
use Rattle.life_rle.specs.Writer.{text}
use Rattle.life_rle.specs.Stream.{Appends, AppendsSome}
use Rattle.life_code.specs.declared.period.TheConstants.{PERIOD_LIMIT}
use Rattle.life_code.specs.declared.kinds.Kind.{Kind}
use Rattle.life_code.specs.declared.kinds.Kind.TheVariants.{Empty, Still, Oscillator, Ship, Unresolved}
use Rattle.life_code.specs.declared.code_fault.CodeFault.{CodeFault}
use Rattle.life_code.specs.declared.code_fault.CodeFault.TheVariants as code_faults
use Rattle.life_code.specs.Period.{kind_of}
use Rattle.life_code.specs.Codes.{code_of}
use Rattle.life_code.specs.Open.{Spells, Refuses}
use Rattle.life_census.specs.Cluster.{clusters_of}
use Rattle.life_census.specs.Counting.{tally_of}
use Rattle.life_census.specs.CensusTable.{csv_text}
use Rattle.life_jobs.specs.declared.stop.Stop.{Stop}
use Rattle.life_jobs.specs.declared.stop.Stop.TheVariants.{OutOfLimit, BadPattern, BadRule, BadCode, Unreadable}
use Rattle.life_jobs.specs.declared.stop.Stop.TheVariants.{Unavailable, Unwritable}

-- ---- what is printed for a file

-- generation n of a record, moved to the origin and without texts
abbrev pub later : ℕ → Contents → Contents
later n r = plain r.rule (generation_of r.rule r.cells n)

-- the output for a file, if `shown` gives the output for its record; or the first fault of the file
unfoldable pub file_text : (Contents → List ℕ) → List ℕ → Result (List ℕ) RleFault
file_text shown bytes = file bytes >>= λ r. Ok (shown r)

-- the output of `generation n` for a file
abbrev pub generation_text : ℕ → List ℕ → Result (List ℕ) RleFault
generation_text n = file_text (λ r. text (later n r))

-- a valid limit on the period
abbrev pub IsPeriodLimit : ℕ → Type 0
IsPeriodLimit limit = (1 ≤ limit) × (limit ≤ PERIOD_LIMIT)

-- a code, or `-` if there is none
abbrev pub code_or_dash : Option (List ℕ) → List ℕ
code_or_dash None = codes "-"
code_or_dash (Some code) = code

-- the printed form of a kind: its name and, if it has them, the period, the move in columns and rows, and the code. A
-- glider is `ship 4 1 1 xq4_153`.
abbrev pub kind_words : Kind → Option (List ℕ) → List ℕ
kind_words Empty code = codes "empty"
kind_words Still code = codes "still " ++ code_or_dash code
kind_words (Oscillator p) code = codes "oscillator " ++ decimal p ++ codes " " ++ code_or_dash code
kind_words (Ship p dx dy) code =
    codes "ship " ++ decimal p ++ codes " " ++ signed_decimal dx ++ codes " " ++ signed_decimal dy
    ++ codes " " ++ code_or_dash code
kind_words Unresolved code = codes "unresolved"

-- the line of a set's kind under a rule and a limit
abbrev pub kind_line : RuleSets → Cells → ℕ → List ℕ
kind_line r X limit = kind_words (kind_of r X limit) (code_of r X limit) ++ line_feed ∷ []

-- the output of `kind limit` for a file
abbrev pub kind_text : ℕ → List ℕ → Result (List ℕ) RleFault
kind_text limit = file_text (λ r. kind_line r.rule r.cells limit)

-- valid numbers of a census: a generation, and a limit on the period
abbrev pub AreCensusNumbers : ℕ → ℕ → Type 0
AreCensusNumbers n limit = (n ≤ GENERATION_LIMIT) × IsPeriodLimit limit

-- the census of generation n of a record, as CSV
abbrev pub census_table : ℕ → ℕ → Contents → List ℕ
census_table n limit r =
    csv_text (tally_of (λ P. code_of r.rule P limit) (clusters_of (generation_of r.rule r.cells n)))

-- the output of `census n limit` for a file
abbrev pub census_text : ℕ → ℕ → List ℕ → Result (List ℕ) RleFault
census_text n limit = file_text (census_table n limit)

-- ---- what is printed for a code

-- the rule text is a rule under which the code names a set, and `all` is the file of that set
pub record PrintsObject (rule code : List ℕ) (limit : ℕ) (all : List ℕ) : Type 0 where
  pub rule_sets : RuleSets
  pub cells : Cells
  pub rule_is : read_rule rule ≡ Ok rule_sets
  pub spells : Spells code cells
  pub has_code : code_of rule_sets cells limit ≡ Some code
  pub text_is : all ≡ text (plain rule_sets cells)

-- the rule text is refused
abbrev pub RefusesRule : List ℕ → Type 0
RefusesRule rule = (fault : RuleFault) × (read_rule rule ≡ Err fault)

-- the rule text is a rule, under which the code is refused with this fault and no set has it
pub record RefusesCode (rule code : List ℕ) (limit : ℕ) (fault : CodeFault) : Type 0 where
  pub rule_sets : RuleSets
  pub rule_is : read_rule rule ≡ Ok rule_sets
  pub not_memory : fault ≢ code_faults.Memory
  pub refuses : Refuses rule_sets code limit fault
  pub no_code : (X : Cells) → code_of rule_sets X limit ≢ Some code

-- how `object` answers a rule text, a code and a limit; it checks the limit first and the code last
abbrev pub PutsObject : List ℕ → List ℕ → ℕ → Option (List ℕ) → Option (List ℕ) → Result (Unit {0}) Stop → Type 0
PutsObject rule code limit old new (Ok done) = (all : List ℕ) × PrintsObject rule code limit all × Appends old new all
PutsObject rule code limit old new (Err OutOfLimit) = ¬ IsPeriodLimit limit
PutsObject rule code limit old new (Err BadRule) = IsPeriodLimit limit × RefusesRule rule
PutsObject rule code limit old new (Err (BadCode fault)) = IsPeriodLimit limit × RefusesCode rule code limit fault
PutsObject rule code limit old new (Err Unavailable) = Unit {0}
PutsObject rule code limit old new (Err Unwritable) =
    (all : List ℕ) × PrintsObject rule code limit all × AppendsSome old new all
PutsObject rule code limit old new (Err stop) = ⊥

-- ---- answers

-- how a job answers these bytes, if `wanted` gives the output for each file
abbrev pub PutsBytes : (List ℕ → Result (List ℕ) RleFault) → List ℕ → Option (List ℕ) → Option (List ℕ)
    → Result (Unit {0}) Stop → Type 0
PutsBytes wanted bytes old new (Ok done) = (all : List ℕ) × (wanted bytes ≡ Ok all) × Appends old new all
PutsBytes wanted bytes old new (Err (BadPattern fault)) = wanted bytes ≡ Err fault
PutsBytes wanted bytes old new (Err Unreadable) = Unit {0}
PutsBytes wanted bytes old new (Err Unavailable) = Unit {0}
PutsBytes wanted bytes old new (Err Unwritable) = (all : List ℕ) × (wanted bytes ≡ Ok all) × AppendsSome old new all
PutsBytes wanted bytes old new (Err stop) = ⊥

-- the same, if the input bytes are known
abbrev pub PutsKnown : (List ℕ → Result (List ℕ) RleFault) → Option (List ℕ) → Option (List ℕ)
    → Option (List ℕ) → Result (Unit {0}) Stop → Type 0
PutsKnown wanted None old new answer = Unit {0}
PutsKnown wanted (Some bytes) old new answer = PutsBytes wanted bytes old new answer
