-- The answer of a job, from the answers of its steps.
use Rattle.std.specs.Prelude.{◌≡◌, ◌≢◌, ℕ, List, Option, None, Some, Result, Ok, Err}
use Rattle.std.proofs.Common.{ap, ◌∙◌, sym, subst}
use Rattle.life_core.specs.Generations.{generation_of}
use Rattle.life_core.specs.Pattern.{Cells}
use Rattle.life_core.specs.Rule.{RuleSets}
use Rattle.life_core.specs.RuleText.{read_rule}
use Rattle.life_rle.specs.declared.rle_fault.RleFault.{RleFault}
use Rattle.life_rle.specs.RleFault.{◌>>=◌}
use Rattle.life_rle.specs.File.{file}
use Rattle.life_rle.specs.Record.{Contents, plain}
use Rattle.life_rle.specs.Writer.{text as printed}
use Rattle.life_code.specs.declared.code_fault.CodeFault.{CodeFault}
use Rattle.life_code.specs.declared.code_fault.CodeFault.TheVariants as code_faults
use Rattle.life_code.specs.Codes.{code_of}
use Rattle.life_code.specs.Open.{Spells, Refuses}
use Rattle.life_census.specs.Cluster.{clusters_of}
use Rattle.life_census.specs.Rows.{TallyCounts}
use Rattle.life_census.specs.Counting.{IsTally, tally_of}
use Rattle.life_census.specs.CensusTable.{csv_text}
use Rattle.life_jobs.specs.declared.stop.Stop.{Stop}
use Rattle.life_jobs.specs.declared.stop.Stop.TheVariants.{OutOfLimit, BadPattern, BadRule, BadCode, Unreadable}
use Rattle.life_jobs.specs.declared.stop.Stop.TheVariants.{Unavailable, Unwritable}
use Rattle.life_jobs.specs.PatternJobs.{IsPeriodLimit, file_text, census_table, PrintsObject, PutsObject}
use Rattle.life_jobs.specs.PatternJobs.{PutsKnown}
use Rattle.life_jobs.specs.PatternJobsState.{code_stop}
use Rattle.life_jobs.specs.Streams.{ReadsKnown, PutsText}

-- ---- jobs that print a text for a file

module _ (shown : Contents → List ℕ) where
  -- the text for a file that is read as a record
  text_of_file : (bytes : List ℕ) (r : Contents) → file bytes ≡ Ok r → file_text shown bytes ≡ Ok (shown r)
  unfolding file_text
  text_of_file bytes r is = ap (λ answer. answer >>= λ r. Ok (shown r)) is

  -- the fault for a file that has one
  fault_of_file : (bytes : List ℕ) (fault : RleFault) → file bytes ≡ Err fault → file_text shown bytes ≡ Err fault
  unfolding file_text
  fault_of_file bytes fault is = ap (λ answer. answer >>= λ r. Ok (shown r)) is

  -- a job that stops where its input is read
  pub stops_at_input : (known old new : Option (List ℕ)) (stop : Stop) → ReadsKnown known (Err stop)
      → PutsKnown (file_text shown) known old new (Err stop)
  stops_at_input None old new stop h = tt
  stops_at_input (Some bytes) old new OutOfLimit h = h
  stops_at_input (Some bytes) old new (BadPattern fault) h = fault_of_file bytes fault h
  stops_at_input (Some bytes) old new BadRule h = h
  stops_at_input (Some bytes) old new (BadCode fault) h = h
  stops_at_input (Some bytes) old new Unreadable h = tt
  stops_at_input (Some bytes) old new Unavailable h = tt
  stops_at_input (Some bytes) old new Unwritable h = absurd h

  -- a job that puts the text of what it read
  pub puts_text : (known old new : Option (List ℕ)) (r : Contents) (all : List ℕ) (answer : Result (Unit {0}) Stop)
      → ReadsKnown known (Ok r) → all ≡ shown r
      → PutsText old new all answer → PutsKnown (file_text shown) known old new answer
  puts_text None old new r all answer h is puts = tt
  puts_text (Some bytes) old new r all (Ok done) h is puts = (all, text_of_file bytes r h ∙ ap Ok (sym is), puts)
  puts_text (Some bytes) old new r all (Err OutOfLimit) h is puts = puts
  puts_text (Some bytes) old new r all (Err (BadPattern fault)) h is puts = absurd puts
  puts_text (Some bytes) old new r all (Err BadRule) h is puts = puts
  puts_text (Some bytes) old new r all (Err (BadCode fault)) h is puts = puts
  puts_text (Some bytes) old new r all (Err Unreadable) h is puts = tt
  puts_text (Some bytes) old new r all (Err Unavailable) h is puts = tt
  puts_text (Some bytes) old new r all (Err Unwritable) h is puts = (all, text_of_file bytes r h ∙ ap Ok (sym is), puts)

-- ---- the table of a census

-- what a tally is determines it
tally_is : (code : Cells → Option (List ℕ)) (Ps : List Cells) (t : TallyCounts) → IsTally code Ps t
    → t ≡ tally_of code Ps
tally_is code Ps t is = λ i. record { rows = is.rows i; unresolved = is.unresolved i; total = is.total i }

-- the table of the tally of a generation of a record
pub table_of_record : (r s : Contents) (n limit : ℕ) (X : Cells) (t : TallyCounts) → r ≡ s
    → X ≡ generation_of r.rule r.cells n → IsTally (λ P. code_of r.rule P limit) (clusters_of X) t
    → csv_text t ≡ census_table n limit s
table_of_record r s n limit X t same is tallied =
    ap csv_text (tally_is (λ P. code_of r.rule P limit) (clusters_of X) t tallied)
    ∙ ap (λ Y. csv_text (tally_of (λ P. code_of r.rule P limit) (clusters_of Y))) is
    ∙ ap (census_table n limit) same

-- ---- the set of a code

-- what holds of the stop for a code that is not opened
pub by_fault : (P : Stop → Type 0) (fault : CodeFault) (stop : Stop) → stop ≡ code_stop fault
    → P Unavailable → (fault ≢ code_faults.Memory → P (BadCode fault)) → P stop
by_fault P fault stop is unavailable bad = subst P (sym is) (go fault bad)
  where
    go : (f : CodeFault) → (f ≢ code_faults.Memory → P (BadCode f)) → P (code_stop f)
    go code_faults.BadText bad = bad (λ e. cc)
    go code_faults.NotCanonical bad = bad (λ e. cc)
    go code_faults.NotWithinLimit bad = bad (λ e. cc)
    go code_faults.Memory bad = unavailable

module _ (rule code text : List ℕ) (limit m : ℕ) (r : RuleSets) (rule_is : read_rule rule ≡ Ok r)
    (limit_is : m ≡ limit) (code_is : text ≡ code) where
  -- what holds under the limit and for the code that a job took holds for its words
  for_words : (P : List ℕ → ℕ → Type 0) → P text m → P code limit
  for_words P holds = subst (P code) limit_is (subst (λ t. P t m) code_is holds)

  -- what a job answers to a code that is not opened
  pub refuses_code : (old new : Option (List ℕ)) (fault : CodeFault) (stop : Stop) → stop ≡ code_stop fault
      → IsPeriodLimit limit
      → Refuses r text m fault → (fault ≢ code_faults.Memory → (X : Cells) → code_of r X m ≢ Some text)
      → PutsObject rule code limit old new (Err stop)
  refuses_code old new fault stop is within refuses none =
      by_fault (λ stop. PutsObject rule code limit old new (Err stop)) fault stop is tt (λ not_memory. (
        within,
        record {
          rule_sets = r;
          rule_is = rule_is;
          not_memory = not_memory;
          refuses = for_words (λ t k. Refuses r t k fault) refuses;
          no_code = for_words (λ t k. (X : Cells) → code_of r X k ≢ Some t) (none not_memory);
        },
      ))

  -- what is printed for the code
  abbrev pub Shown : List ℕ → Type 0
  Shown all = (X : Cells) × Spells text X × (code_of r X m ≡ Some text) × (all ≡ printed (plain r X))

  prints : (all : List ℕ) → Shown all → PrintsObject rule code limit all
  prints all shown = record {
    rule_sets = r;
    cells = shown.0;
    rule_is = rule_is;
    spells = subst (λ t. Spells t shown.0) code_is shown.1;
    has_code = for_words (λ t k. code_of r shown.0 k ≡ Some t) shown.2;
    text_is = shown.3;
  }

  -- what a job answers where the text of an object is put
  pub puts_object : (old new : Option (List ℕ)) (all : List ℕ) (answer : Result (Unit {0}) Stop)
      → Shown all → PutsText old new all answer → PutsObject rule code limit old new answer
  puts_object old new all (Ok done) shown puts = (all, prints all shown, puts)
  puts_object old new all (Err OutOfLimit) shown puts = absurd puts
  puts_object old new all (Err (BadPattern fault)) shown puts = puts
  puts_object old new all (Err BadRule) shown puts = absurd puts
  puts_object old new all (Err (BadCode fault)) shown puts = absurd puts
  puts_object old new all (Err Unreadable) shown puts = puts
  puts_object old new all (Err Unavailable) shown puts = tt
  puts_object old new all (Err Unwritable) shown puts = (all, prints all shown, puts)
