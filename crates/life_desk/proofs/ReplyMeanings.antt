-- What the replies of a run say about sets of live cells.
use Rattle.std.proofs.Common.{inl, inr, ◌≡◌, ◌≢◌, ◌↔◌, ℕ, List, Bool, true, false, Option, None, Some, IsSome, IsTrue}
use Rattle.std.proofs.Common.{Result, Ok, Err, IfOk, refl, sym, ◌∙◌, ap, subst, if◌then◌else◌}
use Rattle.life_core.specs.Rule.{RuleSets}
use Rattle.life_core.specs.RuleText.{read_rule}
use Rattle.life_core.specs.declared.rule_text.RuleFault.{RuleFault}
use Rattle.life_core.specs.Pattern.{Cells}
use Rattle.life_core.specs.Generations.{generation_of}
use Rattle.life_rle.specs.Record.{plain}
use Rattle.life_rle.specs.Writer as writer
use Rattle.life_code.specs.declared.kinds.Kind.{Kind}
use Rattle.life_code.specs.Codes.{code_of, Same}
use Rattle.life_code.specs.Period.{kind_of}
use Rattle.life_code.specs.CodeLaws.{CodeIsComplete}
use Rattle.life_census.specs.Cluster.{clusters_of}
use Rattle.life_census.specs.Rows.{TallyCounts}
use Rattle.life_census.specs.Steady.{IsSteady}
use Rattle.life_census.specs.CensusLaws.{RowsAreCounts, TalliesAddUp, SteadyIsDecided}
use Rattle.sqlite_trees.specs.declared.store.Store.{Ghosts}
use Rattle.life_store.specs.declared.kept.Deposit.{Deposit}
use Rattle.life_store.specs.declared.kept.Census.{Census}
use Rattle.life_store.specs.Kept.{numbered}
use Rattle.life_desk.specs.declared.refusal.Refusal.{Refusal}
use Rattle.life_desk.specs.declared.refusal.Refusal.TheVariants as refusals
use Rattle.life_desk.specs.declared.request.Request.{Request}
use Rattle.life_desk.specs.declared.request.Request.TheVariants as requests
use Rattle.life_desk.specs.declared.request.Reply.{Reply}
use Rattle.life_desk.specs.declared.request.Reply.TheVariants as replies
use Rattle.life_desk.specs.declared.request.Shown.{Shown}
use Rattle.life_desk.specs.Archive.{Archive, clusters_with, tally_at, tally_for, tally_of_cells, steady_at, steady_for}
use Rattle.life_desk.specs.Validation.{is_generation, is_limit, fault_in, validated_by}
use Rattle.life_desk.specs.Replies.{IsReply, IsReplyBy, IsTotalUnder, after, at_reply, file_reply, kind_reply}
use Rattle.life_desk.specs.Replies.{shown_reply}
use Rattle.life_desk.specs.Represents.{EachHasDeposit, IsRepresentable}
use Rattle.life_store.specs.Tables.{ArchiveView, StaysHealthy}
use Rattle.life_desk.specs.Run.{RequestRun, IsAnswered, IsLater, Answered}
use Rattle.life_desk.specs.DeskLaws.{FlagTellsSteady}
use Rattle.life_desk.specs.Headline.{CountsEachOnce, ShowsCensus, HeadlineHolds, IsTheArchive, IsTheArchiveOrFaults}
use Rattle.life_desk.specs.Headline.{IsTheArchiveInMemory}
use Rattle.life_desk.proofs.Representing.{representable_of}
use Rattle.life_desk.proofs.LaterArchives.{later_later, deposit_stays, census_stays}
use Rattle.life_desk.proofs.Steps.{moment, step_answers, step_later, run_later, census_has}
use Rattle.life_desk.proofs.DepositsOnce.{deposits_stay_lem}

-- the reply at its moment, and the archives before and after
abbrev At : Archive → Request → Reply → Archive → Type 0
At A q r B = (M : Archive) × IsRepresentable M × IsReply M q r × IsLater M B × IsLater (after M q) B

at : (A B : Archive) (qs : List Request) (rs : List Reply) (q : Request) (r : Reply) → IsRepresentable A
    → RequestRun A qs rs B → IsAnswered qs rs q r → r ≢ replies.Refused refusals.Unavailable → At A q r B
at A B qs rs q r can run answered other =
    let m = moment A B qs rs q r can run answered in
    let says_so = step_answers m.before q r m.behind m.step other in (
      m.before,
      m.representable,
      says_so.0,
      later_later m.before m.behind B (step_later m.before q r m.behind m.step) m.later,
      subst (λ X. IsLater X B) says_so.1 m.later,
    )

-- ---- generations

generation_case : (M : Archive) (id n : ℕ) (bytes : List ℕ) (b : Bool)
    → IsReplyBy M (validated_by (if b then None else Some refusals.OutOfLimit) (requests.At id n)) (replies.File bytes)
    → replies.File bytes ≡ at_reply n (numbered M.deposits id)
generation_case M id n bytes true is = is
generation_case M id n bytes false is = absurd cc

file_case : (n : ℕ) (bytes : List ℕ) (o : Option Deposit) → replies.File bytes ≡ at_reply n o
    → (d : Deposit) × (o ≡ Some d)
    × (bytes ≡ writer.text (plain d.content.rule (generation_of d.content.rule d.content.cells n)))
file_case n bytes None is = absurd cc
file_case n bytes (Some d) is = (d, refl, cc)

-- ---- codes

limit_case : (M : Archive) (id limit : ℕ) (r : Reply) (k : Kind) (code : Option (List ℕ)) (b : Bool)
    → r ≡ replies.Kinded k code
    → IsReplyBy M (validated_by (if b then None else Some refusals.OutOfLimit) (requests.KindOf id limit)) r
    → r ≡ kind_reply limit (numbered M.deposits id)
limit_case M id limit r k code true kind is = is
limit_case M id limit r k code false kind is = absurd cc

code_case : (limit : ℕ) (k : Kind) (code : List ℕ) (o : Option Deposit)
    → replies.Kinded k (Some code) ≡ kind_reply limit o
    → (d : Deposit) × (o ≡ Some d) × (code_of d.content.rule d.content.cells limit ≡ Some code)
code_case limit k code None is = absurd cc
code_case limit k code (Some d) is = (d, refl, cc)

coded : (A B : Archive) (qs : List Request) (rs : List Reply) → IsRepresentable A → RequestRun A qs rs B
    → (id limit : ℕ) (k : Kind) (code : List ℕ) (d : Deposit)
    → IsAnswered qs rs (requests.KindOf id limit) (replies.Kinded k (Some code)) → numbered B.deposits id ≡ Some d
    → code_of d.content.rule d.content.cells limit ≡ Some code
coded A B qs rs can run id limit k code d answered is =
    let m = at A B qs rs (requests.KindOf id limit) (replies.Kinded k (Some code)) can run answered (λ e. cc) in
    let found = code_case limit k code (numbered m.0.deposits id)
    (limit_case m.0 id limit (replies.Kinded k (Some code)) k (Some code) (is_limit limit) refl m.2) in
    let stays : numbered B.deposits id ≡ Some found.0 = deposit_stays m.0 B m.3 id found.0 found.1 in
    let same : found.0 ≡ d = cc in
    subst (λ (x : Deposit). code_of x.content.rule x.content.cells limit ≡ Some code) same found.2

one_object : CodeIsComplete → (d e : Deposit) (limit other : ℕ) (s t : List ℕ) → d.content.rule ≡ e.content.rule
    → code_of d.content.rule d.content.cells limit ≡ Some s → code_of e.content.rule e.content.cells other ≡ Some t
    → (s ≡ t) ↔ Same d.content.rule d.content.cells e.content.cells
one_object complete d e limit other s t rule one two =
    complete d.content.rule d.content.cells e.content.cells limit other s t one
    (ap (λ r. code_of r e.content.cells other) rule ∙ two)

-- ---- censuses

counts : RowsAreCounts → TalliesAddUp → (rule : RuleSets) (X : Cells) (limit : ℕ)
    → CountsEachOnce rule X limit (tally_of_cells rule X limit)
counts rows add rule X limit = record {
  rows = λ code n. rows _ code n;
  unresolved = refl;
  total = refl;
  adds_up =
      add (λ P. code_of rule P limit) (clusters_of X) (tally_of_cells rule X limit)
      (record { rows = refl; unresolved = refl; total = refl });
}

-- a census, as it is shown
abbrev shown_of : List Deposit → ℕ → Census → Shown
shown_of ds id c = record {
  census = id;
  deposit = c.deposit;
  generation = c.generation;
  limit = c.limit;
  tally = tally_at ds c;
  steady = steady_at ds c;
}

shown_case : (ds : List Deposit) (id : ℕ) (shown : Shown) (o : Option Census)
    → replies.Shown shown ≡ shown_reply ds id o
    → (c : Census) × (o ≡ Some c) × (shown ≡ shown_of ds id c)
shown_case ds id shown None is = absurd cc
shown_case ds id shown (Some c) is = (c, refl, cc)

some_of : {X : Type 0} → (o : Option X) → IsSome o → (x : X) × (o ≡ Some x)
some_of None is = absurd cc
some_of (Some x) is = (x, refl)

-- ---- flags

-- what the flag of a census that is shown says of its deposit
abbrev FlagTells : List Deposit → Deposit → Shown → Type 0
FlagTells ds d shown =
    numbered ds shown.deposit ≡ Some d → IsTrue shown.steady
    ↔ IsSteady d.content.rule (generation_of d.content.rule d.content.cells shown.generation) shown.limit

flag_case : SteadyIsDecided → (ds : List Deposit) (d : Deposit) (id : ℕ) (shown : Shown) (o : Option Census)
    → replies.Shown shown ≡ shown_reply ds id o → FlagTells ds d shown
flag_case decided ds d id shown None is = absurd cc
flag_case decided ds d id shown (Some c) is =
    let same : shown ≡ record {
      census = id;
      deposit = c.deposit;
      generation = c.generation;
      limit = c.limit;
      tally = tally_at ds c;
      steady = steady_at ds c;
    } = cc in
    subst (λ (x : Shown). FlagTells ds d x) (sym same) (λ there.
    subst (λ o. IsTrue (steady_for c o)
    ↔ IsSteady d.content.rule (generation_of d.content.rule d.content.cells c.generation) c.limit) (sym there)
    (decided d.content.rule (generation_of d.content.rule d.content.cells c.generation) c.limit))

pub flag_tells_steady : SteadyIsDecided → FlagTellsSteady
flag_tells_steady decided A id shown d is there =
    flag_case decided A.deposits d id shown (numbered A.censuses id) is there

-- a census of a deposit is shown as it is
shows_census : RowsAreCounts → TalliesAddUp → SteadyIsDecided → (M B : Archive) (id : ℕ) (shown : Shown)
    → EachHasDeposit M.deposits M.censuses → IsLater M B
    → replies.Shown shown ≡ shown_reply M.deposits id (numbered M.censuses id) → ShowsCensus B id shown
shows_census rows add decided M B id shown each later is =
    let found = shown_case M.deposits id shown (numbered M.censuses id) is in
    let c : Census = found.0 in
    let has = some_of (numbered M.deposits c.deposit) (census_has M.deposits M.censuses id c each found.1) in
    let d : Deposit = has.0 in
    let tally : shown.tally ≡ tally_for c (Some d) = ap (λ (x : Shown). x.tally) found.2
    ∙ ap (λ o. tally_for c o) has.1 in
    let steady : shown.steady ≡ steady_for c (Some d) = ap (λ (x : Shown). x.steady) found.2
    ∙ ap (λ o. steady_for c o) has.1 in
    record {
      census = c;
      deposit = d;
      stored = census_stays M B later id c found.1;
      counted = deposit_stays M B later c.deposit d has.1;
      numbers = (
        ap (λ (x : Shown). x.census) found.2,
        ap (λ (x : Shown). x.deposit) found.2,
        ap (λ (x : Shown). x.generation) found.2,
        ap (λ (x : Shown). x.limit) found.2,
      );
      tally =
          subst (λ (t : TallyCounts). CountsEachOnce d.content.rule
          (generation_of d.content.rule d.content.cells c.generation) c.limit t) (sym tally)
          (counts rows add d.content.rule (generation_of d.content.rule d.content.cells c.generation) c.limit);
      steady =
          subst (λ b. IsTrue b ↔ IsSteady d.content.rule
          (generation_of d.content.rule d.content.cells c.generation) c.limit) (sym steady)
          (decided d.content.rule (generation_of d.content.rule d.content.cells c.generation) c.limit);
    }

-- ---- shows, kinds and totals

show_case : (bytes : List ℕ) (o : Option Deposit) → replies.File bytes ≡ file_reply o
    → (d : Deposit) × (o ≡ Some d) × (bytes ≡ writer.text d.content)
show_case bytes None is = absurd cc
show_case bytes (Some d) is = (d, refl, cc)

kind_case : (limit : ℕ) (k : Kind) (code : Option (List ℕ)) (o : Option Deposit)
    → replies.Kinded k code ≡ kind_reply limit o
    → (d : Deposit) × (o ≡ Some d) × (k ≡ kind_of d.content.rule d.content.cells limit)
    × (code ≡ code_of d.content.rule d.content.cells limit)
kind_case limit k code None is = absurd cc
kind_case limit k code (Some d) is = (d, refl, cc, cc)

rule_case : (M : Archive) (code : List ℕ) (limit n : ℕ) (read : Result RuleSets RuleFault)
    → IsTotalUnder M read code limit (replies.Total n)
    → (rule : RuleSets) × (read ≡ Ok rule) × (n ≡ clusters_with M rule code)
rule_case M code limit n (Ok rule) is = (rule, refl, is.2)
rule_case M code limit n (Err fault) is = absurd cc

total_case : (M : Archive) (text code : List ℕ) (limit n : ℕ) (fault : Option Refusal)
    → IsReplyBy M (validated_by fault (requests.Total text code limit)) (replies.Total n)
    → (rule : RuleSets) × (read_rule text ≡ Ok rule) × (n ≡ clusters_with M rule code)
total_case M text code limit n None is = rule_case M code limit n (read_rule text) is
total_case M text code limit n (Some refusal) is = absurd cc

-- ---- all

pub headline_holds : RowsAreCounts → TalliesAddUp → SteadyIsDecided → CodeIsComplete → HeadlineHolds
headline_holds rows add decided complete A B qs rs can run = record {
  later = run_later A B qs rs run;
  deposited = λ member token file n answered.
      let m = at A B qs rs (requests.Deposit member token file) (replies.Deposited n) can run answered (λ e. cc) in
      deposits_stay_lem m.0 B member token file n m.1.again m.2 m.4;
  shows = λ id bytes answered.
      let m = at A B qs rs (requests.Show id) (replies.File bytes) can run answered (λ e. cc) in
      let found = show_case bytes (numbered m.0.deposits id) m.2 in
      (found.0, deposit_stays m.0 B m.3 id found.0 found.1, found.2);
  kinds = λ id limit k code answered.
      let m = at A B qs rs (requests.KindOf id limit) (replies.Kinded k code) can run answered (λ e. cc) in
      let found = kind_case limit k code (numbered m.0.deposits id)
      (limit_case m.0 id limit (replies.Kinded k code) k code (is_limit limit) refl m.2) in
      (found.0, deposit_stays m.0 B m.3 id found.0 found.1, found.2, found.3);
  totals = λ text code limit n answered.
      let m = moment A B qs rs (requests.Total text code limit) (replies.Total n) can run answered in
      let is = (step_answers m.before (requests.Total text code limit) (replies.Total n) m.behind m.step (λ e. cc)).0 in
      let found = total_case m.before text code limit n (fault_in (requests.Total text code limit)) is in (
        found.0,
        m.before,
        found.1,
        m.earlier,
        later_later m.before m.behind B
            (step_later m.before (requests.Total text code limit) (replies.Total n) m.behind m.step) m.later,
        found.2,
      );
  generations = λ id n bytes answered.
      let m = at A B qs rs (requests.At id n) (replies.File bytes) can run answered (λ e. cc) in
      let found = file_case n bytes (numbered m.0.deposits id) (generation_case m.0 id n bytes (is_generation n) m.2) in
      (found.0, deposit_stays m.0 B m.3 id found.0 found.1, found.2);
  codes = λ i j limit other k l s t d e first second is also rule.
      one_object complete d e limit other s t rule (coded A B qs rs can run i limit k s d first is)
      (coded A B qs rs can run j other l t e second also);
  censuses = λ id shown answered.
      let m = at A B qs rs (requests.ShowCensus id) (replies.Shown shown) can run answered (λ e. cc) in
      shows_census rows add decided m.0 B id shown m.1.each m.3 m.2;
}

-- what was answered is what the archive says
pub told_by : {S : Type 0} {g : Ghosts S} → HeadlineHolds
    → (old new : ArchiveView S) (qs : List Request) (rs : List Reply) → Answered g old new qs rs
    → IsTheArchive old new qs rs
told_by holds old new qs rs done = λ A healthy m.
    let run = done.run healthy A m in
    (run.0, run.1, run.2, holds A run.0 qs rs (representable_of old A m) run.1)

pub all_told_by : {X E S : Type 0} → (g : Ghosts S) → HeadlineHolds
    → (old new : ArchiveView S) (qs : List Request) (replies : X → List Reply) (r : Result X E)
    → IfOk r (λ x. Answered g old new qs (replies x))
    → IfOk r (λ x. IsTheArchive old new qs (replies x))
all_told_by g holds old new qs replies (Ok x) done = told_by holds old new qs (replies x) done
all_told_by g holds old new qs replies (Err e) done = tt

lasting_by : {S : Type 0} {g : Ghosts S} → HeadlineHolds
    → (old new : ArchiveView S) (qs : List Request) (rs : List Reply) → Answered g old new qs rs
    → IsTheArchiveOrFaults g old new qs rs
unfolding StaysHealthy
lasting_by holds old new qs rs done A healthy m = elim (done.transition.lasts.is_healthy healthy) [
  | inl still ↦ inl (still, told_by holds old new qs rs done A still m)
  | inr more ↦ inr (
    more,
    λ clean. let run = done.replied clean healthy A m in
        (run.0, run.1, holds A run.0 qs rs (representable_of old A m) run.1),
  )
]

pub all_lasting_by : {X E S : Type 0} → (g : Ghosts S) → HeadlineHolds
    → (old new : ArchiveView S) (qs : List Request) (replies : X → List Reply) (r : Result X E)
    → IfOk r (λ x. Answered g old new qs (replies x))
    → IfOk r (λ x. IsTheArchiveOrFaults g old new qs (replies x))
all_lasting_by g holds old new qs replies (Ok x) done = lasting_by holds old new qs (replies x) done
all_lasting_by g holds old new qs replies (Err e) done = tt

-- if the database is healthy at the end in any case
pub all_healthy_by : {X E S : Type 0}
    → (old new : ArchiveView S) (qs : List Request) (replies : X → List Reply) (r : Result X E)
    → IsTrue new.tables.is_healthy → IfOk r (λ x. IsTheArchive old new qs (replies x))
    → IfOk r (λ x. IsTheArchiveInMemory old new qs (replies x))
all_healthy_by old new qs replies (Ok x) healthy told = λ A m. told A healthy m
all_healthy_by old new qs replies (Err e) healthy told = tt
