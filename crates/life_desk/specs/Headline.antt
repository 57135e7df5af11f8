-- The headline of the archive: the replies of a run, in terms of sets of live cells.
use Rattle.std.specs.Prelude.{◌≡◌, ◌↔◌, ◌+◌, ◌≤◌, ◌⊎◌, ℕ, List, Option, Some, Ok, IsTrue, length, sum_by, count_by}
use Rattle.std.specs.Prelude.{is_none}
use Rattle.std.specs.List.{Contains, filter_map}
use Rattle.sqlite_trees.specs.declared.store.Store.{Ghosts}
use Rattle.life_core.specs.Rule.{RuleSets}
use Rattle.life_core.specs.RuleText.{read_rule}
use Rattle.life_core.specs.Pattern.{Cells}
use Rattle.life_core.specs.Generations.{generation_of}
use Rattle.life_rle.specs.Record.{Contents, plain}
use Rattle.life_rle.specs.File as files
use Rattle.life_rle.specs.Writer as writer
use Rattle.life_code.specs.declared.kinds.Kind.{Kind}
use Rattle.life_code.specs.Period.{kind_of}
use Rattle.life_code.specs.Codes.{code_of, Same}
use Rattle.life_census.specs.Cluster.{clusters_of}
use Rattle.life_census.specs.Counting.{how_often}
use Rattle.life_census.specs.Rows.{TallyCounts}
use Rattle.life_census.specs.Steady.{IsSteady}
use Rattle.life_store.specs.declared.kept.Deposit.{Deposit}
use Rattle.life_store.specs.declared.kept.Census.{Census}
use Rattle.life_store.specs.Kept.{numbered}
use Rattle.life_store.specs.Recoverable.{IsHonest}
use Rattle.life_store.specs.Tables.{ArchiveView, HasFailed}
use Rattle.life_desk.specs.declared.request.Request.{Request}
use Rattle.life_desk.specs.declared.request.Request.TheVariants as requests
use Rattle.life_desk.specs.declared.request.Reply.{Reply}
use Rattle.life_desk.specs.declared.request.Reply.TheVariants as replies
use Rattle.life_desk.specs.declared.request.Shown.{Shown}
use Rattle.life_desk.specs.Archive.{Archive, clusters_with}
use Rattle.life_desk.specs.Represents.{IsRepresentable, Represents}
use Rattle.life_desk.specs.Run.{RequestRun, IsAnswered, IsLater}

-- The tally counts every cluster of X once, under its code or as unresolved. The clusters are `clusters_of X`. By the
-- laws `OneClusterEach` and `OneListOfClusters` of life_census, this is the only list with each live cell in exactly
-- one cluster. A row counts the clusters with its code. The rows and the unresolved clusters add up to the total.
pub record CountsEachOnce (rule : RuleSets) (X : Cells) (limit : ℕ) (tally : TallyCounts) : Type 0 where
  pub rows : (code : List ℕ) (n : ℕ) → Contains tally.rows (code, n)
      ↔ ((n ≡ how_often code (filter_map (λ P. code_of rule P limit) (clusters_of X))) × (1 ≤ n))
  pub unresolved : tally.unresolved ≡ count_by (λ P. is_none (code_of rule P limit)) (clusters_of X)
  pub total : tally.total ≡ length (clusters_of X)
  pub adds_up : sum_by (λ (row : List ℕ × ℕ). row.1) tally.rows + tally.unresolved ≡ tally.total

-- The reply shows the census with the number: its deposit, generation, limit and tally, and whether the counted
-- generation is steady. Steady means that its clusters are still lifes and oscillators that never meet.
pub record ShowsCensus (B : Archive) (id : ℕ) (shown : Shown) : Type 0 where
  pub census : Census
  pub deposit : Deposit
  pub stored : numbered B.censuses id ≡ Some census
  pub counted : numbered B.deposits census.deposit ≡ Some deposit
  pub numbers : (shown.census ≡ id) × (shown.deposit ≡ census.deposit) × (shown.generation ≡ census.generation)
      × (shown.limit ≡ census.limit)
  pub tally : CountsEachOnce deposit.content.rule
      (generation_of deposit.content.rule deposit.content.cells census.generation) census.limit shown.tally
  pub steady : IsTrue shown.steady ↔ IsSteady deposit.content.rule
      (generation_of deposit.content.rule deposit.content.cells census.generation) census.limit

-- The meaning of the replies of a run from A to B. Numbers refer to the deposits and censuses of B.
pub record Headline (A : Archive) (qs : List Request) (rs : List Reply) (B : Archive) : Type 0 where
  -- nothing that A has is lost or changed
  pub later : IsLater A B
  -- the number in the reply to a deposit names that deposit
  pub deposited : (member token file : List ℕ) (n : ℕ)
      → IsAnswered qs rs (requests.Deposit member token file) (replies.Deposited n)
      → (content : Contents) × (files.file file ≡ Ok content)
      × (numbered B.deposits n ≡ Some (record { member = member; token = token; content = content }))
  -- a deposit is shown as the canonical text of its record
  pub shows : (id : ℕ) (bytes : List ℕ) → IsAnswered qs rs (requests.Show id) (replies.File bytes)
      → (d : Deposit) × (numbered B.deposits id ≡ Some d) × (bytes ≡ writer.text d.content)
  -- generation n is the rule applied n times
  pub generations : (id n : ℕ) (bytes : List ℕ) → IsAnswered qs rs (requests.At id n) (replies.File bytes)
      → (d : Deposit) × (numbered B.deposits id ≡ Some d)
      × (bytes ≡ writer.text (plain d.content.rule (generation_of d.content.rule d.content.cells n)))
  -- the kind and the code belong to the deposit's pattern
  pub kinds : (id limit : ℕ) (k : Kind) (code : Option (List ℕ))
      → IsAnswered qs rs (requests.KindOf id limit) (replies.Kinded k code)
      → (d : Deposit) × (numbered B.deposits id ≡ Some d) × (k ≡ kind_of d.content.rule d.content.cells limit)
      × (code ≡ code_of d.content.rule d.content.cells limit)
  -- two coded patterns of one rule share a code if and only if a translation, rotation or reflection takes one to a
  -- phase of the other
  pub codes : (i j limit other : ℕ) (k l : Kind) (s t : List ℕ) (d e : Deposit)
      → IsAnswered qs rs (requests.KindOf i limit) (replies.Kinded k (Some s))
      → IsAnswered qs rs (requests.KindOf j other) (replies.Kinded l (Some t))
      → numbered B.deposits i ≡ Some d → numbered B.deposits j ≡ Some e → d.content.rule ≡ e.content.rule
      → (s ≡ t) ↔ Same d.content.rule d.content.cells e.content.cells
  -- a census counts every cluster once, under its code or as unresolved
  pub censuses : (id : ℕ) (shown : Shown) → IsAnswered qs rs (requests.ShowCensus id) (replies.Shown shown)
      → ShowsCensus B id shown
  -- a total is the number of clusters with the code in all censuses of deposits with the rule, at that moment
  pub totals : (text code : List ℕ) (limit n : ℕ) → IsAnswered qs rs (requests.Total text code limit) (replies.Total n)
      → (rule : RuleSets) × (M : Archive) × (read_rule text ≡ Ok rule) × IsLater A M × IsLater M B
      × (n ≡ clusters_with M rule code)

-- The headline holds for every run from an archive that tables can represent.
abbrev pub HeadlineHolds : Type 0
HeadlineHolds =
    (A B : Archive) (qs : List Request) (rs : List Reply) → IsRepresentable A → RequestRun A qs rs B
    → Headline A qs rs B

-- A run took A to an archive that the tables represent, and the headline holds for these replies.
abbrev pub IsTakenByRun : {S : Type 0} → Archive → ArchiveView S → List Request → List Reply → Type 0
IsTakenByRun A new qs rs = (B : Archive) × RequestRun A qs rs B × Represents new B × Headline A qs rs B

-- If the database is healthy at the end, this holds for each archive that the tables represented.
abbrev pub IsTheArchive : {S : Type 0} → ArchiveView S → ArchiveView S → List Request → List Reply → Type 0
IsTheArchive old new qs rs = (A : Archive) → IsTrue new.tables.is_healthy → Represents old A → IsTakenByRun A new qs rs

-- The replies come from a run that began at A, and the headline holds for them. The final archive is left open.
abbrev pub AreOfARun : Archive → List Request → List Reply → Type 0
AreOfARun A qs rs = (B : Archive) × RequestRun A qs rs B × Headline A qs rs B

-- A database that is healthy at the start is healthy at the end, after a run from A, or the disk failed during the
-- call. Even then the replies come from a run, unless the disk returned something other than what was written. The
-- clause on crashes says which archive is left.
abbrev pub IsTheArchiveOrFaults : {S : Type 0} → Ghosts S → ArchiveView S → ArchiveView S → List Request
    → List Reply → Type 0
IsTheArchiveOrFaults g old new qs rs = (A : Archive) → IsTrue old.tables.is_healthy → Represents old A
    → (IsTrue new.tables.is_healthy × IsTakenByRun A new qs rs)
    ⊎ (HasFailed old.tables new.tables × (IsHonest g new → AreOfARun A qs rs))

-- A database in memory is always healthy, so this needs no premise about its health.
abbrev pub IsTheArchiveInMemory : {S : Type 0} → ArchiveView S → ArchiveView S → List Request → List Reply → Type 0
IsTheArchiveInMemory old new qs rs = (A : Archive) → Represents old A → IsTakenByRun A new qs rs
