-- The output of the jobs of `life-haul`.
use Rattle.std.specs.Prelude.{◌≡◌, ◌≤◌, ◌<◌, ℕ, ◌+◌, List, length, nat_le, Bool, true, ◌&&◌, Option, Result, Ok, Err}
use Rattle.std.specs.List.{list_all}
use Rattle.life_core.specs.Rule.{RuleSets}
use Rattle.life_core.specs.RuleText.{read_rule}
use Rattle.life_rle.specs.Record.{plain}
use Rattle.life_rle.specs.Stream.{Appends, AppendsSome}
use Rattle.life_rle.specs.Writer.{text}
use Rattle.life_jobs.specs.PatternJobs.{AreCensusNumbers, RefusesRule}
use Rattle.life_jobs.specs.declared.stop.Stop.{Stop}
use Rattle.life_jobs.specs.declared.stop.Stop.TheVariants.{OutOfLimit, BadRule, Unavailable, Unwritable}
use Rattle.life_hauls.specs.declared.haul_jobs.TheConstants.{COUNT_LIMIT, FIRST_LIMIT}
use Rattle.life_hauls.specs.declared.haul_jobs.HaulWords.{HaulWords}
use Rattle.life_hauls.specs.declared.haul_jobs.SoupWords.{SoupWords}
use Rattle.life_hauls.specs.Hauls.{haul_of}
use Rattle.life_hauls.specs.Soups.{soup_of}
use Rattle.life_hauls.specs.HaulTable.{csv_text}

-- printable ASCII without the space: `!` to `~`
abbrev pub is_graphic : ℕ → Bool
is_graphic b = nat_le 33 b && nat_le b 126

-- a root text: 1 to 64 bytes of graphic ASCII
abbrev pub IsRoot : List ℕ → Type 0
IsRoot root = (1 ≤ length root) × (length root ≤ 64) × (list_all is_graphic root ≡ true)

-- the arguments of a haul are valid; its rule is checked later
pub record MayBeAsked (words : HaulWords) : Type 0 where
  pub root : IsRoot words.root.now
  pub first : words.first ≤ FIRST_LIMIT
  pub some : 1 ≤ words.count
  pub few : words.count ≤ COUNT_LIMIT
  pub numbers : AreCensusNumbers words.n words.limit

-- the table of the haul with these arguments under a rule
abbrev pub haul_text : HaulWords → RuleSets → List ℕ
haul_text words rule =
    csv_text words.symmetry words.root.now rule words.n words.limit words.first
    (haul_of words.symmetry words.root.now rule words.n words.limit words.first words.count)

-- the arguments of a soup are valid, so some haul may count this soup; its rule is checked later
pub record MaySoupBeAsked (words : SoupWords) : Type 0 where
  pub root : IsRoot words.root.now
  pub number : words.number < FIRST_LIMIT + COUNT_LIMIT

-- the pattern file of the soup with these arguments under a rule
abbrev pub soup_text : SoupWords → RuleSets → List ℕ
soup_text words rule = text (plain rule (soup_of words.symmetry words.root.now words.number))

-- How a job answers: it checks its arguments, then the rule. It writes the wanted text under this rule, or a prefix of
-- it before a failed write.
abbrev pub PutsUnderRule : Type 0 → List ℕ → (RuleSets → List ℕ) → Option (List ℕ) → Option (List ℕ)
    → Result (Unit {0}) Stop → Type 0
PutsUnderRule MayBe rule wanted old new (Ok done) =
    MayBe × ((sets : RuleSets) × (read_rule rule ≡ Ok sets) × Appends old new (wanted sets))
PutsUnderRule MayBe rule wanted old new (Err OutOfLimit) = ¬ MayBe
PutsUnderRule MayBe rule wanted old new (Err BadRule) = MayBe × RefusesRule rule
PutsUnderRule MayBe rule wanted old new (Err Unavailable) = Unit {0}
PutsUnderRule MayBe rule wanted old new (Err Unwritable) =
    MayBe × ((sets : RuleSets) × (read_rule rule ≡ Ok sets) × AppendsSome old new (wanted sets))
PutsUnderRule MayBe rule wanted old new (Err stop) = ⊥

-- a haul writes its table
abbrev pub PutsHaul : HaulWords → Option (List ℕ) → Option (List ℕ) → Result (Unit {0}) Stop → Type 0
PutsHaul words = PutsUnderRule (MayBeAsked words) words.rule.now (haul_text words)

-- a soup is written as a pattern file
abbrev pub PutsSoup : SoupWords → Option (List ℕ) → Option (List ℕ) → Result (Unit {0}) Stop → Type 0
PutsSoup words = PutsUnderRule (MaySoupBeAsked words) words.rule.now (soup_text words)
