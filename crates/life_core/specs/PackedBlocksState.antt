-- Blocks of two or of four words by sixteen rows, in rows of words one after the other: place q of the list has its
-- neighbours at q - 1 and q + 1, and in the rows above and below, which are W places before and after.
use Rattle.std.specs.Prelude.{◌≡◌, ◌⊎◌, ℕ, ◌+◌, ◌-◌, ◌*◌, ◌<◌, ◌≤◌, List, length, nat_eq, slice_index_or}
use Rattle.life_core.specs.PackedRow.{place, one_if}
use Rattle.life_core.specs.Rule.{RuleSets, lives_at}
use Rattle.life_core.specs.PackedLanesState.{digits_at}
use Rattle.life_core.specs.declared.packed.blocks.Changes.{Changes}
use Rattle.life_core.specs.declared.packed.row_kernel.WideSums.{WideSums}
use Rattle.life_core.specs.declared.packed.wide_blocks.WideChanges.{WideChanges}

-- how many of the eight places around place q are set
abbrev pub flat_count : List ℕ → ℕ → ℕ → ℕ
flat_count rows W q =
    (place rows (q - W - 1) + (place rows (q - W) + place rows (q - W + 1)))
    + ((place rows (q - 1) + place rows (q + 1))
    + (place rows (q + W - 1) + (place rows (q + W) + place rows (q + W + 1))))

-- 1 if place q is live next
abbrev pub flat_next : RuleSets → List ℕ → ℕ → ℕ → ℕ
flat_next r rows W q = one_if (lives_at r (nat_eq (place rows q) 1) (flat_count rows W q))

-- the sums of four words, given their left and right neighbours
pub record AreSumsOf (left middle right : List ℕ) (s : WideSums) : Type 0 where
  pub here : (p : ℕ) → p < 256 → place s.here p ≡ place middle p
  pub sides : (p : ℕ) → p < 256 → digits_at s.sides s.sides2 p ≡ place left p + place right p
  pub all : (p : ℕ) → p < 256 → digits_at s.all s.all2 p ≡ place left p + (place middle p + place right p)

-- the sums of the four words from k on
pub record AreWideSums (rows : List ℕ) (k : ℕ) (s : WideSums) : Type 0 where
  pub here : (p : ℕ) → p < 256 → place s.here p ≡ place rows (64 * k + p)
  pub sides : (p : ℕ) → p < 256 → digits_at s.sides s.sides2 p
      ≡ place rows (64 * k + p - 1) + place rows (64 * k + p + 1)
  pub all : (p : ℕ) → p < 256 → digits_at s.all s.all2 p
      ≡ place rows (64 * k + p - 1) + (place rows (64 * k + p) + place rows (64 * k + p + 1))

-- the sums of the two words from k on; those for place p of the words are at place q p
pub record AreSumsAt (rows : List ℕ) (k : ℕ) (q : ℕ → ℕ) (s : WideSums) : Type 0 where
  pub here : (p : ℕ) → p < 128 → place s.here (q p) ≡ place rows (64 * k + p)
  pub sides : (p : ℕ) → p < 128 → digits_at s.sides s.sides2 (q p)
      ≡ place rows (64 * k + p - 1) + place rows (64 * k + p + 1)
  pub all : (p : ℕ) → p < 128 → digits_at s.all s.all2 (q p)
      ≡ place rows (64 * k + p - 1) + (place rows (64 * k + p) + place rows (64 * k + p + 1))

-- the sums of the two words from k on, and of the two below them
pub record AreTwoRows (rows : List ℕ) (words k : ℕ) (s : WideSums) : Type 0 where
  pub upper : AreSumsAt rows k (λ p. p) s
  pub lower : AreSumsAt rows (k + words) (λ p. 128 + p) s

-- the two words from k on, and the two below them, have the places that N gives
pub record AreNextRows (N : ℕ → ℕ) (words k : ℕ) (new : List ℕ) : Type 0 where
  pub upper : (p : ℕ) → p < 128 → place new p ≡ N (64 * k + p)
  pub lower : (p : ℕ) → p < 128 → place new (128 + p) ≡ N (64 * (k + words) + p)

-- the n words from k on have the places that N gives; all other words, and places not set in `changed`, are unchanged
pub record IsRowStep (n : ℕ) (N : ℕ → ℕ) (k : ℕ) (old new changed : List ℕ) : Type 0 where
  pub long : length new ≡ length old
  pub next : (p : ℕ) → p < 64 * n → place new (64 * k + p) ≡ N (64 * k + p)
  pub rest : (j : ℕ) → (j < k) ⊎ (k + n ≤ j) → slice_index_or new j 0 ≡ slice_index_or old j 0
  pub same : (p : ℕ) → p < 64 * n → place changed p ≡ 0 → place new (64 * k + p) ≡ place old (64 * k + p)

-- word j is not in the first m rows of the block with n words a row that begins at word `at`
abbrev pub IsOutside : ℕ → ℕ → ℕ → ℕ → ℕ → Type 0
IsOutside n at words m j = (i : ℕ) → i < m → (j < at + i * words) ⊎ (at + i * words + n ≤ j)

-- the first m rows of the block with n words a row that begins at word `at` have the places that N gives
pub record IsBlockStep (n : ℕ) (N : ℕ → ℕ) (at words m : ℕ) (old new changed : List ℕ) : Type 0 where
  pub long : length new ≡ length old
  pub next : (i p : ℕ) → i < m → p < 64 * n → place new (64 * (at + i * words) + p) ≡ N (64 * (at + i * words) + p)
  pub rest : (j : ℕ) → IsOutside n at words m j → slice_index_or new j 0 ≡ slice_index_or old j 0
  pub same : (i p : ℕ) → i < m → p < 64 * n → place changed p ≡ 0
      → place new (64 * (at + i * words) + p) ≡ place old (64 * (at + i * words) + p)

-- the block that begins at word `at` was stepped, and c has a bit for each column that changed: in any row, in the
-- first row, in the last row
pub record IsBlock (N : ℕ → ℕ) (at words : ℕ) (old new : List ℕ) (c : Changes) : Type 0 where
  pub all : IsBlockStep 2 N at words 16 old new c.all
  pub top : (p : ℕ) → p < 128 → place c.top p ≡ 0 → place new (64 * at + p) ≡ place old (64 * at + p)
  pub bottom : (p : ℕ) → p < 128 → place c.bottom p ≡ 0
      → place new (64 * (at + 15 * words) + p) ≡ place old (64 * (at + 15 * words) + p)

-- the same for two neighbouring blocks
pub record IsWideBlock (N : ℕ → ℕ) (at words : ℕ) (old new : List ℕ) (c : WideChanges) : Type 0 where
  pub all : IsBlockStep 4 N at words 16 old new c.all
  pub top : (p : ℕ) → p < 256 → place c.top p ≡ 0 → place new (64 * at + p) ≡ place old (64 * at + p)
  pub bottom : (p : ℕ) → p < 256 → place c.bottom p ≡ 0
      → place new (64 * (at + 15 * words) + p) ≡ place old (64 * (at + 15 * words) + p)
