-- Ranges of a row's words that were written, and the sums that four of them need.
use Rattle.std.specs.Prelude.{◌≡◌, ℕ, ◌+◌, ◌*◌, ◌<◌, ◌≤◌, List, length, slice_index_or}
use Rattle.life_core.specs.PackedRow.{place, place_before}
use Rattle.life_core.specs.PackedLanesState.{digits_at}
use Rattle.life_core.specs.declared.packed.row_kernel.WideSums.{WideSums}

-- the places of the words in a range are those of N, and all other words are unchanged
pub record AreStepped (N : ℕ → ℕ) (from to : ℕ) (old new : List ℕ) : Type 0 where
  pub long : length new ≡ length old
  pub inside : (p : ℕ) → 64 * from ≤ p → p < 64 * to → place new p ≡ N p
  pub before : (j : ℕ) → j < from → slice_index_or new j 0 ≡ slice_index_or old j 0
  pub after : (j : ℕ) → to ≤ j → slice_index_or new j 0 ≡ slice_index_or old j 0

-- the sums of the four words from k on, with dead cells outside the row
pub record AreGroupSums (words : List ℕ) (k : ℕ) (s : WideSums) : Type 0 where
  pub here : (p : ℕ) → p < 256 → place s.here p ≡ place words (64 * k + p)
  pub sides : (p : ℕ) → p < 256 → digits_at s.sides s.sides2 p
      ≡ place_before words (64 * k + p) + place words (64 * k + p + 1)
  pub all : (p : ℕ) → p < 256 → digits_at s.all s.all2 p
      ≡ place_before words (64 * k + p) + (place words (64 * k + p) + place words (64 * k + p + 1))
