-- The places of rows of words.
use Rattle.std.proofs.Common.{◌≡◌, ℕ, ◌+◌, ◌*◌, ◌/◌, ◌%◌, ◌<◌, ◌≤◌, List, length, take, drop, get_or, rules, arith}
use Rattle.std.specs.Int.{bit_at}
use Rattle.std.proofs.lemmas.List.{places}
use Rattle.life_core.specs.PackedRow.{place}

-- a place of a row, in the words of all rows
pub place_in_row : (rows : List ℕ) (words x y : ℕ)
    → place rows (y * (64 * words) + x) ≡ bit_at (get_or rows (y * words + x / 64) 0) (x % 64)
place_in_row rows words x y =
    let scaled : y * (64 * words) ≡ 64 * (y * words) = omega arith in
    let word : (y * (64 * words) + x) / 64 ≡ y * words + x / 64 = omega arith in
    let bit : (y * (64 * words) + x) % 64 ≡ x % 64 = omega arith in
    λ i. bit_at (get_or rows (word i) 0) (bit i)

-- the words of row y, as a slice of all words
pub row_words : (rows : List ℕ) (words y j k : ℕ) → k ≡ words → j < words
    → get_or (take k (drop (y * words) rows)) j 0 ≡ get_or rows (y * words + j) 0
row_words rows words y j k wide lt = search (rules, places)

pub length-row : (rows : List ℕ) (words y k : ℕ) → k ≡ words → y * words + words ≤ length rows
    → length (take k (drop (y * words) rows)) ≡ words
length-row rows words y k wide fits = search (rules, places)
