-- Sizes of frames.
use Rattle.std.specs.Prelude.{ℕ, ℤ, pos, negsuc, ◌+◌, ◌*◌, ◌/◌, ◌%◌, ◌<◌, ◌≤◌, ◌≤ℤ◌, neg_ℤ, FitsSigned}
use Rattle.std.specs.Int.{w64}
use Rattle.std.proofs.Common.{inl, inr, arith}
use Rattle.std.proofs.lemmas.Bool.{cases_lt}
use Rattle.std.proofs.lemmas.Int.{ints}
use Rattle.std.proofs.lemmas.Nat.{mul-le}
use Rattle.life_core.specs.declared.packed.frame.Frame.{Frame}
use Rattle.life_core.specs.Cell.{IsCellWithin}
use Rattle.life_core.specs.PackedFrameState.{IsFrame, cell_of}

-- a number near the origin is one of a machine
pub near_fits : (z : ℤ) → neg_ℤ (pos 5000000000) ≤ℤ z → z ≤ℤ pos 5000000000 → FitsSigned w64 z
near_fits (pos n) low high = record { sfits = omega (arith, ints, high) }
near_fits (negsuc n) low high = record { sfits = omega (arith, ints, low) }

pub words_few : (f : Frame) → IsFrame f → f.words ≤ 34375000
words_few f h = omega (arith, ints, h.from_left, h.to_right)

pub rows_few : (f : Frame) → IsFrame f → f.height ≤ 2200000000
rows_few f h = omega (arith, ints, h.from_top, h.to_bottom)

-- all places of a frame are numbers of a machine
pub places_few : (f : Frame) → IsFrame f → 64 * (f.height * f.words) ≤ 4840000000000000000
places_few f h = omega (arith, mul-le f.height f.words 2200000000 34375000 (rows_few f h) (words_few f h))

pub row_fits : (w h y : ℕ) → y < h → y * w + w ≤ h * w
row_fits w h y lt =
    let next : y + 1 ≤ h = omega arith in
    omega (arith, mul-le (y + 1) w h w next (omega arith))

-- so is the place of a word, and that of its first byte
pub word_few : (f : Frame) (x y : ℕ) → IsFrame f → x ≤ f.words → y < f.height → y * f.words + x ≤ 75625000000000000
word_few f x y h narrow low = omega (arith, places_few f h, row_fits f.words f.height y low)

pub row_of_place : (w h p : ℕ) → 0 < w → p < 64 * (h * w) → p / (64 * w) < h
row_of_place w h p wide lt = elim (cases_lt (p / (64 * w)) h) [
  | inl low ↦ low
  | inr past ↦
      let W : 0 < 64 * w = omega arith in
      absurd (omega (arith, mul-le h (64 * w) (p / (64 * w)) (64 * w) past (omega arith)))
]

-- the cells of a frame lie near the origin
pub cell_near : (f : Frame) (p : ℕ) → IsFrame f → p < 64 * (f.height * f.words)
    → IsCellWithin 2000000000 (cell_of f.left f.top (64 * f.words) p)
cell_near f p h inside =
    let wide : 0 < 64 * f.words = omega (arith, h.wide) in
    let narrow : p % (64 * f.words) < 64 * f.words = omega arith in
    let low = row_of_place f.words f.height p h.wide inside in
    record {
      top = omega (arith, ints, h.from_top);
      bottom = omega (arith, ints, low, h.to_bottom);
      left = omega (arith, ints, h.from_left);
      right = omega (arith, ints, narrow, h.to_right);
    }

pub cell_in_frame : (f : Frame) (p : ℕ) → IsFrame f → p < 64 * (f.height * f.words)
    → IsCellWithin 1100000000 (cell_of f.left f.top (64 * f.words) p)
cell_in_frame f p h inside =
    let wide : 0 < 64 * f.words = omega (arith, h.wide) in
    let narrow : p % (64 * f.words) < 64 * f.words = omega arith in
    let low = row_of_place f.words f.height p h.wide inside in
    record {
      top = omega (arith, ints, h.from_top);
      bottom = omega (arith, ints, low, h.to_bottom);
      left = omega (arith, ints, h.from_left);
      right = omega (arith, ints, narrow, h.to_right);
    }
