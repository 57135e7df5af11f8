-- Lines of half blocks, written character by character.
use Rattle.std.proofs.Common.{◌≡◌, ℕ, zero, suc, ◌+◌, Bool, true, false, ◌||◌, cond, List, [], ◌∷◌, ◌++◌, map, refl, ap}
use Rattle.std.proofs.Common.{◌∙◌, sym, arith, add-one}
use Rattle.std.specs.List.{flat_map, range_with_len}
use Rattle.std.proofs.lemmas.List.{append_assoc, append-nil, flat_map_more}
use Rattle.std.proofs.lemmas.List.FromFn.{map-range_with_len_more}
use Rattle.std.specs.Char.{encode_utf8}
use Rattle.std.specs.Int.{div_ceil}
use Rattle.life_core.specs.declared.cell.Cell.{Cell}
use Rattle.life_core.specs.Pattern.{Cells, in_order}
use Rattle.life_rle.specs.Writer.{coordinates, pairs_of, width_of, height_of}
use Rattle.life_pictures.specs.PictureLines.{half_block, before_cells, trimmed, line, text}

-- ---- characters

pub full_block : (two : Bool × Bool) → two.0 ≡ true → two.1 ≡ true → 226 ∷ 150 ∷ 136 ∷ [] ≡ encode_utf8 (half_block two)
unfolding encode_utf8
full_block (true, true) upper lower = refl
full_block (true, false) upper lower = absurd (cc)
full_block (false, l) upper lower = absurd (cc)

pub upper_half : (two : Bool × Bool) → two.0 ≡ true → two.1 ≡ false
    → 226 ∷ 150 ∷ 128 ∷ [] ≡ encode_utf8 (half_block two)
unfolding encode_utf8
upper_half (true, false) upper lower = refl
upper_half (true, true) upper lower = absurd (cc)
upper_half (false, l) upper lower = absurd (cc)

pub lower_half : (two : Bool × Bool) → two.0 ≡ false → two.1 ≡ true
    → 226 ∷ 150 ∷ 132 ∷ [] ≡ encode_utf8 (half_block two)
unfolding encode_utf8
lower_half (false, true) upper lower = refl
lower_half (false, false) upper lower = absurd (cc)
lower_half (true, l) upper lower = absurd (cc)

-- ---- lines

-- dead cells at the end are left out
trimmed_dead : (all : List (Bool × Bool)) → trimmed (all ++ (false, false) ∷ []) ≡ trimmed all
unfolding trimmed
trimmed_dead [] = refl
trimmed_dead (two ∷ all) = ap (before_cells two) (trimmed_dead all)

before_some : (two last : Bool × Bool) (all : List (Bool × Bool))
    → before_cells two (all ++ last ∷ []) ≡ two ∷ (all ++ last ∷ [])
before_some two last [] = refl
before_some two last (next ∷ all) = refl

-- a live cell at the end keeps all
trimmed_live : (all : List (Bool × Bool)) (last : Bool × Bool) → (last.0 || last.1) ≡ true
    → trimmed (all ++ last ∷ []) ≡ all ++ last ∷ []
unfolding trimmed
trimmed_live [] last live = ap (λ b. cond b (last ∷ []) []) live
trimmed_live (two ∷ all) last live = ap (before_cells two) (trimmed_live all last live) ∙ before_some two last all

both_dead : (two : Bool × Bool) → (two.0 || two.1) ≡ false → two ≡ (false, false)
both_dead (true, lower) none = absurd (cc)
both_dead (false, true) none = absurd (cc)
both_dead (false, false) none = refl

module _ (f : ℕ → Bool × Bool) where
  -- one column less, where its cells are dead
  pub shorter : (n m : ℕ) → m + 1 ≡ n → (f m).0 || (f m).1 ≡ false
      → trimmed (map f (range_with_len 0 n)) ≡ trimmed (map f (range_with_len 0 m))
  shorter n m is dead =
      ap (λ k. trimmed (map f (range_with_len 0 k))) (sym is)
      ∙ ap trimmed (map-range_with_len_more f 0 m m (omega arith))
      ∙ ap (λ two. trimmed (map f (range_with_len 0 m) ++ two ∷ [])) (both_dead (f m) dead)
      ∙ trimmed_dead (map f (range_with_len 0 m))

  -- a column with a live cell ends the line
  pub ended : (n m : ℕ) → m + 1 ≡ n → (f m).0 || (f m).1 ≡ true
      → trimmed (map f (range_with_len 0 n)) ≡ map f (range_with_len 0 n)
  ended n m is live =
      let last = ap (λ k. map f (range_with_len 0 k)) (sym is) ∙ map-range_with_len_more f 0 m m (omega arith) in
      ap trimmed last ∙ trimmed_live (map f (range_with_len 0 m)) (f m) live ∙ sym last

  -- one more character of a line
  pub one_more : (g : Bool × Bool → List ℕ) (out : List ℕ) (n : ℕ) → (out ++ flat_map g (map f (range_with_len 0 n)))
      ++ g (f n) ≡ out ++ flat_map g (map f (range_with_len 0 (n + 1)))
  one_more g out n =
      flat_map_more g out (map f (range_with_len 0 n)) (f n)
      ∙ ap (λ all. out ++ flat_map g all) (sym (map-range_with_len_more f 0 n n (omega arith)))

  -- no column is left
  pub none : trimmed (map f (range_with_len 0 0)) ≡ map f (range_with_len 0 0)
  unfolding trimmed
  none = refl

range_last : {X : Type 0} (f : ℕ → List X) (a n k : ℕ) → a + n ≡ k
    → flat_map f (range_with_len a (suc n)) ≡ flat_map f (range_with_len a n) ++ f k
range_last f a zero k is = append-nil (f a) ∙ ap f (omega arith)
range_last f a (suc n) k is =
    ap (λ rest. f a ++ rest) (range_last f (a + 1) n k (omega arith))
    ∙ sym (append_assoc (f a) (flat_map f (range_with_len (a + 1) n)) (f k))

-- one more number of a range
pub flat_map_range : {X : Type 0} (f : ℕ → List X) (n : ℕ)
    → flat_map f (range_with_len 0 (n + 1)) ≡ flat_map f (range_with_len 0 n) ++ f n
flat_map_range f n = ap (λ k. flat_map f (range_with_len 0 k)) (add-one n) ∙ range_last f 0 n n (omega arith)

-- all lines
pub text_of : (X : Cells) (cells : List Cell) (width height n : ℕ) (out : List ℕ)
    → out ≡ flat_map (line X width) (range_with_len 0 n) → n ≡ div_ceil height 2
    → width ≡ width_of (map coordinates cells) → height ≡ height_of (map coordinates cells)
    → cells ≡ in_order X → out ≡ text X
unfolding text
text_of X cells width height n out lines n_is width_is height_is cells_are =
    lines
    ∙ ap (λ k. flat_map (line X width) (range_with_len 0 k))
    (n_is ∙ ap (λ h. div_ceil h 2) (height_is ∙ ap (λ cs. height_of (map coordinates cs)) cells_are))
    ∙ ap (λ w. flat_map (line X w) (range_with_len 0 (div_ceil (height_of (pairs_of X)) 2)))
    (width_is ∙ ap (λ cs. width_of (map coordinates cs)) cells_are)
