-- The cells of a soup bit by bit, for each symmetry.
use Rattle.std.specs.Prelude.{◌≡◌, ◌⊎◌, ℕ, zero, suc, ◌+◌, ◌*◌, ◌-◌, ◌/◌, ◌%◌, ◌^◌, ◌<◌, ◌≤◌, pos, negsuc, neg_ℤ, ◌-ℤ◌}
use Rattle.std.specs.Prelude.{Bool, true, false, cond, ◌||◌, ◌==◌, List, [], ◌∷◌, ◌++◌, map, filter, slice_index}
use Rattle.std.specs.Prelude.{Option, None, Some, bytes_eq, codes, refl}
use Rattle.std.proofs.Common.{sym, ap, ◌∙◌, inl, inr, arith}
use Rattle.std.proofs.Math.Bool.{or_comm}
use Rattle.std.specs.Fmt.{decimal}
use Rattle.std.specs.List.{range_with_len}
use Rattle.std.specs.FinSet as set
use Rattle.std.proofs.lemmas.Bool.{false≢true, cases_Bool, cases_lt, or_cases, or_left, or_right}
use Rattle.std.proofs.lemmas.List.Folds.{list_any-append}
use Rattle.std.proofs.lemmas.Int.{ints}
use Rattle.std.proofs.lemmas.Nat.{div-add-mod'}
use Rattle.std.proofs.lemmas.Slice.Eq.{bytes_eq-Decides}
use Rattle.sha2.specs.Sha256.{sha256}
use Rattle.life_core.specs.declared.cell.Cell.{Cell}
use Rattle.life_core.proofs.PatternMembers.{cell_cmp_total, same_cell, same_cell-true, same_cell-self, same_answer}
use Rattle.life_core.proofs.PatternMembers.{has_cell, list_any-map, list_any_same}
use Rattle.life_code.proofs.ApartUnions.{IsIn}
use Rattle.life_hauls.specs.declared.symmetry.Symmetry.{Symmetry}
use Rattle.life_hauls.specs.declared.symmetry.Symmetry.TheVariants.{C1, EightRows, FourRows, TwoRows, OneRow, D2Plus1}
use Rattle.life_hauls.specs.declared.symmetry.Symmetry.TheVariants.{D2Plus2}
use Rattle.life_hauls.specs.declared.symmetry.Mirror.{Mirror}
use Rattle.life_hauls.specs.declared.symmetry.Mirror.TheVariants.{OnRow, BetweenRows}
use Rattle.life_hauls.specs.Soups.{symmetry_name, width, row_bytes, mirror, mirrored, bit_at, field_cell, live_cells}
use Rattle.life_hauls.specs.Soups.{with_images, soup_cells, soup_of, IsCellOrImage, NamesAreRead, NamesAreOne}
use Rattle.life_hauls.specs.Soups.{BitsAreCells, MirrorsKeepSoups, SoupsAreFields}

-- ---- names

pub names_are_read : NamesAreRead
names_are_read C1 = refl
names_are_read EightRows = refl
names_are_read FourRows = refl
names_are_read TwoRows = refl
names_are_read OneRow = refl
names_are_read D2Plus1 = refl
names_are_read D2Plus2 = refl

-- a name that is read is this one, or is read by what comes after
one_name : (name own : List ℕ) (t s : Symmetry) (rest : Option Symmetry) → own ≡ symmetry_name t
    → cond (bytes_eq name own) (Some t) rest ≡ Some s → (name ≡ symmetry_name s) ⊎ (rest ≡ Some s)
one_name name own t s rest is read = go (cases_Bool (bytes_eq name own))
  where
    same : Some t ≡ Some s → t ≡ s
    same h = cc

    go : (bytes_eq name own ≡ true) ⊎ (bytes_eq name own ≡ false) → (name ≡ symmetry_name s) ⊎ (rest ≡ Some s)
    go (inl own-name) =
        inl ((bytes_eq-Decides name own).0 own-name ∙ is
        ∙ ap symmetry_name (same (sym (ap (λ b. cond b (Some t) rest) own-name) ∙ read)))
    go (inr other) = inr (sym (ap (λ b. cond b (Some t) rest) other) ∙ read)

none_read : (s : Symmetry) → None ≡ Some s → ⊥
none_read s h = cc

pub names_are_one : NamesAreOne
names_are_one name s read = elim (one_name name (codes "C1") C1 s _ refl read) [
  | inl is ↦ is
  | inr read ↦ elim (one_name name (codes "8x32") EightRows s _ refl read) [
    | inl is ↦ is
    | inr read ↦ elim (one_name name (codes "4x64") FourRows s _ refl read) [
      | inl is ↦ is
      | inr read ↦ elim (one_name name (codes "2x128") TwoRows s _ refl read) [
        | inl is ↦ is
        | inr read ↦ elim (one_name name (codes "1x256") OneRow s _ refl read) [
          | inl is ↦ is
          | inr read ↦ elim (one_name name (codes "D2_+1") D2Plus1 s _ refl read) [
            | inl is ↦ is
            | inr read ↦ elim (one_name name (codes "D2_+2") D2Plus2 s _ refl read) [
              | inl is ↦ is
              | inr read ↦ absurd (none_read s read)
            ]
          ]
        ]
      ]
    ]
  ]
]

-- ---- the field

-- a number stands in a range
in_range : (a n q : ℕ) → a ≤ q → q < a + n → IsIn (range_with_len a n) q
in_range a zero q low high = absurd (omega (arith, low, high))
in_range a (suc n) q low high = elim (cases_lt a q) [
  | inl less ↦ inr (in_range (a + 1) n q (omega (arith, less)) (omega (arith, high)))
  | inr same ↦ inl (omega (arith, same, low))
]

below_range : (a n q : ℕ) → IsIn (range_with_len a n) q → q < a + n
below_range a zero q h = absurd h
below_range a (suc n) q (inl same) = omega (arith, same)
below_range a (suc n) q (inr there) = let low = below_range (a + 1) n q there in omega (arith, low)

-- a cell of the field stands at one place
one_place : (w a b : ℕ) → field_cell w a ≡ field_cell w b → a ≡ b
one_place w a b same =
    let rows = number (a / w) (b / w) (ap (λ (c : Cell). c.row) same) in
    let columns = number (a % w) (b % w) (ap (λ (c : Cell). c.column) same) in
    sym (div-add-mod' a w) ∙ (λ k. rows k * w + columns k) ∙ div-add-mod' b w
  where
    number : (m n : ℕ) → pos m ≡ pos n → m ≡ n
    number m n h = cc

module _ (w : ℕ) (p : ℕ → Bool) where
  abbrev passing : List ℕ → List Cell
  passing ks = map (field_cell w) (filter p ks)

  -- a place whose test passes is listed
  listed : (ks : List ℕ) (q : ℕ) → IsIn ks q → p q ≡ true → has_cell (passing ks) (field_cell w q) ≡ true
  listed [] q h passes = absurd h
  listed (k ∷ ks) q h passes = go (p k) refl h (λ there. listed ks q there passes)
    where
      go : (b : Bool) → p k ≡ b → (k ≡ q) ⊎ IsIn ks q → (IsIn ks q → has_cell (passing ks) (field_cell w q) ≡ true)
          → has_cell (map (field_cell w) (cond b (k ∷ filter p ks) (filter p ks))) (field_cell w q) ≡ true
      go true is (inl same) rest =
          or_left (same_cell (field_cell w q) (field_cell w k)) (has_cell (passing ks) (field_cell w q))
          (ap (λ j. same_cell (field_cell w q) (field_cell w j)) same ∙ same_cell-self (field_cell w q))
      go true is (inr there) rest =
          or_right (same_cell (field_cell w q) (field_cell w k)) (has_cell (passing ks) (field_cell w q)) (rest there)
      go false is (inl same) rest = absurd (false≢true (sym is ∙ ap p same ∙ passes))
      go false is (inr there) rest = rest there

  -- a cell that is listed stands at a place whose test passes
  place_of : (ks : List ℕ) (c : Cell) → has_cell (passing ks) c ≡ true
      → (k : ℕ) × IsIn ks k × (p k ≡ true) × (c ≡ field_cell w k)
  place_of [] c h = absurd (false≢true h)
  place_of (k ∷ ks) c h = go (p k) refl h (place_of ks c)
    where
      later : ((j : ℕ) × IsIn ks j × (p j ≡ true) × (c ≡ field_cell w j))
          → (j : ℕ) × ((k ≡ j) ⊎ IsIn ks j) × (p j ≡ true) × (c ≡ field_cell w j)
      later found = (found.0, inr found.1, found.2, found.3)

      go : (b : Bool) → p k ≡ b → has_cell (map (field_cell w) (cond b (k ∷ filter p ks) (filter p ks))) c ≡ true
          → (has_cell (passing ks) c ≡ true → (j : ℕ) × IsIn ks j × (p j ≡ true) × (c ≡ field_cell w j))
          → (j : ℕ) × ((k ≡ j) ⊎ IsIn ks j) × (p j ≡ true) × (c ≡ field_cell w j)
      go true is there rest = elim (or_cases (same_cell c (field_cell w k)) (has_cell (passing ks) c) there) [
        | inl here ↦ (k, inl refl, is, same_cell-true c (field_cell w k) here)
        | inr other ↦ later (rest other)
      ]
      go false is there rest = later (rest there)

-- ---- the bits of a field

live_bits : (w : ℕ) (bytes : List ℕ) (q : ℕ) → q < 256
    → has_cell (live_cells w bytes 256) (field_cell w q) ≡ bit_at bytes q
live_bits w bytes q low = same_answer (has_cell (live_cells w bytes 256) (field_cell w q)) (bit_at bytes q)
    (λ live. let found = place_of w (bit_at bytes) (range_with_len 0 256) (field_cell w q) live in
    ap (bit_at bytes) (one_place w q found.0 found.3) ∙ found.2)
    (λ passes. listed w (bit_at bytes) (range_with_len 0 256) q
    (in_range 0 256 q (omega arith) (omega (arith, low))) passes)

-- the cell of a bit
cell_of_bit : (s : Symmetry) (j k : ℕ) → k < 8
    → (j / row_bytes s ≡ (8 * j + k) / width s) × (k + 8 * (j % row_bytes s) ≡ (8 * j + k) % width s)
cell_of_bit C1 j k few = (omega (arith, few), omega (arith, few))
cell_of_bit EightRows j k few = (omega (arith, few), omega (arith, few))
cell_of_bit FourRows j k few = (omega (arith, few), omega (arith, few))
cell_of_bit TwoRows j k few = (omega (arith, few), omega (arith, few))
cell_of_bit OneRow j k few = (omega (arith, few), omega (arith, few))
cell_of_bit D2Plus1 j k few = (omega (arith, few), omega (arith, few))
cell_of_bit D2Plus2 j k few = (omega (arith, few), omega (arith, few))

-- the rows and the columns of the field
in_field : (s : Symmetry) (q : ℕ) → q < 256 → (q % width s < width s) × (q / width s < 256 / width s)
in_field C1 q low = (omega (arith, low), omega (arith, low))
in_field EightRows q low = (omega (arith, low), omega (arith, low))
in_field FourRows q low = (omega (arith, low), omega (arith, low))
in_field TwoRows q low = (omega (arith, low), omega (arith, low))
in_field OneRow q low = (omega (arith, low), omega (arith, low))
in_field D2Plus1 q low = (omega (arith, low), omega (arith, low))
in_field D2Plus2 q low = (omega (arith, low), omega (arith, low))

-- ---- mirror images

mirrored_twice : (m : Mirror) (c : Cell) → mirrored m (mirrored m c) ≡ c
mirrored_twice OnRow c =
    let rows : neg_ℤ (neg_ℤ c.row) ≡ c.row = omega (arith, ints) in
    λ k. record { row = rows k; column = c.column }
mirrored_twice BetweenRows c =
    let rows : negsuc 0 -ℤ (negsuc 0 -ℤ c.row) ≡ c.row = omega (arith, ints) in
    λ k. record { row = rows k; column = c.column }

same_mirrored : (m : Mirror) (c d : Cell) → same_cell c (mirrored m d) ≡ same_cell (mirrored m c) d
same_mirrored m c d = same_answer (same_cell c (mirrored m d)) (same_cell (mirrored m c) d)
    (λ h. ap (same_cell (mirrored m c)) (sym (ap (mirrored m) (same_cell-true c (mirrored m d) h) ∙ mirrored_twice m d))
    ∙ same_cell-self (mirrored m c))
    (λ h. ap (same_cell c) (sym (sym (mirrored_twice m c) ∙ ap (mirrored m) (same_cell-true (mirrored m c) d h)))
    ∙ same_cell-self c)

-- a cell is live if it or its mirror image is one of the list
has_images : (m : Mirror) (cs : List Cell) (c : Cell)
    → has_cell (with_images (Some m) cs) c ≡ (has_cell cs c || has_cell cs (mirrored m c))
has_images m cs c =
    list_any-append (same_cell c) cs (map (mirrored m) cs)
    ∙ ap (λ b. has_cell cs c || b) (list_any-map (same_cell c) (mirrored m) cs
    ∙ list_any_same (λ x. same_cell c (mirrored m x)) (same_cell (mirrored m c)) (same_mirrored m c) cs)

-- a cell of the field whose mirror image lies in the field is its own
own_image : (m : Mirror) (w q k : ℕ) → mirrored m (field_cell w q) ≡ field_cell w k
    → mirrored m (field_cell w q) ≡ field_cell w q
own_image OnRow w q k same =
    let none = row_0 (q / w) (k / w) (ap (λ (c : Cell). c.row) same) in
    (λ i. record { row = neg_ℤ (pos (none i)); column = pos (q % w) })
    ∙ sym (λ i. record { row = pos (none i); column = pos (q % w) })
  where
    row_0 : (n j : ℕ) → neg_ℤ (pos n) ≡ pos j → n ≡ 0
    row_0 n j h = omega (arith, ints, h)
own_image BetweenRows w q k same = absurd (no_row (q / w) (k / w) (ap (λ (c : Cell). c.row) same))
  where
    no_row : (n j : ℕ) → negsuc 0 -ℤ pos n ≡ pos j → ⊥
    no_row n j h = omega (arith, ints, h)

either_is : (a b : Bool) → (b ≡ true → a ≡ true) → (a || b) ≡ a
either_is true b from = refl
either_is false true from = sym (from refl)
either_is false false from = refl

-- in the field the images add nothing
images_in_field : (o : Option Mirror) (w : ℕ) (bytes : List ℕ) (q : ℕ)
    → has_cell (with_images o (live_cells w bytes 256)) (field_cell w q)
    ≡ has_cell (live_cells w bytes 256) (field_cell w q)
images_in_field None w bytes q = refl
images_in_field (Some m) w bytes q =
    let cs = live_cells w bytes 256 in
    has_images m cs (field_cell w q)
    ∙ either_is (has_cell cs (field_cell w q)) (has_cell cs (mirrored m (field_cell w q)))
    (λ live. let found = place_of w (bit_at bytes) (range_with_len 0 256) (mirrored m (field_cell w q)) live in
    sym (ap (has_cell cs) (own_image m w q found.0 found.3)) ∙ live)

-- ---- soups

live_at : (s : Symmetry) (root : List ℕ) (i : ℕ) (c : Cell)
    → set.contains (soup_of s root i) c ≡ has_cell (soup_cells s (sha256 (root ++ decimal i))) c
unfolding soup_of
live_at s root i c = set.contains-from_list cell_cmp_total (soup_cells s (sha256 (root ++ decimal i))) c

pub bits_are_cells : BitsAreCells
bits_are_cells s root i j k few bits =
    let bytes = sha256 (root ++ decimal i) in
    let q = 8 * j + k in
    let low : q < 256 = omega (arith, few, bits) in
    let index = cell_of_bit s j k bits in
    let byte : q / 8 ≡ j = omega (arith, bits) in
    let bit : q % 8 ≡ k = omega (arith, bits) in
    live_at s root i (record { row = pos (j / row_bytes s); column = pos (k + 8 * (j % row_bytes s)) })
    ∙ (λ m. has_cell (soup_cells s bytes) (record { row = pos (index.0 m); column = pos (index.1 m) }))
    ∙ images_in_field (mirror s) (width s) bytes q
    ∙ live_bits (width s) bytes q low
    ∙ (λ m. (slice_index bytes (byte m) / 2 ^ (7 - bit m)) % 2 == 1)

pub mirrors_keep_soups : MirrorsKeepSoups
mirrors_keep_soups s m root i c is =
    let bytes = sha256 (root ++ decimal i) in
    let cs = live_cells (width s) bytes 256 in
    let there : (d : Cell) → set.contains (soup_of s root i) d ≡ (has_cell cs d || has_cell cs (mirrored m d)) =
    λ d. live_at s root i d ∙ ap (λ (o : Option Mirror). has_cell (with_images o cs) d) is ∙ has_images m cs d in
    there (mirrored m c)
    ∙ ap (λ (d : Cell). has_cell cs (mirrored m c) || has_cell cs d) (mirrored_twice m c)
    ∙ or_comm (has_cell cs (mirrored m c)) (has_cell cs c)
    ∙ sym (there c)

-- a live cell of the field
abbrev IsFieldCell : Symmetry → Cell → Type 0
IsFieldCell s c = (x : ℕ) × (y : ℕ) × (x < width s) × (y < 256 / width s) × (c ≡ record { row = pos y; column = pos x })

field_cells : (s : Symmetry) (bytes : List ℕ) (c : Cell) → has_cell (live_cells (width s) bytes 256) c ≡ true
    → IsFieldCell s c
field_cells s bytes c live =
    let found = place_of (width s) (bit_at bytes) (range_with_len 0 256) c live in
    let low = in_field s found.0 (below_range 0 256 found.0 found.1) in
    (found.0 % width s, found.0 / width s, low.0, low.1, found.3)

pub soups_are_fields : SoupsAreFields
soups_are_fields s root i c live = go (mirror s) (sym (live_at s root i c) ∙ live)
  where
    go : (o : Option Mirror) → has_cell (with_images o (live_cells (width s) (sha256 (root ++ decimal i)) 256)) c ≡ true
        → (x : ℕ) × (y : ℕ) × (x < width s) × (y < 256 / width s)
        × IsCellOrImage o (record { row = pos y; column = pos x }) c
    go None there = field_cells s (sha256 (root ++ decimal i)) c there
    go (Some m) there =
        let bytes = sha256 (root ++ decimal i) in
        let cs = live_cells (width s) bytes 256 in
        elim (or_cases (has_cell cs c) (has_cell cs (mirrored m c)) (sym (has_images m cs c) ∙ there)) [
          | inl here ↦ let at = field_cells s bytes c here in (at.0, at.1, at.2, at.3, inl at.4)
          | inr image ↦
              let at = field_cells s bytes (mirrored m c) image in
              (at.0, at.1, at.2, at.3, inr (sym (mirrored_twice m c) ∙ ap (mirrored m) at.4))
        ]
