-- The cells of rows in a frame.
use Rattle.std.proofs.Common.{◌≡◌, ℕ, ℤ, pos, negsuc, zero, suc, ◌+◌, ◌-◌, ◌*◌, ◌/◌, ◌%◌, ◌^◌, ◌<◌, ◌≤◌, ◌+ℤ◌, ◌-ℤ◌}
use Rattle.std.proofs.Common.{Bool, true, false, nat_eq, nat_lt, if◌then◌else◌, cond, List, [], ◌∷◌, ◌++◌, map, length}
use Rattle.std.proofs.Common.{get_or, append_assoc, sym, ap, ◌∙◌, inl, inr, refl, arith, w64}
use Rattle.std.specs.Int.{bit_at, trailing_zeros, trailing_ones}
use Rattle.std.specs.Int.Count.{count_trailing_zeros}
use Rattle.std.specs.List.{filter, range_with_len}
use Rattle.std.proofs.lemmas.List.{map-append}
use Rattle.std.proofs.lemmas.List.FromFn.{map-range_with_len_more}
use Rattle.std.proofs.lemmas.List.Elements.{filter-append}
use Rattle.std.proofs.Math.Numerals.{suc-eq-add-one}
use Rattle.std.proofs.lemmas.Int.{ints}
use Rattle.std.proofs.lemmas.Nat.{mul-le, div-mul-add, mod-mul-add, shr-shr, shr_le}
use Rattle.std.proofs.lemmas.Nat.Bits.{bit_at-zero, bit_at_above, bit_at_lowest, bit_at_ones, bit_at-trailing_zeros}
use Rattle.std.proofs.lemmas.Nat.Bits.{bit_at-trailing_ones}
use Rattle.std.proofs.lemmas.Bool.{false≢true, cases_lt, and_parts, and_from, lt-ltb, ltb-true, eq-eqb, eqb-true}
use Rattle.std.proofs.lemmas.Bool.{ne_eqb}
use Rattle.std.specs.FinSet as fset
use Rattle.life_core.specs.declared.cell.Cell.{Cell}
use Rattle.life_core.proofs.CellLemmas.{same_coordinates}
use Rattle.life_core.proofs.PatternMembers.{same_answer}
use Rattle.life_core.specs.declared.packed.frame.Frame.{Frame}
use Rattle.life_core.specs.PackedRow.{place}
use Rattle.std.proofs.lemmas.List.{append-nil}
use Rattle.std.proofs.Common.{add-zero}
use Rattle.life_core.specs.Cell.{moved_cell}
use Rattle.life_core.specs.Runs.{cells_from}
use Rattle.life_core.specs.PackedFrameState.{cell_of, places_below}
use Rattle.life_core.proofs.WordShifts.{place_at}
use Rattle.life_core.proofs.PackedPlaces.{contains-rows}
use Rattle.life_core.specs.PackedFrameState.{framed, bit_in, cell_in, IsIn}

-- where a live cell stands
pub record LivePlace (f : Frame) (rows : List ℕ) (c : Cell) : Type 0 where
  pub x : ℕ
  pub y : ℕ
  pub narrow : x < 64 * f.words
  pub low : y < f.height
  pub column : c.column ≡ f.left +ℤ pos x
  pub row : c.row ≡ f.top +ℤ pos y
  pub live : place rows (y * (64 * f.words) + x) ≡ 1

pub live_place : (f : Frame) (rows : List ℕ) → 0 < f.words → f.height * f.words ≡ length rows
    → (c : Cell) → fset.contains (framed f rows) c ≡ true → LivePlace f rows c
live_place f rows wide size c h =
    let width : 0 < 64 * f.words = omega arith in
    at (c.column -ℤ f.left) (c.row -ℤ f.top) (omega (arith, ints)) (omega (arith, ints))
    (sym (contains-rows f.left f.top (64 * f.words) rows c width) ∙ h)
  where
    low_row : (x y : ℕ) → y * (64 * f.words) + x < 64 * length rows → y < f.height
    low_row x y lt = elim (cases_lt y f.height) [
      | inl low ↦ low
      | inr past ↦ absurd (omega (arith, mul-le f.height f.words y f.words past (omega arith)))
    ]

    at : (dx dy : ℤ) → c.column ≡ f.left +ℤ dx → c.row ≡ f.top +ℤ dy → bit_in (64 * f.words) rows dx dy ≡ true
        → LivePlace f rows c
    at (negsuc x) dy column row h = absurd (false≢true h)
    at (pos x) (negsuc y) column row h = absurd (false≢true h)
    at (pos x) (pos y) column row h =
        let parts = and_parts (nat_lt x (64 * f.words)) _ h in
        let inner = and_parts (nat_lt (y * (64 * f.words) + x) (64 * length rows)) _ parts.1 in
        record {
          x = x;
          y = y;
          narrow = ltb-true x (64 * f.words) parts.0;
          low = low_row x y (ltb-true _ _ inner.0);
          column = column;
          row = row;
          live = eqb-true _ _ inner.1;
        }

-- a live place is a live cell
pub place_lives : (f : Frame) (rows : List ℕ) → 0 < f.words → f.height * f.words ≡ length rows
    → (c : Cell) (x y : ℕ) → c.column ≡ f.left +ℤ pos x → c.row ≡ f.top +ℤ pos y → x < 64 * f.words
    → y < f.height → place rows (y * (64 * f.words) + x) ≡ 1 → fset.contains (framed f rows) c ≡ true
place_lives f rows wide size c x y column row narrow low live =
    let width : 0 < 64 * f.words = omega arith in
    let dx : c.column -ℤ f.left ≡ pos x = omega (arith, ints) in
    let dy : c.row -ℤ f.top ≡ pos y = omega (arith, ints) in
    let next_low : y + 1 ≤ f.height = omega arith in
    let below : y * (64 * f.words) + x < 64 * length rows =
    omega (arith, mul-le (y + 1) f.words f.height f.words next_low (omega arith)) in
    contains-rows f.left f.top (64 * f.words) rows c width ∙ (λ i. bit_in (64 * f.words) rows (dx i) (dy i))
    ∙ and_from _ _ (lt-ltb x _ narrow) (and_from _ _ (lt-ltb _ _ below) (eq-eqb _ _ live))

-- a cell is live where its bit is set
pub place_is_live : (f : Frame) (rows : List ℕ) → 0 < f.words
    → f.height * f.words ≡ length rows → (x y : ℕ) → x < 64 * f.words → y < f.height
    → fset.contains (framed f rows) (cell_in f.left f.top x y) ≡ nat_eq (place rows (y * (64 * f.words) + x)) 1
place_is_live f rows wide size x y narrow low = same_answer _ _
    (λ h.
    let p = live_place f rows wide size (cell_in f.left f.top x y) h in
    let column : x ≡ p.x = omega (arith, ints, p.column) in
    let row : y ≡ p.y = omega (arith, ints, p.row) in
    eq-eqb _ _ ((λ i. place rows (row i * (64 * f.words) + column i)) ∙ p.live))
    (λ h. place_lives f rows wide size (cell_in f.left f.top x y) x y refl refl narrow low (eqb-true _ _ h))

-- every live cell lies in the frame
pub live_in : (f : Frame) (rows : List ℕ) → 0 < f.words → f.height * f.words ≡ length rows
    → (c : Cell) → fset.contains (framed f rows) c ≡ true → IsIn f.left f.top (64 * f.words) f.height c
live_in f rows wide size c h =
    let p = live_place f rows wide size c h in
    record {
      from_left = omega (arith, ints, p.column);
      to_right = omega (arith, ints, p.column, p.narrow);
      from_top = omega (arith, ints, p.row);
      to_bottom = omega (arith, ints, p.row, p.low);
    }

-- rows without a bit have no cell
pub no_live : (f : Frame) (rows : List ℕ) → 0 < f.words → f.height * f.words ≡ length rows
    → ((j : ℕ) → get_or rows j 0 ≡ 0) → (c : Cell) → fset.contains (framed f rows) c ≡ false
no_live f rows wide size dead c = same_answer _ _ (λ h. let p = live_place f rows wide size c h in
    absurd (omega (
      arith,
      p.live,
      ap (λ w. bit_at w ((p.y * (64 * f.words) + p.x) % 64)) (dead ((p.y * (64 * f.words) + p.x) / 64)),
      bit_at-zero ((p.y * (64 * f.words) + p.x) % 64),
    ))) (λ h. absurd (false≢true h))

-- the places that are set, with one more
pub places_more : (F : ℕ → Cell) (Q : ℕ → Bool) (p : ℕ) → map F (filter Q (range_with_len 0 (p + 1)))
    ≡ map F (filter Q (range_with_len 0 p)) ++ (if Q p then F p ∷ [] else [])
places_more F Q p =
    ap (map F) (ap (filter Q) (range_more p) ∙ filter-append Q (range_with_len 0 p) (p ∷ []))
    ∙ map-append F (filter Q (range_with_len 0 p)) (filter Q (p ∷ []))
    ∙ ap (λ cs. map F (filter Q (range_with_len 0 p)) ++ cs) (one (Q p))
  where
    one : (b : Bool) → map F (cond b (p ∷ []) []) ≡ (if b then F p ∷ [] else [])
    one true = refl
    one false = refl

    ident : (ns : List ℕ) → map (λ n. n) ns ≡ ns
    ident [] = refl
    ident (n ∷ ns) = ap (λ ms. n ∷ ms) (ident ns)

    range_more : (n : ℕ) → range_with_len 0 (n + 1) ≡ range_with_len 0 n ++ n ∷ []
    range_more n =
        sym (ident _) ∙ map-range_with_len_more (λ m. m) 0 n n (omega arith) ∙ ap (λ ms. ms ++ n ∷ []) (ident _)

-- places that are not set add none
module _ (F : ℕ → Cell) (rows : List ℕ) (n : ℕ) where
  pub places_skip : (m : ℕ) → ((j : ℕ) → j < m → place rows (n + j) ≡ 0)
      → map F (places_below rows (n + m)) ≡ map F (places_below rows n)
  places_skip zero dead = ap (λ k. map F (places_below rows k)) (add-zero n)
  places_skip (suc m) dead =
      let next : n + suc m ≡ n + m + 1 = omega arith in
      let last : place rows (n + m) ≡ 0 = dead m (omega arith) in
      ap (λ k. map F (places_below rows k)) next ∙ places_more F (λ p. nat_eq (place rows p) 1) (n + m)
      ∙ ap (λ b. map F (places_below rows (n + m)) ++ (if b then F (n + m) ∷ [] else []))
      (ne_eqb (place rows (n + m)) 1 (λ e. omega (arith, e, last)))
      ∙ append-nil _ ∙ places_skip m (λ j lt. dead j (omega arith))

-- the rest of a word, from its bit i on, is the word's own bits
pub bit_of_rest : (rows : List ℕ) (k i j : ℕ) → i + j < 64
    → place rows (64 * k + i + j) ≡ bit_at (get_or rows k 0 / 2 ^ i) j
bit_of_rest rows k i j lt =
    let at : 64 * k + i + j ≡ 64 * k + (i + j) = omega arith in
    ap (place rows) at ∙ place_at rows k (i + j) lt ∙ ap (λ n. n % 2) (sym (shr-shr (get_or rows k 0) i j))

-- so many places from one on, as cells
pub places_listed : (F : ℕ → Cell) (row column : ℤ) (a n : ℕ)
    → ((j : ℕ) → j < n → F (a + j) ≡ record { row = row; column = column +ℤ pos j })
    → map F (range_with_len a n) ≡ cells_from row column n
places_listed F row column a zero at = refl
places_listed F row column a (suc n) at =
    let first : F a ≡ record { row = row; column = column } = ap F (sym (add-zero a)) ∙ at 0 (omega arith)
    ∙ same_coordinates _ _ refl (omega (arith, ints)) in
    let rest : map F (range_with_len (a + 1) n) ≡ cells_from row (column +ℤ pos 1) n =
    places_listed F row (column +ℤ pos 1) (a + 1) n (λ j low. ap F (let e : (a + 1) + j ≡ a + (j + 1) = omega arith in
    e) ∙ at (j + 1) (omega arith) ∙ same_coordinates _ _ refl (omega (arith, ints))) in
    λ t. first t ∷ rest t

-- from a run of live places to what follows it
module _ (F : ℕ → Cell) (rows : List ℕ) (p : ℕ) where
  pub places_run : (n : ℕ) → ((j : ℕ) → j < n → place rows (p + j) ≡ 1)
      → map F (places_below rows (p + n)) ≡ map F (places_below rows p) ++ map F (range_with_len p n)
  places_run zero live = ap (λ k. map F (places_below rows k)) (add-zero p) ∙ sym (append-nil _)
  places_run (suc n) live =
      let next : p + suc n ≡ p + n + 1 = omega arith in
      ap (λ k. map F (places_below rows k)) next ∙ places_more F (λ q. nat_eq (place rows q) 1) (p + n)
      ∙ ap (λ b. map F (places_below rows (p + n)) ++ (if b then F (p + n) ∷ [] else []))
      (eq-eqb (place rows (p + n)) 1 (live n (omega arith)))
      ∙ ap (λ cs. cs ++ F (p + n) ∷ []) (places_run n (λ j low. live j (omega arith)))
      ∙ append_assoc (map F (places_below rows p)) (map F (range_with_len p n)) (F (p + n) ∷ [])
      ∙ ap (λ cs. map F (places_below rows p) ++ cs)
      (sym (map-range_with_len_more F p n (p + n) refl) ∙ ap (λ m. map F (range_with_len p m)) (sym (suc-eq-add-one n)))

-- from one run of live cells of a word to the next
pub next_run : (F : ℕ → Cell) (rows : List ℕ) (k i dead n : ℕ)
    → i + (dead + n) ≤ 64 → ((j : ℕ) → j < dead → bit_at (get_or rows k 0 / 2 ^ i) j ≡ 0)
    → ((j : ℕ) → j < n → bit_at (get_or rows k 0 / 2 ^ i) (dead + j) ≡ 1)
    → map F (places_below rows (64 * k + (i + (dead + n))))
    ≡ map F (places_below rows (64 * k + i)) ++ map F (range_with_len (64 * k + (i + dead)) n)
next_run F rows k i dead n fits none live =
    let next : 64 * k + (i + (dead + n)) ≡ 64 * k + i + dead + n = omega arith in
    let at : 64 * k + i + dead ≡ 64 * k + (i + dead) = omega arith in
    ap (λ m. map F (places_below rows m)) next
    ∙ places_run F rows (64 * k + i + dead) n
    (λ j low. ap (place rows) (let e : 64 * k + i + dead + j ≡ 64 * k + i + (dead + j) = omega arith in e)
    ∙ bit_of_rest rows k i (dead + j) (omega arith) ∙ live j low)
    ∙ ap (λ cs. cs ++ map F (range_with_len (64 * k + i + dead) n))
    (places_skip F rows (64 * k + i) dead (λ j low. bit_of_rest rows k i j (omega arith) ∙ none j low))
    ∙ ap (λ m. map F (places_below rows (64 * k + i)) ++ map F (range_with_len m n)) at

-- the ones at the low end of a number that is odd
all_ones : trailing_ones w64 18446744073709551615 ≡ 64
unfolding count_trailing_zeros
all_ones = refl

pub low_ones : (n : ℕ) → n < 2 ^ 64 → bit_at n 0 ≡ 1
    → (1 ≤ trailing_ones w64 n) × (trailing_ones w64 n ≤ 64) × ((j : ℕ) → j < trailing_ones w64 n → bit_at n j ≡ 1)
low_ones n fits odd = elim (cases_lt (n + 1) (2 ^ 64)) [
  | inl some ↦
      let ends = bit_at-trailing_ones w64 n some in (
        elim (cases_lt 0 (trailing_ones w64 n)) [
          | inl more ↦ omega (arith, more)
          | inr none ↦
              let zero : trailing_ones w64 n ≡ 0 = omega (arith, none) in
              absurd (omega (arith, odd, ap (bit_at n) (sym zero) ∙ ends.1))
        ],
        omega (arith, ends.0),
        ends.2,
      )
  | inr all ↦
      let is : n ≡ 18446744073709551615 = omega (arith, fits, all) in
      let count : trailing_ones w64 n ≡ 64 = ap (trailing_ones w64) is ∙ all_ones in (
        omega (arith, count),
        omega (arith, count),
        λ j low. ap (λ m. bit_at m j) is ∙ bit_at_ones 64 j (omega (arith, low, count)),
      )
]

-- the lowest run of what is left of a word is one of the word's
pub record LowestRun (w i left : ℕ) : Type 0 where
  pub some : 1 ≤ trailing_ones w64 (left / 2 ^ trailing_zeros w64 left)
  pub fits : i + (trailing_zeros w64 left + trailing_ones w64 (left / 2 ^ trailing_zeros w64 left)) ≤ 64
  pub none : (j : ℕ) → j < trailing_zeros w64 left → bit_at (w / 2 ^ i) j ≡ 0
  pub live : (j : ℕ) → j < trailing_ones w64 (left / 2 ^ trailing_zeros w64 left)
      → bit_at (w / 2 ^ i) (trailing_zeros w64 left + j) ≡ 1

pub lowest_run : (w i left : ℕ) → w < 2 ^ 64 → left ≡ w / 2 ^ i → 0 < left → LowestRun w i left
lowest_run w i left fits is some =
    let below : left < 2 ^ 64 = omega (arith, is, shr_le w i) in
    let lowest = bit_at-trailing_zeros w64 left some below in
    let d = trailing_zeros w64 left in
    let q = left / 2 ^ d in
    let q_below : q < 2 ^ 64 = omega (arith, below, shr_le left d) in
    let odd : bit_at q 0 ≡ 1 = bit_at_lowest q ∙ lowest.1 in
    let ones = low_ones q q_below odd in
    let live : (j : ℕ) → j < trailing_ones w64 q → bit_at (w / 2 ^ i) (d + j) ≡ 1 =
    λ j low. ap (λ m. bit_at m (d + j)) (sym is) ∙ ap (λ m. m % 2) (sym (shr-shr left d j)) ∙ ones.2 j low in
    record {
      some = ones.0;
      fits = elim (cases_lt 64 (i + (d + trailing_ones w64 q))) [
        | inl past ↦
            let last : trailing_ones w64 q - 1 < trailing_ones w64 q = omega (arith, ones.0) in
            let bit : bit_at w (i + (d + (trailing_ones w64 q - 1))) ≡ 1 =
            ap (λ m. m % 2) (sym (shr-shr w i (d + (trailing_ones w64 q - 1)))) ∙ live (trailing_ones w64 q - 1) last in
            absurd
            (omega (arith, bit, bit_at_above w 64 (i + (d + (trailing_ones w64 q - 1))) fits (omega (arith, past))))
        | inr within ↦ omega (arith, within)
      ];
      none = λ j low. ap (λ m. bit_at m j) (sym is) ∙ lowest.2 j low;
      live = live;
    }

-- no bit of a word is left
pub none_left : (F : ℕ → Cell) (rows : List ℕ) (k i : ℕ) → i ≤ 64 → get_or rows k 0 / 2 ^ i ≡ 0
    → map F (places_below rows (64 * (k + 1))) ≡ map F (places_below rows (64 * k + i))
none_left F rows k i le none =
    let whole : 64 * (k + 1) ≡ 64 * k + i + (64 - i) = omega arith in
    ap (λ n. map F (places_below rows n)) whole
    ∙ places_skip F rows (64 * k + i) (64 - i)
    (λ j low. bit_of_rest rows k i j (omega arith) ∙ ap (λ w. bit_at w j) none ∙ bit_at-zero j)

-- the cells of one word stand side by side
pub cell_of-word : (left top : ℤ) (w k i : ℕ) → 0 < w → i < 64
    → cell_of left top (64 * w) (64 * k + i) ≡ moved_cell (pos i) (pos 0) (cell_of left top (64 * w) (64 * k))
cell_of-word left top w k i wide lt =
    let q = k / w in
    let r = k % w in
    let narrow : r < w = omega arith in
    let whole : q * w + r ≡ k = omega arith in
    let scaled : q * (64 * w) ≡ 64 * (q * w) = omega arith in
    let start : 64 * k ≡ q * (64 * w) + 64 * r = omega arith in
    let at : 64 * k + i ≡ q * (64 * w) + (64 * r + i) = omega arith in
    let row : (64 * k + i) / (64 * w) ≡ 64 * k / (64 * w) = ap (λ n. n / (64 * w)) at ∙ div-mul-add q (64 * w)
    (64 * r + i) (omega arith) ∙ sym (ap (λ n. n / (64 * w)) start ∙ div-mul-add q (64 * w) (64 * r) (omega arith)) in
    let column : (64 * k + i) % (64 * w) ≡ 64 * k % (64 * w) + i =
    ap (λ n. n % (64 * w)) at ∙ mod-mul-add q (64 * w) (64 * r + i) (omega arith)
    ∙ ap (λ n. n + i) (sym (ap (λ n. n % (64 * w)) start ∙ mod-mul-add q (64 * w) (64 * r) (omega arith))) in
    same_coordinates _ _ (omega (arith, ints, row)) (omega (arith, ints, column))

-- so do so many of them, from one on
pub cells_of-word : (left top : ℤ) (w k i n : ℕ) (first : Cell) → 0 < w
    → i + n ≤ 64 → first ≡ moved_cell (pos i) (pos 0) (cell_of left top (64 * w) (64 * k))
    → map (cell_of left top (64 * w)) (range_with_len (64 * k + i) n) ≡ cells_from first.row first.column n
cells_of-word left top w k i n first wide fits is =
    let row = ap (λ (d : Cell). d.row) is in
    let column = ap (λ (d : Cell). d.column) is in
    places_listed (cell_of left top (64 * w)) first.row first.column (64 * k + i) n
    (λ j low. ap (cell_of left top (64 * w)) (let e : 64 * k + i + j ≡ 64 * k + (i + j) = omega arith in e)
    ∙ cell_of-word left top w k (i + j) wide (omega arith)
    ∙ same_coordinates _ _ (omega (arith, ints, row)) (omega (arith, ints, column)))

-- words without live cells add no place
pub none_between : (F : ℕ → Cell) (rows : List ℕ) (k n : ℕ)
    → ((j : ℕ) → k ≤ j → j < k + n → get_or rows j 0 ≡ 0)
    → map F (places_below rows (64 * (k + n))) ≡ map F (places_below rows (64 * k))
none_between F rows k zero dead =
    let here : 64 * (k + zero) ≡ 64 * k = omega arith in
    ap (λ m. map F (places_below rows m)) here
none_between F rows k (suc n) dead =
    let here : 64 * (k + suc n) ≡ 64 * (k + n + 1) = omega arith in
    let none : get_or rows (k + n) 0 / 2 ^ 0 ≡ 0 = omega (arith, dead (k + n) (omega arith) (omega arith)) in
    let back : 64 * (k + n) + 0 ≡ 64 * (k + n) = omega arith in
    ap (λ m. map F (places_below rows m)) here ∙ none_left F rows (k + n) 0 (omega arith) none
    ∙ ap (λ m. map F (places_below rows m)) back
    ∙ none_between F rows k n (λ j from to. dead j from (omega (arith, to)))

-- the same, from one word up to another
pub none_up_to : (F : ℕ → Cell) (rows : List ℕ) (k m : ℕ) → k ≤ m
    → ((j : ℕ) → k ≤ j → j < m → get_or rows j 0 ≡ 0)
    → map F (places_below rows (64 * m)) ≡ map F (places_below rows (64 * k))
none_up_to F rows k m le dead =
    let end : m ≡ k + (m - k) = omega arith in
    ap (λ n. map F (places_below rows (64 * n))) end
    ∙ none_between F rows k (m - k) (λ j from to. dead j from (omega (arith, to)))
