-- One more item laid into lines, and one more run written.
use Rattle.std.proofs.Common.{◌≡◌, ℕ, ◌<◌, ◌≤◌, ◌+◌, ◌-◌, cond, eqb, nat_lt, List, [], ◌∷◌, ◌++◌, take, set, length}
use Rattle.std.proofs.Common.{map, subst, ◌⊎◌, ap, ◌∙◌, sym, inl, inr, arith}
use Rattle.std.proofs.lemmas.List.{append_assoc, take_more_set, take-set, length-set, length-append}
use Rattle.std.proofs.Math.Seq.{take-append_seam}
use Rattle.std.specs.Int.{from_bool}
use Rattle.std.specs.Fmt.{decimal}
use Rattle.std.proofs.lemmas.Bool.{cases_lt, cases_eq, eq-eqb, ne_eqb, le-leb, lt-leb, lt-ltb, le-ltb}
use Rattle.std.proofs.lemmas.Fmt.{decimal_digit}
use Rattle.life_rle.specs.declared.writer.ItemLines.{ItemLines}
use Rattle.life_core.specs.declared.runs.Run.{Run}
use Rattle.life_core.specs.Runs.{run_cells}
use Rattle.life_rle.specs.Body.{run}
use Rattle.life_rle.specs.Writer.{laid, item_text, coordinates}
use Rattle.life_rle.specs.WriterState.{counted, texts_from, column_of, row_of, IsNextRun}
use Rattle.life_rle.specs.ItemLinesState.{written}
use Rattle.life_rle.proofs.RunPairs.{run_pairs}
use Rattle.life_rle.proofs.WriterRuns.{texts_run}

-- ---- items

-- an item that fits into the line, and one that does not
pub laid_fits : (out item : List ℕ) (used n : ℕ) (items : List (List ℕ)) → length item ≡ n
    → used + n ≤ 70 → out ++ (item ++ laid (used + n) items) ≡ out ++ laid used (item ∷ items)
unfolding laid
laid_fits out item used n items long fits =
    ap (λ k. out ++ (item ++ laid (used + k) items)) (sym long)
    ∙ ap (λ t. out ++ cond t (item ++ laid (used + length item) items) (10 ∷ item ++ laid (length item) items))
    (sym (le-leb (used + length item) 70 (omega arith)))

pub laid_next : (out next item : List ℕ) (used n : ℕ) (items : List (List ℕ)) → length item ≡ n
    → 70 < used + n → next ≡ out ++ 10 ∷ [] → next ++ (item ++ laid n items) ≡ out ++ laid used (item ∷ items)
unfolding laid
laid_next out next item used n items long past e =
    ap (λ s. s ++ (item ++ laid n items)) e ∙ append_assoc out (10 ∷ []) (item ++ laid n items)
    ∙ ap (λ k. out ++ (10 ∷ item ++ laid k items)) (sym long)
    ∙ ap (λ t. out ++ cond t (item ++ laid (used + length item) items) (10 ∷ item ++ laid (length item) items))
    (sym (lt-leb (used + length item) 70 (omega arith)))

none_taken : (n : ℕ) (line : List ℕ) → n ≡ 0 → take n line ≡ []
none_taken n line none = ap (λ k. take k line) none

-- the same with the line that has begun apart from the lines before it
pub room_fits : (out line item : List ℕ) (used n : ℕ) (items : List (List ℕ)) → length item ≡ n → used + n ≤ 70
    → out ++ (take used line ++ (item ++ laid (used + n) items)) ≡ out ++ (take used line ++ laid used (item ∷ items))
room_fits out line item used n items long fits =
    ap (λ s. out ++ s) (laid_fits (take used line) item used n items long fits)

pub room_next : (out line next after item : List ℕ) (used begun n : ℕ) (items : List (List ℕ))
    → length item ≡ n → 70 < used + n → begun ≡ 0 → next ≡ out ++ (take used line ++ 10 ∷ [])
    → next ++ (take begun after ++ (item ++ laid (begun + n) items))
    ≡ out ++ (take used line ++ laid used (item ∷ items))
room_next out line next after item used begun n items long past none e =
    let least : begun + n ≡ n = omega (arith, none) in
    (λ t. next ++ (none_taken begun after none t ++ (item ++ laid (least t) items)))
    ∙ laid_next (out ++ take used line) next item used n items long past
    (e ∙ sym (append_assoc out (take used line) (10 ∷ [])))
    ∙ append_assoc out (take used line) (laid used (item ∷ items))

-- the item of a count of one digit, which the tag replaces if the count is 1
pub one_digit : (line : List ℕ) (used digits count tag : ℕ) → used + digits < length line → 0 < count
    → count < 10 → digits ≡ from_bool (nat_lt 1 count)
    → (item : List ℕ) × (length item ≡ digits + 1) × (counted count tag ≡ item ∷ [])
    × (take (used + (digits + 1)) (set (set line used (48 + count)) (used + digits) tag) ≡ take used line ++ item)
one_digit line used digits count tag inside some small is = elim (cases_lt 1 count) [
  | inl more ↦
      let two : digits ≡ 1 = is ∙ ap from_bool (lt-ltb 1 count more) in
      let at : used + digits ≡ used + 1 = omega arith in
      let end : used + (digits + 1) ≡ used + 1 + 1 = omega arith in
      let first : List ℕ = set line used (48 + count) in (
        decimal count ++ tag ∷ [],
        ap (λ ds. length (ds ++ tag ∷ [])) (decimal_digit count small) ∙ omega arith,
        ap (λ t. cond t [] (item_text (count, tag) ∷ [])) (ne_eqb count 0 (λ e. omega arith))
            ∙ ap (λ t. (cond t [] (decimal count) ++ tag ∷ []) ∷ []) (ne_eqb count 1 (λ e. omega arith)),
        (λ t. take (end t) (set first (at t) tag))
            ∙ take_more_set first (used + 1) tag (omega (arith, length-set line used (48 + count)))
            ∙ ap (λ s. s ++ tag ∷ []) (take_more_set line used (48 + count) (omega arith))
            ∙ append_assoc (take used line) ((48 + count) ∷ []) (tag ∷ [])
            ∙ ap (λ ds. take used line ++ (ds ++ tag ∷ [])) (sym (decimal_digit count small)),
      )
  | inr least ↦
      let one : count ≡ 1 = omega arith in
      let none : digits ≡ 0 = is ∙ ap from_bool (le-ltb 1 count least) in
      let at : used + digits ≡ used = omega arith in
      let end : used + (digits + 1) ≡ used + 1 = omega arith in
      let first : List ℕ = set line used (48 + count) in (
        tag ∷ [],
        omega arith,
        ap (λ n. counted n tag) one,
        (λ t. take (end t) (set first (at t) tag))
            ∙ take_more_set first used tag (omega (arith, length-set line used (48 + count)))
            ∙ ap (λ s. s ++ tag ∷ []) (take-set line used (48 + count)),
      )
]

-- digits and a tag, put into the line
pub more_digits : (line digits rest : List ℕ) (used n tag : ℕ) → length (take used line) ≡ used
    → length digits ≡ n → used + n < length (take used line ++ (digits ++ rest))
    → take (used + n + 1) (set (take used line ++ (digits ++ rest)) (used + n) tag)
    ≡ take used line ++ (digits ++ tag ∷ [])
more_digits line digits rest used n tag front long inside =
    let whole : length (take used line ++ digits) ≡ used + n = length-append (take used line) digits
    ∙ (λ t. front t + long t) in
    take_more_set (take used line ++ (digits ++ rest)) (used + n) tag inside
    ∙ ap (λ l. take (used + n) l ++ tag ∷ []) (sym (append_assoc (take used line) digits rest))
    ∙ ap (λ k. take k ((take used line ++ digits) ++ rest) ++ tag ∷ []) (sym whole)
    ∙ ap (λ l. l ++ tag ∷ []) (take-append_seam (take used line ++ digits) rest)
    ∙ append_assoc (take used line) digits (tag ∷ [])

-- ---- runs

four_parts : (a b c d e : List (List ℕ)) → a ++ (b ++ (c ++ (d ++ e))) ≡ (a ++ (b ++ (c ++ d))) ++ e
four_parts a b c d e = simp append_assoc

-- a cell elsewhere is after a gap
pub some_gap_row : (row column x y : ℕ) → row ≤ y → (y ≡ row → ⊥) → 0 < (y - row) + (x - cond (eqb y row) column 0)
some_gap_row row column x y low other = omega arith

pub some_gap_column : (row column x y : ℕ) → y ≡ row → column ≤ x → (x ≡ column → ⊥)
    → 0 < (y - row) + (x - cond (eqb y row) column 0)
some_gap_column row column x y same low other =
    let e : cond (eqb y row) column 0 ≡ column = ap (λ b. cond b column 0) (eq-eqb y row same) in omega arith

some_gap : (row column x y : ℕ) → row ≤ y → (row < y) ⊎ (column < x) → 0 < (y - row) + (x - cond (eqb y row) column 0)
some_gap row column x y low (inl below) = some_gap_row row column x y low (λ same. absurd (omega (arith, below, same)))
some_gap row column x y low (inr right) = elim (cases_eq y row) [
  | inl same ↦ some_gap_column row column x y same (omega (arith, right)) (λ here. absurd (omega (arith, right, here)))
  | inr other ↦ some_gap_row row column x y low other
]

-- one more run is written
pub run_written : {A : Type 0} (new old : ItemLines A) (row column live x y end length : ℕ)
    (r : Run) (cells : List (ℕ × ℕ)) (items : List (List ℕ)) → IsNextRun row column live r
    → x ≡ column_of r → y ≡ row_of r → length ≡ r.len → end ≡ x + length →
    ((items : List (List ℕ)) → written new items ≡ written old
    (counted live 111 ++ (counted (y - row) 36 ++ (counted (x - cond (eqb y row) column 0) 98 ++ items)))) →
    written new (texts_from length y end cells ++ items)
    ≡ written old (texts_from live row column (map coordinates (run_cells r) ++ cells) ++ items)
run_written new old row column live x y end length r cells items next at_column at_row is_long is_end gap =
    let below : row ≤ y = omega (arith, next.below, at_row) in
    let apart : 0 < live → (row < y) ⊎ (column < x) = λ some. subst (λ z. (row < z) ⊎ (column < x))
    (sym at_row) (subst (λ z. (row < row_of r) ⊎ (column < z)) (sym at_column) (next.apart some)) in
    let pairs : map coordinates (run_cells r) ≡ run x y r.len =
    run_pairs r.row r.first r.len next.cells.first.column_low ∙ sym (λ i. run (at_column i) (at_row i) r.len) in
    (λ i. written new (texts_from (is_long i) y ((is_end ∙ ap (λ n. x + n) is_long) i) cells ++ items))
    ∙ gap (texts_from r.len y (x + r.len) cells ++ items)
    ∙ ap (λ t. written old t) (four_parts (counted live 111) (counted (y - row) 36)
    (counted (x - cond (eqb y row) column 0) 98) (texts_from r.len y (x + r.len) cells) items)
    ∙ ap (λ t. written old (t ++ items)) (sym
    (texts_run live row column x y r.len cells next.cells.some (λ some. some_gap row column x y below (apart some)))
    ∙ ap (λ ps. texts_from live row column (ps ++ cells)) (sym pairs))
