-- The set of a pattern by its runs.
use Rattle.std.specs.Prelude.{◌≡◌, ◌≢◌, ℕ, zero, suc, ◌<◌, ◌≤◌, ℤ, pos, ◌+ℤ◌, ◌-ℤ◌, nat_eq, ◌&&◌, None, Some, List, []}
use Rattle.std.specs.Prelude.{◌∷◌, ◌++◌, length, map, get_or, slice_get, true, ⊤, refl}
use Rattle.std.proofs.Common.{sym, ap, subst, ◌∙◌, inl, inr, arith}
use Rattle.std.proofs.lemmas.Int.{ints}
use Rattle.std.proofs.lemmas.Bool.{false≢true, cases_lt, and_parts, and_from, eqb-true}
use Rattle.std.specs.Bool.{Decides}
use Rattle.std.specs.Cmp.{signed_Decides}
use Rattle.std.specs.Option.{unwrap_or, is_some}
use Rattle.std.specs.Ordering.{int_eq}
use Rattle.std.specs.List.{All}
use Rattle.std.specs.FinSet as set
use Rattle.life_core.specs.declared.cell.Cell.{Cell}
use Rattle.life_core.specs.declared.runs.Run.{Run}
use Rattle.life_core.specs.Cell.{moved_cell}
use Rattle.life_core.specs.Pattern.{Cells, IsWithin}
use Rattle.life_core.specs.PatternState.{ShiftsListTo}
use Rattle.life_core.specs.Runs.{cells_from, run_cells, runs_cells, first_cell, last_cell, moved_run, IsInRun}
use Rattle.life_core.specs.Runs.{IsRunWithin, NoneJoins, AreLongest}
use Rattle.life_core.proofs.RunsLaws.{in_some, in_any, first_in_run, run_at, set_of_runs, moved_list}

-- ---- all cells within bounds

pub within_runs : (k : ℕ) (rs : List Run) → AreLongest rs
    → (All (IsRunWithin k) rs → IsWithin k (set.from_list (runs_cells rs)))
    × (IsWithin k (set.from_list (runs_cells rs)) → All (IsRunWithin k) rs)
within_runs k rs longest = (
  λ all c live.
      let found = in_some rs c (ap (λ (X : Cells). set.contains X c) (sym (set_of_runs rs)) ∙ live) in
      let it = subst (IsRunWithin k) found.3 (all found.0 found.1 found.2) in
      let inside = found.4 in
      let low = inside.low in
      let high = inside.high in
      let row = inside.row in
      let first = it.first in
      let last = it.last in
      record {
        top = omega (arith, ints, first.top, row);
        bottom = omega (arith, ints, first.bottom, row);
        left = omega (arith, ints, first.left, low);
        right = omega (arith, ints, last.right, high);
      },
  λ within i d low.
      let r = get_or rs i d in
      let some = (run_at rs i d longest low).some in
      let in_set = λ (c : Cell) (inside : IsInRun r c). within c
      (ap (λ (X : Cells). set.contains X c) (set_of_runs rs) ∙ in_any rs i d c low inside) in
      record {
        first = in_set (first_cell r) (first_in_run r some);
        last = in_set (last_cell r) (record {
          row = refl;
          low = omega (arith, ints, some);
          high = omega (arith, ints, some);
        });
      },
)

-- ---- one list of longest runs

abbrev first_or : Cell → List Cell → Cell
first_or d [] = d
first_or d (c ∷ cs) = c

abbrev rest : List Cell → List Cell
rest [] = []
rest (c ∷ cs) = cs

-- the list begins with the cell
abbrev BeginsWith : List Cell → Cell → Type 0
BeginsWith [] c = ⊥
BeginsWith (x ∷ xs) c = x ≡ c

cut : (row first : ℤ) (m n : ℕ) (xs ys : List Cell) → cells_from row first m ++ xs ≡ cells_from row first n ++ ys
    → m < n → BeginsWith xs (record { row = row; column = first +ℤ pos m })
cut row first zero zero xs ys e less = absurd (omega (arith, less))
cut row first zero (suc n) [] ys e less = absurd (let long = ap length e in omega (arith, long))
cut row first zero (suc n) (x ∷ xs) ys e less =
    let here : first ≡ first +ℤ pos 0 = omega (arith, ints) in
    ap (first_or x) e ∙ ap (λ z. record { row = row; column = z }) here
cut row first (suc m) zero xs ys e less = absurd (omega (arith, less))
cut row first (suc m) (suc n) xs ys e less =
    let there : (first +ℤ pos 1) +ℤ pos m ≡ first +ℤ pos (suc m) = omega (arith, ints) in
    subst (λ z. BeginsWith xs (record { row = row; column = z })) there
    (cut row (first +ℤ pos 1) m n xs ys (ap rest e) (omega (arith, less)))

uncut : (row first : ℤ) (n : ℕ) (xs ys : List Cell)
    → cells_from row first n ++ xs ≡ cells_from row first n ++ ys → xs ≡ ys
uncut row first zero xs ys e = e
uncut row first (suc n) xs ys e = uncut row (first +ℤ pos 1) n xs ys (ap rest e)

-- each run has a cell, and none begins where the one before it ends
abbrev pub AreApart : List Run → Type 0
AreApart [] = ⊤
AreApart (r ∷ rs) = (1 ≤ r.len) × NoneJoins r rs × AreApart rs

pub apart : (rs : List Run) → AreLongest rs → AreApart rs
apart [] h = tt
apart (r ∷ rs) h = (h.0.some, h.1, apart rs h.2)

-- runs with a cell begin with it
begins : (r : Run) (cs : List Cell) (d : Cell) → 1 ≤ r.len → first_or d (run_cells r ++ cs) ≡ first_cell r
begins r cs d run = go r.len refl
  where
    go : (n : ℕ) → r.len ≡ n → first_or d (run_cells r ++ cs) ≡ first_cell r
    go zero none = absurd (omega (arith, none, run))
    go (suc n) is = ap (λ m. first_or d (cells_from r.row r.first m ++ cs)) is

-- after the last cell of a longest run no run goes on
goes_on : (r : Run) (rs : List Run) → NoneJoins r rs → AreApart rs
    → BeginsWith (runs_cells rs) (record { row = r.row; column = r.first +ℤ pos r.len }) → ⊥
goes_on r [] none h next = next
goes_on r (q ∷ rs) none h next = go q.len refl
  where
    go : (n : ℕ) → q.len ≡ n → ⊥
    go zero empty = absurd (omega (arith, empty, h.0))
    go (suc n) is =
        let at = subst (λ m. BeginsWith (cells_from q.row q.first m ++ runs_cells rs) (record {
          row = r.row;
          column = r.first +ℤ pos r.len;
        })) is next in
        none (sym (ap (λ (c : Cell). c.row) at), sym (ap (λ (c : Cell). c.column) at))

some_cells : (r : Run) (cs : List Cell) → 1 ≤ r.len → [] ≡ run_cells r ++ cs → ⊥
some_cells r cs run e = go r.len refl
  where
    go : (n : ℕ) → r.len ≡ n → ⊥
    go zero none = absurd (omega (arith, none, run))
    go (suc n) is =
        absurd (let long = ap length (e ∙ ap (λ m. cells_from r.row r.first m ++ cs) is) in omega (arith, long))

pub same_runs : (rs ss : List Run) → AreApart rs → AreApart ss → runs_cells rs ≡ runs_cells ss → rs ≡ ss
same_runs [] [] h k e = refl
same_runs [] (s ∷ ss) h k e = absurd (some_cells s (runs_cells ss) k.0 e)
same_runs (r ∷ rs) [] h k e = absurd (some_cells r (runs_cells rs) h.0 (sym e))
same_runs (r ∷ rs) (s ∷ ss) h k e =
    let d : Cell = first_cell r in
    let first : first_cell r ≡ first_cell s = sym (begins r (runs_cells rs) d h.0) ∙ ap (first_or d) e
    ∙ begins s (runs_cells ss) d k.0 in
    let row : r.row ≡ s.row = ap (λ (c : Cell). c.row) first in
    let column : r.first ≡ s.first = ap (λ (c : Cell). c.column) first in
    let aligned : cells_from r.row r.first r.len ++ runs_cells rs ≡ cells_from r.row r.first s.len ++ runs_cells ss = e
    ∙ (λ i. cells_from (sym row i) (sym column i) s.len ++ runs_cells ss) in
    elim (cases_lt r.len s.len) [
      | inl shorter ↦
          absurd (goes_on r rs h.1 h.2 (cut r.row r.first r.len s.len (runs_cells rs) (runs_cells ss) aligned shorter))
      | inr other ↦ elim (cases_lt s.len r.len) [
        | inl longer ↦ absurd (goes_on s ss k.1 k.2
            (subst (λ (c : Cell). BeginsWith (runs_cells ss) c) (λ i. record {
              row = row i;
              column = column i +ℤ pos s.len;
            }) (cut r.row r.first s.len r.len (runs_cells ss) (runs_cells rs) (sym aligned) longer)))
        | inr equal ↦
            let len : r.len ≡ s.len = omega (arith, other, equal) in
            let tails = uncut r.row r.first r.len (runs_cells rs) (runs_cells ss)
            (aligned ∙ ap (λ n. cells_from r.row r.first n ++ runs_cells ss) (sym len)) in
            let more = same_runs rs ss h.2 k.2 tails in
            λ i. record { row = row i; first = column i; len = len i } ∷ more i
      ]
    ]

-- the derived `==` tells runs apart
pub runs_decide : (r s : Run) → Decides (int_eq r.row s.row && (int_eq r.first s.first && nat_eq r.len s.len)) (r ≡ s)
runs_decide r s = (
  λ h.
      let one = and_parts _ _ h in
      let two = and_parts _ _ one.1 in
      let row = (signed_Decides r.row s.row).0 one.0 in
      let first = (signed_Decides r.first s.first).0 two.0 in
      let len = eqb-true r.len s.len two.1 in
      λ i. record { row = row i; first = first i; len = len i },
  λ e. and_from _ _ ((signed_Decides r.row s.row).1 (ap (λ (t : Run). t.row) e))
      (and_from _ _ ((signed_Decides r.first s.first).1 (ap (λ (t : Run). t.first) e))
      (same_number r.len s.len (ap (λ (t : Run). t.len) e))),
)
  where
    same_number : (a b : ℕ) → a ≡ b → nat_eq a b ≡ true
    same_number a b e = grind (arith, e)

-- ---- moves of runs

pub no_run : (rs : List Run) (ds : List Cell) → None ≡ slice_get rs 0 → ShiftsListTo (runs_cells rs) ds None
no_run [] ds p = λ dx dy e. refl
no_run (r ∷ rs) ds p = absurd (false≢true (ap is_some p))

pub some_run : (rs : List Run) (r : Run) → AreLongest rs → Some r ≡ slice_get rs 0 → runs_cells rs ≢ []
some_run [] r h p e = false≢true (sym (ap is_some p))
some_run (q ∷ rs) r h p e = some_cells q (runs_cells rs) h.0.some (sym e)

pub no_other_run : (rs ss : List Run) → AreLongest rs → None ≡ slice_get ss 0
    → ShiftsListTo (runs_cells rs) (runs_cells ss) None
no_other_run [] [] h p = λ dx dy e. refl
no_other_run (r ∷ rs) [] h p =
    λ dx dy e. absurd (some_cells (moved_run dx dy r) (runs_cells (map (moved_run dx dy) rs)) h.0.some
    (sym e ∙ sym (moved_list dx dy (r ∷ rs))))
no_other_run rs (s ∷ ss) h p = absurd (false≢true (ap is_some p))

same_step : (c d s e : ℤ) → s ≡ d -ℤ c → c +ℤ e ≡ d → s ≡ e
same_step c d s e h k = omega (arith, ints, h, k)

none_moved : (dx dy : ℤ) (r : Run) (rs : List Run) → NoneJoins r rs
    → NoneJoins (moved_run dx dy r) (map (moved_run dx dy) rs)
none_moved dx dy r [] none = tt
none_moved dx dy r (s ∷ rs) none =
    λ joins. none (let row = joins.0 in omega (arith, ints, row), let column = joins.1 in omega (arith, ints, column))

apart_moved : (dx dy : ℤ) (rs : List Run) → AreApart rs → AreApart (map (moved_run dx dy) rs)
apart_moved dx dy [] h = tt
apart_moved dx dy (r ∷ rs) h = (h.0, none_moved dx dy r rs h.1, apart_moved dx dy rs h.2)

first_is : (rs : List Run) (r d : Run) → Some r ≡ slice_get rs 0 → get_or rs 0 d ≡ r
first_is [] r d p = absurd (false≢true (sym (ap is_some p)))
first_is (q ∷ rs) r d p = sym (ap (λ o. unwrap_or o q) p)

get_moved : (dx dy : ℤ) (rs : List Run) (r d : Run) → Some r ≡ slice_get rs 0
    → get_or (map (moved_run dx dy) rs) 0 d ≡ moved_run dx dy r
get_moved dx dy [] r d p = absurd (false≢true (sym (ap is_some p)))
get_moved dx dy (q ∷ rs) r d p = ap (moved_run dx dy) (sym (ap (λ o. unwrap_or o q) p))

-- if a move takes the cells of longest runs to those of others, it takes the runs
pub moves_runs : (dx dy : ℤ) (rs ss : List Run) → AreLongest rs → AreLongest ss
    → map (moved_cell dx dy) (runs_cells rs) ≡ runs_cells ss → map (moved_run dx dy) rs ≡ ss
moves_runs dx dy rs ss h k e =
    same_runs (map (moved_run dx dy) rs) ss (apart_moved dx dy rs (apart rs h)) (apart ss k) (moved_list dx dy rs ∙ e)

pub no_shift_of_runs : (rs ss : List Run) (r s : Run) (shift : ℤ × ℤ) → AreLongest rs → AreLongest ss
    → Some r ≡ slice_get rs 0 → Some s ≡ slice_get ss 0 → shift.0 ≡ s.first -ℤ r.first → shift.1 ≡ s.row -ℤ r.row
    → map (moved_run shift.0 shift.1) rs ≢ ss → ShiftsListTo (runs_cells rs) (runs_cells ss) None
no_shift_of_runs rs ss r s shift h k p q columns rows other = λ dx dy e.
    let all = moves_runs dx dy rs ss h k e in
    let first : moved_run dx dy r ≡ s = sym (get_moved dx dy rs r r p) ∙ ap (λ (ts : List Run). get_or ts 0 r) all
    ∙ first_is ss s r q in
    let x = same_step r.first s.first shift.0 dx columns (ap (λ (t : Run). t.first) first) in
    let y = same_step r.row s.row shift.1 dy rows (ap (λ (t : Run). t.row) first) in
    absurd (other ((λ i. map (moved_run (x i) (y i)) rs) ∙ all))
