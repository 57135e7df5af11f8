-- The cells of a soup, one bit after another.
use Rattle.std.specs.Prelude.{◌≡◌, ℕ, ◌+◌, true, false, cond, List, [], ◌∷◌, ◌++◌, map, filter}
use Rattle.std.proofs.Common.{sym, ap, ◌∙◌, append-nil, arith}
use Rattle.std.specs.List.{All, AllByRecursion, range_with_len}
use Rattle.std.proofs.lemmas.List.{map-id, map-append}
use Rattle.std.proofs.lemmas.List.Elements.{All-from_recursion, recursion_from_All, filter-append}
use Rattle.std.proofs.lemmas.List.FromFn.{map-range_with_len_more}
use Rattle.std.specs.Fmt.{decimal}
use Rattle.std.specs.FinSet as set
use Rattle.sha2.specs.Sha256.{sha256}
use Rattle.life_core.specs.declared.cell.Cell.{Cell}
use Rattle.life_core.specs.Cell.{cell_cmp, IsCellWithin}
use Rattle.life_core.specs.Pattern.{Cells}
use Rattle.life_core.proofs.GenerationsLaws.{cell_within_more}
use Rattle.life_hauls.specs.declared.symmetry.Symmetry.{Symmetry}
use Rattle.life_hauls.specs.Soups.{bit_at, field_cell, live_cells, soup_cells, soup_of}

-- the numbers of a range, with the next one
pub range-push : (a n : ℕ) → range_with_len a (n + 1) ≡ range_with_len a n ++ (a + n) ∷ []
range-push a n =
    sym (map-id (range_with_len a (n + 1))) ∙ map-range_with_len_more (λ (k : ℕ). k) a n (a + n) (omega arith)
    ∙ ap (λ (ks : List ℕ). ks ++ (a + n) ∷ []) (map-id (range_with_len a n))

live-push : (w : ℕ) (bytes : List ℕ) (n : ℕ)
    → live_cells w bytes (n + 1) ≡ live_cells w bytes n ++ map (field_cell w) (cond (bit_at bytes n) (n ∷ []) [])
live-push w bytes n =
    ap (λ ks. map (field_cell w) (filter (bit_at bytes) ks))
    (range-push 0 n ∙ ap (λ k. range_with_len 0 n ++ k ∷ []) (whole n))
    ∙ ap (map (field_cell w)) (filter-append (bit_at bytes) (range_with_len 0 n) (n ∷ []))
    ∙ map-append (field_cell w) (filter (bit_at bytes) (range_with_len 0 n)) (cond (bit_at bytes n) (n ∷ []) [])
  where
    whole : (n : ℕ) → 0 + n ≡ n
    whole n = omega arith

pub live-yes : (w : ℕ) (bytes : List ℕ) (n : ℕ) → bit_at bytes n ≡ true
    → live_cells w bytes (n + 1) ≡ live_cells w bytes n ++ field_cell w n ∷ []
live-yes w bytes n is =
    live-push w bytes n ∙ ap (λ b. live_cells w bytes n ++ map (field_cell w) (cond b (n ∷ []) [])) is

pub live-no : (w : ℕ) (bytes : List ℕ) (n : ℕ) → bit_at bytes n ≡ false
    → live_cells w bytes (n + 1) ≡ live_cells w bytes n
live-no w bytes n is =
    live-push w bytes n ∙ ap (λ b. live_cells w bytes n ++ map (field_cell w) (cond b (n ∷ []) [])) is
    ∙ append-nil (live_cells w bytes n)

-- the set of the cells of a digest
pub soup_is : (s : Symmetry) (root : List ℕ) (i : ℕ) (digest : List ℕ) (cells : List Cell) (X : Cells)
    → digest ≡ sha256 (root ++ decimal i) → cells ≡ soup_cells s digest → X ≡ set.from_list cells → X ≡ soup_of s root i
unfolding soup_of
soup_is s root i digest cells X is listed made =
    made ∙ ap (λ (cs : List Cell). set.from_list {R = cell_cmp} cs) (listed ∙ ap (soup_cells s) is)

-- cells in a box lie in a larger one
pub wider : (cs : List Cell) → All (IsCellWithin 255) cs → All (IsCellWithin 256) cs
wider cs inside = All-from_recursion (IsCellWithin 256) cs (go cs (recursion_from_All (IsCellWithin 255) cs inside))
  where
    go : (ds : List Cell) → AllByRecursion (IsCellWithin 255) ds → AllByRecursion (IsCellWithin 256) ds
    go [] h = tt
    go (d ∷ ds) h = (cell_within_more 255 256 d (omega arith) h.0, go ds h.1)
