-- The body of a record's text is canonical.
use Rattle.std.proofs.Common.{◌≡◌, ℕ, ◌<◌, ◌+◌, ◌^◌, true, eqb, List, [], ◌∷◌, ◌++◌, map, ap, ◌∙◌, sym, subst, arith}
use Rattle.std.specs.List.{AllByRecursion}
use Rattle.std.proofs.lemmas.List.{map-append}
use Rattle.life_core.specs.declared.cell.TheConstants.{PLANE}
use Rattle.life_rle.specs.WriterState.{InOrder}
use Rattle.life_rle.specs.Writer.{tags_from, runs_of, item_text, item_texts, laid, pairs_of}
use Rattle.life_rle.specs.RleLaws.{AreMaximalRuns, IsCanonical, BodiesAreCanonical}
use Rattle.life_rle.proofs.LawsCuts.{runs_are_longest}
use Rattle.life_rle.proofs.LawsLaid.{Fits, fits_by, in_lines}
use Rattle.life_rle.proofs.LawsRuns.{HaveTags, CountsTo, IsRun, Stays, are_tags, have_tags, tags_end, runs_end}
use Rattle.life_rle.proofs.LawsRuns.{AllBelow, walk, walk_tags, stays_tags, counts_to, spelled_out, runs_placed}
use Rattle.life_rle.proofs.RecordPairs.{pairs_in_order, pairs_below}

-- a count is a number of 64 bits
abbrev AreSmall : List (ℕ × ℕ) → Type 0
AreSmall runs = AllByRecursion (λ (run : ℕ × ℕ). run.0 < 2 ^ 64) runs

small_counts : (k : ℕ) (runs : List (ℕ × ℕ)) → k < 2 ^ 64 → CountsTo k runs → AreSmall runs
small_counts k [] small counts = tt
small_counts k (run ∷ runs) small counts = (omega (arith, counts.0), small_counts k runs small counts.1)

pub are_runs : (runs : List (ℕ × ℕ)) → AreMaximalRuns runs → AreSmall runs → HaveTags runs → AllByRecursion IsRun runs
are_runs [] apart counts kinds = tt
are_runs (run ∷ []) apart counts kinds = (record { some = apart; small = counts.0; kind = kinds.0 }, tt)
are_runs (run ∷ next ∷ runs) apart counts kinds =
    (record { some = apart.0; small = counts.0; kind = kinds.0 }, are_runs (next ∷ runs) apart.2 counts.1 kinds.1)

all_fit : (runs : List (ℕ × ℕ)) → AllByRecursion IsRun runs → AllByRecursion Fits (runs ++ (1, 33) ∷ [])
all_fit [] all = (fits_by 1 33 true (omega arith), tt)
all_fit (run ∷ runs) all = (fits_by run.0 run.1 (eqb run.0 1) all.0.small, all_fit runs all.1)

-- the runs' texts and `!`
pub texts_of : (runs : List (ℕ × ℕ)) → map item_text (runs ++ (1, 33) ∷ []) ≡ map item_text runs ++ (33 ∷ []) ∷ []
texts_of runs = map-append item_text runs ((1, 33) ∷ [])

-- the body of cells in the order of rows and columns
canonical_for : (k : ℕ) (cells : List (ℕ × ℕ)) → k < 2 ^ 64 → InOrder 0 0 cells → AllBelow k cells
    → IsCanonical cells (laid 0 (item_texts cells))
canonical_for k cells small order below =
    let tags : List ℕ = tags_from 0 0 cells in
    let longest = runs_are_longest tags in
    let kinds = have_tags tags (are_tags cells 0 0) in
    let stays : Stays k 0 0 (spelled_out (runs_of tags)) =
    subst (λ ts. Stays k 0 0 ts) (sym longest.0) (stays_tags cells k 0 0 order below) in
    let counts = small_counts k (runs_of tags) small
    (counts_to (runs_of tags) k 0 0 (omega arith) (omega arith) stays) in
    let all = are_runs (runs_of tags) longest.1 counts kinds in
    let lines = in_lines (runs_of tags ++ (1, 33) ∷ []) (all_fit (runs_of tags) all) in
    record {
      lines = lines.lines;
      runs = runs_of tags;
      spells = ap (λ items. laid 0 items) (sym (texts_of (runs_of tags))) ∙ lines.spells;
      ends = lines.all;
      full = lines.full;
      kinds = kinds;
      counts = counts;
      apart = longest.1;
      live_end = runs_end tags (tags_end cells 0 0);
      cells_back = runs_placed (runs_of tags) all ∙ ap (λ ts. walk 0 0 ts) longest.0 ∙ walk_tags cells 0 0 order;
    }

pub canonical_bodies : BodiesAreCanonical
canonical_bodies r is within =
    canonical_for (PLANE + 1) (pairs_of r.cells) (omega arith) (pairs_in_order r.cells is.cells)
    (pairs_below PLANE r.cells is.cells within)
