-- Cells have at most one canonical body.
use Rattle.std.proofs.Common.{◌≡◌, ◌≢◌, ℕ, zero, suc, ◌<◌, ◌≤◌, ◌+◌, ◌-◌, Bool, true, false, cond, eqb, List, [], ◌∷◌}
use Rattle.std.proofs.Common.{◌++◌, length, map, replicate, refl, ap, ◌∙◌, sym, subst, arith, inl, inr}
use Rattle.std.specs.List.{AllByRecursion, flat_map}
use Rattle.std.proofs.lemmas.List.{append_assoc, append-nil, length-append}
use Rattle.std.proofs.lemmas.List.Concat.{flat_map-append}
use Rattle.std.proofs.lemmas.Bool.{ne_eqb, eq-eqb}
use Rattle.life_rle.specs.Writer.{tags_from, runs_of, item_text, item_texts, laid}
use Rattle.life_rle.specs.RleLaws.{IsTag, AreMaximalRuns, EndInLiveCells, AreFull, spelled_runs, IsCanonical}
use Rattle.life_rle.specs.RleLaws.{OneCanonicalBody}
use Rattle.life_rle.proofs.LawsLaid.{ended, used, laid_here, laid_below, laid_none}
use Rattle.life_rle.proofs.LawsRuns.{HaveTags, EndLive, gap, no_tags, no_runs, are_tags_by, walk, spelled_out}
use Rattle.life_rle.proofs.LawsRuns.{runs_placed}
use Rattle.life_rle.proofs.LawsCanonical.{are_runs, texts_of}
use Rattle.life_rle.proofs.WriterRuns.{Other, runs_replicate}

-- ---- lines

first_fits : (line : List (ℕ × ℕ)) (lines : List (List (ℕ × ℕ))) → AreFull (line ∷ lines) → used line ≤ 70
first_fits line [] full = full
first_fits line (next ∷ lines) full = full.0

abbrev all_runs : List (List (ℕ × ℕ)) → List (ℕ × ℕ)
all_runs lines = flat_map (λ line. line) lines

-- after a line that is complete, the lines are those that are laid
abbrev AreLaid : List (List (ℕ × ℕ)) → Type 0
AreLaid lines =
    (front : List (ℕ × ℕ)) → AreFull (front ∷ lines)
    → laid (used front) (map item_text (all_runs lines)) ≡ 10 ∷ flat_map ended lines

run_fits : (front rest : List (ℕ × ℕ)) (run : ℕ × ℕ) → used (front ++ run ∷ rest) ≤ 70
    → used front + length (item_text run) ≤ 70
run_fits front rest run fits =
    let all : used (front ++ run ∷ rest) ≡ used front + (length (item_text run) + used rest) =
    ap length (flat_map-append item_text front (run ∷ rest)) ∙ length-append (spelled_runs front)
    (spelled_runs (run ∷ rest)) ∙ ap (λ n. used front + n) (length-append (item_text run) (spelled_runs rest)) in
    omega (arith, all, fits)

line_laid : (rest front : List (ℕ × ℕ)) (lines : List (List (ℕ × ℕ))) → AreLaid lines
    → AreFull ((front ++ rest) ∷ lines)
    → laid (used front) (map item_text (rest ++ all_runs lines)) ≡ ended rest ++ flat_map ended lines
line_laid [] front lines next full = next front (subst (λ line. AreFull (line ∷ lines)) (append-nil front) full)
line_laid (run ∷ rest) front lines next full =
    laid_here run front (map item_text (rest ++ all_runs lines))
    (run_fits front rest run (first_fits (front ++ run ∷ rest) lines full))
    ∙ ap (λ t. item_text run ++ t) (line_laid rest (front ++ run ∷ []) lines next
    (subst (λ line. AreFull (line ∷ lines)) (sym (append_assoc front (run ∷ []) rest)) full))
    ∙ sym (append_assoc (item_text run) (ended rest) (flat_map ended lines))
    ∙ ap (λ t. t ++ flat_map ended lines) (sym (append_assoc (item_text run) (spelled_runs rest) (10 ∷ [])))

are_laid : (lines : List (List (ℕ × ℕ))) → AreLaid lines
are_laid [] front full = laid_none (used front)
are_laid ([] ∷ lines) front full = absurd (omega (arith, full.0, full.1))
are_laid ((run ∷ rest) ∷ lines) front full =
    laid_below run front (map item_text (rest ++ all_runs lines)) full.1
    ∙ ap (λ t. 10 ∷ item_text run ++ t) (line_laid rest (run ∷ []) lines (are_laid lines) full.2)
    ∙ ap (λ t. 10 ∷ t) (sym (append_assoc (item_text run) (ended rest) (flat_map ended lines))
    ∙ ap (λ t. t ++ flat_map ended lines) (sym (append_assoc (item_text run) (spelled_runs rest) (10 ∷ []))))

-- full lines are those into which their runs are laid
lines_are_laid : (lines : List (List (ℕ × ℕ))) (runs : List (ℕ × ℕ)) (last : ℕ × ℕ) → AreFull lines
    → all_runs lines ≡ runs ++ last ∷ [] → flat_map ended lines ≡ laid 0 (map item_text (runs ++ last ∷ []))
lines_are_laid [] [] last full ends = absurd cc
lines_are_laid [] (run ∷ runs) last full ends = absurd cc
lines_are_laid (line ∷ lines) runs last full ends =
    sym (line_laid line [] lines (are_laid lines) full) ∙ ap (λ rs. laid 0 (map item_text rs)) ends

-- ---- runs

-- a run of another tag
other_by : (n tag other : ℕ) (tags : List ℕ) → 0 < n → other ≢ tag → Other tag (replicate n other ++ tags)
other_by zero tag other tags some differ = absurd (omega arith)
other_by (suc n) tag other tags some differ = differ

other_tags : (n tag : ℕ) (runs : List (ℕ × ℕ)) → AreMaximalRuns ((n, tag) ∷ runs) → Other tag (spelled_out runs)
other_tags n tag [] apart = tt
other_tags n tag (next ∷ []) apart = other_by next.0 tag next.1 [] apart.2 (λ e. apart.1 (sym e))
other_tags n tag (next ∷ more ∷ runs) apart =
    other_by next.0 tag next.1 (spelled_out (more ∷ runs)) apart.2.0 (λ e. apart.1 (sym e))

apart_behind : (run : ℕ × ℕ) (runs : List (ℕ × ℕ)) → AreMaximalRuns (run ∷ runs) → (0 < run.0) × AreMaximalRuns runs
apart_behind run [] apart = (apart, tt)
apart_behind run (next ∷ runs) apart = (apart.0, apart.2)

one_run_more : (n tag : ℕ) (tags : List ℕ) → 0 < n → Other tag tags
    → runs_of (replicate n tag ++ tags) ≡ (n, tag) ∷ runs_of tags
one_run_more zero tag tags some other = absurd (omega arith)
one_run_more (suc n) tag tags some other = runs_replicate n tag tags other

-- runs that are apart are those of their tags
runs_again : (runs : List (ℕ × ℕ)) → AreMaximalRuns runs → runs_of (spelled_out runs) ≡ runs
runs_again [] apart = no_runs
runs_again (run ∷ runs) apart =
    let parts = apart_behind run runs apart in
    one_run_more run.0 run.1 (spelled_out runs) parts.0 (other_tags run.0 run.1 runs apart)
    ∙ ap (λ rs. run ∷ rs) (runs_again runs parts.1)

-- ---- tags

tags_of_runs : (runs : List (ℕ × ℕ)) → HaveTags runs → AllByRecursion IsTag (spelled_out runs)
tags_of_runs [] all = tt
tags_of_runs (run ∷ runs) all = are_tags_by run.0 run.1 (spelled_out runs) all.0 (tags_of_runs runs all.1)

dead_is_no_row_end : (tag : ℕ) → tag ≡ 98 → tag ≡ 36 → ⊥
dead_is_no_row_end tag e f = omega (arith, e, f)

-- one more tag before tags that begin with another or the same
end_first : (n tag next : ℕ) (tags : List ℕ) → (tag ≡ 98 → next ≢ 36) → EndLive (next ∷ tags)
    → EndLive (replicate n tag ++ next ∷ tags)
end_first zero tag next tags other h = h
end_first (suc zero) tag next tags other h = (other, h)
end_first (suc (suc n)) tag next tags other h =
    ((λ e f. dead_is_no_row_end tag e f), end_first (suc n) tag next tags other h)

end_last : (n tag : ℕ) → tag ≡ 111 → EndLive (replicate n tag ++ [])
end_last zero tag live = tt
end_last (suc zero) tag live = live
end_last (suc (suc n)) tag live = ((λ e f. dead_is_no_row_end tag e f), end_last (suc n) tag live)

end_before : (n m tag next : ℕ) (tags : List ℕ) → 0 < m → (tag ≡ 98 → next ≢ 36) → EndLive (replicate m next ++ tags)
    → EndLive (replicate n tag ++ (replicate m next ++ tags))
end_before n zero tag next tags some other h = absurd (omega arith)
end_before n (suc m) tag next tags some other h = end_first n tag next (replicate m next ++ tags) other h

tags_end_live : (runs : List (ℕ × ℕ)) → AreMaximalRuns runs → EndInLiveCells runs → EndLive (spelled_out runs)
tags_end_live [] apart ends = tt
tags_end_live (run ∷ []) apart ends = end_last run.0 run.1 ends
tags_end_live (run ∷ next ∷ runs) apart ends =
    end_before run.0 next.0 run.1 next.1 (spelled_out runs) (apart_behind next runs apart.2).0 ends.0
    (tags_end_live (next ∷ runs) apart.2 ends.1)

end_behind : (tag : ℕ) (tags : List ℕ) → EndLive (tag ∷ tags) → EndLive tags
end_behind tag [] h = tt
end_behind tag (next ∷ tags) h = h.1

-- the first cell that a reader places whose next tag is this, and those after it
record First (tag row column : ℕ) (cells : List (ℕ × ℕ)) : Type 0 where
  cell : ℕ × ℕ
  others : List (ℕ × ℕ)
  are : cells ≡ cell ∷ others
  low : row ≤ cell.1
  along : row ≡ cell.1 → column ≤ cell.0
  same : tag ≢ 36 → cell.1 ≡ row

abbrev FirstAt : List ℕ → ℕ → Type 0
FirstAt tags tag = (row column : ℕ) → First tag row column (walk row column (tag ∷ tags))

first_live : (tags : List ℕ) → FirstAt tags 111
first_live tags row column = record {
  cell = (column, row);
  others = walk row (column + 1) tags;
  are = refl;
  low = omega arith;
  along = λ _. omega arith;
  same = λ _. refl;
}

first_row_end : (next : ℕ) (tags : List ℕ) → FirstAt tags next → FirstAt (next ∷ tags) 36
first_row_end next tags on row column =
    let f = on (row + 1) 0 in
    record {
      cell = f.cell;
      others = f.others;
      are = f.are;
      low = omega (arith, f.low);
      along = λ e. absurd (omega (arith, f.low, e));
      same = λ differ. absurd (differ refl);
    }

first_dead : (next : ℕ) (tags : List ℕ) → next ≢ 36 → FirstAt tags next → FirstAt (next ∷ tags) 98
first_dead next tags live on row column =
    let f = on row (column + 1) in
    record {
      cell = f.cell;
      others = f.others;
      are = f.are;
      low = f.low;
      along = λ e. omega (arith, f.along e);
      same = λ _. f.same live;
    }

live_at_end : (tag k : ℕ) → tag ≡ 111 → tag ≡ k → k ≢ 111 → ⊥
live_at_end tag k live e differ = differ (sym e ∙ live)

first : (tags : List ℕ) (tag : ℕ) → IsTag tag → AllByRecursion IsTag tags → EndLive (tag ∷ tags) → FirstAt tags tag
first [] tag (inl e) all h = absurd (live_at_end tag 36 h e (λ f. omega (arith, f)))
first [] tag (inr (inl e)) all h = absurd (live_at_end tag 98 h e (λ f. omega (arith, f)))
first [] tag (inr (inr e)) all h = subst (FirstAt []) (sym e) (first_live [])
first (next ∷ tags) tag (inl e) all h =
    subst (FirstAt (next ∷ tags)) (sym e) (first_row_end next tags (first tags next all.0 all.1 h.1))
first (next ∷ tags) tag (inr (inl e)) all h =
    subst (FirstAt (next ∷ tags)) (sym e) (first_dead next tags (h.0 e) (first tags next all.0 all.1 h.1))
first (next ∷ tags) tag (inr (inr e)) all h = subst (FirstAt (next ∷ tags)) (sym e) (first_live (next ∷ tags))

-- one step further from a cell
abbrev gap_of : ℕ → ℕ → List ℕ → List ℕ
gap_of down along tags = replicate down 36 ++ (replicate along 98 ++ 111 ∷ tags)

one_along : (row column : ℕ) (cell : ℕ × ℕ) (cells : List (ℕ × ℕ)) → cell.1 ≡ row → column + 1 ≤ cell.0
    → tags_from row column (cell ∷ cells) ≡ 98 ∷ tags_from row (column + 1) (cell ∷ cells)
one_along row column cell cells same along =
    let rest : List ℕ = tags_from cell.1 (cell.0 + 1) cells in
    let none : cell.1 - row ≡ 0 = omega (arith, same) in
    let here : cell.0 - cond (eqb cell.1 row) column 0 ≡ suc (cell.0 - (column + 1)) =
    ap (λ t. cell.0 - cond t column 0) (eq-eqb cell.1 row same) ∙ omega (arith, along) in
    let there : cell.0 - cond (eqb cell.1 row) (column + 1) 0 ≡ cell.0 - (column + 1) =
    ap (λ t. cell.0 - cond t (column + 1) 0) (eq-eqb cell.1 row same) in
    gap row column cell cells
    ∙ ap (λ n. gap_of n (cell.0 - cond (eqb cell.1 row) column 0) rest) none
    ∙ ap (λ n. gap_of 0 n rest) here
    ∙ sym (ap (λ ts. 98 ∷ ts) (gap row (column + 1) cell cells
    ∙ ap (λ n. gap_of n (cell.0 - cond (eqb cell.1 row) (column + 1) 0) rest) none
    ∙ ap (λ n. gap_of 0 n rest) there))

either_same : (t : Bool) (n : ℕ) → cond t n n ≡ n
either_same true n = refl
either_same false n = refl

one_down : (row column : ℕ) (cell : ℕ × ℕ) (cells : List (ℕ × ℕ)) → row + 1 ≤ cell.1
    → tags_from row column (cell ∷ cells) ≡ 36 ∷ tags_from (row + 1) 0 (cell ∷ cells)
one_down row column cell cells low =
    let rest : List ℕ = tags_from cell.1 (cell.0 + 1) cells in
    let down : cell.1 - row ≡ suc (cell.1 - (row + 1)) = omega (arith, low) in
    let here : cell.0 - cond (eqb cell.1 row) column 0 ≡ cell.0 - 0 =
    ap (λ t. cell.0 - cond t column 0) (ne_eqb cell.1 row (λ e. omega (arith, low, e))) in
    let there : cell.0 - cond (eqb cell.1 (row + 1)) 0 0 ≡ cell.0 - 0 =
    ap (λ n. cell.0 - n) (either_same (eqb cell.1 (row + 1)) 0) in
    gap row column cell cells
    ∙ ap (λ n. gap_of n (cell.0 - cond (eqb cell.1 row) column 0) rest) down
    ∙ ap (λ n. gap_of (suc (cell.1 - (row + 1))) n rest) here
    ∙ sym (ap (λ ts. 36 ∷ ts) (gap (row + 1) 0 cell cells ∙ ap (λ n. gap_of (cell.1 - (row + 1)) n rest) there))

at_cell : (row column : ℕ) (cells : List (ℕ × ℕ))
    → tags_from row column ((column, row) ∷ cells) ≡ 111 ∷ tags_from row (column + 1) cells
at_cell row column cells =
    let none : row - row ≡ 0 = omega arith in
    let here : column - cond (eqb row row) column 0 ≡ 0 = ap (λ t. column - cond t column 0) (eq-eqb row row refl)
    ∙ omega arith in
    gap row column (column, row) cells
    ∙ ap (λ n. gap_of n (column - cond (eqb row row) column 0) (tags_from row (column + 1) cells)) none
    ∙ ap (λ n. gap_of 0 n (tags_from row (column + 1) cells)) here

-- the tags of the cells that are placed
abbrev Again : List ℕ → Type 0
Again tags = (row column : ℕ) → tags_from row column (walk row column tags) ≡ tags

again_live : (tags : List ℕ) → Again tags → Again (111 ∷ tags)
again_live tags on row column =
    at_cell row column (walk row (column + 1) tags) ∙ ap (λ ts. 111 ∷ ts) (on row (column + 1))

again_dead : (next : ℕ) (tags : List ℕ) → next ≢ 36 → FirstAt tags next → Again (next ∷ tags) → Again (98 ∷ next ∷ tags)
again_dead next tags live at on row column =
    let f = at row (column + 1) in
    let same : f.cell.1 ≡ row = f.same live in
    ap (λ cells. tags_from row column cells) f.are
    ∙ one_along row column f.cell f.others same (f.along (sym same))
    ∙ ap (λ cells. 98 ∷ tags_from row (column + 1) cells) (sym f.are)
    ∙ ap (λ ts. 98 ∷ ts) (on row (column + 1))

again_row_end : (next : ℕ) (tags : List ℕ) → FirstAt tags next → Again (next ∷ tags) → Again (36 ∷ next ∷ tags)
again_row_end next tags at on row column =
    let f = at (row + 1) 0 in
    ap (λ cells. tags_from row column cells) f.are
    ∙ one_down row column f.cell f.others f.low
    ∙ ap (λ cells. 36 ∷ tags_from (row + 1) 0 cells) (sym f.are)
    ∙ ap (λ ts. 36 ∷ ts) (on (row + 1) 0)

again_by : (tag : ℕ) (tags : List ℕ) → IsTag tag → AllByRecursion IsTag tags → EndLive (tag ∷ tags)
    → Again tags → Again (tag ∷ tags)
again_by tag [] (inl e) all h on = absurd (live_at_end tag 36 h e (λ f. omega (arith, f)))
again_by tag [] (inr (inl e)) all h on = absurd (live_at_end tag 98 h e (λ f. omega (arith, f)))
again_by tag [] (inr (inr e)) all h on = subst (λ k. Again (k ∷ [])) (sym e) (again_live [] on)
again_by tag (next ∷ tags) (inl e) all h on =
    subst (λ k. Again (k ∷ next ∷ tags)) (sym e) (again_row_end next tags (first tags next all.0 all.1 h.1) on)
again_by tag (next ∷ tags) (inr (inl e)) all h on =
    subst (λ k. Again (k ∷ next ∷ tags)) (sym e) (again_dead next tags (h.0 e) (first tags next all.0 all.1 h.1) on)
again_by tag (next ∷ tags) (inr (inr e)) all h on =
    subst (λ k. Again (k ∷ next ∷ tags)) (sym e) (again_live (next ∷ tags) on)

tags_again : (tags : List ℕ) → AllByRecursion IsTag tags → EndLive tags → Again tags
tags_again [] all h row column = no_tags row column
tags_again (tag ∷ tags) all h row column =
    again_by tag tags all.0 all.1 h (tags_again tags all.1 (end_behind tag tags h)) row column

-- ---- bodies

-- the runs of a canonical body are those of its cells
runs_are : (cells : List (ℕ × ℕ)) (body : List ℕ) → (c : IsCanonical cells body)
    → c.runs ≡ runs_of (tags_from 0 0 cells)
runs_are cells body c =
    let tags : List ℕ = spelled_out c.runs in
    let placed : walk 0 0 tags ≡ cells = sym (runs_placed c.runs (are_runs c.runs c.apart c.counts c.kinds))
    ∙ c.cells_back in
    let again : tags_from 0 0 (walk 0 0 tags) ≡ tags =
    tags_again tags (tags_of_runs c.runs c.kinds) (tags_end_live c.runs c.apart c.live_end) 0 0 in
    sym (runs_again c.runs c.apart) ∙ ap runs_of (sym again ∙ ap (λ cs. tags_from 0 0 cs) placed)

-- a canonical body is the one that is written
body_is : (cells : List (ℕ × ℕ)) (body : List ℕ) → IsCanonical cells body → body ≡ laid 0 (item_texts cells)
body_is cells body c =
    c.spells
    ∙ lines_are_laid c.lines c.runs (1, 33) c.full c.ends
    ∙ ap (λ rs. laid 0 (map item_text (rs ++ (1, 33) ∷ []))) (runs_are cells body c)
    ∙ ap (λ items. laid 0 items) (texts_of (runs_of (tags_from 0 0 cells)))

pub one_body : OneCanonicalBody
one_body cells body other c d = body_is cells body c ∙ sym (body_is cells other d)
