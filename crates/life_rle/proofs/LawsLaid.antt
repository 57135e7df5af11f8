-- The lines of a canonical body are as full as they can be.
use Rattle.std.proofs.Common.{◌≡◌, ℕ, ◌<◌, ◌≤◌, ◌+◌, ◌^◌, Bool, true, false, cond, List, [], ◌∷◌, ◌++◌, length, map}
use Rattle.std.proofs.Common.{refl, ap, ◌∙◌, sym, subst, arith, inl, inr}
use Rattle.std.specs.List.{AllByRecursion, flat_map}
use Rattle.std.specs.Fmt.{decimal}
use Rattle.std.proofs.lemmas.List.{append_assoc, append-nil, length-append}
use Rattle.std.proofs.lemmas.List.Concat.{flat_map-append}
use Rattle.std.proofs.lemmas.Bool.{cases_lt, le-leb, lt-leb}
use Rattle.std.proofs.lemmas.Fmt.{length-decimal-le}
use Rattle.life_rle.specs.Writer.{item_text, laid}
use Rattle.life_rle.specs.RleLaws.{spelled_runs, AreFull}

-- the characters of a line of runs and its end
abbrev pub ended : List (ℕ × ℕ) → List ℕ
ended line = spelled_runs line ++ 10 ∷ []

-- a run's text fits on a line
abbrev pub Fits : ℕ × ℕ → Type 0
Fits run = length (item_text run) ≤ 70

-- runs laid after those of a line that has begun: the rest of that line, and the lines after it
record Laid (line runs : List (ℕ × ℕ)) : Type 0 where
  rest : List (ℕ × ℕ)
  lines : List (List (ℕ × ℕ))
  spells : laid (length (spelled_runs line)) (map item_text runs) ≡ ended rest ++ flat_map ended lines
  all : rest ++ flat_map (λ l. l) lines ≡ runs
  full : AreFull ((line ++ rest) ∷ lines)

abbrev pub used : List (ℕ × ℕ) → ℕ
used line = length (spelled_runs line)

pub used_push : (line : List (ℕ × ℕ)) (run : ℕ × ℕ) → used (line ++ run ∷ []) ≡ used line + length (item_text run)
used_push line run =
    ap length (flat_map-append item_text line (run ∷ [])
    ∙ ap (λ t. spelled_runs line ++ t) (append-nil (item_text run)))
    ∙ length-append (spelled_runs line) (item_text run)

used_one : (run : ℕ × ℕ) → used (run ∷ []) ≡ length (item_text run)
used_one run = ap length (append-nil (item_text run))

pub laid_here : (run : ℕ × ℕ) (line : List (ℕ × ℕ)) (items : List (List ℕ)) → used line + length (item_text run) ≤ 70
    → laid (used line) (item_text run ∷ items) ≡ item_text run ++ laid (used (line ++ run ∷ [])) items
unfolding laid
laid_here run line items fits =
    ap (λ t. cond t (item_text run ++ laid (used line + length (item_text run)) items)
    (10 ∷ item_text run ++ laid (length (item_text run)) items)) (le-leb (used line + length (item_text run)) 70 fits)
    ∙ ap (λ n. item_text run ++ laid n items) (sym (used_push line run))

pub laid_below : (run : ℕ × ℕ) (line : List (ℕ × ℕ)) (items : List (List ℕ)) → 70 < used line + length (item_text run)
    → laid (used line) (item_text run ∷ items) ≡ 10 ∷ item_text run ++ laid (used (run ∷ [])) items
unfolding laid
laid_below run line items past =
    ap (λ t. cond t (item_text run ++ laid (used line + length (item_text run)) items)
    (10 ∷ item_text run ++ laid (length (item_text run)) items)) (lt-leb (used line + length (item_text run)) 70 past)
    ∙ ap (λ n. 10 ∷ item_text run ++ laid n items) (sym (used_one run))

pub laid_none : (n : ℕ) → laid n [] ≡ 10 ∷ []
unfolding laid
laid_none n = refl

laid_here_all : (run : ℕ × ℕ) (runs line : List (ℕ × ℕ)) → used line + length (item_text run) ≤ 70
    → Laid (line ++ run ∷ []) runs → Laid line (run ∷ runs)
laid_here_all run runs line fits on = record {
  rest = run ∷ on.rest;
  lines = on.lines;
  spells =
      laid_here run line (map item_text runs) fits ∙ ap (λ t. item_text run ++ t) on.spells
      ∙ sym (append_assoc (item_text run) (ended on.rest) (flat_map ended on.lines))
      ∙ ap (λ t. t ++ flat_map ended on.lines) (sym (append_assoc (item_text run) (spelled_runs on.rest) (10 ∷ [])));
  all = ap (λ rs. run ∷ rs) on.all;
  full = subst (λ first. AreFull (first ∷ on.lines)) (append_assoc line (run ∷ []) on.rest) on.full;
}

laid_below_all : (run : ℕ × ℕ) (runs line : List (ℕ × ℕ)) → used line ≤ 70 → 70 < used line + length (item_text run)
    → Laid (run ∷ []) runs → Laid line (run ∷ runs)
laid_below_all run runs line fits past on = record {
  rest = [];
  lines = (run ∷ on.rest) ∷ on.lines;
  spells =
      laid_below run line (map item_text runs) past ∙ ap (λ t. 10 ∷ item_text run ++ t) on.spells
      ∙ ap (λ t. 10 ∷ t) (sym (append_assoc (item_text run) (ended on.rest) (flat_map ended on.lines))
      ∙ ap (λ t. t ++ flat_map ended on.lines) (sym (append_assoc (item_text run) (spelled_runs on.rest) (10 ∷ []))));
  all = ap (λ rs. run ∷ rs) on.all;
  full = subst (λ first. AreFull (first ∷ (run ∷ on.rest) ∷ on.lines)) (sym (append-nil line)) (fits, past, on.full);
}

lay : (runs line : List (ℕ × ℕ)) → AllByRecursion Fits runs → used line ≤ 70 → Laid line runs
lay [] line short fits = record {
  rest = [];
  lines = [];
  spells = laid_none (used line);
  all = refl;
  full = subst (λ first. AreFull (first ∷ [])) (sym (append-nil line)) fits;
}
lay (run ∷ runs) line short fits = elim (cases_lt 70 (used line + length (item_text run))) [
  | inl past ↦
      laid_below_all run runs line fits past (lay runs (run ∷ []) short.1 (omega (arith, used_one run, short.0)))
  | inr here ↦
      laid_here_all run runs line here (lay runs (line ++ run ∷ []) short.1 (omega (arith, used_push line run)))
]

-- runs laid into lines
pub record InLines (runs : List (ℕ × ℕ)) : Type 0 where
  pub lines : List (List (ℕ × ℕ))
  pub spells : laid 0 (map item_text runs) ≡ flat_map ended lines
  pub all : flat_map (λ line. line) lines ≡ runs
  pub full : AreFull lines

pub in_lines : (runs : List (ℕ × ℕ)) → AllByRecursion Fits runs → InLines runs
in_lines runs short =
    let laid = lay runs [] short (omega arith) in
    record { lines = laid.rest ∷ laid.lines; spells = laid.spells; all = laid.all; full = laid.full }

-- a count of at most twenty digits fits
pub fits_by : (n tag : ℕ) (t : Bool) → n < 2 ^ 64 → length (cond t [] (decimal n) ++ tag ∷ []) ≤ 70
fits_by n tag true small = omega arith
fits_by n tag false small =
    omega (arith, length-append (decimal n) (tag ∷ []), length-decimal-le 20 n (omega arith) (omega arith) small)
