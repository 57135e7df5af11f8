-- A code spells a set that has it, so a refused text is the code of no set.
use Rattle.std.proofs.Common.{◌≡◌, ◌≢◌, ℕ, zero, suc, ◌≤◌, Bool, true, false, cond, Option, Some, None, List, [], ◌∷◌}
use Rattle.std.proofs.Common.{◌++◌, refl, sym, ap, ◌∙◌, arith, true≢false, ◌⊎◌, inl, inr, ⊎_elim}
use Rattle.std.specs.Prelude.{nat_eq, MatchOption, codes}
use Rattle.std.specs.Bool.{Decides}
use Rattle.std.specs.List.{flat_map}
use Rattle.std.specs.Ordering.{is_gt}
use Rattle.std.specs.Fmt.{decimal}
use Rattle.std.specs.FinSet as set
use Rattle.std.proofs.lemmas.Bool.{eqb-true, false≢true, and_parts}
use Rattle.life_core.specs.declared.cell.Cell.{Cell}
use Rattle.life_core.specs.Cell.{cell_cmp, around}
use Rattle.life_core.specs.Generations.{reach, lives_next, next, generation_of}
use Rattle.life_core.specs.Orientation.{turned_cell}
use Rattle.life_core.specs.Pattern.{Cells, image}
use Rattle.life_core.specs.Rule.{RuleSets}
use Rattle.life_core.specs.declared.orientation.Orientation.TheVariants.{O0}
use Rattle.life_core.proofs.Placements.{len-placed}
use Rattle.life_core.proofs.PatternCorners.{normal-normal}
use Rattle.life_core.proofs.PatternMembers.{contains-keep, contains-list, list_any-flat_map, passing_cell, same_cell}
use Rattle.life_core.proofs.PatternMembers.{has_cell, contains-items, cells_by_members, same_answer}
use Rattle.life_code.specs.declared.kinds.Kind.TheVariants.{Unresolved}
use Rattle.life_code.specs.declared.code_fault.CodeFault.{CodeFault}
use Rattle.life_code.specs.declared.code_fault.CodeFault.TheVariants.{BadText, NotCanonical, NotWithinLimit, Memory}
use Rattle.life_code.specs.Period.{HasPeriod, returns, period_of, kind_at, kind_of}
use Rattle.life_code.specs.Codes.{text_cmp, shape, candidates, least_text, with_prefix, code_by_kind, code_of}
use Rattle.life_code.specs.Open.{IsPrefix, IsWechsler, Spells, Refuses}
use Rattle.life_code.specs.CodeLaws.{CodeSpells, SpellsOne}
use Rattle.life_code.proofs.PeriodLemmas.{back_to_start}
use Rattle.life_code.proofs.PeriodKinds.{find_from, move_at, some_len}
use Rattle.life_code.proofs.TextLists.{In, least_is}
use Rattle.life_code.proofs.CandidateLemmas.{in_candidates}
use Rattle.life_code.proofs.WechslerTexts.{texts_tell_apart}
use Rattle.life_code.proofs.WechslerGrid.{len_small}
use Rattle.life_code.proofs.CodeMarks.{is_number-decimal, front_unmarked, behind_mark}
use Rattle.life_code.proofs.CodesShapes.{shape_is}
use Rattle.life_code.proofs.CodesLaws.{Found, coded, stays_by, code_of_move, code_by_period, code_cells, code_taken}
use Rattle.life_code.proofs.CodesLaws.{found_period, none_some}

-- the prefix and the number of a code
CodedBy : ℕ → ℕ → List ℕ → List (List ℕ) → Type 0
CodedBy p n t ts =
    (prefix : List ℕ) × (IsPrefix prefix) × (number : ℕ) × (((p ≡ 1) × (number ≡ n)) ⊎ (number ≡ p))
    × (best : List ℕ) × (t ≡ prefix ++ decimal number ++ 95 ∷ best) × (In best ts)

with_prefix_by : (prefix : List ℕ) (n : ℕ) (ts : List (List ℕ)) (t : List ℕ) → with_prefix prefix n (least_text ts)
    ≡ Some t → (best : List ℕ) × (t ≡ prefix ++ decimal n ++ 95 ∷ best) × (In best ts)
with_prefix_by prefix n ts t e = by (least_text ts) (least_is ts) e
  where
    by : (o : Option (List ℕ)) → MatchOption o (ts ≡ [])
        (λ u. In u ts × ((v : List ℕ) → In v ts → is_gt (text_cmp u v) ≡ false)) → with_prefix prefix n o ≡ Some t
        → (best : List ℕ) × (t ≡ prefix ++ decimal n ++ 95 ∷ best) × (In best ts)
    by None none e = absurd (none_some t e)
    by (Some best) has e = (best, (let q : prefix ++ decimal n ++ 95 ∷ best ≡ t = cc in sym q), has.0)

coded_by : (stays : Bool) (p n : ℕ) (ts : List (List ℕ)) (t : List ℕ) → coded stays p n (least_text ts) ≡ Some t
    → CodedBy p n t ts
unfolding CodedBy
coded_by false p n ts t e =
    let b = with_prefix_by (codes "xq") p ts t e in (codes "xq", inr (inr refl), p, inr refl, b.0, b.1, b.2)
coded_by true p n ts t e =
    elim (nat_eq p 1) as (λ b. nat_eq p 1 ≡ b → cond b (with_prefix (codes "xs") n (least_text ts))
    (with_prefix (codes "xp") p (least_text ts)) ≡ Some t → CodedBy p n t ts) [
      | true ↦
          λ one e. let b = with_prefix_by (codes "xs") n ts t e in
          (codes "xs", inl refl, n, inl (eqb-true p 1 one, refl), b.0, b.1, b.2)
      | false ↦
          λ one e. let b = with_prefix_by (codes "xp") p ts t e in
          (codes "xp", inr (inl refl), p, inr refl, b.0, b.1, b.2)
    ] refl e

-- nothing comes of nothing
next_empty : (r : RuleSets) → next r set.empty ≡ set.empty
unfolding next
next_empty r =
    cells_by_members _ _ (λ c. same_answer _ _ (λ h. absurd (false≢true
    (sym (gone c) ∙ (and_parts _ _ (sym (contains-keep (reach set.empty) (lives_next r set.empty) c) ∙ h)).0)))
    (λ h. absurd (false≢true (sym (set.contains-empty cell_cmp c) ∙ h))))
  where
    gone : (c : Cell) → set.contains (reach set.empty) c ≡ false
    gone c = same_answer _ _
        (λ h. let x = passing_cell (λ x. has_cell (x ∷ around x) c) (set.items (set.empty {R = cell_cmp}))
        (sym (list_any-flat_map (same_cell c) (λ x. x ∷ around x) (set.items (set.empty {R = cell_cmp})))
        ∙ sym (contains-list (flat_map (λ x. x ∷ around x) (set.items (set.empty {R = cell_cmp}))) c) ∙ h) in
        sym (set.contains-empty cell_cmp x.cell) ∙ contains-items set.empty x.cell ∙ x.member)
        (λ h. absurd (false≢true h))

generation_empty : (r : RuleSets) (k : ℕ) → generation_of r set.empty k ≡ set.empty
generation_empty r zero = refl
generation_empty r (suc k) = ap (next r) (generation_empty r k) ∙ next_empty r

module _ (r : RuleSets) where
  -- each phase of a set that returns and has a cell has one
  phase_cells : (X : Cells) (p : ℕ) (v : Cell) → HasPeriod r X p v.column v.row → X ≢ set.empty
      → (i : ℕ) → generation_of r X i ≢ set.empty
  phase_cells X p v is some i none =
      let start = back_to_start r X p v is.0 is.1 i in
      let dead : generation_of r (generation_of r X i) start.0 ≡ set.empty = ap (λ Z. generation_of r Z start.0) none
      ∙ generation_empty r start.0 in
      some_len X some (sym (len-placed O0 start.1 X) ∙ ap set.len (sym start.2 ∙ dead) ∙ set.len-empty cell_cmp)

  -- the text of a code spells a set, which has that code
  pub code_spells : (X : Cells) (limit : ℕ) (t : List ℕ) → limit ≤ 999999 → code_of r X limit ≡ Some t
      → (Y : Cells) × (Spells t Y) × (code_of r Y limit ≡ Some t)
  unfolding CodedBy
  code_spells X limit t small e =
      by (period_of r X limit) (find_from (returns r X) 1 limit) (sym (code_by_period r X limit some) ∙ e)
    where
      some : X ≢ set.empty
      some = code_cells r X limit t e

      by : (o : Option ℕ) → Found r X limit o → code_by_kind r X (kind_at r X o) ≡ Some t
          → (Y : Cells) × (Spells t Y) × (code_of r Y limit ≡ Some t)
      by None none e = absurd (none_some t e)
      by (Some p) (from, below, passes, before) is =
          let v = move_at r X p in
          let period_is : HasPeriod r X p v.column v.row = found_period r X p from passes before in
          let parts = coded_by (stays_by v) p (set.len X) (candidates r X p) t (sym (code_of_move r X p v) ∙ is) in
          let c = in_candidates r X p parts.4 parts.6 in
          let phase = generation_of r X c.0 in
          let Y = shape c.2 phase in
          let placing = shape_is c.2 phase in
          let same_len : set.len Y ≡ set.len phase = ap set.len (sym placing.1) ∙ len-placed c.2 placing.0 phase in
          let cells : Y ≢ set.empty = λ z. some_len phase (phase_cells X p v period_is some c.0)
          (sym same_len ∙ ap set.len z ∙ set.len-empty cell_cmp) in
          let at_most : set.len Y ≤ 1600 = len_small (image (turned_cell c.2) phase) c.3 in
          let bounds : (1 ≤ parts.2) × (parts.2 ≤ 999999) =
          ⊎_elim
          (λ h.
          let zero_phase : c.0 ≡ 0 = let b = c.1 in let one = h.0 in omega arith in
          let one_len : set.len Y ≡ set.len X = same_len ∙ ap (λ k. set.len (generation_of r X k)) zero_phase in
          let n = h.1 in (let s : set.len X ≡ 0 → ⊥ = some_len X some in omega arith, omega arith))
          (λ h. (omega arith, omega arith))
          parts.3 in (
            Y,
            record {
              front = parts.0 ++ decimal parts.2;
              is_front = record {
                prefix = parts.0;
                is_prefix = parts.1;
                number = decimal parts.2;
                is_number = is_number-decimal parts.2 bounds.0 bounds.1;
                parts = refl;
              };
              back = parts.4;
              is_wechsler = record {
                text_is = sym c.4;
                at_origin = normal-normal (image (turned_cell c.2) phase);
                cells = cells;
                small = c.3;
              };
              parts = parts.5;
            },
            code_taken r Y X cells some p v from period_is.1 (c.0, c.2, placing.0, placing.1) limit ∙ e,
          )

pub codes_spell : CodeSpells
codes_spell r X limit t small e = code_spells r X limit t small e

-- a Wechsler text is that of one set
one_wechsler : (s t : List ℕ) (X Y : Cells) → s ≡ t → IsWechsler s X → IsWechsler t Y → X ≡ Y
one_wechsler s t X Y same x y =
    texts_tell_apart X Y x.at_origin y.at_origin x.small y.small (sym x.text_is ∙ same ∙ y.text_is)

-- a text spells one set at most
pub spells_one : SpellsOne
spells_one text X Y s u =
    one_wechsler s.back u.back X Y (behind_mark s.front u.front s.back u.back (front_unmarked s.front s.is_front)
    (front_unmarked u.front u.is_front) (sym s.parts ∙ u.parts)) s.is_wechsler u.is_wechsler

-- a text that is refused is no set's code
pub refused_is_no_code : (r : RuleSets) (text : List ℕ) (limit : ℕ) → limit ≤ 999999 → (fault : CodeFault)
    → Refuses r text limit fault → fault ≢ Memory → (X : Cells) → code_of r X limit ≢ Some text
unfolding code_of
refused_is_no_code r text limit small BadText refuses judged X e =
    let s = code_spells r X limit text small e in refuses s.0 s.1
refused_is_no_code r text limit small NotWithinLimit (Y, is, unresolved) judged X e =
    let s = code_spells r X limit text small e in
    none_some text (sym (ap (code_by_kind r Y) unresolved)
    ∙ ap (λ Z. code_of r Z limit) (spells_one text Y s.0 is s.1) ∙ s.2)
refused_is_no_code r text limit small NotCanonical (Y, is, resolved, other) judged X e =
    let s = code_spells r X limit text small e in
    other (ap (λ Z. code_of r Z limit) (spells_one text Y s.0 is s.1) ∙ s.2)
refused_is_no_code r text limit small Memory refuses judged X e = judged refl

-- ---- refusals of a text that spells a set

pub refused_without_code : (r : RuleSets) (text : List ℕ) (limit : ℕ) (X : Cells) → Spells text X
    → kind_of r X limit ≢ Unresolved → code_of r X limit ≡ None → Refuses r text limit NotCanonical
refused_without_code r text limit X s resolved none = (X, s, resolved, λ e. none_some text (sym none ∙ e))

pub refused_with_other : (r : RuleSets) (text other : List ℕ) (limit : ℕ) (X : Cells) (b : Bool)
    → Spells text X → kind_of r X limit ≢ Unresolved → code_of r X limit ≡ Some other → Decides b (other ≡ text)
    → b ≡ false → Refuses r text limit NotCanonical
refused_with_other r text other limit X b s resolved is tells differs =
    (X, s, resolved, λ e. true≢false (sym (tells.1 (let same : Some other ≡ Some text = sym is ∙ e in cc)) ∙ differs))
