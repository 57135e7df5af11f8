-- A set has the code of its normal set.
use Rattle.std.proofs.Common.{◌≡◌, ◌≢◌, ℕ, false, Option, Some, None, refl, sym, ap, ◌∙◌, ⊎_elim}
use Rattle.std.specs.List.{range_with_len, find}
use Rattle.std.specs.FinSet as set
use Rattle.std.proofs.lemmas.Bool.{false≢true}
use Rattle.life_core.specs.declared.cell.Cell.{Cell}
use Rattle.life_core.specs.declared.orientation.Orientation.TheVariants.{O0}
use Rattle.life_core.specs.Cell.{cell_cmp}
use Rattle.life_core.specs.Generations.{generation_of}
use Rattle.life_core.specs.Pattern.{Cells, normal}
use Rattle.life_core.specs.Rule.{RuleSets}
use Rattle.life_core.proofs.PatternCorners.{Has, cases_cells, normal-moved}
use Rattle.life_core.proofs.PatternMembers.{cells_by_members}
use Rattle.life_core.proofs.Placements.{moved, contains-placed, len-placed}
use Rattle.life_code.specs.Period.{same_cells, returns, period_of, kind_at}
use Rattle.life_code.specs.Codes.{code_by_kind, code_of}
use Rattle.life_code.proofs.PeriodLemmas.{generation-moved}
use Rattle.life_code.proofs.PeriodKinds.{find_from, move_at, move_at-Returns, some_len}
use Rattle.life_code.proofs.CodesLaws.{Found, code_by_period, code_taken}

-- a moved set is back where the set is
returns-moved : (r : RuleSets) (X : Cells) (v : Cell) (p : ℕ) → returns r (moved v X) p ≡ returns r X p
unfolding returns
returns-moved r X v p = λ i. same_cells (normal-moved X v i) (later i)
  where
    later : normal (generation_of r (moved v X) p) ≡ normal (generation_of r X p)
    later = ap normal (generation-moved r v X p) ∙ normal-moved (generation_of r X p) v

module _ (r : RuleSets) (X : Cells) (v : Cell) (limit : ℕ) (full : X ≢ set.empty) where
  full_moved : moved v X ≢ set.empty
  full_moved e = some_len X full (sym (len-placed O0 v X) ∙ ap set.len e ∙ set.len-empty cell_cmp)

  same_period : period_of r (moved v X) limit ≡ period_of r X limit
  same_period = λ i. find (λ q. returns-moved r X v q i) (range_with_len 1 limit)

  by_period : (o : Option ℕ) → period_of r X limit ≡ o → Found r X limit o
      → code_of r (moved v X) limit ≡ code_of r X limit
  by_period None is found =
      code_by_period r (moved v X) limit full_moved
      ∙ ap (λ o. code_by_kind r (moved v X) (kind_at r (moved v X) o)) (same_period ∙ is)
      ∙ sym (ap (λ o. code_by_kind r X (kind_at r X o)) is)
      ∙ sym (code_by_period r X limit full)
  by_period (Some p) is (from, below, passes, before) =
      code_taken r (moved v X) X full_moved full p (move_at r X p) from (move_at-Returns r X p passes)
      (0, O0, v, refl) limit

-- a move changes no code
pub code_moved : (r : RuleSets) (X : Cells) (v : Cell) (limit : ℕ) → code_of r (moved v X) limit ≡ code_of r X limit
code_moved r X v limit = ⊎_elim some none (cases_cells X)
  where
    none : ((c : Cell) → set.contains X c ≡ false) → code_of r (moved v X) limit ≡ code_of r X limit
    none h =
        ap (λ Z. code_of r Z limit) (cells_by_members (moved v X) X (λ c. contains-placed O0 v X c ∙ h _ ∙ sym (h c)))

    some : ((c : Cell) × Has X c) → code_of r (moved v X) limit ≡ code_of r X limit
    some (d, has) =
        by_period r X v limit
        (λ e. false≢true (sym (set.contains-empty cell_cmp d) ∙ ap (λ (Z : Cells). set.contains Z d) (sym e) ∙ has))
        (period_of r X limit) refl (find_from (returns r X) 1 limit)
