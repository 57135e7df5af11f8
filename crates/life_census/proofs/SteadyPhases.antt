-- Clusters that stay in place: the meaning of their kinds, and that their phases repeat.
use Rattle.std.specs.Prelude.{◌≡◌, ◌≢◌, ℕ, ◌+◌, ◌*◌, ◌%◌, ◌/◌, ◌≤◌, zero, suc, true, false}
use Rattle.std.proofs.Common.{refl, sym, ap, subst, ◌∙◌, inl, inr, arith}
use Rattle.std.proofs.lemmas.Bool.{false≢true}
use Rattle.std.specs.FinSet as set
use Rattle.life_core.specs.declared.cell.Cell.{Cell}
use Rattle.life_core.specs.Cell.{cell_cmp}
use Rattle.life_core.specs.declared.orientation.Orientation.TheVariants.{O0}
use Rattle.life_core.proofs.Placements.{origin, minus, moved, moved-moved, plus_back, plus_comm, len-placed}
use Rattle.life_core.specs.Pattern.{Cells}
use Rattle.life_core.specs.Rule.{RuleSets}
use Rattle.life_core.specs.Generations.{generation_of}
use Rattle.life_core.proofs.PatternCorners.{moved_origin}
use Rattle.life_code.specs.declared.kinds.Kind.{Kind}
use Rattle.life_code.specs.declared.kinds.Kind.TheVariants.{Empty, Still, Oscillator, Ship, Unresolved}
use Rattle.life_code.specs.Period.{HasKind, kind_of}
use Rattle.life_code.proofs.PeriodKinds.{kind_is, kind_one, some_len}
use Rattle.life_code.proofs.PeriodLemmas.{generation-add, period_of_placed}
use Rattle.life_census.specs.Steady.{Stays, is_staying}
use Rattle.life_census.specs.SurveyState.{StaysFor}

-- ---- kinds

pub still_stays : (r : RuleSets) (limit : ℕ) (P : Cells) (k : Kind) → k ≡ Still → k ≡ kind_of r P limit
    → StaysFor r limit P 1
unfolding Stays
still_stays r limit P k is from = by (subst (HasKind r P limit) (sym from ∙ is) (kind_is r P limit))
  where
    by : HasKind r P limit Still → StaysFor r limit P 1
    by still = record { stays = inl still; from_one = omega arith; few = still.1; back = still.2.1 ∙ moved_origin P }

pub oscillator_stays : (r : RuleSets) (limit p : ℕ) (P : Cells) (k : Kind) → k ≡ Oscillator p
    → k ≡ kind_of r P limit → StaysFor r limit P p
unfolding Stays
oscillator_stays r limit p P k is from = by (subst (HasKind r P limit) (sym from ∙ is) (kind_is r P limit))
  where
    by : HasKind r P limit (Oscillator p) → StaysFor r limit P p
    by swings =
        record { stays = inr (p, swings); from_one = swings.3.0; few = swings.1; back = swings.3.1 ∙ moved_origin P }

pub others_go : (r : RuleSets) (limit : ℕ) (P : Cells) (k : Kind) → k ≡ kind_of r P limit → is_staying k ≡ false
    → Stays r limit P → ⊥
unfolding Stays
others_go r limit P k is other stays = false≢true (sym other ∙ ap is_staying is ∙ elim stays [
  | inl still ↦ ap is_staying (kind_one r P limit Still still)
  | inr swings ↦ ap is_staying (kind_one r P limit (Oscillator swings.0) swings.1)
])

pub stays_for : (r : RuleSets) (limit : ℕ) (P : Cells) (k : Kind) → k ≡ kind_of r P limit → is_staying k ≡ true
    → (p : ℕ) × StaysFor r limit P p
stays_for r limit P Empty from e = absurd (false≢true e)
stays_for r limit P Still from e = (1, still_stays r limit P Still refl from)
stays_for r limit P (Oscillator p) from e = (p, oscillator_stays r limit p P (Oscillator p) refl from)
stays_for r limit P (Ship p dx dy) from e = absurd (false≢true e)
stays_for r limit P Unresolved from e = absurd (false≢true e)

-- ---- the cycle of the phases

cycles : (r : RuleSets) (P : Cells) (p m : ℕ) → generation_of r P p ≡ P → generation_of r P (p * m) ≡ P
cycles r P p zero back = ap (generation_of r P) nothing
  where
    nothing : p * 0 ≡ 0
    nothing = omega arith
cycles r P p (suc m) back =
    ap (generation_of r P) more ∙ generation-add r P p (p * m) ∙ ap (λ (Q : Cells). generation_of r Q (p * m)) back
    ∙ cycles r P p m back
  where
    more : p * suc m ≡ p + p * m
    more = omega arith

-- each generation is one of the first p
pub phase : (r : RuleSets) (P : Cells) (p k : ℕ) → 1 ≤ p → generation_of r P p ≡ P
    → generation_of r P k ≡ generation_of r P (k % p)
phase r P p k from_one back =
    ap (generation_of r P) parted ∙ generation-add r P (p * (k / p)) (k % p)
    ∙ ap (λ (Q : Cells). generation_of r Q (k % p)) (cycles r P p (k / p) back)
  where
    parted : k ≡ p * (k / p) + k % p
    parted = omega arith

-- ---- sets that are moved

full_moved : (X : Cells) (v : Cell) → X ≢ set.empty → moved v X ≢ set.empty
full_moved X v full e = some_len X full (sym (len-placed O0 v X) ∙ ap set.len e ∙ set.len-empty cell_cmp)

-- what stays stays wherever it is
pub stays_moved : (r : RuleSets) (limit : ℕ) (X : Cells) (v : Cell) → Stays r limit X → Stays r limit (moved v X)
unfolding Stays
stays_moved r limit X v stays = elim stays [
  | inl still ↦ inl (full_moved X v still.0, still.1, period_of_placed r X 1 origin O0 v still.2)
  | inr swings ↦ inr (
    swings.0,
    (full_moved X v swings.1.0, swings.1.1, swings.1.2, period_of_placed r X swings.0 origin O0 v swings.1.3),
  )
]

pub stays_back : (r : RuleSets) (limit : ℕ) (X : Cells) (v : Cell) → Stays r limit (moved v X) → Stays r limit X
stays_back r limit X v stays =
    subst (Stays r limit) (moved-moved (minus v) v X
    ∙ ap (λ (w : Cell). moved w X) (plus_comm v (minus v) ∙ plus_back v) ∙ moved_origin X)
    (stays_moved r limit (moved v X) (minus v) stays)
