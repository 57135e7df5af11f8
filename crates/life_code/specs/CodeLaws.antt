-- Laws that show that the definitions of kinds and codes mean what they should.
use Rattle.std.specs.Prelude.{◌≡◌, ◌≢◌, ◌↔◌, ℕ, ◌+◌, ◌<◌, ◌≤◌, ◌%◌, ◌==◌, if◌then◌else◌, MatchOption, ℤ, pos, ◌*ℤ◌}
use Rattle.std.specs.Prelude.{Bool, true, false, None, Some, List, [], ◌∷◌, ◌++◌, map, replicate}
use Rattle.std.specs.List.{range_with_len, last_or, Contains}
use Rattle.std.specs.Ordering.{is_gt}
use Rattle.std.specs.FinSet as set
use Rattle.life_core.specs.Ascii.{digit_0, letter_x, letter_y}
use Rattle.life_core.specs.declared.orientation.Orientation.{Orientation}
use Rattle.life_core.specs.Cell.{moved_cell}
use Rattle.life_core.specs.Pattern.{Cells, image, IsBox, normal}
use Rattle.life_core.specs.Rule.{RuleSets}
use Rattle.life_core.specs.Generations.{generation_of}
use Rattle.life_code.specs.declared.kinds.Kind.{Kind}
use Rattle.life_code.specs.Apart.{AreAllApart, union_of}
use Rattle.life_code.specs.Growing.{HasPair, LiesInRows}
use Rattle.life_code.specs.Period.{Returns, HasPeriod, HasKind, kind_of}
use Rattle.life_code.specs.Wechsler.{value_of, width, height, column_value, strip, wechsler}
use Rattle.life_code.specs.Codes.{fits, shape, candidates, text_cmp, least_text, code_of, IsPeriodic, Same}
use Rattle.life_code.specs.Open.{Spells}

-- A set has exactly one kind, and `kind_of` computes it.
abbrev pub OneKind : Type 0
OneKind = (r : RuleSets) (X : Cells) (limit : ℕ) (k : Kind) → HasKind r X limit k ↔ (kind_of r X limit ≡ k)

-- The phases of a periodic set form one cycle: generation i is generation i % p, moved ..
abbrev pub PhasesRepeat : Type 0
PhasesRepeat =
    (r : RuleSets) (X : Cells) (p : ℕ) (dx dy : ℤ) → HasPeriod r X p dx dy → (i : ℕ)
    → (ex : ℤ) × (ey : ℤ) × (generation_of r X i ≡ image (moved_cell ex ey) (generation_of r X (i % p)))

-- .. and none of the first p is a translated copy of another.
abbrev pub PhasesDiffer : Type 0
PhasesDiffer =
    (r : RuleSets) (X : Cells) (p : ℕ) (dx dy : ℤ) → HasPeriod r X p dx dy → (i j : ℕ) → i < j
    → j < p → (ex ey : ℤ) → ¬ (generation_of r X j ≡ image (moved_cell ex ey) (generation_of r X i))

-- Under a rule with a birth at one neighbour, and none without neighbours, only the empty set ever returns.
abbrev pub BirthAtOneNeverReturns : Type 0
BirthAtOneNeverReturns =
    (r : RuleSets) (X : Cells) (p : ℕ) (dx dy : ℤ) → set.contains r.birth 0 ≡ false → set.contains r.birth 1 ≡ true
    → X ≢ set.empty → 1 ≤ p → ¬ Returns r X p dx dy

-- Take a rule with a birth at two neighbours and none at fewer. A set with lasting pairs in its first and its last row
-- grows on both sides in each generation, so it never returns.
abbrev pub PairsNeverReturn : Type 0
PairsNeverReturn =
    (r : RuleSets) (X : Cells) (x z top bottom : ℤ) (p : ℕ) (dx dy : ℤ) → set.contains r.birth 0 ≡ false
    → set.contains r.birth 1 ≡ false → set.contains r.birth 2 ≡ true →
    LiesInRows X top bottom → HasPair r X x top → HasPair r X z bottom → 1 ≤ p → ¬ Returns r X p dx dy

-- If no two sets are ever near each other at the same time, each evolves as if the others didn't exist ..
abbrev pub ApartEvolveIndependently : Type 0
ApartEvolveIndependently =
    (r : RuleSets) (Ps : List Cells) → set.contains r.birth 0 ≡ false
    → ((k : ℕ) → AreAllApart (map (λ P. generation_of r P k) Ps)) →
    (k : ℕ) → generation_of r (union_of Ps) k ≡ union_of (map (λ P. generation_of r P k) Ps)

-- .. and if two of them return after p and q generations, but move differently over p * q generations, then the union
-- never returns.
abbrev pub PartingNeverReturns : Type 0
PartingNeverReturns =
    (r : RuleSets) (Ps : List Cells) → set.contains r.birth 0 ≡ false
    → ((k : ℕ) → AreAllApart (map (λ P. generation_of r P k) Ps)) →
    (P Q : Cells) (p q : ℕ) (dx dy ex ey : ℤ) → Contains Ps P → Contains Ps Q → P ≢ set.empty
    → Q ≢ set.empty → 1 ≤ p → 1 ≤ q →
    Returns r P p dx dy → Returns r Q q ex ey → ¬ ((pos q *ℤ dx ≡ pos p *ℤ ex) × (pos q *ℤ dy ≡ pos p *ℤ ey)) →
    (n : ℕ) → 1 ≤ n → (fx fy : ℤ) → ¬ Returns r (union_of Ps) n fx fy

-- The width and the height of a normal set are the columns and rows of its box.
abbrev pub BoxesHaveOneSize : Type 0
BoxesHaveOneSize =
    (X : Cells) (left top : ℤ) (columns rows : ℕ) → normal X ≡ X → IsBox X left top columns rows
    → (width X ≡ columns) × (height X ≡ rows)

-- Decodes a strip into the values of its columns: `1x2` gives 1, 0, 0, 0, 2. After `y`, which sets the flag, a
-- character gives four more empty columns than its value.
unfoldable pub columns_of : Bool → List ℕ → List ℕ
columns_of after_y [] = []
columns_of true (c ∷ text) = replicate (4 + value_of c) 0 ++ columns_of false text
columns_of false (c ∷ text) =
    if c == digit_0 then replicate 1 0 ++ columns_of false text
    else if c == 119 then replicate 2 0 ++ columns_of false text
    else if c == letter_x then replicate 3 0 ++ columns_of false text
    else if c == letter_y then columns_of true text
    else value_of c ∷ columns_of false text

-- Decoding the text of a strip gives its columns up to the last that is not empty.
abbrev pub StripsAreTheirColumns : Type 0
StripsAreTheirColumns =
    (X : Cells) (s : ℕ) → width X ≤ 40 →
    (n : ℕ)
    × (columns_of false (strip X s) ++ replicate n 0 ≡ map (column_value X s) (range_with_len 0 (width X)))
    × (last_or None (columns_of false (strip X s)) ≢ Some 0)

-- Two different normal sets of at most 40 by 40 have different texts.
abbrev pub TextsTellApart : Type 0
TextsTellApart =
    (X Y : Cells) → normal X ≡ X → normal Y ≡ Y → fits X ≡ true → fits Y ≡ true → wechsler X ≡ wechsler Y → X ≡ Y

-- the text belongs to some phase in some orientation
abbrev pub IsCandidate : RuleSets → Cells → ℕ → List ℕ → Type 0
IsCandidate r X p text =
    (i : ℕ) × (i < p) × (o : Orientation) × (fits (shape o (generation_of r X i)) ≡ true)
    × (wechsler (shape o (generation_of r X i)) ≡ text)

-- No candidate is less than the least candidate, which is missing only if there are no candidates.
abbrev pub LeastIsLeast : Type 0
LeastIsLeast =
    (r : RuleSets) (X : Cells) (p : ℕ)
    → MatchOption (least_text (candidates r X p)) ((text : List ℕ) → ¬ IsCandidate r X p text) (λ text.
    IsCandidate r X p text × ((other : List ℕ) → IsCandidate r X p other → is_gt (text_cmp text other) ≡ false))

-- Being one object is an equivalence relation on periodic sets.
abbrev pub SameIsEquivalence : Type 0
SameIsEquivalence =
    (r : RuleSets) → ((X : Cells) → IsPeriodic r X → Same r X X) × ((X Y : Cells) → Same r X Y → Same r Y X)
    × ((X Y Z : Cells) → Same r X Y → Same r Y Z → Same r X Z)

-- Sets that are one object have the same code, or both lack one.
abbrev pub CodeIsInvariant : Type 0
CodeIsInvariant = (r : RuleSets) (X Y : Cells) (limit : ℕ) → Same r X Y → code_of r X limit ≡ code_of r Y limit

-- Two codes are equal if and only if the sets are one object, whatever the limits.
abbrev pub CodeIsComplete : Type 0
CodeIsComplete =
    (r : RuleSets) (X Y : Cells) (limit other : ℕ) (s t : List ℕ) → code_of r X limit ≡ Some s
    → code_of r Y other ≡ Some t → (s ≡ t) ↔ Same r X Y

-- A code spells a set that has this code. The law needs a limit below 1,000,000, since a number in a code has at most
-- six digits (Open.antt).
abbrev pub CodeSpells : Type 0
CodeSpells =
    (r : RuleSets) (X : Cells) (limit : ℕ) (text : List ℕ) → limit ≤ 999999 → code_of r X limit ≡ Some text
    → (Y : Cells) × Spells text Y × (code_of r Y limit ≡ Some text)

-- A text spells at most one set.
abbrev pub SpellsOne : Type 0
SpellsOne = (text : List ℕ) (X Y : Cells) → Spells text X → Spells text Y → X ≡ Y

-- A code under one limit on the period stays the code under every larger limit.
abbrev pub CodeStays : Type 0
CodeStays =
    (r : RuleSets) (X : Cells) (limit other : ℕ) (text : List ℕ) → limit ≤ other → code_of r X limit ≡ Some text
    → code_of r X other ≡ Some text
