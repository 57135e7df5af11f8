-- Codes of periodic patterns (LifeWiki, "Apgcode"). This project chooses the code's text among all phases and
-- orientations: the shortest and, among texts of this length, the least by bytes.
use Rattle.std.specs.Prelude.{◌≡◌, ◌≢◌, ℕ, ◌<◌, Bool, ◌&&◌, nat_le, if◌then◌else◌, Option, Some, None, ℤ, List, [], ◌∷◌}
use Rattle.std.specs.Prelude.{◌++◌, length, codes}
use Rattle.std.specs.List.{range_with_len, flat_map}
use Rattle.std.specs.Fmt.{decimal}
use Rattle.std.specs.declared.cmp.Ordering.{Ordering}
use Rattle.std.specs.Ordering.{ordering_then, nat_cmp, is_gt}
use Rattle.std.specs.Cmp.Lexicographic.{slice_cmp}
use Rattle.std.specs.Option.{option_map}
use Rattle.std.specs.FinSet as set
use Rattle.life_core.specs.Ascii.{underscore}
use Rattle.life_core.specs.declared.orientation.Orientation.{Orientation}
use Rattle.life_core.specs.declared.orientation.Orientation.TheVariants.{O0, O1, O2, O3, O4, O5, O6, O7}
use Rattle.life_core.specs.Cell.{moved_cell}
use Rattle.life_core.specs.Orientation.{turned_cell}
use Rattle.life_core.specs.Pattern.{Cells, image, normal}
use Rattle.life_core.specs.Rule.{RuleSets}
use Rattle.life_core.specs.Generations.{generation_of}
use Rattle.life_code.specs.declared.kinds.Kind.{Kind}
use Rattle.life_code.specs.declared.kinds.Kind.TheVariants.{Empty, Still, Oscillator, Ship, Unresolved}
use Rattle.life_code.specs.Period.{HasPeriod, kind_of}
use Rattle.life_code.specs.Wechsler.{width, height, wechsler}

-- ---- candidates

-- the eight rotations and reflections
abbrev pub orientations : List Orientation
orientations = O0 ∷ O1 ∷ O2 ∷ O3 ∷ O4 ∷ O5 ∷ O6 ∷ O7 ∷ []

-- a normal set's box is at most 40 by 40
abbrev pub fits : Cells → Bool
fits X = nat_le (width X) 40 && nat_le (height X) 40

-- X in an orientation, in normal form
abbrev pub shape : Orientation → Cells → Cells
shape o X = normal (image (turned_cell o) X)

-- the text of a normal set, if its box is small enough
unfoldable pub text_of : Cells → List (List ℕ)
text_of X = if fits X then wechsler X ∷ [] else []

-- the texts of a set in all orientations
abbrev pub texts_of : Cells → List (List ℕ)
texts_of X = flat_map (λ o. text_of (shape o X)) orientations

-- the candidates: the texts of generations 0 to p - 1
unfoldable pub candidates : RuleSets → Cells → ℕ → List (List ℕ)
candidates r X p = flat_map (λ i. texts_of (generation_of r X i)) (range_with_len 0 p)

-- ---- the least candidate

-- the order of texts, by length and then by bytes: `7` comes before `33`, which comes before `66`
abbrev pub text_cmp : List ℕ → List ℕ → Ordering
text_cmp a b = ordering_then (nat_cmp (length a) (length b)) (slice_cmp nat_cmp a b)

-- the lesser of two texts, the second of which may be missing
abbrev pub lesser : List ℕ → Option (List ℕ) → List ℕ
lesser a None = a
lesser a (Some b) = if is_gt (text_cmp a b) then b else a

-- the least text of a list, if it is not empty
unfoldable pub least_text : List (List ℕ) → Option (List ℕ)
least_text [] = None
least_text (text ∷ texts) = Some (lesser text (least_text texts))

-- ---- the code

-- writes a code, if there is a text: `xs`, 4 and `33` give `xs4_33`
abbrev pub with_prefix : List ℕ → ℕ → Option (List ℕ) → Option (List ℕ)
with_prefix prefix n text = option_map (λ t. prefix ++ decimal n ++ underscore ∷ t) text

-- the code for a kind: `xs` and the population, or `xp` or `xq` and the period, with the least candidate
abbrev pub code_by_kind : RuleSets → Cells → Kind → Option (List ℕ)
code_by_kind r X Empty = None
code_by_kind r X Still = with_prefix (codes "xs") (set.len X) (least_text (candidates r X 1))
code_by_kind r X (Oscillator p) = with_prefix (codes "xp") p (least_text (candidates r X p))
code_by_kind r X (Ship p dx dy) = with_prefix (codes "xq") p (least_text (candidates r X p))
code_by_kind r X Unresolved = None

-- the code of X under a limit on the period, if it has one
unfoldable pub code_of : RuleSets → Cells → ℕ → Option (List ℕ)
code_of r X limit = code_by_kind r X (kind_of r X limit)

-- ---- when two patterns are one object

-- X has a cell and a period
pub record IsPeriodic (r : RuleSets) (X : Cells) : Type 0 where
  pub cells : X ≢ set.empty
  pub period : ℕ
  pub dx : ℤ
  pub dy : ℤ
  pub has_period : HasPeriod r X period dx dy

-- both are periodic, and an orientation and a move take a phase of Y to X
pub record Same (r : RuleSets) (X Y : Cells) : Type 0 where
  pub first : IsPeriodic r X
  pub second : IsPeriodic r Y
  pub phase : ℕ
  pub below : phase < second.period
  pub orientation : Orientation
  pub dx : ℤ
  pub dy : ℤ
  pub taken : image (moved_cell dx dy) (image (turned_cell orientation) (generation_of r Y phase)) ≡ X
