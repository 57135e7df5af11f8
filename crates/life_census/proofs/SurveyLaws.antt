-- Shapes that are known: their codes, and the phases of the clusters that have them.
use Rattle.std.proofs.Common.{◌≡◌, ℕ, ◌+◌, ◌<◌, ℤ, Bool, true, false, List, [], ◌∷◌, ◌++◌, length, Option, Some, None}
use Rattle.std.proofs.Common.{MatchOption, Vec, refl, sym, ap, subst, ◌∙◌, arith, get_or, add-one}
use Rattle.std.specs.List.{All}
use Rattle.std.proofs.lemmas.Bool.{false≢true}
use Rattle.std.proofs.lemmas.List.{length_push, get_or_push, get_or_default}
use Rattle.std.proofs.lemmas.List.Elements.{All-push, All-weaker}
use Rattle.life_core.specs.declared.cell.Cell.{Cell}
use Rattle.life_core.specs.Cell.{moved_cell}
use Rattle.life_core.specs.Pattern.{Cells, image, in_order}
use Rattle.life_core.specs.Rule.{RuleSets}
use Rattle.life_core.specs.Generations.{generation_of}
use Rattle.life_core.proofs.PatternCorners.{moved_origin}
use Rattle.life_core.proofs.Placements.{origin, moved}
use Rattle.life_code.specs.Codes.{code_of}
use Rattle.life_code.proofs.CodesNormal.{code_moved}
use Rattle.life_census.specs.declared.survey.Shape.{Shape}
use Rattle.life_census.specs.Steady.{Stays}
use Rattle.life_census.specs.SurveyState.{phases_of, ArePhases, IsShape, IsSurvey, HasShapeAt, HasCodeAt}
use Rattle.life_census.proofs.SteadyPhases.{stays_back}

-- ---- the phases of a cluster, as they are listed

pub no_phases : (r : RuleSets) (P : Cells) (cells : List Cell) → cells ≡ [] → cells ≡ phases_of r P 0
unfolding phases_of
no_phases r P cells none = none

pub more_phases : (r : RuleSets) (P X : Cells) (i : ℕ) (cells after ds : List Cell) → X ≡ generation_of r P i
    → after ≡ cells ++ ds → ds ≡ in_order X → cells ≡ phases_of r P i → after ≡ phases_of r P (i + 1)
unfolding phases_of
more_phases r P X i cells after ds here made listed before =
    made ∙ (λ k. before k ++ (listed ∙ ap in_order here) k) ∙ ap (phases_of r P) (sym (add-one i))

-- ---- the table of shapes

module _ {A : Type 0} (r : RuleSets) (limit : ℕ) where
  pub survey_more : (listed : Bool) (shapes after : List (Shape A)) (s : Shape A) → IsSurvey r limit listed shapes
      → IsShape r limit listed s → after ≡ shapes ++ s ∷ [] → IsSurvey r limit listed after
  survey_more listed shapes after s are is made = record {
    from_one = are.from_one;
    few = are.few;
    each =
        subst (λ (ss : List (Shape A)). All (IsShape r limit listed) ss) (sym made)
        (All-push (IsShape {A = A} r limit listed) shapes s are.each is);
  }

  -- a survey with phases is one without
  pub unlisted : (shapes : List (Shape A)) → IsSurvey r limit true shapes → IsSurvey r limit false shapes
  unlisted shapes are = record {
    from_one = are.from_one;
    few = are.few;
    each =
        All-weaker (IsShape {A = A} r limit true) (IsShape {A = A} r limit false)
        (λ (s : Shape A) h. record { code = h.code; phases = λ wrong. absurd (false≢true wrong) }) shapes are.each;
  }

  module _ (shapes : List (Shape A)) (X : Cells) (i : ℕ) (v : Cell) (at : HasShapeAt shapes X i v) where
    -- a cluster has the code of its shape
    pub code_at : (listed : Bool) → IsSurvey r limit listed shapes → HasCodeAt shapes (code_of r X limit) i
    code_at listed are = (
      at.0,
      λ d. (are.each i d at.0).code ∙ sym (code_moved r (get_or shapes i d).cluster v limit)
          ∙ ap (λ (Y : Cells). code_of r Y limit) (sym (at.1 d)),
    )

    module _ (s : Shape A) (item : s ≡ get_or shapes i s) (are : IsSurvey r limit true shapes) where
      pub moved_shape : X ≡ moved v s.cluster
      moved_shape = at.1 s ∙ ap (λ (t : Shape A). moved v t.cluster) (sym item)

      known : IsShape r limit true s
      known = subst (λ (t : Shape A). IsShape r limit true t) (sym item) (are.each i s at.0)

      -- if there are no phases, the cluster does not stay
      pub goes_at : s.phases ≡ None → Stays r limit X → ⊥
      goes_at none stays =
          subst (λ (o : Option (Vec Cell A)). MatchOption o (Stays r limit s.cluster → ⊥)
          (λ v. ArePhases r limit s.cluster v.items)) none (known.phases refl)
          (stays_back r limit s.cluster v (subst (Stays r limit) moved_shape stays))

      pub phases_at : (cells : Vec Cell A) → s.phases ≡ Some cells → ArePhases r limit s.cluster cells.items
      phases_at cells some =
          subst (λ (o : Option (Vec Cell A)). MatchOption o (Stays r limit s.cluster → ⊥)
          (λ v. ArePhases r limit s.cluster v.items)) some (known.phases refl)

-- the last shape is that of its first cluster
pub shape_last : {A : Type 0} (shapes after : List (Shape A)) (s : Shape A) (X : Cells) (i : ℕ)
    → after ≡ shapes ++ s ∷ [] → i ≡ length shapes → s.cluster ≡ X → HasShapeAt after X i origin
shape_last {A = A} shapes after s X i made end is =
    subst (λ (ss : List (Shape A)). HasShapeAt ss X i origin) (sym made) (
      let long = length_push shapes s in omega (arith, long, end),
      λ d. sym is ∙ sym (moved_origin s.cluster)
          ∙ ap (λ (t : Shape A). moved origin t.cluster) (sym (get_or_push shapes s d i (sym end))),
    )

-- a shape that a move takes to a cluster, by its columns and rows
pub shape_moved : {A : Type 0} (shapes : List (Shape A)) (s : Shape A) (X : Cells) (i : ℕ) (x y dx dy : ℤ)
    → i < length shapes → s ≡ get_or shapes i s → x ≡ dx → y ≡ dy → image (moved_cell dx dy) s.cluster ≡ X
    → HasShapeAt shapes X i (record { row = y; column = x })
shape_moved shapes s X i x y dx dy low item columns rows is = (
  low,
  λ d. sym is ∙ (λ k. image (moved_cell (sym columns k) (sym rows k)) (item k).cluster)
      ∙ ap (λ t. image (moved_cell x y) t.cluster) (get_or_default shapes i s d low),
)
