-- Records: the contents of pattern files (LifeWiki, "Run Length Encoded").
use Rattle.std.specs.Prelude.{◌≡◌, ◌≢◌, ◌≤◌, ℕ, ◌-◌, false, ◌==◌, List, [], length, Option, Some, None, refl}
use Rattle.std.specs.Coded.{Coded, code_by, coded×, coded_ℕ, coded_list, coded_option}
use Rattle.std.specs.List.{AllByRecursion}
use Rattle.life_core.specs.Ascii.{line_feed}
use Rattle.life_core.specs.Rule.{RuleSets, coded_rule}
use Rattle.life_core.specs.Pattern.{Cells, coded_cells, normal, IsWithin}
use Rattle.life_rle.specs.declared.notes.TheConstants.{LONGEST_TEXT, MOST_COMMENTS}
use Rattle.life_rle.specs.RleLines.{trim}

-- a name, an author, comments, a rule and a set of cells
pub record Contents : Type 0 where
  pub name : Option (List ℕ)
  pub author : Option (List ℕ)
  pub comments : List (List ℕ)
  pub rule : RuleSets
  pub cells : Cells

-- contents are stored as the pairs of their parts
abbrev pub coded_contents : Coded Contents
coded_contents =
    code_by (Option (List ℕ) × (Option (List ℕ) × (List (List ℕ) × (RuleSets × Cells))))
    (coded× (coded_option (coded_list coded_ℕ)) (coded× (coded_option (coded_list coded_ℕ))
    (coded× (coded_list (coded_list coded_ℕ)) (coded× coded_rule coded_cells))))
    (λ r. (r.name, (r.author, (r.comments, (r.rule, r.cells)))))
    (λ p. record { name = p.0; author = p.1.0; comments = p.1.1.0; rule = p.1.1.1.0; cells = p.1.1.1.1 })
    (λ _. refl)

-- no byte is a line feed
abbrev pub HasNoLineEnd : List ℕ → Type 0
HasNoLineEnd bytes = AllByRecursion (λ b. (b == line_feed) ≡ false) bytes

-- a text that is not too long, without a line end, and without blanks at its ends
pub record IsText (bytes : List ℕ) : Type 0 where
  pub short : length bytes ≤ LONGEST_TEXT
  pub line : HasNoLineEnd bytes
  pub trimmed : trim bytes ≡ bytes

-- a name or an author, if there is one, is a nonempty text
abbrev pub IsName : Option (List ℕ) → Type 0
IsName None = Unit {0}
IsName (Some bytes) = IsText bytes × (length bytes ≢ 0)

-- the invariant of records: valid texts, not too many comments, and normal cells
pub record IsRecord (r : Contents) : Type 0 where
  pub name : IsName r.name
  pub author : IsName r.author
  pub comments : AllByRecursion IsText r.comments
  pub few : length r.comments ≤ MOST_COMMENTS
  pub cells : normal r.cells ≡ r.cells

-- A normal set lies in a box of at most k by k: its coordinates, which are at least 0, are below k. `Pattern::within(k
-- - 1)` tests it.
abbrev pub IsInside : ℕ → Cells → Type 0
IsInside k X = IsWithin (k - 1) X

-- a record of the normal set, without texts
abbrev pub plain : RuleSets → Cells → Contents
plain rule X = record { name = None; author = None; comments = []; rule = rule; cells = normal X }
