-- Patterns with their codes, as `Coded` keeps them.
use Rattle.std.specs.Prelude.{◌≡◌, ℕ, Option, Some, None, List, refl}
use Rattle.std.specs.Coded.{Coded, code_by, coded×, coded_ℕ, coded_list}
use Rattle.life_core.specs.Rule.{RuleSets, coded_rule}
use Rattle.life_core.specs.Pattern.{Cells, coded_cells}
use Rattle.life_code.specs.Codes.{code_of}

-- a rule, a set of cells, a limit on the period and a text
pub record CodedCells : Type 0 where
  pub rule : RuleSets
  pub cells : Cells
  pub limit : ℕ
  pub text : List ℕ

-- encodes the record as nested pairs
abbrev pub coded_object : Coded CodedCells
coded_object =
    code_by (RuleSets × (Cells × (ℕ × List ℕ)))
    (coded× coded_rule (coded× coded_cells (coded× coded_ℕ (coded_list coded_ℕ))))
    (λ o. (o.rule, (o.cells, (o.limit, o.text))))
    (λ p. record { rule = p.0; cells = p.1.0; limit = p.1.1.0; text = p.1.1.1 })
    (λ _. refl)

-- the text is the code of the cells under the rule and the limit
abbrev pub IsCoded : CodedCells → Type 0
IsCoded o = code_of o.rule o.cells o.limit ≡ Some o.text

-- the code of X together with the rule, cells and limit that it was computed from; `None` if X has no code
abbrev pub IsCodeOf : RuleSets → Cells → ℕ → Option CodedCells → Type 0
IsCodeOf r X limit None = code_of r X limit ≡ None
IsCodeOf r X limit (Some o) = (code_of r X limit ≡ Some o.text) × (o.rule ≡ r) × (o.cells ≡ X) × (o.limit ≡ limit)
