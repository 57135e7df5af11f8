-- The question that a cache of codes answers.
use Rattle.std.specs.Prelude.{ℕ, refl}
use Rattle.std.specs.Coded.{Coded, code_by, coded×, coded_ℕ}
use Rattle.life_core.specs.Rule.{RuleSets, coded_rule}

-- a rule and a limit on the period
pub record CodeQuestion : Type 0 where
  pub rule : RuleSets
  pub limit : ℕ

-- encodes the record as a pair
abbrev pub coded_question : Coded CodeQuestion
coded_question =
    code_by (RuleSets × ℕ) (coded× coded_rule coded_ℕ) (λ a. (a.rule, a.limit))
    (λ p. record { rule = p.0; limit = p.1 }) (λ _. refl)
