-- Texts that are written part by part.
use Rattle.std.proofs.Common.{◌≡◌, ℕ, List, ◌++◌, ap, ◌∙◌}
use Rattle.std.proofs.lemmas.List.{append_assoc}

module _ (o₀ o₁ o₂ o₃ a b c : List ℕ) (first : o₁ ≡ o₀ ++ a) (second : o₂ ≡ o₁ ++ b) (third : o₃ ≡ o₂ ++ c) where
  pub three_parts : o₃ ≡ o₀ ++ ((a ++ b) ++ c)
  three_parts =
      third
      ∙ ap (λ o. o ++ c) (second ∙ ap (λ o. o ++ b) first ∙ append_assoc o₀ a b)
      ∙ append_assoc o₀ (a ++ b) c

  pub five_parts : (o₄ o₅ d e : List ℕ) → o₄ ≡ o₃ ++ d → o₅ ≡ o₄ ++ e → o₅ ≡ o₀ ++ ((((a ++ b) ++ c) ++ d) ++ e)
  five_parts o₄ o₅ d e fourth fifth =
      fifth
      ∙ ap (λ o. o ++ e) (fourth ∙ ap (λ o. o ++ d) three_parts ∙ append_assoc o₀ ((a ++ b) ++ c) d)
      ∙ append_assoc o₀ (((a ++ b) ++ c) ++ d) e

  pub seven_parts : (o₄ o₅ o₆ o₇ d e f h : List ℕ) → o₄ ≡ o₃ ++ d → o₅ ≡ o₄ ++ e → o₆ ≡ o₅ ++ f
      → o₇ ≡ o₆ ++ h → o₇ ≡ o₀ ++ ((((((a ++ b) ++ c) ++ d) ++ e) ++ f) ++ h)
  seven_parts o₄ o₅ o₆ o₇ d e f h fourth fifth sixth seventh =
      seventh
      ∙ ap (λ o. o ++ h) (sixth ∙ ap (λ o. o ++ f) (five_parts o₄ o₅ d e fourth fifth)
      ∙ append_assoc o₀ ((((a ++ b) ++ c) ++ d) ++ e) f)
      ∙ append_assoc o₀ (((((a ++ b) ++ c) ++ d) ++ e) ++ f) h
