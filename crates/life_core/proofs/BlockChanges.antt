-- The blocks that changes mark.
use Rattle.std.proofs.Common.{◌≡◌, ◌⊎◌, ℕ, ◌<◌, inl, inr, arith}
use Rattle.std.proofs.lemmas.Bool.{cases_eq}

-- either nothing changed, or a place of each set of changes tells it
pub changed_or_same : {Same Woken : Type 0} → (all top bottom i : ℕ) → all < 2 → top < 2 → bottom < 2
    → (all ≡ 0 → Same) → (i ≡ 0 → top ≡ 0 → Same) → (i ≡ 15 → bottom ≡ 0 → Same)
    → (all ≡ 1 → (i ≡ 0 → top ≡ 1) → (i ≡ 15 → bottom ≡ 1) → Woken) → Same ⊎ Woken
changed_or_same all top bottom i al tl bl none first last marked = elim (cases_eq all 0) [
  | inl blank ↦ inl (none blank)
  | inr some ↦ elim (cases_eq i 0) [
    | inl at_first ↦ elim (cases_eq top 0) [
      | inl blank ↦ inl (first at_first blank)
      | inr set ↦
          inr (marked (omega (arith, some, al)) (λ e. omega (arith, set, tl))
          (λ e. absurd (omega (arith, e, at_first))))
    ]
    | inr later ↦ elim (cases_eq i 15) [
      | inl at_last ↦ elim (cases_eq bottom 0) [
        | inl blank ↦ inl (last at_last blank)
        | inr set ↦ inr (marked (omega (arith, some, al)) (λ e. absurd (later e)) (λ e. omega (arith, set, bl)))
      ]
      | inr inner ↦ inr (marked (omega (arith, some, al)) (λ e. absurd (later e)) (λ e. absurd (inner e)))
    ]
  ]
]
