use Rattle.std.proofs.Common.{◌≡◌, ℕ, ◌+◌, ◌*◌, ◌%◌, ◌<◌, nat_eq, ap, ◌∙◌, inl, inr, arith}
use Rattle.std.proofs.lemmas.Bool.{cases_eq}
use Rattle.life_core.specs.PackedRow.{place, one_if}
use Rattle.life_core.specs.Rule.{lives_at}
use Rattle.life_core.specs.PackedRuleFormState.{toggled_bit, part_bit, form_bit}
use Rattle.life_core.proofs.LanePlaces.{place-lt}
use Rattle.life_core.proofs.RuleForms.{toggled-lt}
use Rattle.life_core.proofs.packed.rule_form.RuleFormLaneRule.next_lanes.Goals as goal

unset : (x y : ℕ) → x < 2 → toggled_bit x 0 y ≡ x
unset x y lt = omega arith

no_digits : (P : ℕ → ℕ) → ((n : ℕ) → P n < 2) → form_bit P 0 0 0 ≡ P 0
no_digits P below =
    unset (toggled_bit (toggled_bit (P 0) 0 (P 1)) 0 (toggled_bit (P 2) 0 (P 3))) _
    (toggled-lt (toggled_bit (P 0) 0 (P 1)) 0 (toggled_bit (P 2) 0 (P 3)))
    ∙ unset (toggled_bit (P 0) 0 (P 1)) (toggled_bit (P 2) 0 (P 3)) (toggled-lt (P 0) 0 (P 1))
    ∙ unset (P 0) (P 1) (below 0)

pub returns : goal.returns
returns g c r form p lt few =
    let i : ℕ = p % 64 in
    let h = place c.args.here p in
    let P : ℕ → ℕ = part_bit c.args.self.now i h in
    let o = place c.odd-ones.result p in
    let t = place c.xor_bits-twos.result p in
    let f = place c.xor_bits-fours.result p in
    let e = place c.and_bits-eights.result p in
    let ol = place-lt c.odd-ones.result p in
    let tl = place-lt c.xor_bits-twos.result p in
    let fl = place-lt c.xor_bits-fours.result p in
    let el = place-lt c.and_bits-eights.result p in
    let hl = place-lt c.args.here p in
    let low : i < 64 = omega arith in
    let is : place c.toggled.result p ≡ toggled_bit (form_bit P o t f) e (P 8) = c.toggled.ensures p
    ∙ (λ u. toggled_bit (c.eval_form.ensures p lt u) e (c.coefficient.ensures p lt u)) in
    let sum : o + (2 * t + (4 * f + 8 * e)) ≡ (place c.args.above p + 2 * place c.args.above2 p)
    + ((place c.args.sides p + 2 * place c.args.sides2 p) + (place c.args.below p + 2 * place c.args.below2 p)) =
    omega (
      arith,
      c.odd-ones.ensures p,
      c.carry-more.ensures p,
      c.odd-some.ensures p,
      c.carry-high.ensures p,
      c.xor_bits-twos.ensures p,
      c.and_bits-rest.ensures p,
      c.xor_bits-fours.ensures p,
      c.and_bits-eights.ensures p,
      place-lt c.args.above p,
      place-lt c.args.above2 p,
      place-lt c.args.sides p,
      place-lt c.args.sides2 p,
      place-lt c.args.below p,
      place-lt c.args.below2 p,
    ) in
    is ∙ elim (cases_eq e 0) [
      | inl none ↦
          let count : o + (2 * t + 4 * f) ≡ o + (2 * t + (4 * f + 8 * e)) = omega (arith, none) in
          ap (λ s. toggled_bit (form_bit P o t f) s (P 8)) none
          ∙ unset (form_bit P o t f) (P 8) (toggled-lt _ f _)
          ∙ form.counts i h o t f low hl ol tl fl ∙ ap (λ n. one_if (lives_at r (nat_eq h 1) n)) (count ∙ sum)
      | inr some ↦
          let one : e ≡ 1 = omega (arith, some, el) in
          let o0 : o ≡ 0 = omega (arith, one, sum, few) in
          let t0 : t ≡ 0 = omega (arith, one, sum, few) in
          let f0 : f ≡ 0 = omega (arith, one, sum, few) in
          let count : 8 ≡ o + (2 * t + (4 * f + 8 * e)) = omega (arith, one, o0, t0, f0) in
          (λ u. toggled_bit (form_bit P (o0 u) (t0 u) (f0 u)) (one u) (P 8))
          ∙ ap (λ x. toggled_bit x 1 (P 8)) (no_digits P (λ n. toggled-lt _ h _))
          ∙ form.eight i h low hl ∙ ap (λ n. one_if (lives_at r (nat_eq h 1) n)) (count ∙ sum)
    ]
