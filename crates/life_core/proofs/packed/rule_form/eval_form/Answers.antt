use Rattle.std.proofs.Common.{◌≡◌, ℕ, ◌%◌, ◌∙◌}
use Rattle.life_core.specs.PackedRow.{place}
use Rattle.life_core.specs.PackedRuleFormState.{toggled_bit, part_bit}
use Rattle.life_core.proofs.packed.rule_form.eval_form.Goals as goal

pub returns : goal.returns
returns g c p lt =
    let P : ℕ → ℕ = part_bit c.args.rule.now (p % 64) (place c.args.here p) in
    let o = place c.args.ones p in
    let t = place c.args.twos p in
    let f = place c.args.fours p in
    let zero : place c.toggled-zero.result p ≡ toggled_bit (P 0) o (P 1) = c.toggled-zero.ensures p
    ∙ (λ u. toggled_bit (c.coefficient.ensures p lt u) o (c.coefficient-2.ensures p lt u)) in
    let two : place c.toggled-two.result p ≡ toggled_bit (P 2) o (P 3) = c.toggled-two.ensures p
    ∙ (λ u. toggled_bit (c.coefficient-3.ensures p lt u) o (c.coefficient-4.ensures p lt u)) in
    let four : place c.toggled-four.result p ≡ toggled_bit (P 4) o (P 5) = c.toggled-four.ensures p
    ∙ (λ u. toggled_bit (c.coefficient-5.ensures p lt u) o (c.coefficient-6.ensures p lt u)) in
    let six : place c.toggled-six.result p ≡ toggled_bit (P 6) o (P 7) = c.toggled-six.ensures p
    ∙ (λ u. toggled_bit (c.coefficient-7.ensures p lt u) o (c.coefficient-8.ensures p lt u)) in
    let low : place c.toggled.result p ≡ toggled_bit (toggled_bit (P 0) o (P 1)) t (toggled_bit (P 2) o (P 3)) =
    c.toggled.ensures p ∙ (λ u. toggled_bit (zero u) t (two u)) in
    let high : place c.toggled-2.result p ≡ toggled_bit (toggled_bit (P 4) o (P 5)) t (toggled_bit (P 6) o (P 7)) =
    c.toggled-2.ensures p ∙ (λ u. toggled_bit (four u) t (six u)) in
    c.toggled-3.ensures p ∙ (λ u. toggled_bit (low u) f (high u))
