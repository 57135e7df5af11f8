use Rattle.std.proofs.Common.{◌≡◌, ◌+◌, ◌%◌, length, bit_and, ◌∙◌, arith}
use Rattle.std.specs.Simd.Lanes.{zip2}
use Rattle.std.proofs.lemmas.Simd.{length-zip2}
use Rattle.life_core.specs.PackedRow.{place}
use Rattle.life_core.proofs.LanePlaces.{place_xor, place_and}
use Rattle.life_core.proofs.packed.rule_form.toggled.Goals as goal

pub returns : goal.returns
returns g c p =
    let x = c.args.x in
    let s = c.args.s in
    let y = c.args.y in
    let same : length s ≡ length y = omega arith in
    let long : length x ≡ length (zip2 bit_and s y) = omega (arith, length-zip2 bit_and s y same) in
    place_xor x (zip2 bit_and s y) long p ∙ (λ t. (place x p + place_and s y same p t) % 2)
