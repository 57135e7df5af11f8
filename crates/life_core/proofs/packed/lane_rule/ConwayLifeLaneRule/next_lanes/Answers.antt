use Rattle.std.proofs.Common.{◌≡◌, ℕ, ◌+◌, ◌%◌, List, length, bit_xor, bit_and, bit_or, min, max, nat_eq, sym, ap, ◌∙◌}
use Rattle.std.proofs.Common.{arith}
use Rattle.std.specs.Simd.Lanes.{zip2}
use Rattle.std.proofs.lemmas.Simd.{length-zip2}
use Rattle.life_core.specs.PackedRow.{place, one_if}
use Rattle.life_core.specs.Rule.{lives_at}
use Rattle.life_core.specs.PackedLanesState.{sum_at}
use Rattle.life_core.proofs.LanePlaces.{place_xor, place_and, place_or, place-lt}
use Rattle.life_core.proofs.LifeLanes.{one_of_four_lives}
use Rattle.life_core.proofs.packed.lane_rule.ConwayLifeLaneRule.next_lanes.Goals as goal

pub returns : goal.returns
returns g c r is p lt few =
    let n = g.row.N in
    let a = c.args.above2 in
    let m = c.args.sides2 in
    let d = c.args.below2 in
    let k = c.carry-more.result in
    let s = c.odd-ones.result in
    let h = c.args.here in
    let an : length a ≡ n = omega arith in
    let mn : length m ≡ n = omega arith in
    let dn : length d ≡ n = omega arith in
    let kn : length k ≡ n = omega arith in
    let sn : length s ≡ n = omega arith in
    let hn : length h ≡ n = omega arith in
    let am : List ℕ = zip2 bit_xor a m in
    let dk : List ℕ = zip2 bit_xor d k in
    let am2 : List ℕ = zip2 bit_and a m in
    let dk2 : List ℕ = zip2 bit_and d k in
    let amn : length am ≡ n = omega (arith, length-zip2 bit_xor a m (omega arith)) in
    let dkn : length dk ≡ n = omega (arith, length-zip2 bit_xor d k (omega arith)) in
    let am2n : length am2 ≡ n = omega (arith, length-zip2 bit_and a m (omega arith)) in
    let dk2n : length dk2 ≡ n = omega (arith, length-zip2 bit_and d k (omega arith)) in
    let some : List ℕ = zip2 bit_xor am dk in
    let two : List ℕ = zip2 bit_or am2 dk2 in
    let somen : length some ≡ n = omega (arith, length-zip2 bit_xor am dk (omega arith)) in
    let twon : length two ≡ n = omega (arith, length-zip2 bit_or am2 dk2 (omega arith)) in
    let both : List ℕ = zip2 bit_and some two in
    let bothn : length both ≡ n = omega (arith, length-zip2 bit_and some two (omega arith)) in
    let one : List ℕ = zip2 bit_xor some both in
    let onen : length one ≡ n = omega (arith, length-zip2 bit_xor some both (omega arith)) in
    let own : List ℕ = zip2 bit_or s h in
    let ownn : length own ≡ n = omega (arith, length-zip2 bit_or s h (omega arith)) in
    let some_is : place some p ≡ ((place a p + place m p) % 2 + (place d p + place k p) % 2) % 2 =
    place_xor am dk (omega arith) p ∙ (λ t. (place_xor a m (omega arith) p t + place_xor d k (omega arith) p t) % 2) in
    let two_is : place two p ≡ max (min (place a p) (place m p)) (min (place d p) (place k p)) =
    place_or am2 dk2 (omega arith) p ∙ (λ t. max (place_and a m (omega arith) p t) (place_and d k (omega arith) p t)) in
    place_and one own (omega arith) p
    ∙ (λ t. min (place_xor some both (omega arith) p t) (place_or s h (omega arith) p t))
    ∙ (λ t. min ((some_is t + place_and some two (omega arith) p t) % 2) (max (place s p) (place h p)))
    ∙ (λ t. min ((((place a p + place m p) % 2 + (place d p + place k p) % 2) % 2 + min (some_is t) (two_is t)) % 2)
    (max (place s p) (place h p)))
    ∙ one_of_four_lives (place h p) (place s p) (place k p) (place a p) (place m p) (place d p) _
    (place-lt h p) (place-lt s p) (place-lt k p) (place-lt a p) (place-lt m p) (place-lt d p)
    (omega (arith, c.odd-ones.ensures p, c.carry-more.ensures p))
    ∙ ap (λ rule. one_if (lives_at rule (nat_eq (place h p) 1) (sum_at c.args.above a c.args.sides m c.args.below d p)))
    (sym is)
