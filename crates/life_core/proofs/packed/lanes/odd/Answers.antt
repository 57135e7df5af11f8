use Rattle.std.proofs.Common.{◌≡◌, length, bit_xor, arith}
use Rattle.std.specs.Simd.Lanes.{zip2}
use Rattle.std.proofs.lemmas.Simd.{length-zip2}
use Rattle.life_core.proofs.LanePlaces.{place_xor, place-lt}
use Rattle.life_core.proofs.packed.lanes.odd.Goals as goal

pub returns : goal.returns
returns g c p =
    let same : length c.args.a ≡ length c.args.b = omega arith in
    let long : length (zip2 bit_xor c.args.a c.args.b) ≡ length c.args.c =
    omega (arith, length-zip2 bit_xor c.args.a c.args.b same) in
    omega (
      arith,
      place_xor (zip2 bit_xor c.args.a c.args.b) c.args.c long p,
      place_xor c.args.a c.args.b same p,
      place-lt c.args.a p,
      place-lt c.args.b p,
      place-lt c.args.c p,
    )
