use Rattle.std.proofs.Common.{◌≡◌, length, bit_xor, bit_and, arith}
use Rattle.std.specs.Simd.Lanes.{zip2}
use Rattle.std.proofs.lemmas.Simd.{length-zip2}
use Rattle.life_core.proofs.LanePlaces.{place_xor, place_and, place_or, place-lt}
use Rattle.life_core.proofs.packed.lanes.carry.Goals as goal

pub returns : goal.returns
returns g c p =
    let a = c.args.a in
    let b = c.args.b in
    let d = c.args.c in
    let same : length a ≡ length b = omega arith in
    let long : length (zip2 bit_xor a b) ≡ length d = omega (arith, length-zip2 bit_xor a b same) in
    let both : length (zip2 bit_and a b) ≡ length (zip2 bit_and (zip2 bit_xor a b) d) =
    omega (arith, length-zip2 bit_and a b same, length-zip2 bit_and (zip2 bit_xor a b) d long) in
    omega (
      arith,
      place_or (zip2 bit_and a b) (zip2 bit_and (zip2 bit_xor a b) d) both p,
      place_and a b same p,
      place_and (zip2 bit_xor a b) d long p,
      place_xor a b same p,
      place-lt a p,
      place-lt b p,
      place-lt d p,
    )
