use Rattle.std.proofs.Common.{◌≡◌, length, refl, arith}
use Rattle.life_core.proofs.LanePlaces.{place_xor, place_and, place-lt}
use Rattle.life_core.proofs.packed.row_kernel.sums_of.Goals as goal

pub returns : goal.returns
returns c =
    let l = c.args.left in
    let r = c.args.right in
    let size : length l ≡ length r = omega arith in
    record {
      here = λ p lt. refl;
      sides = λ p lt. omega (arith, place_xor l r size p, place_and l r size p, place-lt l p, place-lt r p);
      all = λ p lt. omega (arith, c.odd.ensures p, c.carry.ensures p);
    }
