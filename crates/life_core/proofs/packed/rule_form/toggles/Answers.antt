use Rattle.std.proofs.Common.{◌≢◌, ◌<◌, length, bit_xor, length-set, get_or, get_or-set_other, get_or-set_same}
use Rattle.std.proofs.Common.{below_more, ap, ◌∙◌, arith}
use Rattle.std.specs.Int.{bit_at}
use Rattle.std.proofs.lemmas.Nat.Bits.{bit_at_xor}
use Rattle.life_core.proofs.packed.rule_form.toggles.Goals as goal

pub loop-n-preserved : goal.loop-n-preserved
loop-n-preserved c =
    let n = c.loop-n.n in
    let word = bit_xor (get_or c.args.from.now n 0) (get_or c.args.to.now n 0) in
    let lt : n < length c.loop-n.toggles = omega (arith, c.loop-n.invariant.long) in
    record {
      long = length-set c.loop-n.toggles n word ∙ c.loop-n.invariant.long;
      done =
          below_more _ _ (λ k h. let ne : k ≢ n = omega arith in rw get_or-set_other (c.loop-n.invariant.done k h))
          (rw get_or-set_same);
    }

pub returns : goal.returns
returns c n i lt =
    let done : n < c.loop-n.n = omega arith in
    ap (λ w. bit_at w i) (c.loop-n.invariant.done n done)
    ∙ bit_at_xor (get_or c.args.from.now n 0) (get_or c.args.to.now n 0) i
