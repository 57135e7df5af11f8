use Rattle.std.proofs.Common.{◌+◌, ◌/◌, ◌%◌, ◌≤◌, ◌<◌, length, length-set, inl, inr, ◌∙◌, arith}
use Rattle.std.proofs.lemmas.Bool.{cases_lt}
use Rattle.life_core.proofs.PackedRuns.{word_inside, word_outside}
use Rattle.life_core.proofs.packed.packing.set_bits.Goals as goal

pub overflow_add-end : goal.overflow_add-end
overflow_add-end c = record { fits = omega (arith, c.requires.few) }

pub overflow_add-next : goal.overflow_add-next
overflow_add-next c = record { fits = omega (arith, c.requires.few, c.min-count.ensures, c.loop-next-test.true) }

pub loop-next-preserved : goal.loop-next-preserved
loop-next-preserved c =
    let before = c.loop-next.invariant in
    let next = c.loop-next.next in
    let count = c.min-count.result in
    let fits : next % 64 + count ≤ 64 = omega (arith, c.min-count.ensures) in
    let word : next / 64 < length c.loop-next.rows =
    omega (arith, before.long, c.requires.within, c.loop-next-test.true) in
    record {
      from = omega (arith, before.from);
      to = omega (arith, c.min-count.ensures, c.loop-next-test.true);
      long = length-set c.loop-next.rows _ _ ∙ before.long;
      inside = λ p low high. elim (cases_lt p next) [
        | inl earlier ↦ word_outside c.loop-next.rows next count word fits p (inl earlier) ∙ before.inside p low earlier
        | inr here ↦ word_inside c.loop-next.rows next count word fits p here high
      ];
      outside = λ p apart. word_outside c.loop-next.rows next count word fits p (elim apart [
        | inl low ↦ inl (omega (arith, low, before.from))
        | inr high ↦ inr high
      ])
          ∙ before.outside p (elim apart [ inl low ↦ inl low | inr high ↦ inr (omega (arith, high)) ]);
    }
