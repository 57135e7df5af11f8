use Rattle.std.proofs.Common.{◌≡◌, ℕ, ◌+◌, ◌-◌, ◌*◌, nat_eq, ◌∙◌, arith}
use Rattle.life_core.specs.PackedRow.{place, one_if}
use Rattle.life_core.specs.Rule.{lives_at}
use Rattle.life_core.specs.PackedLanesState.{digits_at}
use Rattle.life_core.proofs.LanePlaces.{few_live}
use Rattle.life_core.proofs.packed.row_kernel.wide_row.Goals as goal

pub returns-clause-next : goal.returns-clause-next
returns-clause-next g c r p is lt few = c.put_lanes.ensures.put p lt ∙ c.next_lanes-new.ensures r is p lt few

pub returns-clause-row : goal.returns-clause-row
returns-clause-row g c r rows words is first a h b =
    let k = c.args.k in
    record {
      long = c.put_lanes.ensures.long;
      next = λ p lt.
          let W : ℕ = 64 * words in
          let q : ℕ = 64 * k + p in
          let a0 : 64 * (k - words) + p - 1 ≡ q - W - 1 = omega arith in
          let a1 : 64 * (k - words) + p ≡ q - W = omega arith in
          let a2 : 64 * (k - words) + p + 1 ≡ q - W + 1 = omega arith in
          let b0 : 64 * (k + words) + p - 1 ≡ q + W - 1 = omega arith in
          let b1 : 64 * (k + words) + p ≡ q + W = omega arith in
          let b2 : 64 * (k + words) + p + 1 ≡ q + W + 1 = omega arith in
          let up : digits_at c.args.above.all c.args.above.all2 p ≡ place rows (q - W - 1) + (place rows (q - W)
          + place rows (q - W + 1)) = a.all p lt ∙ (λ t. place rows (a0 t) + (place rows (a1 t) + place rows (a2 t))) in
          let down : digits_at c.args.below.all c.args.below.all2 p ≡ place rows (q + W - 1) + (place rows (q + W)
          + place rows (q + W + 1)) = b.all p lt ∙ (λ t. place rows (b0 t) + (place rows (b1 t) + place rows (b2 t))) in
          c.put_lanes.ensures.put p lt ∙ c.next_lanes-new.ensures r is p lt
          (few_live c.args.above.all c.args.above.all2 c.args.here.sides c.args.here.sides2
          c.args.below.all c.args.below.all2 p rows (q - W) q (q + W) up (h.sides p lt) down)
          ∙ (λ t. one_if (lives_at r (nat_eq (h.here p lt t) 1) (up t + (h.sides p lt t + down t))));
      rest = c.put_lanes.ensures.rest;
      same = c.put_lanes.ensures.same;
    }
