use Rattle.std.proofs.Common.{◌≡◌, ◌+◌, get_or, bit_or, ap, ◌∙◌, inl, inr, arith}
use Rattle.std.proofs.lemmas.Bool.{cases_lt, cases_eq}
use Rattle.std.proofs.lemmas.Nat.{le_or_l, le_or_r}
use Rattle.life_core.proofs.packed.packing.skip_dead.Goals as goal

pub loop-next-preserved : goal.loop-next-preserved
loop-next-preserved c =
    let rows = c.args.rows.now in
    let n = c.loop-next.next in
    let inv = c.loop-next.invariant in
    let a = get_or rows n 0 in
    let b = get_or rows (n + 1) 0 in
    let d = get_or rows (n + 2) 0 in
    let e = get_or rows (n + 3) 0 in
    let zero : bit_or (bit_or (bit_or a b) d) e ≡ 0 = c.if-rows-next-ne0.false in
    let ae = le_or_l (bit_or (bit_or a b) d) e in
    let ad = le_or_l (bit_or a b) d in
    record {
      from = omega (arith, inv.from);
      inside = omega (arith, c.loop-next-test.true, inv.inside);
      dead = λ j from to. elim (cases_lt j n) [
        | inl before ↦ inv.dead j from before
        | inr here ↦ elim (cases_eq j n) [
          | inl first ↦
              ap (λ k. get_or rows k 0) first
              ∙ (let z : a ≡ 0 = omega (arith, zero, ae, ad, le_or_l a b) in z)
          | inr more ↦ elim (cases_eq j (n + 1)) [
            | inl second ↦
                ap (λ k. get_or rows k 0) second
                ∙ (let z : b ≡ 0 = omega (arith, zero, ae, ad, le_or_r a b) in z)
            | inr rest ↦ elim (cases_eq j (n + 2)) [
              | inl third ↦
                  ap (λ k. get_or rows k 0) third
                  ∙ (let z : d ≡ 0 = omega (arith, zero, ae, le_or_r (bit_or a b) d) in z)
              | inr left ↦
                  let last : j ≡ n + 3 = omega (arith, to, here, more, rest, left) in
                  ap (λ k. get_or rows k 0) last
                  ∙ (let z : e ≡ 0 = omega (arith, zero, le_or_r (bit_or (bit_or a b) d) e) in z)
            ]
          ]
        ]
      ];
    }
