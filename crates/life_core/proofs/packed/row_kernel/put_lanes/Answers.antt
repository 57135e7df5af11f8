use Rattle.std.proofs.Common.{◌≡◌, ◌⊎◌, ◌+◌, ◌*◌, ◌<◌, ◌≤◌, length, ◌∙◌, inl, inr, arith}
use Rattle.life_core.specs.PackedRow.{place}
use Rattle.life_core.proofs.LanePlaces.{place_put, word_put, place_xor, place-lt, lane_places}
use Rattle.life_core.proofs.packed.row_kernel.put_lanes.Goals as goal

pub returns-clause-rest : goal.returns-clause-rest
returns-clause-rest g c j away = word_put c.args.out.now c.args.new c.args.k j (aside away)
  where
    aside : (j < c.args.k) ⊎ (c.args.k + g.row.N ≤ j) → (j < c.args.k) ⊎ (c.args.k + length c.args.new ≤ j)
    aside (inl low) = inl low
    aside (inr high) = inr (let size : length c.args.new ≡ g.row.N = omega arith in omega (arith, size, high))

pub returns-clause-put : goal.returns-clause-put
returns-clause-put g c p lt =
    let size : length c.args.new ≡ g.row.N = omega arith in
    place_put c.args.out.now c.args.new c.args.k p (omega (arith, size, lt)) (omega (arith, size, c.requires))

pub returns-clause-same : goal.returns-clause-same
returns-clause-same g c p lt dead =
    let old = c.lanes_at-old.result in
    let size : length c.args.new ≡ g.row.N = omega arith in
    let as_long : length old ≡ length c.args.new = omega arith in
    let was : place old p ≡ place c.args.out.now (64 * c.args.k + p) =
    lane_places old c.args.out.now c.args.k g.row.N c.lanes_at-old.ensures p lt in
    let same : place c.args.new p ≡ place c.args.out.now (64 * c.args.k + p) =
    omega (arith, place_xor old c.args.new as_long p, dead, was, place-lt old p, place-lt c.args.new p) in
    place_put c.args.out.now c.args.new c.args.k p (omega (arith, size, lt)) (omega (arith, size, c.requires)) ∙ same
