use Rattle.std.proofs.Common.{◌≡◌, refl, pos, neg_ℤ, ◌-ℤ◌, w64, to_z, of_z, sym, ap, ◌∙◌, arith}
use Rattle.std.proofs.lemmas.Int.{ints}
use Rattle.std.specs.FinSet as set
use Rattle.life_core.proofs.PatternBoxes.{normal_by_box, normal_within, corner_within, normal-empty}
use Rattle.life_core.specs.Cell.{moved_cell}
use Rattle.life_core.specs.Pattern.{normal, image}
use Rattle.life_core.proofs.pattern.Pattern.into_normal.Goals as goal

pub into_moved-requires : goal.into_moved-requires
into_moved-requires g c =
    let b = c.in-Some.bounds in
    let box = c.in-Some.ensures.is_box in
    let corner = corner_within 500000000 c.args.self b.left b.top b.width b.height box c.requires in
    let dx : to_z w64 (of_z w64 (pos 0 -ℤ to_z w64 (of_z w64 b.left))) ≡ neg_ℤ b.left =
    omega (arith, ints, corner.left_low, corner.left_high) in
    let dy : to_z w64 (of_z w64 (pos 0 -ℤ to_z w64 (of_z w64 b.top))) ≡ neg_ℤ b.top =
    omega (arith, ints, corner.top_low, corner.top_high) in
    simp (dx, dy) (normal_within 500000000 c.args.self b.left b.top b.width b.height box c.requires)

pub returns-in-None : goal.returns-in-None
returns-in-None g c =
    let empty : c.args.self ≡ set.empty = c.in-None.ensures.none.0 refl in
    empty ∙ sym normal-empty ∙ ap normal (sym empty)

pub returns-in-Some : goal.returns-in-Some
returns-in-Some g c =
    let b = c.in-Some.bounds in
    let box = c.in-Some.ensures.is_box in
    let corner = corner_within 500000000 c.args.self b.left b.top b.width b.height box c.requires in
    let dx : to_z w64 (of_z w64 (pos 0 -ℤ to_z w64 (of_z w64 b.left))) ≡ neg_ℤ b.left =
    omega (arith, ints, corner.left_low, corner.left_high) in
    let dy : to_z w64 (of_z w64 (pos 0 -ℤ to_z w64 (of_z w64 b.top))) ≡ neg_ℤ b.top =
    omega (arith, ints, corner.top_low, corner.top_high) in
    c.into_moved.ensures ∙ (λ i. image (moved_cell (dx i) (dy i)) c.args.self)
    ∙ normal_by_box c.args.self b.left b.top b.width b.height box
