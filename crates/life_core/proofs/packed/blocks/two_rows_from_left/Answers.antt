use Rattle.std.proofs.Common.{◌≡◌, ◌+◌, ◌-◌, ◌*◌, ◌/◌, ◌%◌, ◌<◌, get_or, ap, ◌∙◌, lit<, arith}
use Rattle.std.proofs.lemmas.Simd.{shifts_fit_splat}
use Rattle.life_core.specs.PackedRow.{place}
use Rattle.life_core.proofs.LanePlaces.{place_up}
use Rattle.life_core.proofs.packed.blocks.two_rows_from_left.Goals as goal

pub overflow_shl-result : goal.overflow_shl-result
overflow_shl-result c = shifts_fit_splat 64 c.two_rows.result 4 1 (lit< tt)

pub overflow_shr-result : goal.overflow_shr-result
overflow_shr-result c = shifts_fit_splat 64 c.two_rows-2.result 4 63 (lit< tt)

pub returns-clause-upper : goal.returns-clause-upper
returns-clause-upper c p lt =
    let ws = c.args.rows.now in
    let m = c.args.k + p / 64 in
    let low : p / 64 < 2 = omega arith in
    let word : c.args.k - 1 + p / 64 ≡ m - 1 = omega (arith, c.requires.first) in
    let at : 64 * m + p % 64 - 1 ≡ 64 * c.args.k + p - 1 = omega arith in
    place_up c.two_rows.result c.two_rows-2.result ws 4 m p (omega (arith, c.requires.first))
    (omega arith) (omega arith) (λ i. (c.type_inv.rows i).fits) (omega arith) (c.two_rows.ensures.upper (p / 64) low)
    (c.two_rows-2.ensures.upper (p / 64) low ∙ ap (λ n. get_or ws n 0) word) ∙ ap (place ws) at

pub returns-clause-lower : goal.returns-clause-lower
returns-clause-lower c p lt =
    let ws = c.args.rows.now in
    let m = c.args.k + c.args.words + p / 64 in
    let low : p / 64 < 2 = omega arith in
    let lane : (128 + p) / 64 ≡ 2 + p / 64 = omega arith in
    let word : c.args.k - 1 + c.args.words + p / 64 ≡ m - 1 = omega (arith, c.requires.first) in
    let at : 64 * m + (128 + p) % 64 - 1 ≡ 64 * (c.args.k + c.args.words) + p - 1 = omega arith in
    place_up c.two_rows.result c.two_rows-2.result ws 4 m (128 + p) (omega (arith, c.requires.first))
    (omega arith) (omega arith) (λ i. (c.type_inv.rows i).fits) (omega arith)
    (ap (λ n. get_or c.two_rows.result n 0) lane ∙ c.two_rows.ensures.lower (p / 64) low)
    (ap (λ n. get_or c.two_rows-2.result n 0) lane ∙ c.two_rows-2.ensures.lower (p / 64) low
    ∙ ap (λ n. get_or ws n 0) word) ∙ ap (place ws) at
