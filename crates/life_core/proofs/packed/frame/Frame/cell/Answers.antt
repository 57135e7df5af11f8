use Rattle.std.proofs.Common.{◌<◌, ◌*◌, ◌%◌, arith}
use Rattle.std.proofs.lemmas.Int.{ints}
use Rattle.life_core.proofs.CellLemmas.{same_coordinates}
use Rattle.life_core.proofs.FrameBounds.{near_fits, rows_few, words_few, row_of_place}
use Rattle.life_core.proofs.packed.frame.Frame.cell.Goals as goal

pub overflow_mul-width : goal.overflow_mul-width
overflow_mul-width c = record { fits = omega (arith, words_few c.args.self c.requires.frame) }

pub nonzero_div-result : goal.nonzero_div-result
nonzero_div-result c = omega (arith, c.requires.frame.wide)

pub overflow_cast-result : goal.overflow_cast-result
overflow_cast-result c =
    let f = c.args.self in
    let few = rows_few f c.requires.frame in
    let low = row_of_place f.words f.height c.args.p c.requires.frame.wide c.requires.p in
    near_fits _ (omega (arith, ints)) (omega (arith, ints, low, few))

pub overflow_add-result : goal.overflow_add-result
overflow_add-result c =
    let f = c.args.self in
    let few = rows_few f c.requires.frame in
    let low = row_of_place f.words f.height c.args.p c.requires.frame.wide c.requires.p in
    near_fits _ (omega (arith, ints, low, few, c.requires.frame.from_top, c.requires.frame.to_bottom))
    (omega (arith, ints, low, few, c.requires.frame.from_top, c.requires.frame.to_bottom))

pub nonzero_rem-result : goal.nonzero_rem-result
nonzero_rem-result c = omega (arith, c.requires.frame.wide)

pub overflow_cast-result-2 : goal.overflow_cast-result-2
overflow_cast-result-2 c =
    let f = c.args.self in
    let few = words_few f c.requires.frame in
    let wide : 0 < 64 * f.words = omega (arith, c.requires.frame.wide) in
    let narrow : c.args.p % (64 * f.words) < 64 * f.words = omega arith in
    near_fits _ (omega (arith, ints)) (omega (arith, ints, narrow, few))

pub overflow_add-result-2 : goal.overflow_add-result-2
overflow_add-result-2 c =
    let f = c.args.self in
    let few = words_few f c.requires.frame in
    let wide : 0 < 64 * f.words = omega (arith, c.requires.frame.wide) in
    let narrow : c.args.p % (64 * f.words) < 64 * f.words = omega arith in
    near_fits _ (omega (arith, ints, narrow, few, c.requires.frame.from_left, c.requires.frame.to_right))
    (omega (arith, ints, narrow, few, c.requires.frame.from_left, c.requires.frame.to_right))

pub returns : goal.returns
returns c =
    let f = c.args.self in
    let few = rows_few f c.requires.frame in
    let narrow = words_few f c.requires.frame in
    let low = row_of_place f.words f.height c.args.p c.requires.frame.wide c.requires.p in
    let wide : 0 < 64 * f.words = omega arith in
    let inside : c.args.p % (64 * f.words) < 64 * f.words = omega arith in
    same_coordinates _ _ (omega (arith, ints)) (omega (arith, ints))
