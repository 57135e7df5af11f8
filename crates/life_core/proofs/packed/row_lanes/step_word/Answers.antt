use Rattle.std.proofs.Common.{◌≡◌, ℕ, List, ◌*◌, ◌+◌, bit_xor, bit_and, length, nat_eq, sym, ◌∙◌, arith}
use Rattle.std.specs.Simd.Lanes.{zip2}
use Rattle.life_core.specs.PackedRow.{place, place_before, one_if, round_count}
use Rattle.life_core.specs.PackedLanesState.{digits_at, sum_at}
use Rattle.life_core.specs.Rule.{lives_at}
use Rattle.life_core.proofs.WordShifts.{place_at}
use Rattle.life_core.proofs.RowLanes.{one_lane, round_few}
use Rattle.life_core.proofs.LanePlaces.{place_xor, place_and, place-lt}
use Rattle.life_core.proofs.packed.row_lanes.step_word.Goals as goal

pub returns-clause-next : goal.returns-clause-next
returns-clause-next g c r i is lt =
    let j = c.args.j in
    let q : ℕ = 64 * j + i in
    let here = c.args.here.now in
    let left = c.lane-left.result in
    let right = c.lane-right.result in
    let l : place left i ≡ place_before here q = one_lane left c.from_left.result i c.lane-left.ensures lt
    ∙ c.from_left.ensures i lt in
    let h : place c.lane-middle.result i ≡ place here q = one_lane c.lane-middle.result _ i c.lane-middle.ensures lt
    ∙ sym (place_at here j i lt) in
    let n : place right i ≡ place here (q + 1) = one_lane right c.from_right.result i c.lane-right.ensures lt
    ∙ c.from_right.ensures i lt in
    let sides : List ℕ = zip2 bit_xor left right in
    let sides2 : List ℕ = zip2 bit_and left right in
    let same : length left ≡ length right = omega arith in
    let beside : digits_at sides sides2 i ≡ place_before here q + place here (q + 1) =
    omega (arith, place_xor left right same i, place_and left right same i, place-lt left i, place-lt right i, l, n) in
    let up = c.word_sums.result in
    let down = c.word_sums-2.result in
    let count : sum_at up.0 up.1 sides sides2 down.0 down.1 i ≡ round_count c.args.above.now here c.args.below.now q =
    omega (arith, c.word_sums.ensures i lt, beside, c.word_sums-2.ensures i lt) in
    c.put_lanes-changed.ensures.put i lt
    ∙ c.next_lanes-new.ensures r is i lt (omega (arith, count, round_few c.args.above.now here c.args.below.now q))
    ∙ (λ t. one_if (lives_at r (nat_eq (h t) 1) (count t)))
