use Rattle.std.proofs.Common.{◌≡◌, ◌*◌, ◌+◌, sym, ◌∙◌, arith}
use Rattle.life_core.specs.PackedRow.{place, place_before}
use Rattle.life_core.proofs.WordShifts.{place_at}
use Rattle.life_core.proofs.RowLanes.{one_lane}
use Rattle.life_core.proofs.LanePlaces.{place-lt}
use Rattle.life_core.proofs.packed.row_lanes.word_sums.Goals as goal

pub returns : goal.returns
returns c i lt =
    let j = c.args.j in
    let ws = c.args.words.now in
    let l : place c.lane-left.result i ≡ place_before ws (64 * j + i) =
    one_lane c.lane-left.result c.from_left.result i c.lane-left.ensures lt ∙ c.from_left.ensures i lt in
    let h : place c.lane-here.result i ≡ place ws (64 * j + i) = one_lane c.lane-here.result _ i c.lane-here.ensures lt
    ∙ sym (place_at ws j i lt) in
    let r : place c.lane-right.result i ≡ place ws (64 * j + i + 1) =
    one_lane c.lane-right.result c.from_right.result i c.lane-right.ensures lt ∙ c.from_right.ensures i lt in
    omega (
      arith,
      c.odd.ensures i,
      c.carry.ensures i,
      l,
      h,
      r,
      place-lt c.lane-left.result i,
      place-lt c.lane-here.result i,
      place-lt c.lane-right.result i,
    )
