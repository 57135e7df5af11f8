use Rattle.std.proofs.Common.{◌+◌, ◌∙◌}
use Rattle.life_core.proofs.LanePlaces.{lane_places}
use Rattle.life_core.proofs.packed.row_lanes.group_sums.Goals as goal

pub returns : goal.returns
returns c =
    let k = c.args.k in
    let l = c.group_from_left.ensures in
    let r = c.group_from_right.ensures in
    let h = lane_places c.lanes_at.result c.args.words.now k 4 c.lanes_at.ensures in
    let s = c.sums_of.ensures in
    record {
      here = λ p lt. s.here p lt ∙ h p lt;
      sides = λ p lt. s.sides p lt ∙ (λ t. l p lt t + r p lt t);
      all = λ p lt. s.all p lt ∙ (λ t. l p lt t + (h p lt t + r p lt t));
    }
