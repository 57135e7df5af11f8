use Rattle.std.proofs.Common.{◌+◌, ◌∙◌}
use Rattle.life_core.proofs.LanePlaces.{lane_places}
use Rattle.life_core.proofs.packed.wide_blocks.wide_sums.Goals as goal

pub returns : goal.returns
returns c =
    let l = c.lanes_from_left.ensures in
    let r = c.lanes_from_right.ensures in
    let h = lane_places c.lanes_at.result c.args.rows.now c.args.k 4 c.lanes_at.ensures in
    let s = c.sums_of.ensures in
    record {
      here = λ p lt. s.here p lt ∙ h p lt;
      sides = λ p lt. s.sides p lt ∙ (λ t. l p lt t + r p lt t);
      all = λ p lt. s.all p lt ∙ (λ t. l p lt t + (h p lt t + r p lt t));
    }
