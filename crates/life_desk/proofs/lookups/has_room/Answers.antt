use Rattle.std.proofs.Common.{◌∙◌, refl}
use Rattle.life_desk.proofs.Representing.{capacity_of, room_is}
use Rattle.life_desk.proofs.lookups.has_room.Goals as goal

pub returns : goal.returns
returns g c =
    let counted = c.in_ok-count_deposits.ensures in
    record {
      transition = counted.transition;
      healthy = counted.healthy;
      same = counted.same;
      value =
          λ A healthy m. room_is _ _ _ _ _ (counted.value A healthy m)
          (c.capacity.ensures ∙ capacity_of _ A (counted.same A healthy m)) refl;
    }
