use Rattle.std.proofs.Common.{◌+◌, ◌≤◌, ◌-◌, sym, subst, arith}
use Rattle.life_core.proofs.GenerationsLaws.{within_more}
use Rattle.life_rle.specs.Record.{Contents, IsInside}
use Rattle.life_pictures.proofs.picture_frames.animation.Goals as goal

pub moving-requires : goal.moving-requires
moving-requires g c =
    let room : (1024 - 1) + c.args.n ≤ 3072 = omega (arith, c.requires.few) in (
      c.requires.more,
      within_more _ _ _ room (c.in_ok-start.ensures.grown (1024 - 1)
          (subst (λ (r : Contents). IsInside 1024 r.cells) (sym c.record.view_is) c.requires.inside)),
    )
