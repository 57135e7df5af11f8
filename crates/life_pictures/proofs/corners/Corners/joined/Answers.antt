use Rattle.life_pictures.proofs.CornersLemmas.{lesser, greater}
use Rattle.std.proofs.Common.{arith}
use Rattle.std.proofs.lemmas.Int.{ints}
use Rattle.life_pictures.proofs.corners.Corners.joined.Goals as goal

pub returns-clause-left : goal.returns-clause-left
returns-clause-left c =
    let a = c.requires.own in
    let b = c.requires.other in
    lesser _ _ _ a.left (omega (arith, ints, a.across, a.right)) b.left
    (omega (arith, ints, b.across, b.right)) c.min-2.ensures.value

pub returns-clause-top : goal.returns-clause-top
returns-clause-top c =
    let a = c.requires.own in
    let b = c.requires.other in
    lesser _ _ _ a.top (omega (arith, ints, a.down, a.bottom)) b.top
    (omega (arith, ints, b.down, b.bottom)) c.min.ensures.value

pub returns-clause-right : goal.returns-clause-right
returns-clause-right c =
    let a = c.requires.own in
    let b = c.requires.other in
    greater _ _ _ (omega (arith, ints, a.left, a.across)) a.right
    (omega (arith, ints, b.left, b.across)) b.right c.max-2.ensures.value

pub returns-clause-bottom : goal.returns-clause-bottom
returns-clause-bottom c =
    let a = c.requires.own in
    let b = c.requires.other in
    greater _ _ _ (omega (arith, ints, a.top, a.down)) a.bottom
    (omega (arith, ints, b.top, b.down)) b.bottom c.max.ensures.value
