use Rattle.std.proofs.Common.{subst}
use Rattle.std.proofs.lemmas.List.{take_all}
use Rattle.std.proofs.lemmas.List.Elements.{All-more}
use Rattle.life_code.specs.ApartState.{KeepApart, KeepsApartFrom}
use Rattle.life_code.proofs.apart.keeps_apart_from.Goals as goal

pub loop-part-preserved : goal.loop-part-preserved
loop-part-preserved g c =
    let here = c.keeps_apart.ensures (search (c.if-not-keeps_apart.false)) in
    All-more (λ m. KeepApart m.orbit c.args.orbit.now) c.args.parts.now c.loop-part.part-index
    c.part-item.result c.loop-part-test.true c.loop-part.invariant
    (subst (λ m. KeepApart m.orbit c.args.orbit.now) c.part-item.is here)

pub returns : goal.returns
returns g c =
    λ seen. subst (λ parts. KeepsApartFrom parts c.args.orbit.now)
    (take_all c.loop-part.part-index c.args.parts.now c.loop-part-test.false) c.loop-part.invariant
