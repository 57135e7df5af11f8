use Rattle.std.proofs.Common.{IfSome, subst}
use Rattle.life_code.specs.ApartState.{IsOrbit}
use Rattle.life_code.proofs.ApartParts.{known_more}
use Rattle.life_code.proofs.apart.cached_orbit.Goals as goal

pub returns-clause-known : goal.returns-clause-known
returns-clause-known g c =
    known_more c.args.rule.now c.args.known.now.items c.push.new.self.items (record {
      part = c.in_ok-part.part;
      orbit = c.in-Some-2.orbit;
    }) c.args.part.now c.requires.known c.in_ok-part.ensures
    (subst (λ o. IfSome o (IsOrbit c.args.rule.now c.args.part.now)) c.in-Some-2.is c.in_ok-orbit.ensures)
    c.in_ok-push.ensures.items
