use Rattle.std.proofs.Common.{IfSome, ◌≡◌, subst}
use Rattle.life_code.specs.Apart.{union_of}
use Rattle.life_code.specs.ApartState.{AreMoving, SomeMoveDifferently, parts_of}
use Rattle.life_code.proofs.ApartParts.{never_by_parts}
use Rattle.life_code.proofs.apart.moves_apart.Goals as goal

pub returns-in-Some : goal.returns-in-Some
returns-in-Some g c = λ seen rule. never_by_parts c.args.rule.now c.args.pattern.now c.in-Some.parts.items rule
    (subst (λ o. IfSome o (λ v. AreMoving c.args.rule.now v.items)) c.in-Some.is c.in_ok-parts.ensures.moving)
    (subst (λ o. IfSome o (λ v. union_of (parts_of v.items) ≡ c.args.pattern.now)) c.in-Some.is
    c.in_ok-parts.ensures.whole)
    (subst (λ parts. SomeMoveDifferently parts) c.deref.ensures.value (c.some_move_differently.ensures seen))
