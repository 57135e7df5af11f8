use Rattle.std.proofs.Common.{◌≡◌, IfSome, sym, subst, ◌∙◌, ap, map}
use Rattle.std.specs.List.{All}
use Rattle.life_core.specs.Generations.{generation_of}
use Rattle.life_code.specs.Apart.{union_of}
use Rattle.life_code.specs.ApartState.{AreMoving, parts_of}
use Rattle.life_code.specs.SettledState.{IsMovingWithin}
use Rattle.life_code.proofs.SettledLemmas.{moving_within, settled_is, if_some}
use Rattle.life_code.proofs.settled.generation_if_settled.Goals as goal

pub later_parts-requires-clause-moving : goal.later_parts-requires-clause-moving
later_parts-requires-clause-moving g c =
    let r = c.args.rule.now in
    subst (λ ms. All (IsMovingWithin 500000000 r) ms) (sym c.deref.ensures.value)
    (moving_within 500000000 r c.args.field.now c.in-Some.parts.items
    (subst (λ o. IfSome o (λ v. AreMoving r v.items)) c.in-Some.is c.in_ok-parts.ensures.moving)
    (subst (λ o. IfSome o (λ v. union_of (parts_of v.items) ≡ c.args.field.now)) c.in-Some.is
    c.in_ok-parts.ensures.whole) c.requires.room)

pub returns-in-Some-clause-later : goal.returns-in-Some-clause-later
returns-in-Some-clause-later g c =
    let r = c.args.rule.now in
    if_some c.later_parts.result _ (λ X. X ≡ generation_of r c.args.field.now c.args.n)
    (λ X is. settled_is r c.args.field.now X c.args.n c.in-Some.parts.items c.is_live_next-quiet.ensures.kept.quiet
    (subst (λ o. IfSome o (λ v. AreMoving r v.items)) c.in-Some.is c.in_ok-parts.ensures.moving)
    (subst (λ o. IfSome o (λ v. union_of (parts_of v.items) ≡ c.args.field.now)) c.in-Some.is
    c.in_ok-parts.ensures.whole)
    (is ∙ ap (λ ms. union_of (map (λ P. generation_of r P c.args.n) (parts_of ms))) c.deref.ensures.value))
    c.later_parts.ensures
