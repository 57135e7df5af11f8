use Rattle.std.proofs.Common.{IfSome, ◌≡◌, [], ◌∷◌, ◌++◌, sym, subst, ◌∙◌}
use Rattle.std.proofs.lemmas.Bool.{eqb-true}
use Rattle.std.proofs.lemmas.List.{nil_from_length}
use Rattle.std.specs.FinSet as set
use Rattle.life_core.proofs.PatternOrder.{from_list_of}
use Rattle.life_code.proofs.ApartParts.{moving_none, moving_more, taken_none, taken_more, taken_room, taken_all}
use Rattle.life_code.specs.ApartState.{IsMoving, AreMoving, KeepsApartFrom, AreParted}
use Rattle.life_code.proofs.ApartParts.{AreTaken}
use Rattle.life_code.proofs.apart.moving_parts.Goals as goal

pub loop-frame-init : goal.loop-frame-init
loop-frame-init g c = record {
  taken =
      taken_none c.args.pattern.now c.new-parts.result.items c.in_ok-rest.rest.items c.new-parts.ensures.items
      (from_list_of c.args.pattern.now _ (c.in_ok-rest.ensures ∙ c.cells-2.ensures.cells));
  moving = moving_none c.args.rule.now c.new-parts.result.items c.new-parts.ensures.items;
  known = c.requires.known;
}

pub moving_part-requires-clause-room : goal.moving_part-requires-clause-room
moving_part-requires-clause-room g c =
    taken_room 500000000 c.args.pattern.now c.loop-frame.parts.items c.loop-frame.rest.items
    c.in_ok-inside.inside.items c.in_ok-inside.outside.items c.loop-frame.invariant.taken
    (subst (λ cells. AreParted cells c.in_ok-inside.inside.items c.in_ok-inside.outside.items)
    c.deref.ensures.value c.in_ok-inside.ensures) c.requires.room

pub loop-frame-preserved : goal.loop-frame-preserved
loop-frame-preserved g c =
    let m = c.in-Some-2.part in
    let pushed : c.push.new.self.items ≡ c.loop-frame.parts.items ++ m ∷ [] = c.in_ok-push.ensures.items in
    let cells : m.part ≡ set.from_list c.in_ok-inside.inside.items =
    subst (λ o. IfSome o (λ n. n.part ≡ set.from_list c.in_ok-inside.inside.items)) c.in-Some-2.is
    c.in_ok-part.ensures.cells in
    let moving : IsMoving c.args.rule.now m =
    subst (λ o. IfSome o (IsMoving c.args.rule.now)) c.in-Some-2.is c.in_ok-part.ensures.moving in
    let apart : KeepsApartFrom c.loop-frame.parts.items m.orbit =
    subst (λ parts. KeepsApartFrom parts m.orbit) c.deref-in-loop-frame.ensures.value
    (subst (λ o. IfSome o (λ n. KeepsApartFrom c.deref-in-loop-frame.result.now n.orbit)) c.in-Some-2.is
    c.in_ok-part.ensures.apart) in
    let parted : AreParted c.loop-frame.rest.items c.in_ok-inside.inside.items c.in_ok-inside.outside.items =
    subst (λ cells. AreParted cells c.in_ok-inside.inside.items c.in_ok-inside.outside.items)
    c.deref.ensures.value c.in_ok-inside.ensures in
    record {
      taken = subst (λ parts. AreTaken c.args.pattern.now parts c.in_ok-inside.outside.items) (sym pushed)
          (taken_more c.args.pattern.now c.loop-frame.parts.items m c.loop-frame.rest.items
          c.in_ok-inside.inside.items c.in_ok-inside.outside.items c.loop-frame.invariant.taken parted cells);
      moving =
          subst (λ parts. AreMoving c.args.rule.now parts) (sym pushed)
          (moving_more c.args.rule.now m moving c.loop-frame.parts.items c.loop-frame.invariant.moving apart);
      known = c.in_ok-part.ensures.known;
    }

pub returns-clause-whole : goal.returns-clause-whole
returns-clause-whole g c =
    taken_all c.args.pattern.now c.loop-frame.parts.items c.loop-frame.rest.items (sym c.as_slice.ensures.value
    ∙ nil_from_length _ (eqb-true _ 0 (sym c.if-not-is_empty.ensures))) c.loop-frame.invariant.taken
