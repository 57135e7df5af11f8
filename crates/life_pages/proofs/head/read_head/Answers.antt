use Rattle.std.proofs.Common.{sym, ◌∙◌}
use Rattle.std.proofs.lemmas.Bool.{ltb-true, ltb-false}
use Rattle.life_pages.proofs.HeadWhole.{some_head, overfull, whole_read}
use Rattle.life_pages.proofs.head.read_head.Goals as goal

pub returns-then-are_too_many : goal.returns-then-are_too_many
returns-then-are_too_many c =
    overfull _ _ _ (some_head _ _ _ _ c.in-Ok-Complete.field-0-is c.in-Ok-Complete.ensures.complete)
    (ltb-true _ _ (sym c.are_too_many.ensures ∙ c.if-are_too_many.true))

pub returns-else-are_too_many : goal.returns-else-are_too_many
returns-else-are_too_many c =
    let held = some_head _ _ _ _ c.in-Ok-Complete.field-0-is c.in-Ok-Complete.ensures.complete in
    whole_read _ _ _ c.unwrap.result c.unwrap-in-Ok-Complete.result c.unwrap-in-Ok-Complete-2.result _ held
    (ltb-false _ _ (sym c.are_too_many.ensures ∙ c.if-are_too_many.false)) c.unwrap.ensures
    c.unwrap-in-Ok-Complete.ensures c.unwrap-in-Ok-Complete-2.ensures c.validate.ensures
