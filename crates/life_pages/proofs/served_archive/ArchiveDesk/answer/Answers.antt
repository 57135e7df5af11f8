use Rattle.life_desk.specs.declared.request.Reply.TheVariants as replies
use Rattle.life_desk.specs.declared.refusal.Refusal.TheVariants as refusals
use Rattle.life_desk.specs.Validation.{validated}
use Rattle.life_pages.specs.ServedArchive.{StoreAnswers}
use Rattle.life_pages.proofs.FirmReplies.{shown_not_refused}
use Rattle.life_pages.proofs.served_archive.ArchiveDesk.answer.Goals as goal

pub returns-clause-may_be_unavailable : goal.returns-clause-may_be_unavailable
unfolding StoreAnswers
returns-clause-may_be_unavailable g c = λ shown. (
  c.answer.ensures.may_be_unavailable shown,
  shown_not_refused (validated c.args.request) c.answer.result
      (replies.Refused refusals.Unavailable) _ shown c.answer.ensures.own_refusals,
)
