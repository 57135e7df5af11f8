use Rattle.life_pages.proofs.AnswerSteps.{message_refused, request_refused}
use Rattle.life_pages.proofs.answer.refuse.Goals as goal

pub returns-in-Message-clause-answered : goal.returns-in-Message-clause-answered
returns-in-Message-clause-answered g c =
    message_refused g.D.Desk.answers c.args.desk.now c.args.fault _ _ c.in-Message.is c.write_page.ensures.bytes

pub returns-in-Request-clause-answered : goal.returns-in-Request-clause-answered
returns-in-Request-clause-answered g c =
    request_refused g.D.Desk.answers c.args.desk.now c.args.fault _ _ c.in-Request.is c.law_of_refusals.ensures
    c.write_refusal.ensures.bytes
