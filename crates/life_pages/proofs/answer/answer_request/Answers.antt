use Rattle.life_pages.proofs.AnswerSteps.{written}
use Rattle.life_pages.proofs.answer.answer_request.Goals as goal

pub returns-clause-answered : goal.returns-clause-answered
returns-clause-answered g c =
    written g.D.Desk.answers _ _ c.args.request c.answer-reply.result _ c.answer-reply.ensures.answered
    c.answer-reply.ensures.may_be_unavailable c.write_reply.ensures.bytes
