use Rattle.life_desk.proofs.ReplyMeanings.{all_healthy_by}
use Rattle.life_desk.proofs.desk.answer_all_in_memory.Goals as goal

pub returns-clause-headline : goal.returns-clause-headline
returns-clause-headline c =
    all_healthy_by _ _ _ (λ v. v.items) _ c.law_of_memory.ensures.healthy c.answer_all-replies.ensures.headline
