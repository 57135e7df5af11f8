use Rattle.life_desk.proofs.RequestRuns.{all_crash_safe}
use Rattle.life_desk.proofs.ReplyMeanings.{all_told_by, all_lasting_by}
use Rattle.life_desk.proofs.desk.answer_all.Goals as goal

pub returns-clause-headline : goal.returns-clause-headline
returns-clause-headline g c =
    all_told_by g.S.Store c.law_of_the_archive.ensures _ _ _ (λ v. v.items) _ c.answer_each.ensures.ok

pub returns-clause-lasting : goal.returns-clause-lasting
returns-clause-lasting g c =
    all_lasting_by g.S.Store c.law_of_the_archive.ensures _ _ _ (λ v. v.items) _ c.answer_each.ensures.ok

pub returns-clause-crash : goal.returns-clause-crash
returns-clause-crash g c =
    all_crash_safe g.S.Store _ _ _ (λ v. v.items) _ c.law_of_crashes.ensures c.answer_each.ensures.ok
