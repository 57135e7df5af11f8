use Rattle.life_rle.proofs.ReadAgain.{file_read_again}
use Rattle.life_desk.proofs.DepositsOnce.{deposits_act_once_lem, deposits_stay_lem, equal_texts}
use Rattle.life_desk.proofs.CensusesOnce.{censuses_act_once_lem, censuses_stay_lem}
use Rattle.life_desk.proofs.Steps.{nothing_is_lost}
use Rattle.life_desk.proofs.OneReply.{one_reply, same_replies}
use Rattle.life_desk.proofs.ReplyMeanings.{flag_tells_steady}
use Rattle.life_desk.proofs.run_laws.laws_of_runs.Goals as goal

pub returns-clause-same : goal.returns-clause-same
returns-clause-same c = equal_texts

pub returns-clause-again : goal.returns-clause-again
returns-clause-again c = file_read_again

pub returns-clause-one_reply : goal.returns-clause-one_reply
returns-clause-one_reply c = one_reply

pub returns-clause-nothing_is_lost : goal.returns-clause-nothing_is_lost
returns-clause-nothing_is_lost c = nothing_is_lost

pub returns-clause-deposits_stay : goal.returns-clause-deposits_stay
returns-clause-deposits_stay c = deposits_stay_lem

pub returns-clause-censuses_stay : goal.returns-clause-censuses_stay
returns-clause-censuses_stay c = censuses_stay_lem

pub returns-clause-deposits : goal.returns-clause-deposits
returns-clause-deposits c = deposits_act_once_lem

pub returns-clause-censuses : goal.returns-clause-censuses
returns-clause-censuses c = censuses_act_once_lem

pub returns-clause-flag : goal.returns-clause-flag
returns-clause-flag c = flag_tells_steady c.laws_of_steady_fields.ensures.decided

pub returns-clause-same_replies : goal.returns-clause-same_replies
returns-clause-same_replies c = same_replies
