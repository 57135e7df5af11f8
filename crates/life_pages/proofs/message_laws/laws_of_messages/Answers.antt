use Rattle.life_pages.proofs.MessageLaws.{one_list, some_list}
use Rattle.life_pages.proofs.RequestRuns.{as_requests, as_messages}
use Rattle.life_pages.proofs.ReplyStatuses.{acknowledgements_told, pages_acknowledge_nothing}
use Rattle.life_pages.proofs.RepliesApart.{replies_apart}
use Rattle.life_pages.proofs.message_laws.laws_of_messages.Goals as goal

pub returns-clause-one : goal.returns-clause-one
returns-clause-one c = one_list

pub returns-clause-some : goal.returns-clause-some
returns-clause-some c = some_list

pub returns-clause-requests : goal.returns-clause-requests
returns-clause-requests c = as_requests

pub returns-clause-messages : goal.returns-clause-messages
returns-clause-messages c = as_messages

pub returns-clause-kept : goal.returns-clause-kept
returns-clause-kept c = acknowledgements_told

pub returns-clause-pages : goal.returns-clause-pages
returns-clause-pages c = pages_acknowledge_nothing

pub returns-clause-apart : goal.returns-clause-apart
returns-clause-apart c = replies_apart
