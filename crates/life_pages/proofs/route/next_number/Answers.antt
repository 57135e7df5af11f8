use Rattle.std.proofs.Common.{option_and_then}
use Rattle.life_pages.specs.Head.{parsed_number}
use Rattle.life_pages.proofs.route.next_number.Goals as goal

pub returns-in-Some-clause-taken : goal.returns-in-Some-clause-taken
returns-in-Some-clause-taken c =
    λ make. rw (c.number.ensures, c.as_bytes.ensures)
    (c.in-Some.ensures.taken (λ t texts. option_and_then (λ n. make n texts) (parsed_number t)))

pub returns-in-None-clause-taken : goal.returns-in-None-clause-taken
returns-in-None-clause-taken c =
    λ make. c.in-None.ensures.taken (λ t texts. option_and_then (λ n. make n texts) (parsed_number t))
