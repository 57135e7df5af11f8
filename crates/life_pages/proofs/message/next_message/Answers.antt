use Rattle.std.proofs.Common.{◌+◌, ◌≤◌, length, take, arith, inl, inr, sym, ◌∙◌}
use Rattle.life_pages.proofs.MessageStanding.{never_begins, never_within, blank_none, body_short, body_alone}
use Rattle.life_pages.proofs.MessageStanding.{body_whole, front_long, head_some, has_room, wants_head, wants_none}
use Rattle.life_pages.proofs.MessageStanding.{wants_until}
use Rattle.life_pages.proofs.message.next_message.Goals as goal

pub returns-then-are_blank : goal.returns-then-are_blank
returns-then-are_blank c =
    let blank = sym c.are_blank.ensures ∙ c.if-are_blank.true in
    ((blank_none c.args.held.now blank, inl blank, inl blank), wants_none c.args.held.now)

pub returns-in-Bad : goal.returns-in-Bad
returns-in-Bad c =
    (never_begins c.args.held.now c.min.result c.in-Bad.ensures, sym c.are_blank.ensures ∙ c.if-are_blank.false)

pub returns-then-held-lt-HEAD_LIMIT : goal.returns-then-held-lt-HEAD_LIMIT
returns-then-held-lt-HEAD_LIMIT c = (
  wants_head c.args.held.now c.min.result c.min.ensures c.if-held-lt-HEAD_LIMIT.true c.in-More.ensures.0
      c.in-More.ensures.1,
  wants_none c.args.held.now,
)

pub returns-else-held-lt-HEAD_LIMIT : goal.returns-else-held-lt-HEAD_LIMIT
returns-else-held-lt-HEAD_LIMIT c =
    let long = front_long c.args.held.now c.min.result c.min.ensures in
    let n = c.min.ensures in (
      never_within c.args.held.now c.min.result (omega arith) c.in-More.ensures.0,
      sym c.are_blank.ensures ∙ c.if-are_blank.false,
    )

pub returns-then-held-head : goal.returns-then-held-head
returns-then-held-head c =
    let long = front_long c.args.held.now c.min.result c.min.ensures in
    let n = c.min.ensures in
    let g = c.in-Whole.head in
    let sum = c.saturating_add.ensures in (
      (
        body_short c.args.held.now c.min.result g c.in-Whole.ensures.0 c.in-Whole.ensures.1 c.if-held-head.true,
        inr (has_room c.args.held.now (take c.min.result c.args.held.now) g c.in-Whole.ensures.0
            (omega arith) c.in-Whole.ensures.1 c.if-held-head.true),
        inr (inr (body_alone c.args.held.now c.min.result g c.in-Whole.ensures.0
            (omega arith) c.in-Whole.ensures.1 c.if-held-head.true)),
      ),
      wants_until c.args.held.now c.min.result g c.saturating_add.result (omega arith) c.in-Whole.ensures.0
          (omega arith) c.in-Whole.ensures.1 (omega arith),
    )

pub returns-else-held-head : goal.returns-else-held-head
returns-else-held-head c =
    let long = front_long c.args.held.now c.min.result c.min.ensures in
    let n = c.min.ensures in
    let g = c.in-Whole.head in
    let fits = c.in-Whole.ensures.0 in
    let body = c.if-held-head.false in
    let all : g.len + g.body ≤ length c.args.held.now = omega arith in (
      all,
      head_some (take c.min.result c.args.held.now) g c.in-Whole.ensures.0 c.in-Whole.ensures.1,
      body_whole c.args.held.now c.min.result g c.in-Whole.ensures.0 (omega arith) c.in-Whole.ensures.1 all,
    )
