use Rattle.std.proofs.Common.{◌∙◌, arith, refl, []}
use Rattle.life_rle.specs.declared.stream.Failed.{Failed}
use Rattle.life_rle.proofs.StreamLemmas.{ended_more}
use Rattle.life_pages.specs.MessageState.{held_limit}
use Rattle.life_pages.proofs.MessageStanding.{wants_more}
use Rattle.life_pages.proofs.ServingReading.{consumes_none, reading_start, reached_start, reading_went, reading_fed}
use Rattle.life_pages.proofs.ServingReading.{reached_fed, reached_cut, fed_end, paused, reading_failed}
use Rattle.life_pages.proofs.ServingPassing.{one_take, many_fed, most_fed, most_blank}
use Rattle.life_pages.proofs.ServingOutcome.{outcome_ended, outcome_end, outcome_blank, one_more, rest_fits, below_same}
use Rattle.life_pages.proofs.ServingOutcome.{still_room}
use Rattle.life_pages.proofs.serving.serve_stream.Goals as goal

pub takes-init : goal.takes-init
takes-init g c = record {
  reading = reading_start _ _ _ _ _ c.requires.empty;
  many = ([], omega arith, consumes_none _);
  most = ([], omega arith, consumes_none _);
  few = omega arith;
  routes = c.requires.routes;
  room = c.requires.held;
  buffers = c.requires.buffers;
  takes = refl;
  puts = refl;
  below = c.requires.below;
  made = omega arith;
  reached = reached_start _ _ _ _ _ c.requires.empty;
  unended = refl;
}

pub returns-in-Ok-true-clause-outcome : goal.returns-in-Ok-true-clause-outcome
returns-in-Ok-true-clause-outcome g c =
    let s = rw c.in-Ok-true.field-0-test at c.in-Ok-true.ensures.served in
    outcome_ended _ 0 _ _ _ _ _ _ _ _ _ c.takes.invariant.reading s

pub returns-in-Err-clause-outcome : goal.returns-in-Err-clause-outcome
returns-in-Err-clause-outcome g c = reached_cut _ _ _ _ _ _ _ _ _ _ c.takes.invariant.reached c.in-Err.ensures.served

pub returns-then-taken-eq-TAKES-clause-outcome : goal.returns-then-taken-eq-TAKES-clause-outcome
returns-then-taken-eq-TAKES-clause-outcome g c =
    let s = rw c.in-Ok-false.field-0-test at c.in-Ok-false.ensures.served in
    let r = reading_went _ _ _ _ _ _ _ _ _ _ _ c.takes.invariant.reading s.0 in
    (paused _ _ _ _ _ _ _ _ r s.1.0 s.1.2, rw c.if-taken-eq-TAKES.true at c.takes.invariant.many)

pub returns-then-is_long_blank-clause-outcome : goal.returns-then-is_long_blank-clause-outcome
returns-then-is_long_blank-clause-outcome g c =
    let s = rw c.in-Ok-false.field-0-test at c.in-Ok-false.ensures.served in
    let r = reading_went _ _ _ _ _ _ _ _ _ _ _ c.takes.invariant.reading s.0 in
    let blank = rw c.deref.ensures.value at (c.is_long_blank.ensures.blank c.if-is_long_blank.true) in
    let never = rw c.deref.ensures.value at (c.is_long_blank.ensures.never c.if-is_long_blank.true) in
    outcome_blank _ _ _ _ _ _ _ _ _ _ _ _ _ _ r blank never c.takes.invariant.many
    (rest_fits _ c.takes.invariant.few) c.serve_blank.ensures.end

pub returns-then-is_long_blank-clause-most : goal.returns-then-is_long_blank-clause-most
returns-then-is_long_blank-clause-most g c =
    most_blank _ _ _ _ c.takes.invariant.few c.takes.invariant.most c.serve_blank.ensures.most

pub take_more-requires-clause-space : goal.take_more-requires-clause-space
take_more-requires-clause-space g c =
    let s = rw c.in-Ok-false.field-0-test at c.in-Ok-false.ensures.served in
    let room = rw c.deref.ensures.value at (c.is_long_blank.ensures.room c.if-is_long_blank.false) in
    below_same _ _ held_limit (rw c.deref.ensures.value at c.deref.ensures.len) (room s.1)

pub finish-requires : goal.finish-requires
finish-requires g c =
    let s = rw c.in-Ok-false.field-0-test at c.in-Ok-false.ensures.served in
    let e = fed_end _ _ _ _ _ c.in-Ok-eq0.ensures.taken c.in-Ok-eq0.field-0-test in
    rw (c.deref-in-Ok-eq0.ensures.value ∙ e.0) s.1.0

pub returns-in-Ok-eq0-clause-outcome : goal.returns-in-Ok-eq0-clause-outcome
returns-in-Ok-eq0-clause-outcome g c =
    let s = rw c.in-Ok-false.field-0-test at c.in-Ok-false.ensures.served in
    let r = reading_went _ _ _ _ _ _ _ _ _ _ _ c.takes.invariant.reading s.0 in
    let e = fed_end _ _ _ _ _ c.in-Ok-eq0.ensures.taken c.in-Ok-eq0.field-0-test in
    let f = c.in-Ok-eq0.ensures.taken in
    outcome_end _ _ _ _ _ _ _ _ _ _ _ r e.1 s.1.0 f.0 f.1
    (let l = f.4 in (omega (arith, l, c.in-Ok-eq0.field-0-test), omega (arith, l, c.in-Ok-eq0.field-0-test)))
    (rw (c.deref-in-Ok-eq0.ensures.value ∙ e.0) at c.finish.ensures.end)

pub returns-in-Err-take_more-clause-outcome : goal.returns-in-Err-take_more-clause-outcome
returns-in-Err-take_more-clause-outcome g c =
    let s = rw c.in-Ok-false.field-0-test at c.in-Ok-false.ensures.served in
    let r = reading_went _ _ _ _ _ _ _ _ _ _ _ c.takes.invariant.reading s.0 in
    paused _ _ _ _ _ _ _ _
    (reading_failed _ _ _ _ _ c.serve_held.new.held.items _ _ _ _ r c.in-Err-take_more.ensures.taken.0) s.1.0 s.1.2

pub takes-preserved : goal.takes-preserved
takes-preserved g c =
    let s = rw c.in-Ok-false.field-0-test at c.in-Ok-false.ensures.served in
    let r = reading_went _ _ _ _ _ _ _ _ _ _ _ c.takes.invariant.reading s.0 in
    record {
      reading = reading_fed _ _ _ _ _ _ _ _ _ _ _ r c.in-Ok.ensures.taken;
      many = many_fed _ _ _ _ _ _ _ c.takes.invariant.many c.in-Ok.ensures.taken c.in-Ok.field-0-test.1;
      most = most_fed _ _ _ _ _ _ _ c.takes.invariant.most c.in-Ok.ensures.taken c.in-Ok.ensures.most;
      few = one_more _ c.takes.invariant.few c.if-taken-eq-TAKES.false;
      routes = c.takes.invariant.routes;
      room = still_room _ _ _ c.takes.invariant.room c.serve_held.ensures.room c.take_more.ensures.room;
      buffers = c.serve_held.ensures.buffers;
      takes = c.in-Ok.ensures.count ∙ c.takes.invariant.takes;
      puts = c.in-Ok-false.ensures.count ∙ c.takes.invariant.puts;
      made = one_take _ _ _ _ c.takes.invariant.made c.take_more.ensures.made;
      reached =
          reached_fed _ _ _ _ _ _ _ _ _ _ _ r s.1.0 c.in-Ok.ensures.taken c.in-Ok.ensures.most c.in-Ok.ensures.gave;
      below = wants_more _ _ c.in-Ok.ensures.taken.0 _ c.serve_held.ensures.below c.in-Ok.ensures.taken.2;
      unended =
          c.in-Ok.ensures.end ∙ ended_more Failed _ c.in-Ok.field-0 c.in-Ok.field-0-test.1 ∙ c.takes.invariant.unended;
    }
