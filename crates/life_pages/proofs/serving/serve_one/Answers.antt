use Rattle.std.proofs.Common.{◌≡◌, ℕ, ◌+◌, ◌-◌, ◌<◌, ◌≤◌, List, length, drop, arith, length-drop}
use Rattle.life_pages.proofs.MessageStanding.{wants_now}
use Rattle.life_pages.proofs.ServingRunning.{served_to_none, served_to_one, ended_one, ended_bad, cut_one, cut_bad}
use Rattle.life_pages.proofs.serving.serve_one.Goals as goal

between : (len body : ℕ) → (len + body) - len ≡ body
between len body = omega arith

shorter : (held : List ℕ) (n : ℕ) → 0 < n → n ≤ length held → length (drop n held) < length held
shorter held n some fits = let l = length-drop n held in omega arith

some_first : (len body : ℕ) → 0 < len → 0 < len + body
some_first len body some = omega arith

pub returns-then-len-wanted-clause-step : goal.returns-then-len-wanted-clause-step
returns-then-len-wanted-clause-step g c = (
  served_to_none _ _ _ _,
  wants_now c.args.wanted.now c.args.held.now.items c.requires.below
      (omega (arith, c.if-len-wanted.true, c.len.ensures)),
)

pub returns-in-More-clause-step : goal.returns-in-More-clause-step
returns-in-More-clause-step g c =
    let n = rw c.deref.ensures.value at c.in-More.ensures in
    (served_to_none _ _ _ _, n.0)

pub returns-in-More-clause-below : goal.returns-in-More-clause-below
returns-in-More-clause-below g c =
    let n = rw c.deref.ensures.value at c.in-More.ensures in
    n.1

pub returns-in-Ok-clause-step : goal.returns-in-Ok-clause-step
returns-in-Ok-clause-step g c =
    let n = rw c.deref.ensures.value at c.in-Bad.ensures in
    ended_bad _ _ _ _ _ n.0 n.1 c.in-Ok.ensures.all

pub returns-in-Err-clause-step : goal.returns-in-Err-clause-step
returns-in-Err-clause-step g c =
    let n = rw c.deref.ensures.value at c.in-Bad.ensures in
    cut_bad _ _ _ _ _ n.0 n.1 c.in-Err.ensures.some

pub returns-in-Err-put_all-clause-step : goal.returns-in-Err-put_all-clause-step
returns-in-Err-put_all-clause-step g c =
    let p = rw c.deref-2.ensures.value at c.in-Err-put_all.ensures.some in
    let n = rw c.deref.ensures.value at c.in-Whole.ensures in
    let a = rw (
      c.deref-in-Whole.ensures.value,
      between c.in-Whole.head.len c.in-Whole.head.body,
    ) at c.answer_message.ensures.answered in
    cut_one _ _ _ _ _ _ _ _ _ _ n.2 a p

pub returns-then-closes-clause-step : goal.returns-then-closes-clause-step
returns-then-closes-clause-step g c =
    let n = rw c.deref.ensures.value at c.in-Whole.ensures in
    let a = rw (
      c.deref-in-Whole.ensures.value,
      between c.in-Whole.head.len c.in-Whole.head.body,
    ) at c.answer_message.ensures.answered in
    let p = rw c.deref-2.ensures.value at c.in_default.ensures.all in
    ended_one _ _ _ _ _ _ _ _ _ _ n.2 c.if-closes.true a p

pub returns-clause-step : goal.returns-clause-step
returns-clause-step g c =
    let n = rw c.deref.ensures.value at c.in-Whole.ensures in
    let a = rw (
      c.deref-in-Whole.ensures.value,
      between c.in-Whole.head.len c.in-Whole.head.body,
    ) at c.answer_message.ensures.answered in
    let p = rw c.deref-2.ensures.value at c.in_default.ensures.all in
    let less = shorter c.args.held.now.items (c.in-Whole.head.len + c.in-Whole.head.body) (some_first _ _ n.1) n.0 in
    let went = served_to_one _ _ _ _ _ _ _ _ _ _ n.2 c.if-closes.false a p in
    rw c.drop_front.ensures.items (went, less)
