use Rattle.std.proofs.Common.{length, vec_capacity, ◌≤◌, ◌≡◌}
use Rattle.life_pages.specs.Message.{AnswersMessage}
use Rattle.life_pages.specs.AnswerState.{HasRoom}
use Rattle.life_pages.specs.MessageState.{WantsUntil}
use Rattle.life_pages.specs.ServingState.{IsServedTo}
use Rattle.life_pages.proofs.serving.serve_held.Given as goal

pub record Serving (w r d f b : Type 0) : Type 0 where
  pub went : w
  pub room : r
  pub buffers : d
  pub count : f
  pub below : b

abbrev pub invariant-held : goal.invariant-held
invariant-held g l = Serving
    (IsServedTo (AnswersMessage g.D.Desk.answers) l.fn.held.items l.held.items l.fn.desk l.desk
    (g.O.Outlet.already l.fn.output) (g.O.Outlet.already l.output))
    (vec_capacity l.fn.held ≤ vec_capacity l.held)
    (HasRoom l.buffers)
    (g.O.Outlet.failures l.output ≡ g.O.Outlet.failures l.fn.output)
    (WantsUntil l.wanted l.held.items)

abbrev pub decreases-held : goal.decreases-held
decreases-held g l = length l.held.items
