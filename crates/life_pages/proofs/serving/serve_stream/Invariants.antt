use Rattle.std.proofs.Common.{◌≡◌, ◌+◌, ◌-◌, ◌*◌, ◌≤◌, vec_capacity}
use Rattle.life_pages.specs.RouteState.{route_rows}
use Rattle.life_pages.specs.Message.{AnswersMessage}
use Rattle.life_pages.specs.MessageState.{held_limit, WantsUntil}
use Rattle.life_pages.specs.AnswerState.{HasRoom}
use Rattle.life_pages.specs.Serving.{most_takes, most_taken, ConsumesAtLeast}
use Rattle.life_rle.specs.Stream.{ConsumesUpTo}
use Rattle.life_pages.proofs.ServingReading.{Reading, Reached}
use Rattle.life_pages.proofs.serving.serve_stream.Given as goal

pub record Going (r m t f p h d i o b n l e : Type 0) : Type 0 where
  pub reading : r
  pub many : m
  pub most : t
  pub few : f
  pub routes : p
  pub room : h
  pub buffers : d
  pub takes : i
  pub puts : o
  pub below : b
  pub made : n
  pub reached : l
  pub unended : e

abbrev pub invariant-takes : goal.invariant-takes
invariant-takes g l = Going
    (Reading (AnswersMessage g.D.Desk.answers) (g.I.Inlet.to_come l.fn.input) (g.I.Inlet.to_come l.input)
    l.ready.held.items l.fn.desk l.desk (g.O.Outlet.already l.fn.output) (g.O.Outlet.already l.output))
    (ConsumesAtLeast l.taken (g.I.Inlet.to_come l.fn.input) (g.I.Inlet.to_come l.input))
    (ConsumesUpTo (l.taken * most_taken) (g.I.Inlet.to_come l.fn.input) (g.I.Inlet.to_come l.input))
    (l.taken ≤ most_takes)
    (l.ready.routes ≡ route_rows)
    (held_limit ≤ vec_capacity l.ready.held)
    (HasRoom l.ready.buffers)
    (g.I.Inlet.failures l.input ≡ g.I.Inlet.failures l.fn.input)
    (g.O.Outlet.failures l.output ≡ g.O.Outlet.failures l.fn.output)
    (WantsUntil l.ready.wanted l.ready.held.items)
    (g.I.Inlet.takes l.input ≤ g.I.Inlet.takes l.fn.input + l.taken)
    (Reached (AnswersMessage g.D.Desk.answers) (g.I.Inlet.to_come l.fn.input) (g.I.Inlet.to_come l.input)
    (g.I.Inlet.last_take l.input) l.ready.held.items l.fn.desk l.desk (g.O.Outlet.already l.fn.output)
    (g.O.Outlet.already l.output))
    (g.I.Inlet.ends l.input ≡ g.I.Inlet.ends l.fn.input)

abbrev pub decreases-takes : goal.decreases-takes
decreases-takes g l = most_takes - l.taken
