use Rattle.std.proofs.Common.{length, ◌-◌, ◌≡◌, ℕ, ◌≤◌, List, take}
use Rattle.life_rle.specs.Stream.{Appends}
use Rattle.life_rle.proofs.stream.put_all.Given as goal

pub record Putting (at : ℕ) (bytes : List ℕ) (gains : Type 0) (kept : Type 0) : Type 0 where
  pub within : at ≤ length bytes
  pub gained : gains
  pub count : kept

abbrev pub invariant-puts : goal.invariant-puts
invariant-puts g l =
    Putting l.at l.bytes (Appends (g.O.Outlet.already l.fn.output) (g.O.Outlet.already l.output) (take l.at l.bytes))
    (g.O.Outlet.failures l.output ≡ g.O.Outlet.failures l.fn.output)

abbrev pub decreases-puts : goal.decreases-puts
decreases-puts g l = length l.bytes - l.at
