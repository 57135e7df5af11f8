use Rattle.std.proofs.Common.{ℕ, ◌≤◌, ◌<◌, ◌-◌, length, slice_index_or}
use Rattle.life_census.specs.declared.meeting.Visit.{Visit}
use Rattle.life_census.specs.SteadyState.{ComesBefore}
use Rattle.life_census.proofs.meeting.first_from.Given as goal

abbrev pub invariant-loop-index : goal.invariant-loop-index
invariant-loop-index l =
    (l.start ≤ l.index) × (l.index ≤ length l.visits)
    × ((k : ℕ) (d : Visit) → l.start ≤ k → k < l.index → ComesBefore (slice_index_or l.visits k d).cell l.cell)

abbrev pub decreases-loop-index : goal.decreases-loop-index
decreases-loop-index l = length l.visits - l.index
