-- The outcome of serving a stream, for each way in which it ends.
use Rattle.std.proofs.Common.{◌≡◌, ◌≢◌, ℕ, ◌+◌, ◌-◌, ◌<◌, ◌≤◌, true, List, length, Option, Result, Ok, Err, OnOk, inl}
use Rattle.std.proofs.Common.{inr, arith}
use Rattle.life_rle.specs.Stream.{IsEnded, Consumes}
use Rattle.life_pages.specs.Head.{Head}
use Rattle.life_pages.specs.Message.{HasNone, are_line_breaks}
use Rattle.life_pages.specs.MessageState.{NeverHas, held_limit}
use Rattle.life_pages.specs.Serving.{most_takes, RepliesCutShort, Served, ConsumesAtLeast, Grows}
use Rattle.life_pages.specs.declared.pages_fault.IoFault.{IoFault}
use Rattle.life_pages.specs.declared.pages_fault.IoFault.TheVariants as faults
use Rattle.life_pages.specs.ServingState.{Ended, AtEnd, IsOutcome, IsBlankEnd}
use Rattle.life_pages.proofs.ServingRunning.{cut_broke}
use Rattle.life_pages.proofs.ServingReading.{Reading, reading_ended, reading_end, reading_cut_end, served_broke}
use Rattle.life_pages.proofs.ServingReading.{so_far_broke}
use Rattle.life_pages.proofs.ServingPassing.{many_passed, blank_end, other_end, other_cut, passed_paused}

pub one_more : (taken : ℕ) → taken ≤ most_takes → taken ≢ most_takes → taken + 1 ≤ most_takes
one_more taken few some_left = omega (arith, some_left)

pub rest_fits : (taken : ℕ) → taken ≤ most_takes → most_takes ≤ taken + (most_takes - taken)
rest_fits taken few = omega arith

pub still_room : (a b c : ℕ) → held_limit ≤ a → a ≤ b → b ≤ c → held_limit ≤ c
still_room a b c room first second = omega arith

pub below_same : (a b n : ℕ) → a ≡ b → a < n → b < n
below_same a b n same below = rw (← same) below

module _ {D : Type 0} (answers : D → Head → List ℕ → List ℕ → D → Type 0) where
  -- the last message ended the stream
  pub outcome_ended : (most : ℕ) (stream left : Option (List ℕ)) (held : List ℕ) (old mid new : D)
      (x y z : Option (List ℕ)) → Reading answers stream left held old mid x y
      → Ended answers held mid new y z → IsOutcome answers (Ok tt) stream left most old new x z
  outcome_ended most stream left held old mid new x y z r e =
      reading_ended answers stream left held old mid new x y z r e

  -- the input ended
  pub outcome_end : {most : ℕ} (result : Result (Unit {0}) IoFault) (stream left next : Option (List ℕ))
      (held : List ℕ) (old new : D) (x y z : Option (List ℕ))
      → Reading answers stream left held old new x y → IsEnded left → HasNone held → (piece : List ℕ)
      → Consumes left next piece → (length piece ≤ 4096) × (length piece ≤ most)
      → AtEnd answers result held new y z → IsOutcome answers result stream next most old new x z
  outcome_end (Ok u) stream left next held old new x y z r e none piece taken short a =
      reading_end answers stream left held old new new x y z r e a
  outcome_end (Err faults.Write) stream left next held old new x y z r e none piece taken short a =
      reading_cut_end answers stream left next held piece old new new x y z r e none taken short a
  outcome_end (Err faults.Read) stream left next held old new x y z r e none piece taken short a = absurd a
  outcome_end (Err faults.TooManyReads) stream left next held old new x y z r e none piece taken short a = absurd a
  outcome_end (Err faults.Memory) stream left next held old new x y z r e none piece taken short a = absurd a

  -- long blank bytes were held
  pub outcome_blank : (most : ℕ) (result : Result (Unit {0}) IoFault) (stream left next : Option (List ℕ))
      (held : List ℕ) (taken takes : ℕ) (old new : D) (x y z : Option (List ℕ))
      → Reading answers stream left held old new x y → are_line_breaks held ≡ true → NeverHas held
      → ConsumesAtLeast taken stream left → most_takes ≤ taken + takes
      → IsBlankEnd result takes most left next y z → IsOutcome answers result stream next most old new x z
  outcome_blank most (Ok u) stream left next held taken takes old new x y z r blank never many fits (inl (rest, same)) =
      rw same (blank_end answers stream left held old new x y r blank rest)
  outcome_blank most (Ok u) stream left next held taken takes old new x y z r blank never many fits (inr (rest, put)) =
      other_end answers stream left held old new x y z r never rest put
  outcome_blank most (Err faults.Write) stream left next held taken takes old new x y z r blank never many fits
      (rest, then, some) =
      other_cut answers stream left next held old new x y z r never rest then some
  outcome_blank most (Err faults.Read) stream left next held taken takes old new x y z r blank never many fits
      (passed, same) =
      rw same (passed_paused answers stream left next held 0 old new x y r blank never passed)
  outcome_blank most (Err faults.TooManyReads) stream left next held taken takes old new x y z r blank never many fits
      (passed, same) =
      rw same (
        passed_paused answers stream left next held takes old new x y r blank never passed,
        many_passed stream left next taken takes most_takes many passed fits,
      )
  outcome_blank most (Err faults.Memory) stream left next held taken takes old new x y z r blank never many fits e =
      absurd e

  -- what an outcome says, whatever the result is
  pub outcome_told : (most : ℕ) (result : Result (Unit {0}) IoFault) (stream left : Option (List ℕ))
      (old new : D) (x y : Option (List ℕ))
      → IsOutcome answers result stream left most old new x y → OnOk result (Served answers stream old new x y)
  outcome_told most (Ok u) stream left old new x y o = o
  outcome_told most (Err fault) stream left old new x y o = tt

  pub outcome_some : (most : ℕ) (result : Result (Unit {0}) IoFault) (stream left : Option (List ℕ))
      (old new : D) (x y : Option (List ℕ))
      → IsOutcome answers result stream left most old new x y → RepliesCutShort answers stream old new x y
  outcome_some most (Ok u) stream left old new x y o = served_broke answers stream old new x y o
  outcome_some most (Err faults.Read) stream left old new x y o = so_far_broke answers stream left old new x y o
  outcome_some most (Err faults.TooManyReads) stream left old new x y o =
      so_far_broke answers stream left old new x y o.0
  outcome_some most (Err faults.Write) stream left old new x y o = cut_broke answers stream left old new x y o
  outcome_some most (Err faults.Memory) stream left old new x y o = absurd o

  -- whatever was put of the replies, what was put before is in front of it
  pub some_grows : (stream : Option (List ℕ)) (old new : D) (x y : Option (List ℕ))
      → RepliesCutShort answers stream old new x y → Grows x y
  some_grows stream old new x y b = (b.put.0, b.put.3)
