-- The effects of the private calls that serve a stream.
use Rattle.std.specs.Prelude.{◌≡◌, ◌⊎◌, ℕ, ◌<◌, ◌≤◌, Bool, true, false, List, [], ◌++◌, length, Option, None, Some}
use Rattle.std.specs.Prelude.{Result, Ok, Err}
use Rattle.life_rle.specs.Stream.{incremented, Consumes, Appends, AppendsSome, IsEnded}
use Rattle.life_pages.specs.declared.pages_fault.IoFault.{IoFault}
use Rattle.life_pages.specs.declared.pages_fault.IoFault.TheVariants as faults
use Rattle.life_pages.specs.declared.serving.Step.{Step}
use Rattle.life_pages.specs.declared.serving.Step.TheVariants.{Wants, Goes, Ends}
use Rattle.life_pages.specs.declared.serving.AfterBlank.{AfterBlank}
use Rattle.life_pages.specs.declared.serving.AfterBlank.TheVariants as after_blank
use Rattle.life_pages.specs.Head.{Head}
use Rattle.life_pages.specs.Message.{Message, Messages, BeginsWithMessages, AreFirstMessages, MessageRun}
use Rattle.life_pages.specs.Message.{are_line_breaks}
use Rattle.life_pages.specs.MessageState.{IsWanting}
use Rattle.life_pages.specs.Reply.{bad_bytes}
use Rattle.life_pages.specs.Serving.{most_takes, AreFirstUpTo, LastReplyCutShort, Served, ServedSoFar, ConsumesAtLeast}

-- a read that appends to the held bytes; reading 0 bytes means that the stream has ended
abbrev pub HoldsTaken : {E : Type 0} → Option (List ℕ) → Option (List ℕ) → List ℕ → List ℕ → Result ℕ E → Type 0
HoldsTaken old new held all (Ok k) =
    (some : List ℕ) × Consumes old new some × (all ≡ held ++ some) × (k ≡ 0 → (some ≡ []) × IsEnded old)
    × (length some ≡ k)
HoldsTaken old new held all (Err e) = Consumes old new [] × (all ≡ held)

module _ {D : Type 0} (answers : D → Head → List ℕ → List ℕ → D → Type 0) where
  -- messages at the front of the held bytes were answered, and these bytes are left
  pub record IsServedTo (held rest : List ℕ) (old new : D) (before after : Option (List ℕ)) : Type 0 where
    pub done : List Message
    pub bytes : List ℕ
    pub front : BeginsWithMessages held done rest
    pub run : MessageRun answers old done bytes new
    pub put : Appends before after bytes

  -- messages were answered, the last of which ends the stream, whatever follows
  pub record Ended (held : List ℕ) (old new : D) (before after : Option (List ℕ)) : Type 0 where
    pub done : List Message
    pub bytes : List ℕ
    pub messages : (more : List ℕ) → Messages (held ++ more) done
    pub run : MessageRun answers old done bytes new
    pub put : Appends before after bytes

  -- the result of trying to answer one message
  abbrev pub IsStep : {E : Type 0} → Result Step E → List ℕ → List ℕ → D → D → Option (List ℕ)
      → Option (List ℕ) → Type 0
  IsStep (Ok Wants) held rest old new before after =
      IsServedTo held rest old new before after × IsWanting rest
  IsStep (Ok Goes) held rest old new before after =
      IsServedTo held rest old new before after × (length rest < length held)
  IsStep (Ok Ends) held rest old new before after = Ended held old new before after
  IsStep (Err e) held rest old new before after =
      LastReplyCutShort answers (λ ms. (more : List ℕ) → AreFirstMessages (held ++ more) ms) old new before after

  -- the result of answering all complete messages that are held
  abbrev pub IsHeldServed : {E : Type 0} → Result Bool E → List ℕ → List ℕ → D → D → Option (List ℕ)
      → Option (List ℕ) → Type 0
  IsHeldServed (Ok false) held rest old new before after =
      IsServedTo held rest old new before after × IsWanting rest
  IsHeldServed (Ok true) held rest old new before after = Ended held old new before after
  IsHeldServed (Err e) held rest old new before after =
      LastReplyCutShort answers (λ ms. (more : List ℕ) → AreFirstMessages (held ++ more) ms) old new before after

  -- at the end of the input
  abbrev pub AtEnd : Result (Unit {0}) IoFault → List ℕ → D → Option (List ℕ) → Option (List ℕ) → Type 0
  AtEnd (Ok u) held desk before after = Served answers (Some held) desk desk before after
  AtEnd (Err faults.Write) held desk before after =
      LastReplyCutShort answers (λ ms. AreFirstMessages held ms) desk desk before after
  AtEnd (Err faults.Read) held desk before after = ⊥
  AtEnd (Err faults.TooManyReads) held desk before after = ⊥
  AtEnd (Err faults.Memory) held desk before after = ⊥

  -- the outcome of serving a complete stream
  abbrev pub IsOutcome : Result (Unit {0}) IoFault → Option (List ℕ) → Option (List ℕ) → ℕ
      → D → D → Option (List ℕ) → Option (List ℕ) → Type 0
  IsOutcome (Ok u) stream left last old new before after = Served answers stream old new before after
  IsOutcome (Err faults.Read) stream left last old new before after =
      ServedSoFar answers stream left old new before after
  IsOutcome (Err faults.TooManyReads) stream left last old new before after =
      ServedSoFar answers stream left old new before after × ConsumesAtLeast most_takes stream left
  IsOutcome (Err faults.Write) stream left last old new before after =
      LastReplyCutShort answers (AreFirstUpTo stream left last) old new before after
  IsOutcome (Err faults.Memory) stream left last old new before after = ⊥

-- at least this many bytes were read, all of them CR and LF
abbrev pub PassesBlank : ℕ → Option (List ℕ) → Option (List ℕ) → Type 0
PassesBlank least old new =
    (bytes : List ℕ) × (least ≤ length bytes) × (are_line_breaks bytes ≡ true) × Consumes old new bytes

-- CR and LF bytes were read, and then one more read gave this many bytes
abbrev pub PassesThen : ℕ → Option (List ℕ) → Option (List ℕ) → Type 0
PassesThen last old new =
    (blank : List ℕ) × (mid : Option (List ℕ)) × (piece : List ℕ) × (are_line_breaks blank ≡ true)
    × Consumes old mid blank × Consumes mid new piece × (length piece ≤ 4096) × (length piece ≤ last)

-- whether the rest of known bytes is only CR and LF
abbrev pub IsBlankRest : Option (List ℕ) → Bool → Type 0
IsBlankRest None blank = Unit {0}
IsBlankRest (Some left) blank = are_line_breaks left ≡ blank

-- the result of reading bytes as long as they were CR and LF, in at most this many reads
abbrev pub IsAfterBlank : AfterBlank → ℕ → ℕ → Option (List ℕ) → Option (List ℕ) → Type 0
IsAfterBlank after_blank.Ended takes last old new = IsBlankRest old true
IsAfterBlank after_blank.Other takes last old new = IsBlankRest old false × PassesThen last old new
IsAfterBlank after_blank.Failed takes last old new = PassesBlank 0 old new
IsAfterBlank after_blank.TooMany takes last old new = PassesBlank takes old new

-- a failed read ends this with Failed, and any other result means that no read failed
abbrev pub CountsFailedTake : ℕ → ℕ → AfterBlank → Type 0
CountsFailedTake old new after_blank.Ended = new ≡ old
CountsFailedTake old new after_blank.Other = new ≡ old
CountsFailedTake old new after_blank.Failed = new ≡ incremented old
CountsFailedTake old new after_blank.TooMany = new ≡ old

-- the result for a stream after as many CR and LF bytes as a head may have, in at most this many reads
abbrev pub IsBlankEnd : Result (Unit {0}) IoFault → ℕ → ℕ → Option (List ℕ) → Option (List ℕ)
    → Option (List ℕ) → Option (List ℕ) → Type 0
IsBlankEnd (Ok u) takes last old new before after =
    (IsBlankRest old true × (after ≡ before)) ⊎ (IsBlankRest old false × Appends before after bad_bytes)
IsBlankEnd (Err faults.Write) takes last old new before after =
    IsBlankRest old false × PassesThen last old new × AppendsSome before after bad_bytes
IsBlankEnd (Err faults.Read) takes last old new before after = PassesBlank 0 old new × (after ≡ before)
IsBlankEnd (Err faults.TooManyReads) takes last old new before after = PassesBlank takes old new × (after ≡ before)
IsBlankEnd (Err faults.Memory) takes last old new before after = ⊥
