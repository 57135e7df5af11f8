-- The effects of serving a stream: which messages are answered, and how much is read and written.
use Rattle.std.specs.Prelude.{◌≡◌, Bool, ℕ, ◌+◌, ◌*◌, ◌≤◌, List, [], ◌∷◌, ◌++◌, length, Option, None, Some, Result, Ok}
use Rattle.std.specs.Prelude.{Err, OnOk, IfSome}
use Rattle.life_rle.specs.declared.stream.Inlet as inlet
use Rattle.life_rle.specs.declared.stream.Outlet as outlet
use Rattle.life_rle.specs.Stream.{incremented, EndsLast, FailedBetween, FailsLast, Consumes, ConsumesUpTo}
use Rattle.life_rle.specs.Stream.{Appends, AppendsSome}
use Rattle.life_pages.specs.Head.{Head}
use Rattle.life_pages.specs.Message.{Message, Messages, BeginsWithMessages, AreFirstMessages, MessageRun, HasNone}
use Rattle.life_pages.specs.Message.{IsAwaited}
use Rattle.life_pages.specs.declared.pages_fault.IoFault.{IoFault}
use Rattle.life_pages.specs.declared.pages_fault.IoFault.TheVariants.{Read, Write, TooManyReads, Memory}

-- the most reads of one call
abbrev pub most_takes : ℕ
most_takes = 1048576

-- the most bytes of one read
abbrev pub most_taken : ℕ
most_taken = 4096

-- all the messages that were sent, if the bytes of the stream are known
abbrev pub AreAllOf : Option (List ℕ) → List Message → Type 0
AreAllOf stream ms = IfSome stream (λ bytes. Messages bytes ms)

-- the first messages that were sent; the last one may close the connection or be bad
abbrev pub AreFirstOfStream : Option (List ℕ) → List Message → Type 0
AreFirstOfStream stream ms = IfSome stream (λ bytes. AreFirstMessages bytes ms)

module _ {D : Type 0} (answers : D → Head → List ℕ → List ℕ → D → Type 0) where
  -- messages were answered: all replies but the last were written completely, and a prefix of the last one
  pub record LastReplyCutShort (begins : List Message → Type 0) (old new : D)
      (before after : Option (List ℕ)) : Type 0 where
    pub done : List Message
    pub last : Message
    pub bytes : List ℕ
    pub reply : List ℕ
    pub mid : D
    pub whole : Option (List ℕ)
    pub begun : begins (done ++ last ∷ [])
    pub run : MessageRun answers old done bytes mid
    pub step : MessageRun answers mid (last ∷ []) reply new
    pub put : Appends before whole bytes
    pub some : AppendsSome whole after reply

  -- messages were answered, and as much of their replies was written as `puts` says
  pub record ServedMessages (are : List Message → Type 0) (puts : List ℕ → Type 0) (old new : D) : Type 0 where
    pub done : List Message
    pub bytes : List ℕ
    pub messages : are done
    pub run : MessageRun answers old done bytes new
    pub put : puts bytes

  -- the first messages of a stream were answered, and a prefix of their replies was written
  abbrev pub RepliesCutShort : Option (List ℕ) → D → D → Option (List ℕ) → Option (List ℕ) → Type 0
  RepliesCutShort stream old new before after =
      ServedMessages (AreFirstOfStream stream) (AppendsSome before after) old new

  -- all the messages of a stream were answered, and their replies were written completely
  abbrev pub Served : Option (List ℕ) → D → D → Option (List ℕ) → Option (List ℕ) → Type 0
  Served stream old new before after = ServedMessages (AreAllOf stream) (Appends before after) old new

-- a stream of known bytes begins with these messages, followed by the held bytes and the bytes not read yet
abbrev pub StreamBeginsWithMessages : Option (List ℕ) → List Message → List ℕ → Option (List ℕ) → Type 0
StreamBeginsWithMessages None done held left = Unit {0}
StreamBeginsWithMessages (Some stream) done held None = ⊥
StreamBeginsWithMessages (Some stream) done held (Some left) = BeginsWithMessages stream done (held ++ left)

-- Before the last read, of this many bytes and at most 4,096, only messages from a proper prefix of these had been read
-- completely.
pub record WholeBefore (stream left : Option (List ℕ)) (last : ℕ) (ms : List Message) : Type 0 where
  pub front : List Message
  pub next : Message
  pub more : List Message
  pub all : ms ≡ front ++ next ∷ more
  pub before : Option (List ℕ)
  pub held : List ℕ
  pub whole : StreamBeginsWithMessages stream front held before
  pub none : HasNone held
  pub piece : List ℕ
  pub taken : Consumes before left piece
  pub short : (length piece ≤ 4096) × (length piece ≤ last)

-- the first messages of a stream; before the last read, at least the last of them was not complete
abbrev pub AreFirstUpTo : Option (List ℕ) → Option (List ℕ) → ℕ → List Message → Type 0
AreFirstUpTo stream left last ms = AreFirstOfStream stream ms × WholeBefore stream left last ms

module _ {D : Type 0} (answers : D → Head → List ℕ → List ℕ → D → Type 0) where
  -- all the messages that were read completely were answered, and their replies were written
  pub record ServedSoFar (stream left : Option (List ℕ)) (old new : D) (before after : Option (List ℕ)) : Type 0 where
    pub done : List Message
    pub bytes : List ℕ
    pub held : List ℕ
    pub front : StreamBeginsWithMessages stream done held left
    pub none : HasNone held
    pub awaited : IsAwaited held
    pub run : MessageRun answers old done bytes new
    pub put : Appends before after bytes

-- known bytes grew at their end: the bytes from before are a prefix of them
abbrev pub Grows : Option (List ℕ) → Option (List ℕ) → Type 0
Grows old new = (more : List ℕ) × Appends old new more

-- known bytes lost at least this many
abbrev pub ConsumesAtLeast : ℕ → Option (List ℕ) → Option (List ℕ) → Type 0
ConsumesAtLeast least old new = (bytes : List ℕ) × (least ≤ length bytes) × Consumes old new bytes

-- a failed read ends the call with Read, and any other result means that no read failed
abbrev pub ReportsTakeFailures : ℕ → ℕ → Result (Unit {0}) IoFault → Type 0
ReportsTakeFailures old new (Ok u) = new ≡ old
ReportsTakeFailures old new (Err Read) = new ≡ incremented old
ReportsTakeFailures old new (Err Write) = new ≡ old
ReportsTakeFailures old new (Err TooManyReads) = new ≡ old
ReportsTakeFailures old new (Err Memory) = new ≡ old

-- a failed write was the last one and ends the call with Write, and any other result means that no write failed
abbrev pub ReportsPutFailures : ℕ → ℕ → Bool → Result (Unit {0}) IoFault → Type 0
ReportsPutFailures old new last (Ok u) = new ≡ old
ReportsPutFailures old new last (Err Read) = new ≡ old
ReportsPutFailures old new last (Err Write) = FailsLast old new last
ReportsPutFailures old new last (Err TooManyReads) = new ≡ old
ReportsPutFailures old new last (Err Memory) = new ≡ old

-- ---- a call

-- The effect of a call on the desk or archive that answers. `by P` says that P relates its states before and after the
-- call. For a desk, `by` is λ P. P old new; for an archive in a database, it is `ByArchive` or `InMemory`.
pub record IsServed {D I O : Type 0} (answers : D → Head → List ℕ → List ℕ → D → Type 0)
    (by : (D → D → Type 0) → Type 0) (i : inlet.Ghosts I) (o : outlet.Ghosts O) (input rest : I)
    (output sent : O) (result : Result (Unit {0}) IoFault) : Type 0 where
  -- Ok: all messages of the stream were answered, and exactly their replies were written.
  pub known : OnOk result (by (λ A B. Served answers (i.to_come input) A B (o.already output) (o.already sent)))
  -- Any result: the first messages were answered, and a prefix of their replies was written.
  pub some : by (λ A B. RepliesCutShort answers (i.to_come input) A B (o.already output) (o.already sent))
  -- A failed read: every message that was read completely was answered, and the replies were written completely.
  pub on_read_failure : result ≡ Err Read
      → by (λ A B. ServedSoFar answers (i.to_come input) (i.to_come rest) A B (o.already output) (o.already sent))
  -- The same if one more read would be too many.
  pub on_too_many_reads : result ≡ Err TooManyReads
      → by (λ A B. ServedSoFar answers (i.to_come input) (i.to_come rest) A B (o.already output) (o.already sent))
  -- A failed write: a prefix of the last reply was written, and the replies before it completely.
  pub on_write_failure : result ≡ Err Write → by (λ A B. LastReplyCutShort answers
      (AreFirstUpTo (i.to_come input) (i.to_come rest) (i.last_take rest)) A B (o.already output) (o.already sent))

-- The effect of a call on its streams, whatever answers the messages.
pub record UsesStreams {I O : Type 0} (i : inlet.Ghosts I) (o : outlet.Ghosts O) (input rest : I)
    (output sent : O) (result : Result (Unit {0}) IoFault) : Type 0 where
  -- Too many reads: at least 1,048,576 known bytes were read, since each read gave at least one.
  pub many : result ≡ Err TooManyReads → ConsumesAtLeast most_takes (i.to_come input) (i.to_come rest)
  -- Output is only appended: the bytes written before the call are a prefix of those after it.
  pub grows : Grows (o.already output) (o.already sent)
  -- At most 1,048,576 reads are made, of at most 4,096 bytes each.
  pub takes : i.takes rest ≤ i.takes input + most_takes
  pub most : ConsumesUpTo (most_takes * most_taken) (i.to_come input) (i.to_come rest)
  -- There is no read after the end: only the last read may find it.
  pub ended : EndsLast (i.ends input) (i.ends rest) (i.last_take rest)
  -- A failed read or write is reported, and only then is one reported.
  pub on_failed_take : ReportsTakeFailures (i.failures input) (i.failures rest) result
  pub puts : ReportsPutFailures (o.failures output) (o.failures sent) (o.last_failed sent) result
  pub read : result ≡ Err Read → FailedBetween (i.failures input) (i.failures rest)
  pub write : result ≡ Err Write → FailedBetween (o.failures output) (o.failures sent)
