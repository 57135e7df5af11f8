-- Laws that check the definitions of the archive: each request has one reply, numbers stay, repeated requests act once,
-- and flags tell steady generations.
use Rattle.std.specs.Prelude.{◌≡◌, ◌≢◌, ◌↔◌, true, ℕ, List, Ok, Some, IsTrue, bytes_eq}
use Rattle.std.specs.List.{AllByRecursion}
use Rattle.life_core.specs.Generations.{generation_of}
use Rattle.life_rle.specs.Record.{Contents}
use Rattle.life_rle.specs.File as files
use Rattle.life_rle.specs.Writer as writer
use Rattle.life_census.specs.Steady.{IsSteady}
use Rattle.life_store.specs.declared.kept.Deposit.{Deposit}
use Rattle.life_store.specs.Kept.{numbered}
use Rattle.life_desk.specs.declared.refusal.Refusal.TheVariants as refusals
use Rattle.life_desk.specs.declared.request.Request.{Request}
use Rattle.life_desk.specs.declared.request.Request.TheVariants as requests
use Rattle.life_desk.specs.declared.request.Reply.{Reply}
use Rattle.life_desk.specs.declared.request.Reply.TheVariants as replies
use Rattle.life_desk.specs.declared.request.Shown.{Shown}
use Rattle.life_desk.specs.Archive.{Archive}
use Rattle.life_desk.specs.Represents.{IsReadAgain, EachIsReadAgain}
use Rattle.life_desk.specs.Replies.{IsReply, after}
use Rattle.life_desk.specs.Run.{RequestRun, IsLater}

-- Reading the canonical text of a record that was read gives the record again ..
abbrev pub FilesAreReadAgain : Type 0
FilesAreReadAgain = (bytes : List ℕ) (r : Contents) → files.file bytes ≡ Ok r → IsReadAgain r

-- .. and such records have equal texts if and only if they are equal.
abbrev pub EqualTexts : Type 0
EqualTexts =
    (a b : Contents) → IsReadAgain a → IsReadAgain b → (bytes_eq (writer.text a) (writer.text b) ≡ true) ↔ (a ≡ b)

-- Each request has exactly one reply.
abbrev pub OneReply : Type 0
OneReply = (A : Archive) (q : Request) → (r : Reply) × IsReply A q r × ((other : Reply) → IsReply A q other → other ≡ r)

-- In a run, deposits and censuses are never lost or changed, and they keep their numbers.
abbrev pub NothingIsLost : Type 0
NothingIsLost = (A B : Archive) (qs : List Request) (rs : List Reply) → RequestRun A qs rs B → IsLater A B

-- The number in the reply to a deposit names it in this and in every later archive, with its member, its token, and the
-- record of its file.
abbrev pub DepositsStay : Type 0
DepositsStay =
    (A B : Archive) (member token file : List ℕ) (n : ℕ) → EachIsReadAgain A.deposits
    → IsReply A (requests.Deposit member token file) (replies.Deposited n)
    → IsLater (after A (requests.Deposit member token file)) B
    → (content : Contents) × (files.file file ≡ Ok content)
    × (numbered B.deposits n ≡ Some (record { member = member; token = token; content = content }))

-- The number in the reply to a census names it in this and in every later archive.
abbrev pub CensusesStay : Type 0
CensusesStay =
    (A B : Archive) (member token : List ℕ) (deposit generation limit n : ℕ)
    → IsReply A (requests.Census member token deposit generation limit) (replies.Counted n)
    → IsLater (after A (requests.Census member token deposit generation limit)) B
    → numbered B.censuses n ≡ Some
    (record { member = member; token = token; deposit = deposit; generation = generation; limit = limit })

-- If a deposit got a number, sending it again at any time with a file of the same content gets that number again and
-- changes nothing.
abbrev pub DepositsActOnce : Type 0
DepositsActOnce =
    (A B : Archive) (member token file again : List ℕ) (n : ℕ)
    → IsReply A (requests.Deposit member token file) (replies.Deposited n)
    → IsLater (after A (requests.Deposit member token file)) B → files.file again ≡ files.file file
    → IsReply B (requests.Deposit member token again) (replies.Deposited n)
    × (after B (requests.Deposit member token again) ≡ B)

-- If a census got a number, sending it again at any time gets that number again and changes nothing.
abbrev pub CensusesActOnce : Type 0
CensusesActOnce =
    (A B : Archive) (member token : List ℕ) (deposit generation limit n : ℕ)
    → IsReply A (requests.Census member token deposit generation limit) (replies.Counted n)
    → IsLater (after A (requests.Census member token deposit generation limit)) B
    → IsReply B (requests.Census member token deposit generation limit) (replies.Counted n)
    × (after B (requests.Census member token deposit generation limit) ≡ B)

-- A census is shown with a true flag if and only if the generation that it counted is steady under its limit.
abbrev pub FlagTellsSteady : Type 0
FlagTellsSteady =
    (A : Archive) (id : ℕ) (shown : Shown) (d : Deposit) → IsReply A (requests.ShowCensus id) (replies.Shown shown)
    → numbered A.deposits shown.deposit ≡ Some d
    → IsTrue shown.steady ↔ IsSteady d.content.rule
    (generation_of d.content.rule d.content.cells shown.generation) shown.limit

-- no reply is `unavailable`
abbrev pub AllAnswered : List Reply → Type 0
AllAnswered rs = AllByRecursion (λ r. r ≢ replies.Refused refusals.Unavailable) rs

-- Two runs of the same requests from the same archive are equal if no reply is `unavailable`.
abbrev pub SameReplies : Type 0
SameReplies =
    (A B C : Archive) (qs : List Request) (rs ss : List Reply) → RequestRun A qs rs B → RequestRun A qs ss C
    → AllAnswered rs → AllAnswered ss → (rs ≡ ss) × (B ≡ C)
