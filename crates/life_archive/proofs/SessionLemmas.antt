-- The messages of several connections, and the files after a session.
use Rattle.std.proofs.Common.{◌≡◌, inl, inr, ℕ, ◌+◌, false, List, [], ◌∷◌, ◌++◌, length, None, Result, Ok, Err, is_ok}
use Rattle.std.proofs.Common.{refl, sym, ◌∙◌, ap, ap₂, subst, subst₂, append-nil}
use Rattle.std.proofs.lemmas.List.{append_assoc, length-append}
use Rattle.std.proofs.Math.Logic.{∥∥₁_map}
use Rattle.std.specs.Prelude.{IsTrue}
use Rattle.sqlite_disk.specs.declared.Disk as disk
use Rattle.sqlite_disk.specs.declared.Files.{Files}
use Rattle.sqlite_wal.specs.Files.{outcomes}
use Rattle.sqlite_wal.specs.Reads.{AreClean}
use Rattle.sqlite_wal.specs.Recovery.{Image}
use Rattle.sqlite_trees.specs.declared.store.Store.{Ghosts}
use Rattle.sqlite_trees.specs.Tree.{Trees}
use Rattle.sqlite_trees.specs.View.{IsClean}
use Rattle.sqlite_store.specs.declared.store.FileStore.{FileStore}
use Rattle.sqlite_store.specs.FileStore.{view}
use Rattle.sqlite.specs.Files.{HoldsDatabase, image_of, over_files}
use Rattle.life_rle.specs.Stream.{incremented}
use Rattle.life_store.specs.Crash.{NothingNew}
use Rattle.life_store.specs.declared.kept.Deposit.{Deposit}
use Rattle.life_store.specs.declared.kept.Census.{Census}
use Rattle.life_store.specs.Kept.{Kept}
use Rattle.life_store.specs.Migration.{Migrated}
use Rattle.life_store.specs.Opening.{FilesHold, FilesHoldFirst, LeftHold, AreLeftOf, ListNothing, nothing_kept}
use Rattle.life_store.specs.Tables.{ArchiveView, Holds, TreesHold, IsTransition, HoldsTheSame, IsHealthyIfClean}
use Rattle.life_desk.specs.declared.request.Request.{Request}
use Rattle.life_desk.specs.Archive.{Archive}
use Rattle.life_desk.specs.Validation.{validated}
use Rattle.life_desk.specs.Represents.{EachHasDeposit, Represents, RecoveredRepresents, kept_of, MigratedIsTheSame}
use Rattle.life_desk.specs.Run.{RequestStep}
use Rattle.life_desk.proofs.Representing.{holds_of, each_of, represents_same}
use Rattle.life_desk.proofs.RequestRuns.{IsSettled}
use Rattle.life_desk.proofs.Steps.{step_each, after_each}
use Rattle.life_pages.specs.declared.pages_fault.MessageRefusal.{MessageRefusal}
use Rattle.life_pages.specs.Head.{Head}
use Rattle.life_pages.specs.Asked.{asked}
use Rattle.life_pages.specs.declared.pages_fault.IoFault.{IoFault}
use Rattle.life_pages.specs.Message.{Message, good, bad, MessageRun, AnswersAsked, AnswersMessage}
use Rattle.life_pages.specs.Reply.{bad_bytes}
use Rattle.life_pages.specs.ServedArchive.{StoreAnswers, IsAnswered, IsLeftOf}
use Rattle.life_pages.proofs.ArchiveRuns.{SomeMessages, run_answered, by_taken, left_safely}
use Rattle.life_pages.proofs.FirmReplies.{firm_run}
use Rattle.life_archive.specs.Session.{Exchange, messages_of, replies_of, Traffic, unknown, failures_after, Carries}
use Rattle.life_archive.specs.Session.{CarriesAll, ServesOne, ServesSome, Runs, ServesConnections, FilesRepresent}
use Rattle.life_archive.specs.Session.{FilesMean, Leaves, IsSession, EndsSession, under, either, SessionsCompose}
use Rattle.life_archive.specs.Session.{LeavesAfter, Continues, SessionsComposeOverCrashes}

-- ---- one connection

-- of which only the failures are known
pub one_untold : {S : Type 0} (g : Ghosts S) (are : List Message → Type 0) (puts : List ℕ → Type 0)
    (old new : ArchiveView S) (r : Result (Unit {0}) IoFault) (n : ℕ)
    → IsAnswered g are puts old new → ServesOne g old new (unknown n) (unknown (failures_after (is_ok r) n))
one_untold g are puts old new r n some = (
  record {
    sent = None;
    messages = some.done;
    put = some.bytes;
    rest = [];
    ended = is_ok r;
    first = tt;
    whole = λ is. (tt, refl);
  },
  subst (λ (bytes : List ℕ). MessageRun (AnswersMessage (StoreAnswers g)) old some.done bytes new)
      (sym (append-nil some.bytes)) some.steps,
  (tt, tt, refl),
)

-- none came, and it failed
pub none_came : {S : Type 0} (g : Ghosts S) (t : ArchiveView S) (n : ℕ)
    → ServesOne g t t (unknown n) (unknown (incremented n))
none_came g t n = (
  record { sent = None; messages = []; put = []; rest = []; ended = false; first = tt; whole = λ is. (tt, refl) },
  (refl, refl),
  (tt, tt, refl),
)

-- ---- several connections

run_both : {D : Type 0} (answers : D → Head → List ℕ → List ℕ → D → Type 0) (a b c : D)
    (ms ns : List Message) (x y : List ℕ) → MessageRun answers a ms x b → MessageRun answers b ns y c
    → MessageRun answers a (ms ++ ns) (x ++ y) c
run_both {D} answers a b c [] ns x y (is, same) second =
    subst₂ (λ (all : List ℕ) (d : D). MessageRun answers d ns all c)
    (sym (ap (λ (all : List ℕ). all ++ y) is)) same second
run_both answers a b c (bad ∷ ms) ns x y (later, is, rest) second = (
  later ++ y,
  ap (λ (all : List ℕ). all ++ y) is ∙ append_assoc bad_bytes later y,
  run_both answers a b c ms ns later y rest second,
)
run_both answers a b c (good parsed body ∷ ms) ns x y (reply, later, mid, answered, is, rest) second = (
  reply,
  later ++ y,
  mid,
  answered,
  ap (λ (all : List ℕ). all ++ y) is ∙ append_assoc reply later y,
  run_both answers mid b c ms ns later y rest second,
)

messages_more : (es : List Exchange) (e : Exchange) → messages_of (es ++ e ∷ []) ≡ messages_of es ++ e.messages
messages_more [] e = append-nil e.messages
messages_more (x ∷ es) e =
    ap (λ (all : List Message). x.messages ++ all) (messages_more es e)
    ∙ sym (append_assoc x.messages (messages_of es) e.messages)

replies_more : (es : List Exchange) (e : Exchange) → replies_of (es ++ e ∷ []) ≡ replies_of es ++ (e.put ++ e.rest)
replies_more [] e = append-nil (e.put ++ e.rest)
replies_more (x ∷ es) e =
    ap (λ (all : List ℕ). (x.put ++ x.rest) ++ all) (replies_more es e)
    ∙ sym (append_assoc (x.put ++ x.rest) (replies_of es) (e.put ++ e.rest))

carries_more : (a b c : Traffic) (es : List Exchange) (e : Exchange) → CarriesAll a b es → Carries b c e
    → CarriesAll a c (es ++ e ∷ [])
carries_more a b c [] e same one = (c, subst (λ (t : Traffic). Carries t c e) same one, refl)
carries_more a b c (x ∷ es) e (mid, first, rest) one = (mid, first, carries_more mid b c es e rest one)

length_more : (es : List Exchange) (e : Exchange) → length (es ++ e ∷ []) ≡ length es + 1
length_more es e = length-append es (e ∷ [])

pub serves_none : {S : Type 0} (g : Ghosts S) (t : ArchiveView S) (known : Traffic) → ServesSome g 0 t t known known
serves_none g t known = record { exchanges = []; counted = refl; carried = refl; run = (refl, refl) }

pub serves_more : {S : Type 0} (g : Ghosts S) (n : ℕ) (a b c : ArchiveView S) (x y z : Traffic)
    → ServesSome g n a b x y → ServesOne g b c y z → ServesSome g (n + 1) a c x z
serves_more g n a b c x y z first (e, run, carried) = record {
  exchanges = first.exchanges ++ e ∷ [];
  counted = length_more first.exchanges e ∙ ap (λ k. k + 1) first.counted;
  carried = carries_more x y z first.exchanges e first.carried carried;
  run = subst₂ (λ (ms : List Message) (bytes : List ℕ). MessageRun (AnswersMessage (StoreAnswers g)) a ms bytes c)
      (sym (messages_more first.exchanges e)) (sym (replies_more first.exchanges e))
      (run_both (AnswersMessage (StoreAnswers g)) a b c (messages_of first.exchanges) e.messages
      (replies_of first.exchanges) (e.put ++ e.rest) first.run run);
}

pub serves_connections : {S : Type 0} (g : Ghosts S) (n : ℕ) (old new : ArchiveView S) (x y : Traffic)
    → IsSettled g old → ServesSome g n old new x y → ServesConnections g n old new x y
serves_connections g n old new x y law some =
    let ms = messages_of some.exchanges in
    let bytes = replies_of some.exchanges in
    let it = run_answered g old new ms bytes some.run in
    record {
      exchanges = some.exchanges;
      counted = some.counted;
      carried = some.carried;
      served = by_taken g old new it.taken;
      own_refusals = firm_run g old new ms bytes some.run;
      crash = left_safely g old new ms bytes law it;
    }

-- ---- each census is of a deposit

abbrev pub Each : Archive → Type 0
Each A = EachHasDeposit A.deposits A.censuses

asked_each : (A B : Archive) (x : Result Request MessageRefusal) (bytes : List ℕ) → AnswersAsked RequestStep A x bytes B
    → Each A → Each B
asked_each A B (Ok request) bytes (reply, step, is) each = step_each A request reply B step each
asked_each A B (Err refusal) bytes (is, same) each = subst Each (sym same) each

messages_each : (A B : Archive) (ms : List Message) (bytes : List ℕ) → Runs ms bytes A B → Each A → Each B
messages_each A B [] bytes (is, same) each = subst Each (sym same) each
messages_each A B (bad ∷ ms) bytes (later, is, rest) each = messages_each A B ms later rest each
messages_each A B (good parsed body ∷ ms) bytes (reply, later, mid, answered, is, rest) each =
    messages_each mid B ms later rest (asked_each A mid (asked parsed body) reply answered each)

-- what is left, said otherwise
pub left_as : (A : Archive) (ms : List Message) (bytes : List ℕ) (P Q : Archive → Type 0) → Each A
    → ((X : Archive) → Each X → P X → Q X) → IsLeftOf A ms bytes P → IsLeftOf A ms bytes Q
left_as A ms bytes P Q each says it =
    let there = messages_each A it.mid it.front it.given it.run each in
    record {
      front = it.front;
      back = it.back;
      given = it.given;
      rest = it.rest;
      messages = it.messages;
      replies = it.replies;
      mid = it.mid;
      run = it.run;
      left = elim it.left [
        | inl mean ↦ inl (says it.mid there mean)
        | inr more ↦
            inr
            (more.0, more.1, more.2, more.3, more.4, more.5, says _ (after_each it.mid (validated more.2) there) more.6)
      ];
      unpromised = it.unpromised;
    }

-- ---- over files

pub files_hold : (image : Image) (db : Trees) (k : Kept) → TreesHold db k → HoldsDatabase image db → FilesHold image k
files_hold image db k mean holds = record { trees = db; held = ∣ holds ∣₁; sound = mean.sound; holds = mean.holds }

module _ {D : Type 0} {g : disk.Ghosts D} (a mid last : ArchiveView (FileStore D g)) (files : Files D)
    (ms : List Message) (bytes : List ℕ) (served : SomeMessages over_files a mid ms bytes)
    (counted : IsTransition over_files NothingNew mid last)
    (honest : AreClean g files.log files.db → IsClean (view last.store)) where
  pub end_ok : HoldsTheSame mid.tables last.tables → IsHealthyIfClean over_files last → ((k : Kept)
      → IsTrue last.tables.is_healthy → Holds last.tables k → AreClean g files.log files.db → LeftHold g files k)
      → (A : Archive) → (IsTrue a.tables.is_healthy → Represents a A) → Leaves g A ms bytes (Ok files)
  end_ok same up held A m clean =
      let healthy = up (honest clean) in
      let healthy_mid = counted.was_healthy healthy in
      let done = served.taken.run healthy_mid A (m (served.taken.transition.was_healthy healthy_mid)) in
      let means = represents_same mid last done.0 counted same healthy done.2 in (
        done.0,
        done.1,
        λ image may. (
          each_of last done.0 means,
          held (kept_of done.0) healthy (holds_of last done.0 means) clean image may,
        ),
      )

  kept_before : IsClean (view last.store) → (db : Trees) → over_files.recovers last.store db
      → over_files.recovers mid.store db
  kept_before clean db left = elim (counted.crash.found clean db left) [ inl before ↦ before | inr none ↦ absurd none ]

  pub end_err : IsSettled over_files a → AreLeftOf last.store files → (A : Archive) → IsHealthyIfClean over_files a
      → (IsTrue a.tables.is_healthy → Represents a A) → Leaves g A ms bytes (Err files)
  end_err law left A up m clean image may =
      let clean_last = honest clean in
      let clean_mid = counted.crash.honest clean_last in
      let healthy = up (served.taken.transition.crash.honest clean_mid) in
      let means = m healthy in
      ∥∥₁_map (left clean image may) (λ found.
      left_as A ms bytes (RecoveredRepresents found.0) (FilesRepresent image) (each_of a A means)
      (λ X each mean. (each, files_hold image found.0 (kept_of X) mean found.2))
      (left_safely over_files a mid ms bytes law served A healthy means clean_mid found.0
      (kept_before clean_last found.0 found.1)))

-- what is left, by either answer with these files
pub leaves_either : {D : Type 0} (g : disk.Ghosts D) (A : Archive) (ms : List Message) (bytes : List ℕ)
    (files : Files D) (left : Result (Files D) (Files D)) → either left ≡ files
    → Leaves g A ms bytes (Ok files) → Leaves g A ms bytes (Err files) → Leaves g A ms bytes left
leaves_either {D} g A ms bytes files (Ok f) is whole cut =
    subst (λ (x : Files D). Leaves g A ms bytes (Ok x)) (sym is) whole
leaves_either {D} g A ms bytes files (Err f) is whole cut =
    subst (λ (x : Files D). Leaves g A ms bytes (Err x)) (sym is) cut

pub either_clean : {D : Type 0} (g : disk.Ghosts D) (files : Files D) (left : Result (Files D) (Files D))
    → either left ≡ files → AreClean g (either left).log (either left).db → AreClean g files.log files.db
either_clean {D} g files left is clean = subst (λ (x : Files D). AreClean g x.log x.db) is clean

-- an archive that an opening found
module _ {D : Type 0} {g : disk.Ghosts D} (a : ArchiveView (FileStore D g)) (image : Image)
    (found : (k : Kept) → IsTrue a.tables.is_healthy → FilesHold image k → Holds a.tables k)
    (fresh : IsTrue a.tables.is_healthy → ListNothing image → Holds a.tables nothing_kept)
    (carried : (k : Kept) → IsTrue a.tables.is_healthy → FilesHoldFirst image k → Migrated a.tables k)
    (migrated : MigratedIsTheSame) (capacity : ℕ) (is : a.capacity ≡ capacity) where
  pub begun_with : (A : Archive) → A.capacity ≡ capacity → FilesMean image A → IsTrue a.tables.is_healthy
      → Represents a A
  unfolding Represents
  begun_with A fits (inl meant) healthy =
      record { capacity = is ∙ sym fits; each = meant.0; holds = found (kept_of A) healthy meant.1 }
  begun_with A fits (inr (inr first)) healthy =
      migrated a.tables a.capacity A (is ∙ sym fits) first.0 (carried (kept_of A) healthy first.1)
  begun_with A fits (inr (inl none)) healthy =
      let empty : A ≡ record { deposits = []; censuses = []; capacity = capacity } = archive_is A none.1 none.2 fits in
      subst (λ (B : Archive). Represents a B) (sym empty)
      (record { capacity = is; each = tt; holds = fresh healthy none.0 })
    where
      archive_is : (B : Archive) → B.deposits ≡ [] → B.censuses ≡ [] → B.capacity ≡ capacity
          → B ≡ record { deposits = []; censuses = []; capacity = capacity }
      archive_is B d c n =
          ap₂ (λ (all : List Deposit × List Census) (most : ℕ). let it : Archive = record {
            deposits = all.0;
            censuses = all.1;
            capacity = most;
          } in it) (ap₂ (λ (x : List Deposit) (y : List Census). (x, y)) d c) n

pub is_session : {D : Type 0} {g : disk.Ghosts D} (a : ArchiveView (FileStore D g)) (files : Files D)
    (capacity count : ℕ) (x y : Traffic) (left : Result (Files D) (Files D))
    → ((k : Kept) → IsTrue a.tables.is_healthy → FilesHold (image_of g files) k → Holds a.tables k)
    → (IsTrue a.tables.is_healthy → ListNothing (image_of g files) → Holds a.tables nothing_kept)
    → ((k : Kept) → IsTrue a.tables.is_healthy → FilesHoldFirst (image_of g files) k → Migrated a.tables k)
    → MigratedIsTheSame → a.capacity ≡ capacity
    → IsHealthyIfClean over_files a → (IsTrue a.tables.is_healthy → AreClean g files.log files.db)
    → EndsSession g a count x y left → IsSession g files capacity count x y left
is_session {g = g} a files capacity count x y left found fresh carried migrated is up honest ended = record {
  exchanges = ended.exchanges;
  counted = ended.counted;
  carried = ended.carried;
  own_refusals = ended.own_refusals;
  honest = λ clean. honest (up (ended.honest clean));
  leaves =
      λ A fits begins. ended.leaves A up
      (begun_with a (image_of g files) found fresh carried migrated capacity is A fits begins);
}

pub sessions_compose : {D : Type 0} (g : disk.Ghosts D) → ((file : D) → g.may_leave file (g.seen file))
    → SessionsCompose g
sessions_compose g stays files mid capacity next count more w x y z left one two clean A fits begins =
    let done = one.leaves A fits begins (two.honest clean) in
    let seen = done.2 (image_of g mid) (stays mid.log, stays mid.db) in
    (done.0, done.1, two.leaves (under next done.0) refl (inl seen))

pub left_then : (A : Archive) (ms : List Message) (bytes : List ℕ) (P Q : Archive → Type 0)
    → ((X : Archive) → P X → Q X) → IsLeftOf A ms bytes P → IsLeftOf A ms bytes Q
left_then A ms bytes P Q says it = record {
  front = it.front;
  back = it.back;
  given = it.given;
  rest = it.rest;
  messages = it.messages;
  replies = it.replies;
  mid = it.mid;
  run = it.run;
  left = elim it.left [
    | inl mean ↦ inl (says it.mid mean)
    | inr more ↦ inr (more.0, more.1, more.2, more.3, more.4, more.5, says _ more.6)
  ];
  unpromised = it.unpromised;
}

pub sessions_over_crashes : {D E : Type 0} (g : disk.Ghosts D) (h : disk.Ghosts E) → SessionsComposeOverCrashes g h
sessions_over_crashes {D} {E} g h files again capacity next count more w x y z mid left one
    two clean may A fits begins =
    goes_on mid one clean may
  where
    second : (X : Archive) → FilesRepresent (image_of h again) X → LeavesAfter h two X
    second X mean = two.leaves (under next X) refl (inl mean)

    goes_on : (mid : Result (Files D) (Files D)) (one : IsSession g files capacity count w x mid)
        → AreClean g (either mid).log (either mid).db → outcomes g (either mid).log (either mid).db (image_of h again)
        → Continues A (messages_of one.exchanges) (replies_of one.exchanges) (LeavesAfter h two) mid
    goes_on (Ok mid) one clean may =
        let done = one.leaves A fits begins clean in (done.0, done.1, second done.0 (done.2 (image_of h again) may))
    goes_on (Err mid) one clean may =
        ∥∥₁_map (one.leaves A fits begins clean (image_of h again) may) (left_then A (messages_of one.exchanges)
        (replies_of one.exchanges) (FilesRepresent (image_of h again)) (LeavesAfter h two) second)
