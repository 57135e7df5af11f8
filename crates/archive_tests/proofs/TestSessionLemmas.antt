-- A connection whose stream is known, and the end of the connections.
use Rattle.std.proofs.Common.{◌≡◌, ◌∙◌, ◌+◌, ◌<◌, inl, inr, ℕ, suc, true, false, List, [], ◌∷◌, ◌++◌, map, drop, length}
use Rattle.std.proofs.Common.{Option, None, Some, option_copied, Bor, refl, sym, ap, subst, append-nil, add-one}
use Rattle.std.proofs.Common.{drop-cons}
use Rattle.std.proofs.lemmas.Bool.{false≢true}
use Rattle.std.specs.Slice.{IsItemAt}
use Rattle.sqlite_trees.specs.declared.store.Store.{Ghosts}
use Rattle.life_rle.specs.Stream.{incremented}
use Rattle.life_store.specs.Tables.{ArchiveView}
use Rattle.life_pages.specs.Message.{Message, MessageRun, AnswersMessage}
use Rattle.life_pages.specs.Serving.{AreAllOf, AreFirstOfStream}
use Rattle.life_pages.specs.ServedArchive.{StoreAnswers, IsAnswered}
use Rattle.life_pages.proofs.ServingRunning.{messages_first}
use Rattle.life_archive.specs.Session.{ServesOne}
use Rattle.archive_tests.specs.Sessions.{sends, streams_from}

module _ {S : Type 0} (g : Ghosts S) (old new : ArchiveView S) (sent : List ℕ) (later : List (List ℕ))
    (n : ℕ) (stream : Option (List ℕ)) (is : stream ≡ Some sent) where
  run_of : (are : List Message → Type 0) (puts : List ℕ → Type 0) (it : IsAnswered g are puts old new)
      → MessageRun (AnswersMessage (StoreAnswers g)) old it.done (it.bytes ++ []) new
  run_of are puts it =
      subst (λ (bytes : List ℕ). MessageRun (AnswersMessage (StoreAnswers g)) old it.done bytes new)
      (sym (append-nil it.bytes)) it.steps

  all_of : (ms : List Message) → AreAllOf stream ms → AreAllOf (Some sent) ms
  all_of ms all = subst (λ (s : Option (List ℕ)). AreAllOf s ms) is all

  first_of : (ms : List Message) → AreFirstOfStream stream ms → AreFirstOfStream (Some sent) ms
  first_of ms first = subst (λ (s : Option (List ℕ)). AreFirstOfStream s ms) is first

  -- it was served to its end
  pub sent_whole : (puts : List ℕ → Type 0) → IsAnswered g (AreAllOf stream) puts old new
      → ServesOne g old new (sends (sent ∷ later) n) (sends later n)
  sent_whole puts it =
      let all = all_of it.done it.messages in (
        record {
          sent = Some sent;
          messages = it.done;
          put = it.bytes;
          rest = [];
          ended = true;
          first = messages_first sent it.done all;
          whole = λ ended. (all, refl);
        },
        run_of (AreAllOf stream) puts it,
        ((sent, refl, inl refl), tt, refl),
      )

  -- it was not
  pub sent_first : (puts : List ℕ → Type 0) → IsAnswered g (AreFirstOfStream stream) puts old new
      → ServesOne g old new (sends (sent ∷ later) n) (sends later (incremented n))
  sent_first puts it = (
    record {
      sent = Some sent;
      messages = it.done;
      put = it.bytes;
      rest = [];
      ended = false;
      first = first_of it.done it.messages;
      whole = λ ended. absurd (false≢true ended);
    },
    run_of (AreFirstOfStream stream) puts it,
    ((sent, refl, inl refl), tt, refl),
  )

-- none came
pub none_sent : {S : Type 0} (g : Ghosts S) (t : ArchiveView S) (later : List (List ℕ)) (n : ℕ)
    → ServesOne g t t (sends later n) (sends later (incremented n))
none_sent g t later n = (
  record {
    sent = Some [];
    messages = [];
    put = [];
    rest = [];
    ended = false;
    first = tt;
    whole = λ is. absurd (false≢true is);
  },
  (refl, refl),
  (([], refl, inr (refl, refl, refl)), tt, refl),
)

-- what is copied from a reference that is lent
copied_is : (x : Bor (Bor (List ℕ))) (o : Option (Bor (List ℕ))) (b : Bor (List ℕ)) → o ≡ option_copied (Some x)
    → o ≡ Some b → x.now ≡ b
copied_is x o b same is = let e : option_copied (Some x) ≡ Some b = sym same ∙ is in cc

-- the streams from an index on, by the one there
pub next_stream : (xs : List (Bor (List ℕ))) (i : ℕ) (r : Option (Bor (Bor (List ℕ)))) (o : Option (Bor (List ℕ)))
    (b : Bor (List ℕ))
    → IsItemAt xs i r → o ≡ option_copied r → o ≡ Some b → streams_from i xs ≡ b.now ∷ streams_from (i + 1) xs
next_stream xs i None o b item same is =
    absurd (let e : option_copied {T = Bor (List ℕ)} None ≡ Some b = sym same ∙ is in cc)
next_stream xs i (Some x) o b item same is =
    let here = copied_is x o b same is in
    let inside : i < length xs = item.3.0 in
    let rest : drop i xs ≡ b ∷ drop (i + 1) xs =
    rw (add-one, drop-cons xs i x.now inside) (ap (λ (y : Bor (List ℕ)). y ∷ drop (suc i) xs) (sym item.1 ∙ here)) in
    ap (map (λ (s : Bor (List ℕ)). s.now)) rest
