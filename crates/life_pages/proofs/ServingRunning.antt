-- Runs over messages, one after another.
use Rattle.std.proofs.Common.{◌≡◌, ℕ, ◌&&◌, Bool, true, false, List, [], ◌∷◌, ◌++◌, Option, refl, sym, ◌∙◌, ap}
use Rattle.std.proofs.Common.{append_assoc, append-nil}
use Rattle.std.proofs.lemmas.List.Folds.{list_all-append}
use Rattle.httparse.specs.Grammar.{print_request}
use Rattle.life_pages.specs.Head.{Head}
use Rattle.life_rle.specs.Stream.{Appends, AppendsSome}
use Rattle.life_rle.proofs.StreamLemmas.{appends_more, appends_none}
use Rattle.life_pages.specs.Reply.{bad_bytes}
use Rattle.life_pages.specs.Message.{Message, good, bad, Messages, BeginsWithMessages, AreFirstMessages, MessageRun}
use Rattle.life_pages.specs.Message.{HasMessageInFront}
use Rattle.life_pages.specs.Message.{are_line_breaks}
use Rattle.life_pages.specs.MessageState.{NeverHas}
use Rattle.life_pages.specs.Serving.{AreFirstUpTo, RepliesCutShort, LastReplyCutShort}
use Rattle.life_pages.specs.ServingState.{IsServedTo, Ended}

pub stands_append : (bytes : List ℕ) (parsed : Head) (body rest more : List ℕ)
    → HasMessageInFront bytes parsed body rest
    → HasMessageInFront (bytes ++ more) parsed body (rest ++ more)
stands_append bytes parsed body rest more s =
    let shape : (print_request s.head ++ (body ++ rest)) ++ more ≡ print_request s.head ++ (body ++ (rest ++ more)) =
    append_assoc (print_request s.head) (body ++ rest) more
    ∙ ap (λ (l : List ℕ). print_request s.head ++ l) (append_assoc body rest more) in
    record {
      head = s.head;
      is_head = s.is_head;
      short = s.short;
      says = s.says;
      bytes_are = ap (λ (l : List ℕ). l ++ more) s.bytes_are ∙ shape;
      whole = s.whole;
    }

pub front_append : (bytes : List ℕ) (ms : List Message) (rest more : List ℕ) → BeginsWithMessages bytes ms rest
    → BeginsWithMessages (bytes ++ more) ms (rest ++ more)
front_append bytes [] rest more f = ap (λ (l : List ℕ). l ++ more) f
front_append bytes (bad ∷ ms) rest more f = absurd f
front_append bytes (good parsed body ∷ ms) rest more f =
    (f.0 ++ more, stands_append bytes parsed body f.0 more f.1, f.2, front_append f.0 ms rest more f.3)

pub front_then : (a : List ℕ) (ms ns : List Message) (b c : List ℕ) → BeginsWithMessages a ms b
    → BeginsWithMessages b ns c → BeginsWithMessages a (ms ++ ns) c
front_then a [] ns b c f h = rw f h
front_then a (bad ∷ ms) ns b c f h = absurd f
front_then a (good parsed body ∷ ms) ns b c f h = (f.0, f.1, f.2, front_then f.0 ms ns b c f.3 h)

closes_not : (b : Bool) (P : Type 0) → b ≡ false → b ≡ true → P
closes_not b P e f = let bad : false ≡ true = sym e ∙ f in absurd (cc)

pub front_messages : (a : List ℕ) (ms ns : List Message) (b : List ℕ) → BeginsWithMessages a ms b → Messages b ns
    → Messages a (ms ++ ns)
front_messages a [] ns b f m = rw f m
front_messages a (bad ∷ ms) ns b f m = absurd f
front_messages a (good parsed body ∷ ms) ns b f m =
    (f.0, f.1, (λ t. closes_not parsed.closes _ f.2 t), (λ _. front_messages f.0 ms ns b f.3 m))

module _ {D : Type 0} (answers : D → Head → List ℕ → List ℕ → D → Type 0) where
  pub run_then : (old mid new : D) (ms ns : List Message) (x y : List ℕ) → MessageRun answers old ms x mid
      → MessageRun answers mid ns y new → MessageRun answers old (ms ++ ns) (x ++ y) new
  run_then old mid new [] ns x y r q = rw (r.0) (rw (← r.1) q)
  run_then old mid new (bad ∷ ms) ns x y r q =
      (r.0 ++ y, ap (λ (l : List ℕ). l ++ y) r.1 ∙ append_assoc bad_bytes r.0 y, run_then old mid new ms ns r.0 y r.2 q)
  run_then old mid new (good parsed body ∷ ms) ns x y r q = (
    r.0,
    r.1 ++ y,
    r.2,
    r.3,
    ap (λ (l : List ℕ). l ++ y) r.4 ∙ append_assoc r.0 r.1 y,
    run_then r.2 mid new ms ns r.1 y r.5 q,
  )

  pub served_to_none : (held : List ℕ) (old : D) (before : Option (List ℕ))
      → IsServedTo answers held held old old before before
  served_to_none held old before =
      record { done = []; bytes = []; front = refl; run = (refl, refl); put = appends_none before }

  pub served_to_one : (held : List ℕ) (parsed : Head) (body rest : List ℕ) (old new : D) (reply : List ℕ)
      (before after : Option (List ℕ))
      → HasMessageInFront held parsed body rest → parsed.closes ≡ false → answers old parsed body reply new
      → Appends before after reply → IsServedTo answers held rest old new before after
  served_to_one held parsed body rest old new reply before after s e a p = record {
    done = good parsed body ∷ [];
    bytes = reply;
    front = (rest, s, e, refl);
    run = (reply, [], new, a, sym (append-nil reply), (refl, refl));
    put = p;
  }

  pub ended_one : (held : List ℕ) (parsed : Head) (body rest : List ℕ) (old new : D) (reply : List ℕ)
      (before after : Option (List ℕ))
      → HasMessageInFront held parsed body rest → parsed.closes ≡ true → answers old parsed body reply new
      → Appends before after reply → Ended answers held old new before after
  ended_one held parsed body rest old new reply before after s e a p = record {
    done = good parsed body ∷ [];
    bytes = reply;
    messages = λ more. (
      rest ++ more,
      stands_append held parsed body rest more s,
      (λ _. refl),
      (λ f. closes_not parsed.closes _ f e),
    );
    run = (reply, [], new, a, sym (append-nil reply), (refl, refl));
    put = p;
  }

  pub ended_bad : (held : List ℕ) (old : D) (before after : Option (List ℕ)) → NeverHas held
      → are_line_breaks held ≡ false → Appends before after bad_bytes
      → Ended answers held old old before after
  ended_bad held old before after never not_blank p = record {
    done = bad ∷ [];
    bytes = bad_bytes;
    messages = λ more. (
      list_all-append _ held more ∙ ap (λ (b : Bool). b && are_line_breaks more) not_blank,
      never more,
      refl,
    );
    run = ([], sym (append-nil bad_bytes), (refl, refl));
    put = p;
  }

  pub cut_one : (held : List ℕ) (parsed : Head) (body rest : List ℕ) (old new : D) (reply : List ℕ)
      (before after : Option (List ℕ))
      → HasMessageInFront held parsed body rest → answers old parsed body reply new → AppendsSome before after reply
      → LastReplyCutShort answers (λ ms. (more : List ℕ) → AreFirstMessages (held ++ more) ms) old new before after
  cut_one held parsed body rest old new reply before after s a p = record {
    done = [];
    last = good parsed body;
    bytes = [];
    reply = reply;
    mid = old;
    whole = before;
    begun = λ more. (rest ++ more, stands_append held parsed body rest more s, (λ _. refl), (λ _. tt));
    run = (refl, refl);
    step = (reply, [], new, a, sym (append-nil reply), (refl, refl));
    put = appends_none before;
    some = p;
  }

  pub cut_bad : (held : List ℕ) (old : D) (before after : Option (List ℕ)) → NeverHas held
      → are_line_breaks held ≡ false → AppendsSome before after bad_bytes
      → LastReplyCutShort answers (λ ms. (more : List ℕ) → AreFirstMessages (held ++ more) ms) old old before after
  cut_bad held old before after never not_blank p = record {
    done = [];
    last = bad;
    bytes = [];
    reply = bad_bytes;
    mid = old;
    whole = before;
    begun = λ more. (
      list_all-append _ held more ∙ ap (λ (b : Bool). b && are_line_breaks more) not_blank,
      never more,
      refl,
    );
    run = (refl, refl);
    step = ([], sym (append-nil bad_bytes), (refl, refl));
    put = appends_none before;
    some = p;
  }

pub front_starts : (a : List ℕ) (ms ns : List Message) (b : List ℕ) → BeginsWithMessages a ms b → AreFirstMessages b ns
    → AreFirstMessages a (ms ++ ns)
front_starts a [] ns b f m = rw f m
front_starts a (bad ∷ ms) ns b f m = absurd f
front_starts a (good parsed body ∷ ms) ns b f m =
    (f.0, f.1, (λ t. closes_not parsed.closes _ f.2 t), (λ _. front_starts f.0 ms ns b f.3 m))

-- what a whole stream has, it begins with
pub messages_first : (bytes : List ℕ) (ms : List Message) → Messages bytes ms → AreFirstMessages bytes ms
messages_first bytes [] m = tt
messages_first bytes (bad ∷ ms) m = m
messages_first bytes (good parsed body ∷ ms) m = (m.0, m.1, m.2, λ transition. messages_first m.0 ms (m.3 transition))

pub front_first : (a : List ℕ) (ms : List Message) (b : List ℕ) → BeginsWithMessages a ms b → AreFirstMessages a ms
front_first a [] b f = tt
front_first a (bad ∷ ms) b f = absurd f
front_first a (good parsed body ∷ ms) b f =
    (f.0, f.1, (λ t. closes_not parsed.closes _ f.2 t), (λ _. front_first f.0 ms b f.3))

pub some_more : (a b c : Option (List ℕ)) (x y : List ℕ) → Appends a b x → AppendsSome b c y → AppendsSome a c (x ++ y)
some_more a b c x y p (front, rest, e, q) =
    (x ++ front, rest, ap (λ (l : List ℕ). x ++ l) e ∙ sym (append_assoc x front rest), appends_more a b c x front p q)

module _ {D : Type 0} (answers : D → Head → List ℕ → List ℕ → D → Type 0) where
  pub served_to_then : (a b c : List ℕ) (old mid new : D) (x y z : Option (List ℕ)) → IsServedTo answers a b old mid x y
      → IsServedTo answers b c mid new y z
      → IsServedTo answers a c old new x z
  served_to_then a b c old mid new x y z f h = record {
    done = f.done ++ h.done;
    bytes = f.bytes ++ h.bytes;
    front = front_then a f.done h.done b c f.front h.front;
    run = run_then answers old mid new f.done h.done f.bytes h.bytes f.run h.run;
    put = appends_more x y z f.bytes h.bytes f.put h.put;
  }

  pub served_to_ended : (a b : List ℕ) (old mid new : D) (x y z : Option (List ℕ)) → IsServedTo answers a b old mid x y
      → Ended answers b mid new y z
      → Ended answers a old new x z
  served_to_ended a b old mid new x y z f h = record {
    done = f.done ++ h.done;
    bytes = f.bytes ++ h.bytes;
    messages =
        λ more. front_messages (a ++ more) f.done h.done (b ++ more) (front_append a f.done b more f.front)
        (h.messages more);
    run = run_then answers old mid new f.done h.done f.bytes h.bytes f.run h.run;
    put = appends_more x y z f.bytes h.bytes f.put h.put;
  }

  -- a cut after messages that were answered whole
  pub then_cut : (P Q : List Message → Type 0) (done : List Message) (bytes : List ℕ) (old mid new : D)
      (x y z : Option (List ℕ))
      → MessageRun answers old done bytes mid → Appends x y bytes
      → ((ms : List Message) (last : Message) → P (ms ++ last ∷ []) → Q (done ++ (ms ++ last ∷ [])))
      → LastReplyCutShort answers P mid new y z → LastReplyCutShort answers Q old new x z
  then_cut P Q done bytes old mid new x y z r g begins c = record {
    done = done ++ c.done;
    last = c.last;
    bytes = bytes ++ c.bytes;
    reply = c.reply;
    mid = c.mid;
    whole = c.whole;
    begun = rw (append_assoc done c.done (c.last ∷ [])) (begins c.done c.last c.begun);
    run = run_then answers old mid c.mid done c.done bytes c.bytes r c.run;
    step = c.step;
    put = appends_more x y c.whole bytes c.bytes g c.put;
    some = c.some;
  }

  pub served_to_cut : (a b : List ℕ) (old mid new : D) (x y z : Option (List ℕ)) → IsServedTo answers a b old mid x y
      → LastReplyCutShort answers (λ ms. (more : List ℕ) → AreFirstMessages (b ++ more) ms) mid new y z
      → LastReplyCutShort answers (λ ms. (more : List ℕ) → AreFirstMessages (a ++ more) ms) old new x z
  served_to_cut a b old mid new x y z f c =
      then_cut (λ ms. (more : List ℕ) → AreFirstMessages (b ++ more) ms)
      (λ ms. (more : List ℕ) → AreFirstMessages (a ++ more) ms) f.done f.bytes old mid new x y z f.run f.put
      (λ ms last h more. front_starts (a ++ more) f.done (ms ++ last ∷ []) (b ++ more)
      (front_append a f.done b more f.front) (h more)) c

  -- what a cut put is a prefix of the replies
  pub cut_broke : {last : ℕ} (stream left : Option (List ℕ)) (old new : D) (x y : Option (List ℕ))
      → LastReplyCutShort answers (AreFirstUpTo stream left last) old new x y
      → RepliesCutShort answers stream old new x y
  cut_broke stream left old new x y c = record {
    done = c.done ++ c.last ∷ [];
    bytes = c.bytes ++ c.reply;
    messages = c.begun.0;
    run = run_then answers old c.mid new c.done (c.last ∷ []) c.bytes c.reply c.run c.step;
    put = some_more x c.whole y c.bytes c.reply c.put c.some;
  }
