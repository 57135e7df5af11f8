-- The part of a stream that was taken.
use Rattle.std.proofs.Common.{◌≡◌, ◌≤◌, length, arith, true≢false, ℕ, false, List, [], ◌∷◌, ◌++◌, Option, None, Some}
use Rattle.std.proofs.Common.{Ok, IfSome, refl, sym, ◌∙◌, ap, append_assoc, append-nil}
use Rattle.life_pages.specs.Head.{Head}
use Rattle.life_rle.specs.Stream.{Appends, AppendsSome, Consumes, IsEnded}
use Rattle.life_rle.proofs.StreamLemmas.{appends_more, appends_none}
use Rattle.life_rle.specs.declared.stream.Failed.{Failed}
use Rattle.life_pages.specs.Reply.{bad_bytes}
use Rattle.life_pages.specs.Message.{Message, bad, Messages, BeginsWithMessages, AreFirstMessages, MessageRun, HasNone}
use Rattle.life_pages.specs.Message.{IsAwaited}
use Rattle.life_pages.specs.Message.{are_line_breaks}
use Rattle.life_pages.specs.Serving.{AreFirstUpTo, WholeBefore, RepliesCutShort, Served, StreamBeginsWithMessages}
use Rattle.life_pages.specs.Serving.{ServedSoFar}
use Rattle.life_pages.specs.Serving.{LastReplyCutShort}
use Rattle.life_pages.specs.ServingState.{IsServedTo, Ended, HoldsTaken}
use Rattle.life_pages.proofs.MessageStanding.{not_blank}
use Rattle.life_pages.proofs.ServingRunning.{front_then, front_append, front_messages, front_starts, messages_first}
use Rattle.life_pages.proofs.ServingRunning.{front_first, run_then, then_cut}

fronts_none : (stream : Option (List ℕ)) → StreamBeginsWithMessages stream [] [] stream
fronts_none None = tt
fronts_none (Some stream) = refl

fronts_then : (stream left : Option (List ℕ)) (ms ns : List Message) (held rest : List ℕ)
    → StreamBeginsWithMessages stream ms held left
    → BeginsWithMessages held ns rest
    → StreamBeginsWithMessages stream (ms ++ ns) rest left
fronts_then None left ms ns held rest f h = tt
fronts_then (Some stream) None ms ns held rest f h = absurd f
fronts_then (Some stream) (Some left) ms ns held rest f h =
    front_then stream ms ns (held ++ left) (rest ++ left) f (front_append held ns rest left h)

pub fronts_more : (stream left next : Option (List ℕ)) (ms : List Message) (held some all : List ℕ)
    → StreamBeginsWithMessages stream ms held left → Consumes left next some
    → all ≡ held ++ some → StreamBeginsWithMessages stream ms all next
fronts_more None left next ms held some all f l e = tt
fronts_more (Some stream) None next ms held some all f l e = absurd f
fronts_more (Some stream) (Some left) None ms held some all f l e = absurd l
fronts_more (Some stream) (Some left) (Some next) ms held some all f l e =
    let same : held ++ left ≡ all ++ next = ap (λ (x : List ℕ). held ++ x) l ∙ sym (append_assoc held some next)
    ∙ ap (λ (x : List ℕ). x ++ next) (sym e) in
    rw (← same) f

fronts_ended : (stream left : Option (List ℕ)) (ms ns : List Message) (held : List ℕ)
    → StreamBeginsWithMessages stream ms held left
    → ((more : List ℕ) → Messages (held ++ more) ns) → IfSome stream (λ s. Messages s (ms ++ ns))
fronts_ended None left ms ns held f m = tt
fronts_ended (Some stream) None ms ns held f m = absurd f
fronts_ended (Some stream) (Some left) ms ns held f m = front_messages stream ms ns (held ++ left) f (m left)

fronts_end : (stream left : Option (List ℕ)) (ms ns : List Message) (held : List ℕ)
    → StreamBeginsWithMessages stream ms held left
    → IsEnded left → Messages held ns
    → IfSome stream (λ s. Messages s (ms ++ ns))
fronts_end None left ms ns held f e m = tt
fronts_end (Some stream) None ms ns held f e m = absurd f
fronts_end (Some stream) (Some left) ms ns held f e m =
    front_messages stream ms ns (held ++ left) f (rw (e, append-nil held) m)

all_first : (stream : Option (List ℕ)) (ms : List Message) → IfSome stream (λ s. Messages s ms)
    → IfSome stream (λ s. AreFirstMessages s ms)
all_first None ms m = tt
all_first (Some stream) ms m = messages_first stream ms m

fronts_first : (stream left : Option (List ℕ)) (ms : List Message) (held : List ℕ)
    → StreamBeginsWithMessages stream ms held left
    → IfSome stream (λ s. AreFirstMessages s ms)
fronts_first None left ms held f = tt
fronts_first (Some stream) None ms held f = absurd f
fronts_first (Some stream) (Some left) ms held f = front_first stream ms (held ++ left) f

module _ {D : Type 0} (answers : D → Head → List ℕ → List ℕ → D → Type 0) where
  pub record Reading (stream left : Option (List ℕ)) (held : List ℕ) (old new : D)
      (before after : Option (List ℕ)) : Type 0 where
    pub done : List Message
    pub bytes : List ℕ
    pub front : StreamBeginsWithMessages stream done held left
    pub run : MessageRun answers old done bytes new
    pub put : Appends before after bytes

  pub reading_none : (stream : Option (List ℕ)) (old : D) (before : Option (List ℕ))
      → Reading stream stream [] old old before before
  reading_none stream old before =
      record { done = []; bytes = []; front = fronts_none stream; run = (refl, refl); put = appends_none before }

  pub reading_went : (stream left : Option (List ℕ)) (held rest : List ℕ) (old mid new : D) (x y z : Option (List ℕ))
      → Reading stream left held old mid x y
      → IsServedTo answers held rest mid new y z → Reading stream left rest old new x z
  reading_went stream left held rest old mid new x y z r w = record {
    done = r.done ++ w.done;
    bytes = r.bytes ++ w.bytes;
    front = fronts_then stream left r.done w.done held rest r.front w.front;
    run = run_then answers old mid new r.done w.done r.bytes w.bytes r.run w.run;
    put = appends_more x y z r.bytes w.bytes r.put w.put;
  }

  pub reading_more : (stream left next : Option (List ℕ)) (held some all : List ℕ) (old new : D) (x y : Option (List ℕ))
      → Reading stream left held old new x y
      → Consumes left next some → all ≡ held ++ some → Reading stream next all old new x y
  reading_more stream left next held some all old new x y r l e = record {
    done = r.done;
    bytes = r.bytes;
    front = fronts_more stream left next r.done held some all r.front l e;
    run = r.run;
    put = r.put;
  }

  pub reading_ended : (stream left : Option (List ℕ)) (held : List ℕ) (old mid new : D) (x y z : Option (List ℕ))
      → Reading stream left held old mid x y
      → Ended answers held mid new y z → Served answers stream old new x z
  reading_ended stream left held old mid new x y z r e = record {
    done = r.done ++ e.done;
    bytes = r.bytes ++ e.bytes;
    messages = fronts_ended stream left r.done e.done held r.front e.messages;
    run = run_then answers old mid new r.done e.done r.bytes e.bytes r.run e.run;
    put = appends_more x y z r.bytes e.bytes r.put e.put;
  }

  pub reading_end : (stream left : Option (List ℕ)) (held : List ℕ) (old mid new : D) (x y z : Option (List ℕ))
      → Reading stream left held old mid x y
      → IsEnded left → Served answers (Some held) mid new y z → Served answers stream old new x z
  reading_end stream left held old mid new x y z r ended e = record {
    done = r.done ++ e.done;
    bytes = r.bytes ++ e.bytes;
    messages = fronts_end stream left r.done e.done held r.front ended e.messages;
    run = run_then answers old mid new r.done e.done r.bytes e.bytes r.run e.run;
    put = appends_more x y z r.bytes e.bytes r.put e.put;
  }

  -- the end of the input in the middle of a message
  pub bad_end : (held : List ℕ) (desk : D) (x y : Option (List ℕ)) → are_line_breaks held ≡ false
      → HasNone held → Appends x y bad_bytes
      → Served answers (Some held) desk desk x y
  bad_end held desk x y b n p = record {
    done = bad ∷ [];
    bytes = bad_bytes;
    messages = (b, n, refl);
    run = ([], sym (append-nil bad_bytes), (refl, refl));
    put = p;
  }

  -- all messages are the first of them
  pub served_broke : (stream : Option (List ℕ)) (old new : D) (x y : Option (List ℕ))
      → Served answers stream old new x y → RepliesCutShort answers stream old new x y
  served_broke stream old new x y e = record {
    done = e.done;
    bytes = e.bytes;
    messages = all_first stream e.done e.messages;
    run = e.run;
    put = (e.bytes, [], sym (append-nil e.bytes), e.put);
  }

  pub so_far_broke : (stream left : Option (List ℕ)) (old new : D) (x y : Option (List ℕ))
      → ServedSoFar answers stream left old new x y → RepliesCutShort answers stream old new x y
  so_far_broke stream left old new x y e = record {
    done = e.done;
    bytes = e.bytes;
    messages = fronts_first stream left e.done e.held e.front;
    run = e.run;
    put = (e.bytes, [], sym (append-nil e.bytes), e.put);
  }

  -- more bytes came
  pub reading_fed : (stream left next : Option (List ℕ)) (held all : List ℕ) (k : ℕ) (old new : D)
      (x y : Option (List ℕ)) → Reading stream left held old new x y
      → HoldsTaken {E = Failed} left next held all (Ok k) → Reading stream next all old new x y
  reading_fed stream left next held all k old new x y r f =
      reading_more stream left next held f.0 all old new x y r f.1 f.2

-- no more bytes came
pub fed_end : (left next : Option (List ℕ)) (held all : List ℕ) (k : ℕ)
    → HoldsTaken {E = Failed} left next held all (Ok k)
    → k ≡ 0 → (all ≡ held) × IsEnded left
fed_end left next held all k f z = (f.2 ∙ ap (λ (l : List ℕ). held ++ l) (f.3 z).0 ∙ append-nil held, (f.3 z).1)

module _ {D : Type 0} (answers : D → Head → List ℕ → List ℕ → D → Type 0) where
  pub paused : (stream left : Option (List ℕ)) (held : List ℕ) (old new : D) (x y : Option (List ℕ))
      → Reading answers stream left held old new x y → HasNone held
      → IsAwaited held → ServedSoFar answers stream left old new x y
  paused stream left held old new x y r n a =
      record {
        done = r.done;
        bytes = r.bytes;
        held = held;
        front = r.front;
        none = n;
        awaited = a;
        run = r.run;
        put = r.put;
      }

-- a take that failed left the stream as it was
pub reading_failed : {D : Type 0} (answers : D → Head → List ℕ → List ℕ → D → Type 0)
    (stream left next : Option (List ℕ)) (held all : List ℕ) (old new : D) (x y : Option (List ℕ))
    → Reading answers stream left held old new x y → Consumes left next []
    → Reading answers stream next held old new x y
reading_failed answers stream left next held all old new x y r l =
    reading_more answers stream left next held [] held old new x y r l (sym (append-nil held))

fronts_starts : (stream left : Option (List ℕ)) (ms ns : List Message) (held : List ℕ)
    → StreamBeginsWithMessages stream ms held left
    → ((more : List ℕ) → AreFirstMessages (held ++ more) ns) → IfSome stream (λ s. AreFirstMessages s (ms ++ ns))
fronts_starts None left ms ns held f m = tt
fronts_starts (Some stream) None ms ns held f m = absurd f
fronts_starts (Some stream) (Some left) ms ns held f m = front_starts stream ms ns (held ++ left) f (m left)

fronts_starts_end : (stream left : Option (List ℕ)) (ms ns : List Message) (held : List ℕ)
    → StreamBeginsWithMessages stream ms held left → IsEnded left
    → AreFirstMessages held ns → IfSome stream (λ s. AreFirstMessages s (ms ++ ns))
fronts_starts_end None left ms ns held f e m = tt
fronts_starts_end (Some stream) None ms ns held f e m = absurd f
fronts_starts_end (Some stream) (Some left) ms ns held f e m =
    front_starts stream ms ns (held ++ left) f (rw (e, append-nil held) m)

-- ---- what was taken before the last take

pub whole_before : {most : ℕ} (stream left before : Option (List ℕ)) (done ms : List Message)
    (last : Message) (held piece : List ℕ) → StreamBeginsWithMessages stream done held before → HasNone held
    → Consumes before left piece → (length piece ≤ 4096) × (length piece ≤ most)
    → WholeBefore stream left most (done ++ (ms ++ last ∷ []))
whole_before stream left before done [] last held piece whole none taken short =
    record {
      front = done;
      next = last;
      more = [];
      all = refl;
      before = before;
      held = held;
      whole = whole;
      none = none;
      piece = piece;
      taken = taken;
      short = short;
    }
whole_before stream left before done (m ∷ ms) last held piece whole none taken short =
    record {
      front = done;
      next = m;
      more = ms ++ last ∷ [];
      all = refl;
      before = before;
      held = held;
      whole = whole;
      none = none;
      piece = piece;
      taken = taken;
      short = short;
    }

none_in_nothing : HasNone []
none_in_nothing parsed body rest s = true≢false (not_blank [] s.head (body ++ rest) s.bytes_are)

pub consumes_none : (left : Option (List ℕ)) → Consumes left left []
consumes_none None = tt
consumes_none (Some left) = refl

module _ {D : Type 0} (answers : D → Head → List ℕ → List ℕ → D → Type 0) where
  -- a stream as far as it was taken, with the last take
  pub record Reached (stream left : Option (List ℕ)) (most : ℕ) (held : List ℕ) (old new : D)
      (x y : Option (List ℕ)) : Type 0 where
    pub done : List Message
    pub bytes : List ℕ
    pub run : MessageRun answers old done bytes new
    pub put : Appends x y bytes
    pub before : Option (List ℕ)
    pub kept : List ℕ
    pub whole : StreamBeginsWithMessages stream done kept before
    pub none : HasNone kept
    pub piece : List ℕ
    pub taken : Consumes before left piece
    pub is : held ≡ kept ++ piece
    pub short : (length piece ≤ 4096) × (length piece ≤ most)

  pub reached_none : (most : ℕ) (stream : Option (List ℕ)) (old : D) (x : Option (List ℕ))
      → Reached stream stream most [] old old x x
  reached_none most stream old x = record {
    done = [];
    bytes = [];
    run = (refl, refl);
    put = appends_none x;
    before = stream;
    kept = [];
    whole = fronts_none stream;
    none = none_in_nothing;
    piece = [];
    taken = consumes_none stream;
    is = refl;
    short = (omega arith, omega arith);
  }

  pub reached_start : {most : ℕ} (stream : Option (List ℕ)) (held : List ℕ) (old : D) (x : Option (List ℕ))
      → held ≡ [] → Reached stream stream most held old old x x
  reached_start {most} stream held old x is = rw is (reached_none most stream old x)

  pub reading_start : (stream : Option (List ℕ)) (held : List ℕ) (old : D) (x : Option (List ℕ))
      → held ≡ [] → Reading answers stream stream held old old x x
  reading_start stream held old x is = rw is (reading_none answers stream old x)

  pub reached_fed : {most : ℕ} (stream left next : Option (List ℕ)) (held all : List ℕ) (k : ℕ)
      (old new : D) (x y : Option (List ℕ)) → Reading answers stream left held old new x y → HasNone held
      → HoldsTaken {E = Failed} left next held all (Ok k) → k ≤ 4096 → most ≡ k
      → Reached stream next most all old new x y
  reached_fed stream left next held all k old new x y r none f few last = record {
    done = r.done;
    bytes = r.bytes;
    run = r.run;
    put = r.put;
    before = left;
    kept = held;
    whole = r.front;
    none = none;
    piece = f.0;
    taken = f.1;
    is = f.2;
    short = let l = f.4 in (omega (arith, l, few), omega (arith, l, last));
  }

  pub reached_cut : {most : ℕ} (stream left : Option (List ℕ)) (held : List ℕ) (old mid new : D)
      (x y z : Option (List ℕ)) → Reached stream left most held old mid x y
      → LastReplyCutShort answers (λ ms. (more : List ℕ) → AreFirstMessages (held ++ more) ms) mid new y z
      → LastReplyCutShort answers (AreFirstUpTo stream left most) old new x z
  reached_cut {most} stream left held old mid new x y z r c =
      then_cut answers (λ ms. (more : List ℕ) → AreFirstMessages (held ++ more) ms)
      (AreFirstUpTo stream left most) r.done r.bytes old mid new x y z r.run r.put
      (λ ms last h. (
        fronts_starts stream left r.done (ms ++ last ∷ []) held
            (fronts_more stream r.before left r.done r.kept r.piece held r.whole r.taken r.is) h,
        whole_before stream left r.before r.done ms last r.kept r.piece r.whole r.none r.taken r.short,
      )) c

  pub reading_cut_end : {most : ℕ} (stream left next : Option (List ℕ)) (held piece : List ℕ)
      (old mid new : D) (x y z : Option (List ℕ)) → Reading answers stream left held old mid x y
      → IsEnded left → HasNone held → Consumes left next piece → (length piece ≤ 4096) × (length piece ≤ most)
      → LastReplyCutShort answers (λ ms. AreFirstMessages held ms) mid new y z
      → LastReplyCutShort answers (AreFirstUpTo stream next most) old new x z
  reading_cut_end {most} stream left next held piece old mid new x y z r e none taken short c =
      then_cut answers (λ ms. AreFirstMessages held ms)
      (AreFirstUpTo stream next most) r.done r.bytes old mid new x y z r.run r.put
      (λ ms last h. (
        fronts_starts_end stream left r.done (ms ++ last ∷ []) held r.front e h,
        whole_before stream next left r.done ms last held piece r.front none taken short,
      )) c

  -- the last message, cut short by the end of the input
  pub bad_cut : (held : List ℕ) (desk : D) (x y : Option (List ℕ)) → are_line_breaks held ≡ false
      → HasNone held → AppendsSome x y bad_bytes
      → LastReplyCutShort answers (λ ms. AreFirstMessages held ms) desk desk x y
  bad_cut held desk x y b n p = record {
    done = [];
    last = bad;
    bytes = [];
    reply = bad_bytes;
    mid = desk;
    whole = x;
    begun = (b, n, refl);
    run = (refl, refl);
    step = ([], sym (append-nil bad_bytes), (refl, refl));
    put = appends_none x;
    some = p;
  }
