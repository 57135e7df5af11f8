-- CR and LF bytes, passed over.
use Rattle.std.proofs.Common.{◌≡◌, ◌≢◌, ℕ, ◌+◌, ◌-◌, ◌*◌, ◌<◌, ◌≤◌, ◌&&◌, Bool, true, false, List, [], ◌∷◌, ◌++◌}
use Rattle.std.proofs.Common.{length, take, Option, None, Some, Ok, IfSome, inl, refl, sym, ◌∙◌, ap, append_assoc}
use Rattle.std.proofs.Common.{append-nil, length-append, length-take-le, arith}
use Rattle.std.proofs.lemmas.Grind.{common_steps}
use Rattle.std.proofs.lemmas.List.Folds.{list_all-append}
use Rattle.std.proofs.Math.Nat.{min-le_left}
use Rattle.life_rle.specs.Stream.{incremented, last_count, Consumes, ConsumesUpTo}
use Rattle.life_rle.specs.declared.stream.Failed.{Failed}
use Rattle.life_rle.specs.Stream.{Appends, AppendsSome}
use Rattle.life_rle.proofs.StreamLemmas.{appends_more, appends_none, consumes_on}
use Rattle.life_pages.specs.Head.{Head}
use Rattle.life_pages.specs.Reply.{bad_bytes}
use Rattle.life_pages.specs.Message.{Message, bad, Messages, AreFirstMessages, MessageRun, are_line_breaks}
use Rattle.life_pages.specs.MessageState.{NeverHas}
use Rattle.life_pages.specs.Serving.{most_takes, most_taken, AreFirstUpTo, StreamBeginsWithMessages, Served}
use Rattle.life_pages.specs.Serving.{LastReplyCutShort}
use Rattle.life_pages.specs.Serving.{ServedSoFar, ConsumesAtLeast}
use Rattle.life_pages.specs.ServingState.{HoldsTaken, PassesBlank, PassesThen, IsBlankRest}
use Rattle.life_pages.proofs.ServingRunning.{front_messages, front_starts, run_then, then_cut}
use Rattle.life_pages.proofs.ServingReading.{Reading, reading_more, paused, fronts_more, whole_before}

pub consumes_then : (a b c : Option (List ℕ)) (x y : List ℕ) → Consumes a b x → Consumes b c y → Consumes a c (x ++ y)
consumes_then None b c x y p q = tt
consumes_then (Some a) None c x y p q = absurd p
consumes_then (Some a) (Some b) None x y p q = absurd q
consumes_then (Some a) (Some b) (Some c) x y p q = p ∙ ap (λ (l : List ℕ). x ++ l) q ∙ sym (append_assoc x y c)

pub blank_both : (x y : List ℕ) → are_line_breaks x ≡ true → are_line_breaks y ≡ true → are_line_breaks (x ++ y) ≡ true
blank_both x y p q = list_all-append _ x y ∙ rw (p, q) refl

some_length : (k : ℕ) (space : List ℕ) → k ≢ 0 → k ≤ length space → 0 < length (take k space)
some_length k space some within = rw (length-take-le k space within) (omega (arith, some))

pub passes_more : (old mid new : Option (List ℕ)) (n k : ℕ) (space : List ℕ) → PassesBlank n old mid
    → Consumes mid new (take k space) → k ≢ 0 → k ≤ length space
    → are_line_breaks (take k space) ≡ true → PassesBlank (n + 1) old new
passes_more old mid new n k space (bytes, many, blank, lost) more some within white =
    let l = length-append bytes (take k space) in
    let s = some_length k space some within in (
      bytes ++ take k space,
      omega (arith, l, s, many),
      blank_both bytes (take k space) blank white,
      consumes_then old mid new bytes (take k space) lost more,
    )

other_later : (x y z : List ℕ) → are_line_breaks y ≡ false → are_line_breaks (x ++ (y ++ z)) ≡ false
other_later x y z e =
    list_all-append _ x (y ++ z) ∙ ap (λ (b : Bool). are_line_breaks x && b) (list_all-append _ y z)
    ∙ rw e (and_false (are_line_breaks x))
  where
    and_false : (b : Bool) → (b && false) ≡ false
    and_false true = refl
    and_false false = refl

pub passed_other : (old mid new : Option (List ℕ)) (n : ℕ) (y : List ℕ) → PassesBlank n old mid
    → Consumes mid new y → are_line_breaks y ≡ false → IsBlankRest old false
passed_other None mid new n y p l e = tt
passed_other (Some old) None new n y (bytes, many, blank, lost) l e = absurd lost
passed_other (Some old) (Some mid) None n y p l e = absurd l
passed_other (Some old) (Some mid) (Some new) n y (bytes, many, blank, lost) l e =
    rw (lost, l) (other_later bytes y new e)

pub passed_then : {most : ℕ} (old mid new : Option (List ℕ)) (n k : ℕ) (space : List ℕ) → PassesBlank n old mid
    → Consumes mid new (take k space) → are_line_breaks (take k space) ≡ false → length space ≡ most_taken → most ≡ k
    → IsBlankRest old false × PassesThen most old new
passed_then old mid new n k space p l e short last =
    let all : length (take k space) ≤ length space = grind (arith, common_steps) in
    let some : length (take k space) ≤ k = grind (arith, common_steps) in (
      passed_other old mid new n (take k space) p l e,
      (p.0, mid, take k space, p.2, p.3, l, omega (arith, all, short), omega (arith, some, last)),
    )

-- ---- how much was taken

pub many_passed : (a b c : Option (List ℕ)) (n k all : ℕ) → ConsumesAtLeast n a b → PassesBlank k b c
    → all ≤ n + k → ConsumesAtLeast all a c
many_passed a b c n k all (x, first, p) (y, second, blank, q) fits =
    let l = length-append x y in
    (x ++ y, omega (arith, l, first, second, fits), consumes_then a b c x y p q)

pub many_fed : (a b c : Option (List ℕ)) (n k : ℕ) (held all : List ℕ) → ConsumesAtLeast n a b
    → HoldsTaken {E = Failed} b c held all (Ok k) → k ≢ 0 → ConsumesAtLeast (n + 1) a c
many_fed a b c n k held all (x, first, p) f some =
    let l = length-append x f.0 in
    let m = f.4 in
    (x ++ f.0, omega (arith, l, first, m, some), consumes_then a b c x f.0 p f.1)

-- ---- how much is taken at most

-- so many takes of a piece each, and one more
pub most_passed : (old mid new : Option (List ℕ)) (n k : ℕ) (space : List ℕ) → ConsumesUpTo (n * most_taken) old mid
    → Consumes mid new (take k space) → length space ≡ most_taken
    → ConsumesUpTo ((n + 1) * most_taken) old new
most_passed old mid new n k space before more short =
    consumes_on old mid new (n * most_taken) most_taken ((n + 1) * most_taken) (take k space) before more
    (let l = length-take-most k space in omega arith) (omega arith)
  where
    length-take-most : (k : ℕ) (space : List ℕ) → length (take k space) ≤ length space
    length-take-most k space = grind (arith, common_steps)

-- and that was not the last
pub most_taken_more : (old mid new : Option (List ℕ)) (n k takes : ℕ) (space : List ℕ)
    → ConsumesUpTo (n * most_taken) old mid → Consumes mid new (take k space) → length space ≡ most_taken
    → n < takes → ConsumesUpTo (takes * most_taken) old new
most_taken_more old mid new n k takes space before more short few =
    let (bytes, less, lost) = most_passed old mid new n k space before more short in
    (bytes, omega (arith, less, few), lost)

pub most_fed : (a b c : Option (List ℕ)) (n k : ℕ) (held all : List ℕ) → ConsumesUpTo (n * most_taken) a b
    → HoldsTaken {E = Failed} b c held all (Ok k) → k ≤ most_taken
    → ConsumesUpTo ((n + 1) * most_taken) a c
most_fed a b c n k held all before f short =
    consumes_on a b c (n * most_taken) most_taken ((n + 1) * most_taken) f.0 before f.1
    (let l = f.4 in omega arith) (omega arith)

pub most_blank : (a b c : Option (List ℕ)) (n : ℕ) → n ≤ most_takes → ConsumesUpTo (n * most_taken) a b
    → ConsumesUpTo ((most_takes - n) * most_taken) b c
    → ConsumesUpTo (most_takes * most_taken) a c
most_blank a b c n few before (piece, short, lost) =
    consumes_on a b c (n * most_taken) ((most_takes - n) * most_taken)
    (most_takes * most_taken) piece before lost short (omega arith)

-- ---- how many takes are made

pub one_take : (start now next n : ℕ) → now ≤ start + n → next ≡ incremented now → next ≤ start + (n + 1)
one_take start now next n before is = let most = min-le_left (now + 1) last_count in omega (arith, before, is, most)

-- ---- what became of a stream after long blank bytes

fronts_starts_rest : (stream left : Option (List ℕ)) (ms ns : List Message) (held : List ℕ)
    → StreamBeginsWithMessages stream ms held left
    → IfSome left (λ l. AreFirstMessages (held ++ l) ns) → IfSome stream (λ s. AreFirstMessages s (ms ++ ns))
fronts_starts_rest None left ms ns held f m = tt
fronts_starts_rest (Some stream) None ms ns held f m = absurd f
fronts_starts_rest (Some stream) (Some left) ms ns held f m = front_starts stream ms ns (held ++ left) f m

blank_not : (x y : List ℕ) → are_line_breaks y ≡ false → are_line_breaks (x ++ y) ≡ false
blank_not x y e = rw (← append-nil y) (other_later x y [] e)

begins_bad : (left : Option (List ℕ)) (held : List ℕ) → IsBlankRest left false → NeverHas held
    → IfSome left (λ l. AreFirstMessages (held ++ l) (bad ∷ []))
begins_bad None held rest never = tt
begins_bad (Some l) held rest never = (blank_not held l rest, never l, refl)

fronts_messages_rest : (stream left : Option (List ℕ)) (ms ns : List Message) (held : List ℕ)
    → StreamBeginsWithMessages stream ms held left
    → IfSome left (λ l. Messages (held ++ l) ns) → IfSome stream (λ s. Messages s (ms ++ ns))
fronts_messages_rest None left ms ns held f m = tt
fronts_messages_rest (Some stream) None ms ns held f m = absurd f
fronts_messages_rest (Some stream) (Some left) ms ns held f m = front_messages stream ms ns (held ++ left) f m

none_left : (left : Option (List ℕ)) (held : List ℕ) → are_line_breaks held ≡ true → IsBlankRest left true
    → IfSome left (λ l. Messages (held ++ l) [])
none_left None held blank rest = tt
none_left (Some l) held blank rest = blank_both held l blank rest

bad_left : (left : Option (List ℕ)) (held : List ℕ) → IsBlankRest left false → NeverHas held
    → IfSome left (λ l. Messages (held ++ l) (bad ∷ []))
bad_left None held rest never = tt
bad_left (Some l) held rest never = (blank_not held l rest, never l, refl)

module _ {D : Type 0} (answers : D → Head → List ℕ → List ℕ → D → Type 0) where
  -- and messages after those that were answered, which are all that is left
  reading_rest : (stream left : Option (List ℕ)) (held : List ℕ) (old new : D) (x y z : Option (List ℕ))
      (ms : List Message) (bytes : List ℕ) → Reading answers stream left held old new x y
      → IfSome left (λ l. Messages (held ++ l) ms) → MessageRun answers new ms bytes new → Appends y z bytes
      → Served answers stream old new x z
  reading_rest stream left held old new x y z ms bytes r m run put = record {
    done = r.done ++ ms;
    bytes = r.bytes ++ bytes;
    messages = fronts_messages_rest stream left r.done ms held r.front m;
    run = run_then answers old new new r.done ms r.bytes bytes r.run run;
    put = appends_more x y z r.bytes bytes r.put put;
  }

  pub blank_end : (stream left : Option (List ℕ)) (held : List ℕ) (old new : D) (x y : Option (List ℕ))
      → Reading answers stream left held old new x y
      → are_line_breaks held ≡ true → IsBlankRest left true → Served answers stream old new x y
  blank_end stream left held old new x y r blank rest =
      reading_rest stream left held old new x y y [] [] r (none_left left held blank rest) (refl, refl) (appends_none y)

  pub other_end : (stream left : Option (List ℕ)) (held : List ℕ) (old new : D) (x y z : Option (List ℕ))
      → Reading answers stream left held old new x y
      → NeverHas held → IsBlankRest left false → Appends y z bad_bytes → Served answers stream old new x z
  other_end stream left held old new x y z r never rest p =
      reading_rest stream left held old new x y z (bad ∷ []) bad_bytes r (bad_left left held rest never)
      ([], sym (append-nil bad_bytes), (refl, refl)) p

  pub other_cut : {most : ℕ} (stream left next : Option (List ℕ)) (held : List ℕ) (old new : D)
      (x y z : Option (List ℕ)) → Reading answers stream left held old new x y
      → NeverHas held → IsBlankRest left false → PassesThen most left next → AppendsSome y z bad_bytes
      → LastReplyCutShort answers (AreFirstUpTo stream next most) old new x z
  other_cut {most} stream left next held old new x y z r never rest
      (blank, mid, piece, white, lost, taken, short, few) p =
      then_cut answers (λ ms. IfSome left (λ l. AreFirstMessages (held ++ l) ms))
      (AreFirstUpTo stream next most) r.done r.bytes old new new x y z r.run r.put
      (λ ms last h. (
        fronts_starts_rest stream left r.done (ms ++ last ∷ []) held r.front h,
        whole_before stream next mid r.done ms last (held ++ blank) piece
            (fronts_more stream left mid r.done held blank (held ++ blank) r.front lost refl)
            (never blank) taken (short, few),
      ))
      (record {
        done = [];
        last = bad;
        bytes = [];
        reply = bad_bytes;
        mid = new;
        whole = y;
        begun = begins_bad left held rest never;
        run = (refl, refl);
        step = ([], sym (append-nil bad_bytes), (refl, refl));
        put = appends_none y;
        some = p;
      })

  pub passed_paused : (stream left next : Option (List ℕ)) (held : List ℕ) (n : ℕ) (old new : D) (x y : Option (List ℕ))
      → Reading answers stream left held old new x y
      → are_line_breaks held ≡ true → NeverHas held → PassesBlank n left next
      → ServedSoFar answers stream next old new x y
  passed_paused stream left next held n old new x y r held_blank never (bytes, many, blank, lost) =
      paused answers stream next (held ++ bytes) old new x y
      (reading_more answers stream left next held bytes (held ++ bytes) old new x y r lost refl) (never bytes)
      (inl (blank_both held bytes held_blank blank))
