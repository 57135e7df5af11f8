-- What is at the front of the held bytes, from what the head reader says about their first 8,192.
use Rattle.std.proofs.Common.{◌≡◌, ℕ, ◌+◌, ◌-◌, ◌<◌, ◌≤◌, ◌==◌, ◌||◌, ◌&&◌, nat_le, nat_lt, map, codes, Bool, true}
use Rattle.std.proofs.Common.{false, List, [], ◌∷◌, ◌++◌, length, take, drop, Option, None, Some, option_map}
use Rattle.std.proofs.Common.{if◌then◌else◌, min, refl, sym, ◌∙◌, ap, subst, inl, inr, append_assoc, append-nil}
use Rattle.std.proofs.Common.{length-append, length-drop, length-take-le, arith}
use Rattle.std.proofs.lemmas.List.{take-append-drop, take_at, drop_at, take-append-le, drop-drop}
use Rattle.std.proofs.lemmas.Bool.{leb-true}
use Rattle.std.proofs.lemmas.Grind.{common_steps}
use Rattle.std.specs.List.{list_all}
use Rattle.httparse.specs.Grammar.{RequestHead, ReadsRequest, HasNoRequest, MayBecomeRequest, print_request}
use Rattle.httparse.specs.Grammar.{print_blank, print_version, print_end, print_section}
use Rattle.httparse.proofs.GrammarLemmas.{request_unique, ReadsRequest-append, print_request-append}
use Rattle.httparse.specs.Spans.{name_and_value}
use Rattle.life_pages.specs.Head.{Head, head_of, said_by, head_with, has_some, values_of, HeaderLine, line_limit}
use Rattle.life_pages.specs.Head.{body_length, within_limit, parsed_number, body_limit}
use Rattle.life_pages.specs.HeadState.{BeginsWith, NeverBegins, parsed}
use Rattle.life_pages.specs.declared.head.GoodHead.{GoodHead}
use Rattle.life_pages.specs.Message.{HasMessageInFront, HasNone, HasHeadAlone, are_line_breaks, head_limit}
use Rattle.life_pages.specs.MessageState.{NeverHas, held_limit, IsWanting, WantsUntil}

-- a front that is no longer than another front of the same list is its front
pub front_of : (a x c d : List ℕ) → a ++ x ≡ c ++ d → length a ≤ length c → c ≡ a ++ drop (length a) c
front_of a x c d e h =
    let t : take (length a) c ≡ a = sym (take-append-le (length a) c d h) ∙ ap (take (length a)) (sym e)
    ∙ take_at a x (length a) refl in
    sym (take-append-drop (length a) c) ∙ ap (λ (l : List ℕ). l ++ drop (length a) c) t

-- the bytes as their first n and what follows
cut : (held more : List ℕ) (n : ℕ) → held ++ more ≡ take n held ++ (drop n held ++ more)
cut held more n =
    ap (λ (l : List ℕ). l ++ more) (sym (take-append-drop n held)) ∙ append_assoc (take n held) (drop n held) more

-- the front is bad
pub never_begins : (held : List ℕ) (n : ℕ) → NeverBegins (take n held) → NeverHas held
never_begins held n never more parsed body rest s =
    never (drop n held ++ more) parsed (body ++ rest)
    (record { head = s.head; reads = (s.is_head, sym (cut held more n) ∙ s.bytes_are); says = s.says })

-- the front is full, and holds no head
pub never_within : (held : List ℕ) (n : ℕ) → length (take n held) ≡ head_limit
    → HasNoRequest (take n held) → NeverHas held
never_within held n full none more parsed body rest s =
    let same = sym s.bytes_are ∙ cut held more n in
    let short = s.short in
    none s.head (drop (length (print_request s.head)) (take n held))
    (s.is_head, front_of (print_request s.head) (body ++ rest) (take n held) (drop n held ++ more) same (omega arith))

-- no head stands there yet
pub none_yet : (held : List ℕ) → HasNoRequest held → HasNone held
none_yet held none parsed body rest s = none s.head (body ++ rest) (s.is_head, s.bytes_are)

-- a head may come, and there is room for it
pub wants_head : (held : List ℕ) (n : ℕ) → n ≡ min (length held) head_limit → length held < head_limit
    → HasNoRequest (take n held) → MayBecomeRequest (take n held)
    → IsWanting held
wants_head held n e short none may =
    let all : n ≡ length held = omega arith in
    let same : take n held ≡ held = ap (λ (k : ℕ). take k held) all ∙ grind (arith, common_steps) in
    let none_here = subst HasNoRequest same none in
    (none_yet held none_here, inr (omega arith), inr (inl (none_here, subst MayBecomeRequest same may, short)))

-- how long a head is that a reading found
pub head_length : (p : List ℕ) (h : RequestHead) (len : ℕ) → len ≤ length p → p ≡ print_request h ++ drop len p
    → length (print_request h) ≡ len
head_length p h len within e =
    let l : length p ≡ length (print_request h) + length (drop len p) = ap length e
    ∙ length-append (print_request h) (drop len p) in
    let d : length (drop len p) ≡ length p - len = length-drop len p in
    omega arith

-- the head in the held bytes
pub head_in : (held : List ℕ) (n len : ℕ) (h : RequestHead) → ReadsRequest (take n held) h (drop len (take n held))
    → ReadsRequest held h (drop len (take n held) ++ drop n held)
head_in held n len h reads =
    let r = ReadsRequest-append (take n held) h (drop len (take n held)) (drop n held) reads in
    (r.0, sym (take-append-drop n held) ∙ r.1)

-- the whole message has not come
pub body_short : (held : List ℕ) (n : ℕ) (g : GoodHead) → g.len ≤ length (take n held)
    → BeginsWith (take n held) (parsed g) (drop g.len (take n held))
    → length held - g.len < g.body → HasNone held
body_short held n g within begins less said2 body rest s =
    let len = head_length (take n held) begins.head g.len within begins.reads.1 in
    let inside = head_in held n g.len begins.head begins.reads in
    let same = request_unique held begins.head s.head _ (body ++ rest) inside (s.is_head, s.bytes_are) in
    let says : Some (parsed g) ≡ Some said2 = sym begins.says ∙ ap head_of same.0 ∙ s.says in
    let bodies : g.body ≡ said2.body = cc in
    let long : length held ≡ length (print_request s.head) + (length body + length rest) =
    ap length s.bytes_are ∙ length-append (print_request s.head) (body ++ rest)
    ∙ ap (λ (k : ℕ). length (print_request s.head) + k) (length-append body rest) in
    let head_is : length (print_request begins.head) ≡ length (print_request s.head) =
    ap (λ (h : RequestHead). length (print_request h)) same.0 in
    let whole = s.whole in
    absurd (omega arith)

-- a good head stands, and its body has not come
pub body_alone : (held : List ℕ) (n : ℕ) (g : GoodHead) → g.len ≤ length (take n held)
    → length (take n held) ≤ head_limit
    → BeginsWith (take n held) (parsed g) (drop g.len (take n held)) → length held - g.len < g.body → HasHeadAlone held
body_alone held n g within limit begins less =
    let len = head_length (take n held) begins.head g.len within begins.reads.1 in
    let inside = head_in held n g.len begins.head begins.reads in
    let rest : List ℕ = drop g.len (take n held) ++ drop n held in
    let all : length held ≡ length (print_request begins.head) + length rest = ap length inside.1
    ∙ length-append (print_request begins.head) rest in
    record {
      head = begins.head;
      is_head = begins.reads.0;
      short = omega arith;
      parsed = parsed g;
      says = begins.says;
      rest = rest;
      bytes_are = inside.1;
      part = omega arith;
    }

-- the whole message has come
pub body_whole : (held : List ℕ) (n : ℕ) (g : GoodHead) → g.len ≤ length (take n held)
    → length (take n held) ≤ head_limit
    → BeginsWith (take n held) (parsed g) (drop g.len (take n held)) → g.len + g.body ≤ length held
    → HasMessageInFront held (parsed g) (take g.body (drop g.len held)) (drop (g.len + g.body) held)
body_whole held n g within limit begins fits =
    let len = head_length (take n held) begins.head g.len within begins.reads.1 in
    let inside = head_in held n g.len begins.head begins.reads in
    let after : drop g.len held ≡ drop g.len (take n held) ++ drop n held =
    ap (drop g.len) inside.1 ∙ drop_at (print_request begins.head) _ g.len len in
    let rest : drop g.len held ≡ take g.body (drop g.len held) ++ drop (g.len + g.body) held =
    sym (take-append-drop g.body (drop g.len held))
    ∙ ap (λ (l : List ℕ). take g.body (drop g.len held) ++ l) (drop-drop g.body g.len held) in
    record {
      head = begins.head;
      is_head = begins.reads.0;
      short = omega arith;
      says = begins.says;
      bytes_are = inside.1 ∙ ap (λ (l : List ℕ). print_request begins.head ++ l) (sym after ∙ rest);
      whole = length-take-le g.body (drop g.len held) (rw length-drop (omega arith));
    }

limit_test : (b : Bool) (m n : ℕ) → nat_le m body_limit ≡ b → (if b then Some m else None) ≡ Some n → n ≤ body_limit
limit_test true m n t e = let same : m ≡ n = cc in let h = leb-true m body_limit t in omega arith
limit_test false m n t e = absurd (cc)

limit_ok : (o : Option ℕ) (n : ℕ) → within_limit o ≡ Some n → n ≤ body_limit
limit_ok None n e = absurd (cc)
limit_ok (Some m) n e = limit_test (nat_le m body_limit) m n refl e

length_ok : (vs : List (List ℕ)) (n : ℕ) → body_length vs ≡ Some n → n ≤ body_limit
length_ok [] n e = let same : 0 ≡ n = cc in omega arith
length_ok (v ∷ []) n e = limit_ok (parsed_number v) n e
length_ok (v ∷ w ∷ vs) n e = absurd (cc)

mapped : (o : Option ℕ) (f : ℕ → Head) (g : Head) → option_map f o ≡ Some g → (n : ℕ) × (o ≡ Some n) × (f n ≡ g)
mapped None f g e = absurd (cc)
mapped (Some n) f g e = (n, refl, cc)

other : (b : Bool) (x : Option Head) (g : Head) → (if b then None else x) ≡ Some g → x ≡ Some g
other true x g e = absurd (cc)
other false x g e = e

-- a body is within its limit
pub body_within : (h : RequestHead) (g : Head) → head_of h ≡ Some g → g.body ≤ body_limit
body_within h g e =
    let lines : List HeaderLine = map name_and_value h.fields in
    let size : Option ℕ = body_length (values_of (codes "content-length") lines) in
    let head : ℕ → Head = head_with h.method h.target h.minor lines in
    let m : (n : ℕ) × (size ≡ Some n) × (head n ≡ g) =
    mapped size head g (other (has_some (values_of (codes "transfer-encoding") lines)) (option_map head size) g
    (other (nat_lt line_limit (length h.fields)) (said_by h.method h.target h.minor lines) g e)) in
    let bound : m.0 ≤ body_limit = length_ok (values_of (codes "content-length") lines) m.0 m.1 in
    let is : m.0 ≡ g.body = ap (λ (x : Head). x.body) m.2 in
    omega arith

and_false : (a b : Bool) → b ≡ false → (a && b) ≡ false
and_false true b e = e
and_false false b e = refl

with_other : (p : ℕ → Bool) (a b : List ℕ) (x : ℕ) → p x ≡ false → list_all p (a ++ x ∷ b) ≡ false
with_other p [] b x e = rw e refl
with_other p (y ∷ a) b x e = and_false (p y) (list_all p (a ++ x ∷ b)) (with_other p a b x e)

-- a head has a byte that ends no line
pub not_blank : (bytes : List ℕ) (h : RequestHead) (rest : List ℕ) → bytes ≡ print_request h ++ rest
    → are_line_breaks bytes ≡ false
not_blank bytes h rest e =
    let later : List ℕ = h.target ++ 32
    ∷ (print_version h.minor ++ (print_end h.line_end ++ (print_section h.fields h.last ++ rest))) in
    let shape : bytes ≡ (print_blank h.blank ++ h.method) ++ 32 ∷ later =
    e ∙ print_request-append h rest ∙ sym (append_assoc (print_blank h.blank) h.method (32 ∷ later)) in
    ap are_line_breaks shape ∙ with_other (λ b. b == 13 || b == 10) (print_blank h.blank ++ h.method) later 32 refl

empty_blank : (bytes : List ℕ) → are_line_breaks bytes ≡ false → 0 < length bytes
empty_blank [] e = absurd (cc)
empty_blank (b ∷ bytes) e = omega arith

pub not_empty : (h : RequestHead) → 0 < length (print_request h)
not_empty h = empty_blank (print_request h) (not_blank (print_request h) h [] (sym (append-nil (print_request h))))

pub blank_none : (held : List ℕ) → are_line_breaks held ≡ true → HasNone held
blank_none held e parsed body rest s =
    let other = not_blank held s.head (body ++ rest) s.bytes_are in
    let bad : true ≡ false = sym e ∙ other in
    cc

pub front_long : (held : List ℕ) (n : ℕ) → n ≡ min (length held) head_limit → length (take n held) ≡ n
front_long held n e = length-take-le n held (omega arith)

-- where a head ends
pub head_some : (p : List ℕ) (g : GoodHead) → g.len ≤ length p → BeginsWith p (parsed g) (drop g.len p) → 0 < g.len
head_some p g within begins =
    let len = head_length p begins.head g.len within begins.reads.1 in
    let some = not_empty begins.head in
    omega arith

-- held bytes that want more have room for it
pub has_room : (held p : List ℕ) (g : GoodHead) → g.len ≤ length p → length p ≤ head_limit
    → BeginsWith p (parsed g) (drop g.len p)
    → length held - g.len < g.body → length held < held_limit
has_room held p g within limit begins less =
    let bound = body_within begins.head (parsed g) begins.says in
    omega arith

-- with no number that is wanted nothing is said
pub wants_none : (held : List ℕ) → WantsUntil 0 held
wants_none held = λ more less. absurd (omega (arith, less))

-- fewer bytes are held than are wanted
pub wants_now : (wanted : ℕ) (held : List ℕ) → WantsUntil wanted held → length held < wanted → IsWanting held
wants_now wanted held wants less =
    let same : held ++ [] ≡ held = append-nil held in
    subst (λ (l : List ℕ). IsWanting l) same (wants [] (rw same less))

-- more bytes after those that are held
pub wants_more : (wanted : ℕ) (held some all : List ℕ) → WantsUntil wanted held → all ≡ held ++ some
    → WantsUntil wanted all
wants_more wanted held some all wants is = λ more less.
    let same : all ++ more ≡ held ++ (some ++ more) = ap (λ (l : List ℕ). l ++ more) is ∙ append_assoc held some more in
    subst (λ (l : List ℕ). IsWanting l) (sym same) (wants (some ++ more) (rw (← same) less))

-- a good head stands at the front: the message wants as many bytes as the head and the body have
pub wants_until : (held : List ℕ) (n : ℕ) (g : GoodHead) (wanted : ℕ) → n ≤ length held → g.len ≤ length (take n held)
    → length (take n held) ≤ head_limit
    → BeginsWith (take n held) (parsed g) (drop g.len (take n held)) → wanted ≤ g.len + g.body → WantsUntil wanted held
wants_until held n g wanted fits within limit begins at_most = λ more less.
    let same : take n (held ++ more) ≡ take n held = take-append-le n held more fits in
    let long = length-append held more in
    let short = length-take-le n held fits in
    let left : length (held ++ more) - g.len < g.body = omega (arith, less, long, short, within, at_most, fits) in
    let inside = subst (λ (p : List ℕ). g.len ≤ length p) (sym same) within in
    let short_head = subst (λ (p : List ℕ). length p ≤ head_limit) (sym same) limit in
    let front = subst (λ (p : List ℕ). BeginsWith p (parsed g) (drop g.len p)) (sym same) begins in (
      body_short (held ++ more) n g inside front left,
      inr (has_room (held ++ more) (take n held) g within limit begins left),
      inr (inr (body_alone (held ++ more) n g inside short_head front left)),
    )

-- no head stands after as many blank bytes as a head may have
pub long_blank_never : (held : List ℕ) → are_line_breaks held ≡ true → head_limit ≤ length held → NeverHas held
long_blank_never held blank long more parsed body rest s =
    let short = s.short in
    let inside = front_of (print_request s.head) (body ++ rest) held more (sym s.bytes_are) (omega arith) in
    let other = not_blank held s.head (drop (length (print_request s.head)) held) inside in
    let bad : true ≡ false = sym blank ∙ other in
    cc
