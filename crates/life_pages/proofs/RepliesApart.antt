-- A stream of replies can be read in only one way: the lines of a reply's head contain no CR, and the head gives the
-- length of the body.
use Rattle.std.proofs.Common.{◌≡◌, ◌≢◌, ℕ, zero, suc, ◌+◌, ◌^◌, ◌<◌, ◌≤◌, ◌==◌, Bool, true, false, if◌then◌else◌, List}
use Rattle.std.proofs.Common.{[], ◌∷◌, ◌++◌, length, codes, map, refl, sym, ap, ◌∙◌, subst, inl, inr, arith}
use Rattle.std.proofs.Common.{append_assoc}
use Rattle.std.specs.Fmt.{decimal}
use Rattle.std.specs.List.{AllByRecursion}
use Rattle.std.proofs.lemmas.List.{append_cancel_left, append_cancel_right, length-append}
use Rattle.std.proofs.lemmas.Fmt.{decimal_injective, decimal_digit, decimal-digits_of, length-decimal-le}
use Rattle.std.specs.Int.Digits.{digits_of}
use Rattle.http.specs.StatusCode.{code_digits}
use Rattle.life_desk.specs.declared.refusal.Refusal.{Refusal}
use Rattle.life_desk.specs.declared.refusal.Refusal.TheVariants.{Unavailable}
use Rattle.life_desk.specs.Refusals as refusals
use Rattle.life_desk.specs.declared.request.Reply.{Reply}
use Rattle.life_desk.specs.declared.request.Reply.TheVariants as replies
use Rattle.life_pages.specs.declared.pages_fault.MessageRefusal.{MessageRefusal}
use Rattle.life_pages.specs.declared.pages_fault.MessageRefusal.TheVariants.{NoSuchRoute, BadMethod, BadMessage}
use Rattle.life_pages.specs.PagesFault.{label_of}
use Rattle.life_pages.specs.Reply.{phrase, refusal_body, reply_bytes, message_refusal_bytes}
use Rattle.life_pages.specs.Reply.{reply_status, type_of, reply_body, page_status, json}
use Rattle.life_pages.specs.PagesLaws.{AreReplyBytes, RepliesAreReadInOneWay}

-- ---- the first CR

abbrev HasNoCr : List ℕ → Type 0
HasNoCr bytes = AllByRecursion (λ b. b ≢ 13) bytes

-- what stands before the first CR, and what follows it
cut_at_cr : (a b x y : List ℕ) → HasNoCr a → HasNoCr b → a ++ 13 ∷ x ≡ b ++ 13 ∷ y → (a ≡ b) × (x ≡ y)
cut_at_cr [] [] x y none other same = (refl, cc)
cut_at_cr [] (c ∷ b) x y none other same = let is : c ≡ 13 = cc in absurd (other.0 is)
cut_at_cr (c ∷ a) [] x y none other same = let is : c ≡ 13 = cc in absurd (none.0 is)
cut_at_cr (c ∷ a) (d ∷ b) x y none other same =
    let first : c ≡ d = cc in
    let rest : a ++ 13 ∷ x ≡ b ++ 13 ∷ y = cc in
    let more = cut_at_cr a b x y none.1 other.1 rest in
    (cc, more.1)

both_no_cr : (a b : List ℕ) → HasNoCr a → HasNoCr b → HasNoCr (a ++ b)
both_no_cr [] b none other = other
both_no_cr (c ∷ a) b none other = (none.0, both_no_cr a b none.1 other)

digits_no_cr : (ds : List ℕ) → HasNoCr (map (λ d. 48 + d) ds)
digits_no_cr [] = tt
digits_no_cr (d ∷ ds) = (λ is. omega (arith, is), digits_no_cr ds)

decimal_no_cr : (n : ℕ) → n < 2 ^ 64 → HasNoCr (decimal n)
decimal_no_cr zero few = rw (decimal_digit 0 (omega arith)) ((λ is. omega (arith, is)), tt)
decimal_no_cr (suc n) few = rw (decimal-digits_of (suc n) (omega arith) few) (digits_no_cr (digits_of 10 (suc n)))

-- two lists of one length in front of others
front_same : (a b x y : List ℕ) → length a ≡ length b → a ++ x ≡ b ++ y → (a ≡ b) × (x ≡ y)
front_same [] [] x y long same = (refl, same)
front_same [] (d ∷ b) x y long same = absurd (omega (arith, long))
front_same (c ∷ a) [] x y long same = absurd (omega (arith, long))
front_same (c ∷ a) (d ∷ b) x y long same =
    let first : c ≡ d = cc in
    let more = front_same a b x y (omega (arith, long)) cc in
    (cc, more.1)

-- bytes of which none is a CR, by computation
abbrev is_free : List ℕ → Bool
is_free [] = true
is_free (b ∷ bs) = if b == 13 then false else is_free bs

free_no_cr : (bytes : List ℕ) → is_free bytes ≡ true → HasNoCr bytes
free_no_cr [] free = tt
free_no_cr (c ∷ cs) free = (λ is. first is, free_no_cr cs (rest (c == 13) free))
  where
    first : c ≡ 13 → ⊥
    first is = let none : is_free (13 ∷ cs) ≡ true = subst (λ z. is_free (z ∷ cs) ≡ true) is free in absurd cc

    rest : (b : Bool) → (if b then false else is_free cs) ≡ true → is_free cs ≡ true
    rest true free = absurd cc
    rest false free = free

-- ---- a reply

-- the first line
abbrev first_line : ℕ → List ℕ
first_line status = codes "HTTP/1.1 " ++ code_digits status ++ codes " " ++ phrase status

-- one that can be read: nothing in its head ends a line early
record IsReadable (bytes : List ℕ) : Type 0 where
  pub status : ℕ
  pub kind : List ℕ
  pub body : List ℕ
  pub is : bytes ≡ reply_bytes status kind body
  pub line : is_free (first_line status) ≡ true
  pub type : is_free kind ≡ true
  pub short : length body < 2 ^ 64

-- its bytes, with others after them, cut at the CRs of its head
abbrev lines_of : List ℕ → List ℕ → List ℕ → List ℕ → List ℕ → List ℕ
lines_of line kind digits body more =
    line ++ 13 ∷ ((codes "\ncontent-type: " ++ kind) ++ 13
    ∷ ((codes "\ncontent-length: " ++ digits) ++ 13 ∷ (codes "\n\r\n" ++ body ++ more)))

regroup : (l a k b d e t x : List ℕ)
    → (l ++ a ++ k ++ b ++ d ++ e ++ t) ++ x ≡ l ++ (a ++ (k ++ (b ++ (d ++ (e ++ (t ++ x))))))
regroup l a k b d e t x =
    append_assoc (l ++ a ++ k ++ b ++ d ++ e) t x
    ∙ append_assoc (l ++ a ++ k ++ b ++ d) e (t ++ x)
    ∙ append_assoc (l ++ a ++ k ++ b) d (e ++ (t ++ x))
    ∙ append_assoc (l ++ a ++ k) b (d ++ (e ++ (t ++ x)))
    ∙ append_assoc (l ++ a) k (b ++ (d ++ (e ++ (t ++ x))))
    ∙ append_assoc l a (k ++ (b ++ (d ++ (e ++ (t ++ x)))))

in_lines : (status : ℕ) (kind body more : List ℕ)
    → reply_bytes status kind body ++ more ≡ lines_of (first_line status) kind (decimal (length body)) body more
unfolding reply_bytes
in_lines status kind body more =
    regroup (first_line status) (codes "\r\ncontent-type: ") kind (codes "\r\ncontent-length: ")
    (decimal (length body)) (codes "\r\n\r\n") body more

apart : (a b x y : List ℕ) → IsReadable a → IsReadable b → a ++ x ≡ b ++ y → (a ≡ b) × (x ≡ y)
apart a b x y one two same =
    let cut : lines_of (first_line one.status) one.kind (decimal (length one.body)) one.body x
    ≡ lines_of (first_line two.status) two.kind (decimal (length two.body)) two.body y =
    sym (ap (λ (z : List ℕ). z ++ x) one.is ∙ in_lines one.status one.kind one.body x) ∙ same
    ∙ (ap (λ (z : List ℕ). z ++ y) two.is ∙ in_lines two.status two.kind two.body y) in
    let types = cut_at_cr (first_line one.status) (first_line two.status) _ _
    (free_no_cr (first_line one.status) one.line) (free_no_cr (first_line two.status) two.line) cut in
    let lengths = cut_at_cr (codes "\ncontent-type: " ++ one.kind) (codes "\ncontent-type: " ++ two.kind) _ _
    (both_no_cr (codes "\ncontent-type: ") one.kind (free_no_cr (codes "\ncontent-type: ") refl)
    (free_no_cr one.kind one.type))
    (both_no_cr (codes "\ncontent-type: ") two.kind (free_no_cr (codes "\ncontent-type: ") refl)
    (free_no_cr two.kind two.type)) types.1 in
    let bodies = cut_at_cr (codes "\ncontent-length: " ++ decimal (length one.body))
    (codes "\ncontent-length: " ++ decimal (length two.body)) _ _
    (both_no_cr (codes "\ncontent-length: ") (decimal (length one.body)) (free_no_cr (codes "\ncontent-length: ") refl)
    (decimal_no_cr (length one.body) one.short))
    (both_no_cr (codes "\ncontent-length: ") (decimal (length two.body)) (free_no_cr (codes "\ncontent-length: ") refl)
    (decimal_no_cr (length two.body) two.short)) lengths.1 in
    let long : length one.body ≡ length two.body =
    decimal_injective (length one.body) (length two.body) one.short two.short (append_cancel_left
    (codes "\ncontent-length: ") (decimal (length one.body)) (decimal (length two.body)) bodies.0) in
    let rest = front_same one.body two.body x y long
    (append_cancel_left (codes "\n\r\n") (one.body ++ x) (two.body ++ y) bodies.1) in
    let more : x ≡ y = rest.1 in
    (append_cancel_right a b y (subst (λ (z : List ℕ). a ++ z ≡ b ++ y) more same), more)

-- ---- all replies

abbrev page_body : MessageRefusal → List ℕ
page_body refusal = refusal_body (label_of refusal).name (label_of refusal).number []

refusal_line : (refusal : Refusal) → is_free (first_line (refusals.status_of refusal)) ≡ true
unfolding phrase
refusal_line Unavailable = refl
refusal_line _ = refl

reply_line : (r : Reply) → is_free (first_line (reply_status r)) ≡ true
unfolding phrase
reply_line (replies.Refused refusal) = refusal_line refusal
reply_line _ = refl

reply_type : (r : Reply) → is_free (type_of r) ≡ true
reply_type (replies.File bytes) = refl
reply_type _ = refl

page_line : (refusal : MessageRefusal) → is_free (first_line (page_status refusal)) ≡ true
unfolding phrase
page_line NoSuchRoute = refl
page_line _ = refl

-- a number of two digits at most, before the end of a body
number_short : (n : ℕ) → n < 100 → length (decimal n ++ [] ++ codes "}") ≤ 3
number_short n few = omega (
  arith,
  length-append (decimal n ++ []) (codes "}"),
  length-append (decimal n) [],
  length-decimal-le 2 n (omega arith) (omega (arith, few)) (omega (arith, few)),
)

page_short : (refusal : MessageRefusal) → length (page_body refusal) < 2 ^ 64
unfolding refusal_body
page_short NoSuchRoute = omega (arith, number_short (label_of NoSuchRoute).number (omega arith))
page_short BadMethod = omega (arith, number_short (label_of BadMethod).number (omega arith))
page_short BadMessage = omega (arith, number_short (label_of BadMessage).number (omega arith))

page_is : (refusal : MessageRefusal)
    → message_refusal_bytes refusal ≡ reply_bytes (page_status refusal) json (page_body refusal)
unfolding message_refusal_bytes
page_is refusal = refl

readable : (bytes : List ℕ) → AreReplyBytes bytes → IsReadable bytes
readable bytes (inl it) = record {
  status = reply_status it.0;
  kind = type_of it.0;
  body = reply_body it.0;
  is = it.2;
  line = reply_line it.0;
  type = reply_type it.0;
  short = it.1;
}
readable bytes (inr it) = record {
  status = page_status it.0;
  kind = json;
  body = page_body it.0;
  is = it.1 ∙ page_is it.0;
  line = page_line it.0;
  type = refl;
  short = page_short it.0;
}

pub replies_apart : RepliesAreReadInOneWay
replies_apart a b x y one two same = apart a b x y (readable a one) (readable b two) same
