-- Several reads, or several writes, one after another.
use Rattle.std.proofs.Common.{◌≡◌, ℕ, ◌+◌, List, [], ◌++◌, length, take, drop, Option, None, Some, refl, ◌∙◌, sym, ap}
use Rattle.std.proofs.Common.{append_assoc, append-nil, ◌-◌, ◌≤◌, ◌≢◌, zero, suc, inr, Ok, arith}
use Rattle.std.proofs.lemmas.Grind.{common_steps}
use Rattle.std.proofs.lemmas.List.{take-append-drop, length-append}
use Rattle.std.proofs.Math.Seq.{take-add}
use Rattle.life_rle.specs.Stream.{Consumes, ConsumesUpTo, Appends, AppendsSome, EndsLast, ends_after}

pub appends_more : (a b c : Option (List ℕ)) (x y : List ℕ) → Appends a b x → Appends b c y → Appends a c (x ++ y)
appends_more None b c x y p q = tt
appends_more (Some a) None c x y p q = absurd p
appends_more (Some a) (Some b) None x y p q = absurd q
appends_more (Some a) (Some b) (Some c) x y p q = q ∙ ap (λ (l : List ℕ). l ++ y) p ∙ append_assoc a x y

pub appends_none : (a : Option (List ℕ)) → Appends a a []
appends_none None = tt
appends_none (Some a) = grind (arith, common_steps)

-- what follows a place in the list, as a slice has it
pub rest_from : (bytes : List ℕ) (at : ℕ) → take (length bytes - at) (drop at bytes) ≡ drop at bytes
rest_from bytes at = grind (arith, common_steps)

-- a beginning was put, and then some bytes of the rest
pub appends_on : (old mid new : Option (List ℕ)) (bytes : List ℕ) (at k : ℕ) → Appends old mid (take at bytes)
    → Appends mid new (take k (take (length bytes - at) (drop at bytes))) → Appends old new (take (at + k) bytes)
appends_on old mid new bytes at k p q =
    let q2 = rw (rest_from bytes at) at q in
    rw (take-add at k bytes) (appends_more old mid new _ _ p q2)

-- a beginning was put, and then nothing
pub appends_some : (old mid new : Option (List ℕ)) (bytes : List ℕ) (at : ℕ) → Appends old mid (take at bytes)
    → Appends mid new []
    → AppendsSome old new bytes
appends_some old mid new bytes at p q =
    (take at bytes ++ [], drop at bytes, rw (append-nil, take-append-drop) refl, appends_more old mid new _ _ p q)

-- ---- taking

consumes_more : (a b c : Option (List ℕ)) (x y : List ℕ) → Consumes a b x → Consumes b c y → Consumes a c (x ++ y)
consumes_more None b c x y p q = tt
consumes_more (Some a) None c x y p q = absurd p
consumes_more (Some a) (Some b) None x y p q = absurd q
consumes_more (Some a) (Some b) (Some c) x y p q = p ∙ ap (λ (l : List ℕ). x ++ l) q ∙ sym (append_assoc x y c)

-- nothing was taken
pub consumes_none : (a : Option (List ℕ)) → ConsumesUpTo 0 a a
consumes_none None = ([], omega arith, tt)
consumes_none (Some a) = ([], omega arith, refl)

-- at most so many were taken, and then some more
pub consumes_on : (old now new : Option (List ℕ)) (n k most : ℕ) (piece : List ℕ) → ConsumesUpTo n old now
    → Consumes now new piece → length piece ≤ k → n + k ≤ most → ConsumesUpTo most old new
consumes_on old now new n k most piece taken more short few =
    let both : length (taken.0 ++ piece) ≡ length taken.0 + length piece = length-append taken.0 piece in
    (taken.0 ++ piece, omega (arith, taken.1), consumes_more old now new taken.0 piece taken.2 more)

-- a take that moved something did not find the end
pub ended_more : (E : Type 0) (n k : ℕ) → k ≢ 0 → ends_after {E = E} n (Ok k) ≡ n
ended_more E n zero some = absurd (some refl)
ended_more E n (suc k) some = refl

-- a take of no bytes found it, and was the last
pub ends_now : (E : Type 0) (old now new k last : ℕ) → now ≡ old → k ≡ 0 → new ≡ ends_after {E = E} now (Ok k)
    → last ≡ k → EndsLast old new last
ends_now E old now new zero last same none e gave = inr (rw (← same) e, gave)
ends_now E old now new (suc k) last same none e gave = absurd (omega (arith, none))
