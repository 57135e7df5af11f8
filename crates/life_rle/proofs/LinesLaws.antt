-- A trimmed text has no blanks at its ends, and the bytes up to a line feed are a line.
use Rattle.std.proofs.Common.{◌≡◌, ℕ, suc, ◌<◌, Bool, true, false, cond, eqb, List, [], ◌∷◌, ◌++◌, reverse, length}
use Rattle.std.proofs.Common.{get_or, refl, ap, ◌∙◌, sym, subst, arith}
use Rattle.std.specs.List.{AllByRecursion}
use Rattle.std.proofs.lemmas.List.{reverse-append, reverse-reverse, append_assoc, append-nil}
use Rattle.life_core.specs.RuleText.{is_blank}
use Rattle.life_rle.specs.RleLines.{trim_start, trim_end, trim, lines_after}
use Rattle.life_rle.specs.Record.{HasNoLineEnd}

-- the list is empty or begins with no blank
abbrev pub BeginsWithNoBlank : List ℕ → Type 0
BeginsWithNoBlank [] = Unit {0}
BeginsWithNoBlank (b ∷ bytes) = is_blank b ≡ false

begins_kept : (bytes : List ℕ) → BeginsWithNoBlank bytes → trim_start bytes ≡ bytes
begins_kept [] h = refl
begins_kept (b ∷ bytes) h = ap (λ t. cond t (trim_start bytes) (b ∷ bytes)) h

begins_trimmed_by : (t : Bool) (b : ℕ) (bytes : List ℕ) → is_blank b ≡ t → BeginsWithNoBlank (trim_start bytes)
    → BeginsWithNoBlank (cond t (trim_start bytes) (b ∷ bytes))
begins_trimmed_by true b bytes h g = g
begins_trimmed_by false b bytes h g = h

begins_trimmed : (bytes : List ℕ) → BeginsWithNoBlank (trim_start bytes)
begins_trimmed [] = tt
begins_trimmed (b ∷ bytes) = begins_trimmed_by (is_blank b) b bytes refl (begins_trimmed bytes)

-- a byte that is no blank stays at the end
trim_push_by : (t : Bool) (x b : ℕ) (xs : List ℕ) → is_blank x ≡ t → is_blank b ≡ false
    → trim_start (xs ++ b ∷ []) ≡ trim_start xs ++ b ∷ [] →
    cond t (trim_start (xs ++ b ∷ [])) (x ∷ xs ++ b ∷ []) ≡ cond t (trim_start xs) (x ∷ xs) ++ b ∷ []
trim_push_by true x b xs h g e = e
trim_push_by false x b xs h g e = refl

trim_push : (xs : List ℕ) (b : ℕ) → is_blank b ≡ false → trim_start (xs ++ b ∷ []) ≡ trim_start xs ++ b ∷ []
trim_push [] b h = ap (λ t. cond t [] (b ∷ [])) h
trim_push (x ∷ xs) b h = trim_push_by (is_blank x) x b xs refl h (trim_push xs b h)

trim_end_cons : (b : ℕ) (bytes : List ℕ) → is_blank b ≡ false → trim_end (b ∷ bytes) ≡ b ∷ trim_end bytes
trim_end_cons b bytes h =
    ap (λ s. reverse (trim_start s)) (reverse-append (b ∷ []) bytes) ∙ ap reverse (trim_push (reverse bytes) b h)
    ∙ reverse-append (trim_start (reverse bytes)) (b ∷ [])

begins_end : (bytes : List ℕ) → BeginsWithNoBlank bytes → BeginsWithNoBlank (trim_end bytes)
begins_end [] h = tt
begins_end (b ∷ bytes) h = subst BeginsWithNoBlank (sym (trim_end_cons b bytes h)) h

trim_end_twice : (bytes : List ℕ) → trim_end (trim_end bytes) ≡ trim_end bytes
trim_end_twice bytes =
    ap (λ s. reverse (trim_start s)) (reverse-reverse (trim_start (reverse bytes)))
    ∙ ap reverse (begins_kept (trim_start (reverse bytes)) (begins_trimmed (reverse bytes)))

pub trim_twice : (bytes : List ℕ) → trim (trim bytes) ≡ trim bytes
trim_twice bytes =
    ap trim_end (begins_kept (trim_end (trim_start bytes)) (begins_end (trim_start bytes) (begins_trimmed bytes)))
    ∙ trim_end_twice (trim_start bytes)

-- the lines of a file have no line end
pub no_end_push : (xs : List ℕ) (b : ℕ) → HasNoLineEnd xs → eqb b 10 ≡ false → HasNoLineEnd (xs ++ b ∷ [])
no_end_push [] b p h = (h, tt)
no_end_push (x ∷ xs) b p h = (p.0, no_end_push xs b p.1 h)

lines_by : (t : Bool) (b : ℕ) (line bytes : List ℕ) → eqb b 10 ≡ t
    → HasNoLineEnd line → AllByRecursion HasNoLineEnd (lines_after [] bytes)
    → (eqb b 10 ≡ false → AllByRecursion HasNoLineEnd (lines_after (line ++ b ∷ []) bytes)) →
    AllByRecursion HasNoLineEnd (cond t (line ∷ lines_after [] bytes) (lines_after (line ++ b ∷ []) bytes))
lines_by true b line bytes h p next on = (p, next)
lines_by false b line bytes h p next on = on h

pub lines_no_end : (bytes line : List ℕ) → HasNoLineEnd line → AllByRecursion HasNoLineEnd (lines_after line bytes)
unfolding lines_after
lines_no_end [] line p = (p, tt)
lines_no_end (b ∷ bytes) line p =
    lines_by (eqb b 10) b line bytes refl p (lines_no_end bytes [] tt)
    (λ h. lines_no_end bytes (line ++ b ∷ []) (no_end_push line b p h))

-- ---- bytes without a line end

-- bytes without one stay in the line that has begun
pub lines_on : (bytes line more : List ℕ) → HasNoLineEnd bytes
    → lines_after line (bytes ++ more) ≡ lines_after (line ++ bytes) more
unfolding lines_after
lines_on [] line more p = ap (λ l. lines_after l more) (sym (append-nil line))
lines_on (b ∷ bytes) line more p =
    ap (λ t. cond t (line ∷ lines_after [] (bytes ++ more)) (lines_after (line ++ b ∷ []) (bytes ++ more))) p.0
    ∙ lines_on bytes (line ++ b ∷ []) more p.1
    ∙ ap (λ l. lines_after l more) (append_assoc line (b ∷ []) bytes)

-- a line end after them ends that line
pub lines_cut : (bytes line more : List ℕ) → HasNoLineEnd bytes
    → lines_after line (bytes ++ 10 ∷ more) ≡ (line ++ bytes) ∷ lines_after [] more
unfolding lines_after
lines_cut bytes line more p = lines_on bytes line (10 ∷ more) p

never_true : (t : Bool) → (t ≡ true → ⊥) → t ≡ false
never_true true h = absurd (h refl)
never_true false h = refl

-- bytes of which none is a line end
pub no_end_at : (bytes : List ℕ) → ((k : ℕ) → k < length bytes → eqb (get_or bytes k 0) 10 ≡ true → ⊥)
    → HasNoLineEnd bytes
no_end_at [] h = tt
no_end_at (b ∷ bytes) h = (never_true (eqb b 10) (h 0 (omega arith)), no_end_at bytes (λ k lt. h (suc k) (omega arith)))
