-- Submissions to a list: what was answered with a number is found under it, in this and every longer list, and
-- repeating it has no effect.
use Rattle.std.proofs.Common.{◌≡◌, ◌+◌, ℕ, zero, suc, List, [], ◌∷◌, ◌++◌, Bool, true, false, Option, None, Some}
use Rattle.std.proofs.Common.{length, refl, sym, ◌∙◌, ap, subst, arith, if◌then◌else◌}
use Rattle.std.specs.List.{slice_get, AllByRecursion}
use Rattle.std.proofs.lemmas.List.{append-nil}
use Rattle.life_store.specs.Kept.{numbered, first_from}
use Rattle.life_desk.specs.declared.refusal.Refusal.{Refusal}
use Rattle.life_desk.specs.declared.refusal.Refusal.TheVariants as refusals
use Rattle.life_desk.specs.declared.request.Reply.{Reply}
use Rattle.life_desk.specs.declared.request.Reply.TheVariants as replies
use Rattle.life_desk.specs.Archive.{Archive}
use Rattle.life_desk.specs.Submission.{Verdict, Refuses, Repeats, Adds, by_token, reply_of, stored_after}

-- ---- what a search finds

-- what is found passes the test, and is at its number, if the first of the list has the number `first`
record IsFound {X : Type 0} (test : X → Bool) (first : ℕ) (xs : List X) (found : ℕ × X) : Type 0 where
  passes : test found.1 ≡ true
  place : ℕ
  number : found.0 ≡ first + place
  stands : slice_get xs place ≡ Some found.1

found_case : {X : Type 0} (test : X → Bool) (first : ℕ) (x : X) (xs : List X) (found : ℕ × X) (b : Bool) → test x ≡ b
    → (first_from test (first + 1) xs ≡ Some found → IsFound test (first + 1) xs found)
    → (if b then Some (first, x) else first_from test (first + 1) xs) ≡ Some found → IsFound test first (x ∷ xs) found
found_case {X} test first x xs found true is rest e =
    let same : ◌≡◌ {A = ℕ × X} (first, x) found = cc in
    subst (λ (f : ℕ × X). IsFound test first (x ∷ xs) f) same
    (record { passes = is; place = zero; number = omega arith; stands = refl })
found_case test first x xs found false is rest e =
    let r = rest e in record {
      passes = r.passes;
      place = suc r.place;
      number = (let n = r.number in omega (arith, n));
      stands = r.stands;
    }

none_found : {X : Type 0} (found : ℕ × X) → None ≡ Some found → ⊥
none_found found e = cc

found_at : {X : Type 0} (test : X → Bool) (first : ℕ) (xs : List X) (found : ℕ × X)
    → first_from test first xs ≡ Some found → IsFound test first xs found
unfolding first_from
found_at test first [] found e = absurd (none_found found e)
found_at test first (x ∷ xs) found e =
    found_case test first x xs found (test x) refl (found_at test (first + 1) xs found) e

pub found_numbered : {X : Type 0} (test : X → Bool) (xs : List X) (found : ℕ × X) → first_from test 1 xs ≡ Some found
    → (test found.1 ≡ true) × (numbered xs found.0 ≡ Some found.1)
found_numbered test xs found e =
    let f = found_at test 1 xs found e in
    let place : found.0 ≡ suc f.place = let n = f.number in omega (arith, n) in
    (f.passes, ap (λ k. numbered xs k) place ∙ f.stands)

stays_case : {X : Type 0} (b : Bool) (x found : X) (o p : Option X) → (o ≡ Some found → p ≡ Some found)
    → (if b then Some x else o) ≡ Some found → (if b then Some x else p) ≡ Some found
stays_case true x found o p rest e = e
stays_case false x found o p rest e = rest e

-- it is found in a longer list
found_longer : {X : Type 0} (test : X → Bool) (first : ℕ) (xs more : List X) (found : ℕ × X)
    → first_from test first xs ≡ Some found → first_from test first (xs ++ more) ≡ Some found
unfolding first_from
found_longer test first [] more found e = absurd (none_found found e)
found_longer test first (x ∷ xs) more found e =
    stays_case (test x) (first, x) found _ _ (found_longer test (first + 1) xs more found) e

past_first : {X : Type 0} (b : Bool) (x : X) (o p r : Option X) → (if b then Some x else o) ≡ None
    → (o ≡ None → p ≡ r) → (if b then Some x else p) ≡ r
past_first true x o p r none rest = cc
past_first false x o p r none rest = rest none

-- what was added is found, if nothing was before
found_added : {X : Type 0} (test : X → Bool) (first : ℕ) (xs : List X) (x : X) → first_from test first xs ≡ None
    → test x ≡ true → first_from test first (xs ++ x ∷ []) ≡ Some (first + length xs, x)
unfolding first_from
found_added test first [] x none is = rw is (ap (λ n. Some (n, x)) (omega arith))
found_added test first (y ∷ xs) x none is =
    let count : first + 1 + length xs ≡ first + suc (length xs) = omega arith in
    past_first (test y) (first, y) (first_from test (first + 1) xs) _ _ none
    (λ h. found_added test (first + 1) xs x h is ∙ ap (λ n. Some (n, x)) count)

-- ---- the list after it

-- nothing in the list changes
pub after_longer : {X : Type 0} (xs : List X) (v : Verdict X) → (more : List X) × (stored_after xs v ≡ xs ++ more)
after_longer xs (Refuses refusal) = ([], sym (append-nil xs))
after_longer xs (Repeats id) = ([], sym (append-nil xs))
after_longer xs (Adds x) = (x ∷ [], refl)

pub all_push : {X : Type 0} (P : X → Type 0) (xs : List X) (x : X) → AllByRecursion P xs → P x
    → AllByRecursion P (xs ++ x ∷ [])
all_push P [] x all is = (is, tt)
all_push P (y ∷ xs) x all is = (all.0, all_push P xs x all.1 is)

-- what holds of all that is stored, and of what is handed in, holds of all that is stored after it
pub all_after : {X : Type 0} (P : X → Type 0) (is_same : X → X → Bool) (room : Bool) (xs : List X) (x : X)
    (o : Option (ℕ × X)) → AllByRecursion P xs → P x → AllByRecursion P (stored_after xs (by_token is_same room x o))
all_after P is_same room xs x (Some stored) all is =
    elim (is_same stored.1 x) as (λ b. AllByRecursion P
    (stored_after xs (if b then Repeats stored.0 else Refuses refusals.TokenReused))) [ true ↦ all | false ↦ all ]
all_after P is_same true xs x None all is = all_push P xs x all is
all_after P is_same false xs x None all is = all

-- ---- kinds of submissions

-- a kind: its list in an archive, whether another is under the member and token of one, when two are the same, and the
-- reply that says a number
pub record Kind (X : Type 0) : Type 0 where
  pub list : Archive → List X
  pub with_list : Archive → List X → Archive
  pub is_under : X → X → Bool
  pub is_same : X → X → Bool
  pub number : ℕ → Reply
  pub under_itself : (x : X) → is_under x x ≡ true
  pub same_itself : (x : X) → is_same x x ≡ true
  pub one_number : (m n : ℕ) → number m ≡ number n → m ≡ n
  pub no_refusal : (n : ℕ) (refusal : Refusal) → number n ≡ replies.Refused refusal → ⊥

module _ {X : Type 0} (k : Kind X) where
  -- what is found under its words
  abbrev pub found_for : X → List X → Option (ℕ × X)
  found_for x xs = first_from (k.is_under x) 1 xs

  -- the same is found under the number
  abbrev pub IsStored : List X → X → ℕ → Type 0
  IsStored xs x n = (stored : X) × (found_for x xs ≡ Some (n, stored)) × (k.is_same stored x ≡ true)

  some_case : (xs : List X) (x : X) (n : ℕ) (stored : ℕ × X) (b : Bool) → k.is_same stored.1 x ≡ b
      → found_for x xs ≡ Some stored
      → k.number n ≡ reply_of k.number xs (if b then Repeats stored.0 else Refuses refusals.TokenReused)
      → IsStored (stored_after xs (if b then Repeats stored.0 else Refuses refusals.TokenReused)) x n
  some_case xs x n stored true same is h =
      let number : n ≡ stored.0 = k.one_number n stored.0 h in
      (stored.1, is ∙ ap (λ m. Some (m, stored.1)) (sym number), same)
  some_case xs x n stored false same is h = absurd (k.no_refusal n refusals.TokenReused h)

  none_case : (xs : List X) (x : X) (n : ℕ) (room : Bool) → found_for x xs ≡ None
      → k.number n ≡ reply_of k.number xs (if room then Adds x else Refuses refusals.Full)
      → IsStored (stored_after xs (if room then Adds x else Refuses refusals.Full)) x n
  none_case xs x n true is h =
      let number : n ≡ length xs + 1 = k.one_number n (length xs + 1) h in
      let count : 1 + length xs ≡ n = omega (arith, number) in
      (x, found_added (k.is_under x) 1 xs x is (k.under_itself x) ∙ ap (λ m. Some (m, x)) count, k.same_itself x)
  none_case xs x n false is h = absurd (k.no_refusal n refusals.Full h)

  token_case : (room : Bool) (xs : List X) (x : X) (n : ℕ) (o : Option (ℕ × X)) → found_for x xs ≡ o
      → k.number n ≡ reply_of k.number xs (by_token k.is_same room x o)
      → IsStored (stored_after xs (by_token k.is_same room x o)) x n
  token_case room xs x n (Some stored) is h = some_case xs x n stored (k.is_same stored.1 x) refl is h
  token_case room xs x n None is h = none_case xs x n room is h

  -- what was answered by a number is stored under it
  pub answered_stored : (room : Bool) (xs : List X) (x : X) (n : ℕ)
      → k.number n ≡ reply_of k.number xs (by_token k.is_same room x (found_for x xs))
      → IsStored (stored_after xs (by_token k.is_same room x (found_for x xs))) x n
  answered_stored room xs x n h = token_case room xs x n (found_for x xs) refl h

  pub stored_longer : (xs more : List X) (x : X) (n : ℕ) → IsStored xs x n → IsStored (xs ++ more) x n
  stored_longer xs more x n it = (it.0, found_longer (k.is_under x) 1 xs more (n, it.0) it.1, it.2)

  same_case : (xs : List X) (n : ℕ) (b : Bool) → b ≡ true
      → (k.number n ≡ reply_of k.number xs (if b then Repeats n else Refuses refusals.TokenReused))
      × (stored_after xs (if b then Repeats n else Refuses refusals.TokenReused) ≡ xs)
  same_case xs n true is = (refl, refl)
  same_case xs n false is = absurd cc

  -- and repeats: the number is answered, and the list stays
  pub stored_repeats : (room : Bool) (xs : List X) (x : X) (n : ℕ) → IsStored xs x n
      → (k.number n ≡ reply_of k.number xs (by_token k.is_same room x (found_for x xs)))
      × (stored_after xs (by_token k.is_same room x (found_for x xs)) ≡ xs)
  stored_repeats room xs x n it =
      subst (λ o. (k.number n ≡ reply_of k.number xs (by_token k.is_same room x o))
      × (stored_after xs (by_token k.is_same room x o) ≡ xs)) (sym it.1) (same_case xs n (k.is_same it.0 x) it.2)
