-- What is known of a census and its deposit once its token is looked up.
use Rattle.std.proofs.Common.{◌≡◌, ◌<◌, ◌≤◌, ◌&&◌, ℕ, zero, suc, List, [], ◌∷◌, length, true, false, Option, None, Some}
use Rattle.std.proofs.Common.{is_some, IsSome, nat_le, Result, Ok, Err, inl, inr, if◌then◌else◌, refl, sym, ◌∙◌, ap}
use Rattle.std.proofs.Common.{subst, arith}
use Rattle.std.specs.List.{slice_get}
use Rattle.std.specs.Result.{MatchResult}
use Rattle.std.proofs.lemmas.Bool.{and_parts, eqb-true}
use Rattle.std.proofs.lemmas.Option.{slice_get_cases}
use Rattle.life_store.specs.declared.kept.Deposit.{Deposit}
use Rattle.life_store.specs.declared.kept.Census.{Census}
use Rattle.life_store.specs.Kept.{numbered, census_by, is_census_of}
use Rattle.life_store.specs.Tables.{ArchiveView}
use Rattle.life_desk.specs.declared.refusal.Refusal.TheVariants as refusals
use Rattle.life_desk.specs.declared.request.Reply.{Reply}
use Rattle.life_desk.specs.declared.request.Reply.TheVariants as replies
use Rattle.life_desk.specs.Archive.{Archive}
use Rattle.life_desk.specs.DeskState.{reused_reply}
use Rattle.life_desk.specs.Represents.{Represents, EachHasDeposit}
use Rattle.life_desk.specs.Submission.{Verdict, Refuses, Repeats}
use Rattle.life_desk.specs.Replies.{is_same_census, census_by_token, census_of_deposit, census_verdict, census_reply}
use Rattle.life_desk.specs.Replies.{with_census}
use Rattle.life_desk.proofs.CensusesOnce.{by_deposit}
use Rattle.life_desk.proofs.Submissions.{found_numbered}

-- ---- whether a number has an element

from_one : (i : ℕ) → nat_le 1 (suc i) ≡ true
from_one i = grind arith

within : (i n m : ℕ) → n ≡ m → i < m → nat_le (suc i) n ≡ true
within i n m is below = grind (arith, is, below)

beyond : (i n m : ℕ) → n ≡ m → m ≤ i → nat_le (suc i) n ≡ false
beyond i n m is above = grind (arith, is, above)

pub is_numbered : {X : Type 0} (xs : List X) (id n : ℕ) → n ≡ length xs
    → (nat_le 1 id && nat_le id n) ≡ is_some (numbered xs id)
is_numbered xs zero n is = refl
is_numbered xs (suc i) n is = elim (slice_get_cases xs i).1 [
  | inl there ↦ rw (from_one i, within i n (length xs) is there.1, there.2) refl
  | inr missing ↦ rw (from_one i, beyond i n (length xs) is missing.0, missing.1) refl
]

-- ---- a stored census

each_at : (ds : List Deposit) (cs : List Census) (i : ℕ) (c : Census) → EachHasDeposit ds cs
    → slice_get cs i ≡ Some c → IsSome (numbered ds c.deposit)
each_at ds [] i c each at = absurd cc
each_at ds (x ∷ cs) zero c each at =
    let same : x ≡ c = cc in subst (λ (y : Census). IsSome (numbered ds y.deposit)) same each.0
each_at ds (x ∷ cs) (suc i) c each at = each_at ds cs i c each.1 at

each_numbered : (ds : List Deposit) (cs : List Census) (n : ℕ) (c : Census) → EachHasDeposit ds cs
    → numbered cs n ≡ Some c → IsSome (numbered ds c.deposit)
each_numbered ds cs zero c each at = absurd cc
each_numbered ds cs (suc i) c each at = each_at ds cs i c each at

-- a census that counts the same as a stored one has its deposit
has_deposit : (A : Archive) (c : Census) (id : ℕ) (stored : Census) → EachHasDeposit A.deposits A.censuses
    → census_by c.member c.token A.censuses ≡ Some (id, stored) → is_same_census stored c ≡ true
    → IsSome (numbered A.deposits c.deposit)
has_deposit A c id stored each is same =
    let found = found_numbered (is_census_of c.member c.token) A.censuses (id, stored) is in
    let last = and_parts _ _ same in
    let first = and_parts _ _ last.0 in
    subst (λ n. IsSome (numbered A.deposits n)) (eqb-true stored.deposit c.deposit first.0)
    (each_numbered A.deposits A.censuses id stored each found.1)

module _ {S : Type 0} (A : Archive) (new : ArchiveView S) (c : Census) where
  -- the reply and the archive
  abbrev pub Leaves : Verdict Census → Reply → Type 0
  Leaves v r = (r ≡ census_reply A v) × Represents new (with_census A v)

  repeated_case : (id : ℕ) (stored : Census) (o : Option Deposit) → IsSome o
      → census_by c.member c.token A.censuses ≡ Some (id, stored) → is_same_census stored c ≡ true → Represents new A
      → Leaves (census_of_deposit A c o) (replies.Counted id)
  repeated_case id stored None there is same m = absurd cc
  repeated_case id stored (Some d) there is same m =
      let it = by_deposit A c id d (Some d) refl (stored, is, same) in
      (it.0, subst (λ B. Represents new B) (sym it.1) m)

  -- it is stored: the number is answered, and nothing changes
  pub told_repeated : (id : ℕ) (stored : Census) → EachHasDeposit A.deposits A.censuses
      → Some (id, stored) ≡ census_by c.member c.token A.censuses → is_same_census stored c ≡ true → Represents new A
      → Leaves (census_verdict A c) (replies.Counted id)
  told_repeated id stored each is same m =
      repeated_case id stored (numbered A.deposits c.deposit)
      (has_deposit A c id stored each (sym is) same) (sym is) same m

  reused_case : (id : ℕ) (stored : Census) (o : Option Deposit) (r : Reply) → Some (id, stored)
      ≡ census_by c.member c.token A.censuses → is_same_census stored c ≡ false → r ≡ reused_reply o → Represents new A
      → Leaves (census_of_deposit A c o) r
  reused_case id stored None r is other told m = (told, m)
  reused_case id stored (Some d) r is other told m =
      subst (λ p. Leaves (census_by_token A c p) r) is
      (subst (λ b. Leaves (if b then Repeats id else Refuses refusals.TokenReused) r) (sym other) (told, m))

  module _ {E : Type 0} (r : Result Reply E) where
    abbrev pub Gives : Verdict Census → Type 0
    Gives v = MatchResult r (λ x. Leaves v x) (λ _. Represents new A)

  -- another census has its token
  pub told_reused : {E : Type 0} (r : Result Reply E) (id : ℕ) (stored : Census)
      → Some (id, stored) ≡ census_by c.member c.token A.censuses → is_same_census stored c ≡ false
      → MatchResult r (λ x. (x ≡ reused_reply (numbered A.deposits c.deposit)) × Represents new A)
      (λ _. Represents new A) → Gives r (census_verdict A c)
  told_reused (Ok x) id stored is other h = reused_case id stored (numbered A.deposits c.deposit) x is other h.0 h.1
  told_reused (Err e) id stored is other h = h

-- its token is new, and its deposit is there
pub verdict_new : (A : Archive) (c : Census) (d : Deposit) → None ≡ census_by c.member c.token A.censuses
    → numbered A.deposits c.deposit ≡ Some d → census_by_token A c None ≡ census_verdict A c
verdict_new A c d new there = ap (λ p. census_by_token A c p) new ∙ ap (λ o. census_of_deposit A c o) (sym there)

pub told_first : {E S : Type 0} (A : Archive) (new : ArchiveView S) (c : Census) (d : Deposit) (r : Result Reply E)
    → None ≡ census_by c.member c.token A.censuses → numbered A.deposits c.deposit ≡ Some d
    → MatchResult r (λ x. Leaves A new c (census_by_token A c None) x) (λ _. Represents new A)
    → MatchResult r (λ x. Leaves A new c (census_verdict A c) x) (λ _. Represents new A)
told_first A new c d r first there h =
    subst (λ v. MatchResult r (λ x. Leaves A new c v x) (λ _. Represents new A)) (verdict_new A c d first there) h
