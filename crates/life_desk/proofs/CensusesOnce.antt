-- A census that was answered by a number has it in every later archive, and acts once.
use Rattle.std.proofs.Common.{◌≡◌, ◌&&◌, ℕ, List, Bool, true, false, Option, None, Some, Result, refl, sym}
use Rattle.std.proofs.Common.{◌∙◌, ap, ap₂, subst, arith, if◌then◌else◌}
use Rattle.std.proofs.lemmas.Grind.{common_steps}
use Rattle.std.proofs.lemmas.Bool.{and_parts, eqb-true}
use Rattle.life_store.specs.declared.kept.Deposit.{Deposit}
use Rattle.life_store.specs.declared.kept.Census.{Census}
use Rattle.life_store.specs.Kept.{numbered, is_census_of}
use Rattle.life_desk.specs.declared.refusal.Refusal.{Refusal}
use Rattle.life_desk.specs.declared.refusal.Refusal.TheVariants as refusals
use Rattle.life_desk.specs.declared.request.Request.{Request}
use Rattle.life_desk.specs.declared.request.Request.TheVariants as requests
use Rattle.life_desk.specs.declared.request.Reply.TheVariants as replies
use Rattle.life_desk.specs.Archive.{Archive}
use Rattle.life_desk.specs.Validation.{is_member, is_token, is_generation, is_limit, validated_by, first_fault}
use Rattle.life_desk.specs.Replies.{is_same_census, has_room, census_of_deposit, census_reply, with_census, IsReply}
use Rattle.life_desk.specs.Replies.{after, census_asked, IsReplyBy, after_by}
use Rattle.life_desk.specs.Run.{IsLater}
use Rattle.life_desk.specs.DeskLaws.{CensusesActOnce, CensusesStay}
use Rattle.life_desk.proofs.LaterArchives.{deposit_stays}
use Rattle.life_desk.proofs.DepositsOnce.{both_refl, both_are}
use Rattle.life_desk.proofs.Submissions.{Kind, IsStored, found_numbered, answered_stored, stored_longer, stored_repeats}

pub same_itself : (c : Census) → is_same_census c c ≡ true
same_itself c = grind (arith, common_steps)

pub one_number : (m n : ℕ) → replies.Counted m ≡ replies.Counted n → m ≡ n
one_number m n e = cc

pub no_refusal : (n : ℕ) (refusal : Refusal) → replies.Counted n ≡ replies.Refused refusal → ⊥
no_refusal n refusal e = cc

abbrev pub censuses : Kind Census
censuses = record {
  list = λ A. A.censuses;
  with_list = λ A cs. record A { censuses = cs };
  is_under = λ c. is_census_of c.member c.token;
  is_same = is_same_census;
  number = replies.Counted;
  under_itself = λ c. both_refl c.member c.token;
  same_itself = same_itself;
  one_number = one_number;
  no_refusal = no_refusal;
}

-- ---- what the archive is after it

one_census : (c stored : Census) → is_census_of c.member c.token stored ≡ true
    → is_same_census stored c ≡ true → stored ≡ c
one_census c stored under same =
    let words = both_are stored.member stored.token c.member c.token under in
    let last = and_parts _ _ same in
    let first = and_parts _ _ last.0 in
    λ i. record {
      member = words.0 i;
      token = words.1 i;
      deposit = eqb-true stored.deposit c.deposit first.0 i;
      generation = eqb-true stored.generation c.generation first.1 i;
      limit = eqb-true stored.limit c.limit last.1 i;
    }

-- the words are good, the deposit is there, and the token finds it
pub record IsCounted (A : Archive) (c : Census) (n : ℕ) : Type 0 where
  pub member_good : is_member c.member ≡ true
  pub token_good : is_token c.token ≡ true
  pub within : (is_generation c.generation && is_limit c.limit) ≡ true
  pub deposit : Deposit
  pub there : numbered A.deposits c.deposit ≡ Some deposit
  pub found : IsStored censuses A.censuses c n

deposit_case : (A : Archive) (c : Census) (n : ℕ) (o : Option Deposit) → numbered A.deposits c.deposit ≡ o
    → is_member c.member ≡ true → is_token c.token ≡ true → (is_generation c.generation && is_limit c.limit) ≡ true
    → replies.Counted n ≡ census_reply A (census_of_deposit A c o)
    → IsCounted (with_census A (census_of_deposit A c o)) c n
deposit_case A c n None is x y z h = absurd cc
deposit_case A c n (Some d) is x y z h = record {
  member_good = x;
  token_good = y;
  within = z;
  deposit = d;
  there = is;
  found = answered_stored censuses (has_room A A.censuses) A.censuses c n h;
}

-- what is validated of a census's own words
abbrev Words : Census → Bool → Bool → Bool → Bool → Result Request Refusal
Words c a b g l =
    validated_by (first_fault (if a then (if b then None else Some refusals.BadToken) else Some refusals.BadMember)
    (first_fault (if g then None else Some refusals.OutOfLimit) (if l then None else Some refusals.OutOfLimit)))
    (requests.Census c.member c.token c.deposit c.generation c.limit)

words_case : (A : Archive) (c : Census) (n : ℕ) (a b g l : Bool) → is_member c.member ≡ a → is_token c.token ≡ b
    → is_generation c.generation ≡ g → is_limit c.limit ≡ l
    → IsReplyBy A (Words c a b g l) (replies.Counted n) → IsCounted (after_by A (Words c a b g l)) c n
words_case A c n true true true true x y z w h =
    deposit_case A c n (numbered A.deposits c.deposit) refl x y (ap₂ ◌&&◌ z w) h
words_case A c n true true true false x y z w h = absurd cc
words_case A c n true true false l x y z w h = absurd cc
words_case A c n true false g l x y z w h = absurd cc
words_case A c n false b g l x y z w h = absurd cc

pub counted : (A : Archive) (member token : List ℕ) (deposit generation limit n : ℕ)
    → IsReply A (requests.Census member token deposit generation limit) (replies.Counted n)
    → IsCounted (after A (requests.Census member token deposit generation limit))
    (census_asked member token deposit generation limit) n
counted A member token deposit generation limit n h =
    words_case A (census_asked member token deposit generation limit) n (is_member member)
    (is_token token) (is_generation generation) (is_limit limit) refl refl refl refl h

-- ---- later

pub counted_later : (A B : Archive) (c : Census) (n : ℕ) → IsLater A B → IsCounted A c n → IsCounted B c n
counted_later A B c n later d = record {
  member_good = d.member_good;
  token_good = d.token_good;
  within = d.within;
  deposit = d.deposit;
  there = deposit_stays A B later c.deposit d.deposit d.there;
  found =
      subst (λ cs. IsStored censuses cs c n) (sym later.censuses)
      (stored_longer censuses A.censuses later.new_censuses c n d.found);
}

pub censuses_stay_lem : CensusesStay
censuses_stay_lem A B member token deposit generation limit n h later =
    let d = counted_later (after A (requests.Census member token deposit generation limit)) B (census_asked member
    token deposit generation limit) n later (counted A member token deposit generation limit n h) in
    let found = found_numbered (is_census_of member token) B.censuses (n, d.found.0) d.found.1 in
    found.1 ∙ ap Some (one_census (census_asked member token deposit generation limit) d.found.0 found.0 d.found.2)

-- it is stored: the number is answered, and nothing changes
pub by_deposit : (B : Archive) (c : Census) (n : ℕ) (d : Deposit) (o : Option Deposit) → o ≡ Some d
    → IsStored censuses B.censuses c n
    → (replies.Counted n ≡ census_reply B (census_of_deposit B c o)) × (with_census B (census_of_deposit B c o) ≡ B)
by_deposit B c n d o is found =
    subst (λ x. (replies.Counted n ≡ census_reply B (census_of_deposit B c x))
    × (with_census B (census_of_deposit B c x) ≡ B)) (sym is)
    (let repeats = stored_repeats censuses (has_room B B.censuses) B.censuses c n found in
    (repeats.0, ap (λ cs. record B { censuses = cs }) repeats.1))

by_words : (B : Archive) (c : Census) (n : ℕ) (a b g l : Bool) → a ≡ true → b ≡ true → (g && l) ≡ true
    → (replies.Counted n ≡ census_reply B (census_of_deposit B c (numbered B.deposits c.deposit)))
    × (with_census B (census_of_deposit B c (numbered B.deposits c.deposit)) ≡ B)
    → IsReplyBy B (Words c a b g l) (replies.Counted n) × (after_by B (Words c a b g l) ≡ B)
by_words B c n true true true true x y z h = h
by_words B c n true true true false x y z h = absurd cc
by_words B c n true true false l x y z h = absurd cc
by_words B c n true false g l x y z h = absurd cc
by_words B c n false b g l x y z h = absurd cc

pub censuses_act_once_lem : CensusesActOnce
censuses_act_once_lem A B member token deposit generation limit n h later =
    let c : Census = census_asked member token deposit generation limit in
    let d = counted_later (after A (requests.Census member token deposit generation limit)) B c n later
    (counted A member token deposit generation limit n h) in
    by_words B c n (is_member member) (is_token token)
    (is_generation generation) (is_limit limit) d.member_good d.token_good d.within
    (by_deposit B c n d.deposit (numbered B.deposits deposit) d.there d.found)
