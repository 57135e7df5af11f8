-- A deposit that was answered by a number has it in every later archive, and acts once.
use Rattle.std.proofs.Common.{◌≡◌, ◌&&◌, ℕ, List, Bool, true, false, None, Some, Result, Ok, Err, refl, sym}
use Rattle.std.proofs.Common.{◌∙◌, ap, subst, if◌then◌else◌}
use Rattle.std.specs.Str.{bytes_eq}
use Rattle.std.proofs.lemmas.Bool.{and_parts}
use Rattle.std.proofs.lemmas.Slice.Eq.{bytes_eq-Decides}
use Rattle.life_rle.specs.Record.{Contents}
use Rattle.life_rle.specs.declared.rle_fault.RleFault.{RleFault}
use Rattle.life_rle.specs.File as files
use Rattle.life_rle.specs.File.{kept}
use Rattle.life_rle.specs.Writer.{text}
use Rattle.life_rle.proofs.ReadAgain.{file_read_again}
use Rattle.life_store.specs.declared.kept.Deposit.{Deposit}
use Rattle.life_store.specs.Kept.{is_of}
use Rattle.life_desk.specs.declared.refusal.Refusal.{Refusal}
use Rattle.life_desk.specs.declared.refusal.Refusal.TheVariants as refusals
use Rattle.life_desk.specs.declared.request.Request.{Request}
use Rattle.life_desk.specs.declared.request.Request.TheVariants as requests
use Rattle.life_desk.specs.declared.request.Reply.TheVariants as replies
use Rattle.life_desk.specs.Archive.{Archive}
use Rattle.life_desk.specs.Validation.{is_member, is_token, validated, validated_by}
use Rattle.life_desk.specs.Replies.{is_same_deposit, has_room, deposit_of_file, deposit_reply, with_deposit, IsReply}
use Rattle.life_desk.specs.Replies.{after, IsReplyBy, after_by}
use Rattle.life_desk.specs.Run.{IsLater}
use Rattle.life_desk.specs.DeskLaws.{EqualTexts, DepositsActOnce, DepositsStay}
use Rattle.life_desk.specs.Represents.{IsReadAgain}
use Rattle.life_desk.proofs.LaterArchives.{deposit_stays}
use Rattle.life_desk.proofs.Steps.{after_again, numbered_again}
use Rattle.life_desk.proofs.Submissions.{Kind, IsStored, found_numbered, answered_stored, stored_longer, stored_repeats}

pub bytes_eq-refl : (xs : List ℕ) → bytes_eq xs xs ≡ true
bytes_eq-refl xs = (bytes_eq-Decides xs xs).1 refl

pub both_refl : (xs ys : List ℕ) → (bytes_eq xs xs && bytes_eq ys ys) ≡ true
both_refl xs ys = rw (bytes_eq-refl xs, bytes_eq-refl ys) refl

pub both_are : (xs ys us vs : List ℕ) → (bytes_eq xs us && bytes_eq ys vs) ≡ true → (xs ≡ us) × (ys ≡ vs)
both_are xs ys us vs is =
    let both = and_parts (bytes_eq xs us) (bytes_eq ys vs) is in
    ((bytes_eq-Decides xs us).0 both.0, (bytes_eq-Decides ys vs).0 both.1)

pub one_number : (m n : ℕ) → replies.Deposited m ≡ replies.Deposited n → m ≡ n
one_number m n e = cc

pub no_refusal : (n : ℕ) (refusal : Refusal) → replies.Deposited n ≡ replies.Refused refusal → ⊥
no_refusal n refusal e = cc

abbrev pub deposits : Kind Deposit
deposits = record {
  list = λ A. A.deposits;
  with_list = λ A ds. record A { deposits = ds };
  is_under = λ d. is_of d.member d.token;
  is_same = is_same_deposit;
  number = replies.Deposited;
  under_itself = λ d. both_refl d.member d.token;
  same_itself = λ d. bytes_eq-refl (text d.content);
  one_number = one_number;
  no_refusal = no_refusal;
}

-- ---- what the archive is after it

-- records that are read from their texts again are equal if their texts are
equal_by_texts : (a b : Contents) → IsReadAgain a → IsReadAgain b → bytes_eq (text a) (text b) ≡ true → a ≡ b
equal_by_texts a b one other is =
    let both : ◌≡◌ {A = Result Contents RleFault} (Ok a) (Ok b) = sym one
    ∙ ap kept ((bytes_eq-Decides (text a) (text b)).0 is) ∙ other in
    cc

pub equal_texts : EqualTexts
equal_texts a b one other =
    (equal_by_texts a b one other, λ same. (bytes_eq-Decides (text a) (text b)).1 (ap text same))

one_deposit : (d stored : Deposit) → IsReadAgain stored.content → IsReadAgain d.content
    → is_of d.member d.token stored ≡ true → is_same_deposit stored d ≡ true → stored ≡ d
one_deposit d stored one other under same =
    let words = both_are stored.member stored.token d.member d.token under in
    let content = equal_by_texts stored.content d.content one other same in
    λ i. record { member = words.0 i; token = words.1 i; content = content i }

-- the words are good, the file is read, and the token finds it
pub record IsDeposited (A : Archive) (member token file : List ℕ) (n : ℕ) : Type 0 where
  pub content : Contents
  pub member_good : is_member member ≡ true
  pub token_good : is_token token ≡ true
  pub read : files.file file ≡ Ok content
  pub found : IsStored deposits A.deposits (record { member = member; token = token; content = content }) n

file_case : (A : Archive) (member token file : List ℕ) (n : ℕ) (f : Result Contents RleFault)
    → is_member member ≡ true → is_token token ≡ true → files.file file ≡ f
    → replies.Deposited n ≡ deposit_reply A (deposit_of_file A member token f)
    → IsDeposited (with_deposit A (deposit_of_file A member token f)) member token file n
file_case A member token file n (Ok it) good_member good_token is h = record {
  content = it;
  member_good = good_member;
  token_good = good_token;
  read = is;
  found =
      answered_stored deposits (has_room A A.deposits) A.deposits
      (record { member = member; token = token; content = it }) n h;
}
file_case A member token file n (Err fault) good_member good_token is h = absurd cc

-- what is validated of a deposit's own words
abbrev Words : List ℕ → List ℕ → List ℕ → Bool → Bool → Result Request Refusal
Words member token file a b =
    validated_by (if a then (if b then None else Some refusals.BadToken) else Some refusals.BadMember)
    (requests.Deposit member token file)

words_case : (A : Archive) (member token file : List ℕ) (n : ℕ) (a b : Bool) → is_member member ≡ a → is_token token ≡ b
    → IsReplyBy A (Words member token file a b) (replies.Deposited n)
    → IsDeposited (after_by A (Words member token file a b)) member token file n
words_case A member token file n true true x y h = file_case A member token file n (files.file file) x y refl h
words_case A member token file n true false x y h = absurd cc
words_case A member token file n false true x y h = absurd cc
words_case A member token file n false false x y h = absurd cc

pub deposited : (A : Archive) (member token file : List ℕ) (n : ℕ)
    → IsReply A (requests.Deposit member token file) (replies.Deposited n)
    → IsDeposited (after A (requests.Deposit member token file)) member token file n
deposited A member token file n h = words_case A member token file n (is_member member) (is_token token) refl refl h

-- ---- later

pub deposited_later : (A B : Archive) (member token file : List ℕ) (n : ℕ) → IsLater A B
    → IsDeposited A member token file n → IsDeposited B member token file n
deposited_later A B member token file n later d = record {
  content = d.content;
  member_good = d.member_good;
  token_good = d.token_good;
  read = d.read;
  found =
      subst (λ ds. IsStored deposits ds (record { member = member; token = token; content = d.content }) n)
      (sym later.deposits) (stored_longer deposits A.deposits later.new_deposits _ n d.found);
}

pub deposits_stay_lem : DepositsStay
deposits_stay_lem A B member token file n again h later =
    let M = after A (requests.Deposit member token file) in
    let d = deposited A member token file n h in
    let found = found_numbered (is_of member token) M.deposits (n, d.found.0) d.found.1 in
    let one = numbered_again M.deposits n d.found.0
    (after_again A (validated (requests.Deposit member token file)) again) found.1 in
    let same = one_deposit (record {
      member = member;
      token = token;
      content = d.content;
    }) d.found.0 one (file_read_again file d.content d.read) found.0 d.found.2 in
    (d.content, d.read, deposit_stays M B later n _ (found.1 ∙ ap Some same))

-- it is stored: the number is answered, and nothing changes
by_file : (B : Archive) (member token : List ℕ) (n : ℕ) (it : Contents) (f : Result Contents RleFault) → f ≡ Ok it
    → IsStored deposits B.deposits (record { member = member; token = token; content = it }) n
    → (replies.Deposited n ≡ deposit_reply B (deposit_of_file B member token f))
    × (with_deposit B (deposit_of_file B member token f) ≡ B)
by_file B member token n it f is found =
    subst (λ x. (replies.Deposited n ≡ deposit_reply B (deposit_of_file B member token x))
    × (with_deposit B (deposit_of_file B member token x) ≡ B)) (sym is)
    (let repeats = stored_repeats deposits (has_room B B.deposits) B.deposits (record {
      member = member;
      token = token;
      content = it;
    }) n found in (repeats.0, ap (λ ds. record B { deposits = ds }) repeats.1))

by_words : (B : Archive) (member token file : List ℕ) (n : ℕ) (a b : Bool) → a ≡ true → b ≡ true
    → (replies.Deposited n ≡ deposit_reply B (deposit_of_file B member token (files.file file)))
    × (with_deposit B (deposit_of_file B member token (files.file file)) ≡ B)
    → IsReplyBy B (Words member token file a b) (replies.Deposited n) × (after_by B (Words member token file a b) ≡ B)
by_words B member token file n true true x y h = h
by_words B member token file n true false x y h = absurd cc
by_words B member token file n false true x y h = absurd cc
by_words B member token file n false false x y h = absurd cc

pub deposits_act_once_lem : DepositsActOnce
deposits_act_once_lem A B member token file again n h later same =
    let d = deposited_later (after A (requests.Deposit member token file)) B member token file n later
    (deposited A member token file n h) in
    by_words B member token again n (is_member member) (is_token token) d.member_good d.token_good
    (by_file B member token n d.content (files.file again) (same ∙ d.read) d.found)
