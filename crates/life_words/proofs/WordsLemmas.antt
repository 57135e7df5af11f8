-- The number of an argument, and the answer to arguments from `clap`'s answer to them.
use Rattle.std.proofs.Common.{◌≡◌, ◌≢◌, ℕ, ◌<◌, ◌^◌, Bool, true, false, List, [], ◌∷◌, Option, Some, None, option_map}
use Rattle.std.proofs.Common.{option_and_then, Result, Ok, Err, refl, ap, ◌∙◌, sym, inl, inr, arith}
use Rattle.std.specs.Result.{IsErrAnd}
use Rattle.std.specs.Str.Parse.{IsNumeral, ParsesUnsigned, ExplainsUnsignedError, HasUnsignedDigitsIfOk, digits_value}
use Rattle.std.specs.Str.Parse.{without_leading_plus}
use Rattle.std.specs.declared.num.ParseIntError.{ParseIntError}
use Rattle.clap.proofs.OnLiterals.{clap_on_literals}
use Rattle.clap.proofs.ValueTestLemmas.{accepts-Accepts, Accepts-accepts}
use Rattle.clap.specs.ValueTests.{is_unsigned_in}
use Rattle.clap.specs.Words.{App, Text, Kinds, HasKind, HasMatchesOf, ReadsOne, kind_of, is_simple, is_simple_and_free}
use Rattle.clap.specs.Words.{fault_of, found_of, matches_of, rows_of, subcommand_of, subcommand_rows_of}
use Rattle.clap.specs.declared.error.Error.{Error}
use Rattle.clap.specs.declared.error.kind.ErrorKind.TheVariants.{OutOfMemory}
use Rattle.clap.specs.declared.builder.value_parser.ValueParser.TheVariants as vp
use Rattle.clap.specs.declared.parser.matches.ArgMatches.{ArgMatches}
use Rattle.life_words.specs.declared.word_fault.WordFault.{WordFault}
use Rattle.life_words.specs.declared.word_fault.WordFault.TheVariants.{BadWords, Memory}
use Rattle.life_words.specs.WordFault.{ComesFrom}
use Rattle.life_words.specs.Words.{last_number, life_app, number_text, Matches, matches_by, matches_in, unless_fault}
use Rattle.life_words.specs.Words.{Answers}

-- ---- the number of a word

-- what `u64` reads a number from
abbrev IsNumber : Text → Type 0
IsNumber t = IsNumeral 10 (without_leading_plus t) × (digits_value 10 (without_leading_plus t) < 2 ^ 64)

-- such a text writes the number
some_number : (t : Text) (n : ℕ) → IsNumber t → n ≡ digits_value 10 (without_leading_plus t) → Some n ≡ number_text t
some_number t n number is =
    let passes : is_unsigned_in 0 last_number t ≡ true =
    Accepts-accepts false (vp.Unsigned 0 last_number) t (number.0, number.1, omega arith, omega arith) in
    rw (passes, is) refl

-- and another writes none
no_number : (t : Text) → ¬ (IsNumber t) → None ≡ number_text t
no_number t other = go (is_unsigned_in 0 last_number t) refl
  where
    go : (b : Bool) → is_unsigned_in 0 last_number t ≡ b → None ≡ number_text t
    go false fails = rw fails refl
    go true passes =
        let read = accepts-Accepts false (vp.Unsigned 0 last_number) t passes in
        absurd (other (read.0, read.1))

-- what `from_str` of `u64` says of a text
abbrev Gives : Text → Result ℕ ParseIntError → Type 0
Gives t r = ParsesUnsigned 64 10 t r × ExplainsUnsignedError 10 t r × HasUnsignedDigitsIfOk t r

-- what `get_one` reads, where o is the text of the id
pub one_number : (o : Option Text) (n : Option ℕ) → (o ≡ None → n ≡ None)
    → ((t : Text) → o ≡ Some t → ReadsOne Gives t n)
    → n ≡ option_and_then number_text o
one_number None n none value = none refl
one_number (Some t) None none value = no_number t (value t refl).1.0
one_number (Some t) (Some n) none value = some_number t n (value t refl).0.0 (value t refl).0.1

-- ---- the answer to words

pub is_life_simple : is_simple life_app ≡ true
unfolding clap_on_literals
is_life_simple = refl

pub is_life_free : is_simple_and_free life_app ≡ true
unfolding clap_on_literals
is_life_free = refl

-- where an error has one of the kinds and is not out of memory, there is a kind
faulty : (kinds : Kinds) (e : Error) (found : Matches) → HasKind kinds e → kind_of e ≢ OutOfMemory
    → unless_fault kinds found ≡ None
faulty [] e found (inl memory) other = absurd (other memory)
faulty [] e found (inr among) other = absurd among
faulty (kind ∷ kinds) e found has other = refl

-- without a kind all is found
faultless : (kinds : Kinds) (found : Matches) → kinds ≡ [] → unless_fault kinds found ≡ Some found
faultless [] found none = refl
faultless (kind ∷ kinds) found none = absurd (cc)

-- what is found, where `clap` gives matches
pub found_by_matches : (made app : App) (words : List Text) (m : ArgMatches) → made ≡ app → is_simple app ≡ true
    → is_simple_and_free app ≡ true
    → (is_simple_and_free made ≡ true → fault_of made words ≡ []) → HasMatchesOf made words m
    → matches_in app words ≡ Some (matches_by m)
unfolding matches_in
found_by_matches made app words m is simple free kinds matches =
    let none : fault_of app words ≡ [] = rw is at (kinds (ap is_simple_and_free is ∙ free)) in
    let rows : rows_of (found_of m) ≡ matches_of app words = rw is at (matches (ap is_simple is ∙ simple)).0 in
    let met : subcommand_rows_of m ≡ subcommand_of app words = rw is at (matches (ap is_simple is ∙ simple)).1 in
    faultless _ _ none ∙ (λ k. Some (sym rows k, sym met k))

-- .. and where it gives an error
pub found_by_error : (made app : App) (words : List Text) (e : Error) (r : Result ArgMatches WordFault)
    → made ≡ app → is_simple_and_free app ≡ true
    → (is_simple_and_free made ≡ true → HasKind (fault_of made words) e) → IsErrAnd r (ComesFrom e)
    → Answers matches_by (matches_in app words) r
unfolding matches_in
found_by_error made app words e (Ok m) is free kinds from = absurd from
found_by_error made app words e (Err Memory) is free kinds from = tt
found_by_error made app words e (Err (BadWords None)) is free kinds from = absurd from
found_by_error made app words e (Err (BadWords (Some kept))) is free kinds from =
    faulty _ e _ (rw is at (kinds (ap is_simple_and_free is ∙ free))) from.1

-- ---- from what is found to the answer of any program

module _ {J A : Type 0} (asked_by : J → A) where
  -- any fault is an answer to words that ask for nothing
  pub answer_by_fault : (asked : Option A) (r : Result J WordFault) (P : WordFault → Type 0)
      → asked ≡ None → IsErrAnd r P → Answers asked_by asked r
  answer_by_fault asked (Ok job) P none failed = absurd failed
  answer_by_fault asked (Err Memory) P none failed = tt
  answer_by_fault asked (Err (BadWords error)) P none failed = none

  -- what the words ask for, where this is found in them
  pub asked_of : (read : Matches → Option A) (found : Option Matches) (m : ArgMatches) (job : Option J)
      → found ≡ Some (matches_by m) → option_map asked_by job ≡ read (matches_by m)
      → option_and_then read found ≡ option_map asked_by job
  asked_of read found m job is named = ap (option_and_then read) is ∙ sym named

  -- a fault of what is found is that of the answer
  pub answer_to_fault : (read : Matches → Option A) (found : Option Matches) (fault : WordFault)
      (r : Result J WordFault) → Answers matches_by found (Err fault) → IsErrAnd r (λ same. same ≡ fault)
      → Answers asked_by (option_and_then read found) r
  answer_to_fault read found fault (Ok job) none same = absurd same
  answer_to_fault read found fault (Err Memory) none same = tt
  answer_to_fault read found Memory (Err (BadWords error)) none same = absurd (cc)
  answer_to_fault read found (BadWords first) (Err (BadWords error)) none same = ap (option_and_then read) none
