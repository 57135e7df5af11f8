-- Validation of a request's own fields, in the order member, token, limits, rule, before the archive is queried. The
-- result is the refusal for the first invalid field, or the request itself.
use Rattle.std.specs.Prelude.{◌≡◌, ◌≤◌, ◌⊎◌, ◌==◌, ◌&&◌, ◌||◌, ℕ, Bool, List, length, Option, None, Some, Result}
use Rattle.std.specs.Prelude.{Ok, Err, IsOk, nat_le, if◌then◌else◌}
use Rattle.std.specs.List.{list_all}
use Rattle.life_core.specs.Ascii.{hyphen, digit_0, digit_9, letter_a, letter_z}
use Rattle.life_core.specs.declared.generations.TheConstants.{GENERATION_LIMIT}
use Rattle.life_code.specs.declared.period.TheConstants.{PERIOD_LIMIT}
use Rattle.life_core.specs.Rule.{RuleSets}
use Rattle.life_core.specs.declared.rule_text.RuleFault.{RuleFault}
use Rattle.life_core.specs.RuleText.{read_rule}
use Rattle.life_desk.specs.declared.refusal.Refusal.{Refusal}
use Rattle.life_desk.specs.declared.refusal.Refusal.TheVariants.{BadMember, BadToken, OutOfLimit, BadRule, Unavailable}
use Rattle.life_desk.specs.declared.request.Request.{Request}
use Rattle.life_desk.specs.declared.request.Request.TheVariants as requests

abbrev pub is_between : ℕ → ℕ → ℕ → Bool
is_between low high n = nat_le low n && nat_le n high

-- a-z, 0-9 and -
abbrev pub is_member_byte : ℕ → Bool
is_member_byte b = is_between letter_a letter_z b || (is_between digit_0 digit_9 b || (b == hyphen))

-- these and A-Z
abbrev pub is_token_byte : ℕ → Bool
is_token_byte b = is_between 65 90 b || is_member_byte b

unfoldable pub is_member : List ℕ → Bool
is_member bytes = is_between 1 32 (length bytes) && list_all is_member_byte bytes

unfoldable pub is_token : List ℕ → Bool
is_token bytes = is_between 1 64 (length bytes) && list_all is_token_byte bytes

abbrev pub is_generation : ℕ → Bool
is_generation n = nat_le n GENERATION_LIMIT

abbrev pub is_limit : ℕ → Bool
is_limit n = is_between 1 PERIOD_LIMIT n

-- ---- the first invalid field

abbrev pub names_fault : List ℕ → List ℕ → Option Refusal
names_fault member token =
    if is_member member then (if is_token token then None else Some BadToken) else Some BadMember

abbrev pub generation_fault : ℕ → Option Refusal
generation_fault n = if is_generation n then None else Some OutOfLimit

abbrev pub limit_fault : ℕ → Option Refusal
limit_fault limit = if is_limit limit then None else Some OutOfLimit

abbrev pub rule_fault : Result RuleSets RuleFault → Option Refusal
rule_fault (Ok rule) = None
rule_fault (Err fault) = Some BadRule

-- the first of two refusals, if any
abbrev pub first_fault : Option Refusal → Option Refusal → Option Refusal
first_fault (Some refusal) later = Some refusal
first_fault None later = later

-- the refusal of a request for its own fields, if one of them is invalid
abbrev pub fault_in : Request → Option Refusal
fault_in (requests.Deposit member token file) = names_fault member token
fault_in (requests.At id n) = generation_fault n
fault_in (requests.KindOf id limit) = limit_fault limit
fault_in (requests.Census member token id n limit) =
    first_fault (names_fault member token) (first_fault (generation_fault n) (limit_fault limit))
fault_in (requests.Total rule code limit) = first_fault (limit_fault limit) (rule_fault (read_rule rule))
fault_in _ = None

-- the bounds on the generation and the limit of a valid request
abbrev pub IsGood : Request → Type 0
IsGood (requests.At id n) = n ≤ GENERATION_LIMIT
IsGood (requests.KindOf id limit) = (1 ≤ limit) × (limit ≤ PERIOD_LIMIT)
IsGood (requests.Census member token id n limit) = (n ≤ GENERATION_LIMIT) × (1 ≤ limit) × (limit ≤ PERIOD_LIMIT)
IsGood (requests.Total rule code limit) = (1 ≤ limit) × (limit ≤ PERIOD_LIMIT)
IsGood _ = Unit {0}

abbrev pub validated_by : Option Refusal → Request → Result Request Refusal
validated_by None q = Ok q
validated_by (Some refusal) q = Err refusal

-- the request, or its refusal
abbrev pub validated : Request → Result Request Refusal
validated q = validated_by (fault_in q) q

-- the result of a check that found this refusal, if any
abbrev pub checked : Option Refusal → Result (Unit {0}) Refusal
checked None = Ok tt
checked (Some refusal) = Err refusal

-- a check of a request's fields returns the result of validation
abbrev pub IsChecked : {J : Type 0} → Result (Unit {0}) Refusal → Result J Refusal → Type 0
IsChecked (Ok u) words = IsOk words
IsChecked (Err refusal) words = words ≡ Err refusal

-- the possible refusals before the archive is queried: for a request's own fields, or `unavailable` if these are valid
abbrev pub MayRefuse : {J : Type 0} → Result J Refusal → Refusal → Type 0
MayRefuse words refusal = (words ≡ Err refusal) ⊎ (IsOk words × (refusal ≡ Unavailable))
