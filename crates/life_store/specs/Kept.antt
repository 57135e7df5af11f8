-- The contents of an archive: deposits, and censuses each with a tally and a flag. Both lists are numbered from 1.
use Rattle.std.specs.Prelude.{◌&&◌, ◌+◌, ℕ, zero, suc, Bool, List, [], ◌∷◌, Option, None, Some, map, filter, take}
use Rattle.std.specs.Prelude.{sum_by, slice_get, nat_lt, bytes_eq, false, if◌then◌else◌}
use Rattle.std.specs.FinSet as set
use Rattle.life_core.specs.Rule.{RuleSets}
use Rattle.life_core.specs.RuleEquality.{same_rule}
use Rattle.life_core.specs.RuleText.{rule_text}
use Rattle.life_rle.specs.Writer.{text}
use Rattle.life_census.specs.Rows.{TallyCounts}
use Rattle.life_store.specs.declared.kept.Deposit.{Deposit}
use Rattle.life_store.specs.declared.kept.Census.{Census}
use Rattle.life_store.specs.declared.kept.KeptCensus.{KeptCensus}
use Rattle.life_store.specs.declared.kept.Listed.{Listed}

-- a census with a tally, and whether the generation that it counted is steady
pub record Tallied : Type 0 where
  pub census : Census
  pub tally : TallyCounts
  pub steady : Bool

-- the contents of an archive, in the order in which they were added
pub record Kept : Type 0 where
  pub deposits : List Deposit
  pub censuses : List Tallied

-- the elements with consecutive numbers: for [a, b] from 1 on, (1, a) and (2, b)
abbrev pub numbered_from : {X : Type 0} → ℕ → List X → List (ℕ × X)
numbered_from id [] = []
numbered_from id (x ∷ xs) = (id, x) ∷ numbered_from (id + 1) xs

-- the element with the number: in [a, b], number 2 is b, and 0 and 3 are None
abbrev pub numbered : {X : Type 0} → List X → ℕ → Option X
numbered xs zero = None
numbered xs (suc i) = slice_get xs i

-- the first element that passes the test, with its number, if the first of the list has the number `id`
unfoldable pub first_from : {X : Type 0} → (X → Bool) → ℕ → List X → Option (ℕ × X)
first_from test id [] = None
first_from test id (x ∷ xs) = if test x then Some (id, x) else first_from test (id + 1) xs

-- whether the deposit has this member and this token
abbrev pub is_of : List ℕ → List ℕ → Deposit → Bool
is_of member token d = bytes_eq d.member member && bytes_eq d.token token

abbrev pub is_census_of : List ℕ → List ℕ → Census → Bool
is_census_of member token c = bytes_eq c.member member && bytes_eq c.token token

-- the first deposit of the member and the token, with its number
abbrev pub deposit_by : List ℕ → List ℕ → List Deposit → Option (ℕ × Deposit)
deposit_by member token ds = first_from (is_of member token) 1 ds

-- the canonical text of a deposit, with its number
abbrev pub file_of_deposit : ℕ × Deposit → ℕ × List ℕ
file_of_deposit p = (p.0, text p.1.content)

-- the first census of the member and the token, with its number
abbrev pub census_by : List ℕ → List ℕ → List Census → Option (ℕ × Census)
census_by member token cs = first_from (is_census_of member token) 1 cs

-- the censuses without their tallies and flags
abbrev pub censuses_of : Kept → List Census
censuses_of k = map (λ (t : Tallied). t.census) k.censuses

-- the line of a deposit: number, member, population, canonical rule text
abbrev pub listed_as : ℕ × Deposit → Listed
listed_as p =
    record { id = p.0; member = p.1.member; population = set.len p.1.content.cells; rule = rule_text p.1.content.rule }

-- the lines of the first 100 deposits with a greater number
unfoldable pub listed_after : ℕ → List Deposit → List Listed
listed_after id ds = map listed_as (take 100 (filter (λ p. nat_lt id p.0) (numbered_from 1 ds)))

-- a census with the numbers of its tally
abbrev pub kept_census : Tallied → KeptCensus
kept_census t = record { census = t.census; unresolved = t.tally.unresolved; total = t.tally.total }

-- whether the deposit of the number has the rule
abbrev pub has_rule : RuleSets → Option Deposit → Bool
has_rule rule None = false
has_rule rule (Some d) = same_rule d.content.rule rule

-- how many clusters of a tally have the code
abbrev pub count_of_code : List ℕ → List (List ℕ × ℕ) → ℕ
count_of_code code rows = sum_by (λ row. if bytes_eq row.0 code then row.1 else 0) rows

-- how many clusters with the code one census has, or 0 if its deposit has another rule
abbrev pub share : List Deposit → RuleSets → List ℕ → Tallied → ℕ
share ds rule code t = if has_rule rule (numbered ds t.census.deposit) then count_of_code code t.tally.rows else 0

-- how many clusters with the code all censuses of deposits with the rule have
abbrev pub total_of : Kept → RuleSets → List ℕ → ℕ
total_of k rule code = sum_by (share k.deposits rule code) k.censuses
