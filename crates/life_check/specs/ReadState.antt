-- Reading the rows of a table: the state, and the results.
use Rattle.std.specs.Prelude.{◌≡◌, ◌≤◌, ◌+◌, ℕ, pos, Bool, false, List, [], ◌∷◌, ◌++◌, length, IsTrue}
use Rattle.std.specs.List.{AllByRecursion}
use Rattle.sqlite_value.specs.Order.{Row}
use Rattle.sqlite_value.specs.declared.value.Value.TheVariants.{Null, Int}
use Rattle.life_store.specs.declared.kept.Deposit.{Deposit}
use Rattle.life_store.specs.declared.kept.Census.{Census}
use Rattle.life_store.specs.Kept.{Tallied}
use Rattle.life_store.specs.Stored.{IsFiled, rows_by, deposit_cells, census_cells, count_cells, flag_cells, flag_number}
use Rattle.life_desk.specs.Validation.{is_member, is_token}

-- The first n rows represent n elements under the ids from 1 on, and P holds for each element. The other rows are left.
pub record IsReadUpTo {X : Type 0} (f : X → Row) (P : X → Type 0) (n : ℕ) (rows left : List Row) : Type 0 where
  pub done : List X
  pub many : length done ≡ n
  pub good : AllByRecursion P done
  pub are : rows ≡ rows_by f 1 done ++ left

-- the rows represent exactly n elements, and P holds for each
abbrev pub AreOf : {X : Type 0} → (X → Row) → (X → Type 0) → List Row → ℕ → Type 0
AreOf {X} f P rows n = (xs : List X) × (rows ≡ rows_by f 1 xs) × AllByRecursion P xs × (length xs ≡ n)

-- these rows don't represent any list of elements for which P holds
abbrev pub AreNone : {X : Type 0} → (X → Row) → (X → Type 0) → List Row → Type 0
AreNone {X} f P rows = (xs : List X) → rows ≡ rows_by f 1 xs → AllByRecursion P xs → ⊥

-- The row with this number is the first wrong one. The rows before it represent elements for which P holds. It exists,
-- and doesn't represent any element for which Q holds.
pub record IsFirstWrong {X : Type 0} (f : X → Row) (P Q : X → Type 0) (rows : List Row) (id : ℕ) : Type 0 where
  pub before : ℕ
  pub number : id ≡ before + 1
  pub row : Row
  pub more : List Row
  pub read : IsReadUpTo f P before rows (row ∷ more)
  pub bad : (x : X) → Q x → row ≡ Int (pos id) ∷ f x → ⊥

-- the row of a deposit under its number
abbrev pub deposit_row : ℕ → Deposit → Row
deposit_row id d = Int (pos id) ∷ deposit_cells d

-- a member and a token that are valid in a request
abbrev pub AreNames : List ℕ → List ℕ → Type 0
AreNames member token = IsTrue (is_member member) × IsTrue (is_token token)

-- a deposit that a valid request can make, and that a table can store
pub record IsNamed (d : Deposit) : Type 0 where
  pub filed : IsFiled d
  pub named : AreNames d.member d.token

-- the row represents a deposit under this number
abbrev pub IsDepositRow : ℕ → Row → Type 0
IsDepositRow id row = (d : Deposit) × IsFiled d × (row ≡ deposit_row id d)

-- the row of a census under its number
abbrev pub census_row : ℕ → Tallied → Row
census_row id t = Int (pos id) ∷ census_cells t

-- a row of a tally, with the number of its census, at its place in the table
abbrev pub count_row : ℕ → ℕ × (List ℕ × ℕ) → Row
count_row at r = Int (pos at) ∷ count_cells r

-- the row of a census, from its fields, how many clusters there are, and how many of them have no code
abbrev pub census_row_of : ℕ → Census → ℕ → ℕ → Row
census_row_of id c total unresolved = census_row id (record {
  census = c;
  tally = record { rows = []; unresolved = unresolved; total = total };
  steady = false;
})

-- the row of the flag of a census under its number
abbrev pub flag_row : ℕ → Tallied → Row
flag_row id t = Int (pos id) ∷ flag_cells t

-- the row of a flag, from the number of its census
abbrev pub flag_row_of : ℕ → Bool → Row
flag_row_of id steady = Int (pos id) ∷ Null ∷ Int (pos (flag_number steady)) ∷ []

-- the census's member and token are valid in a request, and its generation and its limit are in range
pub record IsValidCensus (c : Census) : Type 0 where
  pub named : AreNames c.member c.token
  pub few : c.generation ≤ 2048
  pub some : 1 ≤ c.limit
  pub short : c.limit ≤ 2048
