-- The errors that are listed after the first one.
use Rattle.std.specs.Prelude.{◌≡◌, ◌<◌, ⊤, pos, true, List, [], length, Result, Ok, Err}
use Rattle.std.specs.List.{AllByRecursion}
use Rattle.sqlite_value.specs.Order.{Row}
use Rattle.sqlite_trees.specs.View.{Finds}
use Rattle.life_store.specs.declared.store_fault.Unavailable.{Unavailable}
use Rattle.life_store.specs.declared.kept.Deposit.{Deposit}
use Rattle.life_store.specs.Stored.{IsFiled}
use Rattle.life_check.specs.declared.archive_check.CheckVerdict.{CheckVerdict}
use Rattle.life_check.specs.declared.archive_check.CheckVerdict.TheVariants.{Sound, SoundButForCounts, NotSound}
use Rattle.life_check.specs.declared.archive_check.Wrong.{Wrong}
use Rattle.life_check.specs.declared.archive_check.Wrong.TheVariants as wrong
use Rattle.life_check.specs.ReadState.{IsNamed, deposit_row}

-- A listed error of a deposit is real: `deposits` has no row of a deposit with this number, or only one with an invalid
-- member or token. Listed errors of censuses are not proved. Errors of other kinds are never listed.
abbrev pub IsWrongThere : List Row → Wrong → Type 0
IsWrongThere deposits (wrong.Deposit id) =
    (d : Deposit) → IsFiled d → Finds deposits (pos id) (deposit_row id d) true → ⊥
IsWrongThere deposits (wrong.DepositNames id) =
    (d : Deposit) → IsNamed d → Finds deposits (pos id) (deposit_row id d) true → ⊥
IsWrongThere deposits (wrong.Census id) = ⊤
IsWrongThere deposits wrong.Layout = ⊥
IsWrongThere deposits wrong.Tables = ⊥

abbrev pub AreWrongThere : List Row → List Wrong → Type 0
AreWrongThere deposits = AllByRecursion (IsWrongThere deposits)

-- The error is in `layout` or in a deposit. The check then ended before the censuses, and the list continues with the
-- deposits after it. If the schema is wrong, nothing more is listed.
abbrev pub IsBeforeCensuses : Wrong → Type 0
IsBeforeCensuses wrong.Tables = ⊥
IsBeforeCensuses wrong.Layout = ⊤
IsBeforeCensuses (wrong.Deposit id) = ⊤
IsBeforeCensuses (wrong.DepositNames id) = ⊤
IsBeforeCensuses (wrong.Census id) = ⊥

-- the verdict is such an error
abbrev pub StopsBeforeCensuses : CheckVerdict → Type 0
StopsBeforeCensuses (Sound d c) = ⊥
StopsBeforeCensuses (SoundButForCounts d c) = ⊥
StopsBeforeCensuses (NotSound w) = IsBeforeCensuses w

-- at most 100 errors are listed, including the first; without an error, the list is empty
abbrev pub AreFurther : Result CheckVerdict Unavailable → List Wrong → Type 0
AreFurther (Ok (Sound d c)) listed = listed ≡ []
AreFurther (Ok (SoundButForCounts d c)) listed = listed ≡ []
AreFurther (Ok (NotSound w)) listed = length listed < 100
AreFurther (Err e) listed = listed ≡ []
