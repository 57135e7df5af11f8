-- Used only by contracts inside the crate: the state after a refused statement (the kit's `sqlite`).
use Rattle.std.specs.Prelude.{◌≡◌, false, IsTrue}
use Rattle.sqlite.specs.State.{State}

-- a connection that is open was open before and sees the same database, and it began no transaction
pub record IsSeenAgain (old new : State) : Type 0 where
  pub was_open : IsTrue new.is_open → IsTrue old.is_open
  pub now_is : IsTrue new.is_open → new.now ≡ old.now
  pub mode : old.in_transaction ≡ false → new.in_transaction ≡ false
