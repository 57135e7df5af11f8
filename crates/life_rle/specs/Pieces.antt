-- Streams in pieces: how many bytes a call gives, and which call fails.
use Rattle.std.specs.Prelude.{◌≡◌, ℕ, min, Option, Some, Result, Ok, Err}

-- how many bytes a read gives: a full piece, unless fewer remain or fit
abbrev pub whole_piece : ℕ → ℕ → ℕ → ℕ
whole_piece piece left room = min (min left room) piece

-- call `number` fails exactly when `fail_at` names it
abbrev pub FailsAt : {E : Type 0} → Option ℕ → ℕ → Result ℕ E → Type 0
FailsAt fail_at number (Ok k) = ¬ (fail_at ≡ Some number)
FailsAt fail_at number (Err e) = fail_at ≡ Some number
