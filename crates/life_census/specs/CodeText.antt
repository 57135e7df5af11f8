-- The characters of codes, none of which needs quotes in CSV.
use Rattle.std.specs.Prelude.{ℕ, Bool, ◌&&◌, ◌||◌, ◌==◌, nat_le}
use Rattle.life_core.specs.Ascii.{digit_0, digit_9, underscore, letter_a, letter_z}

-- a lower-case letter, a digit or `_`
abbrev pub is_code_byte : ℕ → Bool
is_code_byte b = (nat_le letter_a b && nat_le b letter_z) || (nat_le digit_0 b && nat_le b digit_9) || (b == underscore)
