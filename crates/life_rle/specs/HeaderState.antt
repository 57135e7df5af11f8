-- The rule text of a header, which the code returns as a reference into the line.
use Rattle.std.specs.Prelude.{ℕ, List, Option}
use Rattle.std.specs.Option.{option_map, option_copied}
use Rattle.std.specs.Borrow.{Bor}

-- the bytes that the reference points to
abbrev pub rule_copied : Option (Option (Bor (List ℕ))) → Option (Option (List ℕ))
rule_copied rule = option_map option_copied rule
