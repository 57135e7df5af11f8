use Rattle.std.proofs.Common.{◌≡◌, ◌++◌, ℕ, List, drop}
use Rattle.life_core.specs.RuleText.{without_blanks}
use Rattle.life_rle.specs.BodyState.{body_from, place_reached}
use Rattle.life_rle.proofs.body.Body.line.Given as goal

abbrev pub invariant-loop-byte : goal.invariant-loop-byte
invariant-loop-byte g l =
    (rest : List ℕ) → body_from (place_reached l.self) (without_blanks (drop l.byte-index l.line) ++ rest)
    ≡ body_from (place_reached l.initial.self) (without_blanks l.line ++ rest)
