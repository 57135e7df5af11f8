-- The state of the function that reads a text.
use Rattle.std.specs.Prelude.{ℕ, Option, None, Some, List, [], ◌∷◌}
use Rattle.life_core.specs.RuleText.{normalized_text}

-- the unread part of the normalized text: its next byte, and the text after that, which is not normalized yet
abbrev pub left_to_read : Option ℕ → List ℕ → List ℕ
left_to_read None rest = []
left_to_read (Some b) rest = b ∷ normalized_text rest
