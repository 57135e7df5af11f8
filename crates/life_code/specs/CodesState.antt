-- The search for the least text, which compares one text after another.
use Rattle.std.specs.Prelude.{ℕ, Option, Some, None, List, [], ◌∷◌}
use Rattle.std.specs.declared.vec.Vec.{Vec}
use Rattle.life_code.specs.Codes.{lesser}

-- the least of the best text so far and the remaining texts
abbrev pub kept_least : Option (List ℕ) → List (List ℕ) → Option (List ℕ)
kept_least best [] = best
kept_least best (text ∷ texts) = kept_least (Some (lesser text best)) texts

-- the bytes of a text, if there is one
abbrev pub bytes_of : {A : Type 0} → Option (Vec ℕ A) → Option (List ℕ)
bytes_of None = None
bytes_of (Some text) = Some text.items

-- the text as a list of at most one
abbrev pub list_of : {A : Type 0} → Option (Vec ℕ A) → List (List ℕ)
list_of None = []
list_of (Some text) = text.items ∷ []
