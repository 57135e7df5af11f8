-- The codes of clusters, one after the other.
use Rattle.std.specs.Prelude.{◌≡◌, ℕ, ◌+◌, ◌<◌, List, [], ◌∷◌, ◌++◌, length, map, Option}
use Rattle.std.proofs.Common.{ap, ◌∙◌, get_or, take}
use Rattle.std.proofs.lemmas.List.{take_more, map-append}
use Rattle.life_core.specs.Pattern.{Cells}

-- the codes of the first clusters, with one more
pub one_more_mapped : (code : Cells → Option (List ℕ)) (Ps : List Cells) (i : ℕ) (d : Cells)
    → i < length Ps → map code (take (i + 1) Ps) ≡ map code (take i Ps) ++ code (get_or Ps i d) ∷ []
one_more_mapped code Ps i d low =
    ap (map code) (take_more Ps i d low) ∙ map-append code (take i Ps) (get_or Ps i d ∷ [])
