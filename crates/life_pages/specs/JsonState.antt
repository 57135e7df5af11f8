-- The members that the private calls have added to an object.
use Rattle.std.specs.Prelude.{codes}
use Rattle.serde_json.specs.Data.{number, string, Members, member, no_members}
use Rattle.serde_json.specs.Find.{of_integer}
use Rattle.life_code.specs.declared.kinds.Kind.{Kind}
use Rattle.life_code.specs.declared.kinds.Kind.TheVariants.{Empty, Still, Oscillator, Ship, Unresolved}
use Rattle.life_pages.specs.Json.{count}

-- the members of a kind, except its code
abbrev pub kind_members : Kind → Members
kind_members Empty = member (codes "kind") (string (codes "empty")) no_members
kind_members Unresolved = member (codes "kind") (string (codes "unresolved")) no_members
kind_members Still = member (codes "kind") (string (codes "still")) no_members
kind_members (Oscillator period) =
    member (codes "kind") (string (codes "oscillator")) (member (codes "period") (count period) no_members)
kind_members (Ship period dx dy) =
    member (codes "dx") (number (of_integer dx)) (member (codes "dy") (number (of_integer dy))
    (member (codes "kind") (string (codes "ship")) (member (codes "period") (count period) no_members)))
