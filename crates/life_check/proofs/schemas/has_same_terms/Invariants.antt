use Rattle.std.proofs.Common.{◌≡◌, ◌↔◌, length, map}
use Rattle.sqlite_schema.specs.Code.{term_in}
use Rattle.life_check.proofs.schemas.has_same_terms.Given as goal

abbrev pub invariant-loop-roots : goal.invariant-loop-roots
invariant-loop-roots l =
    (map (term_in l.left) l.roots ≡ map (term_in l.right) l.places)
    ↔ (map (term_in l.left) l.fn.roots ≡ map (term_in l.right) l.fn.places)

abbrev pub decreases-loop-roots : goal.decreases-loop-roots
decreases-loop-roots l = length l.roots
