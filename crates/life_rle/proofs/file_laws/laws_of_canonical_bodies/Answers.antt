use Rattle.life_rle.proofs.LawsCanonical.{canonical_bodies}
use Rattle.life_rle.proofs.LawsOne.{one_body}
use Rattle.life_rle.proofs.file_laws.laws_of_canonical_bodies.Goals as goal

pub returns : goal.returns
returns c = record { canonical = canonical_bodies; one = one_body }
