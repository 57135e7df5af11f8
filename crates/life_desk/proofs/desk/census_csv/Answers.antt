use Rattle.std.proofs.Common.{rules}
use Rattle.life_desk.proofs.StoredReplies.{csv_told}
use Rattle.life_desk.proofs.desk.census_csv.Goals as goal

pub returns-in-Some : goal.returns-in-Some
returns-in-Some g c =
    let kept = c.in_ok-counted_census.ensures in
    record {
      transition = kept.transition;
      promised = search rules;
      healthy = search rules;
      effect =
          λ A healthy m. csv_told A.deposits _ _ _ _ c.in-Some.is (kept.value A healthy m) c.csv_of.ensures
          (kept.same A healthy m);
    }
