use Rattle.life_rle.proofs.RecordLaws.{plain_is_record}
use Rattle.life_rle.proofs.record.into_plain.Goals as goal

pub invariant_of-result : goal.invariant_of-result
invariant_of-result g c = plain_is_record _ c.args.pattern _ _ c.new.ensures c.into_normal.ensures
