use Rattle.life_check.proofs.WalkLemmas.{no_both}
use Rattle.life_check.proofs.SoundLemmas.{other_tables}
use Rattle.life_check.proofs.archive_check.check.Goals as goal

pub returns-in-Ok-false-clause-sound : goal.returns-in-Ok-false-clause-sound
returns-in-Ok-false-clause-sound g c clean =
    other_tables c.args.quick c.args.archive
    (λ same. no_both c.in-Ok-false.field-0 (c.in-Ok-false.ensures.1 same) c.in-Ok-false.field-0-test)
