use Rattle.life_rle.proofs.FileReaderLaws.{sound_new, read_too_long, read_ok, read_fault}
use Rattle.life_rle.proofs.file_reader.read_from.Goals as goal

pub returns-then-taken-eq-MOST_TAKEN-clause-exact : goal.returns-then-taken-eq-MOST_TAKEN-clause-exact
returns-then-taken-eq-MOST_TAKEN-clause-exact g c =
    read_too_long _ c.read_stream.new.file_reader c.in_ok-taken.taken c.in_ok-taken.ensures.follows
    c.if-taken-eq-MOST_TAKEN.true

pub returns-in-Ok-clause-exact : goal.returns-in-Ok-clause-exact
returns-in-Ok-clause-exact g c =
    read_ok _ c.read_stream.new.file_reader c.in_ok-taken.taken c.in-Ok.record c.in_ok-taken.ensures.follows
    c.if-taken-eq-MOST_TAKEN.false c.in-Ok.ensures.gives

pub returns-in-Err-clause-exact : goal.returns-in-Err-clause-exact
returns-in-Err-clause-exact g c =
    read_fault _ c.read_stream.new.file_reader c.in_ok-taken.taken c.in-Err.fault c.in_ok-taken.ensures.follows
    c.if-taken-eq-MOST_TAKEN.false c.in-Err.ensures.gives

pub read_stream-requires-clause-sound : goal.read_stream-requires-clause-sound
read_stream-requires-clause-sound g c = sound_new c.new-file_reader.result c.new-file_reader.ensures
