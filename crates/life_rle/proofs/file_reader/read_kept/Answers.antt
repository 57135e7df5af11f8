use Rattle.life_rle.proofs.FileReaderLaws.{sound_new, sound_more}
use Rattle.life_rle.proofs.file_reader.read_kept.Goals as goal

pub finish-requires : goal.finish-requires
finish-requires g c =
    sound_more c.new-file_reader.result c.take_all.new.self _
    (sound_new c.new-file_reader.result c.new-file_reader.ensures) c.in_ok-take_all.ensures
