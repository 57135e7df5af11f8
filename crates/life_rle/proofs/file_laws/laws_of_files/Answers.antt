use Rattle.life_rle.proofs.RecordLaws.{kept_is_record}
use Rattle.life_rle.proofs.RoundText.{read_again, file_again}
use Rattle.life_rle.proofs.file_laws.laws_of_files.Goals as goal

pub returns : goal.returns
returns c = record { records = kept_is_record; again = read_again; file = file_again }
