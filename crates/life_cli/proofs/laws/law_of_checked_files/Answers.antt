use Rattle.life_cli.proofs.CheckedFilesLemmas.{checked_files_begin}
use Rattle.life_cli.proofs.laws.law_of_checked_files.Goals as goal

pub returns : goal.returns
returns g c = checked_files_begin g.D.Disk g.E.Disk
