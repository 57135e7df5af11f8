use Rattle.sqlite_wal.specs.Reads.{AreClean}
use Rattle.sqlite.specs.Files.{image_of}
use Rattle.life_store.proofs.SchemaLemmas.{found_again, ours_again}
use Rattle.life_store.proofs.opening.Archive+FileStore+D.reopen.Goals as goal

pub returns-in-Ok-clause-found : goal.returns-in-Ok-clause-found
returns-in-Ok-clause-found g c =
    found_again c.open_files.result c.args.self.tables (image_of g.D.Disk c.in-Ok.files)
    (AreClean g.D.Disk c.in-Ok.files.log c.in-Ok.files.db) c.open_files.ensures.found c.open_files.ensures.honest
    c.in-Ok.ensures.held

pub returns-in-Ok-clause-ours : goal.returns-in-Ok-clause-ours
returns-in-Ok-clause-ours g c =
    ours_again c.open_files.result c.args.self.tables (image_of g.D.Disk c.in-Ok.files)
    (AreClean g.D.Disk c.in-Ok.files.log c.in-Ok.files.db) (λ files. AreClean g.D.Disk files.log files.db)
    c.open_files.ensures.ours c.open_files.ensures.clean c.in-Ok.ensures.held
