-- The lines that a job over an archive prints on standard error, each without its line end.
use Rattle.std.specs.Prelude.{ℕ, List, codes}
use Rattle.life_desk.specs.Refusals as refusals
use Rattle.life_jobs.specs.JobStop as jobs
use Rattle.life_pages.specs.declared.pages_fault.IoFault.{IoFault}
use Rattle.life_pages.specs.declared.pages_fault.IoFault.TheVariants as fault
use Rattle.life_archive.specs.declared.archive_stop.ArchiveStop.{ArchiveStop}
use Rattle.life_archive.specs.declared.archive_stop.ArchiveStop.TheVariants.{Job, Desk, NotOurs, NoPort}

-- the line of a stop
abbrev pub line_of : ArchiveStop → List ℕ
line_of (Job stop) = jobs.line_of stop
line_of (Desk refusal) = refusals.line_of refusal
line_of NotOurs = codes "refused: not-ours"
line_of NoPort = codes "refused: no-port"

-- the line for a connection that failed
abbrev pub connection_line : IoFault → List ℕ
connection_line fault.Read = codes "connection: read"
connection_line fault.Write = codes "connection: write"
connection_line fault.TooManyReads = codes "connection: too-many-reads"
connection_line fault.Memory = codes "connection: memory"
