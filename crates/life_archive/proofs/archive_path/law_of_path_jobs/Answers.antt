use Rattle.life_archive.proofs.PathJobs.{path_jobs_compose, path_jobs_over_crashes, path_jobs_over_refusals}
use Rattle.life_archive.proofs.archive_path.law_of_path_jobs.Goals as goal

pub returns-clause-composed : goal.returns-clause-composed
returns-clause-composed g c = path_jobs_compose g.D.Disk g.E.Disk

pub returns-clause-crashed : goal.returns-clause-crashed
returns-clause-crashed g c = path_jobs_over_crashes g.D.Disk g.E.Disk c.law_of_migrated_archives.ensures

pub returns-clause-refused : goal.returns-clause-refused
returns-clause-refused g c = path_jobs_over_refusals g.D.Disk g.E.Disk c.law_of_migrated_archives.ensures
