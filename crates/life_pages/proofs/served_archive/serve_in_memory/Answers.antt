use Rattle.sqlite.specs.Steps.{over_memory}
use Rattle.life_pages.proofs.ArchiveRuns.{in_memory, told_in_memory, served_in_memory}
use Rattle.life_pages.proofs.served_archive.serve_in_memory.Goals as goal

pub returns-clause-served : goal.returns-clause-served
returns-clause-served g c =
    served_in_memory over_memory g.I.Inlet g.O.Outlet c.args.archive.now c.serve-served.new.archive
    c.args.input.now c.serve-served.new.input
    c.args.output.now c.serve-served.new.output c.serve-served.result c.law_of_memory.ensures.healthy
    c.serve-served.ensures.served

pub returns-clause-headline : goal.returns-clause-headline
returns-clause-headline g c =
    told_in_memory over_memory _ c.args.archive.now c.serve-served.new.archive c.serve-served.result
    c.law_of_memory.ensures.healthy c.serve-served.ensures.headline

pub returns-clause-headlines : goal.returns-clause-headlines
returns-clause-headlines g c =
    in_memory over_memory _ _ c.law_of_memory.ensures.healthy c.serve-served.ensures.headlines
