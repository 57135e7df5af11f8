use Rattle.life_pages.proofs.ArchiveRuns.{archive_served, served_safely}
use Rattle.life_pages.proofs.ArchiveAnswers.{first_answered, all_answered}
use Rattle.life_pages.proofs.ArchiveHeadline.{headline_first, headline_all}
use Rattle.life_pages.proofs.FirmReplies.{firm_replies}
use Rattle.life_pages.proofs.served_archive.serve.Goals as goal

pub returns-clause-served : goal.returns-clause-served
returns-clause-served g c =
    archive_served g.S.Store g.I.Inlet g.O.Outlet c.args.archive.now c.serve_desk.new.desk
    c.args.input.now c.serve_desk.new.input
    c.args.output.now c.serve_desk.new.output c.serve_desk.result c.serve_desk.ensures.served

pub returns-clause-crash : goal.returns-clause-crash
returns-clause-crash g c =
    served_safely g.S.Store _ c.args.archive.now c.serve_desk.new.desk _ _ c.law_of_crashes.ensures
    c.serve_desk.ensures.served.some

pub returns-clause-headline : goal.returns-clause-headline
returns-clause-headline g c =
    headline_all g.S.Store c.law_of_the_archive.ensures
    (g.I.Inlet.to_come c.args.input.now) c.args.archive.now c.serve_desk.new.desk
    (g.O.Outlet.already c.args.output.now) (g.O.Outlet.already c.serve_desk.new.output) c.serve_desk.result
    (returns-clause-served g c).known

pub returns-clause-headlines : goal.returns-clause-headlines
returns-clause-headlines g c =
    headline_first g.S.Store c.law_of_the_archive.ensures
    (g.I.Inlet.to_come c.args.input.now) c.args.archive.now c.serve_desk.new.desk
    (g.O.Outlet.already c.args.output.now) (g.O.Outlet.already c.serve_desk.new.output) (returns-clause-served g c).some

pub returns-clause-own_refusals : goal.returns-clause-own_refusals
returns-clause-own_refusals g c =
    firm_replies g.S.Store (g.I.Inlet.to_come c.args.input.now) c.args.archive.now c.serve_desk.new.desk
    (g.O.Outlet.already c.args.output.now) (g.O.Outlet.already c.serve_desk.new.output) c.serve_desk.ensures.served.some

pub returns-clause-steps : goal.returns-clause-steps
returns-clause-steps g c =
    first_answered g.S.Store c.args.archive.now c.serve_desk.new.desk c.law_of_crashes.ensures
    (g.I.Inlet.to_come c.args.input.now)
    (g.O.Outlet.already c.args.output.now) (g.O.Outlet.already c.serve_desk.new.output) c.serve_desk.ensures.served.some

pub returns-clause-whole : goal.returns-clause-whole
returns-clause-whole g c =
    all_answered g.S.Store c.args.archive.now c.serve_desk.new.desk c.law_of_crashes.ensures
    (g.I.Inlet.to_come c.args.input.now)
    (g.O.Outlet.already c.args.output.now)
    (g.O.Outlet.already c.serve_desk.new.output) c.serve_desk.result c.serve_desk.ensures.served.known
