use Rattle.std.proofs.Common.{rules, ◌≡◌, sym, subst}
use Rattle.life_hauls.specs.declared.haul_arguments.HaulJob.{HaulJob}
use Rattle.life_hauls.specs.declared.haul_arguments.HaulJob.TheVariants.{Haul, Soup}
use Rattle.life_hauls.specs.HaulProgram.{DoesJob}
use Rattle.life_hauls.proofs.haul_program.do_job.Goals as goal

pub returns-in-Haul-clause-does : goal.returns-in-Haul-clause-does
returns-in-Haul-clause-does g c =
    let it = c.run_haul.ensures in
    let old = g.O.Outlet.already c.args.output.now in
    let new = g.O.Outlet.already c.run_haul.new.output in
    let is : c.args.job ≡ Haul c.in-Haul.words = search rules in
    let done : DoesJob (Haul c.in-Haul.words) old new c.run_haul.result =
    record { limit = it.limit; bad_rule = it.rule; puts = it.puts } in
    subst (λ (job : HaulJob). DoesJob job old new c.run_haul.result) (sym is) done

pub returns-in-Soup-clause-does : goal.returns-in-Soup-clause-does
returns-in-Soup-clause-does g c =
    let it = c.run_soup.ensures in
    let old = g.O.Outlet.already c.args.output.now in
    let new = g.O.Outlet.already c.run_soup.new.output in
    let is : c.args.job ≡ Soup c.in-Soup.words = search rules in
    let done : DoesJob (Soup c.in-Soup.words) old new c.run_soup.result =
    record { limit = it.limit; bad_rule = it.rule; puts = it.puts } in
    subst (λ (job : HaulJob). DoesJob job old new c.run_soup.result) (sym is) done
