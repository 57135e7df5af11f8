use Rattle.std.proofs.Common.{rules, ◌≡◌, Result, Ok, subst}
use Rattle.std.specs.Prelude.{IfOk}
use Rattle.life_store.specs.declared.store_fault.Unavailable.{Unavailable}
use Rattle.life_check.specs.declared.archive_check.CheckVerdict.{CheckVerdict}
use Rattle.life_check.specs.declared.archive_check.CheckVerdict.TheVariants.{NotSound}
use Rattle.life_check.specs.Listed.{StopsBeforeCensuses}
use Rattle.life_check.proofs.checked_files.errors_of.Goals as goal

pub returns-in-NotSound-clause-wrong : goal.returns-in-NotSound-clause-wrong
returns-in-NotSound-clause-wrong g c = λ deposits clean told.
    let is : c.args.checked.now ≡ Ok (NotSound c.in-NotSound.first) = search rules in
    let same = subst (λ (r : Result CheckVerdict Unavailable). IfOk r
    (λ v. StopsBeforeCensuses v → (g.S.Store.view c.args.store.now).trees 1 ≡ deposits)) is told in
    c.further_errors.ensures.wrong deposits clean same
