use Rattle.std.specs.Prelude.{codes, [], ◌∷◌, ◌++◌}
use Rattle.std.specs.Fmt.{decimal}
use Rattle.life_archive.proofs.DepositLemmas.{appends_then_some, appends_some_of}
use Rattle.life_archive.proofs.deposit.put_number.Goals as goal

pub returns-in-Err-clause-some : goal.returns-in-Err-clause-some
returns-in-Err-clause-some g c =
    appends_some_of _ _ (codes "deposit ") (decimal c.args.id ++ 10 ∷ []) c.in-Err.ensures.some

pub returns-in-Err-put_decimal-clause-some : goal.returns-in-Err-put_decimal-clause-some
returns-in-Err-put_decimal-clause-some g c =
    appends_then_some _ _ _ (codes "deposit ") (decimal c.args.id ++ 10 ∷ []) c.in-Ok.ensures.all
    (appends_some_of _ _ (decimal c.args.id) (10 ∷ []) c.in-Err-put_decimal.ensures.some)

pub returns-in-Err-put_all-clause-some : goal.returns-in-Err-put_all-clause-some
returns-in-Err-put_all-clause-some g c =
    appends_then_some _ _ _ (codes "deposit ") (decimal c.args.id ++ 10 ∷ []) c.in-Ok.ensures.all
    (appends_then_some _ _ _ (decimal c.args.id) (10 ∷ []) c.in-Ok-put_decimal.ensures.all
    c.in-Err-put_all.ensures.some)
