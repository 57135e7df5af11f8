use Rattle.std.proofs.Common.{arith}
use Rattle.sqlite_trees.specs.View.{IsClean}
use Rattle.life_check.proofs.SoundLemmas.{ok_sound, on_ok_then}
use Rattle.life_check.proofs.archive_check.check_rows.Goals as goal

pub returns-clause-sound : goal.returns-clause-sound
returns-clause-sound g c clean schema =
    let store = c.into_trees-is_settled.result.1 in
    let end = c.check_trees-verdict.ensures in
    let clean_1 : IsClean (g.S.Store.view store) = omega (arith, end.calm.clean, clean) in
    ok_sound c.args.quick c.args.archive (g.S.Store.view store).trees c.check_trees-verdict.result schema
    (on_ok_then c.check_trees-verdict.result (end.unbroken clean)
    (λ sound. c.into_trees-is_settled.ensures.trees c.if-not-is_settled.false clean_1 sound)) (end.sound clean)
