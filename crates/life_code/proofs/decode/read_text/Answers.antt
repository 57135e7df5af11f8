use Rattle.std.proofs.Common.{sym, ap, ◌∙◌}
use Rattle.std.proofs.lemmas.List.{drop_all}
use Rattle.life_code.specs.CodeReaderState.{awaited}
use Rattle.life_code.proofs.DecodeSteps.{nothing_left}
use Rattle.life_code.proofs.decode.read_text.Goals as goal

pub returns : goal.returns
returns c x y in_row in_column =
    let reader = c.loop-c.reader in
    sym (c.loop-c.invariant.cells x y in_row in_column)
    ∙ ap (λ text. awaited reader text x y) (drop_all c.loop-c.c-index c.args.text.now c.loop-c-test.false)
    ∙ nothing_left reader.columns reader.strip reader.column reader.after_y x y
