use Rattle.std.proofs.Common.{take, drop, ◌+◌, sym, ◌∙◌}
use Rattle.life_code.proofs.CodeMarks.{first_mark_none, first_mark_some, cut_to_end}
use Rattle.life_code.proofs.OpenCodeLemmas.{unmarked_spells, refused_front, read_behind}
use Rattle.life_code.proofs.open.read_code.Goals as goal

pub returns-in_default : goal.returns-in_default
returns-in_default g c =
    unmarked_spells c.args.text.now (first_mark_none c.args.text.now (sym c.in_default.is ∙ c.first_mark.ensures))

pub returns-then-not-is_front : goal.returns-then-not-is_front
returns-then-not-is_front g c =
    let parts = first_mark_some c.args.text.now c.in-Some.mark c.in-Some.ensures in
    refused_front c.args.text.now (take c.in-Some.mark c.args.text.now) (drop (c.in-Some.mark + 1) c.args.text.now)
    c.is_front.result parts.0 parts.1 c.is_front.ensures c.if-not-is_front.true

pub returns : goal.returns
returns g c =
    let parts = first_mark_some c.args.text.now c.in-Some.mark c.in-Some.ensures in
    read_behind c.read_wechsler.result c.args.text.now (take c.in-Some.mark c.args.text.now) _ parts.0 (parts.1
    ∙ cut_to_end c.args.text.now c.in-Some.mark) (c.is_front.ensures.0 c.if-not-is_front.false) c.read_wechsler.ensures
