use Rattle.std.proofs.Common.{sym, ap, ◌∙◌, arith}
use Rattle.std.specs.Prelude.{nat_eq}
use lib.Pointwise.{pointwise}
use Rattle.life_code.specs.CodesState.{list_of}
use Rattle.life_code.proofs.ObjectLemmas.{texts_decide}
use Rattle.life_code.proofs.WechslerLengths.{long_spells}
use Rattle.life_code.proofs.OpenCodeLemmas.{decoded_room, refused_empty, refused_normal, refused_large, refused_text}
use Rattle.life_code.proofs.OpenCodeLemmas.{is_wechsler, same_as_normal}
use Rattle.life_code.proofs.open.read_wechsler.Goals as goal

pub returns-then-text-gt-LONGEST_TEXT : goal.returns-then-text-gt-LONGEST_TEXT
returns-then-text-gt-LONGEST_TEXT g c = long_spells c.args.text.now c.if-text-gt-LONGEST_TEXT.true

pub returns-then-population-eq0 : goal.returns-then-population-eq0
returns-then-population-eq0 g c =
    refused_empty c.args.text.now _ c.in_ok-pattern.ensures (sym c.population.ensures ∙ c.if-population-eq0.true)

pub normal-requires : goal.normal-requires
normal-requires g c = decoded_room c.args.text.now _ 500000000 (omega arith) c.in_ok-pattern.ensures

pub returns-then-not-same : goal.returns-then-not-same
returns-then-not-same g c =
    refused_normal c.args.text.now c.in_ok-pattern.pattern c.same.result c.in_ok-pattern.ensures
    (same_as_normal c.in_ok-pattern.pattern c.in_ok-normal.normal c.same.result c.in_ok-normal.ensures c.same.ensures)
    c.if-not-same.true

pub returns-in_default : goal.returns-in_default
returns-in_default g c =
    refused_large c.args.text.now _ c.in_ok-pattern.ensures (ap list_of (sym c.in_default.is) ∙ c.in_ok-again.ensures)

pub returns-then-eq : goal.returns-then-eq
returns-then-eq g c =
    let same = texts_decide c.in-Some.again.items c.args.text.now c.eq.result
    (c.eq.ensures ∙ ap (λ t. pointwise nat_eq t c.args.text.now) c.as_slice.ensures.value) in
    is_wechsler c.args.text.now c.in-Some.again.items c.in_ok-pattern.pattern
    (ap list_of (sym c.in-Some.is) ∙ c.in_ok-again.ensures) (same.0 c.if-eq.true)
    ((same_as_normal c.in_ok-pattern.pattern c.in_ok-normal.normal c.same.result c.in_ok-normal.ensures
    c.same.ensures).0 c.if-not-same.false) (λ z. c.if-population-eq0.false (c.population.ensures ∙ z))

pub returns-else-eq : goal.returns-else-eq
returns-else-eq g c =
    let same = texts_decide c.in-Some.again.items c.args.text.now c.eq.result
    (c.eq.ensures ∙ ap (λ t. pointwise nat_eq t c.args.text.now) c.as_slice.ensures.value) in
    refused_text c.args.text.now c.in-Some.again.items c.in_ok-pattern.pattern c.eq.result c.in_ok-pattern.ensures
    (ap list_of (sym c.in-Some.is) ∙ c.in_ok-again.ensures) same c.if-eq.false
