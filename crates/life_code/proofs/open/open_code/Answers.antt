use Rattle.std.proofs.Common.{sym, ap, ◌∙◌, arith}
use Rattle.std.specs.Prelude.{nat_eq}
use lib.Pointwise.{pointwise}
use Rattle.life_code.specs.declared.code_fault.CodeFault.TheVariants.{BadText, NotCanonical, NotWithinLimit}
use Rattle.life_code.proofs.ObjectLemmas.{texts_decide}
use Rattle.life_code.proofs.OpenCodeLemmas.{spelled_room}
use Rattle.life_code.proofs.OpenLaws.{refused_is_no_code, refused_without_code, refused_with_other}
use Rattle.life_code.proofs.open.open_code.Goals as goal

pub returns-in_default-clause-no_code : goal.returns-in_default-clause-no_code
returns-in_default-clause-no_code g c =
    refused_is_no_code c.args.rule.now c.args.text.now c.args.limit (omega (arith, c.requires.few)) BadText
    (rw c.in_default.is at c.in_ok-pattern.ensures)

pub kind-requires : goal.kind-requires
kind-requires g c = record {
  from_one = c.requires.from_one;
  few = c.requires.few;
  room = spelled_room c.args.text.now _ 400000000 (omega arith) (rw c.in-Some.is at c.in_ok-pattern.ensures);
}

pub code_of_kind-requires : goal.code_of_kind-requires
code_of_kind-requires g c = record {
  few = c.requires.few;
  room = spelled_room c.args.text.now _ 400000000 (omega arith) (rw c.in-Some.is at c.in_ok-pattern.ensures);
  kind = c.in_ok-kind.ensures.value;
}

pub returns-in-Unresolved-clause-refused : goal.returns-in-Unresolved-clause-refused
returns-in-Unresolved-clause-refused g c =
    (c.in-Some.pattern, rw c.in-Some.is at c.in_ok-pattern.ensures, sym c.in_ok-kind.ensures.value ∙ c.in-Unresolved.is)

pub returns-in-Unresolved-clause-no_code : goal.returns-in-Unresolved-clause-no_code
returns-in-Unresolved-clause-no_code g c =
    refused_is_no_code c.args.rule.now c.args.text.now c.args.limit (omega (arith, c.requires.few)) NotWithinLimit
    (c.in-Some.pattern, rw c.in-Some.is at c.in_ok-pattern.ensures, sym c.in_ok-kind.ensures.value ∙ c.in-Unresolved.is)

pub returns-in_default-2 : goal.returns-in_default-2
returns-in_default-2 g c =
    let refused =
    refused_without_code c.args.rule.now c.args.text.now c.args.limit c.in-Some.pattern
    (rw c.in-Some.is at c.in_ok-pattern.ensures)
    (λ e. c.in_default-kind.not-Unresolved (c.in_ok-kind.ensures.value ∙ e))
    (rw c.in_default-2.is at c.in_ok-coded.ensures) in
    record {
      opened = tt;
      refused = refused;
      no_code =
          refused_is_no_code c.args.rule.now c.args.text.now c.args.limit
          (omega (arith, c.requires.few)) NotCanonical refused;
    }

pub returns-else-eq : goal.returns-else-eq
returns-else-eq g c =
    let is = rw c.in-Some-2.is at c.in_ok-coded.ensures in
    let refused =
    refused_with_other c.args.rule.now c.args.text.now c.in-Some-2.coded.text c.args.limit c.in-Some.pattern c.eq.result
    (rw c.in-Some.is at c.in_ok-pattern.ensures)
    (λ e. c.in_default-kind.not-Unresolved (c.in_ok-kind.ensures.value ∙ e)) is.0
    (texts_decide c.in-Some-2.coded.text c.args.text.now c.eq.result
    (c.eq.ensures ∙ ap (λ t. pointwise nat_eq t c.args.text.now) c.text.ensures)) c.if-eq.false in
    record {
      opened = tt;
      refused = refused;
      no_code =
          refused_is_no_code c.args.rule.now c.args.text.now c.args.limit
          (omega (arith, c.requires.few)) NotCanonical refused;
    }
