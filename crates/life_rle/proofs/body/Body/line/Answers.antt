use Rattle.std.proofs.Common.{◌∙◌, ◌++◌, ◌+◌, ap, sym, get_or, drop}
use Rattle.life_core.specs.RuleText.{without_blanks}
use Rattle.life_rle.specs.BodyState.{place_reached, body_from, step}
use Rattle.life_rle.proofs.BodySteps.{body_next, took_more, took_end, took_fault, blank_on, byte_on}
use Rattle.life_rle.proofs.body.Body.line.Goals as goal
use Rattle.life_rle.proofs.body.Body.line.Goals.{then-not-is_blank+in-Ok-false, else-not-is_blank}

pub returns-in-Ok-true : goal.returns-in-Ok-true
returns-in-Ok-true g c rest =
    let line = c.args.line.now in
    let i = c.loop-byte.byte-index in
    let old = place_reached c.loop-byte.self in
    let byte = get_or line i 0 in
    let more = without_blanks (drop (i + 1) line) ++ rest in
    took_end (step old byte) (place_reached c.take.new.self)
    (λ q. body_from q more) _ _ c.take.ensures c.in-Ok-true.is c.in-Ok-true.field-0-test
    ∙ body_next old byte more
    ∙ ap (λ bytes. body_from old (bytes ++ rest))
    (sym (byte_on line i c.loop-byte-test.true (sym c.is_blank.ensures ∙ c.if-not-is_blank.true)))
    ∙ c.loop-byte.invariant rest

pub returns-in_default : goal.returns-in_default
returns-in_default g c rest =
    let line = c.args.line.now in
    let i = c.loop-byte.byte-index in
    let old = place_reached c.loop-byte.self in
    let byte = get_or line i 0 in
    let more = without_blanks (drop (i + 1) line) ++ rest in
    took_fault (step old byte) (place_reached c.take.new.self)
    (λ q. body_from q more) _ c.in-Err.fault c.in_default.not-Memory c.take.ensures c.in-Err.is
    ∙ body_next old byte more
    ∙ ap (λ bytes. body_from old (bytes ++ rest))
    (sym (byte_on line i c.loop-byte-test.true (sym c.is_blank.ensures ∙ c.if-not-is_blank.true)))
    ∙ c.loop-byte.invariant rest

pub loop-byte-preserved : goal.loop-byte-preserved
loop-byte-preserved g c rest =
    let line = c.args.line.now in
    let i = c.loop-byte.byte-index in
    let old = place_reached c.loop-byte.self in
    let byte = get_or line i 0 in
    let more = without_blanks (drop (i + 1) line) ++ rest in
    elim c.if-not-is_blank.branch [
      | then-not-is_blank+in-Ok-false w ↦
          ap (λ b. body_from (place_reached b) more) w.self-is
          ∙ took_more (step old byte) (place_reached w.take.new.self)
          (λ q. body_from q more) _ _ w.take.ensures w.in-Ok-false.is w.in-Ok-false.field-0-test
          ∙ body_next old byte more
          ∙ ap (λ bytes. body_from old (bytes ++ rest))
          (sym (byte_on line i c.loop-byte-test.true (sym c.is_blank.ensures ∙ w.if-not-is_blank.true)))
          ∙ c.loop-byte.invariant rest
      | else-not-is_blank w ↦
          ap (λ b. body_from (place_reached b) more) w.self-is
          ∙ ap (λ bytes. body_from old (bytes ++ rest))
          (sym (blank_on line i c.loop-byte-test.true (sym c.is_blank.ensures ∙ w.if-not-is_blank.false)))
          ∙ c.loop-byte.invariant rest
    ]
