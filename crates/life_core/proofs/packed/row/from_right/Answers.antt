use Rattle.std.proofs.Common.{◌+◌, ℕ, cond, ltb, get_or, ap, ◌∙◌}
use Rattle.std.specs.Int.{bit_at}
use Rattle.life_core.proofs.WordShifts.{places_right}
use Rattle.life_core.proofs.packed.row.from_right.Goals as goal

pub returns : goal.returns
returns c i lt =
    c.right_word.ensures i lt
    ∙ ap (λ (m : ℕ). cond (ltb i 63) (bit_at (get_or c.args.words.now c.args.j 0) (i + 1)) (bit_at m 0))
    c.word_at.ensures
    ∙ places_right c.args.words.now c.args.j i lt
