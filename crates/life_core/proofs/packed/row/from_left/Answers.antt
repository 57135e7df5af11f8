use Rattle.std.proofs.Common.{◌-◌, ℕ, cond, ltb, get_or, ap, ◌∙◌}
use Rattle.std.specs.Int.{bit_at}
use Rattle.life_core.proofs.WordShifts.{places_left}
use Rattle.life_core.proofs.packed.row.from_left.Goals as goal

pub returns : goal.returns
returns c i lt =
    c.left_word.ensures i lt
    ∙ ap (λ (n : ℕ). cond (ltb 0 i) (bit_at (get_or c.args.words.now c.args.j 0) (i - 1)) (bit_at n 63))
    c.word_before.ensures
    ∙ places_left c.args.words.now c.args.j i lt
