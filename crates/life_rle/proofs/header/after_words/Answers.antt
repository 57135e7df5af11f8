use Rattle.std.proofs.Common.{sym, ◌∙◌}
use Rattle.life_rle.proofs.HeaderLemmas.{after_words_end}
use Rattle.life_rle.proofs.header.after_words.Goals as goal

pub returns-in-empty : goal.returns-in-empty
returns-in-empty c = sym (after_words_end _ _ _ c.loop-word-test.true c.in-empty.len_below) ∙ c.loop-word.invariant
