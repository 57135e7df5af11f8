-- The command of `life-draw` is one whose results from `clap` are specified.
use Rattle.std.proofs.Common.{◌≡◌, true, refl}
use Rattle.clap.proofs.OnLiterals.{clap_on_literals}
use Rattle.clap.specs.Words.{is_simple, is_simple_and_free}
use Rattle.life_pictures.specs.DrawWords.{draw}

pub is_draw_simple : is_simple draw ≡ true
unfolding clap_on_literals
is_draw_simple = refl

pub is_draw_free : is_simple_and_free draw ≡ true
unfolding clap_on_literals
is_draw_free = refl
