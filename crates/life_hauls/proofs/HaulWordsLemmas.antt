-- The command of `life-haul` is one of those for which the kit specifies clap's answer.
use Rattle.std.proofs.Common.{◌≡◌, true, refl}
use Rattle.clap.proofs.OnLiterals.{clap_on_literals}
use Rattle.clap.specs.Words.{is_simple, is_simple_and_free}
use Rattle.life_hauls.specs.HaulWords.{haul_app}

pub is_haul_simple : is_simple haul_app ≡ true
unfolding clap_on_literals
is_haul_simple = refl

pub is_haul_free : is_simple_and_free haul_app ≡ true
unfolding clap_on_literals
is_haul_free = refl
