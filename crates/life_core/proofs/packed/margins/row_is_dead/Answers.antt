use Rattle.std.proofs.Common.{◌/◌, ◌%◌, ap, ◌∙◌, arith}
use Rattle.std.specs.Int.{bit_at}
use Rattle.std.proofs.lemmas.Nat.Bits.{bit_at-zero}
use Rattle.life_core.proofs.PackedJoins.{place_in_row}
use Rattle.life_core.proofs.packed.margins.row_is_dead.Goals as goal

pub returns-clause-places : goal.returns-clause-places
returns-clause-places c dead x narrow =
    place_in_row c.args.rows.now c.args.frame.words x c.args.y
    ∙ ap (λ w. bit_at w (x % 64)) (c.loop-j.invariant (x / 64) (omega arith)) ∙ bit_at-zero (x % 64)
