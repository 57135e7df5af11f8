use Rattle.std.proofs.Common.{◌*◌, ◌/◌, ◌%◌, ◌^◌, ◌∙◌}
use Rattle.std.proofs.lemmas.Nat.Bits.{bit_at_or}
use Rattle.life_core.proofs.WordShifts.{shifted_up}
use Rattle.life_core.proofs.packed.row.left_word.Goals as goal

pub returns : goal.returns
returns c i lt =
    bit_at_or (c.args.word * 2 % 2 ^ 64) (c.args.before / 2 ^ 63) i
    ∙ shifted_up c.args.word c.args.before i c.ranges.before.fits lt
