use Rattle.std.proofs.Common.{◌*◌, ◌/◌, ◌%◌, ◌^◌, ◌∙◌}
use Rattle.std.proofs.lemmas.Nat.Bits.{bit_at_or}
use Rattle.life_core.proofs.WordShifts.{shifted_down}
use Rattle.life_core.proofs.packed.row.right_word.Goals as goal

pub returns : goal.returns
returns c i lt =
    bit_at_or (c.args.word / 2) (c.args.after * 2 ^ 63 % 2 ^ 64) i
    ∙ shifted_down c.args.word c.args.after i c.ranges.word.fits lt
