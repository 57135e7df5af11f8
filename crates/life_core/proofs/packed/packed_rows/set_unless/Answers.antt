use Rattle.std.proofs.Common.{◌≡◌, ℕ, ◌/◌, ◌<◌, length, get_or, rules, arith}
use Rattle.life_core.proofs.BlockMarks.{ones_keep, all_ones}
use Rattle.life_core.proofs.packed.packed_rows.set_unless.Goals as goal

pub returns-then-not-kept-clause-kept : goal.returns-then-not-kept-clause-kept
returns-then-not-kept-clause-kept c =
    let ones : (k : ℕ) → k < length c.fill.new.self → get_or c.fill.new.self k 0 ≡ 18446744073709551615 =
    search rules in
    ones_keep c.args.marks.now c.fill.new.self c.fill.ensures.len ones

pub returns-then-not-kept-clause-set : goal.returns-then-not-kept-clause-set
returns-then-not-kept-clause-set c unset j lt =
    let ones : (k : ℕ) → k < length c.fill.new.self → get_or c.fill.new.self k 0 ≡ 18446744073709551615 =
    search rules in
    all_ones c.fill.new.self j (ones (j / 64) (omega (arith, lt)))
