use Rattle.std.proofs.Common.{ℤ, ℕ, List, ◌≡◌, ◌<◌, ◌*◌, ◌+◌, length, get_or, sym, ap, ◌∙◌}
use Rattle.std.specs.FinSet as set
use Rattle.life_core.specs.declared.packed.frame.Frame.{Frame}
use Rattle.life_core.specs.Cell.{moved_cell}
use Rattle.life_core.specs.Pattern.{Cells}
use Rattle.life_core.specs.PackedFrameState.{framed, cell_of, IsFrame}
use Rattle.life_core.specs.PackedShiftsState.{Covers, CoversWord}
use Rattle.life_core.proofs.PackedCells.{cell_of-word}
use Rattle.life_core.proofs.PackedShifts.{bit_lives}
use Rattle.life_core.proofs.packed.shifts.begins_covered.Goals as goal

-- the cells of word k lie in a set that has all cells of the words
word : (f : Frame) (rows : List ℕ) (Y : Cells) (shift : ℤ × ℤ) → IsFrame f → f.height * f.words ≡ length rows
    → Covers (framed f rows) Y shift → (k : ℕ) → k < length rows
    → CoversWord (cell_of f.left f.top (64 * f.words) (64 * k)) (get_or rows k 0) Y shift
word f rows Y shift frame long all k inside i low bit =
    ap (λ e. set.contains Y (moved_cell shift.0 shift.1 e)) (sym (cell_of-word f.left f.top f.words k i frame.wide low))
    ∙ all (cell_of f.left f.top (64 * f.words) (64 * k + i)) (bit_lives f rows frame.wide long k i inside low bit)

pub returns-then-not-covers_at : goal.returns-then-not-covers_at
returns-then-not-covers_at c all =
    let at = word c.args.frame c.args.rows.now
    (framed c.args.to c.args.others.now) c.args.shift c.requires.frame c.requires.rows in
    sym c.if-not-covers_at.true ∙ c.covers_at.ensures.1 (at all c.loop-k.k c.loop-k-test.true)
