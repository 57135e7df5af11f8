use Rattle.std.proofs.Common.{◌≡◌, ℕ, ◌+◌, ◌*◌, sym, ap, subst, ◌∙◌, arith}
use Rattle.life_core.specs.PackedRow.{place}
use Rattle.life_core.specs.PackedBlocksState.{flat_next}
use Rattle.life_core.specs.PackedMarksState.{AreNeighboursMarked, block_at, mark_at, place_at}
use Rattle.life_core.proofs.BlockLines.{stepped_block, woken_more}
use Rattle.life_core.proofs.packed.block_lines.pair_step.Goals as goal

pub returns-clause-left : goal.returns-clause-left
returns-clause-left g c r is =
    let columns = c.args.columns in
    let line = c.args.line in
    let column = c.args.column in
    let block = c.wide_step-changes.ensures.block r is in
    stepped_block (flat_next r c.args.rows.now (64 * (2 * columns))) columns line column
    c.args.out.now c.wide_step-changes.new.out c.left_half.result c.left_half-2.result c.left_half-3.result
    c.mark_neighbours-2.new.marks
    (λ i p lt narrow. block.all.next i p lt (omega (arith, narrow)))
    (λ i p lt narrow dead. block.all.same i p lt (omega (arith, narrow)) (sym (c.left_half.ensures p narrow) ∙ dead))
    (λ p narrow dead. block.top p (omega (arith, narrow)) (sym (c.left_half-2.ensures p narrow) ∙ dead))
    (λ p narrow dead. block.bottom p (omega (arith, narrow)) (sym (c.left_half-3.ensures p narrow) ∙ dead))
    (λ i p narrow all top bottom. woken_more columns (mark_at columns line column) i p
    c.mark_neighbours.new.marks c.mark_neighbours-2.new.marks c.mark_neighbours-2.ensures.marks
    (c.mark_neighbours.ensures.marked i p narrow all top bottom))

pub returns-clause-right : goal.returns-clause-right
returns-clause-right g c r is =
    let columns = c.args.columns in
    let line = c.args.line in
    let column = c.args.column in
    let at : ℕ = block_at columns line column in
    let words : ℕ = 2 * columns in
    let N : ℕ → ℕ = flat_next r c.args.rows.now (64 * words) in
    let old = c.args.out.now in
    let new = c.wide_step-changes.new.out in
    let block = c.wide_step-changes.ensures.block r is in
    let next_mark : mark_at columns line column + 1 ≡ mark_at columns line (column + 1) = omega arith in
    stepped_block N columns line (column + 1) old new c.right_half.result
    c.right_half-2.result c.right_half-3.result c.mark_neighbours-2.new.marks
    (λ i p lt narrow. let e : place_at columns line (column + 1) i p ≡ 64 * (at + i * words) + (128 + p) =
    omega arith in ap (place new) e ∙ block.all.next i (128 + p) lt (omega (arith, narrow)) ∙ ap N (sym e))
    (λ i p lt narrow dead. let e : place_at columns line (column + 1) i p ≡ 64 * (at + i * words) + (128 + p) =
    omega arith in ap (place new) e ∙ block.all.same i (128 + p) lt (omega (arith, narrow))
    (sym (c.right_half.ensures p narrow) ∙ dead) ∙ ap (place old) (sym e))
    (λ p narrow dead. let e : 64 * block_at columns line (column + 1) + p ≡ 64 * at + (128 + p) = omega arith in
    ap (place new) e ∙ block.top (128 + p) (omega (arith, narrow)) (sym (c.right_half-2.ensures p narrow) ∙ dead)
    ∙ ap (place old) (sym e))
    (λ p narrow dead. let e : 64 * (block_at columns line (column + 1) + 15 * words) + p
    ≡ 64 * (at + 15 * words) + (128 + p) = omega arith in ap (place new) e ∙ block.bottom (128 + p)
    (omega (arith, narrow)) (sym (c.right_half-3.ensures p narrow) ∙ dead) ∙ ap (place old) (sym e))
    (λ i p narrow all top bottom.
    subst (λ (b : ℕ). AreNeighboursMarked columns b i p c.mark_neighbours-2.new.marks) next_mark
    (c.mark_neighbours-2.ensures.marked i p narrow all top bottom))
