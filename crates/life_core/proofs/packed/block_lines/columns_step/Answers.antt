use Rattle.std.proofs.Common.{◌≡◌, ℕ, ◌+◌, ◌*◌, subst, inl, inr, arith}
use Rattle.std.proofs.lemmas.Bool.{cases_lt}
use Rattle.life_core.specs.PackedBlocksState.{flat_next}
use Rattle.life_core.specs.PackedMarksState.{IsStepped}
use Rattle.life_core.proofs.BlockLines.{outside_both}
use Rattle.life_core.proofs.packed.block_lines.columns_step.Goals as goal

pub returns-then-is_pair-clause-rest : goal.returns-then-is_pair-clause-rest
returns-then-is_pair-clause-rest g c j outside =
    let column = c.args.column in
    c.pair_step.ensures.rest j (outside_both c.args.columns c.args.line column j
    (outside column (omega arith) (omega arith)) (outside (column + 1) (omega arith) (omega arith)))

pub returns-then-is_pair-clause-blocks : goal.returns-then-is_pair-clause-blocks
returns-then-is_pair-clause-blocks g c r m is from to =
    let column = c.args.column in
    let stepped =
    λ (k : ℕ). IsStepped (flat_next r c.args.rows.now (64 * (2 * c.args.columns))) c.args.columns c.args.line
    k c.args.out.now c.pair_step.new.out c.pair_step.new.next_marks in
    elim (cases_lt m (column + 1)) [
      | inl first ↦ let e : column ≡ m = omega (arith, first, from) in subst stepped e (c.pair_step.ensures.left r is)
      | inr last ↦ let e : column + 1 ≡ m = omega (arith, last, to) in subst stepped e (c.pair_step.ensures.right r is)
    ]

pub returns-clause-blocks : goal.returns-clause-blocks
returns-clause-blocks g c r m is from to =
    let column = c.args.column in
    let e : column ≡ m = omega (arith, from, to) in
    subst (λ (k : ℕ). IsStepped (flat_next r c.args.rows.now (64 * (2 * c.args.columns))) c.args.columns c.args.line
    k c.args.out.now c.single_step.new.out c.single_step.new.next_marks) e (c.single_step.ensures.block r is)
