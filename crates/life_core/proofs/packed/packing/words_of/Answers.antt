use Rattle.std.proofs.Common.{◌≡◌, ℕ, ◌*◌, ◌||◌, false, true, length, get_or, drop, List, Bool, sym, ap, ◌∙◌, refl}
use Rattle.std.proofs.Common.{arith}
use Rattle.std.proofs.lemmas.List.{take_at}
use Rattle.std.proofs.lemmas.List.Elements.{All-same}
use Rattle.life_core.proofs.PatternMembers.{has_cell, cells_by_members, contains-list}
use Rattle.life_core.specs.PackedFrameState.{framed, IsIn}
use Rattle.life_core.proofs.PackedCells.{no_live}
use Rattle.life_core.proofs.FrameBounds.{places_few}
use Rattle.life_core.proofs.packed.packing.words_of.Goals as goal

or_false : (b : Bool) → (b || false) ≡ b
or_false true = refl
or_false false = refl

pub returns-clause-cells : goal.returns-clause-cells
returns-clause-cells g c =
    let f = c.args.frame in
    let whole = take_at c.put_runs.new.rows (drop (length c.put_runs.new.rows) c.in_ok-rows.rows.items)
    c.in_ok-rows.rows.len (omega (arith, c.put_runs.ensures.len, c.deref_mut.ensures.len)) in
    let same : c.deref_mut.result.now ≡ c.in_ok-rows.rows.items = c.deref_mut.ensures.value in
    let size : f.height * f.words ≡ length c.deref_mut.result.now =
    omega (arith, c.in_ok-rows.ensures.len, ap length same) in
    ap (framed f) whole ∙ cells_by_members _ _ (λ d.
    c.put_runs.ensures.cells d ∙ (λ i. has_cell (c.runs.ensures.cells i) d || no_live f c.deref_mut.result.now
    c.requires.frame.wide size (λ j. ap (λ (ws : List ℕ). get_or ws j 0) same ∙ c.in_ok-rows.ensures.zeros j) d i)
    ∙ or_false (has_cell c.args.cells.now d) ∙ sym (contains-list c.args.cells.now d))

pub overflow_mul-frame : goal.overflow_mul-frame
overflow_mul-frame g c = record { fits = omega (arith, places_few c.args.frame c.requires.frame) }

pub put_runs-requires-clause-rows : goal.put_runs-requires-clause-rows
put_runs-requires-clause-rows g c = sym c.in_ok-rows.ensures.len ∙ ap length (sym c.deref_mut.ensures.value)

pub put_runs-requires-clause-cells : goal.put_runs-requires-clause-cells
put_runs-requires-clause-cells g c =
    let f = c.args.frame in
    All-same (IsIn f.left f.top (64 * f.words) f.height) _ _ c.runs.ensures.cells c.requires.cells

pub returns-clause-len : goal.returns-clause-len
returns-clause-len g c =
    let whole = take_at c.put_runs.new.rows (drop (length c.put_runs.new.rows) c.in_ok-rows.rows.items)
    c.in_ok-rows.rows.len (omega (arith, c.put_runs.ensures.len, c.deref_mut.ensures.len)) in
    sym c.in_ok-rows.ensures.len ∙ ap length (sym c.deref_mut.ensures.value) ∙ sym c.put_runs.ensures.len
    ∙ ap length (sym whole)
