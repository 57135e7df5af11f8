use Rattle.std.proofs.Common.{◌≡◌, ℕ, List, length, get_or, drop, sym, ap, ◌∙◌, arith}
use Rattle.std.proofs.lemmas.List.{take_at}
use Rattle.life_core.specs.PackedFrameState.{framed}
use Rattle.life_core.proofs.FrameBounds.{places_few}
use Rattle.life_core.proofs.packed.packing.moved_rows.Goals as goal

pub overflow_mul-to : goal.overflow_mul-to
overflow_mul-to g c = record { fits = omega (arith, places_few c.args.to.frame c.requires.to) }

pub copy_rows-requires-clause-rows : goal.copy_rows-requires-clause-rows
copy_rows-requires-clause-rows g c = c.requires.rows

pub copy_rows-requires-clause-out : goal.copy_rows-requires-clause-out
copy_rows-requires-clause-out g c = sym (ap length c.deref_mut.ensures.value ∙ c.in_ok-wider.ensures.len)

pub copy_rows-requires-clause-dead : goal.copy_rows-requires-clause-dead
copy_rows-requires-clause-dead g c =
    λ j. ap (λ (ws : List ℕ). get_or ws j 0) c.deref_mut.ensures.value ∙ c.in_ok-wider.ensures.zeros j

pub returns-clause-len : goal.returns-clause-len
returns-clause-len g c =
    let v = c.in_ok-wider.wider in
    let long : length c.copy_rows.new.out ≡ length v.items = omega (arith, ap length c.deref_mut.ensures.value) in
    let whole = take_at c.copy_rows.new.out (drop (length c.copy_rows.new.out) v.items) v.len
    (omega (arith, long, v.ok)) in
    sym (ap length whole ∙ long ∙ c.in_ok-wider.ensures.len)

pub returns-clause-cells : goal.returns-clause-cells
returns-clause-cells g c =
    let v = c.in_ok-wider.wider in
    let long : length c.copy_rows.new.out ≡ length v.items = omega (arith, ap length c.deref_mut.ensures.value) in
    let whole = take_at c.copy_rows.new.out (drop (length c.copy_rows.new.out) v.items) v.len
    (omega (arith, long, v.ok)) in
    ap (framed c.args.to.frame) whole ∙ c.copy_rows.ensures
