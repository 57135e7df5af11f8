use Rattle.std.proofs.Common.{◌≡◌, ℕ, ◌+◌, ◌-◌, ◌*◌, ◌/◌, ◌^◌, ◌<◌, ◌++◌, pos, ◌+ℤ◌, ◌≤ℤ◌, map, get_or, sym, ap, subst}
use Rattle.std.proofs.Common.{◌∙◌, arith, w64}
use Rattle.std.specs.Int.{trailing_zeros, trailing_ones}
use Rattle.std.specs.List.{range_with_len}
use Rattle.std.proofs.lemmas.Int.{ints}
use Rattle.std.proofs.lemmas.Nat.{shr-shr}
use Rattle.life_core.specs.declared.cell.Cell.{Cell}
use Rattle.life_core.specs.declared.runs.Run.{Run}
use Rattle.life_core.specs.Cell.{moved_cell, IsCellWithin}
use Rattle.life_core.specs.PackedFrameState.{cell_of, places_below}
use Rattle.life_core.specs.Runs.{run_cells, IsRun}
use Rattle.life_core.proofs.FrameBounds.{places_few, cell_in_frame}
use Rattle.life_core.proofs.PackedCells.{cell_of-word, cells_of-word, next_run, none_left, lowest_run}
use Rattle.life_core.proofs.packed.packing.list_word.Goals as goal

pub returns-then-left-eq0 : goal.returns-then-left-eq0
returns-then-left-eq0 g c =
    let F : ℕ → Cell = cell_of c.args.frame.left c.args.frame.top (64 * c.args.frame.words) in
    let here : 64 * c.args.k ≡ 64 * c.args.k + 0 = omega arith in
    let none : get_or c.args.rows.now c.args.k 0 / 2 ^ 0 ≡ 0 = omega (arith, c.if-left-eq0.true) in
    c.requires.cells ∙ ap (λ n. map F (places_below c.args.rows.now n)) here
    ∙ sym (none_left F c.args.rows.now c.args.k 0 (omega arith) none)

pub overflow_mul-k : goal.overflow_mul-k
overflow_mul-k g c =
    record { fits = omega (arith, places_few c.args.frame c.requires.frame, c.requires.rows, c.requires.word) }

pub loop-left-init : goal.loop-left-init
loop-left-init g c =
    let F : ℕ → Cell = cell_of c.args.frame.left c.args.frame.top (64 * c.args.frame.words) in
    let here : 64 * c.args.k ≡ 64 * c.args.k + 0 = omega arith in
    let whole : get_or c.args.rows.now c.args.k 0 ≡ get_or c.args.rows.now c.args.k 0 / 1 = omega arith in
    (omega arith, whole, c.requires.cells ∙ ap (λ n. map F (places_below c.args.rows.now n)) here)

pub of-first-requires : goal.of-first-requires
of-first-requires g c =
    let f = c.args.frame in
    let k = c.args.k in
    let i = c.loop-left.i in
    let left = c.loop-left.left in
    let dead = trailing_zeros w64 left in
    let len = trailing_ones w64 (left / 2 ^ dead) in
    let word = get_or c.args.rows.now k 0 in
    let lowest = lowest_run word i left (c.type_inv.rows k).fits c.loop-left.invariant.1
    (omega (arith, c.loop-left-test.true)) in
    let F : ℕ → Cell = cell_of f.left f.top (64 * f.words) in
    let inside : i + dead < 64 = omega (arith, lowest.some, lowest.fits) in
    let cell : c.to_the_right.result ≡ F (64 * k + (i + dead)) = c.to_the_right.ensures
    ∙ ap (moved_cell (pos (i + dead)) (pos 0)) c.cell-start.ensures
    ∙ sym (cell_of-word f.left f.top f.words k (i + dead) c.requires.frame.wide inside) in
    subst (IsCellWithin 1100000000) (sym cell)
    (cell_in_frame f (64 * k + (i + dead)) c.requires.frame (omega (arith, c.requires.rows, c.requires.word, inside)))

pub push_run-requires-clause-run : goal.push_run-requires-clause-run
push_run-requires-clause-run g c =
    let f = c.args.frame in
    let k = c.args.k in
    let i = c.loop-left.i in
    let left = c.loop-left.left in
    let dead = trailing_zeros w64 left in
    let len = trailing_ones w64 (left / 2 ^ dead) in
    let word = get_or c.args.rows.now k 0 in
    let lowest = lowest_run word i left (c.type_inv.rows k).fits c.loop-left.invariant.1
    (omega (arith, c.loop-left-test.true)) in
    let F : ℕ → Cell = cell_of f.left f.top (64 * f.words) in
    let inside : i + dead < 64 = omega (arith, lowest.some, lowest.fits) in
    let cell : c.to_the_right.result ≡ F (64 * k + (i + dead)) = c.to_the_right.ensures
    ∙ ap (moved_cell (pos (i + dead)) (pos 0)) c.cell-start.ensures
    ∙ sym (cell_of-word f.left f.top f.words k (i + dead) c.requires.frame.wide inside) in
    let run : c.with_len.result ≡ record {
      row = c.to_the_right.result.row;
      first = c.to_the_right.result.column;
      len = len;
    } =
    c.with_len.ensures ∙ (λ t. record {
      row = (c.of-first.ensures t).row;
      first = (c.of-first.ensures t).first;
      len = c.trailing_ones-len.ensures t;
    }) in
    let here = cell_in_frame f (64 * k + (i + dead)) c.requires.frame
    (omega (arith, c.requires.rows, c.requires.word, inside)) in
    let from = subst (IsCellWithin 1100000000) (sym cell) here in
    subst IsRun (sym run) (record { some = lowest.some; from = from.left })

pub push_run-requires-clause-end : goal.push_run-requires-clause-end
push_run-requires-clause-end g c =
    let f = c.args.frame in
    let k = c.args.k in
    let i = c.loop-left.i in
    let left = c.loop-left.left in
    let dead = trailing_zeros w64 left in
    let len = trailing_ones w64 (left / 2 ^ dead) in
    let word = get_or c.args.rows.now k 0 in
    let lowest = lowest_run word i left (c.type_inv.rows k).fits c.loop-left.invariant.1
    (omega (arith, c.loop-left-test.true)) in
    let F : ℕ → Cell = cell_of f.left f.top (64 * f.words) in
    let inside : i + dead < 64 = omega (arith, lowest.some, lowest.fits) in
    let cell : c.to_the_right.result ≡ F (64 * k + (i + dead)) = c.to_the_right.ensures
    ∙ ap (moved_cell (pos (i + dead)) (pos 0)) c.cell-start.ensures
    ∙ sym (cell_of-word f.left f.top f.words k (i + dead) c.requires.frame.wide inside) in
    let run : c.with_len.result ≡ record {
      row = c.to_the_right.result.row;
      first = c.to_the_right.result.column;
      len = len;
    } =
    c.with_len.ensures ∙ (λ t. record {
      row = (c.of-first.ensures t).row;
      first = (c.of-first.ensures t).first;
      len = c.trailing_ones-len.ensures t;
    }) in
    let inner : i + dead + (len - 1) < 64 = omega (arith, lowest.some, lowest.fits) in
    let last = cell_in_frame f (64 * k + (i + dead + (len - 1))) c.requires.frame
    (omega (arith, c.requires.rows, c.requires.word, inner)) in
    let at = ap (λ (d : Cell). d.column)
    (cell_of-word f.left f.top f.words k (i + dead + (len - 1)) c.requires.frame.wide inner) in
    let from = ap (λ (d : Cell). d.column)
    (c.to_the_right.ensures ∙ ap (moved_cell (pos (i + dead)) (pos 0)) c.cell-start.ensures) in
    subst (λ (r : Run). (r.first +ℤ pos r.len) ≤ℤ pos 1100000001) (sym run)
    (omega (arith, ints, last.right, at, from, lowest.some))

pub overflow_sub-left : goal.overflow_sub-left
overflow_sub-left g c =
    let lowest = lowest_run (get_or c.args.rows.now c.args.k 0) c.loop-left.i c.loop-left.left
    (c.type_inv.rows c.args.k).fits c.loop-left.invariant.1 (omega (arith, c.loop-left-test.true)) in
    omega (arith, lowest.some, c.trailing_ones-len.ensures)

pub loop-left-preserved : goal.loop-left-preserved
loop-left-preserved g c =
    let f = c.args.frame in
    let k = c.args.k in
    let i = c.loop-left.i in
    let left = c.loop-left.left in
    let dead = trailing_zeros w64 left in
    let len = trailing_ones w64 (left / 2 ^ dead) in
    let word = get_or c.args.rows.now k 0 in
    let lowest = lowest_run word i left (c.type_inv.rows k).fits c.loop-left.invariant.1
    (omega (arith, c.loop-left-test.true)) in
    let F : ℕ → Cell = cell_of f.left f.top (64 * f.words) in
    let inside : i + dead < 64 = omega (arith, lowest.some, lowest.fits) in
    let cell : c.to_the_right.result ≡ F (64 * k + (i + dead)) = c.to_the_right.ensures
    ∙ ap (moved_cell (pos (i + dead)) (pos 0)) c.cell-start.ensures
    ∙ sym (cell_of-word f.left f.top f.words k (i + dead) c.requires.frame.wide inside) in
    let run : c.with_len.result ≡ record {
      row = c.to_the_right.result.row;
      first = c.to_the_right.result.column;
      len = len;
    } =
    c.with_len.ensures ∙ (λ t. record {
      row = (c.of-first.ensures t).row;
      first = (c.of-first.ensures t).first;
      len = c.trailing_ones-len.ensures t;
    }) in
    let is : left ≡ word / 2 ^ i = c.loop-left.invariant.1 in
    let count : c.trailing_ones-len.result ≡ len = c.trailing_ones-len.ensures in
    let one : dead + (len - 1 + 1) ≡ dead + len = omega (arith, lowest.some) in
    let rest : left / 2 ^ dead / 2 ^ (len - 1) / 2 ≡ word / 2 ^ (i + (dead + len)) =
    shr-shr (left / 2 ^ dead) (len - 1) 1 ∙ shr-shr left dead (len - 1 + 1) ∙ ap (λ n. left / 2 ^ n) one
    ∙ ap (λ n. n / 2 ^ (dead + len)) is ∙ shr-shr word i (dead + len) in
    let listed : map F (range_with_len (64 * k + (i + dead)) len) ≡ run_cells c.with_len.result =
    cells_of-word f.left f.top f.words k
    (i + dead) len c.to_the_right.result c.requires.frame.wide (omega (arith, lowest.fits))
    (c.to_the_right.ensures ∙ ap (moved_cell (pos (i + dead)) (pos 0)) c.cell-start.ensures)
    ∙ ap run_cells (sym run) in (
      omega (arith, lowest.fits, count),
      ap (λ n. left / 2 ^ dead / 2 ^ (n - 1) / 2) count ∙ rest ∙ ap (λ n. word / 2 ^ (i + (dead + n))) (sym count),
      c.in_ok-push_run.ensures.cells ∙ (λ t. c.loop-left.invariant.2 t ++ sym listed t)
          ∙ sym (next_run F c.args.rows.now k i dead len lowest.fits lowest.none lowest.live)
          ∙ ap (λ n. map F (places_below c.args.rows.now (64 * k + (i + (dead + n))))) (sym count),
    )

pub returns : goal.returns
returns g c =
    let F : ℕ → Cell = cell_of c.args.frame.left c.args.frame.top (64 * c.args.frame.words) in
    let none : get_or c.args.rows.now c.args.k 0 / 2 ^ c.loop-left.i ≡ 0 = sym c.loop-left.invariant.1
    ∙ c.loop-left-test.false in
    c.loop-left.invariant.2 ∙ sym (none_left F c.args.rows.now c.args.k c.loop-left.i c.loop-left.invariant.0 none)
