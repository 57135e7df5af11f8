use Rattle.std.proofs.Common.{rules, ◌≡◌, ◌∙◌, ◌+◌, true, false, sym, ap, subst, arith}
use Rattle.sqlite_trees.specs.View.{Advances}
use Rattle.life_census.specs.Rows.{row_seen}
use Rattle.life_check.specs.ReadState.{count_row}
use Rattle.life_check.proofs.WalkLemmas.{calm_then, no_both}
use Rattle.life_check.proofs.CountLemmas.{follow_more}
use Rattle.life_check.proofs.AwaitLemmas.{row_awaits, row_is_next, row_is_there}
use Rattle.life_check.proofs.checked_censuses.rows_follow.Goals as goal

pub loop-counted-preserved : goal.loop-counted-preserved
loop-counted-preserved g c =
    let index = c.loop-counted.counted-index in
    let number : c.in-Some.next_at ≡ c.args.before + index + 1 = first_of (search rules, grind arith) in (
      λ d live. c.in_ok-next.ensures.stay d (c.loop-counted.invariant.0 d live),
      calm_then g.S.Store c.args.store.now c.loop-counted.store c.next.new.store c.loop-counted.invariant.1
          c.next.ensures.calm,
      omega (arith, number),
      λ clean.
          let found : c.in_ok-next.field-0 ≡ true = search rules in
          let goes = subst (Advances (g.S.Store.view c.loop-counted.store)
          (g.S.Store.view c.next.new.store) 1 c.next.new.row) found (c.in_ok-next.ensures.ok clean) in
          let before = c.loop-counted.invariant.3 (omega (arith, c.next.ensures.calm.clean, clean)) in
          let is : c.next.new.row ≡ count_row c.in-Some.next_at
          (c.args.id, row_seen c.counted-item.result) = search rules in
          follow_more row_seen c.args.id c.args.before (g.S.Store.view c.args.store.now)
          (g.S.Store.view c.loop-counted.store) (g.S.Store.view c.next.new.store) c.args.rows.now
          index c.counted-item.result c.next.new.row c.loop-counted-test.true c.counted-item.is before goes
          (is ∙ ap (λ n. count_row n (c.args.id, row_seen c.counted-item.result)) number),
    )

pub returns-then-not-branch-clause-none : goal.returns-then-not-branch-clause-none
returns-then-not-branch-clause-none g c clean none before =
    let v0 = g.S.Store.view c.args.store.now in
    let v1 = g.S.Store.view c.loop-counted.store in
    let v2 = g.S.Store.view c.next.new.store in
    let index = c.loop-counted.counted-index in
    let found : c.in_ok-next.field-0 ≡ false = search rules in
    let goes = subst (Advances v1 v2 1 c.next.new.row) found (c.in_ok-next.ensures.ok clean) in
    let taken = c.loop-counted.invariant.3 (omega (arith, c.next.ensures.calm.clean, clean)) in
    let it = row_awaits row_seen c.args.id c.args.before v0 v1 c.args.rows.now index c.counted-item.result
    c.loop-counted-test.true c.counted-item.is taken before in
    row_is_there 1 v1 v2 c.next.new.row
    (count_row (c.args.before + index + 1) (c.args.id, row_seen c.counted-item.result)) it.0 it.1 goes

pub returns-then-not-branch-2-clause-none : goal.returns-then-not-branch-2-clause-none
returns-then-not-branch-2-clause-none g c clean none before =
    let v0 = g.S.Store.view c.args.store.now in
    let v1 = g.S.Store.view c.loop-counted.store in
    let v2 = g.S.Store.view c.next.new.store in
    let index = c.loop-counted.counted-index in
    let number : c.in-Some.next_at ≡ c.args.before + index + 1 = first_of (search rules, grind arith) in
    let found : c.in_ok-next.field-0 ≡ true = search rules in
    let goes = subst (Advances v1 v2 1 c.next.new.row) found (c.in_ok-next.ensures.ok clean) in
    let taken = c.loop-counted.invariant.3 (omega (arith, c.next.ensures.calm.clean, clean)) in
    let it = row_awaits row_seen c.args.id c.args.before v0 v1 c.args.rows.now index c.counted-item.result
    c.loop-counted-test.true c.counted-item.is taken before in
    let is = row_is_next 1 v1 v2 c.next.new.row
    (count_row (c.args.before + index + 1) (c.args.id, row_seen c.counted-item.result)) it.0 it.1 goes in
    let code : c.as_bytes.result.now ≡ c.counted-item.result.code = c.as_bytes.ensures.bytes in
    let same : c.next.new.row ≡ count_row c.in-Some.next_at
    (c.args.id, (c.as_bytes.result.now, c.counted-item.result.count)) =
    is ∙ ap (λ n. count_row n (c.args.id, row_seen c.counted-item.result)) (sym number)
    ∙ ap (λ t. count_row c.in-Some.next_at (c.args.id, (t, c.counted-item.result.count))) (sym code) in
    let other : c.in_ok-is_of_count.field-0 ≡ false = search rules in
    no_both c.in_ok-is_of_count.field-0 (c.in_ok-is_of_count.ensures.1 same) other
