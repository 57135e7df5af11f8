use Rattle.std.proofs.Common.{rules, ◌≡◌, ◌+◌, ◌∷◌, [], List, ℕ, None, Some, subst, sym, arith}
use Rattle.std.specs.Prelude.{IfSome}
use Rattle.life_check.specs.ReadState.{count_row}
use Rattle.life_check.specs.CountState.{Takes, TakesClusters, IsBefore}
use Rattle.life_check.proofs.WalkLemmas.{calm_then}
use Rattle.life_check.proofs.CountLemmas.{clusters_more}
use Rattle.life_check.proofs.AwaitLemmas.{count_awaits, count_taken}
use Rattle.life_check.proofs.checked_censuses.clusters_follow.Goals as goal

pub loop-left-preserved : goal.loop-left-preserved
loop-left-preserved g c =
    let v0 = g.S.Store.view c.args.store.now in
    let v1 = g.S.Store.view c.loop-left.store in
    let v2 = g.S.Store.view c.count_follows.new.store in
    let taken = c.loop-left.invariant.2 in
    let number : c.in-Some.next_at ≡ c.loop-left.at + 1 = first_of (search rules, grind arith) in (
      λ d live. c.in_ok-count.ensures.stay d (c.loop-left.invariant.0 d live),
      calm_then g.S.Store c.args.store.now c.loop-left.store c.count_follows.new.store c.loop-left.invariant.1
          c.count_follows.ensures.calm,
      taken + c.in-Some-2.count,
      omega (arith, c.loop-left.invariant.3, c.if-count-left.false),
      λ clean.
          let told : IfSome (Some c.in-Some-2.count)
          (λ n. (code : List ℕ) × Takes 1 (count_row c.in-Some.next_at (c.args.id, (code, n)) ∷ []) v1 v2) =
          subst (λ o. IfSome o (λ n. (code : List ℕ) × Takes 1 (count_row c.in-Some.next_at (c.args.id, (code, n)) ∷ [])
          v1 v2)) c.in-Some-2.is (c.in_ok-count.ensures.follow clean) in
          let before = c.loop-left.invariant.4 (omega (arith, c.count_follows.ensures.calm.clean, clean)) in
          subst (λ k. TakesClusters c.args.id (taken + c.in-Some-2.count) c.args.before k v0 v2) (sym number)
          (clusters_more c.args.id taken c.args.before c.loop-left.at c.in-Some-2.count told.0 v0 v1 v2 before
          (subst (λ k. Takes 1 (count_row k (c.args.id, (told.0, c.in-Some-2.count)) ∷ []) v1 v2) number told.1)),
    )

pub returns-in_default-2-clause-none : goal.returns-in_default-2-clause-none
returns-in_default-2-clause-none g c clean none rows some whole before =
    let v0 = g.S.Store.view c.args.store.now in
    let v1 = g.S.Store.view c.loop-left.store in
    let taken = c.loop-left.invariant.2 in
    let number : c.in-Some.next_at ≡ c.loop-left.at + 1 = first_of (search rules, grind arith) in
    let so_far = c.loop-left.invariant.4 (omega (arith, c.count_follows.ensures.calm.clean, clean)) in
    let it = count_awaits c.args.id taken c.args.before c.loop-left.at c.args.clusters rows
    v0 v1 so_far some whole before (omega (arith, c.loop-left.invariant.3, c.loop-left-test.true)) in
    let is : c.in_ok-count.field-0 ≡ None = search rules in
    c.in_ok-count.ensures.none clean is it.row.0 it.row.1 it.some
    (subst (λ k. IsBefore 1 (count_row k (c.args.id, it.row) ∷ []) v1) (sym number) it.next)

pub returns-then-count-left-clause-none : goal.returns-then-count-left-clause-none
returns-then-count-left-clause-none g c clean none rows some whole before =
    let v0 = g.S.Store.view c.args.store.now in
    let v1 = g.S.Store.view c.loop-left.store in
    let v2 = g.S.Store.view c.count_follows.new.store in
    let taken = c.loop-left.invariant.2 in
    let so_far = c.loop-left.invariant.4 (omega (arith, c.count_follows.ensures.calm.clean, clean)) in
    let it = count_awaits c.args.id taken c.args.before c.loop-left.at c.args.clusters rows
    v0 v1 so_far some whole before (omega (arith, c.loop-left.invariant.3, c.loop-left-test.true)) in
    let told : IfSome (Some c.in-Some-2.count)
    (λ n. (code : List ℕ) × Takes 1 (count_row c.in-Some.next_at (c.args.id, (code, n)) ∷ []) v1 v2) =
    subst
    (λ o. IfSome o (λ n. (code : List ℕ) × Takes 1 (count_row c.in-Some.next_at (c.args.id, (code, n)) ∷ []) v1 v2))
    c.in-Some-2.is (c.in_ok-count.ensures.follow clean) in
    let same = count_taken c.args.id c.in-Some.next_at
    (c.loop-left.at + 1) c.in-Some-2.count told.0 it.row v1 v2 it.next told.1 in
    omega (arith, same, it.few, c.loop-left.invariant.3, c.if-count-left.true)
