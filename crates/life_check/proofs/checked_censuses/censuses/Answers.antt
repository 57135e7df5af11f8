use Rattle.std.proofs.Common.{rules, ◌≡◌, ◌+◌, List, None, Some, true, false, ap, subst, arith}
use Rattle.std.specs.Prelude.{IfSome}
use Rattle.sqlite_trees.specs.Tree.{Trees}
use Rattle.sqlite_trees.specs.View.{IsClean, View, Advances}
use Rattle.life_store.specs.declared.kept.Deposit.{Deposit}
use Rattle.life_check.specs.CountState.{AreFiled, Follows, IsKnown, IsInsideSquare}
use Rattle.life_check.proofs.WalkLemmas.{calm_then}
use Rattle.life_check.proofs.CountLemmas.{counted_more, filed_then}
use Rattle.life_check.proofs.AwaitLemmas.{next_census, awaits_census, awaits_more, awaits_none, wrong_at_end}
use Rattle.life_check.proofs.AwaitLemmas.{wrong_at_row}
use Rattle.life_check.proofs.checked_censuses.censuses.Goals as goal

pub loop-count-init : goal.loop-count-init
loop-count-init g c = (
  c.in_ok-begin_all.ensures.live.0,
  c.in_ok-begin_all.ensures.live.1,
  c.in_ok-begin_all.ensures.live.2,
  c.begin_all.ensures.calm,
  λ clean ds filed. c.in_ok-begin_all.ensures.begun clean c.args.quick ds,
  λ clean ds filed are. c.in_ok-begin_all.ensures.awaits clean ds are,
  λ clean ds filed. tt,
  tt,
)

pub loop-count-preserved : goal.loop-count-preserved
loop-count-preserved g c =
    let v1 = g.S.Store.view c.loop-count.store in
    let v2 = g.S.Store.view c.next.new.store in
    let v3 = g.S.Store.view c.census_follows.new.store in (
      c.in_ok-more.ensures.stay 0 (c.in_ok-next.ensures.stay 0 c.loop-count.invariant.0),
      c.in_ok-more.ensures.stay 1 (c.in_ok-next.ensures.stay 1 c.loop-count.invariant.1),
      c.in_ok-more.ensures.stay 2 (c.in_ok-next.ensures.stay 2 c.loop-count.invariant.2),
      calm_then g.S.Store c.args.store.now c.loop-count.store c.census_follows.new.store c.loop-count.invariant.3
          (calm_then g.S.Store c.loop-count.store c.next.new.store c.census_follows.new.store
          c.next.ensures.calm c.census_follows.ensures.calm),
      λ clean ds filed.
          let clean_2 : IsClean v2 = omega (arith, c.census_follows.ensures.calm.clean, clean) in
          let clean_1 : IsClean v1 = omega (arith, c.next.ensures.calm.clean, clean_2) in
          let found : c.in_ok-next.field-0 ≡ true = search rules in
          let goes = subst (Advances v1 v2 0 c.next.new.row) found (c.in_ok-next.ensures.ok clean_2) in
          let before = c.loop-count.invariant.4 clean_1 ds filed in
          let told : IfSome (Some c.in-Some.more) (λ more. (ds : List Deposit) → AreFiled v2.trees ds
          → Follows c.args.quick ds (c.loop-count.count + 1) c.loop-count.read more c.next.new.row v2 v3) =
          subst (λ o. IfSome o (λ more. (ds : List Deposit) → AreFiled v2.trees ds
          → Follows c.args.quick ds (c.loop-count.count + 1) c.loop-count.read more c.next.new.row v2 v3)) c.in-Some.is
          (c.in_ok-more.ensures.follow clean) in
          let it = told ds (filed_then c.args.quick ds c.loop-count.count c.loop-count.read
          (g.S.Store.view c.args.store.now) v1 v2 c.next.new.row before goes filed) in
          counted_more c.args.quick ds c.loop-count.count c.loop-count.read c.in-Some.more
          (g.S.Store.view c.args.store.now) v1 v2 v3 c.next.new.row before goes it,
      λ clean ds filed are.
          let clean_2 : IsClean v2 = omega (arith, c.census_follows.ensures.calm.clean, clean) in
          let clean_1 : IsClean v1 = omega (arith, c.next.ensures.calm.clean, clean_2) in
          let found : c.in_ok-next.field-0 ≡ true = search rules in
          let goes = subst (Advances v1 v2 0 c.next.new.row) found (c.in_ok-next.ensures.ok clean_2) in
          let before = c.loop-count.invariant.4 clean_1 ds filed in
          let told : IfSome (Some c.in-Some.more) (λ more. (ds : List Deposit) → AreFiled v2.trees ds
          → Follows c.args.quick ds (c.loop-count.count + 1) c.loop-count.read more c.next.new.row v2 v3) =
          subst (λ o. IfSome o (λ more. (ds : List Deposit) → AreFiled v2.trees ds
          → Follows c.args.quick ds (c.loop-count.count + 1) c.loop-count.read more c.next.new.row v2 v3)) c.in-Some.is
          (c.in_ok-more.ensures.follow clean) in
          let it = told ds (filed_then c.args.quick ds c.loop-count.count c.loop-count.read
          (g.S.Store.view c.args.store.now) v1 v2 c.next.new.row before goes filed) in
          let next = next_census ds c.loop-count.count c.loop-count.read v1 v2 c.next.new.row
          (c.loop-count.invariant.5 clean_1 ds filed are) goes in
          awaits_more c.args.quick ds c.loop-count.count c.loop-count.read c.in-Some.more c.next.new.row v2 v3 next it,
      λ clean.
          subst (λ o. IfSome o (λ more. IsKnown v3 c.census_follows.new.last)) c.in-Some.is
          (c.in_ok-more.ensures.known clean),
      subst (λ o. IfSome o (λ more. IsInsideSquare c.census_follows.new.last)) c.in-Some.is c.in_ok-more.ensures.kept,
    )

-- the deposit that was read last stays known, since no tree changes
pub census_follows-requires-clause-known : goal.census_follows-requires-clause-known
census_follows-requires-clause-known g c clean_2 ds filed =
    let v1 = g.S.Store.view c.loop-count.store in
    let v2 = g.S.Store.view c.next.new.store in
    let clean_1 : IsClean v1 = omega (arith, c.next.ensures.calm.clean, clean_2) in
    let found : c.in_ok-next.field-0 ≡ true = search rules in
    let goes = subst (Advances v1 v2 0 c.next.new.row) found (c.in_ok-next.ensures.ok clean_2) in
    c.loop-count.invariant.6 clean_1 ds
    (subst (λ (trees : Trees). AreFiled trees ds) (ap (λ (v : View). v.trees) goes.2) filed)

-- after the last row of a census something is left
pub returns-then-not-branch-clause-finds : goal.returns-then-not-branch-clause-finds
returns-then-not-branch-clause-finds g c clean =
    let v1 = g.S.Store.view c.loop-count.store in
    let v2 = g.S.Store.view c.next.new.store in
    let clean_2 : IsClean v2 = omega (arith, c.none_left.ensures.calm.clean, clean) in
    let clean_1 : IsClean v1 = omega (arith, c.next.ensures.calm.clean, clean_2) in
    let found : c.in_ok-next.field-0 ≡ false = search rules in
    let goes = subst (Advances v1 v2 0 c.next.new.row) found (c.in_ok-next.ensures.ok clean_2) in
    let left : c.in_ok-none_left.field-0 ≡ false = search rules in (
      λ ds filed are.
          let none = awaits_none ds c.loop-count.count c.loop-count.read v1 v2 c.next.new.row
          (c.loop-count.invariant.5 clean_1 ds filed are) goes in
          c.in_ok-none_left.ensures.some clean left none.0 none.1,
      λ ds filed.
          wrong_at_end c.args.quick ds c.loop-count.count c.loop-count.read (g.S.Store.view c.args.store.now) v1 v2
          c.next.new.row (c.loop-count.invariant.4 clean_1 ds filed) goes (c.in_ok-none_left.ensures.some clean left),
    )

-- the census of the row doesn't follow
pub returns-in-None-clause-finds : goal.returns-in-None-clause-finds
returns-in-None-clause-finds g c clean =
    let v1 = g.S.Store.view c.loop-count.store in
    let v2 = g.S.Store.view c.next.new.store in
    let clean_2 : IsClean v2 = omega (arith, c.census_follows.ensures.calm.clean, clean) in
    let clean_1 : IsClean v1 = omega (arith, c.next.ensures.calm.clean, clean_2) in
    let found : c.in_ok-next.field-0 ≡ true = search rules in
    let goes = subst (Advances v1 v2 0 c.next.new.row) found (c.in_ok-next.ensures.ok clean_2) in
    let none : c.in_ok-more.field-0 ≡ None = search rules in (
      λ ds filed are.
          let next = next_census ds c.loop-count.count c.loop-count.read v1 v2 c.next.new.row
          (c.loop-count.invariant.5 clean_1 ds filed are) goes in
          let before = c.loop-count.invariant.4 clean_1 ds filed in
          let still = filed_then c.args.quick ds c.loop-count.count c.loop-count.read
          (g.S.Store.view c.args.store.now) v1 v2 c.next.new.row before goes filed in
          c.in_ok-more.ensures.none clean none ds still next.census
          (awaits_census ds c.loop-count.count c.loop-count.read c.next.new.row v2 next),
      λ ds filed.
          let before = c.loop-count.invariant.4 clean_1 ds filed in
          let still = filed_then c.args.quick ds c.loop-count.count c.loop-count.read
          (g.S.Store.view c.args.store.now) v1 v2 c.next.new.row before goes filed in
          wrong_at_row c.args.quick ds c.loop-count.count c.loop-count.read (g.S.Store.view c.args.store.now) v1 v2
          c.next.new.row before goes (λ t awaits. c.in_ok-more.ensures.none clean none ds still t awaits),
    )
