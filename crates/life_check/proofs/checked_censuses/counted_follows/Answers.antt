use Rattle.std.proofs.Common.{rules, ◌≡◌, ◌∙◌, ◌+◌, ◌∷◌, [], length, map, None, Some, false, sym, ap, subst, arith}
use Rattle.sqlite_trees.specs.Tree.{Trees}
use Rattle.sqlite_trees.specs.View.{IsClean, View}
use Rattle.life_census.specs.Rows.{TallyCounts, row_seen}
use Rattle.life_store.specs.Kept.{numbered}
use Rattle.life_store.specs.Stored.{rows_by, count_cells, tagged}
use Rattle.life_check.specs.ReadState.{census_row_of, flag_row_of}
use Rattle.life_check.specs.CountState.{AreFiled, Takes}
use Rattle.life_check.proofs.WalkLemmas.{no_both}
use Rattle.life_check.proofs.CountLemmas.{follows, none_is_not_some}
use Rattle.life_check.proofs.AwaitLemmas.{deposit_there, total_there, rows_there, flag_there}
use Rattle.life_check.proofs.checked_censuses.counted_follows.Goals as goal

pub returns-clause-follow : goal.returns-clause-follow
returns-clause-follow g c clean ds filed =
    let v0 = g.S.Store.view c.args.store.now in
    let v1 = g.S.Store.view c.deposit_from.new.store in
    let v2 = g.S.Store.view c.rows_follow.new.store in
    let v3 = g.S.Store.view c.flag_follows.new.store in
    let clean_2 : IsClean v2 = omega (arith, c.flag_follows.ensures.calm.clean, clean) in
    let clean_1 : IsClean v1 = omega (arith, c.rows_follow.ensures.calm.clean, clean_2) in
    let there : Some c.in-Some.deposit ≡ numbered ds c.args.census.now.deposit = sym c.in-Some.is
    ∙ c.in_ok-deposit.ensures.found clean_1 ds filed in
    let rows : map row_seen c.as_slice.result.now ≡ c.in_ok-tally.tally.rows = search rules in
    let row_is : c.args.row.now ≡ census_row_of c.args.id c.args.census.now c.in_ok-tally.tally.total
    c.in_ok-tally.tally.unresolved = search rules in
    let taken : (c.in-Some-2.more ≡ c.args.before + length c.as_slice.result.now) × Takes 1 (rows_by count_cells
    (c.args.before + 1) (tagged c.args.id (map row_seen c.as_slice.result.now))) v1 v2 = search rules in
    let last : Takes 2 (flag_row_of c.args.id c.in_ok-tally.steady ∷ []) v2 v3 = search rules in
    follows row_seen ds c.args.id c.args.before c.in-Some-2.more c.args.row.now v0 v1 v2 v3
    c.args.census.now c.in-Some.deposit c.in_ok-tally.tally c.in_ok-tally.steady c.as_slice.result.now
    c.requires.askable there c.in_ok-tally.ensures.is c.in_ok-tally.ensures.flag c.in_ok-tally.ensures.ordered
    c.in_ok-tally.ensures.adds_up row_is (c.in_ok-deposit.ensures.same clean_1) rows taken last

pub returns-clause-known : goal.returns-clause-known
returns-clause-known g c clean ds filed =
    let v1 = g.S.Store.view c.deposit_from.new.store in
    let v2 = g.S.Store.view c.rows_follow.new.store in
    let v3 = g.S.Store.view c.flag_follows.new.store in
    let clean_2 : IsClean v2 = omega (arith, c.flag_follows.ensures.calm.clean, clean) in
    let clean_1 : IsClean v1 = omega (arith, c.rows_follow.ensures.calm.clean, clean_2) in
    let taken : (c.in-Some-2.more ≡ c.args.before + length c.as_slice.result.now) × Takes 1 (rows_by count_cells
    (c.args.before + 1) (tagged c.args.id (map row_seen c.as_slice.result.now))) v1 v2 = search rules in
    let last : Takes 2 (flag_row_of c.args.id c.in_ok-tally.steady ∷ []) v2 v3 = search rules in
    let trees = last.trees ∙ taken.1.trees ∙ ap (λ (v : View). v.trees) (c.in_ok-deposit.ensures.same clean_1) in
    sym (sym c.in-Some.is
    ∙ c.in_ok-deposit.ensures.found clean_1 ds (subst (λ (t : Trees). AreFiled t ds) trees filed))

pub returns-in_default-clause-none : goal.returns-in_default-clause-none
returns-in_default-clause-none g c clean none ds filed t same awaits =
    let v0 = g.S.Store.view c.args.store.now in
    let is : c.in_ok-deposit.field-0 ≡ None = search rules in
    let some = deposit_there ds c.args.id c.args.before c.args.row.now t v0 awaits c.args.census.now same in
    none_is_not_some (numbered ds c.args.census.now.deposit)
    (sym (c.in_ok-deposit.ensures.found clean ds filed) ∙ is) some

pub returns-then-not-branch-clause-none : goal.returns-then-not-branch-clause-none
returns-then-not-branch-clause-none g c clean none ds filed t same awaits =
    let v0 = g.S.Store.view c.args.store.now in
    let there : Some c.in-Some.deposit ≡ numbered ds c.args.census.now.deposit = sym c.in-Some.is
    ∙ c.in_ok-deposit.ensures.found clean ds filed in
    let row =
    total_there ds c.args.id c.args.before c.args.row.now t v0 awaits c.args.census.now same c.in-Some.deposit
    c.in_ok-tally.tally c.in_ok-tally.steady there c.in_ok-tally.ensures.is c.in_ok-tally.ensures.flag in
    let other : c.in_ok-is_of_census.field-0 ≡ false = search rules in
    no_both c.in_ok-is_of_census.field-0
    (c.in_ok-is_of_census.ensures.1 (subst (λ (x : TallyCounts). c.args.row.now
    ≡ census_row_of c.args.id c.args.census.now x.total x.unresolved) (sym c.tally.view_is) row)) other

pub returns-in_default-2-clause-none : goal.returns-in_default-2-clause-none
returns-in_default-2-clause-none g c clean none ds filed t same awaits =
    let v0 = g.S.Store.view c.args.store.now in
    let v1 = g.S.Store.view c.deposit_from.new.store in
    let clean_1 : IsClean v1 = omega (arith, c.rows_follow.ensures.calm.clean, clean) in
    let there : Some c.in-Some.deposit ≡ numbered ds c.args.census.now.deposit = sym c.in-Some.is
    ∙ c.in_ok-deposit.ensures.found clean_1 ds filed in
    let rows : map row_seen c.as_slice.result.now ≡ c.in_ok-tally.tally.rows = search rules in
    let before =
    rows_there ds c.args.id c.args.before c.args.row.now t v0 awaits c.args.census.now same
    c.in-Some.deposit c.in_ok-tally.tally c.in_ok-tally.steady there c.in_ok-tally.ensures.is c.in_ok-tally.ensures.flag
    row_seen c.as_slice.result.now v1 rows (c.in_ok-deposit.ensures.same clean_1) in
    let is : c.in_ok-more.field-0 ≡ None = search rules in
    c.in_ok-more.ensures.none clean is before

pub returns-then-not-branch-2-clause-none : goal.returns-then-not-branch-2-clause-none
returns-then-not-branch-2-clause-none g c clean none ds filed t same awaits =
    let v0 = g.S.Store.view c.args.store.now in
    let v1 = g.S.Store.view c.deposit_from.new.store in
    let v2 = g.S.Store.view c.rows_follow.new.store in
    let clean_2 : IsClean v2 = omega (arith, c.flag_follows.ensures.calm.clean, clean) in
    let clean_1 : IsClean v1 = omega (arith, c.rows_follow.ensures.calm.clean, clean_2) in
    let there : Some c.in-Some.deposit ≡ numbered ds c.args.census.now.deposit = sym c.in-Some.is
    ∙ c.in_ok-deposit.ensures.found clean_1 ds filed in
    let rows = rows_by count_cells (c.args.before + 1) (tagged c.args.id (map row_seen c.as_slice.result.now)) in
    let taken : (c.in-Some-2.more ≡ c.args.before + length c.as_slice.result.now) × Takes 1 rows v1 v2 = search rules in
    let before =
    flag_there ds c.args.id c.args.before c.args.row.now t v0 awaits c.args.census.now same c.in-Some.deposit
    c.in_ok-tally.tally c.in_ok-tally.steady there c.in_ok-tally.ensures.is c.in_ok-tally.ensures.flag rows v1 v2
    (c.in_ok-deposit.ensures.same clean_1) taken.1 in
    let other : c.in_ok-flag_follows.field-0 ≡ false = search rules in
    c.in_ok-flag_follows.ensures.other clean other before
