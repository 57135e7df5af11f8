use Rattle.std.proofs.Common.{rules, ◌≡◌, ◌+◌, ◌∷◌, [], Bool, true, arith}
use Rattle.std.specs.Prelude.{IsSome}
use Rattle.sqlite_trees.specs.View.{IsClean}
use Rattle.life_store.specs.Kept.{numbered}
use Rattle.life_check.specs.ReadState.{census_row_of, flag_row_of}
use Rattle.life_check.specs.CountState.{Takes, TakesClusters}
use Rattle.life_check.proofs.CountLemmas.{follows_uncounted}
use Rattle.life_check.proofs.checked_censuses.uncounted_follows.Goals as goal

pub returns-clause-follow : goal.returns-clause-follow
returns-clause-follow g c clean ds filed =
    let v0 = g.S.Store.view c.args.store.now in
    let v1 = g.S.Store.view c.has_deposit.new.store in
    let v2 = g.S.Store.view c.clusters_follow.new.store in
    let v3 = g.S.Store.view c.some_flag_follows.new.store in
    let clean_2 : IsClean v2 = omega (arith, c.some_flag_follows.ensures.calm.clean, clean) in
    let clean_1 : IsClean v1 = omega (arith, c.clusters_follow.ensures.calm.clean, clean_2) in
    let found : c.in_ok-has_deposit.field-0 ≡ true = search rules in
    let there : IsSome (numbered ds c.args.census.now.deposit) =
    c.in_ok-has_deposit.ensures.there clean_1 found ds filed in
    let whole : c.in-Some.clusters + c.in-Some-Some.unresolved ≡ c.in-Some-Some.total =
    first_of (search rules, grind arith) in
    let row_is : c.args.row.now ≡ census_row_of c.args.id c.args.census.now c.in-Some-Some.total
    c.in-Some-Some.unresolved = search rules in
    let taken : TakesClusters c.args.id c.in-Some.clusters c.args.before c.in-Some-2.more v1 v2 = search rules in
    let flag : c.in_ok-some_flag_follows.field-0 ≡ true = search rules in
    let last : (steady : Bool) × Takes 2 (flag_row_of c.args.id steady ∷ []) v2 v3 =
    c.in_ok-some_flag_follows.ensures.follow clean flag in
    follows_uncounted ds c.args.id c.args.before c.in-Some-2.more c.args.row.now v0 v1 v2 v3
    c.args.census.now c.in-Some-Some.total c.in-Some-Some.unresolved c.in-Some.clusters last.0
    c.requires.askable there whole row_is (c.in_ok-has_deposit.ensures.same clean_1) taken last.1
