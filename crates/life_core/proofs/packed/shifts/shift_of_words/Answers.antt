use Rattle.std.proofs.Common.{◌≡◌, neg_ℤ, refl, sym, subst, ◌∙◌, arith}
use Rattle.std.proofs.lemmas.Int.{ints}
use Rattle.std.proofs.lemmas.Bool.{false≢true}
use Rattle.life_core.specs.Pattern.{ShiftsTo}
use Rattle.life_core.specs.PackedFrameState.{framed}
use Rattle.life_core.proofs.PackedShifts.{from_none, to_none, by_covers, covers_there, covers_back}
use Rattle.life_core.proofs.packed.shifts.shift_of_words.Goals as goal

pub shift_of-there-requires-clause-from : goal.shift_of-there-requires-clause-from
shift_of-there-requires-clause-from c = c.requires.within c.in_ok-first.first.1 c.in_ok-first.ensures.first.live

pub shift_of-there-requires-clause-to : goal.shift_of-there-requires-clause-to
shift_of-there-requires-clause-to c = c.requires.others_within c.in_ok-other.other.1 c.in_ok-other.ensures.first.live

pub shift_of-back-requires-clause-from : goal.shift_of-back-requires-clause-from
shift_of-back-requires-clause-from c = c.requires.others_within c.in_ok-other.other.1 c.in_ok-other.ensures.first.live

pub shift_of-back-requires-clause-to : goal.shift_of-back-requires-clause-to
shift_of-back-requires-clause-to c = c.requires.within c.in_ok-first.first.1 c.in_ok-first.ensures.first.live

pub covers-requires-2-clause-columns : goal.covers-requires-2-clause-columns
covers-requires-2-clause-columns c =
    let a = c.requires.within c.in_ok-first.first.1 c.in_ok-first.ensures.first.live in
    let b = c.requires.others_within c.in_ok-other.other.1 c.in_ok-other.ensures.first.live in
    let move = c.shift_of-there.ensures.columns in (
      omega (arith, ints, move, a.left, a.right, b.left, b.right),
      omega (arith, ints, move, a.left, a.right, b.left, b.right),
    )

pub covers-requires-clause-columns : goal.covers-requires-clause-columns
covers-requires-clause-columns c =
    let a = c.requires.within c.in_ok-first.first.1 c.in_ok-first.ensures.first.live in
    let b = c.requires.others_within c.in_ok-other.other.1 c.in_ok-other.ensures.first.live in
    let move = c.shift_of-back.ensures.columns in (
      omega (arith, ints, move, a.left, a.right, b.left, b.right),
      omega (arith, ints, move, a.left, a.right, b.left, b.right),
    )

pub returns-in_err-first : goal.returns-in_err-first
returns-in_err-first c =
    subst (ShiftsTo (framed c.args.frame c.args.rows.now) (framed c.args.to c.args.others.now))
    (sym c.from_residual.ensures) (from_none _ _ (c.in_err-first.ensures.none refl))

pub returns-in_err-other : goal.returns-in_err-other
returns-in_err-other c =
    subst (ShiftsTo (framed c.args.frame c.args.rows.now) (framed c.args.to c.args.others.now))
    (sym c.from_residual-in_err-other.ensures) (to_none _ _ (c.in_err-other.ensures.none refl))

pub covers-requires-2-clause-rows_moved : goal.covers-requires-2-clause-rows_moved
covers-requires-2-clause-rows_moved c =
    let a = c.requires.within c.in_ok-first.first.1 c.in_ok-first.ensures.first.live in
    let b = c.requires.others_within c.in_ok-other.other.1 c.in_ok-other.ensures.first.live in (
      omega (arith, ints, c.shift_of-there.ensures.rows, a.bottom, b.top),
      omega (arith, ints, c.shift_of-there.ensures.rows, a.top, b.bottom),
    )

pub covers-requires-clause-rows_moved : goal.covers-requires-clause-rows_moved
covers-requires-clause-rows_moved c =
    let a = c.requires.within c.in_ok-first.first.1 c.in_ok-first.ensures.first.live in
    let b = c.requires.others_within c.in_ok-other.other.1 c.in_ok-other.ensures.first.live in (
      omega (arith, ints, c.shift_of-back.ensures.rows, a.top, b.bottom),
      omega (arith, ints, c.shift_of-back.ensures.rows, a.bottom, b.top),
    )

pub returns-then-not-covers-2 : goal.returns-then-not-covers-2
returns-then-not-covers-2 c = λ dx dy e. absurd (false≢true (sym c.if-not-covers-2.true ∙ c.covers-2.ensures.1
    (covers_there _ _ c.in_ok-first.first.1 c.in_ok-other.other.1 c.shift_of-there.result dx
    dy c.in_ok-first.ensures.first c.in_ok-other.ensures.first c.shift_of-there.ensures.columns
    c.shift_of-there.ensures.rows e)))

pub returns-then-not-covers : goal.returns-then-not-covers
returns-then-not-covers c = λ dx dy e. absurd (false≢true (sym c.if-not-covers.true ∙ c.covers.ensures.1
    (covers_back _ _ c.in_ok-first.first.1 c.in_ok-other.other.1 c.shift_of-back.result dx
    dy c.in_ok-first.ensures.first c.in_ok-other.ensures.first c.shift_of-back.ensures.columns
    c.shift_of-back.ensures.rows e)))

pub returns : goal.returns
returns c =
    let columns : c.shift_of-back.result.0 ≡ neg_ℤ c.shift_of-there.result.0 =
    omega (arith, ints, c.shift_of-there.ensures.columns, c.shift_of-back.ensures.columns) in
    let rows : c.shift_of-back.result.1 ≡ neg_ℤ c.shift_of-there.result.1 =
    omega (arith, ints, c.shift_of-there.ensures.rows, c.shift_of-back.ensures.rows) in
    by_covers _ _ c.in_ok-first.first.1 c.shift_of-there.result c.shift_of-back.result c.in_ok-first.ensures.first.live
    columns rows (c.covers-2.ensures.0 c.if-not-covers-2.false) (c.covers.ensures.0 c.if-not-covers.false)

pub returns-then-not-begins_covered : goal.returns-then-not-begins_covered
returns-then-not-begins_covered c =
    λ dx dy e. absurd (false≢true (sym c.if-not-begins_covered.true ∙ c.begins_covered.ensures
    (covers_back _ _ c.in_ok-first.first.1 c.in_ok-other.other.1 c.shift_of-back.result dx
    dy c.in_ok-first.ensures.first c.in_ok-other.ensures.first c.shift_of-back.ensures.columns
    c.shift_of-back.ensures.rows e)))

pub begins_covered-requires-clause-columns : goal.begins_covered-requires-clause-columns
begins_covered-requires-clause-columns c =
    let a = c.requires.within c.in_ok-first.first.1 c.in_ok-first.ensures.first.live in
    let b = c.requires.others_within c.in_ok-other.other.1 c.in_ok-other.ensures.first.live in
    let move = c.shift_of-back.ensures.columns in (
      omega (arith, ints, move, a.left, a.right, b.left, b.right),
      omega (arith, ints, move, a.left, a.right, b.left, b.right),
    )

pub begins_covered-requires-clause-rows_moved : goal.begins_covered-requires-clause-rows_moved
begins_covered-requires-clause-rows_moved c =
    let a = c.requires.within c.in_ok-first.first.1 c.in_ok-first.ensures.first.live in
    let b = c.requires.others_within c.in_ok-other.other.1 c.in_ok-other.ensures.first.live in (
      omega (arith, ints, c.shift_of-back.ensures.rows, a.top, b.bottom),
      omega (arith, ints, c.shift_of-back.ensures.rows, a.bottom, b.top),
    )
