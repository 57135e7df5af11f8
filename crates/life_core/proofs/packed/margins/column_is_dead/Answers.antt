use Rattle.std.specs.Prelude.{IsTrue}
use Rattle.std.proofs.Common.{◌≡◌, ℕ, ◌+◌, ◌*◌, max, min, nat_eq, bit_and, get_or, sym, ap, ◌∙◌, inl, inr, arith}
use Rattle.std.specs.Int.{bit_at}
use Rattle.std.proofs.lemmas.Bool.{cases_lt}
use Rattle.std.proofs.lemmas.Bool.Decides.{nat_tests}
use Rattle.std.proofs.lemmas.Nat.Bits.{bit_at_and, bit_at_or, bit_at-zero}
use Rattle.life_core.specs.PackedRow.{place}
use Rattle.life_core.proofs.FrameBounds.{row_fits, word_few}
use Rattle.life_core.proofs.WordShifts.{place_at}
use Rattle.life_core.proofs.packed.margins.column_is_dead.Goals as goal

none : (word mask : ℕ) → IsTrue (nat_eq (bit_and word mask) 0) → bit_and word mask ≡ 0
none word mask h = grind (arith, nat_tests)

-- a word that has no bit of a mask
unmasked : (word mask i : ℕ) → bit_and word mask ≡ 0 → bit_at mask i ≡ 1 → bit_at word i ≡ 0
unmasked word mask i none set =
    let both : min (bit_at word i) (bit_at mask i) ≡ 0 = sym (bit_at_and word mask i) ∙ ap (λ n. bit_at n i) none
    ∙ bit_at-zero i in
    omega (arith, both, set)

pub overflow_mul-all : goal.overflow_mul-all
overflow_mul-all c = record {
  fits = omega (arith, word_few c.args.frame 0 c.loop-y.y c.requires.frame (omega arith) c.loop-y-test.true);
}

pub overflow_add-all : goal.overflow_add-all
overflow_add-all c = record {
  fits = omega (
    arith,
    word_few c.args.frame c.args.j c.loop-y.y c.requires.frame (omega (arith, c.requires.j)) c.loop-y-test.true,
  );
}

pub offset_bounds-rows-y : goal.offset_bounds-rows-y
offset_bounds-rows-y c = record {
  fits = omega (
    arith,
    word_few c.args.frame c.args.j c.loop-y.y c.requires.frame (omega (arith, c.requires.j)) c.loop-y-test.true,
  );
}

pub bounds-rows-y : goal.bounds-rows-y
bounds-rows-y c = omega (
  arith,
  row_fits c.args.frame.words c.args.frame.height c.loop-y.y c.loop-y-test.true,
  c.requires.rows,
  c.requires.j,
)

pub loop-y-preserved : goal.loop-y-preserved
loop-y-preserved c z i lt within none =
    let w = c.args.frame.words in
    let rows = c.args.rows.now in
    let word = get_or rows (c.loop-y.y * w + c.args.j) 0 in
    let both : max (bit_at c.loop-y.all i) (bit_at word i) ≡ 0 = sym (bit_at_or c.loop-y.all word i) ∙ none in
    elim (cases_lt z c.loop-y.y) [
      | inl before ↦ c.loop-y.invariant z i before within (omega (arith, both))
      | inr here ↦
          let same : z ≡ c.loop-y.y = omega arith in
          let at : c.loop-y.y * (64 * w) + (64 * c.args.j + i) ≡ 64 * (c.loop-y.y * w + c.args.j) + i = omega arith in
          ap (λ (n : ℕ). place rows (n * (64 * w) + (64 * c.args.j + i))) same ∙ ap (place rows) at
          ∙ place_at rows (c.loop-y.y * w + c.args.j) i within
          ∙ (let zero : bit_at word i ≡ 0 = omega (arith, both) in zero)
    ]

pub returns : goal.returns
returns c dead y i low within set =
    c.loop-y.invariant y i (omega (arith, low, c.loop-y-test.false)) within
    (unmasked c.loop-y.all c.args.mask i (none c.loop-y.all c.args.mask dead) set)
