use Rattle.std.proofs.Common.{◌≡◌, ℕ, ◌+◌, ◌*◌, ◌/◌, ◌%◌, ◌<◌, get_or, sym, ap, ◌∙◌, arith}
use Rattle.std.specs.Int.{bit_at}
use Rattle.life_core.proofs.packed.blocks.two_sums.Goals as goal

pub returns : goal.returns
returns c =
    let rows = c.args.rows.now in
    let words = c.args.words in
    let k = c.args.k in
    let h = c.two_rows.result in
    let s = c.sums_of.ensures in
    let l = c.two_rows_from_left.ensures in
    let r = c.two_rows_from_right.ensures in
    record {
      upper =
          let here = λ (p : ℕ) (lt : p < 128).
          let word : (64 * k + p) / 64 ≡ k + p / 64 = omega arith in
          let bit : (64 * k + p) % 64 ≡ p % 64 = omega arith in
          ap (λ w. bit_at w (p % 64)) (c.two_rows.ensures.upper (p / 64) (omega arith))
          ∙ (λ t. bit_at (get_or rows (sym word t) 0) (sym bit t)) in
          record {
            here = λ p lt. s.here p (omega (arith, lt)) ∙ here p lt;
            sides = λ p lt. s.sides p (omega (arith, lt)) ∙ (λ t. l.upper p lt t + r.upper p lt t);
            all = λ p lt. s.all p (omega (arith, lt)) ∙ (λ t. l.upper p lt t + (here p lt t + r.upper p lt t));
          };
      lower =
          let here = λ (p : ℕ) (lt : p < 128).
          let lane : (128 + p) / 64 ≡ 2 + p / 64 = omega arith in
          let word : (64 * (k + words) + p) / 64 ≡ k + words + p / 64 = omega arith in
          let same : (128 + p) % 64 ≡ p % 64 = omega arith in
          let bit : (64 * (k + words) + p) % 64 ≡ p % 64 = omega arith in
          (λ t. bit_at (get_or h (lane t) 0) (same t))
          ∙ ap (λ w. bit_at w (p % 64)) (c.two_rows.ensures.lower (p / 64) (omega arith))
          ∙ (λ t. bit_at (get_or rows (sym word t) 0) (sym bit t)) in
          record {
            here = λ p lt. s.here (128 + p) (omega (arith, lt)) ∙ here p lt;
            sides = λ p lt. s.sides (128 + p) (omega (arith, lt)) ∙ (λ t. l.lower p lt t + r.lower p lt t);
            all = λ p lt. s.all (128 + p) (omega (arith, lt)) ∙ (λ t. l.lower p lt t + (here p lt t + r.lower p lt t));
          };
    }
