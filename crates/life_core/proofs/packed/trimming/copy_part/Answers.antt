use Rattle.std.proofs.Common.{◌≡◌, ℕ, List, ◌+◌, ◌-◌, ◌*◌, ◌<◌, length, take, drop, get_or, sym, ap, ◌∙◌, inl, inr}
use Rattle.std.proofs.Common.{rules, arith}
use Rattle.std.proofs.lemmas.Bool.{cases_lt}
use Rattle.life_core.proofs.FrameBounds.{row_fits, rows_few, word_few}
use Rattle.life_core.proofs.PackedGrowth.{put_at, copied_rows}
use Rattle.life_core.proofs.PackedTrimming.{part_fits, length-part, part_words, written_long, written_before}
use Rattle.life_core.proofs.PackedTrimming.{written_here}
use Rattle.life_core.proofs.packed.trimming.copy_part.Goals as goal

pub overflow_add-start : goal.overflow_add-start
overflow_add-start c = record {
  fits = omega (arith, rows_few c.args.frame c.requires.frame, c.requires.to.wider.tall, c.loop-y-test.true);
}

pub overflow_mul-start : goal.overflow_mul-start
overflow_mul-start c = record {
  fits = omega (
    arith,
    word_few c.args.frame 0 (c.args.to.top + c.loop-y.y) c.requires.frame (omega arith)
        (omega (arith, c.requires.to.wider.tall, c.loop-y-test.true)),
  );
}

pub overflow_add-start-in-loop-y : goal.overflow_add-start-in-loop-y
overflow_add-start-in-loop-y c = record {
  fits = omega (
    arith,
    word_few c.args.frame c.args.to.left (c.args.to.top + c.loop-y.y) c.requires.frame
        (omega (arith, c.requires.to.wider.wide)) (omega (arith, c.requires.to.wider.tall, c.loop-y-test.true)),
  );
}

pub overflow_mul-y : goal.overflow_mul-y
overflow_mul-y c = record {
  fits = omega (arith, word_few c.args.to.frame 0 c.loop-y.y c.requires.to.frame (omega arith) c.loop-y-test.true);
}

pub overflow_add-start-in-loop-y-2 : goal.overflow_add-start-in-loop-y-2
overflow_add-start-in-loop-y-2 c = record {
  fits = omega (
    arith,
    word_few c.args.frame (c.args.to.left + c.args.to.frame.words) (c.args.to.top + c.loop-y.y)
        c.requires.frame c.requires.to.wider.wide (omega (arith, c.requires.to.wider.tall, c.loop-y-test.true)),
  );
}

pub offset_bounds-rows-start : goal.offset_bounds-rows-start
offset_bounds-rows-start c = record {
  fits = omega (
    arith,
    word_few c.args.frame c.args.to.left (c.args.to.top + c.loop-y.y) c.requires.frame
        (omega (arith, c.requires.to.wider.wide)) (omega (arith, c.requires.to.wider.tall, c.loop-y-test.true)),
  );
}

pub slice_bounds-copy_at-count : goal.slice_bounds-copy_at-count
slice_bounds-copy_at-count c = omega arith

pub slice_bounds-copy_at-end : goal.slice_bounds-copy_at-end
slice_bounds-copy_at-end c =
    let fits = part_fits c.args.frame c.args.rows.now c.args.to c.loop-y.y c.requires.to c.requires.rows
    c.loop-y-test.true in
    search rules

pub copy_at-requires : goal.copy_at-requires
copy_at-requires c =
    let n = c.args.to in
    let rows = c.args.rows.now in
    let low : c.loop-y.y < n.frame.height = c.loop-y-test.true in
    let start = (n.top + c.loop-y.y) * c.args.frame.words + n.left in
    let wide : (start + n.frame.words) - start ≡ n.frame.words = omega arith in
    let long = length-part rows start n.frame.words _ wide
    (part_fits c.args.frame rows n c.loop-y.y c.requires.to c.requires.rows low) in
    omega (arith, long, row_fits n.frame.words n.frame.height c.loop-y.y low, c.requires.out, c.loop-y.invariant.long)

pub loop-y-preserved : goal.loop-y-preserved
loop-y-preserved c =
    let f = c.args.frame in
    let n = c.args.to in
    let y = c.loop-y.y in
    let rows = c.args.rows.now in
    let out = c.loop-y.out in
    let words = n.frame.words in
    let low : y < n.frame.height = c.loop-y-test.true in
    let start = (n.top + y) * f.words + n.left in
    let wide : (start + words) - start ≡ words = omega arith in
    let ys : List ℕ = take ((start + words) - start) (drop start rows) in
    let long : length ys ≡ words =
    length-part rows start words _ wide (part_fits f rows n y c.requires.to c.requires.rows low) in
    let size : n.frame.height * words ≡ length out = omega (arith, c.requires.out, c.loop-y.invariant.long) in
    record {
      long =
          ap length c.copy_at.ensures ∙ written_long out ys words n.frame.height y size low long
          ∙ c.loop-y.invariant.long;
      copied = λ z j lt inside. (elim (cases_lt z y) [
        | inl before ↦
            c.loop-y.invariant.copied z j before inside
            ∙ sym (written_before out ys words n.frame.height y size low long z j before inside)
        | inr here ↦
            let same : z ≡ y = omega arith in
            let at : (n.top + z) * f.words + (n.left + j) ≡ start + j =
            omega (arith, ap (λ r. (n.top + r) * f.words) same) in
            ap (λ p. get_or rows p 0) at ∙ sym (part_words rows start words j _ wide inside)
            ∙ sym (written_here out ys words n.frame.height y size low long j inside)
            ∙ ap (λ r. get_or (put_at (y * words) out ys) (r * words + j) 0) (sym same)
      ]) ∙ sym (ap (λ o. get_or o (z * words + j) 0) c.copy_at.ensures);
    }

pub returns : goal.returns
returns c =
    let end : c.args.to.frame.height ≡ c.loop-y.y = omega arith in
    let n = c.args.to in
    sym (copied_rows n.frame (record {
      frame = c.args.frame;
      left = n.left;
      top = n.top;
    }) c.loop-y.out c.args.rows.now c.requires.to.frame c.requires.frame c.requires.to.wider
    (omega (arith, c.requires.out, c.loop-y.invariant.long)) c.requires.rows
    (λ z j low inside. c.loop-y.invariant.copied z j (omega arith) inside)
    (λ z j low inside beside. c.requires.to.dead z j low inside beside))
