use Rattle.std.proofs.Common.{◌≡◌, ℕ, List, ◌+◌, ◌-◌, ◌*◌, ◌<◌, ◌≤◌, length, take, drop, get_or, refl, sym, ap, subst}
use Rattle.std.proofs.Common.{◌∙◌, inl, inr, rules, arith}
use Rattle.std.proofs.lemmas.Bool.{cases_lt}
use Rattle.life_core.proofs.FrameBounds.{row_fits, rows_few, word_few}
use Rattle.life_core.proofs.PackedJoins.{row_words, length-row}
use Rattle.life_core.proofs.PackedGrowth.{IsBeside, put_at, as_long, row_has_room, copied_before, copied_here}
use Rattle.life_core.proofs.PackedGrowth.{blank_beside, copied_rows}
use Rattle.life_core.specs.declared.packed.frame.Frame.{Frame}
use Rattle.life_core.specs.declared.packed.margins.Wider.{Wider}
use Rattle.life_core.proofs.packed.packing.copy_rows.Goals as goal

pub overflow_add-start : goal.overflow_add-start
overflow_add-start c =
    record { fits = omega (arith, rows_few c.args.to.frame c.requires.to, c.requires.wider.tall, c.loop-y-test.true) }

pub overflow_mul-start : goal.overflow_mul-start
overflow_mul-start c = record {
  fits = omega (
    arith,
    word_few c.args.to.frame 0 (c.args.to.top + c.loop-y.y) c.requires.to (omega arith)
        (omega (arith, c.requires.wider.tall, c.loop-y-test.true)),
  );
}

pub overflow_add-start-in-loop-y : goal.overflow_add-start-in-loop-y
overflow_add-start-in-loop-y c = record {
  fits = omega (
    arith,
    word_few c.args.to.frame c.args.to.left (c.args.to.top + c.loop-y.y) c.requires.to
        (omega (arith, c.requires.wider.wide)) (omega (arith, c.requires.wider.tall, c.loop-y-test.true)),
  );
}

pub overflow_mul-y : goal.overflow_mul-y
overflow_mul-y c =
    record { fits = omega (arith, word_few c.args.from 0 c.loop-y.y c.requires.from (omega arith) c.loop-y-test.true) }

pub overflow_mul-y-in-loop-y : goal.overflow_mul-y-in-loop-y
overflow_mul-y-in-loop-y c =
    record { fits = omega (arith, word_few c.args.from 0 c.loop-y.y c.requires.from (omega arith) c.loop-y-test.true) }

pub overflow_add-y : goal.overflow_add-y
overflow_add-y c = record {
  fits =
      omega (arith, word_few c.args.from c.args.from.words c.loop-y.y c.requires.from (omega arith) c.loop-y-test.true);
}

pub offset_bounds-rows-y : goal.offset_bounds-rows-y
offset_bounds-rows-y c =
    record { fits = omega (arith, word_few c.args.from 0 c.loop-y.y c.requires.from (omega arith) c.loop-y-test.true) }

pub slice_bounds-copy_at-count : goal.slice_bounds-copy_at-count
slice_bounds-copy_at-count c = omega arith

pub slice_bounds-copy_at-end : goal.slice_bounds-copy_at-end
slice_bounds-copy_at-end c =
    let f = c.args.from in
    let fits : c.loop-y.y * f.words + f.words ≤ length c.args.rows.now =
    omega (arith, row_fits f.words f.height c.loop-y.y c.loop-y-test.true, c.requires.rows) in
    search rules

pub copy_at-requires : goal.copy_at-requires
copy_at-requires c =
    let f = c.args.from in
    let y = c.loop-y.y in
    let rows = c.args.rows.now in
    let low : y < f.height = c.loop-y-test.true in
    let fits = row_fits f.words f.height y low in
    let wide : (y * f.words + f.words) - y * f.words ≡ f.words = omega arith in
    let long = length-row rows f.words y _ wide (omega (arith, fits, c.requires.rows)) in
    let room = row_has_room f c.args.to c.loop-y.out (take f.words (drop (y * f.words) rows)) y c.requires.wider
    (omega (arith, c.requires.out, c.loop-y.invariant.long)) low
    (length-row rows f.words y f.words refl (omega (arith, fits, c.requires.rows))) in
    omega (arith, room, long)

pub loop-y-preserved : goal.loop-y-preserved
loop-y-preserved c =
    let f = c.args.from in
    let w = c.args.to in
    let y = c.loop-y.y in
    let out = c.loop-y.out in
    let rows = c.args.rows.now in
    let low : y < f.height = c.loop-y-test.true in
    let fits = row_fits f.words f.height y low in
    let wide : (y * f.words + f.words) - y * f.words ≡ f.words = omega arith in
    let ys : List ℕ = take ((y * f.words + f.words) - y * f.words) (drop (y * f.words) rows) in
    let long : length ys ≡ f.words = length-row rows f.words y _ wide (omega (arith, fits, c.requires.rows)) in
    let size : w.frame.height * w.frame.words ≡ length out = omega (arith, c.requires.out, c.loop-y.invariant.long) in
    record {
      long =
          ap length c.copy_at.ensures ∙ as_long f w out ys y c.requires.wider size low long ∙ c.loop-y.invariant.long;
      copied =
          λ z j lt inside. ap (λ o. get_or o ((w.top + z) * w.frame.words + (w.left + j)) 0) c.copy_at.ensures
          ∙ elim (cases_lt z y) [
            | inl before ↦
                copied_before f w out ys y c.requires.wider size low long z j before inside
                ∙ c.loop-y.invariant.copied z j before inside
            | inr here ↦
                let same : z ≡ y = omega arith in
                (λ i. get_or (put_at ((w.top + y) * w.frame.words + w.left) out ys)
                ((w.top + same i) * w.frame.words + (w.left + j)) 0)
                ∙ copied_here f w out ys y c.requires.wider size low long j inside
                ∙ row_words rows f.words y j _ wide inside ∙ (λ i. get_or rows (sym same i * f.words + j) 0)
          ];
      dead =
          λ z j below inside beside. ap (λ o. get_or o (z * w.frame.words + j) 0) c.copy_at.ensures
          ∙ blank_beside f w out ys y c.requires.wider size low long z j inside beside
          ∙ c.loop-y.invariant.dead z j below inside (earlier f w y z j beside);
    }
  where
    earlier : (f : Frame) (w : Wider) (y z j : ℕ) → IsBeside f w (y + 1) z j → IsBeside f w y z j
    earlier f w y z j (inl (inl above)) = inl (inl above)
    earlier f w y z j (inl (inr below)) = inl (inr (omega (arith, below)))
    earlier f w y z j (inr side) = inr side

pub returns : goal.returns
returns c =
    let end : c.args.from.height ≡ c.loop-y.y = omega arith in
    copied_rows c.args.from c.args.to c.args.rows.now c.loop-y.out c.requires.from c.requires.to
    c.requires.wider c.requires.rows (omega (arith, c.loop-y.invariant.long))
    (λ z j low inside. c.loop-y.invariant.copied z j (omega arith) inside) (λ z j low inside beside.
    c.loop-y.invariant.dead z j low inside (subst (λ n. IsBeside c.args.from c.args.to n z j) end beside))
