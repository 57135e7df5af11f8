use Rattle.std.proofs.Common.{◌≡◌, ◌-◌, ◌||◌, ap, sym, ◌∙◌, arith}
use Rattle.life_pictures.specs.PictureLines.{two_cells, cells_of_line}
use Rattle.life_pictures.proofs.PictureLinesLemmas.{shorter, ended, none}
use Rattle.life_pictures.proofs.picture_lines.length_of_line.Goals as goal

pub returns-then-has_live-clause-trimmed : goal.returns-then-has_live-clause-trimmed
returns-then-has_live-clause-trimmed g c =
    c.loop-length.invariant.trimmed
    ∙ ended (two_cells c.args.pattern.now c.args.i) c.loop-length.length (c.loop-length.length - 1) (omega arith)
    (ap (λ two. two.0 || two.1) (sym c.two_cells.ensures) ∙ sym c.has_live.ensures ∙ c.if-has_live.true)

pub loop-length-preserved : goal.loop-length-preserved
loop-length-preserved g c = record {
  trimmed =
      c.loop-length.invariant.trimmed
      ∙ shorter (two_cells c.args.pattern.now c.args.i) c.loop-length.length (c.loop-length.length - 1) (omega arith)
      (ap (λ two. two.0 || two.1) (sym c.two_cells.ensures) ∙ sym c.has_live.ensures ∙ c.if-has_live.false);
  within = omega (arith, c.loop-length.invariant.within);
}

pub returns-clause-trimmed : goal.returns-clause-trimmed
returns-clause-trimmed g c =
    let left : c.loop-length.length ≡ 0 = omega (arith, c.loop-length-test.false) in
    c.loop-length.invariant.trimmed ∙ ap (λ n. cells_of_line c.args.pattern.now n c.args.i) left
    ∙ none (two_cells c.args.pattern.now c.args.i)
