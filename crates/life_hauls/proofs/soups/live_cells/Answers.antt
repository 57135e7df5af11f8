use Rattle.std.proofs.Common.{◌≡◌, ◌++◌, ◌∷◌, [], List, arith, sym, ap, subst, ◌∙◌}
use Rattle.std.specs.List.{All}
use Rattle.std.proofs.lemmas.List.Elements.{All-push}
use Rattle.life_core.specs.declared.cell.Cell.{Cell}
use Rattle.life_core.specs.Cell.{IsCellWithin}
use Rattle.life_hauls.specs.Soups.{live_cells}
use Rattle.life_hauls.proofs.SoupLemmas.{live-yes, live-no}
use Rattle.life_hauls.proofs.soups.live_cells.Goals as goal
use Rattle.life_hauls.proofs.soups.live_cells.Goals.{then-bit_at+in_ok-push, else-bit_at}

pub loop-index-preserved : goal.loop-index-preserved
loop-index-preserved g c =
    let width = c.args.width in
    let bytes = c.args.digest.now in
    let n = c.loop-index.index in
    let before = c.loop-index.invariant in
    elim c.if-bit_at.branch [
      | then-bit_at+in_ok-push w ↦ record {
        cells = rw w.cells-is (w.in_ok-push.ensures.items
            ∙ ap (λ (cs : List Cell). cs ++ w.field_cell.result ∷ []) before.cells
            ∙ ap (λ (x : Cell). live_cells width bytes n ++ x ∷ []) w.field_cell.ensures.cell
            ∙ sym (live-yes width bytes n (sym c.bit_at.ensures ∙ w.if-bit_at.true)));
        inside =
            rw w.cells-is (subst (All (IsCellWithin 255)) (sym w.in_ok-push.ensures.items) (All-push (IsCellWithin 255)
            c.loop-index.cells.items w.field_cell.result before.inside w.field_cell.ensures.inside));
      }
      | else-bit_at w ↦ record {
        cells = rw w.cells-is (before.cells ∙ sym (live-no width bytes n (sym c.bit_at.ensures ∙ w.if-bit_at.false)));
        inside = rw w.cells-is before.inside;
      }
    ]

pub returns-clause-cells : goal.returns-clause-cells
returns-clause-cells g c =
    let end = c.loop-index.auto.index-end in
    let all : c.loop-index.index ≡ 256 = omega (arith, end, c.loop-index-test.false) in
    c.loop-index.invariant.cells ∙ ap (live_cells c.args.width c.args.digest.now) all
