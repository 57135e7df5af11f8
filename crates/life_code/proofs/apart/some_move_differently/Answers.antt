use Rattle.std.proofs.Common.{get_or, sym, ap, arith}
use Rattle.life_code.proofs.apart.some_move_differently.Goals as goal

pub returns-then-moves_differently : goal.returns-then-moves_differently
returns-then-moves_differently g c = λ seen. record {
  m = c.part-item.result;
  n = get_or c.args.parts.now 0 c.index-parts-0.result;
  has_m = (c.loop-part.part-index, c.loop-part-test.true, sym c.part-item.is);
  has_n = (0, omega (arith, c.loop-part-test.true), ap (get_or c.args.parts.now 0) (sym c.index-parts-0.is));
  differ = c.if-moves_differently.ensures seen;
}
