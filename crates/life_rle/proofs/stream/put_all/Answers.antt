use Rattle.std.proofs.Common.{arith, ◌∙◌}
use Rattle.life_rle.proofs.StreamLemmas.{appends_on, appends_some, rest_from}
use Rattle.std.proofs.lemmas.Grind.{common_steps}
use Rattle.life_rle.proofs.stream.put_all.Goals as goal

pub returns-in-Err-clause-some : goal.returns-in-Err-clause-some
returns-in-Err-clause-some g c = appends_some _ _ _ _ _ c.puts.invariant.gained c.in-Err.ensures.bytes

pub puts-preserved : goal.puts-preserved
puts-preserved g c =
    let more = appends_on _ _ _ c.args.bytes.now c.puts.at _ c.puts.invariant.gained c.in-Ok.ensures.bytes in
    let in_slice = rw (rest_from c.args.bytes.now c.puts.at) at c.in-Ok.ensures.within in
    record {
      within = grind (arith, common_steps, in_slice);
      gained = more;
      count = c.in-Ok.ensures.count ∙ c.puts.invariant.count;
    }
