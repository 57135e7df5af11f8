use Rattle.std.proofs.Common.{◌≡◌}
use Rattle.std.specs.List.{range_with_len}
use Rattle.life_hauls.specs.Hauls.{counts_over, soup_codes}
use Rattle.life_hauls.proofs.hauls.haul.Given as goal

abbrev pub invariant-loop-i : goal.invariant-loop-i
invariant-loop-i g l =
    let q = l.question in
    record {
      counted :
          l.haul ≡ counts_over (soup_codes q.symmetry q.root.now q.rule q.n q.limit) (range_with_len q.first l.i);
      cache : l.cache ≡ record { rule = q.rule; limit = q.limit };
    }
