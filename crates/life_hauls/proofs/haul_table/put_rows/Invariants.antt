use Rattle.std.proofs.Common.{◌≡◌, ◌++◌, map, drop}
use Rattle.std.specs.List.{flat_map}
use Rattle.life_hauls.specs.Hauls.{row_seen}
use Rattle.life_hauls.specs.HaulTable.{line}
use Rattle.life_hauls.proofs.haul_table.put_rows.Given as goal

abbrev pub invariant-loop-row : goal.invariant-loop-row
invariant-loop-row g l =
    l.out.items ++ flat_map line (map row_seen (drop l.row-index l.rows))
    ≡ l.initial.out.items ++ flat_map line (map row_seen l.rows)
