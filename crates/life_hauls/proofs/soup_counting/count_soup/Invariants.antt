use Rattle.std.proofs.Common.{◌≡◌, T, take}
use Rattle.std.specs.FinMap as table
use Rattle.life_census.specs.Counting.{row_cmp}
use Rattle.life_hauls.specs.HaulsState.{with_codes}
use Rattle.life_hauls.proofs.soup_counting.count_soup.Given as goal

abbrev pub invariant-loop-code : goal.invariant-loop-code
invariant-loop-code g l = record {
  counted : l.haul ≡ with_codes l.number l.initial.haul (take l.code-index l.codes);
  sorted : T (table.is_sorted row_cmp l.haul.rows);
}
