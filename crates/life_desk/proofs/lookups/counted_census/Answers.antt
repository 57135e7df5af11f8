use Rattle.std.proofs.Common.{rules}
use Rattle.life_store.proofs.LastingLemmas.{goes_then}
use Rattle.life_desk.proofs.lookups.counted_census.Goals as goal

pub returns-in_err-rows_and_flag_of-in-Some : goal.returns-in_err-rows_and_flag_of-in-Some
returns-in_err-rows_and_flag_of-in-Some g c = record {
  transition = goes_then _ _ _ c.census_of.ensures.transition c.rows_and_flag_of.ensures.transition;
  healthy = search rules;
  same = search rules;
  value = search rules;
}

pub returns-in-None-2 : goal.returns-in-None-2
returns-in-None-2 g c = record {
  transition = goes_then _ _ _ c.census_of.ensures.transition c.rows_and_flag_of.ensures.transition;
  healthy = search rules;
  same = search rules;
  value = search rules;
}

pub returns-in-Some-2 : goal.returns-in-Some-2
returns-in-Some-2 g c = record {
  transition = goes_then _ _ _ c.census_of.ensures.transition c.rows_and_flag_of.ensures.transition;
  healthy = search rules;
  same = search rules;
  value = search rules;
}
