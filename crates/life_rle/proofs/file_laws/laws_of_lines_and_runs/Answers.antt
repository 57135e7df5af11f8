use Rattle.life_rle.proofs.LawsCuts.{lines_are_the_file, items_are_the_body, runs_are_longest, headers_give_the_box}
use Rattle.life_rle.proofs.file_laws.laws_of_lines_and_runs.Goals as goal

pub returns : goal.returns
returns c = record {
  lines = lines_are_the_file;
  items = items_are_the_body;
  runs = runs_are_longest;
  headers = headers_give_the_box;
}
