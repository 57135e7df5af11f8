use Rattle.std.proofs.Common.{refl}
use Rattle.life_pictures.proofs.LawsLemmas.{dead_are_left_out, lines_end_live, runs_are_the_cells, runs_are_longest}
use Rattle.life_pictures.proofs.PictureFramesLemmas.{frames_are_in_the_box}
use Rattle.life_pictures.proofs.TitleLemmas.{names_stay_text}
use Rattle.life_pictures.proofs.picture_laws.laws_of_pictures.Goals as goal

pub returns : goal.returns
returns c = record {
  dead = dead_are_left_out;
  ends = lines_end_live;
  cells = runs_are_the_cells;
  longest = runs_are_longest;
  names = names_stay_text;
  framed = frames_are_in_the_box;
  most = refl;
}
