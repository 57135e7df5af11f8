use Rattle.life_rle.proofs.LawsTexts.{notes_are_the_lines, texts_are_the_file}
use Rattle.life_rle.proofs.file_laws.laws_of_texts.Goals as goal

pub returns : goal.returns
returns c = record { notes = notes_are_the_lines; records = texts_are_the_file }
