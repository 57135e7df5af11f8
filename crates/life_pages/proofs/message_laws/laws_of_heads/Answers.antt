use Rattle.life_pages.proofs.HeadLaws.{parts_are_the_value, captures_are_the_path, one_template}
use Rattle.life_pages.proofs.message_laws.laws_of_heads.Goals as goal

pub returns : goal.returns
returns c = record { parts = parts_are_the_value; captures = captures_are_the_path; one = one_template }
