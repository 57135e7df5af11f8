use Rattle.life_rle.proofs.HeaderForms.{headers_are_read}
use Rattle.life_rle.proofs.file_laws.law_of_headers.Goals as goal

pub returns : goal.returns
returns c = headers_are_read
