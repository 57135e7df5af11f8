use Rattle.life_desk.specs.Validation.{validated}
use Rattle.life_desk.proofs.RequestRuns.{one_unasked}
use Rattle.life_pages.specs.ServedArchive.{StoreAnswers}
use Rattle.life_pages.proofs.FirmReplies.{unasked_firm}
use Rattle.life_pages.proofs.served_archive.ArchiveDesk.law_of_refusals.Goals as goal

pub returns : goal.returns
unfolding StoreAnswers
returns g c = λ request refusal may. (
  one_unasked _ request refusal may,
  unasked_firm c.args.self.now (validated request) refusal may,
)
