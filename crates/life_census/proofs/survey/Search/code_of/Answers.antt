use Rattle.life_census.proofs.CodeTextLaws.{coded_bytes}
use Rattle.life_census.proofs.survey.Search.code_of.Goals as goal

pub from_slice-requires : goal.from_slice-requires
from_slice-requires g c =
    coded_bytes c.args.self.now.rule c.args.cluster.now c.args.self.now.limit c.in_ok-coded.field-0
    c.in-Some.coded c.text.result.now c.in_ok-coded.ensures c.in-Some.is c.text.ensures
