use Rattle.std.proofs.Common.{◌%◌, ◌/◌, arith}
use Rattle.std.proofs.lemmas.Result.{IfOk-weaker}
use Rattle.life_core.specs.declared.cell.TheConstants.{PLANE}
use Rattle.life_code.specs.DecodeState.{is_live}
use Rattle.life_code.proofs.DecodeLemmas.{places_within, decoded_from}
use Rattle.life_code.proofs.decode.decoded.Goals as goal

pub from_list-requires : goal.from_list-requires
from_list-requires g c =
    places_within PLANE (omega arith) (λ i. is_live c.read_text-reader.result.columns (i % 40) (i / 40))
    1600 c.in_ok-live_cells.field-0.items (omega arith) c.in_ok-live_cells.ensures

pub returns : goal.returns
returns g c =
    IfOk-weaker c.from_list.result _ _
    (λ X same. decoded_from c.args.text.now c.read_text-reader.result.columns c.in_ok-live_cells.field-0.items
    X c.read_text-reader.ensures c.in_ok-live_cells.ensures same) c.from_list.ensures
