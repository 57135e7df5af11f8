use Rattle.life_rle.proofs.WriterLemmas.{room_fits, room_next}
use Rattle.life_rle.proofs.writer.ItemLines.make_room.Goals as goal

pub returns-in_ok-end_line-clause-text : goal.returns-in_ok-end_line-clause-text
returns-in_ok-end_line-clause-text g c item items long =
    room_next _ _ _ _ item _ _ _ items long c.if-self-len-gt-WIDTH.true c.in_ok-end_line.ensures.used
    c.in_ok-end_line.ensures.out

pub returns-else-self-len-gt-WIDTH-clause-text : goal.returns-else-self-len-gt-WIDTH-clause-text
returns-else-self-len-gt-WIDTH-clause-text g c item items long =
    room_fits _ _ item _ _ items long c.if-self-len-gt-WIDTH.false
