use Rattle.std.proofs.Common.{◌+◌, ◌++◌, take, sym, ap, ◌∙◌, rules}
use Rattle.std.proofs.lemmas.List.{append_assoc}
use Rattle.life_rle.specs.Writer.{laid}
use Rattle.life_rle.specs.ItemLinesState.{written}
use Rattle.life_rle.proofs.WriterLemmas.{one_digit}
use Rattle.life_rle.proofs.writer.ItemLines.put_digit.Goals as goal

pub returns : goal.returns
returns g c items =
    let lines = c.make_room.new.self in
    let digits = c.from-digits.result in
    let one = one_digit lines.line lines.used digits c.args.count c.args.tag
    (search rules) c.requires.some c.requires.small c.from-digits.ensures in
    ap (λ l. lines.out.items ++ (l ++ laid (lines.used + (digits + 1)) items)) one.3
    ∙ ap (λ l. lines.out.items ++ l)
    (append_assoc (take lines.used lines.line) one.0 (laid (lines.used + (digits + 1)) items))
    ∙ c.in_ok-make_room.ensures.text one.0 items one.1
    ∙ ap (λ t. written c.args.self.now (t ++ items)) (sym one.2)
