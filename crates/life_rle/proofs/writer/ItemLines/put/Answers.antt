use Rattle.std.proofs.Common.{◌≡◌, ◌+◌, ◌-◌, ◌≤◌, ◌∷◌, ◌++◌, [], List, ℕ, take, length, ap, ◌∙◌, rules, arith}
use Rattle.std.proofs.lemmas.List.{length-append, append_assoc}
use borrow.Rule.Slice.PartMut.{same_len_mid}
use Rattle.life_rle.specs.Writer.{laid}
use Rattle.life_rle.proofs.WriterLemmas.{more_digits}
use Rattle.life_rle.proofs.writer.ItemLines.put.Goals as goal

pub returns : goal.returns
returns g c items =
    let digits = c.args.digits.now in
    let lines = c.make_room.new.self in
    let item : List ℕ = digits ++ c.args.tag ∷ [] in
    let long : length item ≡ length digits + 1 = length-append digits (c.args.tag ∷ []) in
    let end : lines.used + length digits + 1 ≡ lines.used + (length digits + 1) = omega arith in
    let same : c.copy_from_slice.new.self ≡ digits = search rules in
    let front : length (take lines.used lines.line) ≡ lines.used = search rules in
    let whole : length lines.line ≡ 72 = search rules in
    let room : lines.used + (length digits + 1) ≤ 70 = c.in_ok-make_room.ensures.room in
    let kept = same_len_mid lines.used
    (lines.used + length digits - lines.used) lines.line c.copy_from_slice.new.self c.copy_from_slice.ensures.len in
    ap (λ l. lines.out.items ++ (l ++ laid (lines.used + length digits + 1) items))
    (more_digits lines.line c.copy_from_slice.new.self _ lines.used (length digits) c.args.tag front
    (ap length same) (omega (arith, kept, whole, room)))
    ∙ ap (λ d. lines.out.items ++ ((take lines.used lines.line ++ (d ++ c.args.tag ∷ []))
    ++ laid (lines.used + length digits + 1) items)) same
    ∙ ap (λ n. lines.out.items ++ ((take lines.used lines.line ++ item) ++ laid n items)) end
    ∙ ap (λ l. lines.out.items ++ l)
    (append_assoc (take lines.used lines.line) item (laid (lines.used + (length digits + 1)) items))
    ∙ c.in_ok-make_room.ensures.text item items long
