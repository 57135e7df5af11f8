use Rattle.std.proofs.Common.{◌≡◌, ℕ, Bool, ◌+◌, ◌<◌, cond, not, List, [], ◌∷◌, ◌++◌, length, take, get_or, ap, sym}
use Rattle.std.proofs.Common.{◌∙◌, append-nil}
use Rattle.std.proofs.lemmas.List.Elements.{filter_more}
use Rattle.life_core.specs.RuleText.{is_blank, without_blanks}
use Rattle.life_rle.proofs.line_reader.without_blanks.Goals as goal
use Rattle.life_rle.proofs.line_reader.without_blanks.Goals.{then-not-is_blank+in_ok-push, else-not-is_blank}

-- what is kept of one byte more
next : (line : List ℕ) (i : ℕ) (blank : Bool) → i < length line → is_blank (get_or line i 0) ≡ blank
    → without_blanks (take i line) ++ cond (not blank) (get_or line i 0 ∷ []) [] ≡ without_blanks (take (i + 1) line)
next line i blank h e = rw (← e) (sym (filter_more (λ b. not (is_blank b)) line i 0 h))

pub loop-byte-preserved : goal.loop-byte-preserved
loop-byte-preserved g c =
    let i = c.loop-byte.byte-index in
    let byte = get_or c.args.line.now i 0 in
    let blank = sym c.is_blank.ensures in
    elim c.if-not-is_blank.branch [
      | then-not-is_blank+in_ok-push w ↦
          ap (λ v. v.items) w.text-is ∙ w.in_ok-push.ensures.items
          ∙ ap (λ text. text ++ byte ∷ []) c.loop-byte.invariant
          ∙ next _ i _ c.loop-byte-test.true (blank ∙ w.if-not-is_blank.true)
      | else-not-is_blank w ↦
          ap (λ v. v.items) w.text-is ∙ c.loop-byte.invariant
          ∙ sym (append-nil _) ∙ next _ i _ c.loop-byte-test.true (blank ∙ w.if-not-is_blank.false)
    ]
