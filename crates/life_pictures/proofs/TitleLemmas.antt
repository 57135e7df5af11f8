-- No name ends its title.
use Rattle.std.proofs.Common.{◌≡◌, ◌≢◌, ℕ, Bool, true, false, cond, eqb, List, [], ◌∷◌, get_or, refl, sym, ◌∙◌, arith}
use Rattle.std.specs.Prelude.{codes}
use Rattle.std.specs.List.{All, flat_map}
use Rattle.std.specs.Char.{encode_utf8}
use Rattle.std.specs.Str.{chars}
use Rattle.std.specs.Str.Lossy.{utf8_lossy}
use Rattle.std.proofs.lemmas.Bool.{eq-eqb, false≢true}
use Rattle.std.proofs.lemmas.Grind.{get_or_default_zero}
use Rattle.std.proofs.lemmas.List.{append-nil}
use Rattle.std.proofs.lemmas.List.Elements.{All-nil, All-append, All-from_recursion}
use Rattle.std.proofs.lemmas.Str.{inside_one}
use Rattle.life_pictures.specs.Title.{is_xml_char, escaped, xml_text}
use Rattle.life_pictures.specs.PictureLaws.{NamesStayText}

-- it is not `<`
abbrev IsOther : ℕ → Type 0
IsOther byte = byte ≢ 60

-- a character that is not `<` has no such byte
encoded : (c : ℕ) → c ≢ 60 → All IsOther (encode_utf8 c)
encoded c other k d lt = λ is.
    let same : get_or (encode_utf8 c) k 0 ≡ 60 = sym (get_or_default_zero (encode_utf8 c) k d lt) ∙ is in
    other (inside_one c [] (encode_utf8 c) k (sym (append-nil (encode_utf8 c))) lt (omega arith) ∙ same)

by_tests : (c : ℕ) (and less more return valid : Bool) → (less ≡ false → c ≢ 60)
    → All IsOther (cond and (codes "&amp;") (cond less (codes "&lt;")
    (cond more (codes "&gt;") (cond return (codes "&#13;") (cond valid (encode_utf8 c) (encode_utf8 0xFFFD))))))
by_tests c true less more return valid other =
    All-from_recursion IsOther (codes "&amp;")
    (λ e. omega arith, (λ e. omega arith, (λ e. omega arith, (λ e. omega arith, (λ e. omega arith, tt)))))
by_tests c false true more return valid other =
    All-from_recursion IsOther (codes "&lt;")
    (λ e. omega arith, (λ e. omega arith, (λ e. omega arith, (λ e. omega arith, tt))))
by_tests c false false true return valid other =
    All-from_recursion IsOther (codes "&gt;")
    (λ e. omega arith, (λ e. omega arith, (λ e. omega arith, (λ e. omega arith, tt))))
by_tests c false false false true valid other =
    All-from_recursion IsOther (codes "&#13;")
    (λ e. omega arith, (λ e. omega arith, (λ e. omega arith, (λ e. omega arith, (λ e. omega arith, tt)))))
by_tests c false false false false true other = encoded c (other refl)
by_tests c false false false false false other = encoded 0xFFFD (λ e. omega arith)

escaped_one : (c : ℕ) → All IsOther (escaped c)
escaped_one c =
    by_tests c (eqb c 38) (eqb c 60) (eqb c 62) (eqb c 13) (is_xml_char c)
    (λ none same. absurd (false≢true (sym none ∙ eq-eqb c 60 same)))

escaped_all : (cs : List ℕ) → All IsOther (flat_map escaped cs)
escaped_all [] = All-nil IsOther
escaped_all (c ∷ cs) = All-append IsOther (escaped c) (flat_map escaped cs) (escaped_one c) (escaped_all cs)

pub names_stay_text : NamesStayText
unfolding xml_text
names_stay_text name = escaped_all (chars (utf8_lossy name))
