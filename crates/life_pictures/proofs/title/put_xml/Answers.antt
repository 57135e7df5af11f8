use Rattle.std.proofs.Common.{◌≡◌, ℕ, List, [], ◌∷◌, ◌++◌, map, refl, ap, sym, ◌∙◌}
use Rattle.std.specs.List.{flat_map}
use Rattle.std.specs.Str.{chars}
use Rattle.std.proofs.lemmas.Iterator.{YieldsList-from_chars}
use Rattle.std.proofs.lemmas.Iterator.Consumers.{YieldsList-end}
use Rattle.life_pictures.specs.Title.{escaped, xml_text}
use Rattle.life_pictures.proofs.title.put_xml.Goals as goal

map_same : (cs : List ℕ) → map (λ c. c) cs ≡ cs
map_same [] = refl
map_same (c ∷ cs) = ap (λ ds. c ∷ ds) (map_same cs)

pub returns : goal.returns
unfolding xml_text
returns g c =
    let all = YieldsList-end (YieldsList-from_chars c.deref.result.now c.deref.utf8 cc) c.loop-c.yielded
    _ c.loop-c.yielded_by _ _ c.in-None.is c.next.ensures.steps in
    c.loop-c.invariant
    ∙ ap (λ cs. c.args.out.now.items ++ flat_map escaped cs)
    (sym (map_same c.loop-c.yielded) ∙ all.0 ∙ ap chars (c.deref.ensures ∙ c.in_ok-text.ensures.lossy))
