use Rattle.std.proofs.Common.{rules, ◌≡◌, ℤ, SFits, w64, to_z-of_z, sym, subst, ◌∙◌}
use Rattle.life_code.specs.Growing.{HasPair}
use Rattle.life_code.proofs.PeriodPairs.{pairs_of_box}
use Rattle.life_code.proofs.growing.grows_for_ever.Goals as goal

pub returns : goal.returns
returns g c last =
    let rule = c.args.rule.now in
    let cells = c.args.pattern.now in
    let top = c.in-Some.bounds.top in
    let bottom = c.in-Some-last_row.bottom in
    let fits_top : SFits w64 top = search rules in
    let fits_bottom : SFits w64 bottom = search rules in
    let end : bottom ≡ _ = c.in-Some-last_row.ensures in
    pairs_of_box rule cells _ top bottom _ _ c.in-Some.ensures.is_box end c.is_live_next.ensures.kept.quiet
    (sym c.is_live_next.ensures.value ∙ c.if-is_live_next.false)
    (sym c.is_live_next-2.ensures.value ∙ c.if-not-is_live_next.false)
    (subst (λ y. (x : ℤ) × HasPair rule cells x y) (to_z-of_z fits_top) (c.has_pair.ensures c.if-not-has_pair.false))
    (subst (λ y. (x : ℤ) × HasPair rule cells x y) (to_z-of_z fits_bottom) (c.has_pair-2.ensures last))
