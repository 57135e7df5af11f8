use Rattle.std.proofs.Common.{◌≡◌, ℕ, ◌+◌, List, Option, get_or, sym, ap, subst, ◌∙◌, arith}
use Rattle.std.proofs.lemmas.List.{take_all}
use Rattle.std.proofs.lemmas.List.Sums.{fold_more}
use Rattle.life_hauls.specs.Hauls.{HaulCounts}
use Rattle.life_hauls.specs.HaulsState.{with_code, with_codes}
use Rattle.life_hauls.proofs.HaulRows.{IsSorted}
use Rattle.life_hauls.proofs.PushLemmas.{sorted-more, with_codes-soups}
use Rattle.life_hauls.proofs.soup_counting.count_soup.Goals as goal

pub loop-code-preserved : goal.loop-code-preserved
loop-code-preserved g c =
    let i = c.args.number in
    let h = c.args.haul.now in
    record {
      counted =
          c.in_ok-count_cluster.ensures
          ∙ ap (λ (o : Option (List ℕ)). with_code i c.loop-code.haul o) c.code-item.is
          ∙ ap (λ (a : HaulCounts). with_code i a (get_or c.args.codes.now c.loop-code.code-index c.code-item.result))
          c.loop-code.invariant.counted
          ∙ sym (fold_more (with_code i) h c.args.codes.now c.loop-code.code-index c.code-item.result
          c.loop-code-test.true);
      sorted =
          subst (λ (a : HaulCounts). IsSorted a.rows) {x = with_code i c.loop-code.haul c.code-item.result}
          (sym c.in_ok-count_cluster.ensures)
          (sorted-more i c.loop-code.haul c.code-item.result c.loop-code.invariant.sorted);
    }

pub returns : goal.returns
returns g c =
    let i = c.args.number in
    let h = c.args.haul.now in
    let all = c.haul.view_is ∙ c.loop-code.invariant.counted
    ∙ ap (with_codes i h) (take_all c.loop-code.code-index c.args.codes.now c.loop-code-test.false) in
    let before : c.haul.inside.soups ≡ h.soups = ap (λ (a : HaulCounts). a.soups) all
    ∙ with_codes-soups i c.args.codes.now h in
    let told = c.in-Some.ensures in
    let soups : c.in-Some.soups ≡ h.soups + 1 = omega (arith, before, told) in
    λ k. record { rows = (all k).rows; unresolved = (all k).unresolved; soups = soups k; total = (all k).total }
