use Rattle.std.proofs.Common.{◌≡◌, ℕ, ◌+◌, List, Option, map, sym, ap, subst, ◌∙◌, arith}
use Rattle.std.specs.List.{range_with_len}
use Rattle.life_core.specs.Generations.{generation_of}
use Rattle.life_code.specs.Codes.{code_of}
use Rattle.life_census.specs.Cluster.{clusters_of}
use Rattle.life_census.specs.CodeCacheState.{CodeQuestion}
use Rattle.life_hauls.specs.declared.hauls.HaulQuestion.{HaulQuestion}
use Rattle.life_hauls.specs.Hauls.{HaulCounts, counts_over, soup_codes}
use Rattle.life_hauls.specs.HaulsState.{with_soup}
use Rattle.life_hauls.specs.Soups.{soup_of}
use Rattle.life_hauls.proofs.HaulRows.{IsSorted}
use Rattle.life_hauls.proofs.SoupLemmas.{range-push}
use Rattle.life_hauls.proofs.PushLemmas.{counts-push, sorted-haul, no-soups}
use Rattle.life_hauls.proofs.hauls.haul.Goals as goal

-- the codes of the clusters of soup i
abbrev codes_of : HaulQuestion → ℕ → List (Option (List ℕ))
codes_of q = soup_codes q.symmetry q.root.now q.rule q.n q.limit

pub loop-i-init : goal.loop-i-init
loop-i-init g c = record {
  counted = c.none-haul.ensures ∙ sym (no-soups (codes_of c.args.question.now));
  cache = c.new-cache.ensures;
}

pub count_soup-requires : goal.count_soup-requires
count_soup-requires g c =
    subst (λ (h : HaulCounts). IsSorted h.rows) (sym c.loop-i.invariant.counted)
    (sorted-haul (codes_of c.args.question.now) (range_with_len c.args.question.now.first c.loop-i.i))

pub loop-i-preserved : goal.loop-i-preserved
loop-i-preserved g c =
    let q = c.args.question.now in
    let all : ℕ → List (Option (List ℕ)) = codes_of q in
    let ns = range_with_len q.first c.loop-i.i in
    let i = q.first + c.loop-i.i in
    let cache = c.drop_shapes.ensures ∙ c.loop-i.invariant.cache in
    let codes = c.deref.ensures.value ∙ c.in_ok-codes.ensures.codes
    ∙ ap (λ (v : CodeQuestion). map (λ P. code_of v.rule P v.limit)
    (clusters_of (generation_of q.rule (soup_of q.symmetry q.root.now i) q.n))) cache in
    record {
      counted =
          c.in_ok-count_soup.ensures
          ∙ ap (λ (h : HaulCounts). with_soup i h c.deref.result.now) c.loop-i.invariant.counted
          ∙ ap (λ (os : List (Option (List ℕ))). with_soup i (counts_over all ns) os) codes
          ∙ counts-push all ns i
          ∙ ap (counts_over all) (sym (range-push q.first c.loop-i.i));
      cache = c.codes_of_soup.ensures.same ∙ cache;
    }

pub returns : goal.returns
returns g c =
    let end : c.loop-i.i ≡ c.args.question.now.count = omega (arith, c.loop-i-test.false, c.loop-i.auto.i-end) in
    c.loop-i.invariant.counted
    ∙ ap (λ k. counts_over (codes_of c.args.question.now) (range_with_len c.args.question.now.first k)) end
