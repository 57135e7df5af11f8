use Rattle.std.proofs.Common.{ℕ, ◌∷◌, [], ◌++◌, List, Option, map, take, sym, ap, ◌∙◌}
use Rattle.std.proofs.lemmas.List.{take_all}
use Rattle.life_core.specs.Pattern.{Cells}
use Rattle.life_code.specs.Codes.{code_of}
use Rattle.life_census.proofs.CodeCacheLaws.{one_more_mapped}
use Rattle.life_census.proofs.code_cache.named.Goals as goal

pub loop-cluster-preserved : goal.loop-cluster-preserved
loop-cluster-preserved g c =
    let code : Cells → Option (List ℕ) = λ P. code_of c.args.search.now.rule P c.args.search.now.limit in
    let Ps = c.args.clusters.now in
    let i = c.loop-cluster.cluster-index in
    let item = c.cluster-item.result in
    let answer = ap (λ one. one.code) c.index.ensures ∙ c.in_ok-i.ensures.code.1 c.index.result.now
    ∙ ap code c.cluster-item.is in
    record {
      survey = c.shape_index.ensures.survey;
      codes =
          c.in_ok-put_code.ensures
          ∙ ap (λ (os : List (Option (List ℕ))). os ++ c.index.result.now.code ∷ []) c.loop-cluster.invariant.codes
          ∙ ap (λ (o : Option (List ℕ)). map code (take i Ps) ++ o ∷ []) answer
          ∙ sym (one_more_mapped code Ps i item c.loop-cluster-test.true);
    }

pub returns-clause-codes : goal.returns-clause-codes
returns-clause-codes g c =
    let code : Cells → Option (List ℕ) = λ P. code_of c.args.search.now.rule P c.args.search.now.limit in
    c.loop-cluster.invariant.codes
    ∙ ap (map code) (take_all c.loop-cluster.cluster-index c.args.clusters.now c.loop-cluster-test.false)
