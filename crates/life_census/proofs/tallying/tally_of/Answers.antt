use Rattle.std.proofs.Common.{◌≡◌, ℕ, ◌+◌, List, get_or, ◌≤◌, map, count_by, is_none, Option, Some, None, sym, ap}
use Rattle.std.proofs.Common.{subst, ◌∙◌, refl, arith}
use Rattle.std.specs.List.{filter_map}
use Rattle.std.proofs.lemmas.Result.{IfOk-from_err}
use Rattle.std.proofs.lemmas.List.{take_all}
use Rattle.std.proofs.lemmas.List.Elements.{All-weaker}
use Rattle.life_core.specs.Pattern.{Cells, IsWithin}
use Rattle.life_code.specs.Codes.{code_of}
use Rattle.life_census.specs.declared.tally_rows.Row.{Row}
use Rattle.life_census.specs.Rows.{row_seen}
use Rattle.life_census.specs.Counting.{occurrences_of}
use Rattle.life_census.specs.CountingState.{one_more}
use Rattle.life_census.proofs.CountingLaws.{counts_none}
use Rattle.life_census.proofs.CountingSteps.{with_code, without_code, resolved, unresolved}
use Rattle.life_census.proofs.tallying.tally_of.Goals as goal
use Rattle.life_census.proofs.tallying.tally_of.Goals.{in-Some+in_ok-count_code-in-Some, in-None}

pub loop-cluster-init : goal.loop-cluster-init
loop-cluster-init g c = record {
  survey = c.requires.survey;
  rows = ap (map row_seen) c.new-rows.ensures.items ∙ sym counts_none;
  unresolved = refl;
  bounded = rw c.new-rows.ensures.items (λ k d none. absurd (omega arith));
  few = omega arith;
}

pub offset_bounds-clusters-cluster-index : goal.offset_bounds-clusters-cluster-index
offset_bounds-clusters-cluster-index g c = omega (arith, c.loop-cluster-test.true)

pub bounds-clusters-cluster-index : goal.bounds-clusters-cluster-index
bounds-clusters-cluster-index g c = c.loop-cluster-test.true

pub shape_index-requires-clause-room : goal.shape_index-requires-clause-room
shape_index-requires-clause-room g c =
    subst (IsWithin 400000000) (sym c.cluster-item.is)
    (c.requires.room c.loop-cluster.cluster-index c.cluster-item.result c.loop-cluster-test.true)

pub shape_index-requires-clause-survey : goal.shape_index-requires-clause-survey
shape_index-requires-clause-survey g c = c.loop-cluster.invariant.survey

pub returns-in_err-i : goal.returns-in_err-i
returns-in_err-i g c = IfOk-from_err c.from_residual.result _ c.from_residual.ensures.0

pub index-requires : goal.index-requires
index-requires g c = omega (arith, c.in_ok-i.ensures.code.0, c.shape_index.new.shapes.ok)

pub count_code-requires : goal.count_code-requires
count_code-requires g c k d low =
    let few : (get_or c.loop-cluster.rows.items k d).count ≤ c.loop-cluster.cluster-index =
    c.loop-cluster.invariant.bounded k d low in
    omega arith

pub returns-in_err-count_code-in-Some : goal.returns-in_err-count_code-in-Some
returns-in_err-count_code-in-Some g c =
    IfOk-from_err c.from_residual-in_err-count_code-in-Some.result _ c.from_residual-in_err-count_code-in-Some.ensures.0

pub overflow_add-unresolved : goal.overflow_add-unresolved
overflow_add-unresolved g c = record { fits = omega arith }

pub loop-cluster-smaller : goal.loop-cluster-smaller
loop-cluster-smaller g c = omega (arith, c.loop-cluster-test.true)

pub loop-cluster-preserved : goal.loop-cluster-preserved
loop-cluster-preserved g c =
    let code : Cells → Option (List ℕ) = λ P. code_of c.args.search.now.rule P c.args.search.now.limit in
    let before = c.loop-cluster.invariant in
    let i = c.loop-cluster.cluster-index in
    let low = c.loop-cluster-test.true in
    let item = c.cluster-item.result in
    let answer = ap code (sym c.cluster-item.is) ∙ sym (c.in_ok-i.ensures.code.1 c.index.result.now)
    ∙ ap (λ one. one.code) (sym c.index.ensures) in
    elim c.match-index.branch [
      | in-Some+in_ok-count_code-in-Some w ↦
          let text : List ℕ = w.in-Some.code in
          let named : code (get_or c.args.clusters.now i item) ≡ Some text = answer ∙ w.in-Some.is in
          record {
            survey = c.shape_index.ensures.survey;
            rows =
                rw w.rows-is (w.in_ok-count_code-in-Some.ensures.counted ∙ ap (λ es. one_more es text) before.rows
                ∙ sym (with_code code c.args.clusters.now i item low text named));
            unresolved =
                rw w.unresolved-is (before.unresolved ∙ sym (resolved code c.args.clusters.now i item low text named));
            bounded = rw w.rows-is (w.in_ok-count_code-in-Some.ensures.bounded i before.bounded);
            few = omega (arith, before.few, w.unresolved-is);
          }
      | in-None w ↦
          let nameless : code (get_or c.args.clusters.now i item) ≡ None = answer ∙ w.in-None.is in
          record {
            survey = c.shape_index.ensures.survey;
            rows = rw w.rows-is (before.rows ∙ sym (without_code code c.args.clusters.now i item low nameless));
            unresolved =
                w.unresolved-is ∙ ap (λ n. n + 1) before.unresolved
                ∙ sym (unresolved code c.args.clusters.now i item low nameless);
            bounded =
                rw w.rows-is (All-weaker (λ (r : Row g.row.A.Denot). r.count ≤ i)
                (λ (r : Row g.row.A.Denot). r.count ≤ i + 1) (λ (r : Row g.row.A.Denot) h. let k : r.count ≤ i = h in
                omega arith) c.loop-cluster.rows.items before.bounded);
            few = omega (arith, before.few, w.unresolved-is);
          }
    ]

pub returns : goal.returns
returns g c =
    let code : Cells → Option (List ℕ) = λ P. code_of c.args.search.now.rule P c.args.search.now.limit in
    let whole = take_all c.loop-cluster.cluster-index c.args.clusters.now c.loop-cluster-test.false in
    record {
      rows = c.of.ensures ∙ c.loop-cluster.invariant.rows ∙ ap (λ Ps. occurrences_of (filter_map code Ps)) whole;
      unresolved = c.loop-cluster.invariant.unresolved ∙ ap (λ Ps. count_by (λ P. is_none (code P)) Ps) whole;
      total = refl;
    }
