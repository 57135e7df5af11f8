use Rattle.std.proofs.Common.{◌≡◌, List, ◌++◌, ◌∷◌, [], length, drop, take, sym, ap, subst, ◌∙◌, arith}
use Rattle.std.proofs.lemmas.Bool.{false≢true}
use Rattle.std.proofs.lemmas.List.{take_at, length-append}
use Rattle.life_core.specs.declared.runs.Run.{Run}
use Rattle.life_core.specs.Runs.{AreLongest, runs_cells, run_cells}
use Rattle.life_core.specs.RunsState.{JoinsLast}
use Rattle.life_core.proofs.RunsLemmas.{longer, longer_cells, push_longest, longer_longest, longer_fits, joins_split}
use Rattle.life_core.proofs.runs.add_run.Given as given
use Rattle.life_core.proofs.runs.add_run.Goals as goal

pub lengthen_last-requires : goal.lengthen_last-requires
lengthen_last-requires g c =
    let run = c.args.run in
    let same = c.deref_mut.ensures.value in
    let joined : JoinsLast c.deref_mut.result.now run = subst (λ (rs : List Run). JoinsLast rs run)
    (c.deref.ensures.value ∙ sym same) (c.is_joined.ensures.0 c.if-is_joined.true) in
    record {
      some = record {
        some = let long = ap length joined.all ∙ length-append joined.front (joined.last ∷ []) in omega (arith, long);
        fits =
            λ front last is. longer_fits front last run (subst AreLongest (sym same ∙ is) c.requires.longest)
            (joins_split _ front last run is joined) c.requires.end;
      };
    }

-- the runs as they are left where the last became longer
left : (g : given.Over) (c : goal.After-runs-1 g) → (j : JoinsLast c.args.runs.now.items c.args.run)
    × (take c.args.runs.now.len (c.lengthen_last.new.runs
    ++ drop (length c.lengthen_last.new.runs) c.args.runs.now.items) ≡ j.front ++ longer j.last c.args.run.len ∷ [])
left g c =
    let v = c.args.runs.now in
    let joined : JoinsLast v.items c.args.run = subst (λ (rs : List Run). JoinsLast rs c.args.run) c.deref.ensures.value
    (c.is_joined.ensures.0 c.if-is_joined.true) in
    let made = c.lengthen_last.ensures joined.front joined.last (c.deref_mut.ensures.value ∙ joined.all) in
    let long = ap length made ∙ length-append joined.front (longer joined.last c.args.run.len ∷ []) in
    let was = ap length joined.all ∙ length-append joined.front (joined.last ∷ []) in (
      joined,
      take_at c.lengthen_last.new.runs (drop (length c.lengthen_last.new.runs) v.items) v.len
          (omega (arith, long, was, v.ok)) ∙ made,
    )

pub returns-then-is_joined-clause-cells : goal.returns-then-is_joined-clause-cells
returns-then-is_joined-clause-cells g c =
    let it = left g c in
    ap runs_cells it.1 ∙ longer_cells it.0.front it.0.last c.args.run it.0.joins
    ∙ ap (λ (rs : List Run). runs_cells rs ++ run_cells c.args.run) (sym it.0.all)

pub returns-then-is_joined-clause-longest : goal.returns-then-is_joined-clause-longest
returns-then-is_joined-clause-longest g c =
    let it = left g c in
    subst AreLongest (sym it.1) (longer_longest it.0.front it.0.last c.args.run.len
    (subst AreLongest it.0.all c.requires.longest))

pub returns-clause-longest : goal.returns-clause-longest
returns-clause-longest g c =
    subst AreLongest (sym c.in_ok-push.ensures.items)
    (push_longest c.args.runs.now.items c.args.run c.requires.longest c.requires.run
    (λ joined. false≢true (sym c.if-is_joined.false
    ∙ c.is_joined.ensures.1 (subst (λ (rs : List Run). JoinsLast rs c.args.run) (sym c.deref.ensures.value) joined))))
