use Rattle.std.proofs.Common.{◌≡◌, ℕ, ◌∷◌, [], ◌<◌, List, length, map, Some, None, sym, ap, ◌∙◌, refl, arith}
use Rattle.life_census.specs.Rows.{row_seen}
use Rattle.life_census.specs.CountingState.{one_more}
use Rattle.life_census.proofs.CountingLaws.{counts_none}
use Rattle.life_census.proofs.CountingSteps.{with_code, without_code, resolved, unresolved}
use Rattle.life_census.proofs.tallying.tally_of_code.Goals as goal
use Rattle.life_census.proofs.tallying.tally_of_code.Goals.{in-Some+in_ok-count_code-in-Some, in-None}

pub returns : goal.returns
returns g c f P same =
    let low : 0 < length (P ∷ []) = omega arith in
    let none = ap (map row_seen) c.new-rows.ensures.items ∙ sym counts_none in
    elim c.match-code.branch [
      | in-Some+in_ok-count_code-in-Some w ↦
          let text : List ℕ = w.in-Some.text in
          let named : f P ≡ Some text = same ∙ w.in-Some.is in
          record {
            rows =
                c.of.ensures ∙ rw w.rows-is (w.in_ok-count_code-in-Some.ensures.counted
                ∙ ap (λ es. one_more es text) none ∙ sym (with_code f (P ∷ []) 0 P low text named));
            unresolved = w.unresolved-is ∙ sym (resolved f (P ∷ []) 0 P low text named);
            total = refl;
          }
      | in-None w ↦
          let nameless : f P ≡ None = same ∙ w.in-None.is in
          record {
            rows = c.of.ensures ∙ rw w.rows-is (none ∙ sym (without_code f (P ∷ []) 0 P low nameless));
            unresolved = w.unresolved-is ∙ sym (unresolved f (P ∷ []) 0 P low nameless);
            total = refl;
          }
    ]
