use Rattle.std.proofs.Common.{◌≡◌, ℕ, List, IfOk, map, ap, subst}
use Rattle.life_words.specs.Explain.{names_of, refusal_names}
use Rattle.life_words.proofs.explain.refusal_names.Goals as goal

pub returns : goal.returns
unfolding refusal_names
returns c =
    subst (λ (names : List (List ℕ)). IfOk c.names_in.result (λ v. map (λ name. name.now) v.items ≡ names))
    (ap names_of c.table.ensures) c.names_in.ensures
