use Rattle.std.proofs.Common.{ap, ◌∙◌, is_some}
use Rattle.life_words.specs.Explain.{Rows, text_in, explanation_of}
use Rattle.life_words.proofs.ExplainLemmas.{is_some-now, is_some-explanation_of}
use Rattle.life_words.proofs.explain.explanation.Goals as goal

pub returns-clause-names : goal.returns-clause-names
unfolding explanation_of
returns-clause-names c =
    is_some-now c.text_in.result ∙ ap is_some
    (c.text_in.ensures ∙ ap (λ (rows : Rows). text_in rows c.args.name.now) c.table.ensures)
    ∙ is_some-explanation_of c.args.name.now

pub returns-clause-text : goal.returns-clause-text
unfolding explanation_of
returns-clause-text c = c.text_in.ensures ∙ ap (λ (rows : Rows). text_in rows c.args.name.now) c.table.ensures
