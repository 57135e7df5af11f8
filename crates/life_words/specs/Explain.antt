-- The explanations of refusals: the rows of the table in `src/explain.rt`, each a name and its text.
use Rattle.std.specs.Prelude.{ℕ, Bool, List, [], bytes_eq, find, map, Option, option_map, unwrap_or}
use Rattle.std.specs.Borrow.{Bor}
use Rattle.std.specs.List.{list_any}
use Rattle.life_words.specs.declared.explain.TheConstants.{EXPLANATIONS}

-- a table: each row has a name and its text
abbrev pub Rows : Type 0
Rows = List (List ℕ × List ℕ)

-- the rows of a table in memory
abbrev pub rows_of : List (Bor (List ℕ) × Bor (List ℕ)) → Rows
rows_of = map (λ row. (row.0.now, row.1.now))

abbrev pub names_of : Rows → List (List ℕ)
names_of = map (λ row. row.0)

-- the text of the first row that has this name
abbrev pub text_in : Rows → List ℕ → Option (List ℕ)
text_in rows name = option_map (λ row. row.1) (find (λ row. bytes_eq row.0 name) rows)

-- the rows of the program's table
unfoldable pub explanations : Rows
explanations = map (λ row. (row.0.now, row.1.now)) EXPLANATIONS

-- the names of all refusals and faults: over HTTP, of pattern files, of codes, of the programs and of the gateway
unfoldable pub refusal_names : List (List ℕ)
refusal_names = names_of explanations

-- whether `life explain` knows this name: "full" is known, "Full" is not
unfoldable pub is_refusal : List ℕ → Bool
is_refusal name = list_any (λ known. bytes_eq known name) refusal_names

-- the explanation of a name, if there is one
unfoldable pub explanation_of : List ℕ → Option (List ℕ)
explanation_of name = text_in explanations name

-- the output of `life explain` for this name, which is empty for an unknown one
abbrev pub explanation_text : List ℕ → List ℕ
explanation_text name = unwrap_or (explanation_of name) []
