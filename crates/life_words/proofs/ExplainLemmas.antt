-- Which names the table of explanations has.
use Rattle.std.proofs.Common.{◌≡◌, ℕ, Bool, true, false, List, [], ◌∷◌, Option, None, Some, refl}
use Rattle.std.specs.Prelude.{is_some, option_map, bytes_eq}
use Rattle.std.specs.List.{list_any}
use Rattle.std.specs.Borrow.{Bor}
use Rattle.life_words.specs.Explain.{Rows, refusal_names, is_refusal, names_of, text_in, explanations, explanation_of}

-- what holds of a table whose first row has the name, or has not
by_first : (row : List ℕ × List ℕ) (rows : Rows) (name : List ℕ) (b : Bool) → bytes_eq row.0 name ≡ b
    → is_some (text_in rows name) ≡ list_any (λ known. bytes_eq known name) (names_of rows)
    → is_some (text_in (row ∷ rows) name) ≡ list_any (λ known. bytes_eq known name) (names_of (row ∷ rows))
by_first row rows name true is below = rw is refl
by_first row rows name false is below = rw is below

-- a table has a text for a name exactly if one of its rows has the name
is_some-text_in : (rows : Rows) (name : List ℕ)
    → is_some (text_in rows name) ≡ list_any (λ known. bytes_eq known name) (names_of rows)
is_some-text_in [] name = refl
is_some-text_in (row ∷ rows) name = by_first row rows name (bytes_eq row.0 name) refl (is_some-text_in rows name)

-- whether there is a text does not depend on where it is
pub is_some-now : (text : Option (Bor (List ℕ))) → is_some text ≡ is_some (option_map (λ t. t.now) text)
is_some-now None = refl
is_some-now (Some text) = refl

-- there is an explanation exactly of the names that are stated
pub is_some-explanation_of : (name : List ℕ) → is_some (explanation_of name) ≡ is_refusal name
unfolding explanation_of is_refusal refusal_names
is_some-explanation_of name = is_some-text_in explanations name
