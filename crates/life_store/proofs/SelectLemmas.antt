-- Which rows the terms of each query pick.
use Rattle.std.proofs.Common.{◌≡◌, ℕ, pos, List, [], ◌∷◌, Bool, true, false, ◌&&◌, ◌==◌, Some, nat_lt, bytes_eq, refl}
use Rattle.std.proofs.Common.{ap, ap₂, ◌∙◌, arith}
use Rattle.std.proofs.lemmas.Map.Text.{is_eq-slice_cmp}
use Rattle.std.specs.Ordering.{is_eq, is_gt}
use Rattle.sqlite_value.specs.declared.value.Value.TheVariants.{Int, Text}
use Rattle.sqlite_value.specs.declared.keys.Collation.TheVariants.{Binary}
use Rattle.sqlite_value.specs.Order.{Row}
use Rattle.sqlite_value.proofs.OrderLemmas.{value_cmp-Int, value_cmp-Text}
use Rattle.sqlite_sql.specs.declared.ops.BinaryOp.TheVariants.{Compare}
use Rattle.sqlite_sql.specs.declared.ops.CompareOp.TheVariants.{Eq, Gt}
use Rattle.sqlite_sql.specs.Ops.{binary, is_true, from_truth}
use Rattle.life_store.specs.declared.kept.Deposit.{Deposit}
use Rattle.life_store.specs.Kept.{Tallied, is_of, is_census_of}
use Rattle.life_store.proofs.Selecting.{is_picked}
use Rattle.life_store.proofs.StatementTexts.{has_token, has_id, is_after, of_census}
use Rattle.life_store.specs.Stored.{deposit_cells, census_cells, count_cells}

pub truth_is : (b : Bool) → is_true (from_truth (Some b)) ≡ b
truth_is true = refl
truth_is false = refl

pub same_text : (s t : List ℕ) → is_true (binary (Compare Eq Binary) (Text s) (Text t)) ≡ bytes_eq s t
unfolding binary
same_text s t = truth_is _ ∙ ap is_eq (value_cmp-Text s t) ∙ is_eq-slice_cmp s t

pub same_id : (a b : ℕ) → is_true (binary (Compare Eq Binary) (Int (pos a)) (Int (pos b))) ≡ (a == b)
unfolding binary
same_id a b = truth_is _ ∙ ap is_eq (value_cmp-Int (pos a) (pos b)) ∙ grind arith

above_id : (a b : ℕ) → is_true (binary (Compare Gt Binary) (Int (pos a)) (Int (pos b))) ≡ nat_lt b a
unfolding binary
above_id a b = truth_is _ ∙ ap is_gt (value_cmp-Int (pos a) (pos b)) ∙ grind arith

and_true : (a b : Bool) → (a && (b && true)) ≡ (a && b)
and_true true true = refl
and_true true false = refl
and_true false b = refl

pub one_true : (a : Bool) → (a && true) ≡ a
one_true true = refl
one_true false = refl

pub picks_deposit : (member token : List ℕ) (id : ℕ) (d : Deposit)
    → is_picked has_token (Text member ∷ Text token ∷ []) (Int (pos id) ∷ deposit_cells d) ≡ is_of member token d
picks_deposit member token id d =
    ap₂ (λ a b. a && (b && true)) (same_text d.member member) (same_text d.token token) ∙ and_true _ _

pub picks_census : (member token : List ℕ) (id : ℕ) (t : Tallied) → is_picked has_token (Text member ∷ Text token ∷ [])
    (Int (pos id) ∷ census_cells t) ≡ is_census_of member token t.census
picks_census member token id t =
    ap₂ (λ a b. a && (b && true)) (same_text t.census.member member) (same_text t.census.token token) ∙ and_true _ _

pub picks_id : {X : Type 0} (f : X → Row) (wanted id : ℕ) (x : X)
    → is_picked has_id (Int (pos wanted) ∷ []) (Int (pos id) ∷ f x) ≡ (id == wanted)
picks_id f wanted id x = one_true _ ∙ same_id id wanted

pub picks_after : {X : Type 0} (f : X → Row) (past id : ℕ) (x : X)
    → is_picked is_after (Int (pos past) ∷ []) (Int (pos id) ∷ f x) ≡ nat_lt past id
picks_after f past id x = one_true _ ∙ above_id id past

pub picks_rows : (census id : ℕ) (r : ℕ × (List ℕ × ℕ))
    → is_picked of_census (Int (pos census) ∷ []) (Int (pos id) ∷ count_cells r) ≡ (r.0 == census)
picks_rows census id r = one_true _ ∙ same_id r.0 census
