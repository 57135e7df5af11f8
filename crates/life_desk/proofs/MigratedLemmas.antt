-- An archive that was migrated when it was opened: its flags are those that the archive computes.
use Rattle.std.proofs.Common.{◌≡◌, ◌↔◌, Bool, true, false, List, [], ◌∷◌, Option, Some, IsTrue, map, refl, sym, ap, ap₂}
use Rattle.std.proofs.Common.{subst, ◌∙◌}
use Rattle.std.specs.List.{AllByRecursion}
use Rattle.life_core.specs.Generations.{generation_of}
use Rattle.life_census.specs.Rows.{TallyCounts}
use Rattle.life_census.specs.Steady.{is_steady}
use Rattle.life_census.specs.CensusLaws.{SteadyIsDecided}
use Rattle.life_store.specs.declared.kept.Deposit.{Deposit}
use Rattle.life_store.specs.declared.kept.Census.{Census}
use Rattle.life_store.specs.Migration.{IsFlagged, unflagged}
use Rattle.life_store.specs.Kept.{Kept, Tallied}
use Rattle.life_store.specs.Tables.{Holds}
use Rattle.life_desk.specs.Archive.{tally_at, steady_at, steady_for}
use Rattle.life_desk.specs.Represents.{tallied, MigratedIsTheSame}

same_flag : {P : Type 0} (a b : Bool) → IsTrue a ↔ P → IsTrue b ↔ P → a ≡ b
same_flag true true one two = refl
same_flag false false one two = refl
same_flag true false one two = let no : IsTrue false = two.1 (one.0 refl) in absurd cc
same_flag false true one two = let no : IsTrue false = one.1 (two.0 refl) in absurd cc

-- the flag of a census of a deposit that is there
flag_is : SteadyIsDecided → (ds : List Deposit) (c : Census) (t : Tallied) → t.census ≡ c → IsFlagged ds t
    → t.steady ≡ steady_at ds c
flag_is decided ds c t same flagged =
    let d : Deposit = flagged.deposit in
    let field = generation_of d.content.rule d.content.cells t.census.generation in
    let anew : t.steady ≡ is_steady d.content.rule field t.census.limit = same_flag t.steady
    (is_steady d.content.rule field t.census.limit) flagged.flag (decided d.content.rule field t.census.limit) in
    let at : steady_at ds t.census ≡ steady_for t.census (Some d) =
    ap (λ (o : Option Deposit). steady_for t.census o) flagged.is in
    anew ∙ sym at ∙ ap (λ (x : Census). steady_at ds x) same

one_is : (t : Tallied) (c : Census) (n : TallyCounts) (b : Bool) → t.census ≡ c → t.tally ≡ n
    → t.steady ≡ b → t ≡ record { census = c; tally = n; steady = b }
one_is t c n b census tally steady =
    ap₂ (λ (x : Census × TallyCounts) (y : Bool). let it : Tallied = record {
      census = x.0;
      tally = x.1;
      steady = y;
    } in it) (ap₂ (λ (x : Census) (y : TallyCounts). (x, y)) census tally) steady

same_tallied : SteadyIsDecided → (ds : List Deposit) (cs : List Census) (ts : List Tallied) → map unflagged ts
    ≡ map unflagged (map (tallied ds) cs) → AllByRecursion (IsFlagged ds) ts → ts ≡ map (tallied ds) cs
same_tallied decided ds [] [] same flagged = refl
same_tallied decided ds [] (t ∷ ts) same flagged = absurd cc
same_tallied decided ds (c ∷ cs) [] same flagged = absurd cc
same_tallied decided ds (c ∷ cs) (t ∷ ts) same flagged =
    let first : unflagged t ≡ (c, tally_at ds c) = cc in
    let rest : map unflagged ts ≡ map unflagged (map (tallied ds) cs) = cc in
    let census : t.census ≡ c = ap (λ (x : Census × TallyCounts). x.0) first in
    let tally : t.tally ≡ tally_at ds c = ap (λ (x : Census × TallyCounts). x.1) first in
    ap₂ (λ (x : Tallied) (xs : List Tallied). x ∷ xs)
    (one_is t c (tally_at ds c) (steady_at ds c) census tally (flag_is decided ds c t census flagged.0))
    (same_tallied decided ds cs ts rest flagged.1)

-- so what was migrated is the archive
pub migrated_is : SteadyIsDecided → MigratedIsTheSame
migrated_is decided t capacity A fits each it =
    let same : it.censuses ≡ map (tallied A.deposits) A.censuses =
    same_tallied decided A.deposits A.censuses it.censuses it.same it.flagged in
    record {
      capacity = fits;
      each = each;
      holds =
          subst (λ (ts : List Tallied). let k : Kept = record { deposits = A.deposits; censuses = ts } in Holds t k)
          same it.holds;
    }
