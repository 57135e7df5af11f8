-- What reading a stored deposit or a stored tally says about the reply.
use Rattle.std.proofs.Common.{◌≡◌, ℕ, List, Bool, true, false, if◌then◌else◌, Option, None, Some, option_map, Result}
use Rattle.std.proofs.Common.{Ok, Err, IfOk, refl, ◌∙◌, ap, subst}
use Rattle.std.specs.Result.{MatchResult}
use Rattle.std.specs.Str.{bytes_eq}
use Rattle.life_rle.specs.Writer.{text}
use Rattle.life_census.specs.CensusTable.{csv_text}
use Rattle.life_store.specs.declared.kept.Deposit.{Deposit}
use Rattle.life_store.specs.declared.kept.Census.{Census}
use Rattle.life_store.specs.Kept.{file_of_deposit}
use Rattle.life_store.specs.Tables.{ArchiveView}
use Rattle.life_desk.specs.declared.refusal.Refusal.TheVariants as refusals
use Rattle.life_desk.specs.declared.request.Reply.{Reply}
use Rattle.life_desk.specs.declared.request.Reply.TheVariants as replies
use Rattle.life_desk.specs.declared.lookups.CensusWithTally.{CensusWithTally}
use Rattle.life_desk.specs.Archive.{Archive, tally_at, steady_at}
use Rattle.life_desk.specs.Represents.{Represents}
use Rattle.life_desk.specs.Submission.{Repeats, Refuses}
use Rattle.life_desk.specs.Replies.{is_same_deposit, deposit_by_token, deposit_reply, with_deposit, csv_reply}

-- ---- deposits

-- the reply and the archive, by what is stored under the token
abbrev pub Leaves : {S : Type 0} → Archive → ArchiveView S → Deposit → Option (ℕ × Deposit) → Reply → Type 0
Leaves A new d o r =
    (r ≡ deposit_reply A (deposit_by_token A d o)) × Represents new (with_deposit A (deposit_by_token A d o))

again_if : {S : Type 0} (A : Archive) (new : ArchiveView S) (id : ℕ) (same : Bool) (r : Reply)
    → r ≡ (if same then replies.Deposited id else replies.Refused refusals.TokenReused) → Represents new A
    → (r ≡ deposit_reply A (if same then Repeats id else Refuses refusals.TokenReused))
    × Represents new (with_deposit A (if same then Repeats id else Refuses refusals.TokenReused))
again_if A new id true r is m = (is, m)
again_if A new id false r is m = (is, m)

-- its token is used: its text is compared with the one that is stored
pub told_again : {E S : Type 0} (A : Archive) (new : ArchiveView S)
    (d : Deposit) (o : Option (ℕ × Deposit)) (id : ℕ) (file : List ℕ) (r : Result Reply E)
    → ◌≡◌ {A = Option (ℕ × List ℕ)} (Some (id, file)) (option_map file_of_deposit o)
    → IfOk r (λ x. x ≡ (if bytes_eq file
    (text d.content) then replies.Deposited id else replies.Refused refusals.TokenReused))
    → Represents new A → MatchResult r (λ x. Leaves A new d o x) (λ _. Represents new A)
told_again A new d None id file r is told m = absurd cc
told_again A new d (Some stored) id file (Ok x) is told m =
    let same : ◌≡◌ {A = ℕ × List ℕ} (id, file) (file_of_deposit stored) = cc in
    again_if A new stored.0 (is_same_deposit stored.1 d) x (subst (λ (p : ℕ × List ℕ). x
    ≡ (if bytes_eq p.1 (text d.content) then replies.Deposited p.0 else replies.Refused refusals.TokenReused)) same
    told) m
told_again A new d (Some stored) id file (Err e) is told m = m

-- it is new
pub told_new : {E S : Type 0} (A : Archive) (new : ArchiveView S) (d : Deposit) (o : Option (ℕ × Deposit))
    (r : Result Reply E) → None ≡ o
    → MatchResult r (λ x. Leaves A new d None x) (λ _. Represents new A)
    → MatchResult r (λ x. Leaves A new d o x) (λ _. Represents new A)
told_new A new d o r is done = subst (λ o. MatchResult r (λ x. Leaves A new d o x) (λ _. Represents new A)) is done

pub no_file : (o : Option (ℕ × Deposit)) → ◌≡◌ {A = Option (ℕ × List ℕ)} None (option_map file_of_deposit o) → None ≡ o
no_file None is = refl
no_file (Some stored) is = absurd cc

-- ---- tallies

abbrev Found : Type 0
Found = Option CensusWithTally

-- the census as it is counted
abbrev pub counted_at : List Deposit → Census → CensusWithTally
counted_at ds c = record { census = c; tally = tally_at ds c; steady = steady_at ds c }

tally_told : (ds : List Deposit) (o : Option Census) (counted : CensusWithTally) (found : Found)
    → found ≡ Some counted → found ≡ option_map (counted_at ds) o
    → replies.Csv (csv_text counted.tally) ≡ csv_reply ds o
tally_told ds None counted found is tells = absurd cc
tally_told ds (Some x) counted found is tells =
    let same : counted ≡ counted_at ds x = cc in
    ap (λ (k : CensusWithTally). replies.Csv (csv_text k.tally)) same

-- the reply with the tally as CSV
pub csv_told : {E M : Type 0} → (ds : List Deposit) (o : Option Census) (found : Found) (counted : CensusWithTally)
    (r : Result Reply E)
    → found ≡ Some counted → found ≡ option_map (counted_at ds) o
    → IfOk r (λ reply. reply ≡ replies.Csv (csv_text counted.tally)) → M
    → MatchResult r (λ reply. (reply ≡ csv_reply ds o) × M) (λ _. M)
csv_told ds o found counted (Ok reply) is tells told m = (told ∙ tally_told ds o counted found is tells, m)
csv_told ds o found counted (Err e) is tells told m = m
