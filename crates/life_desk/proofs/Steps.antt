-- What each step of a run preserves, and the point in a run at which a request was answered.
use Rattle.std.proofs.Common.{◌≡◌, ◌≢◌, inl, inr, ℕ, zero, suc, List, [], ◌∷◌, Option, None, Some, IsSome, Result, Ok}
use Rattle.std.proofs.Common.{Err, refl, sym, subst}
use Rattle.std.specs.List.{slice_get}
use Rattle.std.proofs.lemmas.List.{append-nil}
use Rattle.life_rle.specs.declared.rle_fault.RleFault.{RleFault}
use Rattle.life_rle.specs.File as files
use Rattle.life_rle.specs.Record.{Contents}
use Rattle.life_rle.proofs.ReadAgain.{file_read_again}
use Rattle.life_store.specs.declared.kept.Deposit.{Deposit}
use Rattle.life_store.specs.declared.kept.Census.{Census}
use Rattle.life_store.specs.Kept.{numbered, deposit_by, census_by}
use Rattle.life_desk.specs.declared.refusal.Refusal.{Refusal}
use Rattle.life_desk.specs.declared.refusal.Refusal.TheVariants as refusals
use Rattle.life_desk.specs.declared.request.Request.{Request}
use Rattle.life_desk.specs.declared.request.Request.TheVariants as requests
use Rattle.life_desk.specs.declared.request.Reply.{Reply}
use Rattle.life_desk.specs.declared.request.Reply.TheVariants as replies
use Rattle.life_desk.specs.Archive.{Archive}
use Rattle.life_desk.specs.Validation.{validated}
use Rattle.life_desk.specs.Submission.{Verdict, Refuses, Repeats, Adds}
use Rattle.life_desk.specs.Replies.{has_room, is_same_deposit, deposit_of_file, deposit_verdict, with_deposit}
use Rattle.life_desk.specs.Replies.{is_same_census, census_of_deposit, census_verdict, with_census, IsReply, after}
use Rattle.life_desk.specs.Replies.{census_asked, after_by}
use Rattle.life_desk.specs.Represents.{EachHasDeposit, IsReadAgain, EachIsReadAgain, IsRepresentable}
use Rattle.life_desk.specs.Run.{RequestStep, answers, unavailable, RequestRun, IsAnswered, IsLater}
use Rattle.life_desk.proofs.Representing.{each_longer}
use Rattle.life_desk.proofs.LaterArchives.{later_same, later_later}
use Rattle.life_desk.proofs.Submissions.{after_longer, all_after}
use Rattle.life_desk.specs.DeskLaws.{NothingIsLost}

-- ---- nothing is lost

deposit_later : (A : Archive) (v : Verdict Deposit) → IsLater A (with_deposit A v)
deposit_later A v =
    let longer = after_longer A.deposits v in
    record {
      new_deposits = longer.0;
      deposits = longer.1;
      new_censuses = [];
      censuses = sym (append-nil A.censuses);
      capacity = refl;
    }

census_later : (A : Archive) (v : Verdict Census) → IsLater A (with_census A v)
census_later A v =
    let longer = after_longer A.censuses v in
    record {
      new_deposits = [];
      deposits = sym (append-nil A.deposits);
      new_censuses = longer.0;
      censuses = longer.1;
      capacity = refl;
    }

-- what holds of an archive after each request, by what holds of it before, and of it with one submission
after_case : (P : Archive → Type 0) (A : Archive) (w : Result Request Refusal) → P A
    → ((member token file : List ℕ) → P (with_deposit A (deposit_verdict A member token file)))
    → ((c : Census) → P (with_census A (census_verdict A c))) → P (after_by A w)
after_case P A (Err refusal) none deposit census = none
after_case P A (Ok (requests.Deposit member token file)) none deposit census = deposit member token file
after_case P A (Ok (requests.Census member token id n limit)) none deposit census =
    census (census_asked member token id n limit)
after_case P A (Ok _) none deposit census = none

after_later : (A : Archive) (w : Result Request Refusal) → IsLater A (after_by A w)
after_later A w =
    after_case (IsLater A) A w (later_same A)
    (λ member token file. deposit_later A (deposit_verdict A member token file))
    (λ c. census_later A (census_verdict A c))

pub step_later : (A : Archive) (q : Request) (r : Reply) (B : Archive) → RequestStep A q r B → IsLater A B
step_later A q r B (answers s is) = after_later A (validated q)
step_later A q r B (unavailable is) = later_same A

pub run_later : (A B : Archive) (qs : List Request) (rs : List Reply) → RequestRun A qs rs B → IsLater A B
run_later A B [] [] run = subst (λ X. IsLater A X) (sym run) (later_same A)
run_later A B (q ∷ qs) (r ∷ rs) run =
    later_later A run.0 B (step_later A q r run.0 run.1) (run_later run.0 B qs rs run.2)
run_later A B [] (r ∷ rs) run = absurd run
run_later A B (q ∷ qs) [] run = absurd run

pub nothing_is_lost : NothingIsLost
nothing_is_lost A B qs rs run = run_later A B qs rs run

-- ---- an archive that tables can represent stays one

deposit_each : (A : Archive) (v : Verdict Deposit) → EachHasDeposit A.deposits A.censuses
    → EachHasDeposit (with_deposit A v).deposits A.censuses
deposit_each A (Refuses refusal) each = each
deposit_each A (Repeats id) each = each
deposit_each A (Adds d) each = each_longer A.deposits d A.censuses each

deposit_again : (A : Archive) (member token file : List ℕ) (read : Result Contents RleFault) → files.file file ≡ read
    → EachIsReadAgain A.deposits → EachIsReadAgain (with_deposit A (deposit_of_file A member token read)).deposits
deposit_again A member token file (Err fault) is again = again
deposit_again A member token file (Ok it) is again =
    let d : Deposit = record { member = member; token = token; content = it } in
    all_after (λ (d : Deposit). IsReadAgain d.content) is_same_deposit (has_room A A.deposits) A.deposits d
    (deposit_by member token A.deposits) again (file_read_again file it is)

census_each : (A : Archive) (c : Census) (o : Option Deposit)
    → numbered A.deposits c.deposit ≡ o → EachHasDeposit A.deposits A.censuses
    → EachHasDeposit A.deposits (with_census A (census_of_deposit A c o)).censuses
census_each A c None is each = each
census_each A c (Some d) is each =
    all_after (λ (c : Census). IsSome (numbered A.deposits c.deposit)) is_same_census (has_room A A.censuses)
    A.censuses c (census_by c.member c.token A.censuses) each (subst (λ o. IsSome o) (sym is) refl)

pub after_again : (A : Archive) (w : Result Request Refusal) → EachIsReadAgain A.deposits
    → EachIsReadAgain (after_by A w).deposits
after_again A w again =
    after_case (λ (B : Archive). EachIsReadAgain B.deposits) A w again
    (λ member token file. deposit_again A member token file (files.file file) refl again) (λ c. again)

pub after_each : (A : Archive) (w : Result Request Refusal) → EachHasDeposit A.deposits A.censuses
    → EachHasDeposit (after_by A w).deposits (after_by A w).censuses
after_each A w each =
    after_case (λ (B : Archive). EachHasDeposit B.deposits B.censuses) A w each
    (λ member token file. deposit_each A (deposit_verdict A member token file) each)
    (λ c. census_each A c (numbered A.deposits c.deposit) refl each)

pub step_each : (A : Archive) (q : Request) (r : Reply) (B : Archive) → RequestStep A q r B
    → EachHasDeposit A.deposits A.censuses → EachHasDeposit B.deposits B.censuses
step_each A q r B (answers s is) each = after_each A (validated q) each
step_each A q r B (unavailable is) each = each

step_representable : (A : Archive) (q : Request) (r : Reply) (B : Archive) → RequestStep A q r B
    → IsRepresentable A → IsRepresentable B
step_representable A q r B (answers s is) can =
    record { again = after_again A (validated q) can.again; each = after_each A (validated q) can.each }
step_representable A q r B (unavailable is) can = can

-- the deposit of a census that is kept
get_each : (ds : List Deposit) (cs : List Census) (i : ℕ) (c : Census) → EachHasDeposit ds cs
    → slice_get cs i ≡ Some c → IsSome (numbered ds c.deposit)
get_each ds [] i c each is = let bad : None ≡ Some c = is in absurd (cc)
get_each ds (x ∷ cs) zero c each is =
    let same : x ≡ c = cc in subst (λ (y : Census). IsSome (numbered ds y.deposit)) same each.0
get_each ds (x ∷ cs) (suc i) c each is = get_each ds cs i c each.1 is

pub census_has : (ds : List Deposit) (cs : List Census) (n : ℕ) (c : Census) → EachHasDeposit ds cs
    → numbered cs n ≡ Some c → IsSome (numbered ds c.deposit)
census_has ds cs zero c each is = let bad : None ≡ Some c = is in absurd (cc)
census_has ds cs (suc i) c each is = get_each ds cs i c each is

-- the deposit of a number
get_again : (ds : List Deposit) (i : ℕ) (d : Deposit) → EachIsReadAgain ds → slice_get ds i ≡ Some d
    → IsReadAgain d.content
get_again [] i d again is = let bad : None ≡ Some d = is in absurd (cc)
get_again (x ∷ ds) zero d again is =
    let same : x ≡ d = cc in subst (λ (y : Deposit). IsReadAgain y.content) same again.0
get_again (x ∷ ds) (suc i) d again is = get_again ds i d again.1 is

pub numbered_again : (ds : List Deposit) (n : ℕ) (d : Deposit) → EachIsReadAgain ds → numbered ds n ≡ Some d
    → IsReadAgain d.content
numbered_again ds zero d again is = let bad : None ≡ Some d = is in absurd (cc)
numbered_again ds (suc i) d again is = get_again ds i d again is

-- ---- the moment at which a request was answered

pub record Moment (A : Archive) (q : Request) (r : Reply) (B : Archive) : Type 0 where
  pub before : Archive
  pub behind : Archive
  pub earlier : IsLater A before
  pub representable : IsRepresentable before
  pub step : RequestStep before q r behind
  pub later : IsLater behind B

here : (A : Archive) (p q : Request) (s r : Reply) (mid : Archive) → p ≡ q → s ≡ r → RequestStep A p s mid
    → RequestStep A q r mid
here A p q s r mid asked given step =
    subst (λ x. RequestStep A q x mid) given (subst (λ x. RequestStep A x s mid) asked step)

pub moment : (A B : Archive) (qs : List Request) (rs : List Reply) (q : Request) (r : Reply)
    → IsRepresentable A → RequestRun A qs rs B → IsAnswered qs rs q r → Moment A q r B
moment A B (p ∷ qs) (s ∷ rs) q r can run (inl same) = record {
  before = A;
  behind = run.0;
  earlier = later_same A;
  representable = can;
  step = here A p q s r run.0 same.0 same.1 run.1;
  later = run_later run.0 B qs rs run.2;
}
moment A B (p ∷ qs) (s ∷ rs) q r can run (inr more) =
    let m = moment run.0 B qs rs q r (step_representable A p s run.0 run.1 can) run.2 more in
    record {
      before = m.before;
      behind = m.behind;
      earlier = later_later A run.0 m.before (step_later A p s run.0 run.1) m.earlier;
      representable = m.representable;
      step = m.step;
      later = m.later;
    }
moment A B [] rs q r can run answered = absurd answered
moment A B (p ∷ qs) [] q r can run answered = absurd answered

-- a reply that is not unavailable is the reply, and the archive is the one after it
pub step_answers : (A : Archive) (q : Request) (r : Reply) (B : Archive) → RequestStep A q r B
    → r ≢ replies.Refused refusals.Unavailable → IsReply A q r × (B ≡ after A q)
step_answers A q r B (answers s is) other = (is, refl)
step_answers A q r B (unavailable is) other = absurd (other refl)
