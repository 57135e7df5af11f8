-- What a crash leaves of the private calls that answer a submission.
use Rattle.std.proofs.Common.{◌≡◌, ℕ, Bool, true, [], ◌∷◌, ◌++◌, Option, None, Some, if◌then◌else◌, sym, ◌∙◌, subst}
use Rattle.sqlite_trees.specs.Tree.{Trees}
use Rattle.life_store.specs.declared.kept.Deposit.{Deposit}
use Rattle.life_store.specs.declared.kept.Census.{Census}
use Rattle.life_store.specs.Kept.{numbered, census_by}
use Rattle.life_store.specs.Tables.{ArchiveView, WasHealthy}
use Rattle.life_desk.specs.declared.refusal.Refusal.TheVariants as refusals
use Rattle.life_desk.specs.Archive.{Archive}
use Rattle.life_desk.specs.DeskState.{RepresentChanged, RepresentChangedIf}
use Rattle.life_desk.specs.LookupsState.{ForAllRepresented, RepresentsTheSame}
use Rattle.life_desk.specs.Represents.{RecoveredRepresents}
use Rattle.life_desk.specs.Submission.{Adds, Refuses, by_token, stored_after}
use Rattle.life_desk.proofs.Submissions.{Kind}
use Rattle.life_desk.specs.Replies.{has_room, with_census, census_by_token, census_verdict}
use Rattle.life_desk.proofs.Tokens.{verdict_new}

-- a call that only looks, and then one that adds
module _ {S : Type 0} (old mid : ArchiveView S) (was : WasHealthy old.tables mid.tables)
    (same : RepresentsTheSame old mid) (db : Trees) where
  module _ {X : Type 0} (k : Kind X) (IsThere : Archive → Type 0) (x : X) where
    -- what is stored, by what is found under the token
    abbrev after_token : Option (ℕ × X) → Archive → Archive
    after_token found A = k.with_list A (stored_after (k.list A) (by_token k.is_same (has_room A (k.list A)) x found))

    -- there was room
    pub room_for : (room : Bool) → ForAllRepresented old mid (λ A. room ≡ has_room A (k.list A)) → room ≡ true
        → RepresentChangedIf mid IsThere (λ A. k.with_list A (k.list A ++ x ∷ [])) db
        → RepresentChangedIf old IsThere (after_token None) db
    room_for room tells is h = (
      was h.0,
      λ A m there.
          let yes : has_room A (k.list A) ≡ true = sym (tells A h.0 m) ∙ is in
          subst
          (λ b. RecoveredRepresents db (k.with_list A
          (stored_after (k.list A) (if b then Adds x else Refuses refusals.Full))))
          (sym yes) (h.1 A (same A h.0 m) there),
    )

    -- its token is new
    pub token_new : (find : Archive → Option (ℕ × X)) → ForAllRepresented old mid (λ A. None ≡ find A)
        → RepresentChangedIf mid IsThere (after_token None) db
        → RepresentChangedIf old IsThere (λ A. after_token (find A) A) db
    token_new find tells h = (
      was h.0,
      λ A m there. subst (λ o. RecoveredRepresents db (after_token o A)) (tells A h.0 m) (h.1 A (same A h.0 m) there),
    )

  -- the token of the census is new
  pub token_first : (c : Census) (found : Option (ℕ × Census))
      → ForAllRepresented old mid (λ A. found ≡ census_by c.member c.token A.censuses) → found ≡ None
      → RepresentChangedIf mid (λ A. None ≡ census_by c.member c.token A.censuses)
      (λ A. with_census A (census_verdict A c)) db → RepresentChanged old (λ A. with_census A (census_verdict A c)) db
  token_first c found tells is h = (was h.0, λ A m any. h.1 A (same A h.0 m) (sym is ∙ tells A h.0 m))

  -- and its deposit is there
  pub deposit_there : (c : Census) (d : Deposit) (found : Option Deposit)
      → ForAllRepresented old mid (λ A. found ≡ numbered A.deposits c.deposit) → found ≡ Some d
      → RepresentChangedIf mid (λ A. numbered A.deposits c.deposit ≡ Some d)
      (λ A. with_census A (census_by_token A c None)) db
      → RepresentChangedIf old (λ A. None ≡ census_by c.member c.token A.censuses)
      (λ A. with_census A (census_verdict A c)) db
  deposit_there c d found tells is h = (
    was h.0,
    λ A m first.
        let there : numbered A.deposits c.deposit ≡ Some d = sym (tells A h.0 m) ∙ is in
        subst (λ v. RecoveredRepresents db (with_census A v)) (verdict_new A c d first there)
        (h.1 A (same A h.0 m) there),
  )
