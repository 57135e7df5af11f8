-- What a crash leaves of messages, one after another.
use Rattle.std.proofs.Common.{◌≡◌, ◌⊎◌, inl, inr, ℕ, List, [], ◌∷◌, ◌++◌, Result, Ok, refl, sym, ◌∙◌, ap, subst}
use Rattle.std.proofs.lemmas.List.{append_assoc}
use Rattle.sqlite_trees.specs.Tree.{Trees}
use Rattle.life_desk.specs.declared.request.Request.{Request}
use Rattle.life_desk.specs.declared.request.Reply.{Reply}
use Rattle.life_desk.specs.Archive.{Archive}
use Rattle.life_desk.specs.Represents.{RecoveredRepresents}
use Rattle.life_desk.specs.Replies.{after}
use Rattle.life_desk.specs.Run.{RequestStep, RequestRun, IsCrashOf, AcknowledgeNothing}
use Rattle.life_pages.specs.declared.pages_fault.MessageRefusal.{MessageRefusal}
use Rattle.life_pages.specs.Head.{Head}
use Rattle.life_pages.specs.Asked.{asked}
use Rattle.life_pages.specs.Message.{Message, good, bad, AnswersAsked, AnswersMessage}
use Rattle.life_pages.specs.Reply.{bytes_of, bad_bytes}
use Rattle.life_pages.specs.ServedArchive.{AcknowledgesNothing, RepliesAcknowledgeNothing, IsServedUntil}

-- What a crash leaves of one message whose request is x and whose reply is these bytes: the archive after it; or, if
-- the bytes say nothing of what is kept, the one before it or the one after its request.
abbrev pub LeftOfOne : Archive → Result Request MessageRefusal → List ℕ → Trees → Type 0
LeftOfOne A x bytes db =
    ((B : Archive) × AnswersAsked RequestStep A x bytes B × RecoveredRepresents db B)
    ⊎ (AcknowledgesNothing bytes × (RecoveredRepresents db A
    ⊎ ((next : Request) × (x ≡ Ok next) × RecoveredRepresents db (after A next))))

module _ (A : Archive) (q : Request) (r : Reply) (bytes : List ℕ) (made : bytes ≡ bytes_of r) (db : Trees) where
  says_nothing : AcknowledgeNothing (r ∷ []) → AcknowledgesNothing bytes
  says_nothing none = inl (r, none.0, made)

  of_parts : (front back : List Request) (given rest : List Reply) (mid : Archive) → q ∷ [] ≡ front ++ back
      → r ∷ [] ≡ given ++ rest → RequestRun A front given mid
      → RecoveredRepresents db mid ⊎ ((next : Request) × (more : List Request) × (back ≡ next ∷ more)
      × RecoveredRepresents db (after mid next)) → AcknowledgeNothing rest → LeftOfOne A (Ok q) bytes db
  of_parts [] back [] rest mid e f run (inl mean) none =
      inr (says_nothing (subst AcknowledgeNothing (sym f) none), inl (subst (λ X. RecoveredRepresents db X) run mean))
  of_parts [] back [] rest mid e f run (inr (next, more, is, mean)) none =
      let both = e ∙ is in
      let same : q ≡ next = cc in
      inr (
        says_nothing (subst AcknowledgeNothing (sym f) none),
        inr (next, ap Ok same, subst (λ X. RecoveredRepresents db (after X next)) run mean),
      )
  of_parts [] back (s ∷ given) rest mid e f run left none = absurd run
  of_parts (p ∷ front) back [] rest mid e f run left none = absurd run
  of_parts (p ∷ []) back (s ∷ []) rest mid e f (next, step, run) (inl mean) none =
      let same : q ≡ p = cc in
      let reply : r ≡ s = let h = f in cc in
      inl (
        next,
        (
          r,
          subst (λ x. RequestStep A q x next) (sym reply) (subst (λ x. RequestStep A x s next) (sym same) step),
          made,
        ),
        subst (λ X. RecoveredRepresents db X) run mean,
      )
  of_parts (p ∷ []) back (s ∷ []) rest mid e f (next, step, run) (inr (n, more, is, mean)) none =
      absurd (let empty : [] ≡ back = cc in let bad = empty ∙ is in cc)
  of_parts (p ∷ []) back (s ∷ t ∷ given) rest mid e f (next, step, run) left none = absurd run
  of_parts (p ∷ x ∷ front) back (s ∷ given) rest mid e f run left none = absurd cc

  pub left_of_one : IsCrashOf A (q ∷ []) (r ∷ []) db → LeftOfOne A (Ok q) bytes db
  left_of_one it = of_parts it.front it.back it.given it.rest it.mid it.requests it.replies it.run it.left it.unpromised

-- ---- messages

-- nothing was answered
pub until_begun : (A : Archive) (ms : List Message) (bytes : List ℕ) (db : Trees) → RepliesAcknowledgeNothing ms bytes
    → RecoveredRepresents db A → IsServedUntil A ms bytes db
until_begun A ms bytes db none mean = record {
  front = [];
  back = ms;
  given = [];
  rest = bytes;
  messages = refl;
  replies = refl;
  mid = A;
  run = (refl, refl);
  left = inl mean;
  unpromised = none;
}

module _ (A : Archive) where
  -- the first was answered
  pub until_after_good : (B : Archive) (parsed : Head) (body : List ℕ) (ms : List Message) (reply later bytes : List ℕ)
      (db : Trees) → AnswersMessage RequestStep A parsed body reply B → bytes ≡ reply ++ later
      → IsServedUntil B ms later db → IsServedUntil A (good parsed body ∷ ms) bytes db
  until_after_good B parsed body ms reply later bytes db answered is it = record {
    front = good parsed body ∷ it.front;
    back = it.back;
    given = reply ++ it.given;
    rest = it.rest;
    messages = ap (λ (all : List Message). good parsed body ∷ all) it.messages;
    replies = is ∙ ap (λ (all : List ℕ). reply ++ all) it.replies ∙ sym (append_assoc reply it.given it.rest);
    mid = it.mid;
    run = (reply, it.given, B, answered, refl, it.run);
    left = it.left;
    unpromised = it.unpromised;
  }

  -- the first was being answered, and nothing after it says that something is kept
  pub until_first : (parsed : Head) (body : List ℕ) (ms : List Message) (reply later bytes : List ℕ) (db : Trees)
      → bytes ≡ reply ++ later → RepliesAcknowledgeNothing ms later → LeftOfOne A (asked parsed body) reply db
      → IsServedUntil A (good parsed body ∷ ms) bytes db
  until_first parsed body ms reply later bytes db is none (inl (B, answered, mean)) =
      until_after_good B parsed body ms reply later bytes db answered is (until_begun B ms later db none mean)
  until_first parsed body ms reply later bytes db is none (inr (says, inl mean)) =
      until_begun A (good parsed body ∷ ms) bytes db (reply, later, says, is, none) mean
  until_first parsed body ms reply later bytes db is none (inr (says, inr (next, of, mean))) = record {
    front = [];
    back = good parsed body ∷ ms;
    given = [];
    rest = bytes;
    messages = refl;
    replies = refl;
    mid = A;
    run = (refl, refl);
    left = inr (parsed, body, next, ms, refl, of, mean);
    unpromised = (reply, later, says, is, none);
  }

  -- the first was bad
  pub until_after_bad : (ms : List Message) (later bytes : List ℕ) (db : Trees) → bytes ≡ bad_bytes ++ later
      → IsServedUntil A ms later db → IsServedUntil A (bad ∷ ms) bytes db
  until_after_bad ms later bytes db is it = record {
    front = bad ∷ it.front;
    back = it.back;
    given = bad_bytes ++ it.given;
    rest = it.rest;
    messages = ap (λ (all : List Message). bad ∷ all) it.messages;
    replies = is ∙ ap (λ (all : List ℕ). bad_bytes ++ all) it.replies ∙ sym (append_assoc bad_bytes it.given it.rest);
    mid = it.mid;
    run = (it.given, refl, it.run);
    left = it.left;
    unpromised = it.unpromised;
  }
