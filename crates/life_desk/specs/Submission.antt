-- A deposit or a census, submitted under a member and a token. It is refused, repeats the item stored under that token,
-- or is added.
use Rattle.std.specs.Prelude.{ℕ, ◌+◌, ◌++◌, Bool, List, [], ◌∷◌, length, Option, None, Some, if◌then◌else◌}
use Rattle.life_desk.specs.declared.refusal.Refusal.{Refusal}
use Rattle.life_desk.specs.declared.refusal.Refusal.TheVariants as refusals
use Rattle.life_desk.specs.declared.request.Reply.{Reply}
use Rattle.life_desk.specs.declared.request.Reply.TheVariants as replies

-- the verdict
pub data Verdict (X : Type 0) : Type 0 where
  -- it is refused
  Refuses : Refusal → Verdict X
  -- it is stored already, under the number
  Repeats : ℕ → Verdict X
  -- it is new, and there is room
  Adds : X → Verdict X

-- The verdict on x, given the item that is stored under its token, with that item's number. If it is the same, x
-- repeats it; if it differs, x is refused. Without a stored item, x is added if there is room.
abbrev pub by_token : {X : Type 0} → (X → X → Bool) → Bool → X → Option (ℕ × X) → Verdict X
by_token is_same has_room x (Some stored) =
    if is_same stored.1 x then Repeats stored.0 else Refuses refusals.TokenReused
by_token is_same has_room x None = if has_room then Adds x else Refuses refusals.Full

-- The reply, if these items are stored before the request; `number` makes a reply from a number. Example: adding to two
-- items gives the number 3.
abbrev pub reply_of : {X : Type 0} → (ℕ → Reply) → List X → Verdict X → Reply
reply_of number xs (Refuses refusal) = replies.Refused refusal
reply_of number xs (Repeats id) = number id
reply_of number xs (Adds x) = number (length xs + 1)

-- the stored items after the request: an added one is appended
abbrev pub stored_after : {X : Type 0} → List X → Verdict X → List X
stored_after xs (Refuses refusal) = xs
stored_after xs (Repeats id) = xs
stored_after xs (Adds x) = xs ++ x ∷ []
