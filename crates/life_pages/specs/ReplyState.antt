-- The bytes that the private calls write for a reply.
use Rattle.std.specs.Prelude.{◌≡◌, ◌⊎◌, ℕ, true, List}
use Rattle.life_desk.specs.declared.request.Reply.{Reply}
use Rattle.life_desk.specs.Replies.{is_shown}
use Rattle.life_pages.specs.Reply.{bytes_of, unavailable_bytes}

-- a reply's bytes; if its length depends on the stored contents, possibly `unavailable` instead
abbrev pub Writes : Reply → List ℕ → Type 0
Writes reply bytes = (bytes ≡ bytes_of reply) ⊎ ((is_shown reply ≡ true) × (bytes ≡ unavailable_bytes))
