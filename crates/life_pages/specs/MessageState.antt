-- The results of the private calls that read a message.
use Rattle.std.specs.Prelude.{◌≡◌, ◌⊎◌, ℕ, ◌+◌, ◌<◌, ◌≤◌, true, false, List, ◌++◌, length, take, drop}
use Rattle.life_pages.specs.declared.message.Next.{Next}
use Rattle.life_pages.specs.declared.message.Next.TheVariants.{More, Bad, Whole}
use Rattle.life_pages.specs.HeadState.{parsed}
use Rattle.life_pages.specs.Message.{HasMessageInFront, HasNone, IsAwaited, are_line_breaks}

-- no valid message is ever at the front, whatever follows
abbrev pub NeverHas : List ℕ → Type 0
NeverHas bytes = (more : List ℕ) → HasNone (bytes ++ more)

-- the most bytes that are held: a head of 8,192 and a body of 1,048,576
abbrev pub held_limit : ℕ
held_limit = 1056768

-- no valid message is at the front, there is no fault so far, and there is room for more bytes, or all are CR and LF
abbrev pub IsWanting : List ℕ → Type 0
IsWanting held = HasNone held × ((are_line_breaks held ≡ true) ⊎ (length held < held_limit)) × IsAwaited held

-- a message stays incomplete until this many bytes are held
abbrev pub WantsUntil : ℕ → List ℕ → Type 0
WantsUntil wanted held = (more : List ℕ) → length (held ++ more) < wanted → IsWanting (held ++ more)

-- the result of looking for a message at the front of the held bytes
abbrev pub IsNext : List ℕ → Next → Type 0
IsNext held (More wanted) = IsWanting held × WantsUntil wanted held
IsNext held Bad = NeverHas held × (are_line_breaks held ≡ false)
IsNext held (Whole head) =
    (head.len + head.body ≤ length held) × (0 < head.len)
    × HasMessageInFront held (parsed head) (take head.body (drop head.len held)) (drop (head.len + head.body) held)
