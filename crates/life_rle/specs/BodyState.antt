-- Reading a body byte by byte: the position of the next item, and the result if these bytes remain.
use Rattle.std.specs.Prelude.{◌≡◌, map, ℕ, ◌+◌, ◌*◌, ◌-◌, min, Bool, true, false, not, ◌||◌, ◌==◌, nat_lt}
use Rattle.std.specs.Prelude.{if◌then◌else◌, List, [], ◌∷◌, ◌++◌, Option, Some, None, is_some, unwrap_or, Result, Ok}
use Rattle.std.specs.Prelude.{Err, MatchResult}
use Rattle.std.specs.Char.{is_ascii_digit}
use Rattle.life_rle.specs.Tags.{dead_tag, end_tag, live_tag, row_end_tag}
use Rattle.life_rle.specs.declared.rle_fault.RleFault.{RleFault}
use Rattle.life_rle.specs.declared.rle_fault.RleFault.TheVariants.{OtherTag, BadCount, TooWide, NoEnd, Memory}
use Rattle.life_rle.specs.declared.body.Body.{Body}
use Rattle.life_rle.specs.declared.body.Progress.{Progress}
use Rattle.life_rle.specs.declared.body.Progress.TheVariants.{More, Ended, Failed}
use Rattle.life_rle.specs.declared.body.BodyReader.{BodyReader}
use Rattle.life_rle.specs.Body.{run, is_bad_number}
use Rattle.life_rle.specs.Writer.{coordinates}

-- the position of the next item, the count so far, and the cells placed so far. A row or a column past 1023 is 1024,
-- and a count over 1,000,000 is 1,000,001.
pub record Position : Type 0 where
  pub row : ℕ
  pub column : ℕ
  pub count : Option ℕ
  pub cells : List (ℕ × ℕ)

-- the position before the first item
abbrev pub start : Position
start = record { row = 0; column = 0; count = None; cells = [] }

-- the effect of a byte: a new position, the end with the cells, or a fault
pub data Step : Type 0 where
  goes : Position → Step
  ends : List (ℕ × ℕ) → Step
  fails : RleFault → Step

-- the count with one more digit
abbrev pub next_count : Option ℕ → ℕ → ℕ
next_count count b = min (unwrap_or count 0 * 10 + (b - 48)) 1000001

-- whether there is a count, and a bad one
abbrev pub is_bad_count : Option ℕ → Bool
is_bad_count None = false
is_bad_count (Some n) = is_bad_number n

-- after a run of dead cells
abbrev pub moved : Position → ℕ → Position
moved p n = record { row = p.row; column = min (p.column + n) 1024; count = None; cells = p.cells }

-- after row ends
abbrev pub down : Position → ℕ → Position
down p n = record { row = min (p.row + n) 1024; column = 0; count = None; cells = p.cells }

-- after a run of live cells
abbrev pub live : Position → ℕ → Position
live p n = record { row = p.row; column = p.column + n; count = None; cells = p.cells ++ run p.column p.row n }

-- an item with this tag and this count
abbrev pub item_step : Position → ℕ → ℕ → Step
item_step p n b =
    if b == dead_tag then goes (moved p n)
    else (if b == row_end_tag then goes (down p n)
    else (if not (b == live_tag) then fails OtherTag
    else (if nat_lt 1024 (p.column + n) || nat_lt 1023 p.row then fails TooWide
    else goes (live p n))))

-- the effect of the next byte
unfoldable pub step : Position → ℕ → Step
step p b =
    if is_ascii_digit b then goes (record p { count = Some (next_count p.count b) })
    else (if is_bad_count p.count then fails BadCount
    else (if b == end_tag then (if is_some p.count then fails BadCount else ends p.cells)
    else item_step p (unwrap_or p.count 1) b))

-- the result of the function that reads a byte, and the position after it; only a step that continues may run out of
-- memory
abbrev pub Took : Step → Position → Result Bool RleFault → Type 0
Took (goes q) new answer = MatchResult answer (λ ended. (ended ≡ false) × (new ≡ q)) (λ e. e ≡ Memory)
Took (ends cells) new answer = (answer ≡ Ok true) × (new.cells ≡ cells)
Took (fails fault) new answer = answer ≡ Err fault

-- the same for a function that never ends the body
abbrev pub Acts : {X : Type 0} → Step → Position → Result X RleFault → Type 0
Acts (goes q) new answer = MatchResult answer (λ _. new ≡ q) (λ e. e ≡ Memory)
Acts (ends cells) new answer = ⊥
Acts (fails fault) new answer = answer ≡ Err fault

-- continues after a step, unless it ends the body or fails
abbrev pub going : Step → (Position → Result (List (ℕ × ℕ)) RleFault) → Result (List (ℕ × ℕ)) RleFault
going (goes q) next = next q
going (ends cells) next = Ok cells
going (fails fault) next = Err fault

-- the cells so far and the cells that these bytes of the body place, or the first fault
unfoldable pub body_from : Position → List ℕ → Result (List (ℕ × ℕ)) RleFault
body_from p [] = if is_some p.count then Err BadCount else Err NoEnd
body_from p (b ∷ bytes) = going (step p b) (λ q. body_from q bytes)

-- the position that the code has reached
abbrev pub place_reached : {A : Type 0} → Body A → Position
place_reached b = record { row = b.row; column = b.column; count = b.count; cells = map coordinates b.cells }

-- the cells or the fault, by the progress so far, if these bytes remain
abbrev pub outcome_at : Progress → Position → List ℕ → Result (List (ℕ × ℕ)) RleFault
outcome_at More p rest = body_from p rest
outcome_at Ended p rest = Ok p.cells
outcome_at (Failed fault) p rest = Err fault

-- the cells or the fault, if these bytes remain
abbrev pub outcome : {A : Type 0} → BodyReader A → List ℕ → Result (List (ℕ × ℕ)) RleFault
outcome r rest = outcome_at r.progress (place_reached r.body) rest
