-- The items of a body, their positions, the cells that they place, and the first faulty one (LifeWiki, "Run Length
-- Encoded").
use Rattle.std.specs.Prelude.{ℕ, pos, ◌≤ℤ◌, zero, suc, Bool, true, false, not, ◌&&◌, ◌||◌, List, [], ◌∷◌, ◌++◌, ◌+◌}
use Rattle.std.specs.Prelude.{◌==◌, nat_lt, if◌then◌else◌, Option, Some, None, Result, Ok, Err}
use Rattle.std.specs.List.{sum_by, filter, after_last}
use Rattle.std.specs.Char.{is_ascii_digit}
use Rattle.std.specs.Str.Parse.{digits_value}
use Rattle.life_rle.specs.Tags.{dead_tag, end_tag, live_tag, row_end_tag}
use Rattle.life_core.specs.declared.cell.Cell.{Cell}
use Rattle.life_rle.specs.declared.rle_fault.RleFault.{RleFault}
use Rattle.life_rle.specs.declared.rle_fault.RleFault.TheVariants.{OtherTag, BadCount, TooWide, NoEnd}

-- the digits of a count, and the byte after them; at the end of the body there is no byte
pub record Item : Type 0 where
  pub digits : List ℕ
  pub tag : Option ℕ

-- the items of a body; `digits` are those before it
unfoldable pub items_after : List ℕ → List ℕ → List Item
items_after digits [] = record { digits = digits; tag = None } ∷ []
items_after digits (b ∷ bytes) =
    if is_ascii_digit b then items_after (digits ++ b ∷ []) bytes
    else record { digits = digits; tag = Some b } ∷ items_after [] bytes

-- the items of a body; `12bo!` has `12b`, `o`, `!`, and at the end an item without a byte
abbrev pub items_of : List ℕ → List Item
items_of body = items_after [] body

-- whether there are no digits
abbrev pub is_empty : List ℕ → Bool
is_empty [] = true
is_empty (x ∷ xs) = false

-- no count means 1
abbrev pub count_of : List ℕ → ℕ
count_of digits = if is_empty digits then 1 else digits_value 10 digits

-- whether an item has this byte
abbrev pub has_tag : ℕ → Option ℕ → Bool
has_tag byte None = false
has_tag byte (Some b) = b == byte

-- a run of dead cells, `b`
abbrev pub is_dead : Item → Bool
is_dead item = has_tag dead_tag item.tag

-- a run of live cells, `o`
abbrev pub is_live : Item → Bool
is_live item = has_tag live_tag item.tag

-- row ends, `$`
abbrev pub is_row_end : Item → Bool
is_row_end item = has_tag row_end_tag item.tag

-- the end of the body, `!`
abbrev pub is_end : Item → Bool
is_end item = has_tag end_tag item.tag

-- the count of an item
abbrev pub count : Item → ℕ
count item = count_of item.digits

-- the row of an item: the sum of the counts of the row ends before it
unfoldable pub row_after : List Item → ℕ
row_after before = sum_by count (filter is_row_end before)

-- the column of an item: the sum of the counts of the dead and live items between the last row end and the item
unfoldable pub column_after : List Item → ℕ
column_after before = sum_by count (filter (λ i. is_dead i || is_live i) (after_last is_row_end before))

-- the n cells of a row from a column on
unfoldable pub run : ℕ → ℕ → ℕ → List (ℕ × ℕ)
run column row zero = []
run column row (suc n) = (column, row) ∷ run (column + 1) row n

-- how many live cells an item places
abbrev pub live_count : Item → ℕ
live_count item = if is_live item then count item else 0

-- the cells of an item that comes after these
abbrev pub cells_at : List Item → Item → List (ℕ × ℕ)
cells_at before item = run (column_after before) (row_after before) (live_count item)

-- the cells that items place after these
unfoldable pub placed_after : List Item → List Item → List (ℕ × ℕ)
placed_after before [] = []
placed_after before (item ∷ items) = cells_at before item ++ placed_after (before ++ item ∷ []) items

-- the cells that the items place
abbrev pub placed : List Item → List (ℕ × ℕ)
placed items = placed_after [] items

-- whether an item has a count
abbrev pub is_counted : Item → Bool
is_counted item = not (is_empty item.digits)

-- 0, or over 1,000,000
abbrev pub is_bad_number : ℕ → Bool
is_bad_number n = n == 0 || nat_lt 1000000 n

-- the fault of an item's byte, for an item that comes after these
abbrev pub fault_at_tag : List Item → Item → Option ℕ → Option RleFault
fault_at_tag before item None = if is_counted item then Some BadCount else Some NoEnd
fault_at_tag before item (Some b) =
    if b == end_tag then (if is_counted item then Some BadCount else None)
    else (if b == dead_tag || b == row_end_tag then None
    else (if not (b == live_tag) then Some OtherTag
    else (if nat_lt 1024 (column_after before + count item) || nat_lt 1023 (row_after before) then Some TooWide
    else None)))

-- the fault of an item: of its count, then of its byte, then of its cells
abbrev pub fault_at : List Item → Item → Option RleFault
fault_at before item =
    if is_counted item && is_bad_number (count item) then Some BadCount
    else fault_at_tag before item item.tag

-- the fault if there is one, otherwise the answer
abbrev pub unless_faulty : {X : Type 0} → Option RleFault → Result X RleFault → Result X RleFault
unless_faulty (Some fault) answer = Err fault
unless_faulty None answer = answer

-- the items before the first `!`, or the fault of the first faulty one
unfoldable pub checked_after : List Item → List Item → Result (List Item) RleFault
checked_after before [] = Err NoEnd
checked_after before (item ∷ items) =
    unless_faulty (fault_at before item) (if is_end item then Ok before else checked_after (before ++ item ∷ []) items)

-- the cells of items that have no fault
abbrev pub placed_unless_faulty : Result (List Item) RleFault → Result (List (ℕ × ℕ)) RleFault
placed_unless_faulty (Ok items) = Ok (placed items)
placed_unless_faulty (Err fault) = Err fault

-- the cells that a body places, or its first fault; `bo$2o!` places (1, 0), (0, 1) and (1, 1)
unfoldable pub body_cells : List ℕ → Result (List (ℕ × ℕ)) RleFault
body_cells body = placed_unless_faulty (checked_after [] (items_of body))

-- a cell in the columns and rows 0 to 1023
pub record IsPlaced (c : Cell) : Type 0 where
  pub row_low : pos 0 ≤ℤ c.row
  pub row_high : c.row ≤ℤ pos 1023
  pub column_low : pos 0 ≤ℤ c.column
  pub column_high : c.column ≤ℤ pos 1023
