-- Soups: random fields as soup search programs make them (apgsearch, Catagolue: the SHA-256 digest of a seed, bit by
-- bit), with their symmetries.
use Rattle.std.specs.Prelude.{◌≡◌, ◌⊎◌, ◌<◌, ℕ, ◌+◌, ◌-◌, ◌*◌, ◌/◌, ◌%◌, ◌^◌, pos, negsuc, neg_ℤ, ◌-ℤ◌, Bool, true}
use Rattle.std.specs.Prelude.{◌==◌, if◌then◌else◌, List, ◌++◌, map, filter, slice_index, Option, None, Some, codes}
use Rattle.std.specs.Prelude.{bytes_eq}
use Rattle.std.specs.Fmt.{decimal}
use Rattle.std.specs.List.{range_with_len}
use Rattle.std.specs.FinSet as set
use Rattle.sha2.specs.Sha256.{sha256}
use Rattle.life_core.specs.declared.cell.Cell.{Cell}
use Rattle.life_core.specs.Pattern.{Cells}
use Rattle.life_hauls.specs.declared.symmetry.Symmetry.{Symmetry}
use Rattle.life_hauls.specs.declared.symmetry.Symmetry.TheVariants.{C1, EightRows, FourRows, TwoRows, OneRow, D2Plus1}
use Rattle.life_hauls.specs.declared.symmetry.Symmetry.TheVariants.{D2Plus2}
use Rattle.life_hauls.specs.declared.symmetry.Mirror.{Mirror}
use Rattle.life_hauls.specs.declared.symmetry.Mirror.TheVariants.{OnRow, BetweenRows}

-- ---- symmetries

-- a symmetry: its usual name, the number of cells in a row, and the mirror whose image is added, if any
pub record SymmetryRow : Type 0 where
  pub name : List ℕ
  pub width : ℕ
  pub mirror : Option Mirror

abbrev pub row_of : Symmetry → SymmetryRow
row_of C1 = record { name = codes "C1"; width = 16; mirror = None }
row_of EightRows = record { name = codes "8x32"; width = 32; mirror = None }
row_of FourRows = record { name = codes "4x64"; width = 64; mirror = None }
row_of TwoRows = record { name = codes "2x128"; width = 128; mirror = None }
row_of OneRow = record { name = codes "1x256"; width = 256; mirror = None }
row_of D2Plus1 = record { name = codes "D2_+1"; width = 16; mirror = Some OnRow }
row_of D2Plus2 = record { name = codes "D2_+2"; width = 16; mirror = Some BetweenRows }

abbrev pub symmetry_name : Symmetry → List ℕ
symmetry_name s = (row_of s).name

abbrev pub width : Symmetry → ℕ
width s = (row_of s).width

abbrev pub mirror : Symmetry → Option Mirror
mirror s = (row_of s).mirror

-- the symmetry that has this name, if any
abbrev pub symmetry_named : List ℕ → Option Symmetry
symmetry_named name =
    if bytes_eq name (codes "C1") then Some C1
    else if bytes_eq name (codes "8x32") then Some EightRows
    else if bytes_eq name (codes "4x64") then Some FourRows
    else if bytes_eq name (codes "2x128") then Some TwoRows
    else if bytes_eq name (codes "1x256") then Some OneRow
    else if bytes_eq name (codes "D2_+1") then Some D2Plus1
    else if bytes_eq name (codes "D2_+2") then Some D2Plus2
    else None

-- the mirror image of a cell: row y goes to row -y, or to row -y - 1
abbrev pub mirrored : Mirror → Cell → Cell
mirrored OnRow c = record { row = neg_ℤ c.row; column = c.column }
mirrored BetweenRows c = record { row = negsuc 0 -ℤ c.row; column = c.column }

-- ---- soups

-- whether the bit at place p of some bytes is 1; the highest bit of each byte comes first
abbrev pub bit_at : List ℕ → ℕ → Bool
bit_at bytes p = (slice_index bytes (p / 8) / 2 ^ (7 - p % 8)) % 2 == 1

-- the cell at place p of a field, row by row in rows of w cells
abbrev pub field_cell : ℕ → ℕ → Cell
field_cell w p = record { row = pos (p / w); column = pos (p % w) }

-- the cells of the first n places whose bits are 1, in rows of w cells
abbrev pub live_cells : ℕ → List ℕ → ℕ → List Cell
live_cells w bytes n = map (field_cell w) (filter (bit_at bytes) (range_with_len 0 n))

-- cells together with their mirror images, if there is a mirror
abbrev pub with_images : Option Mirror → List Cell → List Cell
with_images None cs = cs
with_images (Some m) cs = cs ++ map (mirrored m) cs

-- the cells of the soup of a digest
abbrev pub soup_cells : Symmetry → List ℕ → List Cell
soup_cells s digest = with_images (mirror s) (live_cells (width s) digest 256)

-- Soup i of a root text: each cell is a bit of the SHA-256 digest of the root followed by the decimal digits of i. If
-- the symmetry has a mirror, the mirror images are added.
unfoldable pub soup_of : Symmetry → List ℕ → ℕ → Cells
soup_of s root i = set.from_list (soup_cells s (sha256 (root ++ decimal i)))

-- ---- what makes this definition believable

-- Each symmetry is read from its own name ..
abbrev pub NamesAreRead : Type 0
NamesAreRead = (s : Symmetry) → symmetry_named (symmetry_name s) ≡ Some s

-- .. and from no other.
abbrev pub NamesAreOne : Type 0
NamesAreOne = (name : List ℕ) (s : Symmetry) → symmetry_named name ≡ Some s → name ≡ symmetry_name s

-- the number of bytes for the bits of a row
abbrev pub row_bytes : Symmetry → ℕ
row_bytes s = width s / 8

-- A row has b bytes. Bit k of byte j, the highest bit first, is the cell in column k + 8 * (j % b) of row j / b ..
abbrev pub BitsAreCells : Type 0
BitsAreCells = (s : Symmetry) (root : List ℕ) (i j k : ℕ) → j < 32 → k < 8
    → set.contains (soup_of s root i) (record { row = pos (j / row_bytes s); column = pos (k + 8 * (j % row_bytes s)) })
    ≡ ((slice_index (sha256 (root ++ decimal i)) j / 2 ^ (7 - k)) % 2 == 1)

-- .. a soup with a mirror is its own mirror image ..
abbrev pub MirrorsKeepSoups : Type 0
MirrorsKeepSoups =
    (s : Symmetry) (m : Mirror) (root : List ℕ) (i : ℕ) (c : Cell) → mirror s ≡ Some m
    → set.contains (soup_of s root i) (mirrored m c) ≡ set.contains (soup_of s root i) c

-- c is the cell d or, if there is a mirror, the mirror image of d
abbrev pub IsCellOrImage : Option Mirror → Cell → Cell → Type 0
IsCellOrImage None d c = c ≡ d
IsCellOrImage (Some m) d c = (c ≡ d) ⊎ (c ≡ mirrored m d)

-- .. and every cell lies in the field of 256 cells, or is the mirror image of such a cell.
abbrev pub SoupsAreFields : Type 0
SoupsAreFields = (s : Symmetry) (root : List ℕ) (i : ℕ) (c : Cell) → set.contains (soup_of s root i) c ≡ true
    → (x : ℕ) × (y : ℕ) × (x < width s) × (y < 256 / width s)
    × IsCellOrImage (mirror s) (record { row = pos y; column = pos x }) c
