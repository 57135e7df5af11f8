-- The tags of the items of a body (LifeWiki, "Run Length Encoded").
use Rattle.std.specs.Prelude.{ℕ}

-- `b`: dead cells
abbrev pub dead_tag : ℕ
dead_tag = 98

-- `o`: live cells
abbrev pub live_tag : ℕ
live_tag = 111

-- `$`: ends of rows
abbrev pub row_end_tag : ℕ
row_end_tag = 36

-- `!`: the end of the pattern
abbrev pub end_tag : ℕ
end_tag = 33
