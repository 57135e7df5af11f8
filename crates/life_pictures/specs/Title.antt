-- A name as the text of an XML element (W3C, "Extensible Markup Language (XML) 1.0", "Characters" and "Character Data
-- and Markup").
use Rattle.std.specs.Prelude.{ℕ, Bool, ◌||◌, ◌==◌, if◌then◌else◌, List, [], ◌++◌, codes, Option, None, Some}
use Rattle.std.specs.List.{flat_map}
use Rattle.std.specs.Char.{encode_utf8}
use Rattle.std.specs.Int.{is_in_range}
use Rattle.std.specs.Str.{chars}
use Rattle.std.specs.Str.Lossy.{utf8_lossy}
use Rattle.life_core.specs.Ascii.{tab, line_feed, carriage_return, space}

-- a character that an XML 1.0 document may contain
abbrev pub is_xml_char : ℕ → Bool
is_xml_char c =
    c == tab || c == line_feed || c == carriage_return || is_in_range space 0xD7FF c || is_in_range 0xE000 0xFFFD c
    || is_in_range 0x10000 0x10FFFF c

-- a character as XML text: `&`, `<`, `>` and the carriage return as references, and U+FFFD for one that XML forbids
abbrev pub escaped : ℕ → List ℕ
escaped c =
    if c == 38 then codes "&amp;"
    else (if c == 60 then codes "&lt;"
    else (if c == 62 then codes "&gt;"
    else (if c == carriage_return then codes "&#13;"
    else (if is_xml_char c then encode_utf8 c
    else encode_utf8 0xFFFD))))

-- bytes as XML text: invalid UTF-8 becomes U+FFFD
unfoldable pub xml_text : List ℕ → List ℕ
xml_text bytes = flat_map escaped (chars (utf8_lossy bytes))

-- the line of a title, if there is a name
abbrev pub title : Option (List ℕ) → List ℕ
title None = []
title (Some name) = codes "<title>" ++ xml_text name ++ codes "</title>\n"
