-- The code's kinds of lines as values of `Line`.
use Rattle.life_rle.specs.declared.rle_lines.LineKind.{LineKind}
use Rattle.life_rle.specs.declared.rle_lines.LineKind.TheVariants as kinds
use Rattle.life_rle.specs.RleLines.{Line, passed, named, authored, comment, ruled, header}

-- the kind of a line, with its text as a list
abbrev pub kind_of : LineKind → Line
kind_of kinds.Passed = passed
kind_of (kinds.Name text) = named text.now
kind_of (kinds.Author text) = authored text.now
kind_of (kinds.Comment text) = comment text.now
kind_of (kinds.Rule text) = ruled text.now
kind_of kinds.Header = header
