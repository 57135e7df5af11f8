use Rattle.std.proofs.Common.{◌≡◌, drop}
use Rattle.life_words.specs.Explain.{text_in, rows_of}
use Rattle.life_words.proofs.explain.text_in.Given as goal

abbrev pub invariant-loop-known : goal.invariant-loop-known
invariant-loop-known l = text_in (rows_of (drop l.known-index l.table)) l.fn.name ≡ text_in (rows_of l.table) l.fn.name
