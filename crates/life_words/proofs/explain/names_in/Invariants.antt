use Rattle.std.proofs.Common.{◌≡◌, map, take}
use Rattle.life_words.specs.Explain.{rows_of, names_of}
use Rattle.life_words.proofs.explain.names_in.Given as goal

abbrev pub invariant-loop-name : goal.invariant-loop-name
invariant-loop-name l = map (λ name. name.now) l.names.items ≡ names_of (rows_of (take l.name-index l.table))
