-- The faults of arguments.
use Rattle.std.specs.Prelude.{◌≡◌, ◌≢◌, ℕ, None, Some}
use Rattle.clap.specs.Words.{kind_of}
use Rattle.clap.specs.declared.error.Error.{Error}
use Rattle.clap.specs.declared.error.kind.ErrorKind.TheVariants.{OutOfMemory}
use Rattle.life_words.specs.declared.word_fault.WordFault.{WordFault}
use Rattle.life_words.specs.declared.word_fault.WordFault.TheVariants.{BadWords, Memory}

-- 1 for a usage error or a request for help, 2 for out of memory
abbrev pub number_of : WordFault → ℕ
number_of (BadWords error) = 1
number_of Memory = 2

-- clap's error becomes `Memory` if it is out of memory; any other error is kept unchanged
abbrev pub ComesFrom : Error → WordFault → Type 0
ComesFrom error Memory = kind_of error ≡ OutOfMemory
ComesFrom error (BadWords None) = ⊥
ComesFrom error (BadWords (Some kept)) = (kept ≡ error) × (kind_of error ≢ OutOfMemory)
