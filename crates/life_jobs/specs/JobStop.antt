-- The lines that a job over a file or a code prints on standard error, each without its line end.
use Rattle.std.specs.Prelude.{ℕ, List, [], ◌++◌, codes}
use Rattle.life_rle.specs.declared.rle_fault.RleFault.TheVariants as rle_faults
use Rattle.life_rle.specs.RleFault as rle
use Rattle.life_code.specs.declared.code_fault.CodeFault.TheVariants as code_faults
use Rattle.life_code.specs.CodeFault as code
use Rattle.life_jobs.specs.declared.stop.Stop.{Stop}
use Rattle.life_jobs.specs.declared.stop.Stop.TheVariants.{OutOfLimit, BadPattern, BadRule, BadCode, Unreadable}
use Rattle.life_jobs.specs.declared.stop.Stop.TheVariants.{Unavailable, Unwritable}

-- the line for a stop, such as `refused: bad-pattern no-end`; empty if standard output failed
abbrev pub line_of : Stop → List ℕ
line_of OutOfLimit = codes "refused: out-of-limit"
line_of (BadPattern rle_faults.Memory) = codes "refused: unavailable"
line_of (BadPattern fault) = codes "refused: bad-pattern " ++ rle.fault_name fault
line_of BadRule = codes "refused: bad-rule"
line_of (BadCode code_faults.Memory) = codes "refused: unavailable"
line_of (BadCode fault) = codes "refused: bad-code " ++ (code.label_of fault).name
line_of Unreadable = codes "refused: unreadable"
line_of Unavailable = codes "refused: unavailable"
line_of Unwritable = []
