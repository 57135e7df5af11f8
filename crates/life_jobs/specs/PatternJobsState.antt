-- The answers of the steps of a job.
use Rattle.life_code.specs.declared.code_fault.CodeFault.{CodeFault}
use Rattle.life_code.specs.declared.code_fault.CodeFault.TheVariants as code_faults
use Rattle.life_jobs.specs.declared.stop.Stop.{Stop}
use Rattle.life_jobs.specs.declared.stop.Stop.TheVariants.{BadCode, Unavailable}

-- the stop for a code that can't be opened; out of memory is not a fault of the code
abbrev pub code_stop : CodeFault → Stop
code_stop code_faults.Memory = Unavailable
code_stop fault = BadCode fault
