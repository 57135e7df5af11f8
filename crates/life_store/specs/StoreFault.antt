-- Why an archive is not opened.
use Rattle.std.specs.Prelude.{ℕ}
use Rattle.life_store.specs.declared.store_fault.OpenFault.{OpenFault}
use Rattle.life_store.specs.declared.store_fault.OpenFault.TheVariants.{BadCapacity, NotOurs, Unavailable}

-- the numbers of the faults
abbrev pub fault_number : OpenFault → ℕ
fault_number BadCapacity = 1
fault_number NotOurs = 2
fault_number Unavailable = 3
