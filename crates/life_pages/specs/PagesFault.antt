-- The number and the name of each refusal of a message, and the number of each fault of serving a stream.
use Rattle.std.specs.Prelude.{ℕ, codes}
use Rattle.life_core.specs.CoreFault.{Label, label}
use Rattle.life_pages.specs.declared.pages_fault.MessageRefusal.{MessageRefusal}
use Rattle.life_pages.specs.declared.pages_fault.MessageRefusal.TheVariants.{NoSuchRoute, BadMethod, BadMessage}
use Rattle.life_pages.specs.declared.pages_fault.IoFault.{IoFault}
use Rattle.life_pages.specs.declared.pages_fault.IoFault.TheVariants.{Read, Write, TooManyReads, Memory}

-- numbers continue after the archive's refusals, which end at 11
abbrev pub label_of : MessageRefusal → Label
label_of NoSuchRoute = label 12 (codes "no-such-page")
label_of BadMethod = label 13 (codes "bad-method")
label_of BadMessage = label 14 (codes "bad-message")

abbrev pub io_fault_number : IoFault → ℕ
io_fault_number Read = 1
io_fault_number Write = 2
io_fault_number TooManyReads = 3
io_fault_number Memory = 4
