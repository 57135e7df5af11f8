-- Faults of reading and writing files: their numbers and names, and the results that a function that reads may give.
use Rattle.std.specs.Prelude.{◌≡◌, ◌⊎◌, ℕ, List, codes, Result, Ok, Err}
use Rattle.life_core.specs.CoreFault.{Label, label}
use Rattle.life_core.specs.declared.rule_text.RuleFault.{RuleFault}
use Rattle.life_core.specs.declared.rule_text.RuleFault.TheVariants as rule_faults
use Rattle.life_rle.specs.declared.rle_fault.RleFault.{RleFault}
use Rattle.life_rle.specs.declared.rle_fault.RleFault.TheVariants.{TooLong, TextLimit, NoHeader, BadHeader, BadRule}
use Rattle.life_rle.specs.declared.rle_fault.RleFault.TheVariants.{BirthZero, OtherTag, BadCount, TooWide, NoEnd}
use Rattle.life_rle.specs.declared.rle_fault.RleFault.TheVariants.{Memory}
use Rattle.life_rle.specs.declared.rle_fault.ReadFault.{ReadFault}
use Rattle.life_rle.specs.declared.rle_fault.ReadFault.TheVariants.{Rle, Unreadable}
use Rattle.life_rle.specs.declared.rle_fault.WriteFault.{WriteFault}
use Rattle.life_rle.specs.declared.rle_fault.WriteFault.TheVariants.{Unwritable}
use Rattle.life_rle.specs.declared.rle_fault.WriteFault.TheVariants as write_faults

-- the number and the name of each fault, in the order in which they are checked; out of memory may occur at any point
abbrev pub label_of : RleFault → Label
label_of TooLong = label 1 (codes "too-long")
label_of TextLimit = label 2 (codes "text-limit")
label_of NoHeader = label 3 (codes "no-header")
label_of BadHeader = label 4 (codes "bad-header")
label_of BadRule = label 5 (codes "bad-rule")
label_of BirthZero = label 6 (codes "birth-zero")
label_of OtherTag = label 7 (codes "other-tag")
label_of BadCount = label 8 (codes "bad-count")
label_of TooWide = label 9 (codes "too-wide")
label_of NoEnd = label 10 (codes "no-end")
label_of Memory = label 11 (codes "memory")

abbrev pub fault_number : RleFault → ℕ
fault_number fault = (label_of fault).number

abbrev pub fault_name : RleFault → List ℕ
fault_name fault = (label_of fault).name

-- a file's faults have their own numbers, and a failed read has the next one
abbrev pub read_fault_number : ReadFault → ℕ
read_fault_number (Rle fault) = fault_number fault
read_fault_number Unreadable = 12

abbrev pub write_fault_number : WriteFault → ℕ
write_fault_number Unwritable = 1
write_fault_number write_faults.Memory = 2

-- the fault of a file whose rule text has this fault
abbrev pub fault_of_rule : RuleFault → RleFault
fault_of_rule rule_faults.BadRule = BadRule
fault_of_rule rule_faults.BirthZero = BirthZero

-- a result about a rule, with its fault as a fault of the file
abbrev pub in_file : {X : Type 0} → Result X RuleFault → Result X RleFault
in_file (Ok x) = Ok x
in_file (Err fault) = Err (fault_of_rule fault)

infixl 10 ◌>>=◌
-- continues with the value that was read; a fault ends the reading
abbrev pub ◌>>=◌ : {A B : Type 0} → Result A RleFault → (A → Result B RleFault) → Result B RleFault
(Err fault) >>= f = Err fault
(Ok x) >>= f = f x

-- the fault is out of memory, or the one that `read` has
abbrev pub Fails : {X : Type 0} → RleFault → Result X RleFault → Type 0
Fails fault read = (fault ≡ Memory) ⊎ (read ≡ Err fault)

-- the result of a function is `read`, unless memory ran out
abbrev pub Gives : {X : Type 0} → Result X RleFault → Result X RleFault → Type 0
Gives (Ok x) read = read ≡ Ok x
Gives (Err fault) read = Fails fault read
