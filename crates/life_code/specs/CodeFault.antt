-- The number and the name of each fault of a code.
use Rattle.std.specs.Prelude.{codes}
use Rattle.life_core.specs.CoreFault.{Label, label}
use Rattle.life_code.specs.declared.code_fault.CodeFault.{CodeFault}
use Rattle.life_code.specs.declared.code_fault.CodeFault.TheVariants.{BadText, NotCanonical, NotWithinLimit, Memory}

-- NotWithinLimit is checked before NotCanonical
abbrev pub label_of : CodeFault → Label
label_of BadText = label 1 (codes "bad-text")
label_of NotCanonical = label 2 (codes "not-canonical")
label_of NotWithinLimit = label 3 (codes "not-within-limit")
label_of Memory = label 4 (codes "memory")
