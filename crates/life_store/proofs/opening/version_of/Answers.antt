use Rattle.std.proofs.Common.{rules, ◌≡◌, ◌∙◌, refl, false, subst}
use Rattle.std.specs.Prelude.{IfOk}
use Rattle.life_store.specs.OpeningState.{has_table, version_with, rows_of_version}
use Rattle.life_store.proofs.StatementTexts.{layout_name, flags_name}
use Rattle.life_store.proofs.OpenLemmas.{layout_not, told_by_flags, found_version}
use Rattle.life_store.proofs.opening.version_of.Goals as goal

pub returns-then-not-has_table-clause-ours : goal.returns-then-not-has_table-clause-ours
returns-then-not-has_table-clause-ours g c schema own known healthy have same =
    let none : has_table c.schema.result.now.tables layout_name ≡ false = search (rules) in
    absurd (layout_not c.schema.result.now schema own known (c.schema.ensures.value ∙ have.schema) none)

pub returns-in-Ok-clause-found : goal.returns-in-Ok-clause-found
returns-in-Ok-clause-found g c schema own versions known healthy have =
    let flags : c.has_table-has_flags.result ≡ has_table schema.tables flags_name = search (rules) in
    let slice : c.as_slice-in-Ok.result.now ≡ c.in-Ok.rows.items = search rules in
    found_version c.version_named.result schema own versions c.has_table-has_flags.result c.in-Ok.rows.items known flags
    (c.in-Ok.ensures.tells schema own versions known healthy have)
    (subst (λ rows. IfOk c.version_named.result (λ v. (v ≡ version_with c.has_table-has_flags.result)
    × (rows ≡ rows_of_version v))) slice c.version_named.ensures.found)

pub returns-in-Ok-clause-ours : goal.returns-in-Ok-clause-ours
returns-in-Ok-clause-ours g c schema own known healthy have =
    let flags : c.has_table-has_flags.result ≡ has_table schema.tables flags_name = search (rules) in
    let slice : c.as_slice-in-Ok.result.now ≡ c.in-Ok.rows.items = search rules in
    c.version_named.ensures.named (slice ∙ (c.in-Ok.ensures.tells schema own own known healthy have).1 refl
    ∙ (told_by_flags schema own c.has_table-has_flags.result known flags).1)
