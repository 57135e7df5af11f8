use Rattle.std.proofs.Common.{rules, unsigned_abs, ◌-ℤ◌, SFits, w64, to_z-of_z, ◌∙◌}
use Rattle.life_census.proofs.SteadySweep.{near_then, near_else}
use Rattle.life_census.proofs.meeting.is_near.Goals as goal

pub returns-then-abs_diff-le2 : goal.returns-then-abs_diff-le2
returns-then-abs_diff-le2 c =
    let row : SFits w64 c.args.a.row = search rules in
    let row_too : SFits w64 c.args.b.row = search rules in
    let column : SFits w64 c.args.a.column = search rules in
    let column_too : SFits w64 c.args.b.column = search rules in
    near_then c.args.a c.args.b _ _
    (c.abs_diff.ensures ∙ (λ i. unsigned_abs (to_z-of_z row i -ℤ to_z-of_z row_too i))) c.if-abs_diff-le2.true
    (c.abs_diff-then-abs_diff-le2.ensures ∙ (λ i. unsigned_abs (to_z-of_z column i -ℤ to_z-of_z column_too i)))

pub returns-else-abs_diff-le2 : goal.returns-else-abs_diff-le2
returns-else-abs_diff-le2 c =
    let row : SFits w64 c.args.a.row = search rules in
    let row_too : SFits w64 c.args.b.row = search rules in
    near_else c.args.a c.args.b _ (c.abs_diff.ensures ∙ (λ i. unsigned_abs (to_z-of_z row i -ℤ to_z-of_z row_too i)))
    c.if-abs_diff-le2.false
