use Rattle.std.proofs.Common.{◌≡◌, ◌-◌, length, get_or, set, pos, ap, ◌∙◌, inl, inr, arith}
use Rattle.life_core.specs.declared.runs.Run.{Run}
use Rattle.life_core.proofs.RunsLemmas.{split_last, last_is, set_last, longer}
use Rattle.life_core.proofs.runs.lengthen_last.Goals as goal

abbrev none : Run
none = record { row = pos 0; first = pos 0; len = 0 }

pub overflow_add-runs : goal.overflow_add-runs
overflow_add-runs c = elim (split_last c.args.runs.now) [
  | inl no_run ↦ absurd (let long = ap length no_run in omega (arith, long, c.requires.some.some))
  | inr it ↦
      let fits = c.requires.some.fits it.0 it.1 it.2 in
      let same : (get_or c.args.runs.now (length c.args.runs.now - 1) none).len ≡ it.1.len =
      ap (λ (r : Run). r.len) (last_is c.args.runs.now it.0 it.1 none it.2) in
      record { fits = omega (arith, fits, same) }
]

pub returns : goal.returns
returns c front last is =
    let same = last_is c.args.runs.now front last none is in
    ap (λ (r : Run). set c.args.runs.now (length c.args.runs.now - 1) (longer r c.args.more)) same
    ∙ set_last c.args.runs.now front last (longer last c.args.more) is
