-- Rules as algebraic normal forms: the XOR of ANDs of the binary digits of a count, with parts that depend on whether
-- the place is live.
use Rattle.std.specs.Prelude.{◌≡◌, ℕ, ◌+◌, ◌*◌, ◌%◌, ◌<◌, Bool, false, List, min, nat_eq, slice_index_or}
use Rattle.std.specs.Int.{bit_at}
use Rattle.life_core.specs.PackedRow.{one_if}
use Rattle.life_core.specs.Rule.{RuleSets, lives_at}
use Rattle.life_core.specs.declared.packed.rule_form.RuleForm.{RuleForm}

-- x, toggled by y if s is set
abbrev pub toggled_bit : ℕ → ℕ → ℕ → ℕ
toggled_bit x s y = (x + min s y) % 2

-- the value of the form with the parts P at the count o + 2 t + 4 f
abbrev pub form_bit : (ℕ → ℕ) → ℕ → ℕ → ℕ → ℕ
form_bit P o t f =
    toggled_bit
    (toggled_bit (toggled_bit (P 0) o (P 1)) t (toggled_bit (P 2) o (P 3)))
    f
    (toggled_bit (toggled_bit (P 4) o (P 5)) t (toggled_bit (P 6) o (P 7)))

-- the form with these parts has the nine flags as its values
pub record AreParts (flags : List Bool) (parts : List ℕ) : Type 0 where
  pub counts : (i o t f : ℕ) → i < 64 → o < 2 → t < 2 → f < 2 → form_bit (λ n. bit_at (slice_index_or parts n 0) i)
      o t f ≡ one_if (slice_index_or flags (o + (2 * t + 4 * f)) false)
  pub eight : (i : ℕ) → i < 64 → toggled_bit (bit_at (slice_index_or parts 0 0) i) 1
      (bit_at (slice_index_or parts 8 0) i) ≡ one_if (slice_index_or flags 8 false)

-- bit i of part n of the form, at a live place (h is 1) or a dead one (h is 0)
abbrev pub part_bit : RuleForm → ℕ → ℕ → ℕ → ℕ
part_bit m i h n = toggled_bit (bit_at (slice_index_or m.parts n 0) i) h (bit_at (slice_index_or m.parts_here n 0) i)

-- the form gives the same answer as the rule, for live and dead places and all counts
pub record IsForm (r : RuleSets) (m : RuleForm) : Type 0 where
  pub counts : (i h o t f : ℕ) → i < 64 → h < 2 → o < 2 → t < 2 → f < 2
      → form_bit (part_bit m i h) o t f ≡ one_if (lives_at r (nat_eq h 1) (o + (2 * t + 4 * f)))
  pub eight : (i h : ℕ) → i < 64 → h < 2
      → toggled_bit (part_bit m i h 0) 1 (part_bit m i h 8) ≡ one_if (lives_at r (nat_eq h 1) 8)
