-- Rules as normal forms: the form of nine flags has the flags as its values.
use Rattle.std.proofs.Common.{◌≡◌, ℕ, ◌+◌, ◌*◌, ◌%◌, ◌<◌, Bool, true, false, List, get_or, nat_eq, if◌then◌else◌, sym}
use Rattle.std.proofs.Common.{ap, ◌∙◌, lit<, arith}
use Rattle.std.specs.Int.{bit_at}
use Rattle.std.specs.FinSet as set
use Rattle.std.proofs.lemmas.Nat.Bits.{bit_at-lt}
use Rattle.life_core.specs.Rule.{RuleSets, lives_at}
use Rattle.life_core.specs.RuleState.{flagged_counts}
use Rattle.life_core.specs.RuleFlags.{contains-flagged}
use Rattle.life_core.specs.PackedRow.{one_if}
use Rattle.life_core.specs.PackedRuleFormState.{toggled_bit, form_bit, part_bit, AreParts, IsForm}
use Rattle.life_core.specs.declared.packed.rule_form.RuleForm.{RuleForm}
use Rattle.life_core.proofs.WordDigits.{either_bit, picked}

pub toggled-lt : (x s y : ℕ) → toggled_bit x s y < 2
toggled-lt x s y = omega arith

-- a digit picks between two numbers of which one is toggled to the other
pub toggled_to : (x s y : ℕ) → x < 2 → s < 2 → y < 2 → toggled_bit x s ((x + y) % 2) ≡ (if nat_eq s 1 then y else x)
toggled_to x s y xl sl yl = either_bit s x y sl xl yl

-- what is toggled to another at once, and what is toggled to it by parts
pub toggled_sum : (x y s z w : ℕ) → s < 2 → z < 2 → w < 2
    → toggled_bit ((x + y) % 2) s ((z + w) % 2) ≡ (toggled_bit x s z + toggled_bit y s w) % 2
toggled_sum x y s z w sl zl wl = omega arith

-- two forms of two, by a further digit
pub four_bit : (a b c d o t : ℕ) → b < 2 → d < 2 → o < 2 → t < 2
    → toggled_bit (toggled_bit a o b) t (toggled_bit ((a + c) % 2) o ((b + d) % 2))
    ≡ (if nat_eq t 1 then toggled_bit c o d else toggled_bit a o b)
four_bit a b c d o t bl dl ol tl =
    ap (toggled_bit (toggled_bit a o b) t) (toggled_sum a c o b d ol bl dl)
    ∙ toggled_to (toggled_bit a o b) t (toggled_bit c o d) (toggled-lt a o b) tl (toggled-lt c o d)

-- two forms of four, by a further digit
pub eight_bit : (a b c d e f g h o t u : ℕ) → b < 2 → d < 2 → f < 2 → h < 2 → o < 2 → t < 2 → u < 2
    → toggled_bit (toggled_bit (toggled_bit a o b) t (toggled_bit c o d)) u
    (toggled_bit (toggled_bit ((a + e) % 2) o ((b + f) % 2)) t (toggled_bit ((c + g) % 2) o ((d + h) % 2)))
    ≡ (if nat_eq u 1 then toggled_bit (toggled_bit e o f) t (toggled_bit g o h)
    else toggled_bit (toggled_bit a o b) t (toggled_bit c o d))
eight_bit a b c d e f g h o t u bl dl fl hl ol tl ul =
    let low = toggled_bit (toggled_bit a o b) t (toggled_bit c o d) in
    let high = toggled_bit (toggled_bit e o f) t (toggled_bit g o h) in
    (λ i. toggled_bit low u (toggled_bit (toggled_sum a e o b f ol bl fl i) t (toggled_sum c g o d h ol dl hl i)))
    ∙ ap (toggled_bit low u) (toggled_sum (toggled_bit a o b) (toggled_bit e o f) t (toggled_bit c o d)
    (toggled_bit g o h) tl (toggled-lt c o d) (toggled-lt g o h))
    ∙ toggled_to low u high (toggled-lt _ t _) ul (toggled-lt _ t _)

-- the number that three digits name
pub picked_of_eight : (F : ℕ → ℕ) (o t f : ℕ) → o < 2 → t < 2 → f < 2
    → (if nat_eq f 1 then (if nat_eq t 1 then (if nat_eq o 1 then F 7 else F 6) else (if nat_eq o 1 then F 5 else F 4))
    else (if nat_eq t 1 then (if nat_eq o 1 then F 3 else F 2) else (if nat_eq o 1 then F 1 else F 0)))
    ≡ F (o + (2 * t + 4 * f))
picked_of_eight F o t f ol tl fl =
    let same : o + (2 * t + (4 * f + 8 * 0)) ≡ o + (2 * t + 4 * f) = omega arith in
    picked F o t f 0 ol tl fl (lit< tt) (omega arith) ∙ ap F same

-- the parts of births, and what toggles them to those of survivals, are the rule's form
pub form_is : (r : RuleSets) (m : RuleForm) (births survivals : List Bool) (other : List ℕ)
    → flagged_counts births ≡ r.birth → flagged_counts survivals ≡ r.survival
    → AreParts births m.parts → AreParts survivals other → ((n i : ℕ) → n < 9 → bit_at (get_or m.parts_here n 0) i
    ≡ (bit_at (get_or m.parts n 0) i + bit_at (get_or other n 0) i) % 2) → IsForm r m
form_is r m births survivals other birth survival dead live toggles = record {
  counts = λ i h o t f low hl ol tl fl.
      form_bit_of {P = part_bit m i h} {Q = λ n. if nat_eq h 1 then S i n else B i n} (part i h hl) o t f
      ∙ counted i low o t f ol tl fl (nat_eq h 1);
  eight =
      λ i h low hl. (λ u. toggled_bit (part i h hl 0 (lit< tt) u) 1 (part i h hl 8 (lit< tt) u))
      ∙ last i low (nat_eq h 1);
}
  where
    B : ℕ → ℕ → ℕ
    B i n = bit_at (get_or m.parts n 0) i

    S : ℕ → ℕ → ℕ
    S i n = bit_at (get_or other n 0) i

    part : (i h : ℕ) → h < 2 → (n : ℕ) → n < 9 → part_bit m i h n ≡ (if nat_eq h 1 then S i n else B i n)
    part i h hl n lt =
        ap (toggled_bit (B i n) h) (toggles n i lt)
        ∙ toggled_to (B i n) h (S i n) (bit_at-lt (get_or m.parts n 0) i) hl (bit_at-lt (get_or other n 0) i)

    form_bit_of : {P Q : ℕ → ℕ} → ((n : ℕ) → n < 9 → P n ≡ Q n) → (o t f : ℕ) → form_bit P o t f ≡ form_bit Q o t f
    form_bit_of e o t f =
        (λ u. toggled_bit
        (toggled_bit (toggled_bit (e 0 (lit< tt) u) o (e 1 (lit< tt) u)) t
        (toggled_bit (e 2 (lit< tt) u) o (e 3 (lit< tt) u)))
        f
        (toggled_bit (toggled_bit (e 4 (lit< tt) u) o (e 5 (lit< tt) u)) t
        (toggled_bit (e 6 (lit< tt) u) o (e 7 (lit< tt) u))))

    counted : (i : ℕ) → i < 64 → (o t f : ℕ) → o < 2 → t < 2 → f < 2 → (b : Bool)
        → form_bit (λ n. if b then S i n else B i n) o t f ≡ one_if (lives_at r b (o + (2 * t + 4 * f)))
    counted i low o t f ol tl fl true =
        live.counts i o t f low ol tl fl ∙ ap one_if (sym (contains-flagged survivals (o + (2 * t + 4 * f)))
        ∙ ap (λ s. set.contains s (o + (2 * t + 4 * f))) survival)
    counted i low o t f ol tl fl false =
        dead.counts i o t f low ol tl fl ∙ ap one_if
        (sym (contains-flagged births (o + (2 * t + 4 * f))) ∙ ap (λ s. set.contains s (o + (2 * t + 4 * f))) birth)

    last : (i : ℕ) → i < 64 → (b : Bool)
        → toggled_bit (if b then S i 0 else B i 0) 1 (if b then S i 8 else B i 8) ≡ one_if (lives_at r b 8)
    last i low true =
        live.eight i low ∙ ap one_if (sym (contains-flagged survivals 8) ∙ ap (λ s. set.contains s 8) survival)
    last i low false = dead.eight i low ∙ ap one_if (sym (contains-flagged births 8) ∙ ap (λ s. set.contains s 8) birth)
