-- Conway's Life by exactly one of four bits of value 2.
use Rattle.std.proofs.Common.{◌≡◌, ℕ, ◌+◌, ◌*◌, ◌%◌, ◌<◌, max, min, Bool, true, false, nat_eq, ◌||◌, [], ◌∷◌, sym, ap}
use Rattle.std.proofs.Common.{◌∙◌, if◌then◌else◌, arith}
use Rattle.std.proofs.lemmas.Bool.Decides.{nat_tests}
use Rattle.std.specs.FinSet as set
use Rattle.life_core.specs.Rule.{life, lives_at}
use Rattle.life_core.specs.PackedRow.{one_if}

life_lives : (live : Bool) (n : ℕ)
    → lives_at life live n ≡ (if live then nat_eq 2 n || (nat_eq 3 n || false) else nat_eq 3 n || false)
life_lives true n = set.contains-from_list_nat (2 ∷ 3 ∷ []) n
life_lives false n = set.contains-from_list_nat (3 ∷ []) n

-- s: the lower digits' lower digit; k: their upper one; the upper digits a, m, c
one_of_four : (h s k a m c : ℕ) → h < 2 → s < 2 → k < 2 → a < 2 → m < 2 → c < 2
    → min ((((a + m) % 2 + (c + k) % 2) % 2 + min (((a + m) % 2 + (c + k) % 2) % 2) (max (min a m) (min c k))) % 2)
    (max s h)
    ≡ (if (if nat_eq h 1 then nat_eq 2 (s + 2 * (k + (a + (m + c)))) || (nat_eq 3 (s + 2 * (k + (a + (m + c))))
    || false) else nat_eq 3 (s + 2 * (k + (a + (m + c)))) || false) then 1 else 0)
one_of_four h s k a m c hh ss kk aa mm cc = grind (arith, nat_tests)

pub one_of_four_lives : (h s k a m c n : ℕ) → h < 2 → s < 2 → k < 2 → a < 2 → m < 2 → c < 2
    → n ≡ s + 2 * (k + (a + (m + c)))
    → min ((((a + m) % 2 + (c + k) % 2) % 2 + min (((a + m) % 2 + (c + k) % 2) % 2) (max (min a m) (min c k))) % 2)
    (max s h) ≡ one_if (lives_at life (nat_eq h 1) n)
one_of_four_lives h s k a m c n hh ss kk aa mm cc is =
    one_of_four h s k a m c hh ss kk aa mm cc ∙ ap one_if (sym (life_lives (nat_eq h 1) (s + 2 * (k + (a + (m + c))))))
    ∙ ap (λ q. one_if (lives_at life (nat_eq h 1) q)) (sym is)
