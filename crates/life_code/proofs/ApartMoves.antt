-- If two parts of a set evolve independently and move differently, the set never returns, because it grows wider or
-- higher.
use Rattle.std.specs.Prelude.{◌≡◌, ℕ, zero, suc, ◌+◌, ◌*◌, ◌≤◌, ℤ, pos, negsuc, neg_ℤ, ◌+ℤ◌, ◌*ℤ◌, ◌≤ℤ◌, true, List, []}
use Rattle.std.specs.Prelude.{◌∷◌, refl}
use Rattle.std.proofs.Common.{sym, ap, subst, ◌∙◌, inl, inr, arith}
use Rattle.std.specs.List.{Contains}
use Rattle.std.proofs.lemmas.Bool.{false≢true, or_cases}
use Rattle.std.proofs.lemmas.Int.{ints, by_lt_z}
use Rattle.std.proofs.Math.IntN.{suc_ℤ-*ℤ, zero-*ℤ}
use Rattle.std.proofs.Math.Nat.{mul_comm}
use Rattle.std.specs.FinSet as set
use Rattle.life_core.specs.declared.cell.Cell.{Cell}
use Rattle.life_core.specs.declared.orientation.Orientation.TheVariants.{O0}
use Rattle.life_core.specs.Cell.{cell_at, IsCellWithin}
use Rattle.life_core.specs.Generations.{generation_of}
use Rattle.life_core.specs.Pattern.{Cells, IsWithin}
use Rattle.life_core.specs.Rule.{RuleSets}
use Rattle.life_core.proofs.GenerationsLaws.{cell_within_more}
use Rattle.life_core.proofs.PatternCorners.{Has, has_cell_of}
use Rattle.life_core.proofs.PatternMembers.{same_cell, has_cell, same_cell-true, contains-items}
use Rattle.life_core.proofs.Placements.{minus, plus, minus_plus, moved, contains-placed}
use Rattle.life_code.specs.Apart.{union_of}
use Rattle.life_code.specs.CodeLaws.{PartingNeverReturns}
use Rattle.life_code.specs.Period.{Returns}
use Rattle.life_code.proofs.ApartUnions.{generation-union_of, in_from_contains, in_union_of}
use Rattle.life_code.proofs.PeriodLemmas.{many, return_of_multiple}

-- f is the column or the row of a cell, or one of these taken negative
pub record IsDirection (f : Cell → ℤ) : Type 0 where
  pub sums : (c d : Cell) → f (plus c d) ≡ f c +ℤ f d
  pub multiples : (n : ℕ) (c : Cell) → f (many n c) ≡ pos n *ℤ f c
  pub back : (c : Cell) → f (minus c) ≡ neg_ℤ (f c)

-- two moves of which one goes further, made n times, are n apart
further : (n : ℕ) (a b : ℤ) → (a +ℤ pos 1) ≤ℤ b → ((pos n *ℤ a) +ℤ pos n) ≤ℤ (pos n *ℤ b)
further zero a b less =
    let e = zero-*ℤ a in
    let h = zero-*ℤ b in
    omega (arith, ints)
further (suc n) a b less =
    let before = further n a b less in
    let e = suc_ℤ-*ℤ (pos n) a in
    let h = suc_ℤ-*ℤ (pos n) b in
    omega (arith, ints)

module _ (f : Cell → ℤ) (along : IsDirection f) where
  -- where a cell of X lies before the move u
  before_move : (X : Cells) (u d : Cell) → Has (moved u X) d → Has X (plus d (minus u))
  before_move X u d has = sym (contains-placed O0 u X d) ∙ has

  -- two cells of X that moved by a and b and are again in X moved by u are not further apart than X is wide
  stay_near : (k : ℕ) (X : Cells) → ((c : Cell) → Has X c → (neg_ℤ (pos k) ≤ℤ f c) × (f c ≤ℤ pos k))
      → (c d a b u : Cell) → Has X c → Has X d → Has (moved u X) (plus c a) → Has (moved u X) (plus d b)
      → f b ≤ℤ (f a +ℤ pos (4 * k))
  stay_near k X inside c d a b u has_c has_d has_a has_b =
      let at_c = inside c has_c in
      let at_d = inside d has_d in
      let at_a = inside (plus (plus c a) (minus u)) (before_move X u (plus c a) has_a) in
      let at_b = inside (plus (plus d b) (minus u)) (before_move X u (plus d b) has_b) in
      let e : f (plus (plus c a) (minus u)) ≡ f c +ℤ f a +ℤ neg_ℤ (f u) = along.sums (plus c a) (minus u)
      ∙ (λ i. along.sums c a i +ℤ along.back u i) in
      let h : f (plus (plus d b) (minus u)) ≡ f d +ℤ f b +ℤ neg_ℤ (f u) = along.sums (plus d b) (minus u)
      ∙ (λ i. along.sums d b i +ℤ along.back u i) in
      omega (arith, ints)

pub column_direction : IsDirection (λ c. c.column)
column_direction = record { sums = λ c d. refl; multiples = λ n c. refl; back = λ c. refl }

pub row_direction : IsDirection (λ c. c.row)
row_direction = record { sums = λ c d. refl; multiples = λ n c. refl; back = λ c. refl }

-- a cell of P, moved as P is, is in P moved
after_move : (P : Cells) (u c : Cell) → Has P c → Has (moved u P) (plus c u)
after_move P u c has = contains-placed O0 u P (plus c u) ∙ ap (set.contains P) (minus_plus c u) ∙ has

-- X, and two sets P and Q whose generations lie in those of X, all of which come back after n generations, P moved by
-- a, Q by b and X by w
pub record ComeBack (r : RuleSets) (X P Q : Cells) (n : ℕ) (a b w : Cell) : Type 0 where
  pub first : (j : ℕ) (c : Cell) → Has (generation_of r P j) c → Has (generation_of r X j) c
  pub second : (j : ℕ) (c : Cell) → Has (generation_of r Q j) c → Has (generation_of r X j) c
  pub first_back : Returns r P n a.column a.row
  pub second_back : Returns r Q n b.column b.row
  pub whole_back : Returns r X n w.column w.row

-- then neither moves further than the other
not_further : (f : Cell → ℤ) → IsDirection f → (r : RuleSets) (X P Q : Cells) (n : ℕ) (a b w : Cell)
    → ComeBack r X P Q n a b w → (c d : Cell) → Has P c → Has Q d
    → (k : ℕ) → ((e : Cell) → Has X e → (neg_ℤ (pos k) ≤ℤ f e) × (f e ≤ℤ pos k)) → ¬ ((f a +ℤ pos 1) ≤ℤ f b)
not_further f along r X P Q n a b w back c d has_c has_d k inside less =
    let j = suc (4 * k) in
    let there : (R : Cells) (u e : Cell) → Returns r R n u.column u.row
    → ((c : Cell) → Has (generation_of r R (j * n)) c → Has (generation_of r X (j * n)) c)
    → Has R e → Has (moved (many j w) X) (plus e (many j u)) =
    λ R u e returns inner has.
    subst (λ Y. Has Y (plus e (many j u))) (return_of_multiple r X n w back.whole_back j)
    (inner (plus e (many j u)) (subst (λ Y. Has Y (plus e (many j u))) (sym (return_of_multiple r R n u returns j))
    (after_move R (many j u) e has))) in
    let near = stay_near f along k X inside c d (many j a) (many j b) (many j w) (back.first 0 c has_c)
    (back.second 0 d has_d)
    (there P a c back.first_back (back.first (j * n)) has_c)
    (there Q b d back.second_back (back.second (j * n)) has_d) in
    let far = further j (f a) (f b) less in
    let e = along.multiples j a in
    let h = along.multiples j b in
    let no : ⊥ = omega (arith, ints) in no

-- ---- each set lies within some square

bound : (z : ℤ) → (k : ℕ) × (neg_ℤ (pos k) ≤ℤ z) × (z ≤ℤ pos k)
bound (pos n) = (n, omega (arith, ints), omega (arith, ints))
bound (negsuc n) = (suc n, omega (arith, ints), omega (arith, ints))

within_list : (cs : List Cell) → (k : ℕ) × ((c : Cell) → has_cell cs c ≡ true → IsCellWithin k c)
within_list [] = (0, λ c h. absurd (false≢true h))
within_list (x ∷ xs) =
    let rest = within_list xs in
    let row = bound x.row in
    let column = bound x.column in (
      rest.0 + row.0 + column.0,
      λ c h. elim (or_cases (same_cell c x) (has_cell xs c) h) [
        | inl same ↦
            subst (IsCellWithin (rest.0 + row.0 + column.0)) (sym (same_cell-true c x same))
            (here rest.0 row.0 column.0 row.1 row.2 column.1 column.2)
        | inr later ↦ cell_within_more rest.0 (rest.0 + row.0 + column.0) c (omega arith) (rest.1 c later)
      ],
    )
  where
    here : (k m n : ℕ) → (neg_ℤ (pos m) ≤ℤ x.row) → (x.row ≤ℤ pos m) → (neg_ℤ (pos n) ≤ℤ x.column)
        → (x.column ≤ℤ pos n) → IsCellWithin (k + m + n) x
    here k m n a b c d = record {
      top = omega (arith, ints);
      bottom = omega (arith, ints);
      left = omega (arith, ints);
      right = omega (arith, ints);
    }

within_some : (X : Cells) → (k : ℕ) × IsWithin k X
within_some X = let all = within_list (set.items X) in (all.0, λ c h. all.1 c (sym (contains-items X c) ∙ h))

-- ---- parts that move apart

module _ (r : RuleSets) (X P Q : Cells) (n : ℕ) (a b w : Cell) (back : ComeBack r X P Q n a b w)
    (c d : Cell) (has_c : Has P c) (has_d : Has Q d) where
  mirrored : ComeBack r X Q P n b a w
  mirrored = record {
    first = back.second;
    second = back.first;
    first_back = back.second_back;
    second_back = back.first_back;
    whole_back = back.whole_back;
  }

  same_along : (f : Cell → ℤ) → IsDirection f → (k : ℕ)
      → ((e : Cell) → Has X e → (neg_ℤ (pos k) ≤ℤ f e) × (f e ≤ℤ pos k)) → f a ≡ f b
  same_along f along k inside =
      let less = not_further f along r X P Q n a b w back c d has_c has_d k inside in
      let more = not_further f along r X Q P n b a w mirrored d c has_d has_c k inside in
      by_lt_z (f a) (f b) (λ below. absurd (less (omega (arith, ints))))
      (λ above. by_lt_z (f b) (f a) (λ below. absurd (more (omega (arith, ints)))) (λ least. omega (arith, ints)))

  -- both move by as much
  pub same_move : (a.column ≡ b.column) × (a.row ≡ b.row)
  same_move =
      let all = within_some X in (
        same_along (λ e. e.column) column_direction all.0
            (λ e h. let inside = all.1 e h in (inside.left, inside.right)),
        same_along (λ e. e.row) row_direction all.0 (λ e h. let inside = all.1 e h in (inside.top, inside.bottom)),
      )

-- as far in n times as many generations, as far in one
same_once : (n : ℕ) (a b : ℤ) → 1 ≤ n → (pos n *ℤ a) ≡ (pos n *ℤ b) → a ≡ b
same_once n a b some same = by_lt_z a b
    (λ below. absurd (let h = further n a b (omega (arith, ints)) in let no : ⊥ = omega (arith, ints) in no))
    (λ above. by_lt_z b a (λ below. absurd (let h = further n b a (omega (arith, ints)) in
    let no : ⊥ = omega (arith, ints) in no)) (λ least. omega (arith, ints)))

pub parting_never_returns : PartingNeverReturns
parting_never_returns r Ps quiet apart P Q p q dx dy ex ey in_P in_Q some_P some_Q from_p from_q
    back_P back_Q differ n from fx fy back =
    let X = union_of Ps in
    let inner : (R : Cells) → Contains Ps R → (j : ℕ) (c : Cell) → Has (generation_of r R j) c
    → Has (generation_of r X j) c =
    λ R held j c has. ap (λ Y. set.contains Y c) (generation-union_of r Ps quiet apart j)
    ∙ in_union_of (λ S. generation_of r S j) Ps R c (in_from_contains Ps R held) has in
    let v = cell_at (dx, dy) in
    let u = cell_at (ex, ey) in
    let w = cell_at (fx, fy) in
    let first : Returns r P (q * p) (many q v).column (many q v).row = return_of_multiple r P p v back_P q in
    let second : Returns r Q (q * p) (many p u).column (many p u).row =
    subst (λ m. Returns r Q m (many p u).column (many p u).row) (mul_comm p q) (return_of_multiple r Q q u back_Q p) in
    let whole : Returns r X (n * (q * p)) (many (q * p) w).column (many (q * p) w).row =
    subst (λ m. Returns r X m (many (q * p) w).column (many (q * p) w).row) (mul_comm (q * p) n)
    (return_of_multiple r X n w back (q * p)) in
    let together : ComeBack r X P Q (n * (q * p)) (many n (many q v)) (many n (many p u)) (many (q * p) w) =
    record {
      first = inner P in_P;
      second = inner Q in_Q;
      first_back = return_of_multiple r P (q * p) (many q v) first n;
      second_back = return_of_multiple r Q (q * p) (many p u) second n;
      whole_back = whole;
    } in
    let c = has_cell_of P some_P in
    let d = has_cell_of Q some_Q in
    let same = same_move r X P Q (n * (q * p)) _ _ _ together c.0 d.0 c.1 d.1 in
    differ (same_once n _ _ from same.0, same_once n _ _ from same.1)
