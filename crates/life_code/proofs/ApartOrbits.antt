-- Orbits: the invariant of their search, and when two parts are never near each other.
use Rattle.std.specs.Prelude.{◌≡◌, ◌≢◌, ℕ, zero, suc, ◌+◌, ◌/◌, ◌%◌, ◌<◌, ◌≤◌, ℤ, pos, ◌+ℤ◌, ◌-ℤ◌, ◌*ℤ◌, ◌≤ℤ◌, List}
use Rattle.std.specs.Prelude.{refl}
use Rattle.std.specs.List.{All}
use Rattle.std.proofs.Common.{sym, ap, subst, ◌∙◌, inl, inr, ⊎_elim, arith}
use Rattle.std.proofs.Math.IntN.{suc_ℤ-*ℤ, zero-*ℤ}
use Rattle.std.proofs.lemmas.Bool.{cases_lt, false_from_ne_true}
use Rattle.std.proofs.lemmas.Int.{ints}
use Rattle.std.proofs.lemmas.List.Elements.{All-contains}
use Rattle.std.proofs.lemmas.Map.Views.{Contains-from_any}
use Rattle.std.specs.FinSet as set
use Rattle.life_core.specs.declared.cell.Cell.{Cell}
use Rattle.life_core.specs.declared.orientation.Orientation.TheVariants.{O0}
use Rattle.life_core.specs.Cell.{cell_at, cell_cmp, moved_cell}
use Rattle.life_core.specs.Generations.{generation_of}
use Rattle.life_core.specs.Pattern.{Cells, image, in_order, IsWithin}
use Rattle.life_core.specs.Rule.{RuleSets}
use Rattle.life_core.proofs.GenerationsLaws.{generation_within, within_more}
use Rattle.life_core.proofs.PatternCorners.{Has}
use Rattle.life_core.proofs.PatternMembers.{same_cell-true, contains-list}
use Rattle.life_core.proofs.PatternOrder.{from_list_of}
use Rattle.life_core.proofs.Placements.{minus, plus, plus_minus, moved, contains-placed, len-placed}
use Rattle.life_code.specs.declared.apart.Orbit.{Orbit}
use Rattle.life_code.specs.declared.part_frames.Frame.{Frame}
use Rattle.life_code.specs.declared.period.TheConstants.{PERIOD_LIMIT}
use Rattle.life_code.specs.Apart.{near, AreApart}
use Rattle.life_code.specs.ApartState.{IsOrbit, ComesNoNearer, KeepsLeft, KeepsAbove, KeepsUpperLeft, KeepsUpperRight}
use Rattle.life_code.specs.ApartState.{KeepsAside, KeepApart}
use Rattle.life_code.specs.PartFramesState.{IsInFrame, IsWider, HasMoved}
use Rattle.life_code.proofs.ApartNear.{near_within, near_symmetric}
use Rattle.life_code.proofs.PartFramesLemmas.{wider_has, moved_has}
use Rattle.life_code.proofs.PeriodKinds.{some_len}
use Rattle.life_code.proofs.PeriodLemmas.{many, phase_mod, generation-moved, return_of_placed}

-- ---- the search

-- each generation of a part lies on the plane
pub orbit_room : (r : RuleSets) (X Y : Cells) → IsWithin 500000000 X → (p : ℕ) → p ≤ PERIOD_LIMIT
    → Y ≡ generation_of r X p → IsWithin 999999999 Y
orbit_room r X Y h p few is =
    subst (IsWithin 999999999) (sym is)
    (within_more (500000000 + p) 999999999 (generation_of r X p) (omega arith) (generation_within r 500000000 X p h))

-- a box that has the listed cells of X has all
pub has_all : (X : Cells) (f : Frame) (cs : List Cell) → cs ≡ in_order X → All (IsInFrame f) cs
    → (c : Cell) → Has X c → IsInFrame f c
has_all X f cs listed all c has =
    All-contains (IsInFrame f) cs c all (Contains-from_any same_cell-true c cs
    (sym (contains-list cs c) ∙ ap (λ Y. set.contains Y c) (from_list_of X cs listed) ∙ has))

-- one generation more in the box
pub has_more : (r : RuleSets) (X : Cells) (f g : Frame) (p : ℕ)
    → ((i : ℕ) (c : Cell) → i < p → Has (generation_of r X i) c → IsInFrame f c) → IsWider f g
    → ((c : Cell) → Has (generation_of r X p) c → IsInFrame g c) → (i : ℕ) (c : Cell) → i < p + 1
    → Has (generation_of r X i) c → IsInFrame g c
has_more r X f g p before wider here i c below has =
    ⊎_elim (λ h. wider_has f g c wider (before i c h has))
    (λ h. here c (subst (λ k. Has (generation_of r X k) c) (let e : i ≡ p = omega arith in e) has)) (cases_lt i p)

-- x and y are the move as the code gives it on
pub orbit_found : (r : RuleSets) (X Y Z : Cells) (p : ℕ) (dx dy x y : ℤ) (f : Frame) → x ≡ dx
    → y ≡ dy → Y ≡ X → Z ≡ generation_of r X p → Y ≢ set.empty → image (moved_cell dx dy) Y ≡ Z → 1 ≤ p
    → ((i : ℕ) (c : Cell) → i < p → Has (generation_of r X i) c → IsInFrame f c)
    → IsOrbit r X (record { period = p; dx = x; dy = y; frame = f })
orbit_found r X Y Z p dx dy x y f columns rows start now some move from inside =
    subst (λ (v : ℤ × ℤ). IsOrbit r X (record { period = p; dx = v.0; dy = v.1; frame = f }))
    (λ i. (sym columns i, sym rows i))
    (record {
      some = λ none. some (start ∙ none);
      from = from;
      back = sym now ∙ sym move ∙ ap (image (moved_cell dx dy)) start;
      inside = inside;
    })

-- ---- orbits that are never near

-- as many times no further
no_further : (n : ℕ) (a b : ℤ) → a ≤ℤ b → (pos n *ℤ a) ≤ℤ (pos n *ℤ b)
no_further zero a b less =
    let e = zero-*ℤ a in
    let h = zero-*ℤ b in
    omega (arith, ints)
no_further (suc n) a b less =
    let before = no_further n a b less in
    let e = suc_ℤ-*ℤ (pos n) a in
    let h = suc_ℤ-*ℤ (pos n) b in
    omega (arith, ints)

no_move : (n : ℕ) → (pos n *ℤ pos 0) ≡ pos 0
no_move zero = refl
no_move (suc n) = let e = suc_ℤ-*ℤ (pos n) (pos 0) in let h = no_move n in omega (arith, ints)

-- what comes no nearer has come no nearer at time k
no_nearer : (p q k : ℕ) (a b : ℤ) → ComesNoNearer p a q b → (pos (k / p) *ℤ a) ≤ℤ (pos (k / q) *ℤ b)
no_nearer p q k a b (inl away) =
    let back = no_further (k / p) a (pos 0) away.0 in
    let on = no_further (k / q) (pos 0) b away.1 in
    let e = no_move (k / p) in
    let h = no_move (k / q) in
    omega (arith, ints)
no_nearer p q k a b (inr along) =
    subst (λ n. (pos (k / p) *ℤ a) ≤ℤ (pos (k / n) *ℤ b)) along.0 (no_further (k / p) a b along.1)

-- where a cell of generation k lies in the orbit's box
before_moves : (r : RuleSets) (X : Cells) (o : Orbit) → IsOrbit r X o → (k : ℕ) (c : Cell)
    → Has (generation_of r X k) c → IsInFrame o.frame (plus c (minus (many (k / o.period) (cell_at (o.dx, o.dy)))))
before_moves r X o orbit k c has =
    let v = cell_at (o.dx, o.dy) in
    let u = many (k / o.period) v in
    let there : Has (moved u (generation_of r X (k % o.period))) c =
    subst (λ Y. Has Y c) (phase_mod r X o.period v orbit.from orbit.back k) has in
    orbit.inside (k % o.period) (plus c (minus u)) (small k o.period orbit.from)
    (sym (contains-placed O0 u (generation_of r X (k % o.period)) c) ∙ there)
  where
    small : (k p : ℕ) → 1 ≤ p → k % p < p
    small k p h = omega arith

-- n times a sum, and n times a difference
times_sum : (n : ℕ) (a b : ℤ) → (pos n *ℤ (a +ℤ b)) ≡ (pos n *ℤ a) +ℤ (pos n *ℤ b)
times_sum zero a b =
    let e = zero-*ℤ (a +ℤ b) in
    let f = zero-*ℤ a in
    let g = zero-*ℤ b in
    omega (arith, ints)
times_sum (suc n) a b =
    let before = times_sum n a b in
    let e = suc_ℤ-*ℤ (pos n) (a +ℤ b) in
    let f = suc_ℤ-*ℤ (pos n) a in
    let g = suc_ℤ-*ℤ (pos n) b in
    omega (arith, ints)

times_difference : (n : ℕ) (a b : ℤ) → (pos n *ℤ (a -ℤ b)) ≡ (pos n *ℤ a) -ℤ (pos n *ℤ b)
times_difference zero a b =
    let e = zero-*ℤ (a -ℤ b) in
    let f = zero-*ℤ a in
    let g = zero-*ℤ b in
    omega (arith, ints)
times_difference (suc n) a b =
    let before = times_difference n a b in
    let e = suc_ℤ-*ℤ (pos n) (a -ℤ b) in
    let f = suc_ℤ-*ℤ (pos n) a in
    let g = suc_ℤ-*ℤ (pos n) b in
    omega (arith, ints)

module _ (r : RuleSets) (X Y : Cells) (o p : Orbit) (first : IsOrbit r X o) (second : IsOrbit r Y p) (k : ℕ) where
  left_apart : KeepsLeft o p → AreApart (generation_of r X k) (generation_of r Y k)
  left_apart (gap, nearer) c d h g = false_from_ne_true (near c d) (λ close.
      let at_c = before_moves r X o first k c h in
      let at_d = before_moves r Y p second k d g in
      let moves = no_nearer o.period p.period k o.dx p.dx nearer in
      let within = near_within c d close in
      let end = at_c.right in
      let begin = at_d.left in
      let reach = within.columns_down in
      let no : ⊥ = omega (arith, ints) in
      absurd no)

  above_apart : KeepsAbove o p → AreApart (generation_of r X k) (generation_of r Y k)
  above_apart (gap, nearer) c d h g = false_from_ne_true (near c d) (λ close.
      let at_c = before_moves r X o first k c h in
      let at_d = before_moves r Y p second k d g in
      let moves = no_nearer o.period p.period k o.dy p.dy nearer in
      let within = near_within c d close in
      let end = at_c.bottom in
      let begin = at_d.top in
      let reach = within.rows_down in
      let no : ⊥ = omega (arith, ints) in
      absurd no)

  upper_left_apart : KeepsUpperLeft o p → AreApart (generation_of r X k) (generation_of r Y k)
  upper_left_apart (gap, nearer) c d h g = false_from_ne_true (near c d) (λ close.
      let at_c = before_moves r X o first k c h in
      let at_d = before_moves r Y p second k d g in
      let moves = no_nearer o.period p.period k (o.dy +ℤ o.dx) (p.dy +ℤ p.dx) nearer in
      let e = times_sum (k / o.period) o.dy o.dx in
      let f = times_sum (k / p.period) p.dy p.dx in
      let within = near_within c d close in
      let end = at_c.sum_to in
      let begin = at_d.sum_from in
      let rows = within.rows_down in
      let columns = within.columns_down in
      let no : ⊥ = omega (arith, ints) in
      absurd no)

  upper_right_apart : KeepsUpperRight o p → AreApart (generation_of r X k) (generation_of r Y k)
  upper_right_apart (gap, nearer) c d h g = false_from_ne_true (near c d) (λ close.
      let at_c = before_moves r X o first k c h in
      let at_d = before_moves r Y p second k d g in
      let moves = no_nearer o.period p.period k (o.dy -ℤ o.dx) (p.dy -ℤ p.dx) nearer in
      let e = times_difference (k / o.period) o.dy o.dx in
      let f = times_difference (k / p.period) p.dy p.dx in
      let within = near_within c d close in
      let end = at_c.difference_to in
      let begin = at_d.difference_from in
      let rows = within.rows_down in
      let columns = within.columns_up in
      let no : ⊥ = omega (arith, ints) in
      absurd no)

  aside_apart : KeepsAside o p → AreApart (generation_of r X k) (generation_of r Y k)
  aside_apart (inl (inl left)) = left_apart left
  aside_apart (inl (inr above)) = above_apart above
  aside_apart (inr (inl upper_left)) = upper_left_apart upper_left
  aside_apart (inr (inr upper_right)) = upper_right_apart upper_right

apart_symmetric : (X Y : Cells) → AreApart X Y → AreApart Y X
apart_symmetric X Y apart c d h g = near_symmetric c d ∙ apart d c g h

-- orbits that keep apart
pub orbits_apart : (r : RuleSets) (X Y : Cells) (o p : Orbit) → IsOrbit r X o → IsOrbit r Y p
    → KeepApart o p → (k : ℕ) → AreApart (generation_of r X k) (generation_of r Y k)
orbits_apart r X Y o p first second (inl before) k = aside_apart r X Y o p first second k before
orbits_apart r X Y o p first second (inr after) k = apart_symmetric _ _ (aside_apart r Y X p o second first k after)

-- the orbit of a set that is moved
pub orbit_moved : (r : RuleSets) (X Y : Cells) (o : Orbit) (v : Cell) (f : Frame) → IsOrbit r X o
    → HasMoved o.frame v f → moved v X ≡ Y → IsOrbit r Y (record { period = o.period; dx = o.dx; dy = o.dy; frame = f })
orbit_moved r X Y o v f orbit moves is =
    subst (λ (Z : Cells). IsOrbit r Z (record { period = o.period; dx = o.dx; dy = o.dy; frame = f })) is (record {
      some = λ none. some_len X orbit.some (sym (len-placed O0 v X) ∙ ap set.len none ∙ set.len-empty cell_cmp);
      from = orbit.from;
      back = return_of_placed r X o.period (cell_at (o.dx, o.dy)) O0 v orbit.back;
      inside = λ i c below has.
          let before : Has (generation_of r X i) (plus c (minus v)) = sym (contains-placed O0 v (generation_of r X i) c)
          ∙ subst (λ (Z : Cells). Has Z c) (generation-moved r v X i) has in
          subst (IsInFrame f) (plus_minus c v)
          (moved_has o.frame f v (plus c (minus v)) moves (orbit.inside i (plus c (minus v)) below before));
    })
