-- Sets that differ only by moves and orientations have the same shapes, and so the same least candidate.
use Rattle.std.proofs.Common.{◌≡◌, ℕ, ◌+◌, ◌/◌, ◌%◌, ◌<◌, ◌≤◌, List, sym, ap, ◌∙◌, arith}
use Rattle.life_core.specs.declared.cell.Cell.{Cell}
use Rattle.life_core.specs.declared.orientation.Orientation.{Orientation}
use Rattle.life_core.specs.declared.orientation.Orientation.TheVariants.{O0}
use Rattle.life_core.specs.Pattern.{Cells, image, corner, normal}
use Rattle.life_core.specs.Rule.{RuleSets}
use Rattle.life_core.specs.Orientation.{turned_cell}
use Rattle.life_core.specs.Generations.{generation_of}
use Rattle.life_core.proofs.OrientationLemmas.{opposite}
use Rattle.life_core.proofs.Placements.{origin, minus, plus, plus_comm, plus_origin, after, moved, placed}
use Rattle.life_core.proofs.Placements.{placed-placed, placed_back, moved-turned, turned_is, generation-placed}
use Rattle.life_core.proofs.PatternCorners.{normal_is, normal-moved, same_normal}
use Rattle.life_code.specs.Period.{Returns}
use Rattle.life_code.specs.Wechsler.{wechsler}
use Rattle.life_code.specs.Codes.{fits, shape, candidates, least_text}
use Rattle.life_code.proofs.PeriodLemmas.{many, generation-add, phase_mod, back_to_start, Taken, taken_on, taken_back}
use Rattle.life_code.proofs.TextLists.{In, least_same}
use Rattle.life_code.proofs.CandidateLemmas.{in_candidates, candidates_in}

-- the normal set of a placed set is its shape in that orientation
normal-placed : (o : Orientation) (s : Cell) (X : Cells) → normal (placed o s X) ≡ shape o X
normal-placed o s X =
    ap normal (ap (λ k. placed o k X) (sym (plus_comm origin s ∙ plus_origin s)) ∙ sym (moved-turned s o origin X))
    ∙ normal-moved (placed o origin X) s
    ∙ ap normal (sym (turned_is o X))

-- a shape of a set is the set, placed
pub shape_is : (o : Orientation) (X : Cells) → (s : Cell) × (placed o s X ≡ shape o X)
shape_is o X =
    let t = minus (corner (image (turned_cell o) X)) in (
      plus origin t,
      sym (moved-turned t o origin X) ∙ ap (moved t) (sym (turned_is o X)) ∙ sym (normal_is (image (turned_cell o) X)),
    )

small : (i p : ℕ) → 1 ≤ p → i % p < p
small i p h = omega arith

module _ (r : RuleSets) where
  -- the shapes of a set that is taken are shapes of the other
  shape_taken : (X Y : Cells) (p : ℕ) (v : Cell)
      → 1 ≤ p → Returns r Y p v.column v.row → Taken r X Y → (j : ℕ) (g : Orientation)
      → (m : ℕ) × (m < p) × (q : Orientation) × (shape g (generation_of r X j) ≡ shape q (generation_of r Y m))
  shape_taken X Y p v h e (i, o, s, taken) j g =
      let w = many ((i + j) / p) v in
      let m = (i + j) % p in
      let there : generation_of r X j ≡ placed (after o O0) (plus (turned_cell o w) s) (generation_of r Y m) =
      ap (λ Z. generation_of r Z j) (sym taken) ∙ generation-placed r o s (generation_of r Y i) j ∙ ap (placed o s)
      (sym (generation-add r Y i j) ∙ phase_mod r Y p v h e (i + j)) ∙ placed-placed o s O0 w (generation_of r Y m) in (
        m,
        small (i + j) p h,
        after g (after o O0),
        ap normal (turned_is g (generation_of r X j) ∙ ap (placed g origin) there
            ∙ placed-placed g origin (after o O0) (plus (turned_cell o w) s) (generation_of r Y m))
            ∙ normal-placed (after g (after o O0)) _ (generation_of r Y m),
      )

  candidate_taken : (X Y : Cells) (p : ℕ) (v : Cell) → 1 ≤ p → Returns r Y p v.column v.row
      → Taken r X Y → (t : List ℕ) → In t (candidates r X p) → In t (candidates r Y p)
  candidate_taken X Y p v h e taken t has =
      let c = in_candidates r X p t has in
      let s = shape_taken X Y p v h e taken c.0 c.2 in
      candidates_in r Y p t (s.0, s.1, s.2, ap fits (sym s.3) ∙ c.3, ap wechsler (sym s.3) ∙ c.4)

  -- sets taken to one another have the same least candidate
  pub least_taken : (X Y : Cells) (p : ℕ) (u v : Cell) → 1 ≤ p → Returns r X p u.column u.row
      → Returns r Y p v.column v.row → Taken r X Y → least_text (candidates r X p) ≡ least_text (candidates r Y p)
  least_taken X Y p u v h d e taken =
      least_same _ _
      (λ t has. candidate_taken X Y p v h e taken t has)
      (λ t has. candidate_taken Y X p u h d (taken_back r X Y p v h e taken) t has)

  -- two phases with one shape
  pub shapes_taken : (X Y : Cells) (p : ℕ) (v : Cell) → 1 ≤ p → Returns r X p v.column v.row
      → (i j : ℕ) (g h : Orientation) → shape g (generation_of r X i) ≡ shape h (generation_of r Y j) → Taken r X Y
  shapes_taken X Y p v from back i j g h same = taken_on r X (generation_of r X i) Y start between
    where
      start : Taken r X (generation_of r X i)
      start =
          let s = back_to_start r X p v from back i in
          (s.0, O0, turned_cell O0 (minus s.1), ap (placed O0 (turned_cell O0 (minus s.1))) s.2 ∙ placed_back O0 s.1 X)

      step : Cell
      step =
          plus (minus (corner (image (turned_cell h) (generation_of r Y j))))
          (corner (image (turned_cell g) (generation_of r X i)))

      there : placed g origin (generation_of r X i) ≡ placed h (plus origin step) (generation_of r Y j)
      there =
          sym (turned_is g (generation_of r X i))
          ∙ same_normal (image (turned_cell h) (generation_of r Y j))
          (image (turned_cell g) (generation_of r X i)) (sym same)
          ∙ ap (moved step) (turned_is h (generation_of r Y j))
          ∙ moved-turned step h origin (generation_of r Y j)

      between : Taken r (generation_of r X i) Y
      between = (
        j,
        after (opposite g) h,
        plus (turned_cell (opposite g) (plus origin step)) (turned_cell (opposite g) (minus origin)),
        sym (placed-placed (opposite g) (turned_cell (opposite g) (minus origin)) h (plus origin step)
            (generation_of r Y j))
            ∙ ap (placed (opposite g) (turned_cell (opposite g) (minus origin))) (sym there)
            ∙ placed_back g origin (generation_of r X i),
      )
