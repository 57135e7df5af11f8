-- Documents that are written part by part.
use Rattle.std.specs.Prelude.{codes, Option}
use Rattle.std.proofs.Common.{◌≡◌, ℕ, ◌+◌, List, [], ◌++◌, map, refl, ap, ◌∙◌}
use Rattle.std.specs.List.{flat_map}
use Rattle.life_core.specs.declared.cell.Cell.{Cell}
use Rattle.life_core.specs.Pattern.{Cells, in_order, corner, normal}
use Rattle.life_core.specs.Rule.{RuleSets}
use Rattle.life_rle.specs.Record.{Contents}
use Rattle.life_rle.specs.Writer.{coordinates, pairs_of, width_of, height_of}
use Rattle.life_pictures.specs.PictureRuns.{runs_of, run_path, path}
use Rattle.life_pictures.specs.Document.{front, svg}
use Rattle.life_pictures.specs.Frames.{trail, animated_path, moving}

abbrev ending : List ℕ
ending = codes "\"/>\n</svg>\n"

-- a document of one path
abbrev with_path : Option (List ℕ) → ℕ → ℕ → List (ℕ × ℕ) → List ℕ
with_path name width height cells =
    ((front width height name ++ codes "<path d=\"") ++ flat_map run_path (runs_of cells)) ++ ending

of_record : (r : Contents) → with_path r.name (width_of (pairs_of r.cells)) (height_of (pairs_of r.cells))
    (pairs_of r.cells) ≡ svg r
unfolding svg path
of_record r = refl

pub document : (r s : Contents) (cells : List Cell) (width height : ℕ) (o₀ o₁ o₂ o₃ o₄ : List ℕ)
    → o₀ ≡ [] → o₁ ≡ o₀ ++ front width height r.name → o₂ ≡ o₁ ++ codes "<path d=\""
    → o₃ ≡ o₂ ++ flat_map run_path (runs_of (map coordinates cells)) → o₄ ≡ o₃ ++ ending
    → width ≡ width_of (map coordinates cells) → height ≡ height_of (map coordinates cells)
    → cells ≡ in_order r.cells → r ≡ s → o₄ ≡ svg s
document r s cells width height o₀ o₁ o₂ o₃ o₄ empty first second third fourth width_is height_is cells_are same =
    fourth
    ∙ ap (λ o. o ++ ending)
    (third ∙ ap (λ o. o ++ flat_map run_path (runs_of (map coordinates cells)))
    (second ∙ ap (λ o. o ++ codes "<path d=\"") (first ∙ ap (λ o. o ++ front width height r.name) empty)))
    ∙ ap (λ w. with_path r.name w height (map coordinates cells)) width_is
    ∙ ap (λ h. with_path r.name (width_of (map coordinates cells)) h (map coordinates cells)) height_is
    ∙ ap (λ cs. with_path r.name (width_of (map coordinates cs)) (height_of (map coordinates cs)) (map coordinates cs))
    cells_are
    ∙ of_record r
    ∙ ap svg same

-- a document in motion, with this box and this corner
abbrev in_motion : Option (List ℕ) → RuleSets → Cells → ℕ → ℕ → Cell → ℕ → List ℕ
in_motion name rule X width height at more =
    (front width height name ++ animated_path rule X at more) ++ codes "</svg>\n"

of_motion : (name : Option (List ℕ)) (rule : RuleSets) (X : Cells) (more : ℕ)
    → in_motion name rule X (width_of (pairs_of (normal (trail rule X (more + 1)))))
    (height_of (pairs_of (normal (trail rule X (more + 1))))) (corner (trail rule X (more + 1))) more
    ≡ moving name rule X more
unfolding moving
of_motion name rule X more = refl

pub moving_document : (name : Option (List ℕ)) (rule : RuleSets) (X Y : Cells) (more : ℕ) (at : Cell)
    (width height : ℕ) (path o₀ o₁ o₂ o₃ : List ℕ)
    → o₀ ≡ [] → o₁ ≡ o₀ ++ front width height name → o₂ ≡ o₁ ++ path → o₃ ≡ o₂ ++ codes "</svg>\n"
    → width ≡ width_of (pairs_of (normal Y)) → height ≡ height_of (pairs_of (normal Y)) → Y ≡ trail rule X (more + 1)
    → at ≡ corner Y → path ≡ animated_path rule X at more → o₃ ≡ moving name rule X more
moving_document name rule X Y more at width height path o₀ o₁ o₂ o₃ empty first second third
    width_is height_is all at_is path_is =
    let wide : width ≡ width_of (pairs_of (normal (trail rule X (more + 1)))) = width_is
    ∙ ap (λ (W : Cells). width_of (pairs_of (normal W))) all in
    let high : height ≡ height_of (pairs_of (normal (trail rule X (more + 1)))) = height_is
    ∙ ap (λ (W : Cells). height_of (pairs_of (normal W))) all in
    third
    ∙ ap (λ o. o ++ codes "</svg>\n") (second ∙ ap (λ o. o ++ path)
    (first ∙ ap (λ o. o ++ front width height name) empty) ∙ ap (λ text. front width height name ++ text) path_is)
    ∙ ap (λ w. in_motion name rule X w height at more) wide
    ∙ ap (λ h. in_motion name rule X (width_of (pairs_of (normal (trail rule X (more + 1))))) h at more) high
    ∙ ap (λ a. in_motion name rule X (width_of (pairs_of (normal (trail rule X (more + 1)))))
    (height_of (pairs_of (normal (trail rule X (more + 1))))) a more) (at_is ∙ ap (λ (W : Cells). corner W) all)
    ∙ of_motion name rule X more
