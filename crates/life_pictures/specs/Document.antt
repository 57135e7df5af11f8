-- A picture as an SVG document (W3C, "Scalable Vector Graphics 2").
use Rattle.std.specs.Prelude.{ℕ, ◌+◌, List, ◌++◌, codes, Option}
use Rattle.life_rle.specs.Record.{Contents}
use Rattle.life_rle.specs.Writer.{pairs_of, width_of, height_of}
use Rattle.life_pictures.specs.Numbers.{with_number}
use Rattle.life_pictures.specs.PictureRuns.{path}
use Rattle.life_pictures.specs.Title.{title}

-- the document's element with its view box: a box of this size and a margin of one cell
abbrev pub opening : ℕ → ℕ → List ℕ
opening width height =
    with_number (codes "<svg xmlns=\"http://www.w3.org/2000/svg\" viewBox=\"-1 -1 ") (width + 2)
    ++ with_number (codes " ") (height + 2)
    ++ codes "\" shape-rendering=\"crispEdges\">\n"

-- the background: a white rectangle that fills the view box
abbrev pub background : ℕ → ℕ → List ℕ
background width height =
    with_number (codes "<rect x=\"-1\" y=\"-1\" width=\"") (width + 2)
    ++ with_number (codes "\" height=\"") (height + 2) ++ codes "\" fill=\"white\"/>\n"

-- the document up to its path
unfoldable pub front : ℕ → ℕ → Option (List ℕ) → List ℕ
front width height name = opening width height ++ title name ++ background width height

-- the document of a record
unfoldable pub svg : Contents → List ℕ
svg r =
    front (width_of (pairs_of r.cells)) (height_of (pairs_of r.cells)) r.name ++ codes "<path d=\""
    ++ path r.cells ++ codes "\"/>\n</svg>\n"
