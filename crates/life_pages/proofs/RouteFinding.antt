-- The router finds the route whose template a path fits.
use Rattle.std.proofs.Common.{◌≡◌, ℕ, ◌+◌, ◌<◌, ◌^◌, ◌==◌, ◌&&◌, not, Bool, true, false, cond, if◌then◌else◌, ltb, List}
use Rattle.std.proofs.Common.{[], ◌∷◌, length, map, Option, None, Some, is_some, option_map, refl, sym, ◌∙◌, ap, subst}
use Rattle.std.proofs.Common.{true≢false, arith}
use Rattle.std.proofs.lemmas.Bool.Decides.{nat_tests}
use Rattle.std.specs.Str.{IsUtf8}
use Rattle.matchit.specs.Rows.{RowsOf}
use Rattle.matchit.specs.Seek.{first}
use Rattle.matchit.specs.Params.{walk}
use Rattle.matchit.specs.Router.{RouteOf}
use Rattle.matchit.proofs.OnLiterals.{matchit_on_literals}
use Rattle.life_pages.specs.declared.route.Method.{Method}
use Rattle.life_pages.specs.RequestPath.{to_slash, from_slash}
use Rattle.life_pages.specs.Route.{Piece, byte, parameter, pieces_of, captured, Reading, reading_of, Row, routes}
use Rattle.life_pages.specs.Route.{Found, found_by, read_or, route_among, route_of}
use Rattle.life_pages.specs.RouteState.{Value, routes_listed, route_rows}
use Rattle.life_pages.proofs.RouteSeeking.{matched, first_of, good_rows, sorted_rows, seek_is, and_split}
use Rattle.life_pages.proofs.RouteCaptures.{tokens, params_in, is_plain, Gives, takes}

-- ---- a path that fits a template is one that the template's tokens match

pieces_matched : (pieces : List Piece) → is_plain pieces ≡ true → (path : List ℕ)
    → matched (tokens pieces) path ≡ is_some (captured pieces path)
pieces_matched [] e [] = refl
pieces_matched [] e (b ∷ p) = refl
pieces_matched (byte x ∷ pieces) e [] = refl
pieces_matched (byte x ∷ pieces) e (b ∷ p) =
    let i = and_split (ltb x 128) (is_plain pieces) e in
    let less = i.0 in
    let plain : (x == 256) ≡ false = grind (arith, nat_tests, less) in
    rw plain (at (x == b) (pieces_matched pieces i.1 p))
  where
    at : (v : Bool) → matched (tokens pieces) p ≡ is_some (captured pieces p)
        → (v && matched (tokens pieces) p) ≡ is_some (if v then captured pieces p else None)
    at true ih = ih
    at false ih = refl
pieces_matched (parameter ∷ pieces) e [] = refl
pieces_matched (parameter ∷ pieces) e (b ∷ p) =
    at (b == 47) (pieces_matched pieces (and_split _ (is_plain pieces) e).1 (from_slash p))
  where
    some_more : (t : List ℕ) (o : Option (List (List ℕ))) → is_some o ≡ is_some (option_map (λ texts. t ∷ texts) o)
    some_more t None = refl
    some_more t (Some texts) = refl

    at : (v : Bool) → matched (tokens pieces) (from_slash p) ≡ is_some (captured pieces (from_slash p))
        → (not v && matched (tokens pieces) (from_slash p))
        ≡ is_some (if v then None else option_map (λ texts. (if v then [] else b ∷ to_slash p) ∷ texts)
        (captured pieces (if v then b ∷ p else from_slash p)))
    at true ih = refl
    at false ih = ih ∙ some_more (b ∷ to_slash p) (captured pieces (from_slash p))

-- ---- the router's rows are those of the routes

-- such a row: its tokens, its pattern, as many names as parameters, its method, and how it is read
abbrev IsRowOf : Row → List ℕ → RouteOf Value → Type 0
IsRowOf route t r =
    (t ≡ tokens (pieces_of route.template)) × (r.pattern ≡ tokens (pieces_of route.template))
    × (length r.names ≡ params_in (pieces_of route.template)) × (is_plain (pieces_of route.template) ≡ true)
    × (ltb (length r.pattern) 256 ≡ true) × (r.value.0 ≡ route.method)
    × (reading_of r.value.1 ≡ route.reading)

abbrev AreRowsOf : List Row → RowsOf (RouteOf Value) → Type 0
AreRowsOf [] [] = Unit {0}
AreRowsOf (route ∷ rest) ((t, r) ∷ rs) = IsRowOf route t r × AreRowsOf rest rs
AreRowsOf [] (row ∷ rs) = ⊥
AreRowsOf (route ∷ rest) [] = ⊥

-- what the two have in common
abbrev Shape : Type 0
Shape = List ℕ × List ℕ × ℕ × Bool × Bool × Method × Reading

abbrev shape_of_route : Row → Shape
shape_of_route route = (
  tokens (pieces_of route.template),
  tokens (pieces_of route.template),
  params_in (pieces_of route.template),
  is_plain (pieces_of route.template),
  true,
  route.method,
  route.reading,
)

abbrev shape_of_row : List ℕ × RouteOf Value → Shape
shape_of_row row = (
  row.0,
  row.1.pattern,
  length row.1.names,
  true,
  ltb (length row.1.pattern) 256,
  row.1.value.0,
  reading_of row.1.value.1,
)

rows_by_shape : (routes : List Row) (rs : RowsOf (RouteOf Value)) → map shape_of_route routes ≡ map shape_of_row rs
    → AreRowsOf routes rs
rows_by_shape [] [] same = tt
rows_by_shape (route ∷ rest) ((t, r) ∷ rs) same =
    let first : shape_of_route route ≡ shape_of_row (t, r) = cc in
    let others : map shape_of_route rest ≡ map shape_of_row rs = cc in (
      (
        sym (ap (λ (s : Shape). s.0) first),
        sym (ap (λ (s : Shape). s.1) first),
        sym (ap (λ (s : Shape). s.2) first),
        ap (λ (s : Shape). s.3) first,
        sym (ap (λ (s : Shape). s.4) first),
        sym (ap (λ (s : Shape). s.5) first),
        sym (ap (λ (s : Shape). s.6) first),
      ),
      rows_by_shape rest rs others,
    )
rows_by_shape [] (row ∷ rs) same = absurd cc
rows_by_shape (route ∷ rest) [] same = absurd cc

-- what the router found, what its parameters take, and what is read of it
pub record RowFound (path : List ℕ) (r : RouteOf Value) (route : Option Found) : Type 0 where
  pub texts : List (List ℕ)
  pub gives : Gives (walk r.pattern r.text path r.names 0 0) texts
  pub read : option_map (λ make. (r.value.0, make)) (reading_of r.value.1 texts) ≡ route

-- what the first row that the path matches gives
abbrev Answer : List ℕ → Option (RouteOf Value) → Option Found → Type 0
Answer path None route = None ≡ route
Answer path (Some r) route = RowFound path r route

row_found : (route : Row) (t : List ℕ) (r : RouteOf Value) (path : List ℕ) (texts : List (List ℕ)) → IsUtf8 path
    → IsRowOf route t r → captured (pieces_of route.template) path ≡ Some texts
    → RowFound path r (found_by route texts)
row_found route t r path texts u (row, pattern, named, plain, s, method, read) c =
    let short : length r.pattern < 2 ^ 64 = grind (arith, nat_tests, s) in
    record {
      texts = texts;
      gives = takes r.pattern r.text path (pieces_of route.template) r.names 0 0 path texts short (record {
        plain = plain;
        rest_of_template = pattern;
        named = named;
        within = omega arith;
        rest_of_path = refl;
        is_text = u;
      }) c;
      read = ap (λ (f : Reading). option_map (λ make. (r.value.0, make)) (f texts)) read
          ∙ ap (λ (m : Method). option_map (λ make. (m, make)) (route.reading texts)) method;
    }

first_row : (routes : List Row) (rs : RowsOf (RouteOf Value)) (path : List ℕ)
    → IsUtf8 path → AreRowsOf routes rs → Answer path (first_of rs path) (route_among routes path)
first_row [] [] path u a = refl
first_row (route ∷ rest) ((t, r) ∷ rs) path u (row, a) =
    at (matched t path) (captured pieces path) refl
    (ap (λ (l : List ℕ). matched l path) row.0 ∙ pieces_matched pieces row.3 path) (first_row rest rs path u a)
  where
    pieces : List Piece
    pieces = pieces_of route.template

    at : (v : Bool) (o : Option (List (List ℕ))) → captured pieces path ≡ o → v ≡ is_some (captured pieces path)
        → Answer path (first_of rs path) (route_among rest path)
        → Answer path (cond v (Some r) (first_of rs path)) (read_or route o (route_among rest path))
    at true (Some texts) c e ih = row_found route t r path texts u row c
    at false None c e ih = ih
    at true None c e ih = absurd (true≢false (rw c at e))
    at false (Some texts) c e ih = absurd (true≢false (sym (rw c at e)))
first_row [] (row ∷ rs) path u a = absurd a
first_row (route ∷ rest) [] path u a = absurd a

rows_are : AreRowsOf routes route_rows
unfolding matchit_on_literals route_rows routes_listed
rows_are = rows_by_shape routes route_rows refl

rows_good : good_rows route_rows ≡ true
unfolding matchit_on_literals route_rows routes_listed
rows_good = refl

rows_sorted : sorted_rows route_rows ≡ true
unfolding matchit_on_literals route_rows routes_listed
rows_sorted = refl

-- what the router finds names the route of the path
pub finds : (rows : RowsOf (RouteOf Value)) (path : List ℕ) (o : Option (RouteOf Value))
    → IsUtf8 path → rows ≡ route_rows → first rows path ≡ o → Answer path o (route_of path)
unfolding route_of
finds rows path o u is e =
    subst (λ o. Answer path o (route_among routes path))
    (sym (seek_is (length path + 1) route_rows path (omega arith) rows_good rows_sorted)
    ∙ ap (λ (l : RowsOf (RouteOf Value)). first l path) (sym is) ∙ e)
    (first_row routes route_rows path u rows_are)
