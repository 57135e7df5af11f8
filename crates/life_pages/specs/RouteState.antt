-- The routes as the router stores them, and the meaning of a path as the program stores it.
use Rattle.std.specs.Prelude.{ℕ, List, [], ◌∷◌, map, Result, Ok, Err}
use Rattle.std.specs.Borrow.{Bor}
use Rattle.std.specs.Str.{IsUtf8}
use Rattle.matchit.specs.Rows.{RowsOf}
use Rattle.matchit.specs.Route.{parse_route, Scan}
use Rattle.matchit.specs.Order.{placed}
use Rattle.matchit.specs.Router.{RouteOf, route_from}
use Rattle.matchit.specs.declared.error.InsertError.{InsertError}
use Rattle.life_desk.specs.declared.request.Request.TheVariants as requests
use Rattle.life_pages.specs.declared.route.TheConstants.{ROUTES}
use Rattle.life_pages.specs.declared.route.Method.{Method}
use Rattle.life_pages.specs.declared.route.Template.{Template}
use Rattle.life_pages.specs.declared.route.Asked.{Asked}
use Rattle.life_pages.specs.declared.route.Asked.TheVariants as asked
use Rattle.life_pages.specs.Route.{Ask, Found}

-- the router's value for a route
abbrev pub Value : Type 0
Value = Method × Template

-- the rows with one more route, if its path is valid
abbrev pub routed : Result Scan InsertError → Value → RowsOf (RouteOf Value) → RowsOf (RouteOf Value)
routed (Ok s) value rows = placed ((route_from s value).pattern, route_from s value) rows
routed (Err e) value rows = rows

-- a route of the program's table: its path, and the router's value
abbrev pub Listed : Type 0
Listed = List ℕ × Value

abbrev pub listed : List (Method × Bor (List ℕ) × Template) → List Listed
listed = map (λ route. (route.1.now, (route.0, route.2)))

-- the rows with these routes, one after another
abbrev pub with_routes : List Listed → RowsOf (RouteOf Value) → RowsOf (RouteOf Value)
with_routes [] rows = rows
with_routes ((path, value) ∷ rest) rows = with_routes rest (routed (parse_route path) value rows)

-- the program's table
unfoldable pub routes_listed : List Listed
routes_listed = map (λ route. (route.1.now, (route.0, route.2))) ROUTES

-- the router's rows with all of them
unfoldable pub route_rows : RowsOf (RouteOf Value)
route_rows = with_routes routes_listed []

-- the request of a path, with the head and the body of its message
abbrev pub ask_of : Asked → Ask
ask_of (asked.Request request) parsed body = request
ask_of asked.Deposit parsed body = requests.Deposit parsed.member parsed.token body
ask_of (asked.Census deposit n limit) parsed body = requests.Census parsed.member parsed.token deposit n limit
ask_of (asked.Total rule code limit) parsed body = requests.Total rule code limit

abbrev pub found_of : Method × Asked → Found
found_of found = (found.0, ask_of found.1)

-- the texts of the parameters that are left, without their names
abbrev pub texts_of : List (List ℕ × List ℕ) → List (List ℕ)
texts_of [] = []
texts_of (p ∷ ps) = p.1 ∷ texts_of ps

-- the texts of the remaining parameters are UTF-8, like the path
abbrev pub AreTexts : List (List ℕ × List ℕ) → Type 0
AreTexts [] = Unit {0}
AreTexts (p ∷ ps) = IsUtf8 p.1 × AreTexts ps
