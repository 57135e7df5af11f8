use Rattle.std.proofs.Common.{◌≡◌, drop}
use Rattle.life_pages.specs.RouteState.{listed, with_routes}
use Rattle.life_pages.proofs.route.insert_routes.Given as goal

-- the routes that are left make the whole table
abbrev pub invariant-loop-method : goal.invariant-loop-method
invariant-loop-method l =
    with_routes (listed (drop l.method-index l.routes)) l.router ≡ with_routes (listed l.routes) l.fn.router
