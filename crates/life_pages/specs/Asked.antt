-- The request that a valid message makes to the archive, unless no route has its path or the route wants another
-- method.
use Rattle.std.specs.Prelude.{ℕ, if◌then◌else◌, List, Option, None, Some, Result, Ok, Err}
use Rattle.std.specs.Str.{bytes_eq}
use Rattle.life_desk.specs.declared.request.Request.{Request}
use Rattle.life_pages.specs.declared.pages_fault.MessageRefusal.{MessageRefusal}
use Rattle.life_pages.specs.declared.pages_fault.MessageRefusal.TheVariants.{NoSuchRoute, BadMethod}
use Rattle.life_pages.specs.Head.{Head}
use Rattle.life_pages.specs.RequestPath.{path_of}
use Rattle.life_pages.specs.Route.{method_name, Found, route_of}

-- a missing route is reported before a wrong method
abbrev pub asked_at : Option Found → Head → List ℕ → Result Request MessageRefusal
asked_at None parsed body = Err NoSuchRoute
asked_at (Some (method, make)) parsed body =
    if bytes_eq parsed.method (method_name method) then Ok (make parsed body) else Err BadMethod

-- the request, or the refusal, of a message with this head and this body
abbrev pub asked : Head → List ℕ → Result Request MessageRefusal
asked parsed body = asked_at (route_of (path_of parsed.target)) parsed body
