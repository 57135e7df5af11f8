-- The results of the private calls that find a message's request.
use Rattle.std.specs.Prelude.{◌≡◌, Result, Ok, Err}
use Rattle.life_desk.specs.declared.refusal.Refusal.{Refusal}
use Rattle.life_desk.specs.declared.request.Request.{Request}
use Rattle.life_desk.specs.Validation.{validated, MayRefuse}
use Rattle.life_pages.specs.declared.pages_fault.MessageRefusal.{MessageRefusal}
use Rattle.life_pages.specs.declared.asked.RequestFault.{RequestFault}
use Rattle.life_pages.specs.declared.asked.RequestFault.TheVariants as request_fault

-- the request, unless it is refused before it is copied
abbrev pub GivesRequest : Result Request Refusal → Request → Type 0
GivesRequest (Ok q) request = q ≡ request
GivesRequest (Err refusal) request = MayRefuse (validated request) refusal

-- the request or the refusal of a message, unless the request is refused before it is copied
abbrev pub IsAsked : Result Request RequestFault → Result Request MessageRefusal → Type 0
IsAsked (Ok request) read = read ≡ Ok request
IsAsked (Err (request_fault.Message refusal)) read = read ≡ Err refusal
IsAsked (Err (request_fault.Request refusal)) read =
    (request : Request) × (read ≡ Ok request) × MayRefuse (validated request) refusal
