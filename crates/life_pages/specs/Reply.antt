-- The bytes of replies (RFC 9112).
use Rattle.std.specs.Prelude.{ℕ, List, [], ◌++◌, length, codes, decimal, unwrap_or}
use Rattle.http.specs.StatusCode.{code_digits, reason_phrase}
use Rattle.serde_json.specs.Written.{compact_text}
use Rattle.life_rle.specs.RleFault.{fault_number}
use Rattle.life_desk.specs.declared.refusal.Refusal.{Refusal}
use Rattle.life_desk.specs.declared.refusal.Refusal.TheVariants.{BadPattern}
use Rattle.life_desk.specs.declared.request.Reply.{Reply}
use Rattle.life_desk.specs.declared.request.Reply.TheVariants as replies
use Rattle.life_desk.specs.Refusals as refusals
use Rattle.life_pages.specs.declared.pages_fault.MessageRefusal.{MessageRefusal}
use Rattle.life_pages.specs.declared.pages_fault.MessageRefusal.TheVariants.{NoSuchRoute, BadMethod, BadMessage}
use Rattle.life_pages.specs.PagesFault.{label_of}
use Rattle.life_pages.specs.Json.{kind_data, shown_data, list_data}

-- the reason phrase of a status: for 404, "Not Found"
unfoldable pub phrase : ℕ → List ℕ
phrase status = unwrap_or (reason_phrase status) []

-- a reply with this status, this type and this body
unfoldable pub reply_bytes : ℕ → List ℕ → List ℕ → List ℕ
reply_bytes status kind body =
    codes "HTTP/1.1 " ++ code_digits status ++ codes " " ++ phrase status ++ codes "\r\ncontent-type: " ++ kind
    ++ codes "\r\ncontent-length: " ++ decimal (length body) ++ codes "\r\n\r\n" ++ body

abbrev pub json : List ℕ
json = codes "application/json"

-- ---- bodies

-- a body of one number, such as {"deposit":7}
unfoldable pub number_body : List ℕ → ℕ → List ℕ
number_body name n = codes "{\"" ++ name ++ codes "\":" ++ decimal n ++ codes "}"

-- a refusal's name and number, such as {"error":"full","refusal":10}, and possibly more members
unfoldable pub refusal_body : List ℕ → ℕ → List ℕ → List ℕ
refusal_body name n more = codes "{\"error\":\"" ++ name ++ codes "\",\"refusal\":" ++ decimal n ++ more ++ codes "}"

-- the refusal of a pattern file also has the number of the fault in the file
abbrev pub fault_part : Refusal → List ℕ
fault_part (BadPattern fault) = codes ",\"rle\":" ++ decimal (fault_number fault)
fault_part _ = []

-- ---- the replies of the archive

abbrev pub reply_status : Reply → ℕ
reply_status (replies.Deposited id) = 201
reply_status (replies.Counted id) = 201
reply_status (replies.Refused refusal) = refusals.status_of refusal
reply_status _ = 200

abbrev pub type_of : Reply → List ℕ
type_of (replies.File bytes) = codes "text/plain"
type_of (replies.Csv bytes) = codes "text/csv"
type_of _ = json

abbrev pub reply_body : Reply → List ℕ
reply_body (replies.Deposited id) = number_body (codes "deposit") id
reply_body (replies.Counted id) = number_body (codes "census") id
reply_body (replies.Total n) = number_body (codes "total") n
reply_body (replies.Refused refusal) =
    refusal_body (refusals.name_of refusal) (refusals.number_of refusal) (fault_part refusal)
reply_body (replies.File bytes) = bytes
reply_body (replies.Csv bytes) = bytes
reply_body (replies.Deposits lines) = compact_text (list_data lines)
reply_body (replies.Kinded kind code) = compact_text (kind_data kind code)
reply_body (replies.Shown shown) = compact_text (shown_data shown)

abbrev pub bytes_of : Reply → List ℕ
bytes_of reply = reply_bytes (reply_status reply) (type_of reply) (reply_body reply)

-- ---- the replies that need no archive

abbrev pub page_status : MessageRefusal → ℕ
page_status NoSuchRoute = 404
page_status BadMethod = 405
page_status BadMessage = 400

unfoldable pub message_refusal_bytes : MessageRefusal → List ℕ
message_refusal_bytes refusal =
    reply_bytes (page_status refusal) json (refusal_body (label_of refusal).name (label_of refusal).number [])

-- the reply to a bad message
abbrev pub bad_bytes : List ℕ
bad_bytes = message_refusal_bytes BadMessage

-- the reply if an allocation or the store failed
abbrev pub unavailable_bytes : List ℕ
unavailable_bytes = reply_bytes 503 json (refusal_body (codes "unavailable") 11 [])
