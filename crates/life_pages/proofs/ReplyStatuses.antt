-- The status of a reply shows whether it says that something is stored.
use Rattle.std.proofs.Common.{◌≡◌, ℕ, ◌==◌, Bool, false, List, [], ◌∷◌, drop, refl, sym, ◌∙◌, ap}
use Rattle.life_desk.specs.declared.refusal.Refusal.{Refusal}
use Rattle.life_desk.specs.declared.refusal.Refusal.TheVariants.{Unavailable}
use Rattle.life_desk.specs.declared.request.Reply.{Reply}
use Rattle.life_desk.specs.declared.request.Reply.TheVariants as replies
use Rattle.life_desk.specs.Replies.{acknowledges}
use Rattle.life_pages.specs.declared.pages_fault.MessageRefusal.{MessageRefusal}
use Rattle.life_pages.specs.declared.pages_fault.MessageRefusal.TheVariants.{NoSuchRoute}
use Rattle.life_pages.specs.Reply.{reply_bytes, bytes_of, message_refusal_bytes}
use Rattle.life_pages.specs.PagesLaws.{AcknowledgementsAreKnown, PagesAcknowledgeNothing}

-- whether the digit of 201 stands where the last of a status does, after `HTTP/1.1 ` and two others
abbrev begins_one : List ℕ → Bool
begins_one [] = false
begins_one (b ∷ bs) = b == 49

abbrev is_created : List ℕ → Bool
is_created bytes = begins_one (drop 11 bytes)

refusal_status : (refusal : Refusal) → is_created (bytes_of (replies.Refused refusal)) ≡ false
unfolding reply_bytes
refusal_status Unavailable = refl
refusal_status _ = refl

known : (r : Reply) → is_created (bytes_of r) ≡ acknowledges r
unfolding reply_bytes
known (replies.Refused refusal) = refusal_status refusal
known _ = refl

page_status_told : (refusal : MessageRefusal) → is_created (message_refusal_bytes refusal) ≡ false
unfolding message_refusal_bytes reply_bytes
page_status_told NoSuchRoute = refl
page_status_told _ = refl

pub acknowledgements_told : AcknowledgementsAreKnown
acknowledgements_told r q same = sym (known r) ∙ ap is_created same ∙ known q

pub pages_acknowledge_nothing : PagesAcknowledgeNothing
pages_acknowledge_nothing r refusal same = sym (known r) ∙ ap is_created same ∙ page_status_told refusal
