-- Each request has one reply, so two runs of the same requests are equal.
use Rattle.std.proofs.Common.{◌≡◌, ◌≤◌, ℕ, List, [], ◌∷◌, Bool, true, false, Option, None, Some, Result, Ok, Err}
use Rattle.std.proofs.Common.{refl, sym, ◌∙◌, subst, arith, if◌then◌else◌}
use Rattle.std.specs.Prelude.{nat_le}
use Rattle.std.proofs.lemmas.Bool.{and_parts, leb-true}
use Rattle.life_code.specs.declared.period.TheConstants.{PERIOD_LIMIT}
use Rattle.life_core.specs.Rule.{RuleSets}
use Rattle.life_core.specs.declared.rule_text.RuleFault.{RuleFault}
use Rattle.life_core.specs.RuleText.{read_rule}
use Rattle.life_desk.specs.declared.refusal.Refusal.{Refusal}
use Rattle.life_desk.specs.declared.refusal.Refusal.TheVariants as refusals
use Rattle.life_desk.specs.declared.request.Request.{Request}
use Rattle.life_desk.specs.declared.request.Request.TheVariants as requests
use Rattle.life_desk.specs.declared.request.Reply.{Reply}
use Rattle.life_desk.specs.declared.request.Reply.TheVariants as replies
use Rattle.life_desk.specs.Archive.{Archive}
use Rattle.life_desk.specs.Validation.{validated, validated_by, fault_in, first_fault, rule_fault, is_limit}
use Rattle.life_desk.specs.Replies.{IsReplyTo, IsReplyBy, IsTotalUnder}
use Rattle.life_desk.specs.Run.{RequestRun}
use Rattle.life_desk.specs.DeskLaws.{OneReply, SameReplies}
use Rattle.life_desk.proofs.Steps.{step_answers}
use Rattle.life_desk.proofs.Totals.{total_there, total_one}

-- ---- no two

one_under : (A : Archive) (read : Result RuleSets RuleFault) (code : List ℕ) (limit : ℕ) (r s : Reply)
    → IsTotalUnder A read code limit r → IsTotalUnder A read code limit s → s ≡ r
one_under A (Ok rule) code limit r s is other = total_one A rule code limit r s is other
one_under A (Err fault) code limit r s is other = other ∙ sym is

one_to : (A : Archive) (q : Request) (r s : Reply) → IsReplyTo A q r → IsReplyTo A q s → s ≡ r
one_to A (requests.Total rule code limit) r s is other = one_under A (read_rule rule) code limit r s is other
one_to A _ r s is other = other ∙ sym is

one_by : (A : Archive) (w : Result Request Refusal) (r s : Reply) → IsReplyBy A w r → IsReplyBy A w s → s ≡ r
one_by A (Ok q) r s is other = one_to A q r s is other
one_by A (Err refusal) r s is other = other ∙ sym is

-- ---- there is one

there_under : (A : Archive) (read : Result RuleSets RuleFault) (code : List ℕ) (limit : ℕ) → limit ≤ 999999
    → (r : Reply) × IsTotalUnder A read code limit r
there_under A (Ok rule) code limit small = total_there A rule code limit small
there_under A (Err fault) code limit small = (replies.Refused refusals.BadRule, refl)

-- a limit that is validated good is small
small_limit : (limit : ℕ) (later : Option Refusal) (b : Bool) → is_limit limit ≡ b
    → first_fault (if b then None else Some refusals.OutOfLimit) later ≡ None → limit ≤ PERIOD_LIMIT
small_limit limit later true is none =
    leb-true limit PERIOD_LIMIT (and_parts (nat_le 1 limit) (nat_le limit PERIOD_LIMIT) is).1
small_limit limit later false is none = absurd cc

there_to : (A : Archive) (q : Request) → fault_in q ≡ None → (r : Reply) × IsReplyTo A q r
there_to A (requests.Total rule code limit) none =
    let small = small_limit limit (rule_fault (read_rule rule)) (is_limit limit) refl none in
    there_under A (read_rule rule) code limit (omega (arith, small))
there_to A _ none = (_, refl)

there_by : (A : Archive) (q : Request) (fault : Option Refusal) → fault_in q ≡ fault
    → (r : Reply) × IsReplyBy A (validated_by fault q) r
there_by A q None is = there_to A q is
there_by A q (Some refusal) is = (replies.Refused refusal, refl)

pub one_reply : OneReply
one_reply A q =
    let there = there_by A q (fault_in q) refl in
    (there.0, there.1, λ other is. one_by A (validated q) there.0 other there.1 is)

-- ---- two runs are one

pub same_replies : SameReplies
same_replies A B C [] [] [] run also all rest = (refl, run ∙ sym also)
same_replies A B C (q ∷ qs) (r ∷ rs) (s ∷ ss) run also all rest =
    let first = step_answers A q r run.0 run.1 all.0 in
    let second = step_answers A q s also.0 also.1 rest.0 in
    let reply : r ≡ s = one_by A (validated q) s r second.0 first.0 in
    let mid : run.0 ≡ also.0 = first.1 ∙ sym second.1 in
    let on = same_replies also.0 B C qs rs ss (subst (λ X. RequestRun X qs rs B) mid run.2) also.2 all.1 rest.1 in
    let replies : rs ≡ ss = on.0 in
    (cc, on.1)
same_replies A B C [] (r ∷ rs) ss run also all rest = absurd run
same_replies A B C [] [] (s ∷ ss) run also all rest = absurd also
same_replies A B C (q ∷ qs) [] ss run also all rest = absurd run
same_replies A B C (q ∷ qs) (r ∷ rs) [] run also all rest = absurd also
