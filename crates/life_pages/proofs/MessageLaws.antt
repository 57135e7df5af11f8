-- A stream has one list of messages.
use Rattle.std.proofs.Common.{◌≡◌, ℕ, zero, suc, ◌+◌, ◌<◌, true, false, List, [], ◌∷◌, ◌++◌, length, take, drop, Some}
use Rattle.std.proofs.Common.{refl, sym, ◌∙◌, ap, subst, true≢false, length-append, arith}
use Rattle.std.proofs.lemmas.List.{take_at, drop_at}
use Rattle.httparse.specs.Grammar.{print_request}
use Rattle.httparse.proofs.GrammarLemmas.{request_unique}
use Rattle.life_pages.specs.Head.{Head, head_of}
use Rattle.life_pages.specs.Message.{Message, good, bad, Messages, HasMessageInFront, are_line_breaks}
use Rattle.life_pages.specs.PagesLaws.{OneListOfMessages, NoneWithoutMessages}
use Rattle.life_pages.proofs.MessageStanding.{not_blank, not_empty}

-- ---- one at most

stands_not_blank : (bytes : List ℕ) (parsed : Head) (body rest : List ℕ) → HasMessageInFront bytes parsed body rest
    → are_line_breaks bytes ≡ false
stands_not_blank bytes parsed body rest s = not_blank bytes s.head (body ++ rest) s.bytes_are

-- two fronts of one length
same_fronts : (a b c d : List ℕ) → a ++ b ≡ c ++ d → length a ≡ length c → (a ≡ c) × (b ≡ d)
same_fronts a b c d e l = (
  sym (take_at a b (length a) refl) ∙ ap (take (length a)) e ∙ take_at c d (length a) (sym l),
  sym (drop_at a b (length a) refl) ∙ ap (drop (length a)) e ∙ drop_at c d (length a) (sym l),
)

-- one message stands at the front
stands_once : (bytes : List ℕ) (parsed other : Head) (body content rest more : List ℕ)
    → HasMessageInFront bytes parsed body rest → HasMessageInFront bytes other content more
    → (parsed ≡ other) × (body ≡ content) × (rest ≡ more)
stands_once bytes parsed other body content rest more s t =
    let same = request_unique bytes s.head t.head (body ++ rest) (content ++ more) (s.is_head, s.bytes_are)
    (t.is_head, t.bytes_are) in
    let says : Some parsed ≡ Some other = sym s.says ∙ ap head_of same.0 ∙ t.says in
    let is : parsed ≡ other = cc in
    let fronts = same_fronts body rest content more same.1 (s.whole ∙ ap (λ (h : Head). h.body) is ∙ sym t.whole) in
    (is, fronts.0, fronts.1)

pub one_list : OneListOfMessages
one_list bytes [] [] m n = refl
one_list bytes [] (bad ∷ ns) m n = absurd (true≢false (sym m ∙ n.0))
one_list bytes [] (good parsed body ∷ ns) m n = absurd (true≢false (sym m ∙ stands_not_blank bytes parsed body n.0 n.1))
one_list bytes (bad ∷ ms) [] m n = absurd (true≢false (sym n ∙ m.0))
one_list bytes (bad ∷ ms) (bad ∷ ns) m n = ap (λ (l : List Message). bad ∷ l) (m.2 ∙ sym n.2)
one_list bytes (bad ∷ ms) (good parsed body ∷ ns) m n = absurd (m.1 parsed body n.0 n.1)
one_list bytes (good parsed body ∷ ms) [] m n = absurd (true≢false (sym n ∙ stands_not_blank bytes parsed body m.0 m.1))
one_list bytes (good parsed body ∷ ms) (bad ∷ ns) m n = absurd (n.1 parsed body m.0 m.1)
one_list bytes (good parsed body ∷ ms) (good other content ∷ ns) (rest, s, ends, transition) (more, t, stops, on) =
    let same = stands_once bytes parsed other body content rest more s t in
    let later : ms ≡ ns = elim parsed.closes as (λ b. parsed.closes ≡ b → ms ≡ ns) [
      | true ↦ λ e. ends e ∙ sym (stops (sym (ap (λ (h : Head). h.closes) same.0) ∙ e))
      | false ↦
          λ e. one_list rest ms ns (transition e)
          (subst (λ (l : List ℕ). Messages l ns) (sym same.2) (on (sym (ap (λ (h : Head). h.closes) same.0) ∙ e)))
    ] refl in
    alike parsed other body content ms ns same.0 same.1 later
  where
    alike : (parsed other : Head) (body content : List ℕ) (ms ns : List Message) → parsed ≡ other
        → body ≡ content → ms ≡ ns → good parsed body ∷ ms ≡ good other content ∷ ns
    alike parsed other body content ms ns a b c = λ i. good (a i) (b i) ∷ c i

-- ---- none is without

shorter : (bytes : List ℕ) (parsed : Head) (body rest : List ℕ) → HasMessageInFront bytes parsed body rest
    → length rest < length bytes
shorter bytes parsed body rest s =
    let some = not_empty s.head in
    let all : length bytes ≡ length (print_request s.head) + length (body ++ rest) = ap length s.bytes_are
    ∙ length-append (print_request s.head) (body ++ rest) in
    let back = length-append body rest in
    omega arith

-- without a list of messages, none stands at the front whose rest has one
none_at : (bytes : List ℕ) → ((ms : List Message) → ¬ Messages bytes ms) → (parsed : Head) (body rest : List ℕ)
    → HasMessageInFront bytes parsed body rest
    → ¬ ((ms : List Message) → ¬ Messages rest ms) → ⊥
none_at bytes none parsed body rest s some = elim parsed.closes as (λ b. parsed.closes ≡ b → ⊥) [
  | true ↦
      λ e. none (good parsed body ∷ [])
      (rest, s, (λ closes. refl), λ transition. absurd (true≢false (sym e ∙ transition)))
  | false ↦
      λ e. some
      (λ ms m. none (good parsed body ∷ ms)
      (rest, s, (λ closes. absurd (true≢false (sym closes ∙ e))), λ transition. m))
] refl

some_of : (n : ℕ) (bytes : List ℕ) → length bytes < n → ¬ ((ms : List Message) → ¬ Messages bytes ms)
some_of zero bytes less none = absurd (omega arith)
some_of (suc n) bytes less none = elim (are_line_breaks bytes) as (λ b. are_line_breaks bytes ≡ b → ⊥) [
  | true ↦ λ e. none [] e
  | false ↦ λ e. none (bad ∷ []) (
    e,
    (λ parsed body rest s. none_at bytes none parsed body rest s
        (some_of n rest (let h = shorter bytes parsed body rest s in omega (arith, less, h)))),
    refl,
  )
] refl

pub some_list : NoneWithoutMessages
some_list bytes = some_of (length bytes + 1) bytes (omega arith)
