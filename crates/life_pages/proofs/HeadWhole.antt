-- A complete head has one meaning, whatever follows it.
use Rattle.std.proofs.Common.{◌≡◌, ℕ, ◌<◌, ◌≤◌, List, ◌++◌, length, drop, map, Option, None, Some, Ok, option_copied}
use Rattle.std.proofs.Common.{Bor, refl, sym, ◌∙◌, ap, arith, length-append}
use Rattle.std.proofs.lemmas.List.{length-map}
use Rattle.httparse.specs.Borrowed.{AreFields, header_parts, HoldsSomeRequest}
use Rattle.httparse.specs.Outcome.{IfComplete}
use Rattle.httparse.specs.declared.Status.{Status}
use Rattle.httparse.specs.declared.Status.TheVariants.{Complete}
use Rattle.httparse.specs.declared.Error.{Error}
use Rattle.httparse.specs.declared.borrowed.Request.{Request}
use Rattle.httparse.specs.declared.borrowed.Header.{Header}
use Rattle.std.proofs.lemmas.Bool.{lt-ltb, le-ltb}
use Rattle.httparse.specs.Grammar.{Field, RequestHead, ReadsRequest, print_request}
use Rattle.httparse.specs.Spans.{name_and_value}
use Rattle.httparse.proofs.GrammarLemmas.{request_prefix_free}
use Rattle.life_pages.specs.declared.head.HeadRead.{HeadRead}
use Rattle.life_pages.specs.declared.head.HeadRead.TheVariants.{More, Bad, Whole}
use Rattle.life_pages.specs.Head.{said_by, head_of, line_limit}
use Rattle.life_pages.specs.HeadState.{NeverBegins, ReadsHead, Validates}

-- a head that says nothing good, whatever follows
pub never : (bytes : List ℕ) (h : RequestHead) (rest : List ℕ) → ReadsRequest bytes h rest
    → head_of h ≡ None → NeverBegins bytes
never bytes h rest reads none more parsed later begins =
    let same = request_prefix_free bytes more h begins.head rest later reads begins.reads in
    let is : head_of h ≡ Some parsed = ap head_of same.0 ∙ begins.says in
    cc

pub too_many : (h : RequestHead) → line_limit < length h.fields → head_of h ≡ None
too_many h over = rw (lt-ltb line_limit (length h.fields) over) refl

pub few : (h : RequestHead) → length h.fields ≤ line_limit
    → head_of h ≡ said_by h.method h.target h.minor (map name_and_value h.fields)
few h within = rw (le-ltb line_limit (length h.fields) within) refl

pub validated : (bytes : List ℕ) (len : ℕ) (h : RequestHead) (r : HeadRead) → ReadsRequest bytes h (drop len bytes)
    → len ≡ length (print_request h)
    → length h.fields ≤ line_limit → Validates len (said_by h.method h.target h.minor (map name_and_value h.fields)) r
    → ReadsHead bytes r
validated bytes len h More reads e within j = absurd j
validated bytes len h Bad reads e within j = never bytes h _ reads (few h within ∙ j)
validated bytes len h (Whole g) reads e within j =
    let long : length bytes ≡ length (print_request h ++ drop len bytes) = ap length reads.1 in
    let fits : len ≤ length bytes = omega (arith, simp length-append at long) in
    rw (j.0) (fits, record { head = h; reads = reads; says = few h within ∙ j.1 })

-- the lines of a head that a parse holds
pub line_count : (headers : List Header) (fields : List Field) → AreFields headers fields
    → length headers ≡ length fields
line_count headers fields e = sym (length-map headers header_parts) ∙ ap length e ∙ length-map fields name_and_value

-- a parse that is complete holds a head
pub some_head : (bytes : List ℕ) (request : Request) (s : Status ℕ) (len : ℕ) → s ≡ Complete len
    → IfComplete {E = Error} (Ok s) (HoldsSomeRequest bytes request) → HoldsSomeRequest bytes request len
some_head bytes request s len e h = rw e at h

-- a head with too many lines
pub overfull : (bytes : List ℕ) (request : Request) (len : ℕ) → HoldsSomeRequest bytes request len
    → line_limit < length request.headers.now
    → NeverBegins bytes
overfull bytes request len (h, held) over =
    let count = line_count _ _ held.fields in
    never bytes h _ held.reads (too_many h (omega arith))

inner : (o : Option (Bor (List ℕ))) (b : Bor (List ℕ)) (text : List ℕ) → o ≡ Some b
    → option_copied o ≡ Some text → b.now ≡ text
inner o b text e f = let g = rw e at f in cc

-- a head whose parts were validated
pub whole_read : (bytes : List ℕ) (request : Request) (len : ℕ) (m t : Bor (List ℕ)) (v : ℕ) (r : HeadRead)
    → HoldsSomeRequest bytes request len
    → length request.headers.now ≤ line_limit → request.method ≡ Some m → request.path ≡ Some t
    → request.version ≡ Some v
    → Validates len (said_by m.now t.now v (map header_parts request.headers.now)) r → ReadsHead bytes r
whole_read bytes request len m t v r (h, held) within is_m is_t is_v j =
    let count = line_count _ _ held.fields in
    let method : m.now ≡ h.method = inner _ _ _ is_m held.method in
    let target : t.now ≡ h.target = inner _ _ _ is_t held.path in
    let minor : v ≡ h.minor = let g = is_v in let k = held.version in cc in
    validated bytes len h r held.reads held.len_is (omega arith) (rw (method, target, minor, held.fields) at j)
