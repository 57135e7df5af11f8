-- The results of the private calls that read a head.
use Rattle.std.specs.Prelude.{◌≡◌, ℕ, ◌≤◌, List, ◌++◌, length, Option, None, Some, drop}
use Rattle.httparse.specs.Grammar.{RequestHead, ReadsRequest, HasNoRequest, MayBecomeRequest}
use Rattle.life_pages.specs.declared.head.GoodHead.{GoodHead}
use Rattle.life_pages.specs.declared.head.HeadRead.{HeadRead}
use Rattle.life_pages.specs.declared.head.HeadRead.TheVariants.{More, Bad, Whole}
use Rattle.life_pages.specs.Head.{Head, head_of}

-- the bytes begin with a valid head with these parts, and the rest follows it
pub record BeginsWith (bytes : List ℕ) (parsed : Head) (rest : List ℕ) : Type 0 where
  pub head : RequestHead
  pub reads : ReadsRequest bytes head rest
  pub says : head_of head ≡ Some parsed

-- the bytes never become a valid head, whatever follows
abbrev pub NeverBegins : List ℕ → Type 0
NeverBegins bytes = (more : List ℕ) (parsed : Head) (rest : List ℕ) → ¬ (BeginsWith (bytes ++ more) parsed rest)

-- the parts in the program's `GoodHead`, without its length
abbrev pub parsed : GoodHead → Head
parsed g = record {
  method = g.method.now;
  target = g.target.now;
  member = g.member.now;
  token = g.token.now;
  body = g.body;
  closes = g.closes;
}

-- the result of reading the lines of a head that is len bytes long
abbrev pub Validates : ℕ → Option Head → HeadRead → Type 0
Validates len says More = ⊥
Validates len says Bad = says ≡ None
Validates len says (Whole g) = (g.len ≡ len) × (says ≡ Some (parsed g))

-- the result of reading bytes: more are needed, they never become a valid head, or they begin with one
abbrev pub ReadsHead : List ℕ → HeadRead → Type 0
ReadsHead bytes More = HasNoRequest bytes × MayBecomeRequest bytes
ReadsHead bytes Bad = NeverBegins bytes
ReadsHead bytes (Whole g) = (g.len ≤ length bytes) × BeginsWith bytes (parsed g) (drop g.len bytes)
