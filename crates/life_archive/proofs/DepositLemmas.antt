-- Reading the input of a deposit, and writing its line.
use Rattle.std.proofs.Common.{◌≡◌, ◌≤◌, ℕ, List, [], ◌++◌, length, take, Option, None, Some, refl, sym, ◌∙◌, ap}
use Rattle.std.proofs.Common.{append_assoc, append-nil}
use Rattle.std.proofs.lemmas.List.{take_all}
use Rattle.std.proofs.Math.Seq.{take-append_seam}
use Rattle.life_rle.specs.Stream.{Consumes, IsEnded, Appends, AppendsSome}
use Rattle.life_rle.proofs.StreamLemmas.{appends_more}
use Rattle.life_archive.specs.Deposit.{IsFileTaken}

-- ---- taking

-- nothing was taken
pub consumes_nothing : (a : Option (List ℕ)) → Consumes a a []
consumes_nothing None = tt
consumes_nothing (Some a) = refl

-- some bytes were taken, and then more
pub consumes_more : (a b c : Option (List ℕ)) (x y : List ℕ) → Consumes a b x → Consumes b c y → Consumes a c (x ++ y)
consumes_more None b c x y p q = tt
consumes_more (Some a) None c x y p q = absurd p
consumes_more (Some a) (Some b) None x y p q = absurd q
consumes_more (Some a) (Some b) (Some c) x y p q = p ∙ ap (λ (l : List ℕ). x ++ l) q ∙ sym (append_assoc x y c)

-- all were taken, and they are no more than a file and a byte
pub taken_all : (old now : Option (List ℕ)) (file : List ℕ) → Consumes old now file → IsEnded now
    → length file ≤ 1048577 → IsFileTaken old file
taken_all None now file p ended few = tt
taken_all (Some a) None file p ended few = absurd p
taken_all (Some a) (Some b) file p ended few =
    let is : a ≡ file = p ∙ ap (λ (l : List ℕ). file ++ l) ended ∙ append-nil file in
    sym (ap (λ (l : List ℕ). take 1048577 l) is ∙ take_all 1048577 file few)

-- a file and a byte were taken
pub taken_full : (old now : Option (List ℕ)) (file : List ℕ) → Consumes old now file → length file ≡ 1048577
    → IsFileTaken old file
taken_full None now file p full = tt
taken_full (Some a) None file p full = absurd p
taken_full (Some a) (Some b) file p full =
    sym (ap (λ (l : List ℕ). take 1048577 l) p ∙ ap (λ n. take n (file ++ b)) (sym full) ∙ take-append_seam file b)

-- ---- putting

-- a whole piece, and some of the rest
pub appends_then_some : (a b c : Option (List ℕ)) (x y : List ℕ) → Appends a b x → AppendsSome b c y
    → AppendsSome a c (x ++ y)
appends_then_some a b c x y p (front, rest, is, q) =
    (x ++ front, rest, ap (λ (l : List ℕ). x ++ l) is ∙ sym (append_assoc x front rest), appends_more a b c x front p q)

-- some of the first piece
pub appends_some_of : (a b : Option (List ℕ)) (x y : List ℕ) → AppendsSome a b x → AppendsSome a b (x ++ y)
appends_some_of a b x y (front, rest, is, q) =
    (front, rest ++ y, ap (λ (l : List ℕ). l ++ y) is ∙ append_assoc front rest y, q)
