use Rattle.std.proofs.Common.{◌≡◌, ℕ, ◌<◌, ◌≤◌, List, [], ◌++◌, length, drop, take, ◌+◌, ◌-◌, arith, min, refl, ◌∷◌}
use Rattle.std.proofs.lemmas.List.{drop-drop}
use Rattle.life_rle.proofs.StreamLemmas.{rest_from}
use Rattle.life_rle.proofs.PieceLemmas.{taken_front}
use Rattle.life_rle.proofs.pieces.PieceInletInlet.take.Goals as goal

-- a place whose front is the next bytes
-- nothing given into some room is the end
ended : (left front space : List ℕ) (k m p : ℕ) → 0 < p → front ≡ take k left → m ≡ min (length left) (length space)
    → k ≡ min m p → k ≡ 0
    → 0 < length (front ++ drop k space) → left ≡ []
ended [] front space k m p q e e1 e2 z some = refl
ended (x ∷ left) front space k m p q e e1 e2 z some =
    let none : front ≡ [] = rw (e, z) refl in
    let room : 0 < length space = rw (none, z) at some in
    absurd (omega arith)

given : (bytes space front : List ℕ) (at k m p : ℕ) → at ≤ length bytes → 0 < p
    → front ≡ take k (take (length bytes - at) (drop at bytes))
    → m ≡ min (length (take (length bytes - at) (drop at bytes))) (length space) → k ≡ min m p
    → (drop at bytes ≡ take k (front ++ drop k space) ++ drop (at + k) bytes)
    × (k ≡ 0 → 0 < length (front ++ drop k space) → drop at bytes ≡ [])
given bytes space front at k m p h q e e1 e2 =
    let left : List ℕ = drop at bytes in
    let e' : front ≡ take k (drop at bytes) = rw (rest_from bytes at) at e in
    let m1 : m ≡ min (length (drop at bytes)) (length space) = rw (rest_from bytes at) at e1 in
    let long : k ≤ length (drop at bytes) = omega arith in (
      rw (e', ← drop-drop k at bytes) (taken_front (drop at bytes) k (drop k space) long),
      λ z some. ended (drop at bytes) front space k m p q e' m1 e2 z some,
    )

pub returns-clause-bytes : goal.returns-clause-bytes
returns-clause-bytes c =
    let v = c.deref.ensures.value in
    given c.args.self.now.bytes.items c.args.space.now c.copy_from_slice.new.self c.args.self.now.at
    c.min-k.result c.min.result c.args.self.now.piece
    c.args.self.now.at_within c.args.self.now.some_piece (rw v at c.copy_from_slice.ensures.after)
    (rw v at c.min.ensures) c.min-k.ensures
