-- A step by blocks of rows in a frame.
use Rattle.std.specs.Prelude.{◌≡◌, ◌⊎◌, ℕ, ◌+◌, ◌-◌, ◌*◌, ◌/◌, ◌<◌, ◌≤◌, Bool, true, false, IsTrue, IsFalse, List}
use Rattle.std.specs.Prelude.{length, slice_index_or, refl}
use Rattle.std.proofs.Common.{sym, ap, subst, ◌∙◌, inl, inr, arith}
use Rattle.std.proofs.lemmas.Bool.{cases_eq}
use Rattle.std.proofs.lemmas.Nat.{mul-le}
use Rattle.std.specs.FinSet as set
use Rattle.life_core.specs.declared.packed.frame.Frame.{Frame}
use Rattle.life_core.specs.Rule.{RuleSets}
use Rattle.life_core.specs.Generations.{next}
use Rattle.life_core.specs.PackedRow.{place}
use Rattle.life_core.specs.PackedFrameState.{framed, IsFrame}
use Rattle.life_core.specs.PackedBlocksState.{flat_next}
use Rattle.life_core.specs.PackedMarksState.{IsMarked, KeepsMarks, IsAdvanced, block_at, mark_at, place_at}
use Rattle.life_core.specs.PackedMarginsState.{IsWhole, HasSlack}
use Rattle.life_core.specs.PackedRowsState.{AreMarks, AreSettled}
use Rattle.life_core.proofs.LanePlaces.{place_word, place-lt}
use Rattle.life_core.proofs.FlatSteps.{HasDeadEdges}
use Rattle.life_core.proofs.BlockPlanes.{IsOfBlocks, next_at}
use Rattle.life_core.proofs.SettledBlocks.{settled_block}
use Rattle.life_core.proofs.BlockGenerations.{next_rows}
use Rattle.life_core.proofs.BlockRoom.{room_of, slack_less, dead_edges, dead_guards, first_words, last_words}

-- if old mark j is set only where new mark k is, and k is not set, neither was j
pub unmarked : (old new : List ℕ) (j k : ℕ) → (IsMarked old j → IsMarked new k) → place new k ≡ 0 → place old j ≡ 0
unmarked old new j k kept none = elim (cases_eq (place old j) 0) [
  | inl blank ↦ blank
  | inr some ↦
      let one : place old j ≡ 1 = omega (arith, some, place-lt old j) in
      absurd (omega (arith, none, kept one))
]

-- marks of which all are set, unless rows follow
pub record AreRaised (follows : Bool) (old new : List ℕ) : Type 0 where
  pub kept : KeepsMarks old new
  pub set : IsFalse follows → (j : ℕ) → j < 64 * length new → IsMarked new j

-- where a block is idle, rows follow, and it was idle before marks were raised
idle_before : {P : Type 0} (f : Frame) (follows : Bool) (marks raised : List ℕ)
    → AreMarks f marks → AreRaised follows marks raised
    → (z c : ℕ) → z + 2 ≤ f.height / 16 → c < f.words / 2
    → place raised (mark_at (f.words / 2) z c) ≡ 0
    → (IsTrue follows → place marks (mark_at (f.words / 2) z c) ≡ 0 → P) → P
idle_before {P} f follows marks raised long m z c low narrow idle then = by follows refl
  where
    by : (b : Bool) → follows ≡ b → P
    by true t =
        let j = mark_at (f.words / 2) z c in
        then t (unmarked marks raised j j (m.kept.set j) idle)
    by false t =
        let few = mul-le (z + 1) (f.words / 2) (f.height / 16) (f.words / 2) (omega (arith, low)) (omega arith) in
        absurd (omega (
          arith,
          idle,
          m.set t (mark_at (f.words / 2) z c) (omega (arith, m.kept.long, long.count, few, narrow)),
        ))

module _ (f : Frame) (r : RuleSets) (rows old new : List ℕ) (follows : Bool) (marks raised nm nm_up : List ℕ)
    (frame : IsFrame f) (whole : IsWhole f) (quiet : set.contains r.birth 0 ≡ false)
    (size : f.height * f.words ≡ length rows) (size_old : f.height * f.words ≡ length old)
    (size_new : f.height * f.words ≡ length new)
    (room : HasSlack f 1 (framed f rows)) (old_room : HasSlack f 0 (framed f old))
    (long : AreMarks f marks) (next_long : AreMarks f nm)
    (m : AreRaised follows marks raised) (mm : AreRaised follows nm nm_up)
    (settled : IsTrue follows → AreSettled f r rows old marks)
    (after : IsTrue follows → framed f rows ≡ next r (framed f old))
    (guards : (j : ℕ) → (j < block_at (f.words / 2) 1 0) ⊎ (block_at (f.words / 2) (f.height / 16 - 1) 0 ≤ j)
    → slice_index_or new j 0 ≡ slice_index_or old j 0)
    (steps : (line column : ℕ) → 1 ≤ line → line + 2 ≤ f.height / 16 → column < f.words / 2
    → IsAdvanced (flat_next r rows (64 * (2 * (f.words / 2)))) (f.words / 2) line column raised old new nm)
  where
    abbrev columns : ℕ
    columns = f.words / 2

    abbrev lines : ℕ
    lines = f.height / 16

    of : IsOfBlocks f columns lines
    of = record { wide = whole.wide; tall = whole.tall; some = omega (arith, whole.wide, frame.wide) }

    guard_places : (x y : ℕ) → x < 64 * f.words → y < f.height → (y < 16) ⊎ (f.height ≤ y + 16)
        → place new (y * (64 * f.words) + x) ≡ 0
    guard_places x y narrow low h =
        let W : 64 * f.words ≡ 64 * (2 * columns) = ap (λ (w : ℕ). 64 * w) whole.wide in
        place_word new old (y * (64 * f.words) + x) (guards ((y * (64 * f.words) + x) / 64) (elim h [
          | inl first ↦
              inl (subst (λ (w : ℕ). (y * w + x) / 64 < block_at columns 1 0) (sym W)
              (first_words columns x y (omega (arith, narrow, W)) first))
          | inr last ↦
              inr (subst (λ (w : ℕ). block_at columns (lines - 1) 0 ≤ (y * w + x) / 64) (sym W)
              (last_words columns x y (lines - 1) (omega (arith, whole.tall, last))))
        ]))
        ∙ dead_guards f old 0 frame.wide size_old old_room x y narrow low h

    -- the rows are the next set's
    pub stepped_rows : framed f new ≡ next r (framed f rows)
    stepped_rows =
        next_rows f columns lines r rows old new raised nm of whole.many quiet size size_new
        (room_of f 1 (framed f rows) room) guard_places
        (λ z c i p first last narrow small inside idle.
        idle_before {P = place old (place_at columns z c i p) ≡ next_at f r rows z c i p} f follows marks raised
        long m z c last narrow idle (λ t before. (settled t).places z c i p first last narrow small inside before))
        steps

    -- and the rows before have the next of each block that is idle
    pub stepped_settled : AreSettled f r new rows nm_up
    stepped_settled = record {
      places =
          λ z c i p first last narrow small inside idle. idle_before {P = place rows (place_at columns z c i p)
          ≡ next_at f r new z c i p} f follows nm nm_up next_long mm z c last narrow idle (λ t before.
          settled_block (flat_next r rows (64 * (2 * columns))) columns lines raised nm old new guards steps
          (as_blocks old dead_old) (as_blocks new dead_new) z c narrow before
          f r rows of quiet size size_old size_new dead_old dead_new (after t) i p first last small inside);
    }
      where
        dead_old : HasDeadEdges (64 * f.words) f.height old
        dead_old = dead_edges f old 0 frame.wide size_old old_room

        dead_new : HasDeadEdges (64 * f.words) f.height new
        dead_new =
            dead_edges f new 0 frame.wide size_new
            (subst (HasSlack f 0) (sym stepped_rows) (slack_less r f 1 (framed f rows) room (omega arith)))

        as_blocks : (ws : List ℕ) → HasDeadEdges (64 * f.words) f.height ws
            → HasDeadEdges (64 * (2 * columns)) (16 * lines) ws
        as_blocks ws = subst (λ (p : ℕ × ℕ). HasDeadEdges p.0 p.1 ws) (λ t. (64 * whole.wide t, whole.tall t))
