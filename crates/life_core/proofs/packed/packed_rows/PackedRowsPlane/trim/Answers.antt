use Rattle.std.proofs.Common.{◌≡◌, ℕ, List, ◌*◌, ◌/◌, ◌≤◌, length, drop, get_or, sym, ap, subst, ◌∙◌, arith}
use Rattle.std.proofs.lemmas.Bool.{false≢true}
use Rattle.std.proofs.lemmas.List.{take_at}
use Rattle.std.proofs.lemmas.Nat.{mul-le}
use Rattle.life_core.specs.Pattern.{IsWithin}
use Rattle.life_core.specs.PackedFrameState.{framed}
use Rattle.life_core.specs.PackedMarginsState.{HasSlack}
use Rattle.life_core.specs.PackedTrimmingState.{IsNarrower}
use Rattle.life_core.proofs.FrameBounds.{places_few}
use Rattle.life_core.proofs.PackedCells.{no_live}
use Rattle.life_core.proofs.PackedTrimming.{length-front, no_words}
use Rattle.life_core.proofs.BlockRoom.{slack_of_more}
use Rattle.life_core.proofs.packed.packed_rows.PackedRowsPlane.trim.Goals as goal

pub narrowed-requires-clause-frame : goal.narrowed-requires-clause-frame
narrowed-requires-clause-frame g c = c.self.invariant.frame

pub narrowed-requires-clause-whole : goal.narrowed-requires-clause-whole
narrowed-requires-clause-whole g c = c.self.invariant.whole

pub narrowed-requires-clause-rows : goal.narrowed-requires-clause-rows
narrowed-requires-clause-rows g c = c.self.invariant.size ∙ ap length (sym c.deref.ensures.value)

pub narrowed-requires-clause-room : goal.narrowed-requires-clause-room
narrowed-requires-clause-room g c =
    let s = c.self.inside in
    subst (λ (rows : List ℕ). HasSlack s.frame 0 (framed s.frame rows)) (sym c.deref.ensures.value)
    (slack_of_more s.frame 0 s.slack (framed s.frame s.rows.items) c.self.invariant.room (omega arith))

pub overflow_mul-len : goal.overflow_mul-len
overflow_mul-len g c =
    record { fits = omega (arith, places_few c.in-Some.narrower.frame c.in-Some.ensures.frame.frame) }

pub copy_part-requires-clause-frame : goal.copy_part-requires-clause-frame
copy_part-requires-clause-frame g c = c.self.invariant.frame

pub copy_part-requires-clause-rows : goal.copy_part-requires-clause-rows
copy_part-requires-clause-rows g c = c.self.invariant.size ∙ ap length (sym c.deref-in-Some.ensures.value)

pub copy_part-requires-clause-to : goal.copy_part-requires-clause-to
copy_part-requires-clause-to g c =
    subst (λ (rows : List ℕ). IsNarrower c.self.inside.frame rows c.in-Some.narrower)
    (c.deref.ensures.value ∙ sym c.deref-in-Some.ensures.value) c.in-Some.ensures.frame

pub copy_part-requires-clause-out : goal.copy_part-requires-clause-out
copy_part-requires-clause-out g c =
    let s = c.self.inside in
    let n = c.in-Some.narrower.frame in
    let narrow = c.in-Some.ensures.frame.wider in
    let few = mul-le n.height n.words s.frame.height s.frame.words (omega (arith, narrow.tall))
    (omega (arith, narrow.wide)) in
    sym (ap length (c.deref_mut.ensures.value ∙ c.truncate.ensures.items)
    ∙ length-front s.spare.items _ (omega (arith, few, c.self.invariant.size, c.self.invariant.long)))

pub keep_marks-requires-clause-enough : goal.keep_marks-requires-clause-enough
keep_marks-requires-clause-enough g c =
    let f = c.self.inside.frame in
    let n = c.in-Some.narrower.frame in
    let narrow = c.in-Some.ensures.frame.wider in
    omega (
      arith,
      c.self.invariant.marks.count,
      mul-le (n.height / 16) (n.words / 2) (f.height / 16) (f.words / 2) (omega (arith, narrow.tall))
          (omega (arith, narrow.wide)),
    )

pub keep_marks-requires-in-Some-clause-enough : goal.keep_marks-requires-in-Some-clause-enough
keep_marks-requires-in-Some-clause-enough g c =
    let f = c.self.inside.frame in
    let n = c.in-Some.narrower.frame in
    let narrow = c.in-Some.ensures.frame.wider in
    omega (
      arith,
      c.self.invariant.next_marks.count,
      mul-le (n.height / 16) (n.words / 2) (f.height / 16) (f.words / 2) (omega (arith, narrow.tall))
          (omega (arith, narrow.wide)),
    )

pub invariant_of-self : goal.invariant_of-self
invariant_of-self g c =
    let s = c.self.inside in
    let f = s.frame in
    let n = c.in-Some.narrower in
    let packed = c.self.invariant in
    let narrow = c.in-Some.ensures.frame in
    let few : n.frame.height * n.frame.words ≤ length s.rows.items =
    omega (
      arith,
      packed.size,
      mul-le n.frame.height n.frame.words f.height f.words (omega (arith, narrow.wider.tall))
          (omega (arith, narrow.wider.wide)),
    ) in
    let spare : length c.truncate.new.self.items ≡ n.frame.height * n.frame.words = ap length c.truncate.ensures.items
    ∙ length-front s.spare.items _ (omega (arith, few, packed.long)) in
    let long : length c.copy_part.new.out ≡ length c.truncate.new.self.items =
    omega (arith, ap length c.deref_mut.ensures.value) in
    let x : c.swap.new.x.items ≡ c.copy_part.new.out = ap (λ v. v.items) c.swap.ensures.x_after
    ∙ take_at c.copy_part.new.out (drop (length c.copy_part.new.out) c.truncate.new.self.items) c.truncate.new.self.len
    (omega (arith, long, c.truncate.new.self.ok)) in
    let y : c.swap.new.y.items ≡ s.rows.items = ap (λ v. v.items) c.swap.ensures.y_after in
    let kept : length c.truncate-in-Some.new.self.items ≡ n.frame.height * n.frame.words =
    ap length c.truncate-in-Some.ensures.items ∙ length-front c.swap.new.y.items _ (omega (arith, few, ap length y)) in
    let blank = c.fill.ensures.items (λ z e. e) in
    let wiped : length c.fill.new.self.items ≡ n.frame.height * n.frame.words =
    omega (arith, kept, c.fill.ensures.len, c.fill.new.self.ok, c.truncate-in-Some.new.self.ok) in
    let dead : (j : ℕ) → get_or c.fill.new.self.items j 0 ≡ 0 = λ j. no_words c.fill.new.self.items _ j blank in
    let eq : framed n.frame c.swap.new.x.items ≡ framed f s.rows.items = ap (framed n.frame) x
    ∙ c.copy_part.ensures ∙ ap (framed f) c.deref-in-Some.ensures.value in
    record {
      frame = narrow.frame;
      whole = c.in-Some.ensures.whole;
      size = omega (arith, spare, long, ap length x);
      long = omega (arith, wiped, spare, long, ap length x);
      marks = c.keep_marks.ensures;
      next_marks = c.keep_marks-in-Some.ensures;
      within = subst (IsWithin 1000000000) (sym eq) packed.within;
      room = subst (HasSlack n.frame 0) (ap (framed f) c.deref.ensures.value ∙ sym eq) c.in-Some.ensures.room;
      spare_room = record {
        away =
            λ d h.
            absurd (false≢true (sym (no_live n.frame c.fill.new.self.items narrow.frame.wide (sym wiped) dead d) ∙ h));
      };
      settled = λ never. absurd (false≢true never);
      after = λ never. absurd (false≢true never);
    }

pub returns-in-Some : goal.returns-in-Some
returns-in-Some g c =
    let s = c.self.inside in
    let f = s.frame in
    let n = c.in-Some.narrower in
    let long : length c.copy_part.new.out ≡ length c.truncate.new.self.items =
    omega (arith, ap length c.deref_mut.ensures.value) in
    let x : c.swap.new.x.items ≡ c.copy_part.new.out = ap (λ v. v.items) c.swap.ensures.x_after
    ∙ take_at c.copy_part.new.out (drop (length c.copy_part.new.out) c.truncate.new.self.items) c.truncate.new.self.len
    (omega (arith, long, c.truncate.new.self.ok)) in
    ap (framed n.frame) x ∙ c.copy_part.ensures ∙ ap (framed f) c.deref-in-Some.ensures.value ∙ c.self.view_is
