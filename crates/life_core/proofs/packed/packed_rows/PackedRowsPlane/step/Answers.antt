use Rattle.std.proofs.Common.{◌≡◌, ℕ, ◌-◌, List, length, drop, sym, ap, subst, ◌∙◌, refl, arith}
use Rattle.std.proofs.lemmas.List.{take_at}
use Rattle.std.specs.Prelude.{IsTrue}
use Rattle.life_core.specs.Pattern.{IsWithin}
use Rattle.life_core.specs.Rule.{RuleSets}
use Rattle.life_core.specs.Generations.{next}
use Rattle.life_core.specs.PackedFrameState.{framed}
use Rattle.life_core.specs.PackedMarginsState.{HasSlack, checked_room}
use Rattle.life_core.specs.PackedRowsState.{AreMoved, AreSettled, IsPacked}
use Rattle.life_core.proofs.GenerationsLaws.{next_within}
use Rattle.life_core.proofs.BlockRoom.{slack_less, slack_of_more, slack_in_wider, checked_room_some}
use Rattle.life_core.proofs.MovedMarks.{moved_settled}
use Rattle.life_core.proofs.packed.packed_rows.PackedRowsPlane.step.Goals as goal
use Rattle.life_core.proofs.packed.packed_rows.PackedRowsPlane.step.Goals.{in-Some+in_ok-rows+in_ok-spare+in_ok-marks+in_ok-next_marks}
use Rattle.life_core.proofs.packed.packed_rows.PackedRowsPlane.step.Goals.{in_default}

pub with_room-requires-clause-frame : goal.with_room-requires-clause-frame
with_room-requires-clause-frame g c = c.self.invariant.frame

pub with_room-requires-clause-whole : goal.with_room-requires-clause-whole
with_room-requires-clause-whole g c = c.self.invariant.whole

pub with_room-requires-clause-rows : goal.with_room-requires-clause-rows
with_room-requires-clause-rows g c = c.self.invariant.size ∙ ap length (sym c.deref.ensures.value)

pub with_room-requires-clause-within : goal.with_room-requires-clause-within
with_room-requires-clause-within g c =
    subst (λ (rows : List ℕ). IsWithin 1000000000 (framed c.self.inside.frame rows))
    (sym c.deref.ensures.value) c.self.invariant.within

pub with_room-requires-clause-slack : goal.with_room-requires-clause-slack
with_room-requires-clause-slack g c =
    subst (λ (rows : List ℕ). HasSlack c.self.inside.frame c.self.inside.slack (framed c.self.inside.frame rows))
    (sym c.deref.ensures.value) c.self.invariant.room

pub moved_rows-requires-clause-from : goal.moved_rows-requires-clause-from
moved_rows-requires-clause-from g c = c.self.invariant.frame

pub moved_rows-requires-clause-to : goal.moved_rows-requires-clause-to
moved_rows-requires-clause-to g c = c.in-Some.ensures.frame

pub moved_rows-requires-clause-wider : goal.moved_rows-requires-clause-wider
moved_rows-requires-clause-wider g c = c.in-Some.ensures.wider

pub moved_rows-requires-clause-rows : goal.moved_rows-requires-clause-rows
moved_rows-requires-clause-rows g c = c.self.invariant.size ∙ ap length (sym c.deref-in-Some.ensures.value)

pub moved_marks-requires-clause-marks : goal.moved_marks-requires-clause-marks
moved_marks-requires-clause-marks g c =
    record { count = omega (arith, c.self.invariant.marks.count, ap length c.deref-in-Some-3.ensures.value) }

pub advance-requires-clause-room : goal.advance-requires-clause-room
advance-requires-clause-room g c =
    let s = c.match-with_room.self-inside in
    let room : HasSlack s.frame (checked_room s.slack) (framed s.frame s.rows.items) = elim c.match-with_room.branch [
      | in-Some+in_ok-rows+in_ok-spare+in_ok-marks+in_ok-next_marks w ↦
          let n = w.in-Some.wider.frame in
          subst (λ z. HasSlack z.frame (checked_room z.slack) (framed z.frame z.rows.items)) (sym w.self-inside-is)
          (subst (HasSlack n (checked_room c.self.inside.slack)) (ap (framed c.self.inside.frame) c.deref.ensures.value
          ∙ sym (w.in_ok-rows.ensures.cells ∙ ap (framed c.self.inside.frame) w.deref-in-Some.ensures.value))
          w.in-Some.ensures.room)
      | in_default w ↦
          let f = c.self.inside.frame in
          subst (λ z. HasSlack z.frame (checked_room z.slack) (framed z.frame z.rows.items)) (sym w.self-inside-is)
          (subst (λ (rows : List ℕ). HasSlack f (checked_room c.self.inside.slack) (framed f rows))
          c.deref.ensures.value
          (w.in_default.ensures.none refl))
    ] in
    subst (λ (rows : List ℕ). HasSlack s.frame 1 (framed s.frame rows)) (sym c.deref-2.ensures.value)
    (slack_of_more s.frame 1 (checked_room s.slack) (framed s.frame s.rows.items) room (checked_room_some s.slack))

pub advance-requires-clause-out_room : goal.advance-requires-clause-out_room
advance-requires-clause-out_room g c =
    let s = c.match-with_room.self-inside in
    let room : HasSlack s.frame 0 (framed s.frame s.spare.items) = elim c.match-with_room.branch [
      | in-Some+in_ok-rows+in_ok-spare+in_ok-marks+in_ok-next_marks w ↦
          let n = w.in-Some.wider.frame in
          subst (λ z. HasSlack z.frame 0 (framed z.frame z.spare.items)) (sym w.self-inside-is)
          (subst (HasSlack n 0) (sym (w.in_ok-spare.ensures.cells
          ∙ ap (framed c.self.inside.frame) w.deref-in-Some-2.ensures.value))
          (slack_in_wider c.self.inside.frame w.in-Some.wider 0 (framed c.self.inside.frame c.self.inside.spare.items)
          w.in-Some.ensures.wider c.self.invariant.spare_room))
      | in_default w ↦
          subst (λ z. HasSlack z.frame 0 (framed z.frame z.spare.items))
          (sym w.self-inside-is) c.self.invariant.spare_room
    ] in
    subst (λ (rows : List ℕ). HasSlack s.frame 0 (framed s.frame rows)) (sym c.deref_mut-2.ensures.value) room

pub advance-requires-clause-settled : goal.advance-requires-clause-settled
advance-requires-clause-settled g c t =
    let s = c.match-with_room.self-inside in
    let parts = c.and_flags.ensures.0 t in
    let rule : s.rule ≡ c.args.rule.now = c.eq.ensures.same.0 parts.1 in
    let settled : IsTrue s.follows → AreSettled s.frame s.rule s.rows.items s.spare.items s.marks.items =
    elim c.match-with_room.branch [
      | in-Some+in_ok-rows+in_ok-spare+in_ok-marks+in_ok-next_marks w ↦
          subst (λ z. IsTrue z.follows → AreSettled z.frame z.rule z.rows.items z.spare.items z.marks.items)
          (sym w.self-inside-is) (moved_settled c.self.inside.frame w.in-Some.wider _ _ _ _ _ _ _ c.self.invariant
          w.in_ok-rows.rows.items w.in_ok-spare.spare.items w.in_ok-marks.marks.items w.in-Some.ensures.frame
          w.in-Some.ensures.whole w.in-Some.ensures.wider
          w.in_ok-spare.ensures.len
          (w.in_ok-rows.ensures.cells ∙ ap (framed c.self.inside.frame) w.deref-in-Some.ensures.value)
          (w.in_ok-spare.ensures.cells ∙ ap (framed c.self.inside.frame) w.deref-in-Some-2.ensures.value)
          (subst (λ (ms : List ℕ). AreMoved c.self.inside.frame w.in-Some.wider ms w.in_ok-marks.marks.items)
          w.deref-in-Some-3.ensures.value w.in_ok-marks.ensures.moved))
      | in_default w ↦
          subst (λ z. IsTrue z.follows → AreSettled z.frame z.rule z.rows.items z.spare.items z.marks.items)
          (sym w.self-inside-is) c.self.invariant.settled
    ] in
    subst (λ (p : ((List ℕ × List ℕ) × List ℕ) × RuleSets). AreSettled s.frame p.1 p.0.0.0 p.0.0.1 p.0.1)
    (λ i.
    (((sym c.deref-2.ensures.value i, sym c.deref_mut-2.ensures.value i), sym c.deref_mut.ensures.value i), rule i))
    (settled parts.0)

pub invariant_of-self : goal.invariant_of-self
invariant_of-self g c =
    let s = c.match-with_room.self-inside in
    let V = framed c.self.inside.frame c.self.inside.rows.items in
    let J : IsPacked s.frame s.rows.items s.spare.items s.marks.items s.next_marks.items s.rule s.follows
    (checked_room s.slack)
    × (framed s.frame s.rows.items ≡ V) = elim c.match-with_room.branch [
      | in-Some+in_ok-rows+in_ok-spare+in_ok-marks+in_ok-next_marks w ↦
          let n = w.in-Some.wider.frame in
          let same : framed n w.in_ok-rows.rows.items ≡ V = w.in_ok-rows.ensures.cells
          ∙ ap (framed c.self.inside.frame) w.deref-in-Some.ensures.value in
          let before : framed n w.in_ok-spare.spare.items ≡ framed c.self.inside.frame c.self.inside.spare.items =
          w.in_ok-spare.ensures.cells ∙ ap (framed c.self.inside.frame) w.deref-in-Some-2.ensures.value in
          let new : IsPacked n w.in_ok-rows.rows.items w.in_ok-spare.spare.items w.in_ok-marks.marks.items
          w.in_ok-next_marks.next_marks.items c.self.inside.rule c.self.inside.follows
          (checked_room c.self.inside.slack) = record {
            frame = w.in-Some.ensures.frame;
            whole = w.in-Some.ensures.whole;
            size = w.in_ok-rows.ensures.len;
            long = omega (arith, w.in_ok-spare.ensures.len, w.in_ok-rows.ensures.len);
            marks = w.in_ok-marks.ensures.marks;
            next_marks = w.in_ok-next_marks.ensures;
            within = subst (IsWithin 1000000000) (sym same) c.self.invariant.within;
            room =
                subst (HasSlack n (checked_room c.self.inside.slack))
                (ap (framed c.self.inside.frame) c.deref.ensures.value ∙ sym same) w.in-Some.ensures.room;
            spare_room =
                subst (HasSlack n 0) (sym before)
                (slack_in_wider c.self.inside.frame w.in-Some.wider 0
                (framed c.self.inside.frame c.self.inside.spare.items) w.in-Some.ensures.wider
                c.self.invariant.spare_room);
            settled = moved_settled c.self.inside.frame w.in-Some.wider _ _ _ _ _ _ _ c.self.invariant
                w.in_ok-rows.rows.items w.in_ok-spare.spare.items w.in_ok-marks.marks.items w.in-Some.ensures.frame
                w.in-Some.ensures.whole w.in-Some.ensures.wider w.in_ok-spare.ensures.len same before
                (subst (λ (ms : List ℕ). AreMoved c.self.inside.frame w.in-Some.wider ms w.in_ok-marks.marks.items)
                w.deref-in-Some-3.ensures.value w.in_ok-marks.ensures.moved);
            after = λ t. same ∙ c.self.invariant.after t ∙ ap (next c.self.inside.rule) (sym before);
          } in
          subst (λ z. IsPacked z.frame z.rows.items z.spare.items z.marks.items z.next_marks.items z.rule z.follows
          (checked_room z.slack)
          × (framed z.frame z.rows.items ≡ V)) (sym w.self-inside-is) (new, same)
      | in_default w ↦
          let f = c.self.inside.frame in
          let old = c.self.invariant in
          let room : HasSlack f (checked_room c.self.inside.slack) V =
          subst (λ (rows : List ℕ). HasSlack f (checked_room c.self.inside.slack) (framed f rows)) c.deref.ensures.value
          (w.in_default.ensures.none refl) in
          subst (λ z. IsPacked z.frame z.rows.items z.spare.items z.marks.items z.next_marks.items z.rule z.follows
          (checked_room z.slack)
          × (framed z.frame z.rows.items ≡ V)) (sym w.self-inside-is) (
            record {
              frame = old.frame;
              whole = old.whole;
              size = old.size;
              long = old.long;
              marks = old.marks;
              next_marks = old.next_marks;
              within = old.within;
              room = room;
              spare_room = old.spare_room;
              settled = old.settled;
              after = old.after;
            },
            refl,
          )
    ] in
    let r = c.args.rule.now in
    let a = c.advance.new in
    let long : length a.out ≡ length s.spare.items = omega (arith, ap length c.deref_mut-2.ensures.value) in
    let x : c.swap.new.x.items ≡ a.out = ap (λ v. v.items) c.swap.ensures.x_after
    ∙ take_at a.out (drop (length a.out) s.spare.items) s.spare.len (omega (arith, long, s.spare.ok)) in
    let y : c.swap.new.y.items ≡ s.rows.items = ap (λ v. v.items) c.swap.ensures.y_after in
    let marks : length a.marks ≡ length s.marks.items = omega (arith, ap length c.deref_mut.ensures.value) in
    let next_marks : length a.next_marks ≡ length s.next_marks.items =
    omega (arith, ap length c.deref_mut-3.ensures.value) in
    let xm : c.swap-2.new.x.items ≡ a.next_marks = ap (λ v. v.items) c.swap-2.ensures.x_after
    ∙ take_at a.next_marks (drop (length a.next_marks) s.next_marks.items) s.next_marks.len
    (omega (arith, next_marks, s.next_marks.ok)) in
    let ym : c.swap-2.new.y.items ≡ a.marks = ap (λ v. v.items) c.swap-2.ensures.y_after
    ∙ take_at a.marks (drop (length a.marks) s.marks.items) s.marks.len (omega (arith, marks, s.marks.ok)) in
    let on : framed s.frame c.swap.new.x.items ≡ next r (framed s.frame s.rows.items) = ap (framed s.frame) x
    ∙ c.advance.ensures.rows ∙ ap (λ (rows : List ℕ). next r (framed s.frame rows)) c.deref-2.ensures.value in
    let eq : framed s.frame c.swap.new.x.items ≡ next r c.args.self.now = on ∙ ap (next r) (J.1 ∙ c.self.view_is) in
    let slack : checked_room s.slack - 1 ≡ c.room_after_check.result - 1 =
    ap (λ (n : ℕ). n - 1) (sym c.room_after_check.ensures) in
    record {
      frame = J.0.frame;
      whole = J.0.whole;
      size = omega (arith, J.0.size, J.0.long, long, ap length x);
      long = omega (arith, J.0.long, long, ap length x, ap length y);
      marks = record { count = omega (arith, J.0.next_marks.count, next_marks, ap length xm) };
      next_marks = record { count = omega (arith, J.0.marks.count, marks, ap length ym) };
      within = subst (IsWithin 1000000000) (sym eq) (next_within r 999999999 c.args.self.now c.requires);
      room =
          subst (λ (n : ℕ). HasSlack s.frame n (framed s.frame c.swap.new.x.items)) slack
          (subst (HasSlack s.frame (checked_room s.slack - 1)) (sym on)
          (slack_less r s.frame (checked_room s.slack) (framed s.frame s.rows.items) J.0.room
          (checked_room_some s.slack)));
      spare_room =
          subst (λ (rows : List ℕ). HasSlack s.frame 0 (framed s.frame rows)) (sym y)
          (slack_of_more s.frame 0 (checked_room s.slack) (framed s.frame s.rows.items) J.0.room (omega arith));
      settled =
          λ t. subst (λ (p : (List ℕ × List ℕ) × List ℕ). AreSettled s.frame r p.0.0 p.0.1 p.1)
          (λ i. ((sym x i, (c.deref-2.ensures.value ∙ sym y) i), sym xm i)) c.advance.ensures.settled;
      after = λ t. on ∙ ap (λ (rows : List ℕ). next r (framed s.frame rows)) (sym y);
    }
