use Rattle.std.proofs.Common.{◌≡◌, ℕ, ◌+◌, ◌-◌, ◌*◌, ◌/◌, ◌<◌, ◌≤◌, ap, subst, ◌∙◌, refl, inl, inr, arith}
use Rattle.std.proofs.lemmas.Bool.{cases_lt}
use Rattle.std.proofs.lemmas.Nat.{mul-le}
use Rattle.life_core.specs.PackedRow.{place}
use Rattle.life_core.specs.PackedBlocksState.{flat_next}
use Rattle.life_core.specs.PackedMarksState.{IsStepped, mark_at, place_at}
use Rattle.life_core.proofs.LanePlaces.{place_word}
use Rattle.life_core.proofs.BlockLines.{apart_from, line_before, line_is, line_order, outside_line, advanced_kept}
use Rattle.life_core.proofs.BlockLines.{stepped_from}
use Rattle.life_core.proofs.packed.block_lines.advance_blocks.Goals as goal

pub loop-b-init : goal.loop-b-init
loop-b-init g c =
    let columns = c.args.columns in
    let on = c.next_mark-b.ensures in
    record {
      line = omega arith;
      from = omega (arith, on.from);
      to = on.to;
      next_marks = record { long = refl; set = λ j h. h };
      rest = λ j outside. refl;
      blocks = λ r z m is some fit lt below.
          let far = mul-le 1 columns z columns some (omega arith) in
          inr (record {
            unmarked = on.none (mark_at columns z m) (omega (arith, far)) below;
            kept = λ i p row narrow. refl;
          });
    }

pub columns_step-next-requires-clause-rows : goal.columns_step-next-requires-clause-rows
columns_step-next-requires-clause-rows g c =
    let columns = c.args.columns in
    let line = c.line_of-line.result in
    let last = line_before columns line 0 (c.args.lines - 1) (omega (arith, c.requires.columns))
    (omega (arith, c.line_of-line.ensures.from, c.loop-b-test.true)) in
    let far = mul-le (16 * (line + 2)) (2 * columns) (16 * c.args.lines) (2 * columns) (omega (arith, last))
    (omega arith) in
    omega (arith, far, c.requires.rows)

pub next_mark-b-requires-in-loop-b-clause-from : goal.next_mark-b-requires-in-loop-b-clause-from
next_mark-b-requires-in-loop-b-clause-from g c =
    let columns = c.args.columns in
    let line = c.line_of-line.result in
    let last = line_before columns line 0 (c.args.lines - 1) (omega (arith, c.requires.columns))
    (omega (arith, c.line_of-line.ensures.from, c.loop-b-test.true)) in
    let far = mul-le (line + 1) columns (c.args.lines - 1) columns (omega (arith, last)) (omega arith) in
    omega (arith, far, c.columns_step-next.ensures.result.1)

pub loop-b-preserved : goal.loop-b-preserved
loop-b-preserved g c =
    let columns = c.args.columns in
    let line = c.line_of-line.result in
    let n = c.columns_step-next.result in
    let b = c.loop-b.b in
    let inv = c.loop-b.invariant in
    let e = c.columns_step-next.ensures in
    let on = c.next_mark-b-in-loop-b.ensures in
    let old = c.args.out.now in
    let mid = c.loop-b.out in
    let new = c.columns_step-next.new.out in
    let column : ℕ = b - (1 + line * columns) in
    let at : mark_at columns line column ≡ b = omega (arith, c.line_of-line.ensures.from) in
    record {
      line = omega (arith, inv.line, c.line_of-line.ensures.line);
      from = omega (arith, on.from);
      to = on.to;
      next_marks = record {
        long = e.next_marks.long ∙ inv.next_marks.long;
        set = λ j h. e.next_marks.set j (inv.next_marks.set j h);
      };
      rest = λ j outside.
          e.rest j (λ k from to. outside line k (omega (arith, inv.line, c.line_of-line.ensures.line))
          (omega (arith, to, e.result.1)) (omega (arith, to, on.from)))
          ∙ inv.rest j (λ z k some lt below. outside z k some lt (omega (arith, below, at, e.result.0, on.from)));
      blocks = λ r z m is some fit lt below.
          let N : ℕ → ℕ = flat_next r c.args.rows.now (64 * (2 * columns)) in
          elim (cases_lt (mark_at columns z m) b) [
            | inl before ↦
                advanced_kept N columns z m c.args.marks.now old mid new c.loop-b.next_marks
                c.columns_step-next.new.next_marks
                (λ i p row narrow. place_word new mid (place_at columns z m i p) (e.rest (place_at columns z m i p / 64)
                (λ k from to. apart_from columns z m line k i p lt (omega (arith, to, e.result.1))
                (λ same. omega (arith, same, before, at, from)) row narrow)))
                e.next_marks (inv.blocks r z m is some fit lt before)
            | inr from ↦
                let was : (i p : ℕ) → i < 16 → p < 128
                → place mid (place_at columns z m i p) ≡ place old (place_at columns z m i p) =
                λ i p row narrow. place_word mid old (place_at columns z m i p)
                (inv.rest (place_at columns z m i p / 64) (λ y k first near done.
                apart_from columns z m y k i p lt near (λ same. omega (arith, same, done, from)) row narrow)) in
                elim (cases_lt (mark_at columns z m) (mark_at columns line n)) [
                  | inl here ↦
                      let same : line ≡ z = line_is columns z m line lt
                      (omega (arith, from, c.line_of-line.ensures.from)) (omega (arith, here, e.result.1)) in
                      let first : column ≤ m =
                      omega (arith, from, at, ap (λ (k : ℕ). mark_at columns k m) same) in
                      let last : m < n = omega (arith, here, ap (λ (k : ℕ). mark_at columns k m) same) in
                      inl (stepped_from N columns z m old mid new c.columns_step-next.new.next_marks was
                      (subst (λ (k : ℕ). IsStepped N columns k m mid new c.columns_step-next.new.next_marks) same
                      (e.blocks r m is first last)))
                  | inr skipped ↦
                      inr (record {
                        unmarked = on.none (mark_at columns z m) skipped below;
                        kept = λ i p row narrow. place_word new mid (place_at columns z m i p)
                            (e.rest (place_at columns z m i p / 64) (λ k from to. apart_from columns z m line k i p lt
                            (omega (arith, to, e.result.1)) (λ same. omega (arith, same, skipped, to)) row narrow))
                            ∙ was i p row narrow;
                      })
                ]
          ];
    }

pub returns-clause-guards : goal.returns-clause-guards
returns-clause-guards g c j away =
    let columns = c.args.columns in
    let inv = c.loop-b.invariant in
    inv.rest j (λ z m some lt below.
    let last = line_before columns z m (c.args.lines - 1) lt (omega (arith, below, inv.to)) in
    outside_line columns z m j lt (elim away [
      | inl low ↦
          let far = mul-le (16 * 1) (2 * columns) (16 * z) (2 * columns) (omega (arith, some)) (omega arith) in
          inl (omega (arith, low, far))
      | inr high ↦ inr (omega (arith, high, line_order columns z (c.args.lines - 1) last))
    ]))

pub returns-clause-blocks : goal.returns-clause-blocks
returns-clause-blocks g c r z m is some fit lt =
    let columns = c.args.columns in
    let far = mul-le (z + 1) columns (c.args.lines - 1) columns (omega (arith, fit)) (omega arith) in
    c.loop-b.invariant.blocks r z m is some fit lt (omega (arith, far, lt, c.loop-b-test.false))
