use Rattle.std.proofs.Common.{◌/◌, ◌≤◌, ◌<◌, inl, inr, arith}
use Rattle.std.proofs.lemmas.Int.{ints}
use Rattle.std.proofs.lemmas.Bool.{cases_lt}
use Rattle.life_core.proofs.PackedCells.{live_place}
use Rattle.life_core.proofs.PackedTrimming.{blank_place}
use Rattle.life_core.proofs.packed.trimming.narrowed.Goals as goal

pub returns-clause-frame : goal.returns-clause-frame
returns-clause-frame c =
    let n = c.part.ensures in
    let r = c.right_end-right.ensures in
    let b = c.bottom_end-bottom.ensures in
    record {
      frame = n.frame;
      wider = record {
        left = omega (arith, ints, n.left);
        top = omega (arith, ints, n.top);
        wide = omega (arith, n.words);
        tall = omega (arith, n.height);
        columns = omega arith;
        lines = omega arith;
      };
      dead = λ y j low inside beside. elim beside [
        | inl rows ↦ elim rows [
          | inl above ↦ c.top_margin-top.ensures.dead y j (omega (arith, above, c.saturating_sub-above.ensures)) inside
          | inr below ↦
              b.dead y j (omega (arith, n.height, below, c.saturating_sub-below.ensures, b.inside)) low inside
        ]
        | inr columns ↦ elim columns [
          | inl before ↦
              c.left_margin-left.ensures.dead y j low (omega (arith, before, c.saturating_sub-before.ensures))
          | inr after ↦ r.dead y j low (omega (arith, n.words, after, c.saturating_sub-after.ensures, r.inside)) inside
        ]
      ];
    }

pub returns-clause-whole : goal.returns-clause-whole
returns-clause-whole c =
    let n = c.part.ensures in
    let whole = c.requires.whole in
    record {
      wide = omega (arith, n.words, whole.wide);
      tall = omega (arith, n.height, whole.tall);
      many = omega (
        arith,
        n.height,
        whole.tall,
        whole.many,
        c.saturating_sub-above.ensures,
        c.saturating_sub-below.ensures,
        c.top_margin-top.ensures.inside,
        c.bottom_end-bottom.ensures.some,
        c.bottom_end-bottom.ensures.inside,
      );
    }

pub returns-clause-room : goal.returns-clause-room
returns-clause-room c = record {
  away = λ d live.
      let f = c.args.frame in
      let n = c.part.ensures in
      let a = c.requires.room.away d live in
      let p = live_place f c.args.rows.now c.requires.frame.wide c.requires.rows d live in
      let word : p.x / 64 < f.words = omega (arith, p.narrow) in
      let never = blank_place c.args.rows.now f.words p.x p.y p.live in
      let t = c.top_margin-top.result in
      let e = c.bottom_end-bottom.result in
      let l = c.left_margin-left.result in
      let r = c.right_end-right.result in
      let top : t ≤ p.y = elim (cases_lt p.y t) [
        | inl before ↦ absurd (never (c.top_margin-top.ensures.dead p.y (p.x / 64) before word))
        | inr after ↦ after
      ] in
      let bottom : p.y < e = elim (cases_lt p.y e) [
        | inl before ↦ before
        | inr after ↦ absurd (never (c.bottom_end-bottom.ensures.dead p.y (p.x / 64) after p.low word))
      ] in
      let left : l ≤ p.x / 64 = elim (cases_lt (p.x / 64) l) [
        | inl before ↦ absurd (never (c.left_margin-left.ensures.dead p.y (p.x / 64) p.low before))
        | inr after ↦ after
      ] in
      let right : p.x / 64 < r = elim (cases_lt (p.x / 64) r) [
        | inl before ↦ before
        | inr after ↦ absurd (never (c.right_end-right.ensures.dead p.y (p.x / 64) p.low after word))
      ] in
      record {
        from_left = omega (arith, ints, n.left, p.column, a.from_left, c.saturating_sub-before.ensures, left);
        to_right = omega (
          arith,
          ints,
          n.left,
          n.words,
          p.column,
          a.to_right,
          c.saturating_sub-after.ensures,
          right,
          c.right_end-right.ensures.inside,
        );
        from_top = omega (arith, ints, n.top, p.row, a.from_top, c.saturating_sub-above.ensures, top);
        to_bottom = omega (
          arith,
          ints,
          n.top,
          n.height,
          p.row,
          a.to_bottom,
          c.saturating_sub-below.ensures,
          bottom,
          c.bottom_end-bottom.ensures.inside,
        );
      };
}
