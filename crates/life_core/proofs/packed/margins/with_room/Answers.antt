use Rattle.std.proofs.Common.{◌≡◌, ℕ, sym, ap, subst, arith}
use Rattle.std.proofs.lemmas.Int.{ints}
use Rattle.life_core.specs.PackedFrameState.{framed}
use Rattle.life_core.specs.PackedMarginsState.{HasSlack, checked_room}
use Rattle.life_core.proofs.packed.margins.with_room.Goals as goal

pub returns-then-left-right-eq0-clause-none : goal.returns-then-left-right-eq0-clause-none
returns-then-left-right-eq0-clause-none c none =
    let zero : c.args.slack ≡ 0 = omega (arith, c.if-slack-gt0.false) in
    subst (λ (n : ℕ). HasSlack c.args.frame n (framed c.args.frame c.args.rows.now))
    (sym (ap checked_room zero)) (record {
      away = λ d live.
          let l = c.left_growth-left.ensures.free d live in
          let r = c.right_growth-right.ensures.free d live in
          let t = c.top_growth-top.ensures.free d live in
          let b = c.bottom_growth-bottom.ensures.free d live in
          let sum = c.if-left-right-eq0.true in
          record {
            from_left = omega (arith, ints, l, sum);
            to_right = omega (arith, ints, r, sum);
            from_top = omega (arith, ints, t, sum);
            to_bottom = omega (arith, ints, b, sum);
          };
    })

pub returns-clause-frame : goal.returns-clause-frame
returns-clause-frame c =
    let f = c.requires.frame in
    let n = c.grown.ensures in
    let l = c.left_growth-left.ensures in
    let r = c.right_growth-right.ensures in
    let t = c.top_growth-top.ensures in
    let b = c.bottom_growth-bottom.ensures in
    record {
      wide = omega (arith, n.words, f.wide);
      tall = omega (arith, n.height, f.tall);
      from_left = omega (arith, ints, n.left, l.most, l.near, f.from_left);
      to_right = omega (arith, ints, n.left, n.words, l.most, r.most, r.near, f.to_right);
      from_top = omega (arith, ints, n.top, t.most, t.near, f.from_top);
      to_bottom = omega (arith, ints, n.top, n.height, t.most, b.most, b.near, f.to_bottom);
    }

pub returns-clause-wider : goal.returns-clause-wider
returns-clause-wider c =
    let n = c.grown.ensures in
    record {
      left = omega (arith, ints, n.left);
      top = n.top;
      wide = omega (arith, n.words);
      tall = omega (arith, n.height);
      columns = omega arith;
      lines = omega arith;
    }

pub returns-clause-whole : goal.returns-clause-whole
returns-clause-whole c =
    let n = c.grown.ensures in
    let whole = c.requires.whole in
    record {
      wide = omega (arith, n.words, whole.wide);
      tall = omega (arith, n.height, whole.tall);
      many = omega (arith, n.height, whole.many);
    }

pub returns-clause-room : goal.returns-clause-room
returns-clause-room c =
    let zero : c.args.slack ≡ 0 = omega (arith, c.if-slack-gt0.false) in
    subst (λ (n : ℕ). HasSlack c.grown.result n (framed c.args.frame c.args.rows.now))
    (sym (ap checked_room zero)) (record {
      away = λ d live.
          let n = c.grown.ensures in
          let l = c.left_growth-left.ensures.free d live in
          let r = c.right_growth-right.ensures.free d live in
          let t = c.top_growth-top.ensures.free d live in
          let b = c.bottom_growth-bottom.ensures.free d live in
          record {
            from_left = omega (arith, ints, n.left, l);
            to_right = omega (arith, ints, n.left, n.words, r);
            from_top = omega (arith, ints, n.top, t);
            to_bottom = omega (arith, ints, n.top, n.height, b);
          };
    })
