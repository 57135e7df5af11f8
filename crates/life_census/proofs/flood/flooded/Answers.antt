use Rattle.std.proofs.Common.{◌≡◌, ◌<◌, ◌≤◌, length, get_or, pos, sym, subst, arith}
use Rattle.std.proofs.lemmas.List.{take_all, get_or_default}
use Rattle.std.proofs.lemmas.List.Elements.{All-same}
use Rattle.life_core.specs.declared.runs.Run.{Run}
use Rattle.life_census.proofs.FloodLaws.{IsClearRound, clear_more, as_long, kept_trans, order_kept, HasBegun, has_begun}
use Rattle.life_census.proofs.FloodLaws.{all_clear}
use Rattle.life_census.proofs.flood.flooded.Goals as goal

abbrev blank : Run
blank = record { row = pos 0; first = pos 0; len = 0 }

pub loop-i-init : goal.loop-i-init
loop-i-init g c =
    let left = c.args.left.now in
    let r : Run = get_or left c.args.start blank in
    let begun : HasBegun left c.args.start c.take_run.new.left c.take_run.new.cluster.items =
    has_begun left c.new-cluster.result.items c.take_run.new.left c.take_run.new.cluster.items
    c.args.start r c.requires.order c.requires.start.0 c.requires.start.1
    (get_or_default left c.args.start blank r c.requires.start.0) c.new-cluster.ensures.items
    (c.in_ok-take_run.ensures blank) in
    record {
      low = omega arith;
      kept = begun.kept;
      filled = begun.filled;
      flood = begun.flood;
      clear = λ k d none. absurd (omega arith);
    }

pub take_near-requires : goal.take_near-requires
take_near-requires g c = order_kept c.args.left.now c.loop-i.left c.loop-i.invariant.kept c.requires.order

pub loop-i-preserved : goal.loop-i-preserved
loop-i-preserved g c =
    let grown = c.in_ok-take_near.ensures.grown in
    let low : c.loop-i.i < length c.loop-i.cluster.items = omega arith in
    let long = as_long _ _ _ _ _ grown in
    let before = c.loop-i.invariant in
    let run = c.index-run.result.now in
    let item : run ≡ get_or c.loop-i.cluster.items c.loop-i.i run = c.index-run.ensures in
    record {
      low = omega arith;
      kept = kept_trans c.args.left.now c.loop-i.left c.take_near.new.left before.kept grown.kept;
      filled = grown.filled before.filled;
      flood =
          λ d. grown.flood _ _ (subst (λ (s : Run). 1 ≤ s.len) (sym item) (before.filled c.loop-i.i run low))
          (c.loop-i.i, low, sym item) (before.flood d);
      clear =
          clear_more run c.loop-i.left c.take_near.new.left c.loop-i.cluster.items c.take_near.new.cluster.items
          c.loop-i.i grown low item before.clear c.in_ok-take_near.ensures.clear;
    }

pub returns-clause-clear : goal.returns-clause-clear
returns-clause-clear g c =
    let end : length c.loop-i.cluster.items ≤ c.loop-i.i = omega arith in
    all_clear c.loop-i.cluster.items c.loop-i.left (All-same (IsClearRound c.loop-i.left) _ _
    (sym (take_all c.loop-i.i c.loop-i.cluster.items end)) c.loop-i.invariant.clear)
