use Rattle.std.proofs.Common.{◌<◌, ◌++◌, ◌∙◌, inl, arith, take, length}
use Rattle.std.proofs.lemmas.List.{length-append, length-take-le, length-take}
use Rattle.life_rle.specs.declared.stream.Failed.{Failed}
use Rattle.life_rle.proofs.StreamLemmas.{ended_more}
use Rattle.life_archive.proofs.DepositLemmas.{consumes_more, taken_all, taken_full}
use Rattle.life_archive.proofs.deposit.take_file.Goals as goal

pub returns-in-Ok-eq0-clause-taken : goal.returns-in-Ok-eq0-clause-taken
returns-in-Ok-eq0-clause-taken g c =
    let some : 0 < length c.take.new.space =
    omega (arith, c.take.auto.space, length-take c.min-room.result c.loop-buffer.buffer) in
    taken_all _ _ c.loop-buffer.file.items c.loop-buffer.invariant.taken
    (c.in-Ok-eq0.ensures.bytes.1 c.in-Ok-eq0.field-0-test some) c.loop-buffer.invariant.few

pub returns-in-Err-extend_from_slice-clause-takes : goal.returns-in-Err-extend_from_slice-clause-takes
returns-in-Err-extend_from_slice-clause-takes g c = record {
  on_failed_take = c.in-Ok.ensures.count ∙ c.loop-buffer.invariant.unfailed;
  few = (
    c.loop-buffer.file.items ++ take c.in-Ok.k c.take.new.space,
    omega (
      arith,
      c.take.auto.space,
      c.in-Ok.ensures.within,
      length-append c.loop-buffer.file.items (take c.in-Ok.k c.take.new.space),
      length-take-le c.in-Ok.k c.take.new.space c.in-Ok.ensures.within,
      length-take c.min-room.result c.loop-buffer.buffer,
    ),
    consumes_more _ _ _ c.loop-buffer.file.items
        (take c.in-Ok.k c.take.new.space) c.loop-buffer.invariant.taken c.in-Ok.ensures.bytes.0,
  );
  ended = inl (c.in-Ok.ensures.end ∙ ended_more Failed _ c.in-Ok.k c.in-Ok.k-test.1 ∙ c.loop-buffer.invariant.unended);
}

pub returns-clause-taken : goal.returns-clause-taken
returns-clause-taken g c =
    taken_full _ _ c.loop-buffer.file.items c.loop-buffer.invariant.taken (omega (arith, c.loop-buffer.invariant.few))
