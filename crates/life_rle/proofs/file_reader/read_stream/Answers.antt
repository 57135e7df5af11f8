use Rattle.std.proofs.Common.{◌<◌, ◌+◌, ◌∙◌, arith, take, length, inl}
use Rattle.std.proofs.lemmas.List.{length-take-le, length-take}
use Rattle.life_rle.proofs.StreamLemmas.{consumes_on, ended_more, ends_now}
use Rattle.life_rle.proofs.FileReaderLaws.{follow_end, follow_more, sound_more}
use Rattle.life_rle.specs.declared.stream.Failed.{Failed}
use Rattle.life_rle.proofs.file_reader.read_stream.Goals as goal

pub returns-in-Ok-eq0-clause-follows : goal.returns-in-Ok-eq0-clause-follows
returns-in-Ok-eq0-clause-follows g c =
    let some : 0 < length c.take.new.space =
    omega (arith, c.take.auto.space, length-take c.min-room.result c.loop-taken.buffer) in
    follow_end _ _ c.loop-taken.file_reader c.loop-taken.taken c.loop-taken.invariant.most c.loop-taken.invariant.told
    (c.in-Ok-eq0.ensures.bytes.1 c.in-Ok-eq0.field-0-test some)

pub loop-taken-preserved : goal.loop-taken-preserved
loop-taken-preserved g c = record {
  told =
      follow_more _ _ _ (take c.in-Ok.k c.take.new.space) c.loop-taken.file_reader c.take_all.new.self
      c.loop-taken.taken c.in-Ok.k c.loop-taken.invariant.told c.in-Ok.ensures.bytes.0
      (length-take-le c.in-Ok.k c.take.new.space c.in-Ok.ensures.within) c.in-Ok-take_all.ensures;
  sound = sound_more c.loop-taken.file_reader c.take_all.new.self _ c.loop-taken.invariant.sound
      c.in-Ok-take_all.ensures;
  few =
      consumes_on _ _ _ c.loop-taken.taken c.in-Ok.k (c.loop-taken.taken + c.in-Ok.k)
      (take c.in-Ok.k c.take.new.space) c.loop-taken.invariant.few c.in-Ok.ensures.bytes.0
      (omega (arith, length-take-le c.in-Ok.k c.take.new.space c.in-Ok.ensures.within)) (omega arith);
  unfailed = c.in-Ok.ensures.count ∙ c.loop-taken.invariant.unfailed;
  unended = c.in-Ok.ensures.end ∙ ended_more Failed _ c.in-Ok.k c.in-Ok.k-test.1 ∙ c.loop-taken.invariant.unended;
  most = omega (arith, c.take.auto.space, c.in-Ok.ensures.within, length-take c.min-room.result c.loop-taken.buffer);
}

pub returns-in-Err-take_all-clause-few : goal.returns-in-Err-take_all-clause-few
returns-in-Err-take_all-clause-few g c =
    consumes_on _ _ _ c.loop-taken.taken c.in-Ok.k 1048577
    (take c.in-Ok.k c.take.new.space) c.loop-taken.invariant.few c.in-Ok.ensures.bytes.0
    (omega (arith, length-take-le c.in-Ok.k c.take.new.space c.in-Ok.ensures.within))
    (omega (arith, c.take.auto.space, c.in-Ok.ensures.within, length-take c.min-room.result c.loop-taken.buffer))

pub returns-in-Err-clause-end : goal.returns-in-Err-clause-end
returns-in-Err-clause-end g c = inl (c.in-Err.ensures.end ∙ c.loop-taken.invariant.unended)

pub returns-in-Ok-eq0-clause-end : goal.returns-in-Ok-eq0-clause-end
returns-in-Ok-eq0-clause-end g c =
    ends_now Failed _ _ _ _ _ c.loop-taken.invariant.unended c.in-Ok-eq0.field-0-test c.in-Ok-eq0.ensures.end
    c.in-Ok-eq0.ensures.gave

pub returns-in-Err-take_all-clause-end : goal.returns-in-Err-take_all-clause-end
returns-in-Err-take_all-clause-end g c =
    inl (c.in-Ok.ensures.end ∙ ended_more Failed _ c.in-Ok.k c.in-Ok.k-test.1 ∙ c.loop-taken.invariant.unended)

pub returns-clause-end : goal.returns-clause-end
returns-clause-end g c = inl c.loop-taken.invariant.unended
