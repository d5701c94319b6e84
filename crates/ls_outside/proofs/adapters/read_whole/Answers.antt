use Rattle.std.proofs.Common.{◌<◌, ◌++◌, ◌∙◌, ap, arith, length, length-append, refl, take}
use Rattle.std.proofs.KnownBytes.{Consumes-nil, Consumes-trans}
use Rattle.std.proofs.lemmas.List.{length-take}
use Rattle.ls_outside.specs.Adapters.{reader_of, std_source_reads}
use Rattle.ls_outside.proofs.CallLaws.{take_none, take_one, take_then}
use Rattle.ls_outside.proofs.adapters.read_whole.Goals as goal

pub loop-content-init : goal.loop-content-init
loop-content-init g c = record { read = rw c.new-content.ensures.items (Consumes-nil _); calls = rw c.new-content.ensures.items (take_none _); wide = refl; within = omega (arith, c.new-content.ensures.len) }

pub returns-in_default-clause-read : goal.returns-in_default-clause-read
returns-in_default-clause-read g c =
    (_, take_then _ (std_source_reads c.loop-content.source) _ _ _ c.loop-content.invariant.calls (take_one _ _ c.read.new.buf c.in-Some.count c.in-Some.ensures.notes c.in-Some.ensures.within.0 c.in-Some.ensures.within.1))

pub returns-then-most-len-clause-read : goal.returns-then-most-len-clause-read
returns-then-most-len-clause-read g c =
    let n = c.in-Some.count in
    let piece = take n c.read.new.buf in
    let over : c.args.max < length (c.loop-content.content.items ++ piece) =
    omega (arith, length-append c.loop-content.content.items piece, length-take n c.read.new.buf, c.in-Some.ensures.within.1, c.loop-content.content.ok.0, c.loop-content.invariant.within) in
    (_, take_then _ (std_source_reads c.loop-content.source) _ _ _ c.loop-content.invariant.calls (take_one _ _ c.read.new.buf n c.in-Some.ensures.notes c.in-Some.ensures.within.0 c.in-Some.ensures.within.1), over)

pub loop-content-preserved : goal.loop-content-preserved
loop-content-preserved g c =
    let n = c.in-Some.count in
    let piece = take n c.read.new.buf in
    record {
      read = rw c.in-Ok.ensures.items (Consumes-trans _ (g.R.Read.remaining (reader_of c.loop-content.source)) _ _ _ c.loop-content.invariant.read c.in-Some.ensures.passes);
      calls = rw c.in-Ok.ensures.items
          (take_then _ (std_source_reads c.loop-content.source) _ _ _ c.loop-content.invariant.calls (take_one _ _ c.read.new.buf n c.in-Some.ensures.notes c.in-Some.ensures.within.0 c.in-Some.ensures.within.1));
      wide = c.read.auto.buf ∙ c.loop-content.invariant.wide;
      within = omega (arith, ap length c.in-Ok.ensures.items, length-append c.loop-content.content.items piece, length-take n c.read.new.buf, c.in-Some.ensures.within.1, c.loop-content.content.ok.0, c.keep.new.content.ok.0, c.loop-content.invariant.within);
    }
