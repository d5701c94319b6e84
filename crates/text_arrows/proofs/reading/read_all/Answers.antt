use Rattle.std.proofs.Common.{◌∙◌, ℕ, arith, refl}
use Rattle.std.proofs.lemmas.List.{length-take}
use Rattle.command_output.specs.Reads.{source_seen}
use Rattle.std.proofs.lemmas.Result.{err_from_is_err_and}
use Rattle.command_output.proofs.ReadLaws.{read_some, reads_none, reads_then}
use Rattle.command_output.proofs.Taken.{TakesBytes-more, takes_none}
use Rattle.text_arrows.proofs.reading.read_all.Goals as goal

pub loop-buf-init : goal.loop-buf-init
loop-buf-init g c = record {
  front = rw c.new-text.ensures.items (takes_none _);
  on = rw c.new-text.ensures.items (reads_none _);
  wide = refl;
  stops = omega (arith, c.new-text.ensures.len);
}

pub returns-in_err-extend_from_slice-in-Some : goal.returns-in_err-extend_from_slice-in-Some
returns-in_err-extend_from_slice-in-Some g c =
    let i = c.loop-buf.invariant in
    let mid = source_seen (g.I.Source.left c.loop-buf.input) (g.I.Source.faults c.loop-buf.input) (g.I.Source.reads c.loop-buf.input) in
    let new = source_seen (g.I.Source.left c.read.new.self) (g.I.Source.faults c.read.new.self) (g.I.Source.reads c.read.new.self) in
    let p = err_from_is_err_and c.from_residual.result c.from_residual.ensures.1 in
    rw (p.1, p.2)
    (record {
      bytes = _;
      front = TakesBytes-more _ _ _ _ _ _ i.front c.in-Some.ensures.takes;
      on = reads_then _ mid new _ _ i.on (read_some mid new c.read.new.buf c.in-Some.count c.in-Some.ensures.counts c.in-Some.ensures.notes c.in-Some.ensures.within.0 c.in-Some.ensures.within.1);
    })

pub loop-buf-preserved : goal.loop-buf-preserved
loop-buf-preserved g c =
    let i = c.loop-buf.invariant in
    let mid = source_seen (g.I.Source.left c.loop-buf.input) (g.I.Source.faults c.loop-buf.input) (g.I.Source.reads c.loop-buf.input) in
    let new = source_seen (g.I.Source.left c.read.new.self) (g.I.Source.faults c.read.new.self) (g.I.Source.reads c.read.new.self) in
    record {
      front = rw c.in_ok-extend_from_slice-in-Some.ensures.items (TakesBytes-more _ _ _ _ _ _ i.front c.in-Some.ensures.takes);
      on = rw c.in_ok-extend_from_slice-in-Some.ensures.items (reads_then _ mid new _ _ i.on (read_some mid new c.read.new.buf c.in-Some.count c.in-Some.ensures.counts c.in-Some.ensures.notes c.in-Some.ensures.within.0 c.in-Some.ensures.within.1));
      wide = c.read.auto.buf ∙ i.wide;
      stops = omega (arith, c.in_ok-extend_from_slice-in-Some.ensures.len, length-take {A = ℕ}, c.in-Some.ensures.within.1, c.read.auto.buf);
    }
