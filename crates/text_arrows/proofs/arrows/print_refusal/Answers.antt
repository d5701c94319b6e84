use Rattle.std.proofs.Common.{List, ℕ, inr, subst}
use Rattle.command_output.specs.Prints.{PrintsFront, sink_seen}
use Rattle.text_arrows.proofs.arrows.print_refusal.Goals as goal

pub returns-in-Err : goal.returns-in-Err
returns-in-Err g c = λ text refusal.
    let old = sink_seen (g.O.Sink.taken c.args.output.now) (g.O.Sink.faults c.args.output.now) (g.O.Sink.writes c.args.output.now) in
    let new = sink_seen (g.O.Sink.taken c.print_all.new.output) (g.O.Sink.faults c.print_all.new.output) (g.O.Sink.writes c.print_all.new.output) in
    record { output = c.args.line.now; is = inr refusal; prints = subst (λ (line : List ℕ). PrintsFront old new line) c.as_bytes.ensures.value c.in-Err.ensures }
