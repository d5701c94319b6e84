use Rattle.std.proofs.Common.{◌∙◌}
use Rattle.datum_reader.proofs.DatumLaws.{run_joined}
use Rattle.datum_reader.proofs.tail.joined.Goals as goal

pub loop-run-preserved : goal.loop-run-preserved
loop-run-preserved c = λ end.
    run_joined end c.pop.new.self.items c.loop-run.runs.items c.in-Some.run' c.loop-run.parts.items c.append.new.self.items c.in-Some.ensures.items c.in_ok-append.ensures.items
    ∙ c.loop-run.invariant end
