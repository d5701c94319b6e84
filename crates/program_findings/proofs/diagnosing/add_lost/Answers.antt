-- The strings one by one.
use Rattle.std.proofs.Common.{append-nil, sym, arith}
use Rattle.program_findings.proofs.LostLaws.{string_at, lost_more, lost_all}
use Rattle.program_findings.proofs.diagnosing.add_lost.Goals as goal

pub loop-string-init : goal.loop-string-init
loop-string-init c = record {
  inside = λ found. found;
  exact = λ ls is inside. sym (append-nil c.args.findings.now.items);
}

pub loop-string-preserved : goal.loop-string-preserved
loop-string-preserved c = record {
  inside = λ found. c.in_ok-add_string.ensures.inside (c.loop-string.invariant.inside found);
  exact = λ ls is inside.
      let i = c.loop-string.string-index in
      let s = string_at c.args.lost.now ls i c.string-item.result (omega arith) c.string-item.is is in
      lost_more ls i s.it c.args.findings.now.items c.loop-string.findings.items c.add_string.new.findings.items s.there (c.loop-string.invariant.exact ls is inside) (c.in_ok-add_string.ensures.exact s.it s.is (inside i s.it s.there));
}

pub returns-clause-exact : goal.returns-clause-exact
returns-clause-exact c = λ ls is inside. lost_all c.args.lost.now ls c.loop-string.string-index c.args.findings.now.items c.loop-string.findings.items is (omega arith) (c.loop-string.invariant.exact ls is inside)
