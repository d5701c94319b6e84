use Rattle.std.proofs.Common.{map, drop}
use Rattle.declared_parts.specs.Parts.{without_scopes}
use Rattle.declared_parts.proofs.PartLaws.{own_more}
use Rattle.declared_parts.proofs.parts.own_notes.Goals as goal

pub loop-number-preserved : goal.loop-number-preserved
loop-number-preserved c =
    let xs = c.args.asked.now.notes.items in
    own_more c.loop-number.number xs c.note.result c.without_scopes.result c.loop-number.own c.push.new.self (map without_scopes (drop c.args.from xs)) c.note.ensures c.without_scopes.ensures c.in_ok-push.ensures.ok c.loop-number.invariant
