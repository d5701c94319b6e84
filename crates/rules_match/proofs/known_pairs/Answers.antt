use Rattle.std.proofs.Common.{get_or, true, sym, ◌∙◌}
use Rattle.std.specs.Prelude.{if◌then◌else◌}
use Rattle.syntax_tree.specs.declared.rules.IdPair.{IdPair}
use Rattle.rules_match.proofs.KnownLaws.{key_is, pairs_more}
use Rattle.rules_match.proofs.known_pairs.Goals as goal

pub loop-pair-preserved : goal.loop-pair-preserved
loop-pair-preserved c = λ n m.
    let d : IdPair = record { literal = 0; ident = 0 } in
    let p : IdPair = get_or c.args.pairs.now c.loop-pair.pair-index d in
    let k = key_is p.literal p.ident n m in
    c.in_ok-insert.ensures.updates.0 (n, m) ∙ (λ i. if (k i) then true else c.loop-pair.invariant n m i) ∙ sym (pairs_more c.args.pairs.now c.loop-pair.pair-index d n m c.loop-pair-test.true)
