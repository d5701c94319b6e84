use Rattle.std.proofs.Common.{◌≡◌, true, false, Some, sym, ap, ◌∙◌, arith}
use Rattle.std.specs.HashSet.{contains_text}
use Rattle.import_sets.specs.Given.{has_name}
use Rattle.import_sets.proofs.NameLaws.{pair_there, pair_here}
use Rattle.import_sets.proofs.names.missing_pair.Goals as goal

pub returns-then-not-contains : goal.returns-then-not-contains
returns-then-not-contains c =
    let none : has_name c.args.entries.now c.pair-item.result.from.name ≡ false = sym (c.in_ok-there.ensures c.pair-item.result.from.name) ∙ ap (contains_text c.in_ok-there.there) (sym c.as_str.ensures) ∙ sym c.contains.ensures ∙ c.if-not-contains.true in
    ap Some c.in_ok-copy_of_name.ensures ∙ sym (pair_here c.args.pairs.now c.args.entries.now c.loop-pair.pair-index c.pair-item.result (omega arith) c.pair-item.is none) ∙ c.loop-pair.invariant

pub loop-pair-preserved : goal.loop-pair-preserved
loop-pair-preserved c =
    let has : has_name c.args.entries.now c.pair-item.result.from.name ≡ true = sym (c.in_ok-there.ensures c.pair-item.result.from.name) ∙ ap (contains_text c.in_ok-there.there) (sym c.as_str.ensures) ∙ sym c.contains.ensures ∙ c.if-not-contains.false in
    pair_there c.args.pairs.now c.args.entries.now c.loop-pair.pair-index c.pair-item.result (omega arith) c.pair-item.is has ∙ c.loop-pair.invariant
