use Rattle.std.proofs.Common.{◌++◌, append-nil, sym, ap, ◌∙◌, List, arith}
use Rattle.std.proofs.lemmas.List.{take_all}
use Rattle.import_sets.specs.declared.set.NamePair.{NamePair}
use Rattle.import_sets.specs.Seconds.{pair_seconds}
use Rattle.import_sets.proofs.SecondLaws.{pairs_more}
use Rattle.import_sets.proofs.seconds.add_pairs.Goals as goal

pub loop-pair-init : goal.loop-pair-init
loop-pair-init c = sym (append-nil c.args.places.now)

pub loop-pair-preserved : goal.loop-pair-preserved
loop-pair-preserved c =
    pairs_more c.args.places.now c.loop-pair.places c.add_place.new.places c.args.pairs.now c.loop-pair.pair-index c.pair-item.result (omega arith) c.pair-item.is c.loop-pair.invariant c.in_ok-add_place.ensures

pub returns : goal.returns
returns c = c.loop-pair.invariant ∙ ap (λ (ps : List NamePair). c.args.places.now ++ pair_seconds ps) (take_all c.loop-pair.pair-index c.args.pairs.now (omega arith))
