use Rattle.std.proofs.Common.{map, ap, ◌∙◌}
use Rattle.moves.specs.Numbers.{numbers_of}
use Rattle.moved_entries.specs.Part.{leaf_as}
use Rattle.moved_entries.proofs.part.kept.Goals as goal

pub returns : goal.returns
returns c =
    let e = c.from_vec.ensures ∙ c.leaves.ensures ∙ ap (map (leaf_as (numbers_of c.args.moves.now))) c.take-all.ensures in
    let it = c.args.it.now in
    λ j. record it { leaves = e j }
