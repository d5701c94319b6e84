-- The units stand for some, so the arrows are in order.
use Rattle.workspace_state.proofs.expansion.made_index.Goals as goal

pub returns : goal.returns
returns c =
    let some = c.requires in
    record {
      sorted = (c.in_ok-index.ensures some.0 some.1 some.2 some.3 some.4).arrows.sorted;
      is = λ text uris all p stands. c.in_ok-index.ensures text uris all p stands;
    }
