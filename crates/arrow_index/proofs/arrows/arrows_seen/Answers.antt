use Rattle.std.proofs.Common.{◌≡◌}
use Rattle.scheme_model.specs.ProgramArrows.{arrows_of}
use Rattle.program_leaves.specs.declared.pairs.Pair.{Pair}
use Rattle.program_leaves.specs.Pairs.{as_arrow}
use Rattle.program_leaves.proofs.MemberLaws.{same_listed}
use Rattle.arrow_index.proofs.arrows.arrows_seen.Goals as goal

same_pair : (p q : Pair) → as_arrow p ≡ as_arrow q → p ≡ q
same_pair p q e = λ j. record { binder = (e j).binder; target = (e j).target }

pub returns : goal.returns
returns c = λ text uris all p h sees.
    let sorted = c.in_ok-pairs_in_order.field-0 in
    record {
      sorted = c.in_ok-pairs_in_order.ensures.0;
      same = λ q. same_listed as_arrow same_pair sorted c.in_ok-pairs.pairs.items (arrows_of all p) (λ a. c.in_ok-pairs.ensures text uris all p h sees a) (λ x. c.in_ok-pairs_in_order.ensures.1 x) q;
    }
