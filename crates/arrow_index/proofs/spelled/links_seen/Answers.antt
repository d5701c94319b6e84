use Rattle.scheme_model.specs.Spelling.{links_of}
use Rattle.arrow_index.specs.Links.{as_link}
use Rattle.arrow_index.proofs.LinkOrders.{same_as_link}
use Rattle.program_leaves.proofs.MemberLaws.{same_listed}
use Rattle.arrow_index.proofs.spelled.links_seen.Goals as goal

pub returns : goal.returns
returns c = λ text uris all p h sees are.
    let sorted = c.in_ok-links_in_order.field-0 in
    record {
      sorted = c.in_ok-links_in_order.ensures.0;
      same = λ q. same_listed as_link same_as_link sorted c.in_ok-links.links.items (links_of all p) (λ a. c.in_ok-links.ensures text uris all p h sees are a) (λ x. c.in_ok-links_in_order.ensures.1 x) q;
    }
