use Rattle.std.proofs.Common.{◌≡◌, List, map, sym, subst}
use Rattle.scheme_model.specs.ProgramArrows.{Arrow}
use Rattle.program_leaves.specs.declared.pairs.Pair.{Pair}
use Rattle.program_leaves.specs.Pairs.{as_arrow}
use Rattle.arrow_index.specs.Links.{as_link}
use Rattle.program_leaves.specs.Members.{IsIn}
use Rattle.arrow_index.specs.Classes.{ways_of}
use Rattle.program_leaves.proofs.MemberLaws.{same_listed}
use Rattle.arrow_index.proofs.classes.ways.Goals as goal

same_pair : (p q : Pair) → as_arrow p ≡ as_arrow q → p ≡ q
same_pair p q e = λ j. record { binder = (e j).binder; target = (e j).target }

pub returns : goal.returns
returns c =
    let sorted = c.in_ok-pairs_in_order.field-0 in
    let e = c.in_ok-ways.ensures in
    record {
      sorted = c.in_ok-pairs_in_order.ensures.0;
      same = λ q. same_listed as_arrow same_pair sorted c.in_ok-ways.ways.items (ways_of (map as_link c.args.links.now)) (λ a. (subst (λ (xs : List Arrow). IsIn a xs) e, subst (λ (xs : List Arrow). IsIn a xs) (sym e))) (λ x. c.in_ok-pairs_in_order.ensures.1 x) q;
    }
