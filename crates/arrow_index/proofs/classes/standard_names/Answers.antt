use Rattle.std.proofs.Common.{refl}
use Rattle.arrow_index.specs.Classes.{has_part}
use Rattle.arrow_index.proofs.ClassParts.{standard_law}
use Rattle.arrow_index.proofs.classes.standard_names.Goals as goal

pub returns : goal.returns
returns c = λ all occ said are.
    standard_law c.args.links.now all occ c.args.parts.now (has_part c.args.parts.now) c.in_ok-names.names.items c.in_ok-names_in_order.field-0 said are (λ o. refl) c.in_ok-names.ensures c.in_ok-names_in_order.ensures
