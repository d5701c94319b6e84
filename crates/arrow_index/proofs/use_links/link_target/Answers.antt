use Rattle.std.proofs.Common.{◌++◌, Option, map, sym, ap, ◌∙◌}
use Rattle.scheme_model.specs.declared.Occ.{Occ}
use Rattle.scheme_model.specs.Spelling.{links_at, target_origins}
use Rattle.arrow_index.specs.Links.{as_link}
use Rattle.arrow_index.proofs.use_links.link_target.Goals as goal

pub returns-in_ok-link_placed-in-Some : goal.returns-in_ok-link_placed-in-Some
returns-in_ok-link_placed-in-Some c = λ leaves keywords names table rs t sees gives is.
    c.in_ok-link_placed-in-Some.ensures leaves keywords names table rs t sees gives is
    ∙ ap (λ (o : Option Occ). map as_link c.args.links.now.items ++ links_at o (target_origins leaves table rs t)) (sym c.in-Some.is ∙ is.place)
