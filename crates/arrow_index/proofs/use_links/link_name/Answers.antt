use Rattle.std.proofs.Common.{◌++◌, List, Option, map, sym, ap, ◌∙◌, subst}
use Rattle.scheme_model.specs.declared.Occ.{Occ}
use Rattle.scheme_model.specs.Spelling.{links_at}
use Rattle.syntax_tree.specs.Meant.{AreOrigins}
use Rattle.syntax_tree.specs.declared.units.Origin.{Origin}
use Rattle.program_leaves.proofs.Growing.{grows_by_none}
use Rattle.arrow_index.specs.Links.{as_link}
use Rattle.arrow_index.proofs.use_links.link_name.Goals as goal

pub returns-in-None : goal.returns-in-None
returns-in-None c = λ n is.
    grows_by_none as_link c.args.links.now.items _ (ap (λ (o : Option Occ). links_at o n.origins) (sym is.1.place ∙ c.in-None.is))

pub link_origins-requires : goal.link_origins-requires
link_origins-requires c = (c.requires.0.meaning, c.requires.1.1.meaning)

pub returns-in_ok-link_origins-in-Some : goal.returns-in_ok-link_origins-in-Some
returns-in_ok-link_origins-in-Some c = λ n is.
    let are = subst (λ (os : List Origin). AreOrigins n.meaning os n.origins) (sym c.as_slice.ensures) is.1.origins in
    c.in_ok-link_origins-in-Some.ensures n.meaning n.origins is.1.meaning are ∙ ap (λ (o : Option Occ). map as_link c.args.links.now.items ++ links_at o n.origins) (sym c.in-Some.is ∙ is.1.place)
