use Rattle.std.proofs.Common.{◌++◌, List, Some, map, ap, ◌∙◌, subst}
use Rattle.scheme_model.specs.Entries.{Origin}
use Rattle.scheme_model.specs.Spelling.{links_at}
use Rattle.syntax_tree.specs.Meant.{IsMeaning}
use Rattle.syntax_tree.specs.declared.meaning.Meaning.{Meaning}
use Rattle.arrow_index.specs.Links.{as_link}
use Rattle.arrow_index.proofs.TargetLaws.{global_origins, standard_origins, free_origins}
use Rattle.arrow_index.proofs.use_links.link_placed.Goals as goal

pub returns-in_ok-link_ident-in-Global : goal.returns-in_ok-link_ident-in-Global
returns-in_ok-link_ident-in-Global c = λ leaves keywords names table rs t sees gives is.
    let ns = c.args.work.now.symbols in
    let at = c.args.at in
    let meant = subst (λ (x : Meaning). IsMeaning ns at.unit at.form x t.meaning) c.in-Global.is is.meaning in
    c.in_ok-link_ident-in-Global.ensures leaves keywords names table rs t.ident sees gives is.ident
    ∙ ap (λ (ps : List Origin). map as_link c.args.links.now.items ++ links_at (Some c.args.occ) ps) (global_origins leaves table rs ns at.unit at.form c.in-Global.unit c.in-Global.ident t meant)

pub returns-in_ok-link_ident-in-Standard : goal.returns-in_ok-link_ident-in-Standard
returns-in_ok-link_ident-in-Standard c = λ leaves keywords names table rs t sees gives is.
    let ns = c.args.work.now.symbols in
    let at = c.args.at in
    let meant = subst (λ (x : Meaning). IsMeaning ns at.unit at.form x t.meaning) c.in-Standard.is is.meaning in
    c.in_ok-link_ident-in-Standard.ensures leaves keywords names table rs t.ident sees gives is.ident
    ∙ ap (λ (ps : List Origin). map as_link c.args.links.now.items ++ links_at (Some c.args.occ) ps) (standard_origins leaves table rs ns at.unit at.form c.in-Standard.field-0 t meant)

pub returns-in_ok-link_ident-in-Free : goal.returns-in_ok-link_ident-in-Free
returns-in_ok-link_ident-in-Free c = λ leaves keywords names table rs t sees gives is.
    let ns = c.args.work.now.symbols in
    let at = c.args.at in
    let meant = subst (λ (x : Meaning). IsMeaning ns at.unit at.form x t.meaning) c.in-Free.is is.meaning in
    c.in_ok-link_ident-in-Free.ensures leaves keywords names table rs t.ident sees gives is.ident
    ∙ ap (λ (ps : List Origin). map as_link c.args.links.now.items ++ links_at (Some c.args.occ) ps) (free_origins leaves table rs ns at.unit at.form c.in-Free.field-0 t meant)
