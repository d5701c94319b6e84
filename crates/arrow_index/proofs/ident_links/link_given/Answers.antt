use Rattle.std.proofs.Common.{◌≡◌, List, Some, sym, ap, ◌∙◌, subst}
use Rattle.std.specs.Option.{option_map}
use Rattle.std.proofs.lemmas.Option.{same_Some}
use Rattle.scheme_model.specs.Entries.{entry_at}
use Rattle.scheme_model.specs.Program.{result_at}
use Rattle.scheme_model.specs.Spelling.{links_at, entries_at, imported_origins}
use Rattle.syntax_tree.specs.Meant.{AreOrigins}
use Rattle.syntax_tree.specs.declared.units.Origin.{Origin}
use Rattle.program_leaves.proofs.Growing.{grows_by_none}
use Rattle.program_leaves.specs.Entries.{now_of, entry_found}
use Rattle.arrow_index.specs.Links.{as_link}
use Rattle.arrow_index.proofs.IdentLaws.{entry_given, entry_none}
use Rattle.arrow_index.proofs.ident_links.link_given.Goals as goal

pub link_origins-requires : goal.link_origins-requires
link_origins-requires c =
    let names = c.args.work.now.symbols in
    let ms = c.args.entries.now.units.items in
    let s = c.name.result.now in
    let u = c.args.unit in
    let rs = c.requires.entries.0 in
    let e : entry_found ms u s ≡ Some c.in-Some.entry.now = sym c.entry.ensures ∙ ap (option_map now_of) c.in-Some.is in
    let g = entry_given names (entry_found ms u s) c.in-Some.entry.now (entry_at (entries_at (result_at rs u)) s) e (c.requires.entries.1 u s) in
    (g.meaning, g.means)

pub returns-in_ok-link_origins-in-Some : goal.returns-in_ok-link_origins-in-Some
returns-in_ok-link_origins-in-Some c = λ rs s gives at.
    let names = c.args.work.now.symbols in
    let ms = c.args.entries.now.units.items in
    let u = c.args.unit in
    let same = same_Some c.name.result.now s (sym c.name.ensures ∙ at) in
    let e : entry_found ms u s ≡ Some c.in-Some.entry.now = sym (c.entry.ensures ∙ ap (entry_found ms u) same) ∙ ap (option_map now_of) c.in-Some.is in
    let g = entry_given names (entry_found ms u s) c.in-Some.entry.now (entry_at (entries_at (result_at rs u)) s) e (gives u s) in
    c.in_ok-link_origins-in-Some.ensures g.meaning (imported_origins rs u s) g.means (subst (λ (os : List Origin). AreOrigins g.meaning os (imported_origins rs u s)) (sym c.as_slice.ensures) g.origins)

pub returns-in-None : goal.returns-in-None
returns-in-None c = λ rs s gives at.
    let ms = c.args.entries.now.units.items in
    let u = c.args.unit in
    let same = same_Some c.name.result.now s (sym c.name.ensures ∙ at) in
    let e = sym (c.entry.ensures ∙ ap (entry_found ms u) same) ∙ ap (option_map now_of) c.in-None.is in
    grows_by_none as_link c.args.links.now.items _ (ap (links_at (Some c.args.target)) (entry_none c.args.work.now.symbols (entry_found ms u s) (entry_at (entries_at (result_at rs u)) s) e (gives u s)))
