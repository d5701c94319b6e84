use Rattle.std.proofs.Common.{[], ◌∷◌, ◌++◌, map, sym, ap, ◌∙◌, subst}
use Rattle.scheme_model.specs.Entries.{Source}
use Rattle.syntax_tree.specs.Meant.{IsGivenMeaning}
use Rattle.syntax_tree.specs.declared.meaning.Meaning.{Meaning}
use Rattle.arrow_index.specs.Links.{as_link}
use Rattle.arrow_index.proofs.IdentLaws.{symbol_within, standard_source, no_local, no_global, no_free}
use Rattle.arrow_index.proofs.links.link_meant.Goals as goal

pub link_standard-requires : goal.link_standard-requires
link_standard-requires c =
    let names = c.args.work.now.symbols in
    symbol_within names c.in-Standard.symbol c.requires.0 (subst (λ (x : Meaning). IsGivenMeaning names x c.requires.0) c.in-Standard.is c.requires.1)

pub returns-in_ok-link_standard-in-Standard : goal.returns-in_ok-link_standard-in-Standard
returns-in_ok-link_standard-in-Standard c = λ m s given is.
    let names = c.args.work.now.symbols in
    let t = standard_source names c.in-Standard.symbol m s (subst (λ (x : Meaning). IsGivenMeaning names x m) c.in-Standard.is given) is in
    c.in_ok-link_standard-in-Standard.ensures t.0 t.1 ∙ ap (λ (x : Source). map as_link c.args.links.now.items ++ record { origin = x; target = c.args.target; prefix = c.args.prefix.now } ∷ []) (sym t.2)

pub returns-in-Local : goal.returns-in-Local
returns-in-Local c = λ m s given is.
    let names = c.args.work.now.symbols in
    absurd (no_local names c.in-Local.field-0 m s (subst (λ (x : Meaning). IsGivenMeaning names x m) c.in-Local.is given) is)

pub returns-in-Global : goal.returns-in-Global
returns-in-Global c = λ m s given is.
    let names = c.args.work.now.symbols in
    absurd (no_global names c.in-Global.unit c.in-Global.ident m s (subst (λ (x : Meaning). IsGivenMeaning names x m) c.in-Global.is given) is)

pub returns-in-Free : goal.returns-in-Free
returns-in-Free c = λ m s given is.
    let names = c.args.work.now.symbols in
    absurd (no_free names c.in-Free.field-0 m s (subst (λ (x : Meaning). IsGivenMeaning names x m) c.in-Free.is given) is)
