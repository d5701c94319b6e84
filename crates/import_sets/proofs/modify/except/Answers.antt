use Rattle.std.proofs.Common.{◌≡◌, Option, None, Ok, sym, ap, ◌∙◌, rules}
use Rattle.std.specs.Prelude.{filter, not}
use Rattle.std.specs.HashSet.{contains_text}
use Rattle.std.proofs.lemmas.Fn.{filter_same}
use Rattle.syntax_tree.specs.declared.units.Entry.{Entry}
use Rattle.import_sets.specs.declared.set.SetName.{SetName}
use Rattle.import_sets.specs.Given.{missing, is_listed, unless_missing}
use Rattle.import_sets.proofs.modify.except.Goals as goal

pub returns : goal.returns
returns c =
    let kept : c.retain.new.self.items ≡ filter (λ (e : Entry). not (contains_text c.in_ok-listed.listed e.name)) c.into_vec-kept.result.items =
    filter_same _ (λ (e : Entry). not (contains_text c.in_ok-listed.listed e.name)) _ (λ x b f' k. search rules) _ _ c.retain.ensures.filtered in
    let result : c.from_vec.result ≡ filter (λ (e : Entry). not (is_listed c.args.names.now e.name)) c.args.entries =
    c.from_vec.ensures ∙ kept ∙ (λ j. filter (λ (e : Entry). not (c.in_ok-listed.ensures e.name j)) (c.into_vec-kept.ensures j)) in
    let none : missing c.args.names.now c.args.entries ≡ None = sym (c.in_ok-name.ensures ∙ ap (missing c.args.names.now) c.as_slice.ensures) ∙ c.in_default.is in
    ap (λ (o : Option SetName). unless_missing o (Ok (filter (λ (e : Entry). not (is_listed c.args.names.now e.name)) c.args.entries))) none ∙ ap Ok (sym result)
