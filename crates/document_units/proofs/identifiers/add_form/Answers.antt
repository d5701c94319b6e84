-- A form of an included text adds none; any other adds those of its datum.
use Rattle.std.proofs.Common.{◌≡◌, ◌++◌, List, sym, ◌∙◌, subst}
use Rattle.std.specs.Prelude.{OnOk}
use Rattle.scheme_model.specs.declared.Occ.{Occ}
use Rattle.document_units.proofs.IdentifierLaws.{own_names, no_names}
use Rattle.document_units.proofs.identifiers.add_form.Goals as goal

pub returns-then-is_some : goal.returns-then-is_some
returns-then-is_some c = no_names c.args.names.now.items c.args.unit c.args.number c.args.form.now (sym c.is_some.ensures ∙ c.if-is_some.true)

pub returns : goal.returns
returns c =
    subst (λ (xs : List Occ). OnOk c.add_datum.result (c.add_datum.new.names.items ≡ c.args.names.now.items ++ xs)) (own_names c.args.unit c.args.number c.args.form.now (sym c.is_some.ensures ∙ c.if-is_some.false)) c.add_datum.ensures
