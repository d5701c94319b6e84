use Rattle.std.proofs.Common.{[], ◌∷◌, true, false, sym, ◌∙◌}
use Rattle.scheme_model.specs.Live.{meaning_or}
use Rattle.import_sets.specs.Sets.{named}
use Rattle.unit_imports.specs.NamesUsed.{inner_use, own_use}
use Rattle.unit_imports.proofs.MeaningLaws.{names_on}
use Rattle.unit_imports.proofs.UsedLaws.{adds_as, adds_then, export_is, finds_kept}
use Rattle.unit_imports.proofs.names.Identifiers.add_export.Goals as goal

pub returns-then-not-is_renamed-clause-adds : goal.returns-then-not-is_renamed-clause-adds
returns-then-not-is_renamed-clause-adds c = λ find finds x export.
    adds_as c.add_inner.new.symbols c.args.self.now c.add_inner.new.self _ _ (export_is find c.args.spec.now x export false (sym c.if-not-is_renamed.true ∙ c.is_renamed.ensures)) (c.in_ok-add_inner.ensures.adds find finds)

pub returns-clause-adds : goal.returns-clause-adds
returns-clause-adds c = λ find finds x export.
    let old = c.args.symbols.now in
    let one = c.add_inner.new.symbols in
    let two = c.meaning_of.new.symbols in
    let new = c.add_own.new.symbols in
    let k = names_on one two new c.in_ok-meaning.ensures.names c.in_ok-add_own.ensures.names in
    adds_as new c.args.self.now c.add_own.new.self _ _ (export_is find c.args.spec.now x export true (sym c.if-not-is_renamed.false ∙ c.is_renamed.ensures))
    (adds_then one new k c.args.self.now c.add_inner.new.self c.add_own.new.self (inner_use (find c.args.spec.now.inner.name) (named c.args.spec.now.inner) ∷ [])
    (own_use (meaning_or (find c.args.spec.now.inner.name) c.args.spec.now.inner.name) (named c.args.spec.now.outer) ∷ []) (c.in_ok-add_inner.ensures.adds find finds)
    (c.in_ok-add_own.ensures.adds (meaning_or (find c.args.spec.now.inner.name) c.args.spec.now.inner.name)
    (c.in_ok-meaning.ensures.means find (finds_kept old one c.in_ok-add_inner.ensures.names c.args.found.entries.now find finds))))
