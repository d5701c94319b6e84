-- One entry more gives one import more.
use Rattle.std.proofs.Common.{List, [], Some, refl, sym, ap, ◌∙◌, subst}
use Rattle.core_tree.specs.Names.{AllMatch}
use Rattle.unit_scopes.specs.declared.scope.Imported.{Imported}
use Rattle.standard_scopes.specs.Begun.{IsImport}
use Rattle.program_expansion.proofs.ImportedNames.{imports_more}
use Rattle.unit_imports.proofs.MeaningLaws.{names_itself, names_on}
use Rattle.program_expansion.proofs.expanding.imported.Goals as goal

pub loop-entry-init : goal.loop-entry-init
loop-entry-init c = record {
  are = subst (λ (xs : List Imported). AllMatch (IsImport c.args.work.now.symbols) xs []) (sym c.new-imports.ensures.items) tt;
  trees = refl;
  names = names_itself c.args.work.now.symbols;
}

pub loop-entry-preserved : goal.loop-entry-preserved
loop-entry-preserved c = record {
  are =
      imports_more c.loop-entry.work.symbols c.symbol.new.self c.in_ok-symbol.ensures.keeps c.loop-entry.imports.items c.push.new.self.items c.args.entries.now c.loop-entry.entry-index c.entry-item.result
      (record { symbol = c.in_ok-symbol.symbol; meaning = c.entry-item.result.meaning }) c.loop-entry-test.true c.entry-item.is (c.in_ok-symbol.ensures.ok ∙ ap Some c.as_str.ensures) refl c.in_ok-push.ensures.items c.loop-entry.invariant.are;
  trees = c.loop-entry.invariant.trees;
  names = names_on c.args.work.now.symbols c.loop-entry.work.symbols c.symbol.new.self c.loop-entry.invariant.names c.in_ok-symbol.ensures.keeps;
}

pub returns-in_err-symbol-clause-names : goal.returns-in_err-symbol-clause-names
returns-in_err-symbol-clause-names c = names_on c.args.work.now.symbols c.loop-entry.work.symbols c.symbol.new.self c.loop-entry.invariant.names c.in_err-symbol.ensures.keeps

pub returns-in_err-push-clause-names : goal.returns-in_err-push-clause-names
returns-in_err-push-clause-names c = names_on c.args.work.now.symbols c.loop-entry.work.symbols c.symbol.new.self c.loop-entry.invariant.names c.in_ok-symbol.ensures.keeps
