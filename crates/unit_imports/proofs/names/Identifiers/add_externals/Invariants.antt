use Rattle.std.proofs.Common.{ℕ, List, Option, drop}
use Rattle.std.specs.BTreeSet.{contains_text}
use Rattle.scheme_model.specs.Entries.{Entry}
use Rattle.scheme_model.specs.Program.{ExportSpec}
use Rattle.syntax_tree.specs.Names.{KeepsNames}
use Rattle.unit_sources.specs.Sources.{AreExports}
use Rattle.unit_imports.specs.Defined.{FindsNames}
use Rattle.unit_imports.proofs.UsedLaws.{ExternalsSoFar}
use Rattle.unit_imports.proofs.names.Identifiers.add_externals.Given as goal

abbrev pub invariant-loop-spec : goal.invariant-loop-spec
invariant-loop-spec l = record {
  names : KeepsNames l.initial.symbols l.symbols;
  adds : (find : List ℕ → Option Entry) → FindsNames l.initial.symbols l.found.entries.now find → (xs : List ExportSpec) → AreExports l.specs xs →
      ExternalsSoFar l.symbols l.initial.self l.self (contains_text l.seen) find xs (drop l.spec-index xs);
}
