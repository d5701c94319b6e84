use Rattle.std.proofs.Common.{map, take}
use Rattle.scheme_model.specs.Program.{standard_entry}
use Rattle.syntax_tree.specs.Names.{KeepsNames}
use Rattle.syntax_tree.specs.Meant.{AreEntries}
use Rattle.unit_imports.proofs.entries.standard_entries.Given as goal

abbrev pub invariant-loop-name : goal.invariant-loop-name
invariant-loop-name l = record { names : KeepsNames l.initial.symbols l.symbols; entries : AreEntries l.symbols l.entries (map standard_entry (take l.name-index l.names)) }
