-- The units of a program stand for the same in a work that has grown.
use Rattle.std.proofs.Common.{ℕ, suc, List, [], ◌∷◌, reverse}
use Rattle.scheme_model.specs.IncludedUnits.{Placed}
use Rattle.scheme_model.specs.Program.{Program, UnitResult}
use Rattle.scheme_model.specs.ProgramArrows.{program_table, unit_names}
use Rattle.scheme_model.specs.Requirements.{LibraryName}
use Rattle.syntax_tree.specs.Names.{KeepsNames}
use Rattle.syntax_tree.specs.Works.{KeepsTrees}
use Rattle.syntax_tree.specs.declared.trees.Work.{Work}
use Rattle.core_tree.specs.Units.{definitions_from, defined_by, externals, ProgramStands, UnitStands, UnitsStand}
use Rattle.core_tree.specs.declared.units.Program as code_program
use Rattle.core_tree.specs.declared.units.Unit as code_unit
use Rattle.expansion_laws.proofs.PartsStay.{forms_on}
use Rattle.program_leaves.specs.Formed.{AreFormedIn}
use Rattle.unit_imports.proofs.MeaningLaws.{entries_kept}
use Rattle.unit_results.proofs.NamesKept.{definitions_kept, names_kept}

module _ (old new : Work) (trees : KeepsTrees old new) (names : KeepsNames old.symbols new.symbols) where
  unit_kept : (text : LibraryName → List ℕ) (uris : List (List ℕ)) (all : List Placed) (p : Program) (place : ℕ) (c : code_unit.Unit) (r : UnitResult) →
      UnitStands old text uris all p place c r → UnitStands new text uris all p place c r
  unit_kept text uris all p place c r h = record {
    ranges = h.ranges;
    number = h.number;
    uri = h.uri;
    kind = h.kind;
    name = h.name;
    count = h.count;
    forms = forms_on old new trees names place c.forms r.forms 0 h.forms;
    definitions = definitions_kept old.symbols new.symbols names (reverse (definitions_from 0 c.forms)) (defined_by place (program_table p)) h.definitions;
    imports = h.imports;
    names = names_kept old.symbols new.symbols names place c.names (unit_names all p r) (externals p.table r) h.names;
    seconds = h.seconds;
    entries = entries_kept old.symbols new.symbols names c.entries r.entries h.entries;
    exports = entries_kept old.symbols new.symbols names c.exports r.exports h.exports;
    errors = h.errors;
  }

  units_kept : (text : LibraryName → List ℕ) (uris : List (List ℕ)) (all : List Placed) (p : Program) (place : ℕ) (cs : List code_unit.Unit) (rs : List UnitResult) →
      UnitsStand old text uris all p place cs rs → UnitsStand new text uris all p place cs rs
  units_kept text uris all p place [] [] h = tt
  units_kept text uris all p place [] (r ∷ rs) h = absurd h
  units_kept text uris all p place (c ∷ cs) [] h = absurd h
  units_kept text uris all p place (c ∷ cs) (r ∷ rs) h = (unit_kept text uris all p place c r h.0, units_kept text uris all p (suc place) cs rs h.1)

  pub program_kept : (text : LibraryName → List ℕ) (uris : List (List ℕ)) (all : List Placed) (c : code_program.Program) (p : Program) → ProgramStands old text uris all c p → ProgramStands new text uris all c p
  program_kept text uris all c p h = units_kept text uris all p 0 c.units p.units h

  pub all_formed_on : (us : List code_unit.Unit) → AreFormedIn old us → AreFormedIn new us
  all_formed_on us h n u at = let formed = h n u at in (formed.0, forms_on old new trees names n u.forms formed.0 0 formed.1)
