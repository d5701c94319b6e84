-- What units came to stands for the same in a work that has only grown.
use Rattle.std.proofs.Common.{◌≡◌, ℕ, List, [], ◌++◌, length, Option, Some, None, refl, sym, subst}
use Rattle.std.specs.Prelude.{reverse}
use Rattle.scheme_model.specs.IncludedUnits.{Placed}
use Rattle.scheme_model.specs.Program.{Prepared, Program, SetResult, UnitResult, result_at, exports_if, names_of_unit, export_all, unit_result, forms_at_work, with_refused, ImportSpec}
use Rattle.scheme_model.specs.ProgramArrows.{import_uses, unit_names}
use Rattle.scheme_model.specs.Spelling.{second_places}
use Rattle.std.specs.List.{flat_map}
use Rattle.scheme_model.specs.UnitExpansion.{Formed}
use Rattle.scheme_model.specs.ScopedProgram.{ScopedProgress}
use Rattle.scheme_model.specs.Requirements.{LibraryName}
use Rattle.scheme_model.specs.Entries as model
use Rattle.scheme_model.specs.Live.{all_export_uses}
use Rattle.syntax_tree.specs.Names.{Names, KeepsNames}
use Rattle.syntax_tree.specs.Meant.{AreEntries}
use Rattle.syntax_tree.specs.Works.{KeepsTrees}
use Rattle.syntax_tree.specs.declared.trees.Work.{Work}
use Rattle.syntax_tree.specs.declared.units.Entry.{Entry}
use Rattle.core_tree.specs.Units.{FormsStand, definitions_from, defined_by, externals, given_exports, AreDefinitions, AreNames}
use Rattle.expansion_laws.proofs.PartsStay.{forms_on}
use Rattle.unit_results.specs.Came.{CameTo, ComesTo, IsCome, HaveCome, so_far}
use Rattle.unit_imports.specs.Defined.{FindsNames}
use Rattle.unit_imports.specs.SetsGiven.{AreEntriesIf, AreLibraries, exports_at}
use Rattle.unit_imports.specs.declared.entries.Libraries.{Libraries}
use Rattle.unit_imports.specs.declared.expanded.Expanded.{Expanded}
use Rattle.unit_imports.proofs.MeaningLaws.{entries_kept}
use Rattle.unit_results.proofs.NamesKept.{definitions_kept, names_kept}

module _ (old new : Work) (trees : KeepsTrees old new) (names : KeepsNames old.symbols new.symbols) where
  pub came_kept : (all : List Placed) (p : Program) (c : Expanded) (r : UnitResult) → CameTo all p old c r → CameTo all p new c r
  came_kept all p c r h = record {
    whole = h.whole;
    entries = entries_kept old.symbols new.symbols names c.entries.items r.entries h.entries;
    forms = forms_on old new trees names r.unit.number c.forms r.forms 0 h.forms;
    count = h.count;
    definitions = definitions_kept old.symbols new.symbols names (reverse (definitions_from 0 c.forms)) (defined_by r.unit.number p.table) h.definitions;
    names = names_kept old.symbols new.symbols names r.unit.number c.names (unit_names all p r) (externals p.table r) h.names;
    seconds = h.seconds;
    exports = entries_kept old.symbols new.symbols names c.exports r.exports h.exports;
  }

  pub comes_kept : (all : List Placed) (p : Program) (o : Option Expanded) (r : UnitResult) → ComesTo all p old o r → ComesTo all p new o r
  comes_kept all p None r h = h
  comes_kept all p (Some c) r h = came_kept all p c r h

  is_kept : (all : List Placed) (p : Program) (o : Option Expanded) (r : Option UnitResult) → IsCome all p old o r → IsCome all p new o r
  is_kept all p o None h = h
  is_kept all p o (Some r) h = comes_kept all p o r h

  pub have_kept : (all : List Placed) (g : ScopedProgress) (es : List (Option Expanded)) → HaveCome all g old es → HaveCome all g new es
  have_kept all g es h n o at = is_kept all (so_far g) o (result_at g.results n) (h n o at)

-- what libraries export stands for the same once names are added
entries_if_kept : (old new : Names) → KeepsNames old new → (es : Option (List Entry)) (ds : Option (List model.Entry)) → AreEntriesIf old es ds → AreEntriesIf new es ds
entries_if_kept old new names None ds h = h
entries_if_kept old new names (Some es) ds h = (h.0, h.1, entries_kept old new names es h.0 h.2)

pub libraries_kept : (old new : Names) → KeepsNames old new → (c : Libraries) (spelled : LibraryName → List ℕ) (all : List Placed) (rs : List UnitResult) → AreLibraries old c spelled all rs → AreLibraries new c spelled all rs
libraries_kept old new names c spelled all rs h = record { spells = h.spells; units = h.units; exports = λ n. entries_if_kept old new names (exports_at c.expanded.now (Some n)) (exports_if (result_at rs n)) (h.exports n) }

-- each name is found as before
pub finds_kept : (old new : Names) → KeepsNames old new → (es : List Entry) (find : List ℕ → Option model.Entry) → FindsNames old es find → FindsNames new es find
finds_kept old new names es find h = record { stand = h.stand; are = entries_kept old new names es h.stand h.are; finds = h.finds }

-- ---- what a unit came to, put together

pub came_of : (us : List Placed) (q : Program) (p : Prepared) (imports : List model.Entry × List SetResult) (fs : List Formed) (work : Work) (c : Expanded) (unit : ℕ) → p.number ≡ unit → AreEntries work.symbols c.entries.items imports.0 →
    FormsStand work unit 0 c.forms (with_refused p.number 0 (forms_at_work p) fs) → length c.forms ≡ length p.forms → AreDefinitions work.symbols (reverse (definitions_from 0 c.forms)) (defined_by unit q.table) →
    AreNames work.symbols unit c.names (import_uses us q.units p.specs ++ all_export_uses (names_of_unit q.table unit imports.0) p.exports) (given_exports (names_of_unit q.table unit imports.0) [] p.exports) →
    AreEntries work.symbols c.exports (export_all (names_of_unit q.table unit imports.0) [] p.exports).entries → c.seconds ≡ flat_map (λ (s : ImportSpec). second_places s.set) p.specs → CameTo us q work c (unit_result p imports q.table (Some fs))
came_of us q p imports fs work c unit own entries forms count definitions names exports seconds = record {
  whole = refl;
  entries = entries;
  forms = subst (λ (n : ℕ). FormsStand work n 0 c.forms (with_refused p.number 0 (forms_at_work p) fs)) (sym own) forms;
  count = count;
  definitions = subst (λ (n : ℕ). AreDefinitions work.symbols (reverse (definitions_from 0 c.forms)) (defined_by n q.table)) (sym own) definitions;
  names =
      subst (λ (n : ℕ). AreNames work.symbols n c.names (import_uses us q.units p.specs ++ all_export_uses (names_of_unit q.table n imports.0) p.exports) (given_exports (names_of_unit q.table n imports.0) [] p.exports)) (sym own) names;
  seconds = seconds;
  exports = subst (λ (n : ℕ). AreEntries work.symbols c.exports (export_all (names_of_unit q.table n imports.0) [] p.exports).entries) (sym own) exports;
}
