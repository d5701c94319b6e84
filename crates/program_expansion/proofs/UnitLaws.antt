-- A unit that is begun on a bench, and what its forms tell once they are expanded.
use Rattle.std.proofs.Common.{◌≡◌, ℕ, List, [], ◌∷◌, ◌++◌, get_or, Bool, Option, refl, sym, ◌∙◌, subst}
use Rattle.std.proofs.lemmas.Option.{slice_get_within, slice_get-get_or}
use Rattle.scheme_model.specs.Ident.{Written}
use Rattle.scheme_model.specs.Meaning.{Meaning}
use Rattle.scheme_model.specs.Order.{Note}
use Rattle.scheme_model.specs.ScopedExpansion.{Frames, FramedIdent, ScopedState}
use Rattle.syntax_tree.specs.Names.{Names, KeepsNames, AreToldApart}
use Rattle.syntax_tree.specs.Works.{IsOpened}
use Rattle.syntax_tree.specs.declared.trees.Work.{Work}
use Rattle.syntax_tree.specs.declared.trees.table.Region.{Region}
use Rattle.syntax_tree.specs.declared.units.Entry.{Entry}
use Rattle.core_tree.specs.Names.{AllMatch}
use Rattle.core_tree.specs.Units.{definitions_from}
use Rattle.core_tree.specs.declared.cores.Binder.{Binder}
use Rattle.core_tree.specs.declared.units.UnitForm.{UnitForm}
use Rattle.unit_scopes.specs.Opened.{ImportsFor, started, with_imports}
use Rattle.unit_scopes.specs.Stepped.{IsFresh}
use Rattle.unit_scopes.specs.Units.{UnitStands}
use Rattle.unit_scopes.specs.declared.scope.Imported.{Imported}
use Rattle.unit_scopes.proofs.ImportLaws.{same_trees}
use Rattle.standard_scopes.specs.Begun.{IsImport}
use Rattle.unit_imports.specs.Defined.{AreKnown}
use Rattle.form_expansion.specs.Forms.{IsBench, IsBegun, AreFormed}
use Rattle.unit_imports.specs.EntriesMeant.{HaveMeaning, EachOnce}
use Rattle.program_findings.specs.StandIn.{StandIn}
use Rattle.form_expansion.specs.declared.forms.Bench.{Bench}
use Rattle.form_expansion.proofs.BenchLaws.{bench_in}
use Rattle.program_expansion.proofs.UnitCame.{begun_outside}
use Rattle.unit_scopes.specs.Forgotten.{AllOwn, OwnFirst}
use Rattle.unit_imports.proofs.DefinedLaws.{known_definitions}
use Rattle.program_expansion.proofs.ImportedNames.{meaning_in, imports_for}
use Rattle.unit_imports.proofs.MeaningLaws.{mean_kept, names_on}

-- what a unit imports, by the entries that it is given
pub imports_given : (old new : Names) → KeepsNames old new → (xs : List Imported) (es : List Entry) → AllMatch (IsImport new) xs es → HaveMeaning old es → EachOnce es →
    (imported : List ℕ → Option Meaning) × ImportsFor new xs imported
imports_given old new keeps xs es all mean once =
    let m = mean_kept old new keeps es mean in
    (meaning_in m.0, imports_for new xs es m.0 all m.1 once)

-- a unit that is begun on a bench to whose names some were added
pub unit_begun : (b c : Bench) (w : Work) (unit : ℕ) (program : Bool) (xs : List Imported) (imported : List ℕ → Option Meaning) → IsBench b → w.trees ≡ b.work.trees → KeepsNames b.work.symbols w.symbols → AreToldApart w.symbols.idents →
    AreToldApart w.symbols.symbols → ImportsFor w.symbols xs imported → c.region ≡ b.region → c.work.trees ≡ w.trees → KeepsNames w.symbols c.work.symbols →
    ((ls : List Frames) (s : ScopedState) (notes : List (Note FramedIdent)) (given : List ℕ → Option Meaning) → UnitStands w b.scope ls s notes → ImportsFor w.symbols xs given →
    UnitStands c.work c.scope (ls ++ [] ∷ []) (started unit program (with_imports unit given s.entry) s) []) →
    ((ls : List Frames) (s : ScopedState) (notes : List (Note FramedIdent)) (given : List ℕ → Option Meaning) → UnitStands w b.scope ls s notes → (m : ℕ) → IsFresh (started unit program (with_imports unit given s.entry) s) m) → (AllOwn b.scope → OwnFirst c.scope × AllOwn c.scope) →
    IsBegun c unit
unit_begun b c w unit program xs imported is trees names apart told are region after added rests fresh owned =
    let at = bench_in b w trees names apart told is in
    let own = owned at.stands.own in
    record {
      region = (same_trees b.work c.work (after ∙ trees) (names_on b.work.symbols w.symbols c.work.symbols names added)).regions c.region (subst (λ (r : Region). IsOpened b.work r) (sym region) is.region);
      layout = at.layout ++ [] ∷ [];
      state = started unit program (with_imports unit imported at.state.entry) at.state;
      stands = begun_outside c unit program (with_imports unit imported at.state.entry) (at.layout ++ [] ∷ []) at.state (rests at.layout at.state at.notes imported at.stands.stands are) at.stands.outside at.stands.macros own.1;
      first = own.0;
      number = refl;
      fresh = fresh at.layout at.state at.notes imported at.stands.stands;
    }
