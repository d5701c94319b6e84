-- A unit is begun on a bench that goes on with what is expanded so far, and what its forms come to is the definition's.
use Rattle.std.proofs.Common.{◌≡◌, ℕ, ◌+◌, List, [], ◌∷◌, ◌++◌, Bool, true, false, cond, Option, Some, None, refl, sym, ap, ◌∙◌, subst}
use Rattle.std.specs.Prelude.{reverse}
use Rattle.std.specs.Str.{bytes_eq}
use Rattle.scheme_model.specs.Meaning.{Meaning}
use Rattle.scheme_model.specs.Entries.{Entry, entry_at}
use Rattle.scheme_model.specs.Order.{Note}
use Rattle.scheme_model.specs.Requirements.{Known}
use Rattle.scheme_model.specs.Substitution.{Entries}
use Rattle.scheme_model.specs.UnitExpansion.{Formed}
use Rattle.scheme_model.specs.ScopedExpansion.{Frames, FramedIdent, ScopedState}
use Rattle.scheme_model.specs.IncludedUnits.{Placed}
use Rattle.scheme_model.specs.Program.{Prepared, SetResult, TooLarge, entry_meaning, with_entries, is_program, unit_result}
use Rattle.scheme_model.specs.ScopedProgram.{ScopedProgress, scoped_start_of}
use Rattle.macro_uses.specs.MacroUses.{total_of}
use Rattle.macro_uses.specs.ScopedUses.{form_numbers}
use Rattle.syntax_tree.specs.Names.{Names, KeepsNames, AreToldApart}
use Rattle.syntax_tree.specs.Meant.{AreEntries}
use Rattle.syntax_tree.specs.declared.trees.Work.{Work}
use Rattle.syntax_tree.specs.declared.units.Entry as code
use Rattle.syntax_tree.specs.declared.units.UnitKind.{UnitKind}
use Rattle.syntax_tree.specs.declared.units.UnitKind.TheVariants as kinds
use Rattle.core_tree.specs.Names.{AllMatch}
use Rattle.core_tree.specs.Units.{FormsStand, AreDefinitions, definitions_from, defined_by, kind_as}
use Rattle.core_tree.specs.declared.units.UnitForm.{UnitForm}
use Rattle.forgotten_locals.specs.Outside.{IsOutside}
use Rattle.root_laws.specs.AtRoot.{AllAtRoot}
use Rattle.unit_scopes.specs.Forgotten.{AllOwn, OwnFirst}
use Rattle.unit_scopes.specs.Opened.{ImportsFor, started, with_imports}
use Rattle.unit_scopes.specs.Preluded.{Continues}
use Rattle.unit_scopes.specs.State.{is_program as is_program_kind}
use Rattle.unit_scopes.specs.Stepped.{IsFresh}
use Rattle.unit_scopes.specs.Units.{UnitStands}
use Rattle.unit_scopes.specs.declared.scope.Imported.{Imported}
use Rattle.unit_scopes.proofs.ImportLaws.{same_trees}
use Rattle.unit_scopes.proofs.PreludeLaws.{started_so}
use Rattle.standard_scopes.specs.Begun.{IsImport}
use Rattle.program_expansion.specs.UnitResults.{GoesOn, Expands, ComesTo, expanded_after, with_unit}
use Rattle.form_expansion.specs.Forms.{StandsOutside, StandsAt, AreUnfolded, Unfolds}
use Rattle.unit_imports.specs.EntriesMeant.{EachOnce}
use Rattle.unit_imports.specs.declared.expanded.Expanded.{Expanded}
use Rattle.form_expansion.specs.declared.forms.Bench.{Bench}
use Rattle.standard_scopes.proofs.Growing.{stands_on}
use Rattle.program_expansion.proofs.ImportedNames.{meaning_in, imports_for}
use Rattle.unit_imports.proofs.MeaningLaws.{entries_kept}
use Rattle.form_expansion.proofs.BenchLaws.{stands_in}
use Rattle.program_expansion.proofs.TurnsForget.{goes_behind}

-- ---- imports

abbrev imported_by : List Entry → List ℕ → Option Meaning
imported_by ds s = entry_meaning (entry_at ds s)

entered : (ds : List Entry) (s : List ℕ) → meaning_in ds s ≡ imported_by ds s
entered [] s = refl
entered (d ∷ ds) s = go (entered ds s) (bytes_eq d.name s)
  where
    go : meaning_in ds s ≡ imported_by ds s → (b : Bool) → cond b (Some d.meaning) (meaning_in ds s) ≡ entry_meaning (cond b (Some d) (entry_at ds s))
    go rest true = refl
    go rest false = rest

imports_entered : (names : Names) (xs : List Imported) (ds : List Entry) → ImportsFor names xs (meaning_in ds) → ImportsFor names xs (imported_by ds)
imports_entered names xs ds h = record {
  given = λ n x s at is. let r = h.given n x s at is in (r.0, sym (entered ds s) ∙ r.1, r.2);
  only = λ s m e. h.only s m (entered ds s ∙ e);
}

-- ---- the start

same_kind : (k : UnitKind) → is_program_kind k ≡ is_program (kind_as k)
same_kind kinds.Library = refl
same_kind kinds.Program = refl
same_kind kinds.Part = refl

start_is : (kind : UnitKind) (unit : ℕ) (p : Prepared) (g : ScopedProgress) (ds : List Entry) (s : ScopedState) → Continues s g → p.number ≡ unit → kind_as kind ≡ p.placed.source.kind →
    started unit (is_program_kind kind) (with_imports unit (imported_by ds) s.entry) s ≡ scoped_start_of p g (with_entries p.number ds g.entry)
start_is kind unit p g ds s h own k =
    ap (λ (n : ℕ). started n (is_program_kind kind) (with_imports n (imported_by ds) s.entry) s) (sym own)
    ∙ (ap (λ (b : Bool). started p.number b (with_imports p.number (imported_by ds) s.entry) s) (same_kind kind ∙ ap is_program k)
    ∙ (ap (λ (e : Entries). started p.number (is_program p.placed.source.kind) (with_imports p.number (imported_by ds) e) s) h.entry
    ∙ started_so p g (with_entries p.number ds g.entry) s h))

-- nothing local is there when a unit begins where nothing was
pub begun_outside : (c : Bench) (unit : ℕ) (program : Bool) (entry : Entries) (ls : List Frames) (s : ScopedState) → UnitStands c.work c.scope ls (started unit program entry s) [] → IsOutside s → AllAtRoot s → AllOwn c.scope →
    StandsOutside c ls (started unit program entry s) []
begun_outside c unit program entry ls s h outside macros own = record { stands = h; outside = ap (λ (t : ScopedState). started unit program entry t) outside; macros = macros; notes = tt; own = own }

-- a bench on which the definition's unit begins
pub record BeginsAt (b : Bench) (s : ScopedState) : Type 0 where
  pub layout : List Frames
  pub stands : StandsOutside b layout s []
  pub fresh : (m : ℕ) → IsFresh s m

pub goes_begun : (b c : Bench) (w : Work) (unit : ℕ) (kind : UnitKind) (xs : List Imported) (es : List code.Entry) (p : Prepared) (g : ScopedProgress) (ds : List Entry) (goes : GoesOn b g) → p.number ≡ unit → kind_as kind ≡ p.placed.source.kind →
    w.trees ≡ b.work.trees → KeepsNames b.work.symbols w.symbols → AreToldApart w.symbols.idents → AreToldApart w.symbols.symbols → AllMatch (IsImport w.symbols) xs es → AreEntries b.work.symbols es ds → EachOnce es →
    ((ls : List Frames) (s : ScopedState) (notes : List (Note FramedIdent)) (given : List ℕ → Option Meaning) → UnitStands w b.scope ls s notes → ImportsFor w.symbols xs given →
    UnitStands c.work c.scope (ls ++ [] ∷ []) (started unit (is_program_kind kind) (with_imports unit given s.entry) s) []) →
    ((ls : List Frames) (s : ScopedState) (notes : List (Note FramedIdent)) (given : List ℕ → Option Meaning) → UnitStands w b.scope ls s notes → (m : ℕ) → IsFresh (started unit (is_program_kind kind) (with_imports unit given s.entry) s) m) → (AllOwn b.scope → OwnFirst c.scope × AllOwn c.scope) →
    BeginsAt c (scoped_start_of p goes.outside (with_entries p.number ds goes.outside.entry))
goes_begun b c w unit kind xs es p g ds goes own k trees names apart told all are once rests fresh owned =
    let at = goes.stands in
    let now = stands_on b.work w (same_trees b.work w trees names) names apart told b.scope goes.layout goes.state goes.notes at.stands in
    let is = start_is kind unit p goes.outside ds goes.state goes.continues own k in
    let given = imports_entered w.symbols xs ds (imports_for w.symbols xs es ds all (entries_kept b.work.symbols w.symbols names es ds are) once) in
    record {
      layout = goes.layout ++ [] ∷ [];
      stands =
          subst (λ (s : ScopedState). StandsOutside c (goes.layout ++ [] ∷ []) s []) is
          (begun_outside c unit (is_program_kind kind) (with_imports unit (imported_by ds) goes.state.entry) (goes.layout ++ [] ∷ []) goes.state (rests goes.layout goes.state goes.notes (imported_by ds) now given) at.outside at.macros (owned at.own).1);
      fresh = subst (λ (s : ScopedState). (m : ℕ) → IsFresh s m) is (fresh goes.layout goes.state goes.notes (imported_by ds) now);
    }

-- ---- what came of the forms

module _ (all : List Placed) (known : Known) (b : Bench) (g : ScopedProgress) (p : Prepared) (imports : List Entry × List SetResult) where
  abbrev gone : Option (List Formed) × ScopedState
  gone = expanded_after known g p imports.0

  abbrev start : ScopedState
  start = scoped_start_of p g (with_entries p.number imports.0 g.entry)

  ended : (o : Option (List Formed)) → AreUnfolded b p.number gone.1 None o → ComesTo all (with_unit g gone.1) b.work None (unit_result p imports gone.1.table o)
  ended None h = (TooLarge, refl)
  ended (Some fs) h = absurd h

  pub none_expands : (from to : ℕ) → Unfolds b known p start None → to ≡ from + total_of gone.1.uses (form_numbers p) → Expands all known b g p imports from to None
  none_expands from to h steps = record { goes = goes_behind known g p imports b h.stands; comes = ended gone.0 h.forms; steps = steps }

  -- the forms are the definition's
  pub record AreItsForms (cs : List UnitForm) : Type 0 where
    pub formed : List Formed
    pub is : gone.0 ≡ Some formed
    pub stand : FormsStand b.work p.number 0 cs formed
    pub definitions : AreDefinitions b.work.symbols (reverse (definitions_from 0 cs)) (defined_by p.number gone.1.table)

  some_forms : (cs : List UnitForm) (o : Option (List Formed)) → gone.0 ≡ o → AreUnfolded b p.number gone.1 (Some cs) o → AreItsForms cs
  some_forms cs None is h = absurd h
  some_forms cs (Some fs) is h = record { formed = fs; is = is; stand = h.0; definitions = h.1 }

  pub its_forms : (cs : List UnitForm) → Unfolds b known p start (Some cs) → AreItsForms cs
  its_forms cs h = some_forms cs gone.0 refl h.forms

  pub some_expands : (c : Bench) (came : Expanded) (cs : List UnitForm) → StandsAt c gone.1 → (f : AreItsForms cs) → ComesTo all (with_unit g gone.1) c.work (Some came) (unit_result p imports gone.1.table (Some f.formed)) →
      (from to : ℕ) → to ≡ from + total_of gone.1.uses (form_numbers p) → Expands all known c g p imports from to (Some came)
  some_expands c came cs stands f came_to from to steps = record {
    goes = goes_behind known g p imports c stands;
    comes = subst (λ (o : Option (List Formed)). ComesTo all (with_unit g gone.1) c.work (Some came) (unit_result p imports gone.1.table o)) (sym f.is) came_to;
    steps = steps;
  }

-- ---- names alone were added

pub stands_at : (b : Bench) (w : Work) (s : ScopedState) → w.trees ≡ b.work.trees → KeepsNames b.work.symbols w.symbols → AreToldApart w.symbols.idents → AreToldApart w.symbols.symbols → StandsAt b s → StandsAt (record b { work = w }) s
stands_at b w s trees names apart told h = record { layout = h.layout; state = h.state; notes = h.notes; stands = stands_in b w (same_trees b.work w trees names) names apart told h.layout h.state h.notes h.stands; is = h.is }

pub goes_in : (b : Bench) (w : Work) (g : ScopedProgress) → w.trees ≡ b.work.trees → KeepsNames b.work.symbols w.symbols → AreToldApart w.symbols.idents → AreToldApart w.symbols.symbols → GoesOn b g → GoesOn (record b { work = w }) g
goes_in b w g trees names apart told h = record {
  outside = h.outside;
  is = h.is;
  layout = h.layout;
  state = h.state;
  notes = h.notes;
  stands = stands_in b w (same_trees b.work w trees names) names apart told h.layout h.state h.notes h.stands;
  continues = h.continues;
}
