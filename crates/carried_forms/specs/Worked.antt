-- The units of a program that are worked on, each form with what is around it at its two turns, and what it counted.
use Rattle.std.specs.Prelude.{◌≡◌, ℕ, zero, suc, List, [], ◌∷◌, ◌++◌, map, length, Bool, true, false, Option, Some, None, Result}
use Rattle.scheme_model.specs.declared.Home.{Home}
use Rattle.scheme_model.specs.Ident.{Ident, Written}
use Rattle.scheme_model.specs.DataTrees.{tree_of}
use Rattle.scheme_model.specs.Trees.{Tree, placed_in}
use Rattle.scheme_model.specs.Requirements.{Known}
use Rattle.scheme_model.specs.Order.{Note, Left, is_some}
use Rattle.scheme_model.specs.Steps.{Broken}
use Rattle.scheme_model.specs.Substitution.{Clock}
use Rattle.scheme_model.specs.ScopedExpansion.{FramedIdent, ScopedState}
use Rattle.scheme_model.specs.Declarations.{UnitForm, home_of, UnitKind, IsLibrary, IsProgram, IsPart}
use Rattle.scheme_model.specs.Includes.{Document}
use Rattle.scheme_model.specs.IncludedUnits.{Placed}
use Rattle.scheme_model.specs.Program.{Prepared, UnitResult, WholeFault, known_in, units_of, prepare, fault_before, is_ready, first_ready, result_at, enough_turns, forms_at_work}
use Rattle.scheme_model.specs.Diagnostics.{document_of}
use Rattle.scheme_model.specs.ScopedProgram.{ScopedProgress, forms_over, scoped_unit_over, scoped_start_after, scoped_worked, scoped_work, scoped_before}
use Rattle.scheme_model.specs.Questions.{Around}
use Rattle.scheme_model.specs.FormsAlike.{set_aside, finish}
use Rattle.carried_forms.specs.Paired.{FormText, UnitText}

-- ---- forms at work

-- a form, what is around it when it is gone through, what it set aside, and what is around it when that is expanded
pub record WorkedForm : Type 0 where
  pub form : ℕ
  pub tree : Tree Ident
  pub around : Around
  pub left : Result (Left Ident) Broken
  pub later : Around

pub record GoneForm : Type 0 where
  pub form : ℕ
  pub tree : Tree Ident
  pub around : Around
  pub left : Result (Left Ident) Broken

abbrev pub around_form : Known → List (Note FramedIdent) → ScopedState → ℕ → Around
around_form known notes s form = record { state = record s { form = form }; known = known; notes = notes }

-- all forms are gone through, in order
abbrev pub gone_through : Known → List (ℕ × Tree Ident) → List (Note FramedIdent) → ScopedState → List GoneForm × ScopedState
gone_through known [] notes s = ([], s)
gone_through known (t ∷ ts) notes s =
    let w = around_form known notes s t.0 in
    let q = set_aside w enough_turns t.1 in
    let more = gone_through known ts q.0.notes q.1 in
    (record { form = t.0; tree = t.1; around = w; left = q.0.left } ∷ more.0, more.1)

-- and then what each set aside is expanded
abbrev pub gone_on : Known → List GoneForm → ScopedState → List WorkedForm
gone_on known [] s = []
gone_on known (g ∷ gs) s =
    let w = around_form known [] s g.form in
    record { form = g.form; tree = g.tree; around = g.around; left = g.left; later = w } ∷ gone_on known gs (finish w enough_turns g.left).1

abbrev pub worked_forms : Known → List (ℕ × Tree Ident) → ScopedState → List WorkedForm
worked_forms known ts s = let q = gone_through known ts [] s in gone_on known q.0 q.1

-- ---- units at work

-- a unit's forms, and how many macro uses each counted, up to where the work on the unit ended
pub record WorkedUnit : Type 0 where
  pub number : ℕ
  pub forms : List WorkedForm
  pub uses : Clock

abbrev pub worked_unit : Known → Prepared → ScopedState → WorkedUnit
worked_unit known p s = record {
  number = p.number;
  forms = worked_forms known (forms_over (Written p.number) p.number 0 (forms_at_work p)) s;
  uses = (scoped_unit_over known p s).1.uses;
}

abbrev pub unless_broken : List Placed → Known → Prepared → Option WholeFault → ScopedProgress → List WorkedUnit
unless_broken all known p (Some fault) g = []
unless_broken all known p None g = worked_unit known p (scoped_start_after all p g) ∷ []

abbrev pub worked_next : List Placed → List Prepared → Known → Option Prepared → ScopedProgress → List WorkedUnit
worked_next all ps known None g = []
worked_next all ps known (Some p) g = unless_broken all known p (fault_before all ps p) g

-- in the order of the work on the program
abbrev pub worked_units : List Placed → List Prepared → Known → ℕ → ScopedProgress → List WorkedUnit
worked_units all ps known zero g = []
worked_units all ps known (suc n) g =
    let o = first_ready (is_ready all ps g.results) ps in
    worked_next all ps known o g ++ worked_units all ps known n (scoped_worked all ps known o g)

-- ---- programs

-- a document by its uri, with its data where it reads, and what its strings mean
pub record OpenDocument : Type 0 where
  pub uri : List ℕ
  pub data_in : Document

-- no uri stands twice
abbrev pub IsElsewhere : List ℕ → List OpenDocument → Type 0
IsElsewhere uri [] = Unit {0}
IsElsewhere uri (d ∷ ds) = (uri ≡ d.uri → ⊥) × IsElsewhere uri ds

abbrev pub AreOpenOnce : List OpenDocument → Type 0
AreOpenOnce [] = Unit {0}
AreOpenOnce (d ∷ ds) = IsElsewhere d.uri ds × AreOpenOnce ds

abbrev pub read_documents : List OpenDocument → List Document
read_documents ds = map (λ d. d.data_in) ds

abbrev pub units_at_work : List Document → List WorkedUnit
units_at_work ds = let all = units_of ds in let ps = prepare all 0 all in worked_units all ps (known_in ds) (length ps) scoped_before

-- ---- their texts

abbrev pub uri_at : List OpenDocument → ℕ → List ℕ
uri_at [] n = []
uri_at (d ∷ ds) zero = d.uri
uri_at (d ∷ ds) (suc n) = uri_at ds n

-- a form with its home, where units have these uris
abbrev pub form_text : (ℕ → List ℕ) → Home → UnitForm → FormText
form_text uri_of h f = record {
  home = record { uri = uri_of h.unit; number = h.form };
  included = is_some f.home;
  tree = tree_of (λ s. s) (placed_in 0 0 h.first) f.datum;
}

abbrev pub form_texts : (ℕ → List ℕ) → (unit form : ℕ) → List UnitForm → List FormText
form_texts uri_of unit form [] = []
form_texts uri_of unit form (f ∷ fs) = form_text uri_of (home_of unit form f) f ∷ form_texts uri_of unit (suc form) fs

abbrev pub is_of_library : UnitKind → Bool
is_of_library IsLibrary = true
is_of_library IsProgram = false
is_of_library IsPart = false

-- a unit that came to nothing is broken too
abbrev pub is_broken : Option UnitResult → Bool
is_broken None = true
is_broken (Some r) = is_some r.fault

abbrev pub unit_text : List OpenDocument → List UnitResult → Prepared → UnitText
unit_text ds rs p = record {
  uri = uri_at ds p.placed.document;
  is_library = is_of_library p.placed.source.kind;
  name = p.placed.source.name;
  broken = is_broken (result_at rs p.number);
  forms = form_texts (λ n. uri_at ds (document_of rs n)) p.number 0 p.forms;
}

abbrev pub unit_texts : List OpenDocument → List UnitText
unit_texts ds =
    let all = units_of (read_documents ds) in
    let ps = prepare all 0 all in
    map (unit_text ds (scoped_work all ps (known_in (read_documents ds)) (length ps) scoped_before).results) ps
