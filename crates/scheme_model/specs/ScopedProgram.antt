-- The program of the open documents by scopes: the units are worked on in the order of the definition that substitutes, and each
-- goes on with the definitions, the macros and the places of macro uses that those before it left. Nothing is substituted, and in a
-- form a local is told by its count alone.
use Rattle.std.specs.Prelude.{ℕ, zero, suc, List, [], ◌∷◌, map, length, Option, Some, None, Result, Ok, Err, if◌then◌else◌}
use Rattle.scheme_model.specs.Ident.{Ident, Written}
use Rattle.scheme_model.specs.DataTrees.{tree_of}
use Rattle.scheme_model.specs.Trees.{Tree, placed_by, proper}
use Rattle.scheme_model.specs.ExpansionFaults.{Fault}
use Rattle.scheme_model.specs.Requirements.{Known}
use Rattle.scheme_model.specs.RulesShape.{Rules, rules_map, rules_parts}
use Rattle.scheme_model.specs.Substitution.{Table, Entries, KeptMacro}
use Rattle.scheme_model.specs.ScopedExpansion.{BodyDefinitions, UsePlace, ScopedMacro, ScopedState, scoped}
use Rattle.scheme_model.specs.CountedExpansion.{counted}
use Rattle.scheme_model.specs.FrameImages.{frame_image}
use Rattle.scheme_model.specs.UnitExpansion.{Formed, unit}
use Rattle.scheme_model.specs.Prelude.{PreludeMacro, prelude}
use Rattle.scheme_model.specs.Entries.{Entry}
use Rattle.scheme_model.specs.Declarations.{UnitForm, home_of}
use Rattle.scheme_model.specs.Includes.{Document}
use Rattle.scheme_model.specs.IncludedUnits.{Placed}
use Rattle.scheme_model.specs.Program.{known_in, units_of, Prepared, prepare, WholeFault, fault_before, SetResult, UnitResult, Progress, is_program, unit_entries, with_entries, forms_at_work, enough_turns, broken_result, unit_result, is_ready, first_ready, prelude_unit, prelude_entry, prelude_meaning, prelude_definitions, Program, in_order}

-- what was expanded so far, as the definition that substitutes has it, with scopes in place of what was substituted
pub record ScopedProgress : Type 0 where
  pub table : Table
  pub macros : List ScopedMacro
  pub places : List UsePlace
  pub definitions : BodyDefinitions
  pub entry : Entries
  pub results : List UnitResult

-- ---- a unit

-- the forms that are expanded, with what their symbols stand for
abbrev pub forms_over : {A : Type 0} → (List ℕ → A) → ℕ → ℕ → List UnitForm → List (ℕ × Tree A)
forms_over written unit form [] = []
forms_over written unit form (f ∷ fs) =
    if f.declared then forms_over written unit (suc form) fs else (form, tree_of written (placed_by (home_of unit form f)) f.datum) ∷ forms_over written unit (suc form) fs

abbrev pub scoped_start_of : Prepared → ScopedProgress → Entries → ScopedState
scoped_start_of p g entry = record {
  unit = p.number;
  program = is_program p.placed.source.kind;
  form = 0;
  locals = λ f. 0;
  uses = λ f. 0;
  nodes = λ f. 0;
  bodies = λ f. 0;
  keywords = λ f. [];
  met = λ f. [];
  table = g.table;
  entry = entry;
  macros = g.macros;
  places = g.places;
  definitions = g.definitions;
}

abbrev pub scoped_unit_over : Known → Prepared → ScopedState → Option (List Formed) × ScopedState
scoped_unit_over known p s = unit (counted known) enough_turns [] (forms_over (Written p.number) p.number 0 (forms_at_work p)) s

-- the same where a local is told by its whole number
abbrev pub numbered_unit_over : Known → Prepared → ScopedState → Option (List Formed) × ScopedState
numbered_unit_over known p s = unit (scoped known) enough_turns [] (forms_over (Written p.number) p.number 0 (forms_at_work p)) s

abbrev pub after_unit : Prepared → List Entry × List SetResult → Entries → List UnitResult → Option (List Formed) × ScopedState → ScopedProgress
after_unit p imports entry results q = record {
  table = q.1.table;
  macros = q.1.macros;
  places = q.1.places;
  definitions = q.1.definitions;
  entry = entry;
  results = unit_result p imports q.1.table q.0 ∷ results;
}

-- in which a unit begins
abbrev pub scoped_start_after : List Placed → Prepared → ScopedProgress → ScopedState
scoped_start_after all p g = scoped_start_of p g (with_entries p.number (unit_entries all g.results p).0 g.entry)

abbrev pub scoped_expanded : Known → Prepared → List Entry × List SetResult → ScopedProgress → ScopedProgress
scoped_expanded known p imports g =
    let entry = with_entries p.number imports.0 g.entry in after_unit p imports entry g.results (scoped_unit_over known p (scoped_start_of p g entry))

abbrev pub scoped_by_fault : List Placed → Known → Prepared → Option WholeFault → ScopedProgress → ScopedProgress
scoped_by_fault all known p (Some fault) g = record g { results = broken_result p fault ∷ g.results }
scoped_by_fault all known p None g = scoped_expanded known p (unit_entries all g.results p) g

-- ---- one unit after another

abbrev pub scoped_worked : List Placed → List Prepared → Known → Option Prepared → ScopedProgress → ScopedProgress
scoped_worked all ps known None g = g
scoped_worked all ps known (Some p) g = scoped_by_fault all known p (fault_before all ps p) g

abbrev pub scoped_work : List Placed → List Prepared → Known → ℕ → ScopedProgress → ScopedProgress
scoped_work all ps known zero g = g
scoped_work all ps known (suc n) g = scoped_work all ps known n (scoped_worked all ps known (first_ready (is_ready all ps g.results) ps) g)

-- ---- the prelude

abbrev pub prelude_rules : Result (Rules (List ℕ)) (Fault (List ℕ)) → Rules Ident
prelude_rules (Ok r) = rules_map (Written prelude_unit) r
prelude_rules (Err e) = record { ellipsis = None; literals = []; rules = [] }

abbrev pub scoped_prelude_macro : PreludeMacro → ScopedMacro
scoped_prelude_macro m = record { meaning = prelude_meaning m.name; frames = []; rules = prelude_rules (rules_parts m.parts proper) }

abbrev pub scoped_before : ScopedProgress
scoped_before = record { table = prelude_definitions prelude; macros = map scoped_prelude_macro prelude; places = []; definitions = []; entry = prelude_entry; results = [] }

-- ---- the program

abbrev pub scoped_program_with : List Placed → List Prepared → Known → Program
scoped_program_with all ps known =
    let g = scoped_work all ps known (length ps) scoped_before in record { units = in_order g.results 0 (length ps); table = g.table; entry = g.entry }

abbrev pub scoped_program_of : List Document → Program
scoped_program_of ds = scoped_program_with (units_of ds) (prepare (units_of ds) 0 (units_of ds)) (known_in ds)

-- ---- what the definition that substitutes has of it

-- in the rules of each macro an identifier is what it has become
abbrev pub imaged_macro : List UsePlace → BodyDefinitions → ScopedMacro → KeptMacro
imaged_macro ps ds k = record { meaning = k.meaning; rules = rules_map (frame_image ps ds k.frames) k.rules }

abbrev pub imaged : ScopedProgress → Progress
imaged g = record { table = g.table; macros = map (imaged_macro g.places g.definitions) g.macros; entry = g.entry; results = g.results }
