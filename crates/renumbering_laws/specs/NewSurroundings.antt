-- Surroundings of a form under new numbers, where the old number of a unit and of a form is told by the new one, if it has one.
use Rattle.std.specs.Prelude.{◌≡◌, ℕ, [], map, Option, Some, None}
use Rattle.scheme_model.specs.RulesShape.{option_map}
use Rattle.scheme_model.specs.Substitution.{Entries}
use Rattle.scheme_model.specs.Questions.{Around}
use Rattle.renumbering_laws.specs.Renumbering.{Renumbering, meaning, target, macro_use_as}
use Rattle.renumbering_laws.specs.States.{defined_as}
use Rattle.renumbering_laws.specs.Asked.{new_note, new_kept, new_use, new_definition}

-- some numbers may have no old one; definitions keep theirs
pub record HasOldNumbers (r : Renumbering) : Type 0 where
  pub unit_back : ℕ → Option ℕ
  pub unit_here : (u : ℕ) → unit_back (r.unit u) ≡ Some u
  pub form_back : (unit form : ℕ) → Option ℕ
  pub form_here : (u f : ℕ) → form_back u (r.form u f) ≡ Some f
  pub definitions : (u n : ℕ) → r.definition u n ≡ n

-- what it had, or this where it had no number
abbrev pub at_old : {X : Type 0} → X → (ℕ → X) → Option ℕ → X
at_old none c None = none
at_old none c (Some n) = c n

module _ (r : Renumbering) (b : HasOldNumbers r) where
  -- what each form of a unit has under its new number
  abbrev pub forms_new : {X : Type 0} → (unit : ℕ) → X → (ℕ → X) → ℕ → X
  forms_new u none c f = at_old none c (b.form_back u f)

  abbrev pub imports_new : Entries → Entries
  imports_new e u x = at_old None (λ v. option_map (meaning r) (e v x)) (b.unit_back u)

  abbrev pub around_new : Around → Around
  around_new w = record {
    state = record {
      unit = r.unit w.state.unit;
      program = w.state.program;
      form = r.form w.state.unit w.state.form;
      locals = forms_new w.state.unit 0 w.state.locals;
      uses = forms_new w.state.unit 0 w.state.uses;
      nodes = forms_new w.state.unit 0 w.state.nodes;
      bodies = forms_new w.state.unit 0 w.state.bodies;
      keywords = forms_new w.state.unit [] (λ f. map (target r) (w.state.keywords f));
      met = forms_new w.state.unit [] (λ f. map (macro_use_as r) (w.state.met f));
      table = map (defined_as r) w.state.table;
      entry = imports_new w.state.entry;
      macros = map (new_kept r) w.state.macros;
      places = map (new_use r) w.state.places;
      definitions = map (new_definition r) w.state.definitions;
    };
    known = w.known;
    notes = map (new_note r) w.notes;
  }
