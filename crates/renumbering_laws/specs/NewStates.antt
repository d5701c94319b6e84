-- A state under new numbers, where each new number has one old one and definitions keep theirs.
use Rattle.std.specs.Prelude.{◌≡◌, ℕ, map}
use Rattle.scheme_model.specs.RulesShape.{option_map}
use Rattle.scheme_model.specs.Substitution.{Entries, KeptMacro, State}
use Rattle.scheme_model.specs.ScopedExpansion.{BodyDefinition, UsePlace, ScopedMacro, ScopedState}
use Rattle.renumbering_laws.specs.Moving.{move_rules}
use Rattle.renumbering_laws.specs.Renumbering.{Renumbering, number, ident, meaning, change, target, macro_use_as}
use Rattle.renumbering_laws.specs.States.{defined_as, names_change}
use Rattle.renumbering_laws.specs.ScopedStates.{IsOnto, frames_as}

-- the old number of a unit by its new one, and forms as in `IsOnto`; definitions keep their numbers
pub record HasInverse (r : Renumbering) : Type 0 where
  pub forms : IsOnto r
  pub unit_back : ℕ → ℕ
  pub unit_there : (u : ℕ) → r.unit (unit_back u) ≡ u
  pub unit_here : (u : ℕ) → unit_back (r.unit u) ≡ u
  pub definitions : (u n : ℕ) → r.definition u n ≡ n

module _ (r : Renumbering) (w : HasInverse r) where
  abbrev pub at_new : {X Y : Type 0} → ℕ → (X → Y) → (ℕ → X) → ℕ → Y
  at_new u g c f = g (c (w.forms.back u f))

  abbrev pub entries_new : Entries → Entries
  entries_new e u x = option_map (meaning r) (e (w.unit_back u) x)

  abbrev pub kept_new : KeptMacro → KeptMacro
  kept_new k = record { meaning = meaning r k.meaning; rules = move_rules (names_change r) k.rules }

  abbrev pub state_new : State → State
  state_new s = record {
    unit = r.unit s.unit;
    program = s.program;
    form = r.form s.unit s.form;
    locals = at_new s.unit (λ n. n) s.locals;
    uses = at_new s.unit (λ n. n) s.uses;
    nodes = at_new s.unit (λ n. n) s.nodes;
    bodies = at_new s.unit (λ n. n) s.bodies;
    keywords = at_new s.unit (map (target r)) s.keywords;
    met = at_new s.unit (map (macro_use_as r)) s.met;
    table = map (defined_as r) s.table;
    entry = entries_new s.entry;
    macros = map kept_new s.macros;
    in_body = s.in_body;
    mine = map (number r) s.mine;
  }

  abbrev pub scoped_new : ScopedMacro → ScopedMacro
  scoped_new k = record { meaning = meaning r k.meaning; frames = frames_as r w.forms k.frames; rules = move_rules (change r) k.rules }

  abbrev pub use_new : UsePlace → UsePlace
  use_new p = record { use_number = number r p.use_number; frames = frames_as r w.forms p.frames }

  abbrev pub body_definition_new : BodyDefinition → BodyDefinition
  body_definition_new d = record { body = number r d.body; ident = ident r d.ident; binder = number r d.binder }

  abbrev pub scoped_state_new : ScopedState → ScopedState
  scoped_state_new s = record {
    unit = r.unit s.unit;
    program = s.program;
    form = r.form s.unit s.form;
    locals = at_new s.unit (λ n. n) s.locals;
    uses = at_new s.unit (λ n. n) s.uses;
    nodes = at_new s.unit (λ n. n) s.nodes;
    bodies = at_new s.unit (λ n. n) s.bodies;
    keywords = at_new s.unit (map (target r)) s.keywords;
    met = at_new s.unit (map (macro_use_as r)) s.met;
    table = map (defined_as r) s.table;
    entry = entries_new s.entry;
    macros = map scoped_new s.macros;
    places = map use_new s.places;
    definitions = map body_definition_new s.definitions;
  }
