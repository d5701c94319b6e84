-- How the definitions of a form in its unit end, and what those that stand make (R7RS 5.3).
use Rattle.std.specs.Prelude.{◌≡◌, List, [], ◌∷◌, Option, None, ◌++◌}
use Rattle.scheme_model.specs.Ident.{Ident}
use Rattle.scheme_model.specs.ExpansionFaults.{Named}
use Rattle.scheme_model.specs.Meaning.{Global}
use Rattle.scheme_model.specs.RulesShape.{Rules}
use Rattle.scheme_model.specs.Order.{Note, LookedUp, Compared, is_some}
use Rattle.scheme_model.specs.Substitution.{Table, any}
use Rattle.scheme_model.specs.ScopedExpansion.{Frames, FramedIdent, ScopedMacro, UsePlace, ScopedState, macro_added, definition_added, meaning_next, is_defined}
use Rattle.scheme_model.specs.CountedExpansion.{refused_here}
use Rattle.scheme_model.specs.Questions.{Moment, Around, Question, LooksUp, UsesRules, Compares, IsAssigned, Requires, Defines, Outcome, Stands, Redefines, StoodBefore, outcome_by, unit_outcome}
use Rattle.scheme_model.specs.FormsAlike.{again}
use Rattle.form_laws.specs.Begins.{Each}
use Rattle.forgotten_locals.specs.Outside.{macros_outside, outside}

-- a definition of the form in its unit, at its moment, in view of the form's notes by then
pub record Ending : Type 0 where
  pub moment : Moment
  pub frames : Frames
  pub name : Named Ident
  pub rules : Option (Rules Ident)
  pub notes : List (Note FramedIdent)

-- those among a form's questions, latest first as these are
abbrev pub endings : List (Moment × Question) → List Ending
endings [] = []
endings ((n, LooksUp i) ∷ qs) = endings qs
endings ((n, UsesRules m) ∷ qs) = endings qs
endings ((n, Compares l i) ∷ qs) = endings qs
endings ((n, IsAssigned i) ∷ qs) = endings qs
endings ((n, Requires l) ∷ qs) = endings qs
endings ((n, Defines fs x r ns) ∷ qs) = record { moment = n; frames = fs; name = x; rules = r; notes = ns } ∷ endings qs

abbrev pub ending_in : Around → Ending → Outcome
ending_in w e = unit_outcome w e.moment e.frames e.name e.rules e.notes

-- what definitions make of the surroundings, each where it stood: their table and their macros, latest first
abbrev pub table_if : Outcome → Around → Ending → Table → Table
table_if Stands w e t = record { unit = w.state.unit; form = w.state.form; ident = e.name.name; keyword = is_some e.rules; occ = e.name.occ } ∷ t
table_if Redefines w e t = t
table_if StoodBefore w e t = t

abbrev pub macros_if : Outcome → Around → Ending → List ScopedMacro → List ScopedMacro
macros_if Stands w e ks = macro_added (Global w.state.unit e.name.name) e.frames e.rules ks
macros_if Redefines w e ks = ks
macros_if StoodBefore w e ks = ks

abbrev pub table_made : Around → List Ending → Table
table_made w [] = []
table_made w (e ∷ es) = table_if (ending_in w e) w e (table_made w es)

abbrev pub macros_made : Around → List Ending → List ScopedMacro
macros_made w [] = []
macros_made w (e ∷ es) = macros_if (ending_in w e) w e (macros_made w es)

-- the state that they make of another one, one definition after another
abbrev pub made_if : Outcome → Ending → ScopedState → ScopedState
made_if Stands e s = definition_added None e.name e.rules e.frames s
made_if Redefines e s = s
made_if StoodBefore e s = s

abbrev pub made_again : Around → List Ending → ScopedState → ScopedState
made_again w [] s = s
made_again w (e ∷ es) s = made_if (ending_in w e) e (made_again w es s)

-- ---- at each moment

-- what isn't local of what the form had made by a moment is what these make
abbrev pub Made : Around → Moment → List Ending → Type 0
Made w n es = (n.table ≡ table_made w es) × (macros_outside n.macros ≡ macros_made w es)

-- so it is at the moment of each question, by the definitions that were asked before it
abbrev pub MadeAtEach : Around → List (Moment × Question) → Type 0
MadeAtEach w [] = Unit {0}
MadeAtEach w (q ∷ qs) = Made w q.0 (endings qs) × MadeAtEach w qs

-- ---- in other surroundings

-- a moment there, without what is local, is what these definitions make of the surroundings, but for what the form has counted and met
abbrev pub IsMadeAgain : (w v : Around) → Moment → List Ending → Type 0
IsMadeAgain w v n es =
    let s = outside (again v n) in s ≡ record (made_again w es (outside v.state)) { locals = s.locals; uses = s.uses; nodes = s.nodes; bodies = s.bodies; keywords = s.keywords; met = s.met }

-- and so is that of each question
abbrev pub AreMadeAgain : (w v : Around) → List (Moment × Question) → Type 0
AreMadeAgain w v [] = Unit {0}
AreMadeAgain w v (q ∷ qs) = IsMadeAgain w v q.0 (endings qs) × AreMadeAgain w v qs

-- ---- the form's notes

-- they are these with some before them in the list, as later notes are
abbrev pub IsEarlier : List (Note FramedIdent) → List (Note FramedIdent) → Type 0
IsEarlier ns ms = (more : List (Note FramedIdent)) × (ms ≡ more ++ ns)

-- each definition was made in the unit itself, in view of notes that the form still has at the next one, and the last in view of notes that
-- it has in the end
abbrev pub MadeInOrder : List Ending → List (Note FramedIdent) → Type 0
MadeInOrder [] ms = Unit {0}
MadeInOrder (e ∷ es) ms = (e.frames ≡ []) × IsEarlier e.notes ms × MadeInOrder es e.notes

-- ---- at the root

-- nothing is inside a body: macros were defined, and used ones were, at the root of their units
abbrev pub AtRoot : Moment → Type 0
AtRoot n = Each (λ (p : UsePlace). p.frames ≡ []) n.places × Each (λ (k : ScopedMacro). k.frames ≡ []) n.macros × (n.definitions ≡ [])

abbrev pub NoteAtRoot : Note FramedIdent → Type 0
NoteAtRoot (LookedUp l head keyword) = l.frames ≡ []
NoteAtRoot (Compared l j held) = (l.frames ≡ []) × (j.frames ≡ [])

-- how a definition ends in a state outside of all forms, in view of these notes of the form and of those before it
abbrev pub outcome_outside : Around → ScopedState → Named Ident → Option (Rules Ident) → List (Note FramedIdent) → Outcome
outcome_outside v s x r ns =
    outcome_by (any (refused_here (definition_added None x r [] s) (meaning_next s None x.name) (is_some r)) (ns ++ v.notes)) (is_defined s None x.name)
