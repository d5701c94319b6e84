-- Expansion that notes what it asks. Its state is that of the expansion by counted scopes, with what the part of the form at work began
-- with and has defined since, and with the notes so far, latest first. It differs from unit_scopes' `searched` in nothing else, and comes
-- to the same: see the law `runs_that_note`.
use Rattle.std.specs.Prelude.{ℕ, suc, ◌+◌, ◌-◌, List, [], ◌∷◌, ◌++◌, length, take, Bool, true, false, ◌&&◌, Option, Some, None, Result, Ok, Err}
use Rattle.scheme_model.specs.Identifiers.{Number}
use Rattle.scheme_model.specs.Ident.{Ident, Inserted, same_ident, symbol_of}
use Rattle.scheme_model.specs.ExpansionFaults.{Named, Fault, KeywordRedefined, Duplicate}
use Rattle.scheme_model.specs.Meaning.{Meaning, Local}
use Rattle.scheme_model.specs.Requirements.{Known}
use Rattle.scheme_model.specs.RulesShape.{Rules, option_map}
use Rattle.scheme_model.specs.Cores.{Target, MacroUse, Bound}
use Rattle.scheme_model.specs.Order.{Note, Pending, Renamed, Asked, Meant, Headed, RulesOf, Alike, Assigns, Library, Ops, is_some}
use Rattle.scheme_model.specs.Substitution.{Table, Entries, Clock, at_form, any, unchanged}
use Rattle.scheme_model.specs.ScopedExpansion.{Bind, Enter, Frames, FramedIdent, BodyDefinitions, UsePlace, ScopedMacro, ScopedState, macro_at, body_around, definition_added, meaning_next, is_defined}
use Rattle.scheme_model.specs.ScopedExpansion as scoped
use Rattle.scheme_model.specs.CountedExpansion as counted
use Rattle.scheme_model.specs.Questions.{Outcome, Stands, Redefines, StoodBefore, bare_macro, outcome_by}
use Rattle.form_notes.specs.Noted.{Noted, Since, looked_up, compared, rules_used, assigned_as, required, defined_as, defining}
use Rattle.unit_scopes.specs.Searched.{speaks_of}

pub record Noting : Type 0 where
  pub unit : ℕ
  pub program : Bool
  pub form : ℕ
  pub locals : Clock
  pub uses : Clock
  pub nodes : Clock
  pub bodies : Clock
  pub keywords : ℕ → List Target
  pub met : ℕ → List MacroUse
  pub table : Table
  pub entry : Entries
  pub macros : List ScopedMacro
  pub places : List UsePlace
  pub definitions : BodyDefinitions
  pub since : Since
  -- whether the editions of macros tell their rules: only then notes are said to stand
  pub exact : Bool
  -- how many notes of the unit's forms there were, and whether nothing was noted yet
  pub before : ℕ
  pub anew : Bool
  pub noted : List Noted

-- what isn't noted
abbrev pub state_of : Noting → ScopedState
state_of s = record {
  unit = s.unit;
  program = s.program;
  form = s.form;
  locals = s.locals;
  uses = s.uses;
  nodes = s.nodes;
  bodies = s.bodies;
  keywords = s.keywords;
  met = s.met;
  table = s.table;
  entry = s.entry;
  macros = s.macros;
  places = s.places;
  definitions = s.definitions;
}

-- the same notes with another state
abbrev pub with_state : Noting → ScopedState → Noting
with_state n s = record {
  unit = s.unit;
  program = s.program;
  form = s.form;
  locals = s.locals;
  uses = s.uses;
  nodes = s.nodes;
  bodies = s.bodies;
  keywords = s.keywords;
  met = s.met;
  table = s.table;
  entry = s.entry;
  macros = s.macros;
  places = s.places;
  definitions = s.definitions;
  since = n.since;
  exact = n.exact;
  before = n.before;
  anew = n.anew;
  noted = n.noted;
}

-- ---- what is read of the state

abbrev pub means_here : Noting → Frames → Ident → Meaning
means_here s fs i = counted.means_here (state_of s) fs i

abbrev pub next_number : Noting → Clock → Number
next_number s clock = scoped.next_number (state_of s) clock

abbrev pub bound_next : Noting → Option Number → Bound
bound_next s b = scoped.bound_next (state_of s) b

abbrev pub assigned : Noting → Option Number → Ident → Bool
assigned s b i = scoped.assigned (state_of s) b i

-- an identifier where it is used
abbrev pub target_at : Noting → Frames → Named Ident → Target
target_at s fs n = record { meaning = means_here s fs n.name; ident = n.name; occ = n.occ }

-- ---- what is noted

-- an identifier that means something here
abbrev pub look_up : Noting → Frames → Ident → List Noted
look_up s fs i = looked_up s.since i (means_here s fs i) (is_some (macro_at s.macros (means_here s fs i)))

abbrev pub in_unit : Option Number → List Noted → List Noted
in_unit None ns = ns
in_unit (Some b) ns = []

abbrev pub note_of : Known → Noting → Asked Frames Ident → List Noted
note_of known s (Meant fs i) = look_up s fs i
note_of known s (Headed fs i) = look_up s fs i
note_of known s (RulesOf m) = rules_used s.since m (option_map bare_macro (macro_at s.macros m))
note_of known s (Alike ds l fs i) = compared s.since l i (means_here s ds l) (means_here s fs i)
note_of known s (Assigns fs i) = in_unit (body_around fs) (assigned_as s.since i (assigned s None i))
note_of known s (Library l) = required l (known l)

-- the notes, with those of questions in front
abbrev pub noted_with : Known → Noting → List (Asked Frames Ident) → List Noted → List Noted
noted_with known s [] ns = ns
noted_with known s (q ∷ qs) ns = note_of known s q ++ noted_with known s qs ns

-- ---- definitions

abbrev pub refused : Option Number → Named Ident → Option (Rules Ident) → Frames → Pending Ident FramedIdent → Noting → Bool
refused b n r fs p s =
    any (λ note. speaks_of n.name note && counted.refused_here (definition_added b n r fs (state_of s)) (meaning_next (state_of s) b n.name) (is_some r) note) p.notes

abbrev pub outcome : Option Number → Named Ident → Option (Rules Ident) → Frames → Pending Ident FramedIdent → Noting → Outcome
outcome b n r fs p s = outcome_by (refused b n r fs p s) (is_defined (state_of s) b n.name)

-- the form's own notes
abbrev pub own_notes : Noting → List (Note FramedIdent) → List (Note FramedIdent)
own_notes s ns = take (length ns - s.before) ns

-- a definition in the unit is noted
abbrev pub ended : Option Number → Named Ident → Option (Rules Ident) → Frames → List (Note FramedIdent) → Outcome → Noting → Noting
ended None n r fs ns o s = record s { noted = defined_as s.since fs n r (own_notes s ns) o ++ s.noted }
ended (Some b) n r fs ns o s = s

-- and is the form's own from then on
abbrev pub owned : Option Number → Named Ident → Bool → Noting → Noting
owned None n keyword s = record s { since = defining s.since n keyword }
owned (Some b) n keyword s = s

abbrev pub define_by : Outcome → Option Number → Named Ident → Option (Rules Ident) → Frames → Pending Ident FramedIdent → Noting → Result (Renamed Ident FramedIdent) (Fault Ident) × Noting
define_by Redefines b n r fs p s = (Err (KeywordRedefined n), s)
define_by StoodBefore b n r fs p s = (Err (Duplicate n), s)
define_by Stands b n r fs p s = (Ok (unchanged p), owned b n (is_some r) (with_state s (definition_added b n r fs (state_of s))))

abbrev pub define_noting : Option Number → Named Ident → Option (Rules Ident) → Frames → Pending Ident FramedIdent → Noting → Result (Renamed Ident FramedIdent) (Fault Ident) × Noting
define_noting b n r fs p s = let o = outcome b n r fs p s in define_by o b n r fs p (ended b n r fs p.notes o s)

-- ---- the operations

abbrev pub noting : Known → Ops Frames Ident FramedIdent Noting
noting known = record {
  names = record { same = same_ident; strip = symbol_of };
  plain = λ i. i;
  insert = Inserted;
  place = λ fs i. record { frames = fs; ident = i };
  means = λ fs s i. means_here s fs i;
  transformer = λ s m. macro_at s.macros m;
  known = known;
  ask = λ qs s. record s { noted = noted_with known s qs s.noted };
  is_assigned = λ fs s i. assigned s (body_around fs) i;
  counted = λ s. record { locals = s.locals s.form; uses = s.uses s.form; nodes = s.nodes s.form; keywords = s.keywords s.form; met = s.met s.form };
  turn = λ f s. record s { form = f };
  spend = λ n s. record s { nodes = at_form s.form (λ m. m + n) s.nodes };
  meet = λ t s. record s { keywords = at_form s.form (λ ts. t ∷ ts) s.keywords };
  meet_use = λ u s. record s { met = at_form s.form (λ us. u ∷ us) s.met };
  next_use = λ s. next_number s s.uses;
  begin_use = λ fs s. record s { uses = at_form s.form suc s.uses; places = record { use_number = next_number s s.uses; frames = fs } ∷ s.places };
  next_local = λ s. next_number s s.locals;
  take_local = λ s. record s { locals = at_form s.form suc s.locals };
  next_bound = λ fs s. bound_next s (body_around fs);
  bind = λ x fs ts s. record { env = Bind x (next_number s s.locals) ∷ fs; trees = ts; state = record s { locals = at_form s.form suc s.locals } };
  keep = λ v r fs s. record s { macros = record { meaning = Local v; frames = fs; rules = r } ∷ s.macros };
  enter = λ fs ts s. record { env = Enter (next_number s s.bodies) s.uses ∷ fs; trees = ts; state = record s { bodies = at_form s.form suc s.bodies } };
  define = λ n r fs p s. define_noting (body_around fs) n r fs p s;
}

-- ---- where a part of a form begins

abbrev pub is_nothing : List Noted → Bool
is_nothing [] = true
is_nothing (n ∷ ns) = false

-- behind these notes
abbrev pub going : (exact : Bool) → (before : ℕ) → Since → List Noted → ScopedState → Noting
going exact before since noted s = record {
  unit = s.unit;
  program = s.program;
  form = s.form;
  locals = s.locals;
  uses = s.uses;
  nodes = s.nodes;
  bodies = s.bodies;
  keywords = s.keywords;
  met = s.met;
  table = s.table;
  entry = s.entry;
  macros = s.macros;
  places = s.places;
  definitions = s.definitions;
  since = since;
  exact = exact;
  before = before;
  anew = is_nothing noted;
  noted = noted;
}

-- behind none
abbrev pub begun : ℕ → Since → ScopedState → Noting
begun before since s = going true before since [] s
