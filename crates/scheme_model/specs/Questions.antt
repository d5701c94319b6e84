-- What the expansion of a form asks of what is around it, each question at its moment: what the form itself has made and found by
-- then. A form's first part, in which it is gone through, sees the definitions that stand by then; its second, in which what it set
-- aside is expanded, sees all of them. What the form answers itself it doesn't ask.
use Rattle.std.specs.Prelude.{◌≡◌, ℕ, suc, ◌+◌, List, [], ◌∷◌, ◌++◌, map, Bool, Option, Some, None, Result, Ok, Err, if◌then◌else◌}
use Rattle.scheme_model.specs.Identifiers.{Number}
use Rattle.scheme_model.specs.Ident.{Ident, Inserted, same_ident, symbol_of}
use Rattle.scheme_model.specs.ExpansionFaults.{Named, Fault, KeywordRedefined, Duplicate}
use Rattle.scheme_model.specs.Meaning.{Meaning, Local, Global, Standard, Free, same_meaning}
use Rattle.scheme_model.specs.Requirements.{Known, LibraryName}
use Rattle.scheme_model.specs.RulesShape.{Rules, option_map}
use Rattle.scheme_model.specs.Cores.{Target, MacroUse, Bound, LocalNumber, Definition}
use Rattle.scheme_model.specs.Order.{Note, Pending, Renamed, Transformer, Asked, Meant, Headed, RulesOf, Alike, Assigns, Library, Ops, is_some}
use Rattle.scheme_model.specs.Substitution.{Table, definition_count, any, unchanged}
use Rattle.scheme_model.specs.ScopedExpansion.{Bind, Enter, Frames, BodyDefinitions, UsePlace, FramedIdent, ScopedMacro, ScopedState, find, macro_at, macro_added, body_around, assigned, is_defined}
use Rattle.scheme_model.specs.OwnAnswers.{Own, own_local, root_means, own_means, own_macro, unit_refused, body_refused}

-- what a form has counted and met, and what it has made and found, by a moment
pub record Moment : Type 0 where
  pub locals : ℕ
  pub uses : ℕ
  pub nodes : ℕ
  pub bodies : ℕ
  pub keywords : List Target
  pub met : List MacroUse
  pub table : Table
  pub macros : List ScopedMacro
  pub places : List UsePlace
  pub definitions : BodyDefinitions

-- what is around a form: the state that was left to it, which libraries there are, and the notes of the unit's forms before it
pub record Around : Type 0 where
  pub state : ScopedState
  pub known : Known
  pub notes : List (Note FramedIdent)

-- the form's state at a moment
abbrev pub at_moment : Around → Moment → ScopedState
at_moment w n = record w.state {
  locals = λ f. n.locals;
  uses = λ f. n.uses;
  nodes = λ f. n.nodes;
  bodies = λ f. n.bodies;
  keywords = λ f. n.keywords;
  met = λ f. n.met;
  table = n.table ++ w.state.table;
  macros = n.macros ++ w.state.macros;
  places = n.places ++ w.state.places;
  definitions = n.definitions ++ w.state.definitions;
}

abbrev pub own_at : Moment → Own
own_at n = record { table = n.table; macros = n.macros; places = n.places; definitions = n.definitions }

abbrev pub number_in : Around → ℕ → Number
number_in w n = record { unit = w.state.unit; form = w.state.form; count = n }

-- ---- how a definition ends

pub data Outcome : Type 0 where
  Stands : Outcome
  Redefines : Outcome
  StoodBefore : Outcome

-- the moment after a definition, in the unit or in a body
abbrev pub found : Around → Option Number → Named Ident → Option (Rules Ident) → Frames → Moment → Moment
found w None x r fs n = record n {
  table = record { unit = w.state.unit; form = w.state.form; ident = x.name; keyword = is_some r; occ = x.occ } ∷ n.table;
  macros = macro_added (Global w.state.unit x.name) fs r n.macros;
}
found w (Some b) x r fs n = record n {
  locals = suc n.locals;
  definitions = record { body = b; ident = x.name; binder = number_in w n.locals } ∷ n.definitions;
  macros = macro_added (Local (number_in w n.locals)) fs r n.macros;
}

abbrev pub outcome_by : (refused stood : Bool) → Outcome
outcome_by refused stood = if refused then Redefines else if stood then StoodBefore else Stands

-- in the unit, where the notes of the forms before it count too
abbrev pub unit_outcome : Around → Moment → Frames → Named Ident → Option (Rules Ident) → List (Note FramedIdent) → Outcome
unit_outcome w n fs x r ns =
    let m = found w None x r fs n in
    outcome_by (any (unit_refused (own_at m) (at_moment w m) (Global w.state.unit x.name) (is_some r)) (ns ++ w.notes)) (is_defined (at_moment w n) None x.name)

-- in a body of the form, which answers that itself
abbrev pub body_outcome : Around → Moment → Number → Frames → Named Ident → Option (Rules Ident) → List (Note FramedIdent) → Outcome
body_outcome w n b fs x r ns =
    let m = found w (Some b) x r fs n in
    outcome_by (any (body_refused (own_at m) (Local (number_in w n.locals)) (is_some r)) ns) (is_some (find n.definitions b x.name))

abbrev pub outcome : Around → Moment → Option Number → Frames → Named Ident → Option (Rules Ident) → List (Note FramedIdent) → Outcome
outcome w n None fs x r ns = unit_outcome w n fs x r ns
outcome w n (Some b) fs x r ns = body_outcome w n b fs x r ns

-- ---- questions

-- what an identifier means at the root of the unit, and whether that is a keyword; the rules of a macro that isn't local; whether two
-- identifiers mean the same at the root; whether a definition in the unit is an assignment; whether there is a library; how a
-- definition in the unit ends, in view of the notes of its form
pub data Question : Type 0 where
  LooksUp : Ident → Question
  UsesRules : Meaning → Question
  Compares : Ident → Ident → Question
  IsAssigned : Ident → Question
  Requires : LibraryName → Question
  Defines : Frames → Named Ident → Option (Rules Ident) → List (Note FramedIdent) → Question

pub data Answer : Type 0 where
  Means : Meaning → (keyword : Bool) → Answer
  Expands : Option (Transformer Frames Ident) → Answer
  Says : Bool → Answer
  Ends : Outcome → Answer

-- frames without the times at which bodies were entered, which no look-up reads
abbrev pub bare : Frames → Frames
bare [] = []
bare (Bind x v ∷ fs) = Bind x v ∷ bare fs
bare (Enter b u ∷ fs) = Enter b (λ f. 0) ∷ bare fs

abbrev pub bare_macro : Transformer Frames Ident → Transformer Frames Ident
bare_macro m = record { env = bare m.env; rules = m.rules }

abbrev pub answer : Around → Moment → Question → Answer
answer w n (LooksUp i) = let s = at_moment w n in Means (root_means s i) (is_some (macro_at s.macros (root_means s i)))
answer w n (UsesRules m) = Expands (option_map bare_macro (macro_at (at_moment w n).macros m))
answer w n (Compares l i) = let s = at_moment w n in Says (same_meaning (root_means s l) (root_means s i))
answer w n (IsAssigned i) = Says (assigned (at_moment w n) None i)
answer w n (Requires l) = Says (w.known l)
answer w n (Defines fs x r ns) = Ends (unit_outcome w n fs x r ns)

-- a question has the same answer in both
abbrev pub SameAnswer : Around → Around → Moment × Question → Type 0
SameAnswer w v q = answer v q.0 q.1 ≡ answer w q.0 q.1

-- ---- what is left to ask

abbrev pub unless_own : Option Number → List Question → List Question
unless_own None qs = qs
unless_own (Some v) qs = []

abbrev pub unless_local : Meaning → List Question
unless_local (Local k) = []
unless_local (Global u i) = UsesRules (Global u i) ∷ []
unless_local (Standard x) = UsesRules (Standard x) ∷ []
unless_local (Free x) = UsesRules (Free x) ∷ []

abbrev pub in_unit : Option Number → Question → List Question
in_unit None q = q ∷ []
in_unit (Some b) q = []

-- where the form doesn't answer it itself
abbrev pub left_to_ask : Moment → Asked Frames Ident → List Question
left_to_ask n (Meant fs i) = unless_own (own_local (own_at n) fs i) (LooksUp i ∷ [])
left_to_ask n (Headed fs i) = unless_own (own_local (own_at n) fs i) (LooksUp i ∷ [])
left_to_ask n (RulesOf m) = unless_local m
left_to_ask n (Alike ds l fs i) = unless_own (own_local (own_at n) ds l) (unless_own (own_local (own_at n) fs i) (Compares l i ∷ []))
left_to_ask n (Assigns fs i) = in_unit (body_around fs) (IsAssigned i)
left_to_ask n (Library l) = Requires l ∷ []

abbrev pub dated : Moment → List Question → List (Moment × Question)
dated n qs = map (λ q. (n, q)) qs

abbrev pub all_left : Moment → List (Asked Frames Ident) → List (Moment × Question)
all_left n [] = []
all_left n (q ∷ qs) = dated n (left_to_ask n q) ++ all_left n qs

-- ---- the form, with what it asks

-- a moment, and the questions by then, latest first
pub record Asking : Type 0 where
  pub moment : Moment
  pub asked : List (Moment × Question)

abbrev pub bound_at : Around → Moment → Option Number → Bound
bound_at w n None = Definition w.state.unit (definition_count (n.table ++ w.state.table) w.state.unit)
bound_at w n (Some b) = LocalNumber (number_in w n.locals)

abbrev pub ended : Outcome → Around → Option Number → Named Ident → Option (Rules Ident) → Frames → Pending Ident FramedIdent → Moment → Result (Renamed Ident FramedIdent) (Fault Ident) × Moment
ended Redefines w b x r fs p n = (Err (KeywordRedefined x), n)
ended StoodBefore w b x r fs p n = (Err (Duplicate x), n)
ended Stands w b x r fs p n = (Ok (unchanged p), found w b x r fs n)

abbrev pub beside : {X : Type 0} → List (Moment × Question) → X × Moment → X × Asking
beside qs q = (q.0, record { moment = q.1; asked = qs })

abbrev pub moved : Moment → Asking → Asking
moved n s = record { moment = n; asked = s.asked }

-- expansion by what the form answers itself and what it asks, with its questions
abbrev pub asking : Around → Ops Frames Ident FramedIdent Asking
asking w = record {
  names = record { same = same_ident; strip = symbol_of };
  plain = λ i. i;
  insert = Inserted;
  place = λ fs i. record { frames = fs; ident = i };
  means = λ fs s i. own_means (own_at s.moment) (at_moment w s.moment) fs i;
  transformer = λ s m. own_macro (own_at s.moment) (at_moment w s.moment) m;
  known = w.known;
  ask = λ qs s. record { moment = s.moment; asked = all_left s.moment qs ++ s.asked };
  is_assigned = λ fs s i. assigned (at_moment w s.moment) (body_around fs) i;
  counted = λ s. record { locals = s.moment.locals; uses = s.moment.uses; nodes = s.moment.nodes; keywords = s.moment.keywords; met = s.moment.met };
  turn = λ f s. s;
  spend = λ n s. moved (record s.moment { nodes = s.moment.nodes + n }) s;
  meet = λ t s. moved (record s.moment { keywords = t ∷ s.moment.keywords }) s;
  meet_use = λ u s. moved (record s.moment { met = u ∷ s.moment.met }) s;
  next_use = λ s. number_in w s.moment.uses;
  begin_use = λ fs s. moved (record s.moment { uses = suc s.moment.uses; places = record { use_number = number_in w s.moment.uses; frames = fs } ∷ s.moment.places }) s;
  next_local = λ s. number_in w s.moment.locals;
  take_local = λ s. moved (record s.moment { locals = suc s.moment.locals }) s;
  next_bound = λ fs s. bound_at w s.moment (body_around fs);
  bind = λ x fs ts s. record { env = Bind x (number_in w s.moment.locals) ∷ fs; trees = ts; state = moved (record s.moment { locals = suc s.moment.locals }) s };
  keep = λ v r fs s. moved (record s.moment { macros = record { meaning = Local v; frames = fs; rules = r } ∷ s.moment.macros }) s;
  enter = λ fs ts s. record { env = Enter (number_in w s.moment.bodies) (λ f. 0) ∷ fs; trees = ts; state = moved (record s.moment { bodies = suc s.moment.bodies }) s };
  define = λ x r fs p s.
      let b = body_around fs in
      beside (dated s.moment (in_unit b (Defines fs x r p.notes)) ++ s.asked) (ended (outcome w s.moment b fs x r p.notes) w b x r fs p s.moment);
}
