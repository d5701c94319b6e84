-- What a form of a unit comes to, and what it asks: it is gone through, and later what it set aside is expanded. Two forms come to the
-- same but for the numbers of the unit's definitions.
use Rattle.std.specs.Prelude.{◌≡◌, ℕ, ◌+◌, ◌-◌, List, [], ◌++◌, map, Result, Ok, Err}
use Rattle.scheme_model.specs.Ident.{Ident}
use Rattle.scheme_model.specs.Trees.{Tree}
use Rattle.scheme_model.specs.Cores.{Bound, LocalNumber, Definition, Binder, Binders, RecordType, MacroDef, Parts, no_parts, part, Part, Expression as expression_part, Define as define_part, Values as values_part, Fields as fields_part, Syntax as syntax_part}
use Rattle.scheme_model.specs.Steps.{Broken}
use Rattle.scheme_model.specs.Order.{Item, Expression, Value, Function, Assigned, AssignedFunction, ValuesOf, Record, Macro, Note, Left, Pass, Ops, meet_all, run}
use Rattle.scheme_model.specs.Expression.{expand, item_part, parts}
use Rattle.scheme_model.specs.UnitExpansion.{max_depth, one_form}
use Rattle.scheme_model.specs.Substitution.{at_form, definition_count, note_map}
use Rattle.scheme_model.specs.ScopedExpansion.{UsePlace, FramedIdent, ScopedMacro, ScopedState}
use Rattle.scheme_model.specs.CountedExpansion.{counted}
use Rattle.scheme_model.specs.Questions.{Moment, Around, Question, bare, Asking, asking}

-- ---- with other numbers of definitions

-- the number of a definition of the unit, where so many stand before it, and there so many
abbrev pub bound_moved : (from to : ℕ) → Bound → Bound
bound_moved from to (LocalNumber k) = LocalNumber k
bound_moved from to (Definition u n) = Definition u (n + to - from)

abbrev pub binder_with : (Bound → Bound) → Binder → Binder
binder_with f b = record { bound = f b.bound; ident = b.ident; occ = b.occ }

abbrev pub binders_with : (Bound → Bound) → Binders → Binders
binders_with f bs = record { names = map (binder_with f) bs.names; rest = bs.rest }

abbrev pub record_with : (Bound → Bound) → RecordType → RecordType
record_with f r = record { binders = map (binder_with f) r.binders; fields = r.fields; modified = r.modified; used = r.used }

abbrev pub macro_with : (Bound → Bound) → MacroDef → MacroDef
macro_with f m = record { binder = binder_with f m.binder; rules = m.rules; leaves = m.leaves }

abbrev pub item_with : {A : Type 0} → (Bound → Bound) → Item A → Item A
item_with f (Expression x) = Expression x
item_with f (Value b x) = Value (binder_with f b) x
item_with f (Function b here c) = Function (binder_with f b) here c
item_with f (Assigned n x) = Assigned n x
item_with f (AssignedFunction n here c) = AssignedFunction n here c
item_with f (ValuesOf bs x) = ValuesOf (binders_with f bs) x
item_with f (Record r) = Record (record_with f r)
item_with f (Macro b here) = Macro (binder_with f b) here

abbrev pub left_with : {A : Type 0} → (Bound → Bound) → Left A → Left A
left_with f l = record { uses = l.uses; items = map (item_with f) l.items }

-- inside the cores all binders are locals
abbrev pub part_with : (Bound → Bound) → Part → Part
part_with f (expression_part c) = expression_part c
part_with f (define_part b c) = define_part (binder_with f b) c
part_with f (values_part bs c) = values_part (binders_with f bs) c
part_with f (fields_part r) = fields_part (record_with f r)
part_with f (syntax_part m) = syntax_part (macro_with f m)

abbrev pub parts_with : (Bound → Bound) → Parts → Parts
parts_with f no_parts = no_parts
parts_with f (part p ps) = part (part_with f p) (parts_with f ps)

abbrev pub or_fault : {X Y : Type 0} → (X → Y) → Result X Broken → Result Y Broken
or_fault f (Ok x) = Ok (f x)
or_fault f (Err e) = Err e

-- the numbers of a unit's definitions there, by how many it has before the form
abbrev pub moved_by : Around → Around → Bound → Bound
moved_by w v = bound_moved (definition_count w.state.table w.state.unit) (definition_count v.state.table v.state.unit)

-- ---- a form

-- it is gone through, at work in the state that was left to it
abbrev pub set_aside : Around → ℕ → Tree Ident → Pass Ident FramedIdent × ScopedState
set_aside w turns t = run (counted w.known) turns [] (one_form t w.notes) w.state

-- its macro uses are met, and what it set aside is expanded, or it is broken
abbrev pub finish_by : {E A L S : Type 0} → Ops E A L S → ℕ → E → Result (Left A) Broken → S → Result Parts Broken × S
finish_by ops turns e (Ok l) s = parts (item_part (expand ops turns) ops max_depth e) l.items (meet_all ops e l.uses s)
finish_by ops turns e (Err b) s = (Err b, s)

abbrev pub finish : Around → ℕ → Result (Left Ident) Broken → Result Parts Broken × ScopedState
finish w turns r = finish_by (counted w.known) turns [] r w.state

-- ---- its questions

-- what the form has counted and met, before it makes or finds anything
abbrev pub start : ScopedState → Moment
start s = record {
  locals = s.locals s.form;
  uses = s.uses s.form;
  nodes = s.nodes s.form;
  bodies = s.bodies s.form;
  keywords = s.keywords s.form;
  met = s.met s.form;
  table = [];
  macros = [];
  places = [];
  definitions = [];
}

abbrev pub no_questions : Around → Asking
no_questions w = record { moment = start w.state; asked = [] }

abbrev pub set_aside_asking : Around → ℕ → Tree Ident → Pass Ident FramedIdent × Asking
set_aside_asking w turns t = run (asking w) turns [] (one_form t []) (no_questions w)

abbrev pub finish_asking : Around → ℕ → Result (Left Ident) Broken → Result Parts Broken × Asking
finish_asking w turns r = finish_by (asking w) turns [] r (no_questions w)

-- latest first
abbrev pub questions_of_pass : Around → ℕ → Tree Ident → List (Moment × Question)
questions_of_pass w turns t = (set_aside_asking w turns t).1.asked

abbrev pub questions_of_left : Around → ℕ → Result (Left Ident) Broken → List (Moment × Question)
questions_of_left w turns r = (finish_asking w turns r).1.asked

-- ---- what it leaves

-- what a form has counted, met, made and found, put into surroundings
abbrev pub again : Around → Moment → ScopedState
again v n = record v.state {
  locals = at_form v.state.form (λ m. n.locals) v.state.locals;
  uses = at_form v.state.form (λ m. n.uses) v.state.uses;
  nodes = at_form v.state.form (λ m. n.nodes) v.state.nodes;
  bodies = at_form v.state.form (λ m. n.bodies) v.state.bodies;
  keywords = at_form v.state.form (λ ts. n.keywords) v.state.keywords;
  met = at_form v.state.form (λ us. n.met) v.state.met;
  table = n.table ++ v.state.table;
  macros = n.macros ++ v.state.macros;
  places = n.places ++ v.state.places;
  definitions = n.definitions ++ v.state.definitions;
}

-- without the times at which bodies were entered
abbrev pub bare_place : UsePlace → UsePlace
bare_place p = record { use_number = p.use_number; frames = bare p.frames }

abbrev pub bare_kept : ScopedMacro → ScopedMacro
bare_kept k = record { meaning = k.meaning; frames = bare k.frames; rules = k.rules }

abbrev pub bare_ident : FramedIdent → FramedIdent
bare_ident p = record { frames = bare p.frames; ident = p.ident }

abbrev pub bare_note : Note FramedIdent → Note FramedIdent
bare_note n = note_map bare_ident n

abbrev pub bare_state : ScopedState → ScopedState
bare_state s = record s { macros = map bare_kept s.macros; places = map bare_place s.places }

-- a form went to this moment in these surroundings
abbrev pub Leaves : Around → Moment → ScopedState → Type 0
Leaves v n s = bare_state s ≡ bare_state (again v n)

-- what was set aside in these surroundings, by what was with questions; this is left of it
pub record IsSetAside (v : Around) (p : Pass Ident FramedIdent × Asking) (left : Result (Left Ident) Broken) (q : Pass Ident FramedIdent × ScopedState) : Type 0 where
  pub rest : q.0.left ≡ left
  pub notes : map bare_note q.0.notes ≡ map bare_note (p.0.notes ++ v.notes)
  pub state : Leaves v p.1.moment q.1

-- and what that is expanded to; these are its parts
pub record IsFinished (v : Around) (p : Result Parts Broken × Asking) (ps : Result Parts Broken) (q : Result Parts Broken × ScopedState) : Type 0 where
  pub result : q.0 ≡ ps
  pub state : Leaves v p.1.moment q.1

-- ---- two surroundings

-- one moment, to which the form went in both: what it has counted, met, made and found is the same
pub record SameMoment (w v : Around) (s t : ScopedState) : Type 0 where
  pub moment : Moment
  pub here : Leaves w moment s
  pub there : Leaves v moment t

-- in both the same is set aside and noted
pub record SameAside (w v : Around) (p q : Pass Ident FramedIdent × ScopedState) : Type 0 where
  pub rest : q.0.left ≡ or_fault (left_with (moved_by w v)) p.0.left
  pub notes : (ns : List (Note FramedIdent)) × (map bare_note p.0.notes ≡ map bare_note (ns ++ w.notes)) × (map bare_note q.0.notes ≡ map bare_note (ns ++ v.notes))
  pub states : SameMoment w v p.1 q.1

-- and it is expanded to the same
pub record SameFinish (w v : Around) (f : Bound → Bound) (p q : Result Parts Broken × ScopedState) : Type 0 where
  pub result : q.0 ≡ or_fault (parts_with f) p.0
  pub states : SameMoment w v p.1 q.1
