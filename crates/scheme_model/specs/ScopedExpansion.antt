-- Expansion by scopes: nothing is substituted. An identifier is looked up through the frames around its place, from the
-- innermost on, and a body's definitions stand in one list. A unit's own definitions stand in a table, as ever. A local is told by
-- its whole number; `CountedExpansion` tells it by its count alone.
use Rattle.std.specs.Prelude.{ℕ, suc, ◌+◌, List, [], ◌∷◌, Bool, false, ◌&&◌, Option, Some, None, Result, Ok, Err, if◌then◌else◌}
use Rattle.scheme_model.specs.Identifiers.{Number, same_number}
use Rattle.scheme_model.specs.Ident.{Ident, Written, Inserted, same_ident, symbol_of}
use Rattle.scheme_model.specs.ExpansionFaults.{Named, Fault, KeywordRedefined, Duplicate}
use Rattle.scheme_model.specs.Meaning.{Meaning, Local, Global, Free, same_meaning}
use Rattle.scheme_model.specs.Requirements.{Known}
use Rattle.scheme_model.specs.RulesShape.{Rules}
use Rattle.scheme_model.specs.Cores.{Target, Bound, LocalNumber, Definition, MacroUse}
use Rattle.scheme_model.specs.Order.{Note, Pending, Renamed, Transformer, Ops, is_some}
use Rattle.scheme_model.specs.Substitution.{Table, Entries, Clock, at_form, defined_in, definition_count, is_variable, any, is_refused, unchanged}
use Rattle.scheme_model.specs.Scopes.{own_of, given_or}

-- a binder with its number; or a body, with how many macro uses each form had begun when it was entered
pub data Frame : Type 0 where
  Bind : Ident → (binder : Number) → Frame
  Enter : (body : Number) → (uses : Clock) → Frame

-- the frames around a place, the innermost first
abbrev pub Frames : Type 0
Frames = List Frame

-- a definition in a body: its identifier and its number
pub record BodyDefinition : Type 0 where
  pub body : Number
  pub ident : Ident
  pub binder : Number

-- those of all bodies, latest first
abbrev pub BodyDefinitions : Type 0
BodyDefinitions = List BodyDefinition

-- a macro use, and the frames around its macro
pub record UsePlace : Type 0 where
  pub use_number : Number
  pub frames : Frames

-- an identifier where it is looked up
pub record FramedIdent : Type 0 where
  pub frames : Frames
  pub ident : Ident

-- a macro by what it is, where it was defined, and its rules
pub record ScopedMacro : Type 0 where
  pub meaning : Meaning
  pub frames : Frames
  pub rules : Rules Ident

pub record ScopedState : Type 0 where
  pub unit : ℕ
  -- a program, in which a variable may be defined again
  pub program : Bool
  pub form : ℕ
  pub locals : Clock
  pub uses : Clock
  pub nodes : Clock
  pub bodies : Clock
  pub keywords : ℕ → List Target
  pub met : ℕ → List MacroUse
  pub table : Table
  pub entry : Entries
  pub macros : List ScopedMacro
  pub places : List UsePlace
  pub definitions : BodyDefinitions

abbrev pub next_number : ScopedState → Clock → Number
next_number s clock = record { unit = s.unit; form = s.form; count = clock s.form }

-- ---- meanings (R7RS 4.3)

-- what is around the macro of a use: nothing, where it is a unit's
abbrev pub around : List UsePlace → Number → Frames
around [] k = []
around (p ∷ ps) k = if same_number p.use_number k then p.frames else around ps k

-- a body's definition of an identifier: its number, and the definitions before it
abbrev pub find : BodyDefinitions → Number → Ident → Option (Number × BodyDefinitions)
find [] b i = None
find (d ∷ ds) b i = if same_number d.body b && same_ident d.ident i then Some (d.binder, ds) else find ds b i

abbrev pub defined_as : Option (Number × BodyDefinitions) → Meaning → Meaning
defined_as None other = other
defined_as (Some d) other = Local d.0

-- what an identifier means inside these frames, where this is what it means outside them
abbrev pub means_inside : BodyDefinitions → Frames → Ident → Meaning → Meaning
means_inside ds [] i outer = outer
means_inside ds (Bind x v ∷ fs) i outer = if same_ident x i then Local v else means_inside ds fs i outer
means_inside ds (Enter b u ∷ fs) i outer = defined_as (find ds b i) (means_inside ds fs i outer)

-- what its unit gives under exactly this identifier; else a written symbol is free, and what a use inserted means what it means
-- where the macro was defined
abbrev pub means_outside : Table → Entries → List UsePlace → BodyDefinitions → Ident → Meaning
means_outside table entry ps ds (Written u s) = given_or (own_of table entry u (Written u s)) (Free s)
means_outside table entry ps ds (Inserted i k) =
    given_or (own_of table entry k.unit (Inserted i k)) (means_inside ds (around ps k) i (means_outside table entry ps ds i))

abbrev pub means_at : ScopedState → Frames → Ident → Meaning
means_at s fs i = means_inside s.definitions fs i (means_outside s.table s.entry s.places s.definitions i)

abbrev pub macro_at : List ScopedMacro → Meaning → Option (Transformer Frames Ident)
macro_at [] m = None
macro_at (k ∷ ks) m = if same_meaning k.meaning m then Some (record { env = k.frames; rules = k.rules }) else macro_at ks m

abbrev pub macro_added : Meaning → Frames → Option (Rules Ident) → List ScopedMacro → List ScopedMacro
macro_added m fs None ks = ks
macro_added m fs (Some r) ks = record { meaning = m; frames = fs; rules = r } ∷ ks

-- ---- definitions

-- the innermost body around a place; a unit itself is none
abbrev pub body_around : Frames → Option Number
body_around [] = None
body_around (Bind x v ∷ fs) = body_around fs
body_around (Enter b u ∷ fs) = Some b

-- what the next definition binds
abbrev pub bound_next : ScopedState → Option Number → Bound
bound_next s None = Definition s.unit (definition_count s.table s.unit)
bound_next s (Some b) = LocalNumber (next_number s s.locals)

-- a unit's variable in a program, where a later definition is an assignment
abbrev pub assigned : ScopedState → Option Number → Ident → Bool
assigned s None i = s.program && is_variable (defined_in s.table s.unit i)
assigned s (Some b) i = false

-- a definition in a unit, or in a body
abbrev pub definition_added : Option Number → Named Ident → Option (Rules Ident) → Frames → ScopedState → ScopedState
definition_added None n r fs s = record s {
  table = record { unit = s.unit; form = s.form; ident = n.name; keyword = is_some r; occ = n.occ } ∷ s.table;
  macros = macro_added (Global s.unit n.name) fs r s.macros;
}
definition_added (Some b) n r fs s = record s {
  locals = at_form s.form suc s.locals;
  definitions = record { body = b; ident = n.name; binder = next_number s s.locals } ∷ s.definitions;
  macros = macro_added (Local (next_number s s.locals)) fs r s.macros;
}

-- what a definition makes its identifier mean
abbrev pub meaning_next : ScopedState → Option Number → Ident → Meaning
meaning_next s None i = Global s.unit i
meaning_next s (Some b) i = Local (next_number s s.locals)

-- the unit or the body has a definition of it
abbrev pub is_defined : ScopedState → Option Number → Ident → Bool
is_defined s None i = is_some (defined_in s.table s.unit i)
is_defined s (Some b) i = is_some (find s.definitions b i)

-- a note asked the identifier where it now means this, once it is defined
abbrev pub refused_now : ScopedState → Meaning → Bool → Note FramedIdent → Bool
refused_now s m new note = is_refused new (λ p. same_meaning (means_at s p.frames p.ident) m) (λ p. means_at s p.frames p.ident) note

abbrev pub define_at : Option Number → Named Ident → Option (Rules Ident) → Frames → Pending Ident FramedIdent → ScopedState → Result (Renamed Ident FramedIdent) (Fault Ident) × ScopedState
define_at b n r fs p s =
    if any (refused_now (definition_added b n r fs s) (meaning_next s b n.name) (is_some r)) p.notes then (Err (KeywordRedefined n), s)
    else if is_defined s b n.name then (Err (Duplicate n), s)
    else (Ok (unchanged p), definition_added b n r fs s)

-- ---- the operations

abbrev pub scoped : Known → Ops Frames Ident FramedIdent ScopedState
scoped known = record {
  names = record { same = same_ident; strip = symbol_of };
  plain = λ i. i;
  insert = Inserted;
  place = λ fs i. record { frames = fs; ident = i };
  means = λ fs s i. means_at s fs i;
  transformer = λ s m. macro_at s.macros m;
  known = known;
  ask = λ qs s. s;
  is_assigned = λ fs s i. assigned s (body_around fs) i;
  counted = λ s. record { locals = s.locals s.form; uses = s.uses s.form; nodes = s.nodes s.form; keywords = s.keywords s.form; met = s.met s.form };
  turn = λ f s. record s { form = f };
  spend = λ n s. record s { nodes = at_form s.form (λ m. m + n) s.nodes };
  meet = λ t s. record s { keywords = at_form s.form (λ ts. t ∷ ts) s.keywords };
  meet_use = λ u s. record s { met = at_form s.form (λ us. u ∷ us) s.met };
  next_use = λ s. next_number s s.uses;
  begin_use = λ fs s. record s { uses = at_form s.form suc s.uses; places = record { use_number = next_number s s.uses; frames = fs } ∷ s.places };
  next_local = λ s. next_number s s.locals;
  take_local = λ s. record s { locals = at_form s.form suc s.locals };
  next_bound = λ fs s. bound_next s (body_around fs);
  bind = λ x fs ts s. record { env = Bind x (next_number s s.locals) ∷ fs; trees = ts; state = record s { locals = at_form s.form suc s.locals } };
  keep = λ v r fs s. record s { macros = record { meaning = Local v; frames = fs; rules = r } ∷ s.macros };
  enter = λ fs ts s. record { env = Enter (next_number s s.bodies) s.uses ∷ fs; trees = ts; state = record s { bodies = at_form s.form suc s.bodies } };
  define = λ n r fs p s. define_at (body_around fs) n r fs p s;
}
