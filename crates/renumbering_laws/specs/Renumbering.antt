-- Renumberings: other numbers for units, for the forms of each unit and for its definitions, and what becomes of all that a form
-- is and comes to.
use Rattle.std.specs.Prelude.{◌≡◌, ℕ, ◌==◌, map, Option, Some, None, Result, Ok, Err}
use Rattle.scheme_model.specs.declared.Occ.{Occ}
use Rattle.scheme_model.specs.Identifiers.{Number, Name, Written as WrittenName, Inserted as InsertedName, Inner, Var}
use Rattle.scheme_model.specs.Ident.{Ident, Written, Inserted}
use Rattle.scheme_model.specs.Meaning.{Meaning, Local, Global, Standard, Free}
use Rattle.scheme_model.specs.Trees.{Tree}
use Rattle.scheme_model.specs.Cores.{Target, Bound, LocalNumber, Definition, Binder, Binders, RuleLeaf, MacroDef, FieldUse, RecordType, Core, Ref, Const, Quote, Quasi, Lambda, CaseLambda, If, Set, Call, Body, LetSyntax, Cores, no_cores, core, Clauses, no_clauses, clause, Parts, no_parts, part, Part, Expression as expression_part, Define as define_part, Values as values_part, Fields as fields_part, Syntax as syntax_part, MacroUse}
use Rattle.scheme_model.specs.Steps.{Broken}
use Rattle.scheme_model.specs.Order.{Form, Item, Expression, Value, Function, Assigned, AssignedFunction, ValuesOf, Record, Macro, WaitingUse, Left, Pending, Pass, Counted}
use Rattle.scheme_model.specs.Substitution.{note_map}
use Rattle.scheme_model.specs.UnitExpansion.{Formed, LeftOf}
use Rattle.renumbering_laws.specs.Moving.{Change, move_tree, move_named, move_fault, move_rules, move_clause}

-- other numbers: of a unit, of a form of a unit, and of a definition of a unit
pub record Renumbering : Type 0 where
  pub unit : ℕ → ℕ
  pub form : (unit form : ℕ) → ℕ
  pub definition : (unit count : ℕ) → ℕ

-- units differ after it as before, and so do the forms of each; nothing is asked of definitions
pub record IsOneToOne (r : Renumbering) : Type 0 where
  pub units : (u v : ℕ) → (r.unit u == r.unit v) ≡ (u == v)
  pub forms : (u f g : ℕ) → (r.form u f == r.form u g) ≡ (f == g)

-- ---- numbers, places and identifiers

abbrev pub number : Renumbering → Number → Number
number r k = record { unit = r.unit k.unit; form = r.form k.unit k.form; count = k.count }

abbrev pub occ_at : Renumbering → Occ → Occ
occ_at r o = record { unit = r.unit o.unit; form = r.form o.unit o.form; token = o.token }

abbrev pub place : Renumbering → Option Occ → Option Occ
place r None = None
place r (Some o) = Some (occ_at r o)

abbrev pub ident : Renumbering → Ident → Ident
ident r (Written u s) = Written (r.unit u) s
ident r (Inserted i k) = Inserted (ident r i) (number r k)

abbrev pub named_as : Renumbering → Name → Name
named_as r (WrittenName u s) = WrittenName (r.unit u) s
named_as r (InsertedName i k) = InsertedName (named_as r i) (number r k)
named_as r (Inner b i) = Inner (number r b) (named_as r i)
named_as r (Var v i) = Var (number r v) (named_as r i)

abbrev pub meaning : Renumbering → Meaning → Meaning
meaning r (Local v) = Local (number r v)
meaning r (Global u i) = Global (r.unit u) (ident r i)
meaning r (Standard s) = Standard s
meaning r (Free s) = Free s

-- identifiers and their places; places alone; and identifiers of a side, with their places
abbrev pub change : Renumbering → Change Ident Ident
change r = record { on = ident r; at = place r }

abbrev pub with_places : {A B : Type 0} → Renumbering → (A → B) → Change A B
with_places r f = record { on = f; at = place r }

abbrev pub places_of : {A : Type 0} → Renumbering → Change A A
places_of r = record { on = λ a. a; at = place r }

-- ---- cores

abbrev pub target : Renumbering → Target → Target
target r t = record { meaning = meaning r t.meaning; ident = ident r t.ident; occ = place r t.occ }

abbrev pub bound : Renumbering → Bound → Bound
bound r (LocalNumber v) = LocalNumber (number r v)
bound r (Definition u n) = Definition (r.unit u) (r.definition u n)

abbrev pub binder : Renumbering → Binder → Binder
binder r b = record { bound = bound r b.bound; ident = ident r b.ident; occ = place r b.occ }

abbrev pub binders : Renumbering → Binders → Binders
binders r bs = record { names = map (binder r) bs.names; rest = bs.rest }

abbrev pub rule_leaf : Renumbering → RuleLeaf → RuleLeaf
rule_leaf r l = record { target = target r l.target; literal = l.literal }

abbrev pub macro_of : Renumbering → MacroDef → MacroDef
macro_of r m = record { binder = binder r m.binder; rules = move_rules (change r) m.rules; leaves = map (rule_leaf r) m.leaves }

abbrev pub field_use : Renumbering → FieldUse → FieldUse
field_use r u = record { field = u.field; occ = place r u.occ }

abbrev pub record_type : Renumbering → RecordType → RecordType
record_type r t = record { binders = map (binder r) t.binders; fields = map (binder r) t.fields; modified = t.modified; used = map (field_use r) t.used }

abbrev mutual
  pub core_as : Renumbering → Core → Core
  core_as r (Ref t) = Ref (target r t)
  core_as r (Const a) = Const a
  core_as r (Quote d) = Quote (move_tree (places_of r) d)
  core_as r (Quasi d cs) = Quasi (move_tree (places_of r) d) (cores_as r cs)
  core_as r (Lambda bs c) = Lambda (binders r bs) (core_as r c)
  core_as r (CaseLambda cs) = CaseLambda (clauses_as r cs)
  core_as r (If cs) = If (cores_as r cs)
  core_as r (Set t c) = Set (target r t) (core_as r c)
  core_as r (Call cs) = Call (cores_as r cs)
  core_as r (Body ps) = Body (parts_as r ps)
  core_as r (LetSyntax ms c) = LetSyntax (map (macro_of r) ms) (core_as r c)

  pub cores_as : Renumbering → Cores → Cores
  cores_as r no_cores = no_cores
  cores_as r (core c cs) = core (core_as r c) (cores_as r cs)

  pub clauses_as : Renumbering → Clauses → Clauses
  clauses_as r no_clauses = no_clauses
  clauses_as r (clause bs c cs) = clause (binders r bs) (core_as r c) (clauses_as r cs)

  pub parts_as : Renumbering → Parts → Parts
  parts_as r no_parts = no_parts
  parts_as r (part p ps) = part (part_as r p) (parts_as r ps)

  pub part_as : Renumbering → Part → Part
  part_as r (expression_part c) = expression_part (core_as r c)
  part_as r (define_part b c) = define_part (binder r b) (core_as r c)
  part_as r (values_part bs c) = values_part (binders r bs) (core_as r c)
  part_as r (fields_part t) = fields_part (record_type r t)
  part_as r (syntax_part m) = syntax_part (macro_of r m)

abbrev pub macro_use_as : Renumbering → MacroUse → MacroUse
macro_use_as r u = record { keyword = target r u.keyword; literals = map (target r) u.literals }

-- ---- what a form comes to: no count changes

abbrev pub counted_as : Renumbering → Counted → Counted
counted_as r c = record { locals = c.locals; uses = c.uses; nodes = c.nodes; keywords = map (target r) c.keywords; met = map (macro_use_as r) c.met }

abbrev pub broken_as : Renumbering → Broken → Broken
broken_as r b = record { fault = move_fault (change r) b.fault; here = place r b.here }

abbrev pub result_as : {V W : Type 0} → Renumbering → (V → W) → Result V Broken → Result W Broken
result_as r g (Ok v) = Ok (g v)
result_as r g (Err e) = Err (broken_as r e)

-- a form of this unit
abbrev pub formed_as : Renumbering → (unit : ℕ) → Formed → Formed
formed_as r u f = record { form = r.form u f.form; result = result_as r (parts_as r) f.result; counted = counted_as r f.counted }

-- ---- what is left of forms, and what they set aside; f is what becomes of a side's identifiers

abbrev pub form_as : {A B : Type 0} → Renumbering → (A → B) → Form A → Form B
form_as r f x = record { here = place r x.here; tree = move_tree (with_places r f) x.tree }

abbrev pub item_as : {A B : Type 0} → Renumbering → (A → B) → Item A → Item B
item_as r f (Expression x) = Expression (form_as r f x)
item_as r f (Value b x) = Value (binder r b) (form_as r f x)
item_as r f (Function b here c) = Function (binder r b) (place r here) (move_clause (with_places r f) c)
item_as r f (Assigned n x) = Assigned (move_named (with_places r f) n) (form_as r f x)
item_as r f (AssignedFunction n here c) = AssignedFunction (move_named (with_places r f) n) (place r here) (move_clause (with_places r f) c)
item_as r f (ValuesOf bs x) = ValuesOf (binders r bs) (form_as r f x)
item_as r f (Record t) = Record (record_type r t)
item_as r f (Macro b here) = Macro (binder r b) (place r here)

abbrev pub use_as : {A B : Type 0} → Renumbering → (A → B) → WaitingUse A → WaitingUse B
use_as r f u = record { keyword = target r u.keyword; literals = map (move_named (with_places r f)) u.literals }

abbrev pub left_as : {A B : Type 0} → Renumbering → (A → B) → Left A → Left B
left_as r f l = record { uses = map (use_as r f) l.uses; items = map (item_as r f) l.items }

abbrev pub pending_as : {A B L M : Type 0} → Renumbering → (A → B) → (L → M) → Pending A L → Pending B M
pending_as r f l p = record { todo = map (form_as r f) p.todo; aside = map (item_as r f) p.aside; uses = map (use_as r f) p.uses; notes = map (note_map l) p.notes }

abbrev pub pass_as : {A B L M : Type 0} → Renumbering → (A → B) → (L → M) → Pass A L → Pass B M
pass_as r f l p = record { notes = map (note_map l) p.notes; left = result_as r (left_as r f) p.left }

-- a form of this unit with its number, and what is left of it
abbrev pub numbered_as : {A B : Type 0} → Renumbering → (unit : ℕ) → (A → B) → ℕ × Tree A → ℕ × Tree B
numbered_as r u f t = (r.form u t.0, move_tree (with_places r f) t.1)

abbrev pub left_of_as : {A B : Type 0} → Renumbering → (unit : ℕ) → (A → B) → LeftOf A → LeftOf B
left_of_as r u f x = (r.form u x.0, result_as r (left_as r f) x.1)

-- ---- the law of a step of work

-- on both sides it comes to the same, renumbered by f, and goes to states that correspond
pub record IsRenumbered {X Y S S' : Type 0} (f : X → Y) (Correspond : S → S' → Type 0) (p : X × S) (q : Y × S') : Type 0 where
  pub result : q.0 ≡ f p.0
  pub states : Correspond p.1 q.1
