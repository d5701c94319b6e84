-- How the forms of a body, or a form of a unit, are gone through in the code: step by step as the definition does, whatever is to
-- follow (R7RS 5.3.2).
use Rattle.std.specs.Prelude.{◌≡◌, ℕ, ◌+◌, ◌<◌, ◌≤◌, List, [], ◌∷◌, length, Option, Result, Ok, Err}
use Rattle.scheme_model.specs.Ident.{Ident as Identifier}
use Rattle.scheme_model.specs.Steps.{Broken}
use Rattle.scheme_model.specs.Measures.{trees_size}
use Rattle.scheme_model.specs.Trees.{Tree, Trees}
use Rattle.scheme_model.specs.Quasiquote.{Mark, quasi_of}
use Rattle.scheme_model.specs.Shapes.{Clause, Variable as define_variable, Procedure as define_procedure}
use Rattle.scheme_model.specs.Order.{Here, Left, Note, Pending, Pass, Going, Ops, or_none, read_then, splice, record_names, run_define, run_values, run_record, run_syntax, put, Expression, Form}
use Rattle.scheme_model.specs.ScopedExpansion.{Frames, FramedIdent}
use Rattle.syntax_tree.specs.declared.trees.Work.{Work}
use Rattle.syntax_tree.specs.declared.trees.table.Region.{Region}
use Rattle.core_forms.specs.Forms.{Shape, Quoted, Quasi, Procedure, Procedures, Conditional, Assignment, Sequence, Definition, Several, RecordType, Syntax, Local, Choices, ErrorText, Inclusion}
use Rattle.core_tree.specs.Names.{AllMatch}
use Rattle.core_tree.specs.Traces.{IsFault}
use Rattle.feature_requirements.specs.Judged.{chosen_among}
use Rattle.unit_scopes.specs.Kept.{ClauseFits, KeptFor, WaitsFor, PendingFor, NotesFor, left_with}
use Rattle.unit_scopes.specs.Outcomes.{Leaves, MayFill}
use Rattle.unit_scopes.specs.State.{most_locals}
use Rattle.unit_scopes.specs.declared.asked.Asked.{Asked}
use Rattle.feature_requirements.specs.declared.fault.ExpandFault.{ExpandFault}
use Rattle.feature_requirements.specs.declared.fault.ExpandFault.TheVariants as fault
use Rattle.form_parts.specs.declared.items.Pending as code_pending
use Rattle.form_parts.specs.declared.items.Spot as code_spot
use Rattle.unit_scopes.specs.declared.scope.UnitScope.{UnitScope}
use Rattle.noted_steps.specs.Noting.{Noting}
use Rattle.noted_steps.specs.Outcomes.{Stays}
use Rattle.noted_steps.specs.Standing.{Stands}
use Rattle.noted_steps.specs.Kept.{SpotFor}

-- ---- what calls demand

-- forms are gone through where the scopes of the code stand for some state, and the locals that they and so much beside them may
-- take are few
pub record CanPass (work : Work) (region : Region) (u : UnitScope) (spot : code_spot.Spot) (given : ℕ) (todo : code_pending.Pending) (asked : Asked) : Type 0 where
  pub layout : List Frames
  pub state : Noting
  pub frames : Frames
  pub left : Pending Identifier FramedIdent
  pub stands : Stands work u layout state
  pub placed : SpotFor work u layout state spot frames
  pub pending : PendingFor work region u.unit u.form.number todo left
  pub notes : NotesFor work layout asked left.notes
  pub room : u.form.budget.locals + left_with left.todo u.form.budget.uses + given ≤ most_locals u.form.budget.nodes

-- ---- one step

-- what a step leaves, where `before` was left with as many uses as the form had begun, and the step was given so much beside it:
-- less is left, and locals were taken for what went
pub record Reaches (old new : Work) (region : Region) (u v : UnitScope) (ls : List Frames) (spot : code_spot.Spot) (fs : Frames) (before : List (Form Identifier)) (given : ℕ) (todo : code_pending.Pending) (asked : Asked) (q : Pending Identifier FramedIdent) (t : Noting) : Type 0 where
  pub stays : Stays old new region u v ls t
  pub placed : SpotFor new v ls t spot fs
  pub pending : PendingFor new region v.unit v.form.number todo q
  pub notes : NotesFor new ls asked q.notes
  pub less : left_with q.todo v.form.budget.uses < left_with before u.form.budget.uses + given
  pub locals : v.form.budget.locals + left_with q.todo v.form.budget.uses ≤ u.form.budget.locals + left_with before u.form.budget.uses + given

-- a fault ends the pass; the notes stay
pub record Stops (old new : Work) (region : Region) (u v : UnitScope) (ls : List Frames) (spot : code_spot.Spot) (fs : Frames) (asked : Asked) (ns : List (Note FramedIdent)) (t : Noting) : Type 0 where
  pub stays : Stays old new region u v ls t
  pub placed : SpotFor new v ls t spot fs
  pub notes : NotesFor new ls asked ns

-- the code's step is the definition's, whatever goes on behind it
abbrev pub GoesOn : Work → Work → Region → UnitScope → UnitScope → List Frames → code_spot.Spot → Frames → List (Form Identifier) → (given : ℕ) → code_pending.Pending → Asked → Result (Unit {0}) ExpandFault → (Going Identifier FramedIdent Noting → Pass Identifier FramedIdent × Noting) → Type 0
GoesOn old new region u v ls spot fs before given todo asked (Ok done) step =
    (q : Pending Identifier FramedIdent) × (t : Noting) × Reaches old new region u v ls spot fs before given todo asked q t × ((go : Going Identifier FramedIdent Noting) → step go ≡ go q t)
GoesOn old new region u v ls spot fs before given todo asked (Err (fault.At e)) step =
    (ns : List (Note FramedIdent)) × (b : Broken) × (t : Noting) × Stops old new region u v ls spot fs asked ns t × IsFault new.symbols e b
    × ((go : Going Identifier FramedIdent Noting) → step go ≡ (record { notes = ns; left = Err b }, t))
GoesOn old new region u v ls spot fs before given todo asked (Err fault.Full) step = Leaves old new region u × MayFill old u
GoesOn old new region u v ls spot fs before given todo asked (Err fault.Memory) step = Leaves old new region u

-- ---- the whole pass

-- what is left in the end: what was set aside, and the macro uses that wait
pub record IsLeftOf (work : Work) (region : Region) (unit form : ℕ) (q : code_pending.Pending) (l : Left Identifier) : Type 0 where
  pub aside : AllMatch (KeptFor work region unit form) q.aside.items l.items
  pub uses : AllMatch (WaitsFor work unit form) q.uses.items l.uses

-- what is left, or the fault; the notes beside it
abbrev pub Passes : Work → Work → Region → UnitScope → UnitScope → List Frames → code_spot.Spot → Frames → (most : ℕ) → code_pending.Pending → Asked → Result (Unit {0}) ExpandFault → Pass Identifier FramedIdent × Noting → Type 0
Passes old new region u v ls spot fs most todo asked (Ok done) p =
    (l : Left Identifier) × (p.0.left ≡ Ok l) × Stops old new region u v ls spot fs asked p.0.notes p.1 × IsLeftOf new region v.unit v.form.number todo l
    × (v.form.budget.locals ≤ u.form.budget.locals + most)
Passes old new region u v ls spot fs most todo asked (Err (fault.At e)) p =
    (b : Broken) × (p.0.left ≡ Err b) × Stops old new region u v ls spot fs asked p.0.notes p.1 × IsFault new.symbols e b
Passes old new region u v ls spot fs most todo asked (Err fault.Full) p = Leaves old new region u × MayFill old u
Passes old new region u v ls spot fs most todo asked (Err fault.Memory) p = Leaves old new region u

-- ---- core forms by their shapes

abbrev pub choices_size : List (Tree Identifier × Trees Identifier) → ℕ
choices_size [] = 0
choices_size (c ∷ cs) = trees_size c.1 + choices_size cs

abbrev pub ClausesFit : List (Clause Identifier) → Type 0
ClausesFit [] = Unit {0}
ClausesFit (c ∷ cs) = ClauseFits c × ClausesFit cs

-- how many nodes a core form hands on to be gone through, or how many names it defines or binds
abbrev pub shape_weight : Shape → ℕ
shape_weight (Sequence ts) = trees_size ts
shape_weight (Choices cs) = choices_size cs
shape_weight (Definition d) = 1
shape_weight (Several p) = length p.0.names
shape_weight (RecordType r) = length r.fields + length (record_names r)
shape_weight (Syntax p) = 1
shape_weight (Quoted t) = 0
shape_weight (Quasi t p) = 0
shape_weight (Procedure c) = 0
shape_weight (Procedures cs) = 0
shape_weight (Conditional ts) = 0
shape_weight (Assignment p) = 0
shape_weight (Local m) = 0
shape_weight (ErrorText text) = 0
shape_weight Inclusion = 0

-- a core form that splices or defines
abbrev pub IsPassed : Shape → Type 0
IsPassed (Sequence ts) = Unit {0}
IsPassed (Choices cs) = Unit {0}
IsPassed (Definition d) = Unit {0}
IsPassed (Several p) = Unit {0}
IsPassed (RecordType r) = Unit {0}
IsPassed (Syntax p) = Unit {0}
IsPassed (Quoted t) = ⊥
IsPassed (Quasi t p) = ⊥
IsPassed (Procedure c) = ⊥
IsPassed (Procedures cs) = ⊥
IsPassed (Conditional ts) = ⊥
IsPassed (Assignment p) = ⊥
IsPassed (Local m) = ⊥
IsPassed (ErrorText text) = ⊥
IsPassed Inclusion = ⊥

-- its procedures and local macros bind no more names than a tree has nodes, their bodies have no more nodes, and the pieces of a
-- quasiquotation are those of its datum
abbrev pub ShapeFits : Shape → Type 0
ShapeFits (Procedure c) = ClauseFits c
ShapeFits (Procedures cs) = ClausesFit cs
ShapeFits (Definition (define_procedure n c)) = ClauseFits c
ShapeFits (Definition (define_variable n t)) = Unit {0}
ShapeFits (Local m) = (length m.names ≤ 4194304) × (trees_size m.body ≤ 4194304)
ShapeFits (Sequence ts) = Unit {0}
ShapeFits (Choices cs) = Unit {0}
ShapeFits (Several p) = Unit {0}
ShapeFits (RecordType r) = Unit {0}
ShapeFits (Syntax p) = Unit {0}
ShapeFits (Quoted t) = Unit {0}
ShapeFits (Quasi t p) = (mark : Identifier → Option Mark) × (quasi_of mark t ≡ Ok p)
ShapeFits (Conditional ts) = Unit {0}
ShapeFits (Assignment p) = Unit {0}
ShapeFits (ErrorText text) = Unit {0}
ShapeFits Inclusion = Unit {0}

-- what is done with a core form that splices or defines, once it was read
abbrev pub pass_step : {L S : Type 0} → Ops Frames Identifier L S → Going Identifier L S → Here → Frames → Form Identifier → Pending Identifier L → Shape → S → Pass Identifier L × S
pass_step ops go here e form p (Sequence ts) s = splice ops go here p ts s
pass_step ops go here e form p (Choices cs) s = read_then ops here p (chosen_among ops.known cs) (λ c. splice ops go here p (or_none c)) s
pass_step ops go here e form p (Definition d) s = run_define ops go here e p d s
pass_step ops go here e form p (Several d) s = run_values ops go here e p d s
pass_step ops go here e form p (RecordType r) s = run_record ops go here e p r s
pass_step ops go here e form p (Syntax d) s = run_syntax ops go here e p d s
pass_step ops go here e form p (Quoted t) s = go (put (Expression form) p) s
pass_step ops go here e form p (Quasi t q) s = go (put (Expression form) p) s
pass_step ops go here e form p (Procedure c) s = go (put (Expression form) p) s
pass_step ops go here e form p (Procedures cs) s = go (put (Expression form) p) s
pass_step ops go here e form p (Conditional ts) s = go (put (Expression form) p) s
pass_step ops go here e form p (Assignment q) s = go (put (Expression form) p) s
pass_step ops go here e form p (Local m) s = go (put (Expression form) p) s
pass_step ops go here e form p (ErrorText text) s = go (put (Expression form) p) s
pass_step ops go here e form p Inclusion s = go (put (Expression form) p) s
