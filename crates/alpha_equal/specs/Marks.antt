-- The marks of the code's cores, as a list, and which points of the definition's cores they are.
use Rattle.std.specs.Prelude.{◌≡◌, ℕ, List, [], ◌∷◌, ◌++◌, map, length, Bool, true, false, Option, None}
use Rattle.std.specs.List.{flat_map}
use Rattle.scheme_model.specs.declared.Occ.{Occ}
use Rattle.scheme_model.specs.Trees.{Atom, Tree, atom}
use Rattle.scheme_model.specs.Cores as model
use Rattle.scheme_model.specs.Substitution.{Table}
use Rattle.rename_model.specs.Walks.{Point, AtShape, truth_number, node, number, use_of, atom_points, data_points, binders_at, macro_points}
use Rattle.syntax_tree.specs.Works.{StandsFor}
use Rattle.syntax_tree.specs.declared.trees.Work.{Work}
use Rattle.syntax_tree.specs.declared.trees.nodes.Tree as tree_number
use Rattle.core_tree.specs.Names.{AllMatch, IsBinder, IsTarget, IsMacro}
use Rattle.core_tree.specs.Cores.{IsHoled}
use Rattle.core_tree.specs.Levels.{AllBind}
use Rattle.core_tree.specs.declared.cores.Binder.{Binder}
use Rattle.core_tree.specs.declared.cores.Target.{Target}
use Rattle.core_tree.specs.declared.cores.MacroDef.{MacroDef}
use Rattle.core_tree.specs.declared.cores.FieldUse.{FieldUse}
use Rattle.core_tree.specs.declared.cores.Core.{Core}
use Rattle.core_tree.specs.declared.cores.Clause.{Clause}
use Rattle.core_tree.specs.declared.cores.CorePart.{CorePart}
use Rattle.core_tree.specs.declared.cores.Core.TheOpen.{Core-F, Clause-F, CorePart-F}
use Rattle.core_tree.specs.declared.cores.Core.TheFolds.{fold-Core, fold-Clause, fold-CorePart}
use Rattle.core_tree.specs.declared.units.ExpandedItem.{ExpandedItem}
use Rattle.alpha_equal.specs.declared.nodes.Node.{Node}
use Rattle.alpha_equal.specs.declared.nodes.Node.TheVariants as nodes
use Rattle.alpha_equal.specs.declared.marks.Mark.{Mark}
use Rattle.alpha_equal.specs.declared.marks.Mark.TheVariants as mark
use Rattle.alpha_equal.specs.Points.{node_as}

-- ---- marks of the code

pub data Marked : Type 0 where
  ANode : Node → Marked
  ANumber : ℕ → Marked
  AUse : Target → Marked
  AnAtom : tree_number.Tree → Marked
  ADatum : tree_number.Tree → (places : List ℕ) → Marked
  Binding : Node → List Binder → Marked
  SomeRules : MacroDef → Marked

abbrev pub mark_of : Mark → Marked
mark_of (mark.Node k) = ANode k
mark_of (mark.Number n) = ANumber n
mark_of (mark.Use t) = AUse t
mark_of (mark.Atom n) = AnAtom n
mark_of (mark.Datum n places) = ADatum n places.now
mark_of (mark.Binders k bs) = Binding k bs.now
mark_of (mark.Rules d) = SomeRules d.now

abbrev pub joined : {A : Type 0} → List (List A) → List A
joined xss = flat_map (λ xs. xs) xss

abbrev pub bound_marks : Bool → Binder → List Marked
bound_marks true b = ANode nodes.BindsLocal ∷ []
bound_marks false b = ANode nodes.BindsDefinition ∷ ANumber b.number ∷ []

abbrev pub bounds_marks : Bool → List Binder → List Marked
bounds_marks local bs = flat_map (bound_marks local) bs

abbrev pub number_marks : List ℕ → List Marked
number_marks ns = map ANumber ns

abbrev pub used_marks : List FieldUse → List Marked
used_marks us = map (λ (u : FieldUse). ANumber u.field) us

abbrev pub formal_marks : List Binder → Bool → List Marked
formal_marks bs dotted = ANode nodes.Procedure ∷ ANumber (length bs) ∷ ANumber (truth_number dotted) ∷ Binding nodes.Procedure bs ∷ []

abbrev pub macro_bindings : List MacroDef → List Marked
macro_bindings ds = map (λ (d : MacroDef). Binding nodes.Syntax (d.binder ∷ [])) ds

abbrev pub macros_marks : List MacroDef → List Marked
macros_marks ds = map SomeRules ds

-- a part: what it binds, and its marks once it is told whether that are locals
pub record PartMarks : Type 0 where
  pub binding : Marked
  pub marks : Bool → List Marked

-- one level, whose parts are marked already
abbrev pub core_step : Core-F (List Marked) PartMarks (List Marked) → List Marked
core_step (Core-F.Ref t) = ANode nodes.Reference ∷ AUse t ∷ []
core_step (Core-F.Const n) = ANode nodes.Constant ∷ AnAtom n ∷ []
core_step (Core-F.Quote n) = ANode nodes.Quotation ∷ ADatum n [] ∷ []
core_step (Core-F.Quasi n places cs) = ANode nodes.Quasiquotation ∷ ANumber (length cs.items) ∷ ADatum n places.items ∷ joined cs.items
core_step (Core-F.Lambda x) = x
core_step (Core-F.CaseLambda xs) = ANode nodes.CaseLambda ∷ ANumber (length xs.items) ∷ joined xs.items
core_step (Core-F.If cs) = ANode nodes.Conditional ∷ ANumber (length cs.items) ∷ joined cs.items
core_step (Core-F.Set t c) = ANode nodes.Assignment ∷ AUse t ∷ c.value
core_step (Core-F.Call cs) = ANode nodes.Call ∷ ANumber (length cs.items) ∷ joined cs.items
core_step (Core-F.Body ps) =
    ANode nodes.Body ∷ ANumber (length ps.items) ∷ map (λ (p : PartMarks). p.binding) ps.items ++ flat_map (λ (p : PartMarks). p.marks true) ps.items
core_step (Core-F.LetSyntax ds c) = ANode nodes.LocalMacros ∷ ANumber (length ds.items) ∷ (macro_bindings ds.items ++ macros_marks ds.items) ++ c.value

abbrev pub clause_step : Clause-F (List Marked) PartMarks (List Marked) → List Marked
clause_step x = formal_marks x.binders.items x.dotted ++ x.body.value

abbrev pub step_binding : CorePart-F (List Marked) PartMarks (List Marked) → Marked
step_binding (CorePart-F.Expression c) = Binding nodes.Expression []
step_binding (CorePart-F.Define b c) = Binding nodes.Definition (b ∷ [])
step_binding (CorePart-F.Values bs dotted c) = Binding nodes.Values bs.items
step_binding (CorePart-F.Fields bs fs ms us) = Binding nodes.Record bs.items
step_binding (CorePart-F.Syntax d) = Binding nodes.Syntax (d.binder ∷ [])

abbrev pub step_marks : CorePart-F (List Marked) PartMarks (List Marked) → Bool → List Marked
step_marks (CorePart-F.Expression c) local = ANode nodes.Expression ∷ c
step_marks (CorePart-F.Define b c) local = ANode nodes.Definition ∷ bound_marks local b ++ c
step_marks (CorePart-F.Values bs dotted c) local = ANode nodes.Values ∷ ANumber (length bs.items) ∷ ANumber (truth_number dotted) ∷ bounds_marks local bs.items ++ c
step_marks (CorePart-F.Fields bs fs ms us) local =
    ANode nodes.Record ∷ ANumber (length bs.items) ∷ ANumber (length fs.items) ∷ ANumber (length ms.items) ∷ ANumber (length us.items) ∷
    bounds_marks local bs.items ++ number_marks ms.items ++ used_marks us.items
step_marks (CorePart-F.Syntax d) local = ANode nodes.Syntax ∷ bound_marks local d.binder ++ SomeRules d ∷ []

abbrev pub part_step : CorePart-F (List Marked) PartMarks (List Marked) → PartMarks
part_step p = record { binding = step_binding p; marks = step_marks p }

abbrev pub core_marks : Core → List Marked
core_marks = fold-Core (List Marked) PartMarks (List Marked) core_step part_step clause_step

abbrev pub clause_marks : Clause → List Marked
clause_marks = fold-Clause (List Marked) PartMarks (List Marked) core_step part_step clause_step

abbrev pub part_all : CorePart → PartMarks
part_all = fold-CorePart (List Marked) PartMarks (List Marked) core_step part_step clause_step

abbrev pub part_binding : CorePart → Marked
part_binding p = (part_all p).binding

abbrev pub part_marks : CorePart → Bool → List Marked
part_marks p = (part_all p).marks

abbrev pub cores_marks : List Core → List Marked
cores_marks cs = flat_map core_marks cs

abbrev pub clauses_marks : List Clause → List Marked
clauses_marks xs = flat_map clause_marks xs

abbrev pub parts_binding : List CorePart → List Marked
parts_binding ps = map part_binding ps

abbrev pub parts_marks : List CorePart → List Marked
parts_marks ps = flat_map (λ p. part_marks p true) ps

-- the items of a form of a unit, whose parts define
abbrev pub items_marks : List ExpandedItem → List Marked
items_marks is = flat_map (λ i. part_marks i.part false) is

-- ---- points of the definition

-- a mark of the code is these points of the definition
abbrev pub IsMark : Work → Table → (unit form : ℕ) → Marked → List Point → Type 0
IsMark work table unit form (ANode k) ps = ps ≡ node (node_as k) ∷ []
IsMark work table unit form (ANumber n) ps = ps ≡ number n ∷ []
IsMark work table unit form (AUse t) ps = (m : model.Target) × (ps ≡ use_of table m ∷ []) × IsTarget work.symbols unit form t m
IsMark work table unit form (AnAtom n) ps = (a : Atom) × (o : Option Occ) × (ps ≡ atom_points AtShape None a) × StandsFor work n (atom a o)
IsMark work table unit form (ADatum n places) ps = (h : Tree (Option (List ℕ))) × (ps ≡ data_points h) × IsHoled work n places h
IsMark work table unit form (Binding k bs) ps =
    (ms : List model.Binder) × (ps ≡ binders_at (node_as k) ms ∷ []) × AllMatch (IsBinder work.symbols unit form) bs ms × AllBind true ms
IsMark work table unit form (SomeRules d) ps = (m : model.MacroDef) × (ps ≡ macro_points table m) × IsMacro work unit form d m

abbrev pub AreMarks : Work → Table → (unit form : ℕ) → List Marked → List Point → Type 0
AreMarks work table unit form [] ps = ps ≡ []
AreMarks work table unit form (x ∷ xs) ps = (front rest : List Point) × (ps ≡ front ++ rest) × IsMark work table unit form x front × AreMarks work table unit form xs rest
