-- The leaves of the code's cores, as a list, and which leaves of the definition's cores they are.
use Rattle.std.specs.Prelude.{◌≡◌, ℕ, List, [], ◌∷◌, ◌++◌, map, Bool, true, false, Option, Some, None, slice_get}
use Rattle.std.specs.List.{flat_map}
use Rattle.scheme_model.specs.Trees.{Tree, map_tree}
use Rattle.scheme_model.specs.Ident.{Ident as Identifier, symbol_of}
use Rattle.scheme_model.specs.Cores as model
use Rattle.scheme_model.specs.Live as live
use Rattle.scheme_model.specs.Live.{CoreLeaf, name_places, any_name, no_hole}
use Rattle.syntax_tree.specs.Works.{StandsFor}
use Rattle.syntax_tree.specs.declared.trees.Work.{Work}
use Rattle.syntax_tree.specs.declared.trees.nodes.Tree as number
use Rattle.syntax_tree.specs.declared.meaning.Meaning.TheVariants as meanings
use Rattle.core_tree.specs.Names.{IsBinder, IsTarget, IsMacro}
use Rattle.core_tree.specs.Cores.{IsHoled}
use Rattle.core_tree.specs.Levels.{BindsAs}
use Rattle.core_tree.specs.declared.cores.Binder.{Binder}
use Rattle.core_tree.specs.declared.cores.Target.{Target}
use Rattle.core_tree.specs.declared.cores.MacroDef.{MacroDef}
use Rattle.core_tree.specs.declared.cores.FieldUse.{FieldUse}
use Rattle.core_tree.specs.declared.cores.Core.{Core}
use Rattle.core_tree.specs.declared.cores.Clause.{Clause}
use Rattle.core_tree.specs.declared.cores.CorePart.{CorePart}
use Rattle.core_tree.specs.declared.cores.Core.TheOpen.{Core-F, Clause-F, CorePart-F}
use Rattle.core_tree.specs.declared.cores.Core.TheFolds.{fold-Core, fold-Clause, fold-CorePart}
use Rattle.core_tree.specs.declared.units.ExpandedItem.{ExpandedItem}
use Rattle.program_leaves.specs.declared.leaves.Leaf.{Leaf}
use Rattle.program_leaves.specs.declared.leaves.Leaf.TheVariants as leaf

-- ---- leaves of the code

pub data Seen : Type 0 where
  Binds : (local : Bool) → Binder → Seen
  Uses : Target → Seen
  Assigns : Target → Seen
  Quoted : number.Tree → Seen
  Holed : number.Tree → (places : List ℕ) → Seen
  Defines : MacroDef → Seen

abbrev pub seen_of : Leaf → Seen
seen_of (leaf.Binds local b) = Binds local b
seen_of (leaf.Uses t) = Uses t
seen_of (leaf.Assigns t) = Assigns t
seen_of (leaf.Quoted n) = Quoted n
seen_of (leaf.Holed n places) = Holed n places.now
seen_of (leaf.Defines d) = Defines d.now

abbrev pub joined : {A : Type 0} → List (List A) → List A
joined xss = flat_map (λ xs. xs) xss

abbrev pub binders_seen : Bool → List Binder → List Seen
binders_seen local bs = map (Binds local) bs

abbrev pub macro_seen : Bool → MacroDef → List Seen
macro_seen local d = Binds local d.binder ∷ Defines d ∷ []

abbrev pub macros_seen : List MacroDef → List Seen
macros_seen ds = flat_map (macro_seen true) ds

-- the field with a number, used by the constructor
abbrev pub field_seen : Option Binder → FieldUse → List Seen
field_seen None u = []
field_seen (Some b) u = Uses (record { meaning = meanings.Local b.number; ident = b.ident; occ = u.occ }) ∷ []

abbrev pub fields_seen : List Binder → List FieldUse → List Seen
fields_seen fields us = flat_map (λ u. field_seen (slice_get fields u.field) u) us

-- one level, whose parts are seen already; a part is told whether it binds locals
abbrev pub core_step : Core-F (List Seen) (Bool → List Seen) (List Seen) → List Seen
core_step (Core-F.Ref t) = Uses t ∷ []
core_step (Core-F.Const n) = []
core_step (Core-F.Quote n) = Quoted n ∷ []
core_step (Core-F.Quasi n places cs) = Holed n places.items ∷ joined cs.items
core_step (Core-F.Lambda x) = x
core_step (Core-F.CaseLambda xs) = joined xs.items
core_step (Core-F.If cs) = joined cs.items
core_step (Core-F.Set t c) = Assigns t ∷ c.value
core_step (Core-F.Call cs) = joined cs.items
core_step (Core-F.Body ps) = flat_map (λ p. p true) ps.items
core_step (Core-F.LetSyntax ds c) = macros_seen ds.items ++ c.value

abbrev pub clause_step : Clause-F (List Seen) (Bool → List Seen) (List Seen) → List Seen
clause_step x = binders_seen true x.binders.items ++ x.body.value

abbrev pub part_step : CorePart-F (List Seen) (Bool → List Seen) (List Seen) → Bool → List Seen
part_step (CorePart-F.Expression c) local = c
part_step (CorePart-F.Define b c) local = Binds local b ∷ c
part_step (CorePart-F.Values bs dotted c) local = binders_seen local bs.items ++ c
part_step (CorePart-F.Fields bs fs ms us) local = binders_seen local bs.items ++ binders_seen true fs.items ++ fields_seen fs.items us.items
part_step (CorePart-F.Syntax d) local = macro_seen local d

abbrev pub core_seen : Core → List Seen
core_seen = fold-Core (List Seen) (Bool → List Seen) (List Seen) core_step part_step clause_step

abbrev pub clause_seen : Clause → List Seen
clause_seen = fold-Clause (List Seen) (Bool → List Seen) (List Seen) core_step part_step clause_step

abbrev pub part_seen : CorePart → Bool → List Seen
part_seen = fold-CorePart (List Seen) (Bool → List Seen) (List Seen) core_step part_step clause_step

abbrev pub cores_seen : List Core → List Seen
cores_seen cs = flat_map core_seen cs

abbrev pub clauses_seen : List Clause → List Seen
clauses_seen xs = flat_map clause_seen xs

abbrev pub parts_seen : List CorePart → List Seen
parts_seen ps = flat_map (λ p. part_seen p true) ps

-- the leaves of a form of a unit, whose parts define
abbrev pub items_seen : List ExpandedItem → List Seen
items_seen is = flat_map (λ i. part_seen i.part false) is

-- ---- leaves of the definition

-- a leaf of the code is these leaves of the definition's core
abbrev pub IsSeen : Work → (unit form : ℕ) → Seen → List CoreLeaf → Type 0
IsSeen work unit form (Binds local b) ls = (m : model.Binder) × (ls ≡ live.Binds m ∷ []) × IsBinder work.symbols unit form b m × BindsAs local m.bound
IsSeen work unit form (Uses t) ls = (m : model.Target) × (ls ≡ live.Uses m ∷ []) × IsTarget work.symbols unit form t m
IsSeen work unit form (Assigns t) ls = (m : model.Target) × (ls ≡ live.Assigns m ∷ []) × IsTarget work.symbols unit form t m
IsSeen work unit form (Quoted n) ls = (t : Tree Identifier) × StandsFor work n t × (ls ≡ name_places any_name (map_tree symbol_of t))
IsSeen work unit form (Holed n places) ls = (h : Tree (Option (List ℕ))) × IsHoled work n places h × (ls ≡ name_places no_hole h)
IsSeen work unit form (Defines d) ls = (m : model.MacroDef) × (ls ≡ live.Defines m ∷ []) × IsMacro work unit form d m

abbrev pub AreSeen : Work → (unit form : ℕ) → List Seen → List CoreLeaf → Type 0
AreSeen work unit form [] ls = ls ≡ []
AreSeen work unit form (x ∷ xs) ls = (front rest : List CoreLeaf) × (ls ≡ front ++ rest) × IsSeen work unit form x front × AreSeen work unit form xs rest
