-- The leaves, the uses and the definitions of a program of the code, with their forms.
use Rattle.std.specs.Prelude.{◌≡◌, ℕ, suc, List, [], ◌∷◌, ◌++◌, map, Bool, true, false, ◌&&◌, ◌==◌, Option, Some, None, if◌then◌else◌}
use Rattle.std.specs.List.{flat_map}
use Rattle.std.specs.Ordering.{nat_cmp, ordering_then}
use Rattle.std.specs.declared.cmp.Ordering.{Ordering}
use Rattle.scheme_model.specs.declared.Occ.{Occ}
use Rattle.scheme_model.specs.Cores as model
use Rattle.scheme_model.specs.Live.{CoreLeaf}
use Rattle.syntax_tree.specs.declared.trees.Work.{Work}
use Rattle.core_tree.specs.Names.{IsTarget}
use Rattle.core_tree.specs.declared.cores.Binder.{Binder}
use Rattle.core_tree.specs.declared.cores.Target.{Target}
use Rattle.core_tree.specs.declared.traces.MacroUse.{MacroUse}
use Rattle.core_tree.specs.declared.traces.FormFault.{FormFault}
use Rattle.core_tree.specs.declared.traces.Trace.{Trace}
use Rattle.core_tree.specs.declared.units.UnitForm.{UnitForm}
use Rattle.core_tree.specs.declared.units.Unit.{Unit as CodeUnit}
use Rattle.program_leaves.specs.declared.sight.FormNo.{FormNo}
use Rattle.program_leaves.specs.declared.sight.LocalNo.{LocalNo}
use Rattle.program_leaves.specs.declared.sight.GlobalNo.{GlobalNo}
use Rattle.program_leaves.specs.declared.sight.PlacedLeaf.{PlacedLeaf}
use Rattle.program_leaves.specs.declared.sight.PlacedTarget.{PlacedTarget}
use Rattle.program_leaves.specs.Leaves.{Seen, Binds, Uses, Assigns, Quoted, Holed, Defines, seen_of, items_seen, IsSeen}

-- ---- orders of keys

abbrev pub occ_cmp : Occ → Occ → Ordering
occ_cmp o p = ordering_then (nat_cmp o.unit p.unit) (ordering_then (nat_cmp o.form p.form) (nat_cmp o.token p.token))

abbrev pub form_cmp : FormNo → FormNo → Ordering
form_cmp a b = ordering_then (nat_cmp a.unit b.unit) (nat_cmp a.form b.form)

abbrev pub local_cmp : LocalNo → LocalNo → Ordering
local_cmp a b = ordering_then (form_cmp a.at b.at) (nat_cmp a.count b.count)

abbrev pub global_cmp : GlobalNo → GlobalNo → Ordering
global_cmp a b = ordering_then (nat_cmp a.unit b.unit) (nat_cmp a.ident b.ident)

abbrev pub same_local : LocalNo → LocalNo → Bool
same_local a b = (a.at.unit == b.at.unit && a.at.form == b.at.form) && a.count == b.count

abbrev pub same_global : GlobalNo → GlobalNo → Bool
same_global a b = a.unit == b.unit && a.ident == b.ident

-- ---- leaves

-- a leaf of a core of a form
pub record PlacedSeen : Type 0 where
  pub unit : ℕ
  pub form : ℕ
  pub seen : Seen

abbrev pub placed_of : PlacedLeaf → PlacedSeen
placed_of l = record { unit = l.at.unit; form = l.at.form; seen = seen_of l.leaf }

abbrev pub at_form : (unit form : ℕ) → List Seen → List PlacedSeen
at_form unit form xs = map (λ x. record { unit = unit; form = form; seen = x }) xs

abbrev pub unless_fault : {A : Type 0} → Option FormFault → List A → List A
unless_fault None xs = xs
unless_fault (Some f) xs = []

-- those of the forms of a unit from a number on; a broken form has none
abbrev pub forms_seen : (unit form : ℕ) → List UnitForm → List PlacedSeen
forms_seen unit form [] = []
forms_seen unit form (c ∷ cs) = at_form unit form (unless_fault c.fault (items_seen c.items)) ++ forms_seen unit (suc form) cs

abbrev pub units_seen : (unit : ℕ) → List CodeUnit → List PlacedSeen
units_seen unit [] = []
units_seen unit (c ∷ cs) = forms_seen unit 0 c.forms ++ units_seen (suc unit) cs

-- these leaves of the code are these of the definition's program
abbrev pub AreAllSeen : Work → List PlacedSeen → List CoreLeaf → Type 0
AreAllSeen work [] ls = ls ≡ []
AreAllSeen work (x ∷ xs) ls = (front rest : List CoreLeaf) × (ls ≡ front ++ rest) × IsSeen work x.unit x.form x.seen front × AreAllSeen work xs rest

-- ---- keywords and matched literals

-- a use in a form
pub record Use : Type 0 where
  pub unit : ℕ
  pub form : ℕ
  pub target : Target

abbrev pub use_of : PlacedTarget → Use
use_of t = record { unit = t.at.unit; form = t.at.form; target = t.target }

abbrev pub uses_at : (unit form : ℕ) → List Target → List Use
uses_at unit form ts = map (λ t. record { unit = unit; form = form; target = t }) ts

abbrev pub macro_targets : List MacroUse → List Target
macro_targets us = flat_map (λ (u : MacroUse). u.keyword ∷ u.literals.items) us

abbrev pub trace_targets : Trace → List Target
trace_targets t = t.keywords ++ macro_targets t.uses

abbrev pub forms_met : (unit form : ℕ) → List UnitForm → List Use
forms_met unit form [] = []
forms_met unit form (c ∷ cs) = uses_at unit form (unless_fault c.fault (trace_targets c.trace)) ++ forms_met unit (suc form) cs

abbrev pub units_met : (unit : ℕ) → List CodeUnit → List Use
units_met unit [] = []
units_met unit (c ∷ cs) = forms_met unit 0 c.forms ++ units_met (suc unit) cs

abbrev pub IsUseOf : Work → Use → model.Target → Type 0
IsUseOf work u t = IsTarget work.symbols u.unit u.form u.target t

-- ---- binders

-- the number of the local that a leaf binds, and where it stands
abbrev pub bound_in : PlacedSeen → Option (LocalNo × Option Occ)
bound_in x = by_seen x.seen (record { unit = x.unit; form = x.form })
  where
    by_seen : Seen → FormNo → Option (LocalNo × Option Occ)
    by_seen (Binds true b) at = Some (record { at = at; count = b.number }, b.occ)
    by_seen (Binds false b) at = None
    by_seen (Uses t) at = None
    by_seen (Assigns t) at = None
    by_seen (Quoted n) at = None
    by_seen (Holed n places) at = None
    by_seen (Defines d) at = None

abbrev pub bound_or : Option (LocalNo × Option Occ) → LocalNo → Option (Option Occ) → Option (Option Occ)
bound_or None k other = other
bound_or (Some b) k other = if same_local b.0 k then Some b.1 else other

-- what was there, and else what comes
abbrev pub first_or : {A : Type 0} → Option A → Option A → Option A
first_or None other = other
first_or (Some a) other = Some a

-- where the first binder with a number stands
abbrev pub local_in : List PlacedSeen → LocalNo → Option (Option Occ)
local_in [] k = None
local_in (x ∷ xs) k = bound_or (bound_in x) k (local_in xs k)

-- a definition of a unit
pub record Given : Type 0 where
  pub unit : ℕ
  pub binder : Binder

abbrev pub given_by : (unit : ℕ) → List Binder → List Given
given_by unit bs = map (λ b. record { unit = unit; binder = b }) bs

abbrev pub forms_given : (unit : ℕ) → List UnitForm → List Given
forms_given unit cs = flat_map (λ (c : UnitForm). given_by unit c.trace.definitions) cs

abbrev pub units_given : (unit : ℕ) → List CodeUnit → List Given
units_given unit [] = []
units_given unit (c ∷ cs) = forms_given unit c.forms ++ units_given (suc unit) cs

-- where an identifier is defined once these definitions were made, of which the last counts
abbrev pub given_after : List Given → GlobalNo → Option (Option Occ) → Option (Option Occ)
given_after [] k before = before
given_after (d ∷ ds) k before = given_after ds k (if same_global (record { unit = d.unit; ident = d.binder.ident }) k then Some d.binder.occ else before)

abbrev pub definition_in : List CodeUnit → GlobalNo → Option (Option Occ)
definition_in cs k = given_after (units_given 0 cs) k None

abbrev pub place_in : Option (Option Occ) → Option Occ
place_in None = None
place_in (Some o) = o
