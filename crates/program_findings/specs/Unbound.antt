-- References and assignments that mean nothing, in cores of the code and of the definition (R7RS 4.1.1).
use Rattle.std.specs.Prelude.{◌≡◌, List, [], ◌∷◌, Option, Some, None}
use Rattle.std.specs.List.{flat_map}
use Rattle.scheme_model.specs.declared.Occ.{Occ}
use Rattle.scheme_model.specs.Meaning as model
use Rattle.scheme_model.specs.Cores as cores
use Rattle.scheme_model.specs.Live as live
use Rattle.scheme_model.specs.Live.{CoreLeaf}
use Rattle.syntax_tree.specs.Names.{Names}
use Rattle.syntax_tree.specs.Macros.{IsIdent}
use Rattle.syntax_tree.specs.Meant.{IsGivenMeaning}
use Rattle.syntax_tree.specs.declared.meaning.Meaning.{Meaning}
use Rattle.syntax_tree.specs.declared.meaning.Meaning.TheVariants as meaning
use Rattle.core_tree.specs.declared.cores.Target.{Target}
use Rattle.core_tree.specs.declared.traces.FormFault.{FormFault}
use Rattle.core_tree.specs.declared.units.UnitForm.{UnitForm}
use Rattle.program_leaves.specs.Leaves.{Seen, Binds, Uses, Assigns, Quoted, Holed, Defines, items_seen}

-- ---- in the code

-- a use of this meaning that stands in a text, where it means nothing
abbrev pub free_as : Meaning → Option Occ → Target → List Target
free_as m None t = []
free_as (meaning.Local n) (Some o) t = []
free_as (meaning.Global u n) (Some o) t = []
free_as (meaning.Standard n) (Some o) t = []
free_as (meaning.Free n) (Some o) t = t ∷ []

abbrev pub free_use : Target → List Target
free_use t = free_as t.meaning t.occ t

abbrev pub free_leaf : Seen → List Target
free_leaf (Binds local b) = []
free_leaf (Uses t) = free_use t
free_leaf (Assigns t) = free_use t
free_leaf (Quoted n) = []
free_leaf (Holed n places) = []
free_leaf (Defines d) = []

abbrev pub free_uses : List Seen → List Target
free_uses xs = flat_map free_leaf xs

-- a broken form has none
abbrev pub form_unbound : UnitForm → List Target
form_unbound f = unless_broken f.fault (free_uses (items_seen f.items))
  where
    unless_broken : Option FormFault → List Target → List Target
    unless_broken None ts = ts
    unless_broken (Some e) ts = []

-- ---- in the definition

abbrev pub unbound_as : model.Meaning → Option Occ → cores.Target → List cores.Target
unbound_as m None t = []
unbound_as (model.Local v) (Some o) t = []
unbound_as (model.Global u i) (Some o) t = []
unbound_as (model.Standard s) (Some o) t = []
unbound_as (model.Free s) (Some o) t = t ∷ []

abbrev pub unbound_leaf : CoreLeaf → List cores.Target
unbound_leaf (live.Binds b) = []
unbound_leaf (live.Uses t) = unbound_as t.meaning t.occ t
unbound_leaf (live.Assigns t) = unbound_as t.meaning t.occ t
unbound_leaf (live.Quotes o) = []
unbound_leaf (live.Defines m) = []

abbrev pub unbound_in : List CoreLeaf → List cores.Target
unbound_in ls = flat_map unbound_leaf ls

-- the code's use is the definition's
pub record IsUnbound (names : Names) (t : Target) (m : cores.Target) : Type 0 where
  pub ident : IsIdent names t.ident m.ident
  pub meaning : IsGivenMeaning names t.meaning m.meaning
  pub place : t.occ ≡ m.occ
