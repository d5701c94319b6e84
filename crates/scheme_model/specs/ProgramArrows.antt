-- Arrows: the pairs of a binder and one of its uses (DrRacket's Check Syntax), over a whole program.
use Rattle.std.specs.Prelude.{List, [], ◌∷◌, ◌++◌, map, filter, Bool, false, not, ◌||◌, Option, Some, None, if◌then◌else◌}
use Rattle.scheme_model.specs.declared.Occ.{Occ}
use Rattle.scheme_model.specs.Identifiers.{Number, same_number}
use Rattle.scheme_model.specs.Ident.{Ident, same_ident, symbol_of}
use Rattle.scheme_model.specs.Trees.{Tree, name, atom, list, vector, Trees, no_trees, tree, Tail, proper, dotted}
use Rattle.scheme_model.specs.Meaning.{Meaning, Local, Global, Standard, Free}
use Rattle.scheme_model.specs.Cores.{Target, Bound, LocalNumber, Definition, RuleLeaf}
use Rattle.scheme_model.specs.RulesShape.{Rule, Rules, Names, Variable, pattern_variables}
use Rattle.scheme_model.specs.Substitution.{Table, Defined, defined_in}
use Rattle.scheme_model.specs.Requirements.{LibraryName}
use Rattle.scheme_model.specs.Entries.{Entry, ImportSet, library_in, same_occ}
use Rattle.scheme_model.specs.StandardLibraries.{standard}
use Rattle.scheme_model.specs.IncludedUnits.{Placed}
use Rattle.scheme_model.specs.Program.{UnitResult, ImportSpec, Program, result_at, library_exports, names_of_unit, is_some_fault}
use Rattle.scheme_model.specs.Live.{CoreLeaf, Binds, Uses, Assigns, Quotes, Defines, unit_leaves, keyword_targets, NameUse, set_uses, all_export_uses}

-- a binder and a use
pub record Arrow : Type 0 where
  pub binder : Occ
  pub target : Occ

-- ---- what a program has

abbrev pub program_leaves : List UnitResult → List CoreLeaf
program_leaves [] = []
program_leaves (r ∷ rs) = unit_leaves r.forms ++ program_leaves rs

abbrev pub program_keywords : List UnitResult → List Target
program_keywords [] = []
program_keywords (r ∷ rs) = keyword_targets r.forms ++ program_keywords rs

abbrev pub uses_given : Option (List Entry) → ImportSet → List NameUse
uses_given None set = []
uses_given (Some exports) set = set_uses exports set

abbrev pub uses_in_set : List Placed → List UnitResult → ImportSet → Option LibraryName → List NameUse
uses_in_set all rs set None = []
uses_in_set all rs set (Some n) = uses_given (library_exports all rs n (standard n)) set

abbrev pub import_uses : List Placed → List UnitResult → List ImportSpec → List NameUse
import_uses all rs [] = []
import_uses all rs (s ∷ ss) = uses_in_set all rs s.set (library_in s.set) ++ import_uses all rs ss

-- a unit that is broken as a whole has none
abbrev pub unit_names : List Placed → Program → UnitResult → List NameUse
unit_names all p r =
    if is_some_fault r.fault then []
    else import_uses all p.units r.unit.specs ++ all_export_uses (names_of_unit p.table r.unit.number r.entries) r.unit.exports

abbrev pub program_names : List Placed → Program → List UnitResult → List NameUse
program_names all p [] = []
program_names all p (r ∷ rs) = unit_names all p r ++ program_names all p rs

-- a unit that is broken as a whole defines nothing
abbrev pub is_whole : Option UnitResult → Bool
is_whole None = false
is_whole (Some r) = not (is_some_fault r.fault)

abbrev pub program_table : Program → Table
program_table p = filter (λ d. is_whole (result_at p.units d.unit)) p.table

-- ---- binders

abbrev pub bound_here : Bound → Option Occ → Number → Option Occ → Option Occ
bound_here (LocalNumber w) o v rest = if same_number w v then o else rest
bound_here (Definition u n) o v rest = rest

abbrev pub local_at : List CoreLeaf → Number → Option Occ
local_at [] v = None
local_at (Binds b ∷ ls) v = bound_here b.bound b.occ v (local_at ls v)
local_at (Uses t ∷ ls) v = local_at ls v
local_at (Assigns t ∷ ls) v = local_at ls v
local_at (Quotes o ∷ ls) v = local_at ls v
local_at (Defines m ∷ ls) v = local_at ls v

abbrev pub occ_in : Option Defined → Option Occ
occ_in None = None
occ_in (Some d) = d.occ

-- the occurrence of what binds a meaning
abbrev pub binder_of : List CoreLeaf → Table → Meaning → Option Occ
binder_of leaves table (Local v) = local_at leaves v
binder_of leaves table (Global u i) = occ_in (defined_in table u i)
binder_of leaves table (Standard s) = None
binder_of leaves table (Free s) = None

-- both ends have an occurrence
abbrev pub arrow_of : Option Occ → Option Occ → List Arrow
arrow_of None o = []
arrow_of (Some b) None = []
arrow_of (Some b) (Some o) = record { binder = b; target = o } ∷ []

-- ---- live occurrences

abbrev pub is_occ : Occ → Option Occ → Bool
is_occ o None = false
is_occ o (Some p) = same_occ o p

abbrev pub leaf_at : Occ → CoreLeaf → Bool
leaf_at o (Binds b) = is_occ o b.occ
leaf_at o (Uses t) = is_occ o t.occ
leaf_at o (Assigns t) = is_occ o t.occ
leaf_at o (Quotes p) = is_occ o p
leaf_at o (Defines m) = false

abbrev pub any : {A : Type 0} → (A → Bool) → List A → Bool
any f [] = false
any f (x ∷ xs) = f x || any f xs

-- a leaf of a core, a keyword, a matched literal, or a name in an import or an export
abbrev pub is_live : List CoreLeaf → List Target → List NameUse → Occ → Bool
is_live leaves keywords names o = any (leaf_at o) leaves || (any (λ t. is_occ o t.occ) keywords || any (λ n. is_occ o n.occ) names)

abbrev pub is_live_at : List CoreLeaf → List Target → List NameUse → Option Occ → Bool
is_live_at leaves keywords names None = false
is_live_at leaves keywords names (Some o) = is_live leaves keywords names o

-- ---- arrows of the first kind: from the binder of a meaning to what has it

abbrev pub target_arrows : (Meaning → Option Occ) → List Target → List Arrow
target_arrows binder [] = []
target_arrows binder (t ∷ ts) = arrow_of (binder t.meaning) t.occ ++ target_arrows binder ts

abbrev pub name_arrows : (Meaning → Option Occ) → List NameUse → List Arrow
name_arrows binder [] = []
name_arrows binder (n ∷ ns) = arrow_of (binder n.meaning) n.occ ++ name_arrows binder ns

abbrev pub core_targets : List CoreLeaf → List Target
core_targets [] = []
core_targets (Binds b ∷ ls) = core_targets ls
core_targets (Uses t ∷ ls) = t ∷ core_targets ls
core_targets (Assigns t ∷ ls) = t ∷ core_targets ls
core_targets (Quotes o ∷ ls) = core_targets ls
core_targets (Defines m ∷ ls) = core_targets ls

-- ---- arrows of the second kind: from a pattern variable to its places in the template of its rule

abbrev pub variable_arrow : List (Variable Ident) → Ident → Option Occ → List Arrow
variable_arrow [] i o = []
variable_arrow (v ∷ vs) i o = if same_ident v.variable.name i then arrow_of v.variable.occ o else variable_arrow vs i o

abbrev mutual
  pub template_arrows : List (Variable Ident) → Tree Ident → List Arrow
  template_arrows vs (name i o) = variable_arrow vs i o
  template_arrows vs (atom a o) = []
  template_arrows vs (list ts tail o) = template_arrows_all vs ts ++ template_arrows_tail vs tail
  template_arrows vs (vector ts o) = template_arrows_all vs ts

  pub template_arrows_all : List (Variable Ident) → Trees Ident → List Arrow
  template_arrows_all vs no_trees = []
  template_arrows_all vs (tree t ts) = template_arrows vs t ++ template_arrows_all vs ts

  pub template_arrows_tail : List (Variable Ident) → Tail Ident → List Arrow
  template_arrows_tail vs proper = []
  template_arrows_tail vs (dotted t) = template_arrows vs t

abbrev pub ident_names : Names Ident
ident_names = record { same = same_ident; strip = symbol_of }

abbrev pub rule_arrows : Rules Ident → List (Rule Ident) → List Arrow
rule_arrows r [] = []
rule_arrows r (rule ∷ rules) = template_arrows (pattern_variables ident_names r rule) rule.template ++ rule_arrows r rules

-- ---- arrows of the third kind: from what a leaf of rules means where the macro is defined

abbrev pub leaf_arrows : (Meaning → Option Occ) → (Option Occ → Bool) → List RuleLeaf → List Arrow
leaf_arrows binder live [] = []
leaf_arrows binder live (l ∷ ls) =
    (if l.literal || not (live l.target.occ) then arrow_of (binder l.target.meaning) l.target.occ else []) ++ leaf_arrows binder live ls

abbrev pub macro_arrows : (Meaning → Option Occ) → (Option Occ → Bool) → List CoreLeaf → List Arrow
macro_arrows binder live [] = []
macro_arrows binder live (Binds b ∷ ls) = macro_arrows binder live ls
macro_arrows binder live (Uses t ∷ ls) = macro_arrows binder live ls
macro_arrows binder live (Assigns t ∷ ls) = macro_arrows binder live ls
macro_arrows binder live (Quotes o ∷ ls) = macro_arrows binder live ls
macro_arrows binder live (Defines m ∷ ls) = rule_arrows m.rules m.rules.rules ++ leaf_arrows binder live m.leaves ++ macro_arrows binder live ls

abbrev pub arrows_with : List CoreLeaf → List Target → List NameUse → Table → List Arrow
arrows_with leaves keywords names table =
    target_arrows (binder_of leaves table) (core_targets leaves ++ keywords) ++ name_arrows (binder_of leaves table) names ++
    macro_arrows (binder_of leaves table) (is_live_at leaves keywords names) leaves

-- the arrows of a program, of which some may be told twice
abbrev pub arrows_of : List Placed → Program → List Arrow
arrows_of all p = arrows_with (program_leaves p.units) (program_keywords p.units) (program_names all p p.units) (program_table p)

-- ---- binders and uses of an occurrence

abbrev pub places_at : Option Occ → List Occ
places_at None = []
places_at (Some o) = o ∷ []

abbrev pub variable_places : List (Variable Ident) → List Occ
variable_places [] = []
variable_places (v ∷ vs) = places_at v.variable.occ ++ variable_places vs

abbrev pub rule_binders : Rules Ident → List (Rule Ident) → List Occ
rule_binders r [] = []
rule_binders r (rule ∷ rules) = variable_places (pattern_variables ident_names r rule) ++ rule_binders r rules

abbrev pub leaf_binders : List CoreLeaf → List Occ
leaf_binders [] = []
leaf_binders (Binds b ∷ ls) = places_at b.occ ++ leaf_binders ls
leaf_binders (Uses t ∷ ls) = leaf_binders ls
leaf_binders (Assigns t ∷ ls) = leaf_binders ls
leaf_binders (Quotes o ∷ ls) = leaf_binders ls
leaf_binders (Defines m ∷ ls) = rule_binders m.rules m.rules.rules ++ leaf_binders ls

abbrev pub table_binders : Table → List Occ
table_binders [] = []
table_binders (d ∷ ds) = places_at d.occ ++ table_binders ds

-- what binds: the binders in cores, the pattern variables of rules, and what units define, also in broken forms
abbrev pub binders_in : Program → List Occ
binders_in p = leaf_binders (program_leaves p.units) ++ table_binders (program_table p)

abbrev pub itself_among : List Occ → Occ → List Occ
itself_among [] o = []
itself_among (b ∷ bs) o = if same_occ b o then o ∷ [] else itself_among bs o

-- the binders of an occurrence: itself where it binds, and each that has an arrow to it
abbrev pub binders_at : List Occ → List Arrow → Occ → List Occ
binders_at places arrows o = itself_among places o ++ map (λ a. a.binder) (filter (λ a. same_occ a.target o) arrows)

-- the uses of a binder
abbrev pub uses_at : List Arrow → Occ → List Occ
uses_at arrows o = map (λ a. a.target) (filter (λ a. same_occ a.binder o) arrows)
