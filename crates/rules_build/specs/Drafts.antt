-- What is to be built, before a node of it is made.
use Rattle.std.specs.Prelude.{◌≡◌, ℕ, ◌+◌, ◌-◌, ◌≤◌, nat_le, false, true, Bool, List, [], ◌∷◌, ◌++◌, Option, Some, None, if◌then◌else◌, Vec}
use Rattle.std.specs.Global.{Box}
use Rattle.std.specs.declared.alloc.Global.{Global}
use Rattle.scheme_model.specs.declared.Occ.{Occ}
use Rattle.scheme_model.specs.Identifiers.{Number}
use Rattle.scheme_model.specs.Trees.{Atom, Tree, name, atom, list, vector, Trees, no_trees, tree, Tail, proper, dotted}
use Rattle.scheme_model.specs.TreeParts.{append, count}
use Rattle.scheme_model.specs.Matching.{behind}
use Rattle.scheme_model.specs.Building.{Built}
use Rattle.scheme_model.specs.Ident.{Ident as Identifier, Inserted}
use Rattle.syntax_tree.specs.Standing.{is_list, leaf_tree}
use Rattle.syntax_tree.specs.Works.{StandsFor, CanName}
use Rattle.syntax_tree.specs.Macros.{IsIdent}
use Rattle.syntax_tree.specs.declared.trees.Work.{Work}
use Rattle.syntax_tree.specs.declared.trees.table.Region.{Region}
use Rattle.syntax_tree.specs.declared.trees.nodes.Tree as number
use Rattle.syntax_tree.specs.declared.trees.nodes.Leaf.{Leaf}
use Rattle.rules_build.specs.declared.plan.Plan.{Plan}
use Rattle.rules_build.specs.declared.plan.Plan.TheVariants as plan
use Rattle.rules_build.specs.declared.plan.End.{End}
use Rattle.rules_build.specs.declared.plan.End.TheVariants as end

-- what is left of a number, where anything is left, when so many are taken
abbrev pub spent : Option ℕ → ℕ → Option ℕ
spent None n = None
spent (Some r) n = if nat_le n r then Some (r - n) else None

-- a tree that is there; an identifier, which the use marks; another atom; a list with what comes behind its parts; or a vector
mutual
  pub data Draft : Type 0 where
    held : Tree Identifier → Draft
    marked : Identifier → Option Occ → Draft
    plain : Atom → Draft
    listed : Drafts → Ending → Draft
    in_vector : Drafts → Draft

  pub data Drafts : Type 0 where
    no_drafts : Drafts
    draft : Draft → Drafts → Drafts

  -- nothing, a tail, or the parts and the tail of a list that is there
  pub data Ending : Type 0 where
    ends : Ending
    tailed : Draft → Ending
    goes_on : Trees Identifier → Tail Identifier → Ending

-- ---- what is built

abbrev pub ending_parts : Ending → Trees Identifier
ending_parts ends = no_trees
ending_parts (tailed d) = no_trees
ending_parts (goes_on us tail) = us

abbrev mutual
  pub tree_of : Number → Draft → Tree Identifier
  tree_of k (held t) = t
  tree_of k (marked i o) = name (Inserted i k) o
  tree_of k (plain a) = atom a None
  tree_of k (listed ds e) = list (row_of k ds (ending_parts e)) (tail_of k e) None
  tree_of k (in_vector ds) = vector (row_of k ds no_trees) None

  -- trees in a row, before others
  pub row_of : Number → Drafts → Trees Identifier → Trees Identifier
  row_of k no_drafts us = us
  row_of k (draft d ds) us = tree (tree_of k d) (row_of k ds us)

  pub tail_of : Number → Ending → Tail Identifier
  tail_of k ends = proper
  tail_of k (tailed d) = dotted (tree_of k d)
  tail_of k (goes_on us tail) = tail

-- how many nodes are made
abbrev mutual
  pub makes : Draft → ℕ
  makes (held t) = 0
  makes (marked i o) = 1
  makes (plain a) = 1
  makes (listed ds e) = 1 + (all_make ds + ending_makes e)
  makes (in_vector ds) = 1 + all_make ds

  pub all_make : Drafts → ℕ
  all_make no_drafts = 0
  all_make (draft d ds) = makes d + all_make ds

  pub ending_makes : Ending → ℕ
  ending_makes ends = 0
  ending_makes (tailed d) = makes d
  ending_makes (goes_on us tail) = 0

-- it is a list
abbrev pub is_listed : Draft → Bool
is_listed (held t) = is_list t
is_listed (marked i o) = false
is_listed (plain a) = false
is_listed (listed ds e) = true
is_listed (in_vector ds) = false

-- ---- what the code has for it

-- these are the parts of a list from a place on and its tail, and nodes of the region may name the list
pub record IsRestOf (work : Work) (region : Region) (n : number.Tree) (from : ℕ) (us : Trees Identifier) (tail : Tail Identifier) : Type 0 where
  pub parts : Trees Identifier
  pub place : Option Occ
  pub whole : StandsFor work n (list parts tail place)
  pub within : from ≤ count parts
  pub rest : us ≡ behind from parts
  pub named : CanName work region n

abbrev mutual
  pub IsDraft : Work → Region → Plan → Draft → Type 0
  IsDraft work region p (held t) = (n : number.Tree) × (p ≡ plan.Held n) × StandsFor work n t × CanName work region n
  IsDraft work region p (marked i o) = (n : ℕ) × (p ≡ plan.Name n o) × IsIdent work.symbols n i
  IsDraft work region p (plain a) = (leaf : Leaf) × (p ≡ plan.Atom leaf) × (leaf_tree work.symbols leaf None ≡ Some (atom a None))
  IsDraft work region p (listed ds e) = (items : Vec Plan Global) × (behind : End) × (p ≡ plan.List items behind) × AreDrafts work region items.items ds × IsEnding work region behind e
  IsDraft work region p (in_vector ds) = (items : Vec Plan Global) × (p ≡ plan.Vector items) × AreDrafts work region items.items ds

  pub AreDrafts : Work → Region → List Plan → Drafts → Type 0
  AreDrafts work region [] no_drafts = Unit {0}
  AreDrafts work region [] (draft d ds) = ⊥
  AreDrafts work region (p ∷ ps) no_drafts = ⊥
  AreDrafts work region (p ∷ ps) (draft d ds) = IsDraft work region p d × AreDrafts work region ps ds

  -- a tail is no list
  pub IsEnding : Work → Region → End → Ending → Type 0
  IsEnding work region e ends = e ≡ end.Proper
  IsEnding work region e (tailed d) = (p : Box Plan) × (e ≡ end.Dotted p) × (is_listed d ≡ false) × IsDraft work region p.value d
  IsEnding work region e (goes_on us tail) = (n : number.Tree) × (from : ℕ) × (e ≡ end.Behind n from) × IsRestOf work region n from us tail

-- the plan stands for something to be built
abbrev pub CanStand : Work → Plan → Type 0
CanStand work p = (region : Region) × (d : Draft) × IsDraft work region p d

abbrev pub AllCanStand : Work → List Plan → Type 0
AllCanStand work ps = (region : Region) × (ds : Drafts) × AreDrafts work region ps ds

abbrev pub RestStands : Work → number.Tree → ℕ → Type 0
RestStands work n from = (region : Region) × (us : Trees Identifier) × (tail : Tail Identifier) × IsRestOf work region n from us tail

-- ---- plans of what is built

-- a plan of the tree, which makes no more nodes than are counted
abbrev pub IsPlanOf : Work → Region → Number → Plan → Built (Tree Identifier) → Type 0
IsPlanOf work region k p b = (d : Draft) × IsDraft work region p d × (tree_of k d ≡ b.value) × (makes d ≤ b.count)

-- plans of the trees were added to others
abbrev pub ArePlansOf : Work → Region → Number → List Plan → List Plan → Built (Trees Identifier) → Type 0
ArePlansOf work region k old new b = (more : List Plan) × (ds : Drafts) × (new ≡ old ++ more) × AreDrafts work region more ds × (row_of k ds no_trees ≡ b.value) × (all_make ds ≤ b.count)

-- what comes behind the parts of a list with this tail: the parts and the tail of a tail that is a list
abbrev pub front_of : Tree Identifier → Trees Identifier
front_of (name i o) = no_trees
front_of (atom a o) = no_trees
front_of (list us tail o) = us
front_of (vector us o) = no_trees

abbrev pub back_of : Tree Identifier → Tail Identifier
back_of (name i o) = dotted (name i o)
back_of (atom a o) = dotted (atom a o)
back_of (list us tail o) = tail
back_of (vector us o) = dotted (vector us o)

-- the end of a list with this tail
abbrev pub IsEndOf : Work → Region → Number → Tree Identifier → End → Type 0
IsEndOf work region k t behind = (e : Ending) × IsEnding work region behind e × (ending_parts e ≡ front_of t) × (tail_of k e ≡ back_of t) × (ending_makes e ≡ 0)

-- parts with those of a tail that is a list, and the end
abbrev pub IsEndedBy : Work → Region → Number → Drafts → Draft → List Plan → End → Type 0
IsEndedBy work region k ds d ps behind =
    (all : Drafts) × (e : Ending) × AreDrafts work region ps all × IsEnding work region behind e × (row_of k all (ending_parts e) ≡ append (row_of k ds no_trees) (front_of (tree_of k d)))
    × (tail_of k e ≡ back_of (tree_of k d)) × (all_make all + ending_makes e ≤ all_make ds + makes d)
