-- Cores: what forms expand to (R7RS 4.1, 4.2.8, 4.3.1, 5.3, 5.5).
use Rattle.std.specs.Prelude.{ℕ, ◌+◌, List, Bool, Option, Some, None}
use Rattle.scheme_model.specs.declared.Occ.{Occ}
use Rattle.scheme_model.specs.Identifiers.{Number}
use Rattle.scheme_model.specs.Ident.{Ident}
use Rattle.scheme_model.specs.Meaning.{Meaning}
use Rattle.scheme_model.specs.RulesShape.{Rules}
use Rattle.scheme_model.specs.Trees.{Atom, Tree, name, atom, list, vector, Trees, no_trees, tree, Tail, proper, dotted}

-- an identifier where it is used, and what it means there
pub record Target : Type 0 where
  pub meaning : Meaning
  pub ident : Ident
  pub occ : Option Occ

-- what a binder binds: a local, or the definition of a unit with this place among its definitions
pub data Bound : Type 0 where
  LocalNumber : Number → Bound
  Definition : (unit count : ℕ) → Bound

-- an identifier where it is bound
pub record Binder : Type 0 where
  pub bound : Bound
  pub ident : Ident
  pub occ : Option Occ

-- binders, the last of which takes the arguments that are left where `rest` holds
pub record Binders : Type 0 where
  pub names : List Binder
  pub rest : Bool

-- a leaf of a macro's rules, and what it means where the macro is defined: a literal in its list or in a pattern, or an
-- identifier of a template that is no pattern variable
pub record RuleLeaf : Type 0 where
  pub target : Target
  pub literal : Bool

pub record MacroDef : Type 0 where
  pub binder : Binder
  pub rules : Rules Ident
  pub leaves : List RuleLeaf

-- a field that a record's constructor uses, by its place among the fields
pub record FieldUse : Type 0 where
  pub field : ℕ
  pub occ : Option Occ

-- a record's binders are its type, its constructor, its predicate, its accessors and its modifiers
pub record RecordType : Type 0 where
  pub binders : List Binder
  pub fields : List Binder
  pub modified : List ℕ
  pub used : List FieldUse

mutual
  pub data Core : Type 0 where
    Ref : Target → Core
    Const : Atom → Core
    Quote : Tree (List ℕ) → Core
    Quasi : Tree (Option (List ℕ)) → Cores → Core
    Lambda : Binders → Core → Core
    CaseLambda : Clauses → Core
    If : Cores → Core
    Set : Target → Core → Core
    Call : Cores → Core
    Body : Parts → Core
    LetSyntax : List MacroDef → Core → Core

  pub data Cores : Type 0 where
    no_cores : Cores
    core : Core → Cores → Cores

  pub data Clauses : Type 0 where
    no_clauses : Clauses
    clause : Binders → Core → Clauses → Clauses

  pub data Parts : Type 0 where
    no_parts : Parts
    part : Part → Parts → Parts

  pub data Part : Type 0 where
    Expression : Core → Part
    Define : Binder → Core → Part
    Values : Binders → Core → Part
    Fields : RecordType → Part
    Syntax : MacroDef → Part

-- a macro use: its keyword, and the leaves of the form that met a literal
pub record MacroUse : Type 0 where
  pub keyword : Target
  pub literals : List Target

-- a tree's nodes, its names with weights of their own
abbrev mutual
  pub weight : {A : Type 0} → (A → ℕ) → Tree A → ℕ
  weight of (name i o) = of i
  weight of (atom a o) = 1
  weight of (list ts tail o) = weights of ts + tail_weight of tail + 1
  weight of (vector ts o) = weights of ts + 1

  pub weights : {A : Type 0} → (A → ℕ) → Trees A → ℕ
  weights of no_trees = 0
  weights of (tree t ts) = weight of t + weights of ts

  pub tail_weight : {A : Type 0} → (A → ℕ) → Tail A → ℕ
  tail_weight of proper = 0
  tail_weight of (dotted t) = weight of t

abbrev pub hole_weight : {A : Type 0} → Option A → ℕ
hole_weight None = 0
hole_weight (Some i) = 1

-- how many nodes of a datum with holes stand outside these
abbrev pub outside : {A : Type 0} → Tree (Option A) → ℕ
outside t = weight hole_weight t
