-- What binders, uses and macros of the code stand for, in a form of a unit.
use Rattle.std.specs.Prelude.{◌≡◌, ℕ, List, [], ◌∷◌}
use Rattle.scheme_model.specs.Cores.{Target, Bound, LocalNumber, Definition, Binder, RuleLeaf, MacroDef, FieldUse, MacroUse}
use Rattle.syntax_tree.specs.Names.{Names}
use Rattle.syntax_tree.specs.Macros.{IsIdent, RulesFor}
use Rattle.syntax_tree.specs.Meant.{IsMeaning}
use Rattle.syntax_tree.specs.declared.trees.Work.{Work}
use Rattle.core_tree.specs.declared.cores.Binder as code_binder
use Rattle.core_tree.specs.declared.cores.Target as code_target
use Rattle.core_tree.specs.declared.cores.RuleLeaf as code_leaf
use Rattle.core_tree.specs.declared.cores.MacroDef as code_macro
use Rattle.core_tree.specs.declared.cores.FieldUse as code_field
use Rattle.core_tree.specs.declared.traces.MacroUse as code_use

-- a list of the code stands for a list of the definitions, one by one
abbrev pub AllMatch : {X Y : Type 0} → (X → Y → Type 0) → List X → List Y → Type 0
AllMatch P [] [] = Unit {0}
AllMatch P [] (y ∷ ys) = ⊥
AllMatch P (x ∷ xs) [] = ⊥
AllMatch P (x ∷ xs) (y ∷ ys) = P x y × AllMatch P xs ys

-- the number of a local of the form, or of a definition of the unit
abbrev pub IsBound : (unit form : ℕ) → ℕ → Bound → Type 0
IsBound unit form n (LocalNumber v) = v ≡ record { unit = unit; form = form; count = n }
IsBound unit form n (Definition u d) = (u ≡ unit) × (d ≡ n)

pub record IsBinder (names : Names) (unit form : ℕ) (b : code_binder.Binder) (m : Binder) : Type 0 where
  pub number : IsBound unit form b.number m.bound
  pub ident : IsIdent names b.ident m.ident
  pub place : b.occ ≡ m.occ

pub record IsTarget (names : Names) (unit form : ℕ) (t : code_target.Target) (m : Target) : Type 0 where
  pub meaning : IsMeaning names unit form t.meaning m.meaning
  pub ident : IsIdent names t.ident m.ident
  pub place : t.occ ≡ m.occ

pub record IsLeaf (names : Names) (unit form : ℕ) (l : code_leaf.RuleLeaf) (m : RuleLeaf) : Type 0 where
  pub target : IsTarget names unit form l.target m.target
  pub literal : l.literal ≡ m.literal

pub record IsMacro (work : Work) (unit form : ℕ) (d : code_macro.MacroDef) (m : MacroDef) : Type 0 where
  pub binder : IsBinder work.symbols unit form d.binder m.binder
  pub rules : RulesFor work d.rules m.rules
  pub leaves : AllMatch (IsLeaf work.symbols unit form) d.leaves.items m.leaves

pub record IsField (f : code_field.FieldUse) (m : FieldUse) : Type 0 where
  pub field : f.field ≡ m.field
  pub place : f.occ ≡ m.occ

pub record IsUse (names : Names) (unit form : ℕ) (u : code_use.MacroUse) (m : MacroUse) : Type 0 where
  pub keyword : IsTarget names unit form u.keyword m.keyword
  pub literals : AllMatch (IsTarget names unit form) u.literals.items m.literals
