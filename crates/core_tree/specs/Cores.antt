-- What a core of the code stands for, in a form of a unit.
use Rattle.std.specs.Prelude.{◌≡◌, ℕ, List, [], ◌∷◌, Bool, Option, Vec}
use Rattle.std.specs.Global.{Box}
use Rattle.std.specs.declared.alloc.Global.{Global}
use Rattle.scheme_model.specs.declared.Occ.{Occ}
use Rattle.scheme_model.specs.Trees.{Tree, atom, map_tree}
use Rattle.scheme_model.specs.Ident.{Ident as Identifier, symbol_of}
use Rattle.scheme_model.specs.Cores.{Core, Ref, Const, Quote, Quasi, Lambda, CaseLambda, If, Set, Call, Body, LetSyntax, Cores, no_cores, core, Clauses, no_clauses, clause, Parts, no_parts, part, Part, Expression, Define, Values, Fields, Syntax, Binders}
use Rattle.syntax_tree.specs.Works.{StandsFor}
use Rattle.syntax_tree.specs.declared.trees.Work.{Work}
use Rattle.syntax_tree.specs.declared.trees.nodes.Tree as number
use Rattle.scheme_model.specs.Holes.{hole_places, HasHoles}
use Rattle.core_tree.specs.Names.{AllMatch, IsBinder, IsTarget, IsMacro, IsField}
use Rattle.core_tree.specs.declared.cores.Binder as code_binder
use Rattle.core_tree.specs.declared.cores.Target as code_target
use Rattle.core_tree.specs.declared.cores.MacroDef as code_macro
use Rattle.core_tree.specs.declared.cores.FieldUse as code_field
use Rattle.core_tree.specs.declared.cores.Core as code
use Rattle.core_tree.specs.declared.cores.Core.TheVariants as cores
use Rattle.core_tree.specs.declared.cores.Clause as code_clause
use Rattle.core_tree.specs.declared.cores.CorePart as code_part
use Rattle.core_tree.specs.declared.cores.CorePart.TheVariants as parts

abbrev pub AreBinders : Work → (unit form : ℕ) → Vec code_binder.Binder Global → Bool → Binders → Type 0
AreBinders work unit form bs rest m = AllMatch (IsBinder work.symbols unit form) bs.items m.names × (rest ≡ m.rest)

-- the datum stands for a tree with these holes, and the places tell where they are
abbrev pub IsHoled : Work → number.Tree → List ℕ → Tree (Option (List ℕ)) → Type 0
IsHoled work n places h = (t : Tree Identifier) × StandsFor work n t × HasHoles symbol_of t h × (places ≡ hole_places h)

-- a clause of the code has these binders and this body
abbrev pub IsClause : Work → (unit form : ℕ) → code_clause.Clause → Binders → Box code.Core → Type 0
IsClause work unit form x bs y =
    (names : Vec code_binder.Binder Global) × (dotted : Bool) × (code_clause.out-Clause x ≡ record { binders = names; dotted = dotted; body = y }) × AreBinders work unit form names dotted bs

abbrev mutual
  pub CoreStands : Work → (unit form : ℕ) → code.Core → Core → Type 0
  CoreStands work unit form c (Ref t) = (x : code_target.Target) × (c ≡ cores.Ref x) × IsTarget work.symbols unit form x t
  CoreStands work unit form c (Const a) = (n : number.Tree) × (o : Option Occ) × (c ≡ cores.Const n) × StandsFor work n (atom a o)
  CoreStands work unit form c (Quote s) = (n : number.Tree) × (t : Tree Identifier) × (c ≡ cores.Quote n) × StandsFor work n t × (map_tree symbol_of t ≡ s)
  CoreStands work unit form c (Quasi h ms) =
      (n : number.Tree) × (places : Vec ℕ Global) × (xs : Vec code.Core Global) × (c ≡ cores.Quasi n places xs) × IsHoled work n places.items h × CoresStand work unit form xs.items ms
  CoreStands work unit form c (Lambda bs m) = (x : code_clause.Clause) × (y : Box code.Core) × (c ≡ cores.Lambda x) × IsClause work unit form x bs y × CoreStands work unit form y.value m
  CoreStands work unit form c (CaseLambda ms) = (xs : Vec code_clause.Clause Global) × (c ≡ cores.CaseLambda xs) × ClausesStand work unit form xs.items ms
  CoreStands work unit form c (If ms) = (xs : Vec code.Core Global) × (c ≡ cores.If xs) × CoresStand work unit form xs.items ms
  CoreStands work unit form c (Set t m) = (x : code_target.Target) × (y : Box code.Core) × (c ≡ cores.Set x y) × IsTarget work.symbols unit form x t × CoreStands work unit form y.value m
  CoreStands work unit form c (Call ms) = (xs : Vec code.Core Global) × (c ≡ cores.Call xs) × CoresStand work unit form xs.items ms
  CoreStands work unit form c (Body ms) = (xs : Vec code_part.CorePart Global) × (c ≡ cores.Body xs) × PartsStand work unit form xs.items ms
  CoreStands work unit form c (LetSyntax ds m) =
      (xs : Vec code_macro.MacroDef Global) × (y : Box code.Core) × (c ≡ cores.LetSyntax xs y) × AllMatch (IsMacro work unit form) xs.items ds × CoreStands work unit form y.value m

  pub CoresStand : Work → (unit form : ℕ) → List code.Core → Cores → Type 0
  CoresStand work unit form [] no_cores = Unit {0}
  CoresStand work unit form [] (core m ms) = ⊥
  CoresStand work unit form (x ∷ xs) no_cores = ⊥
  CoresStand work unit form (x ∷ xs) (core m ms) = CoreStands work unit form x m × CoresStand work unit form xs ms

  pub ClausesStand : Work → (unit form : ℕ) → List code_clause.Clause → Clauses → Type 0
  ClausesStand work unit form [] no_clauses = Unit {0}
  ClausesStand work unit form [] (clause bs m ms) = ⊥
  ClausesStand work unit form (x ∷ xs) no_clauses = ⊥
  ClausesStand work unit form (x ∷ xs) (clause bs m ms) = ((y : Box code.Core) × IsClause work unit form x bs y × CoreStands work unit form y.value m) × ClausesStand work unit form xs ms

  pub PartsStand : Work → (unit form : ℕ) → List code_part.CorePart → Parts → Type 0
  PartsStand work unit form [] no_parts = Unit {0}
  PartsStand work unit form [] (part m ms) = ⊥
  PartsStand work unit form (x ∷ xs) no_parts = ⊥
  PartsStand work unit form (x ∷ xs) (part m ms) = PartStands work unit form x m × PartsStand work unit form xs ms

  pub PartStands : Work → (unit form : ℕ) → code_part.CorePart → Part → Type 0
  PartStands work unit form p (Expression m) = (x : code.Core) × (p ≡ parts.Expression x) × CoreStands work unit form x m
  PartStands work unit form p (Define b m) = (x : code_binder.Binder) × (y : code.Core) × (p ≡ parts.Define x y) × IsBinder work.symbols unit form x b × CoreStands work unit form y m
  PartStands work unit form p (Values bs m) =
      (names : Vec code_binder.Binder Global) × (dotted : Bool) × (y : code.Core) × (p ≡ parts.Values names dotted y) × AreBinders work unit form names dotted bs × CoreStands work unit form y m
  PartStands work unit form p (Fields r) =
      (bs : Vec code_binder.Binder Global) × (fs : Vec code_binder.Binder Global) × (ms : Vec ℕ Global) × (us : Vec code_field.FieldUse Global) × (p ≡ parts.Fields bs fs ms us)
      × AllMatch (IsBinder work.symbols unit form) bs.items r.binders × AllMatch (IsBinder work.symbols unit form) fs.items r.fields × (ms.items ≡ r.modified) × AllMatch IsField us.items r.used
  PartStands work unit form p (Syntax d) = (x : code_macro.MacroDef) × (p ≡ parts.Syntax x) × IsMacro work unit form x d
