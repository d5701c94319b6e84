-- What the binders of cores bind: those of a unit's own parts are its definitions, all others locals.
use Rattle.std.specs.Prelude.{List, [], ◌∷◌, Bool, true, false}
use Rattle.scheme_model.specs.Cores.{Bound, LocalNumber, Definition, Binder, MacroDef, Core, Ref, Const, Quote, Quasi, Lambda, CaseLambda, If, Set, Call, Body, LetSyntax, Cores, no_cores, core, Clauses, no_clauses, clause, Parts, no_parts, part, Part, Expression, Define, Values, Fields, Syntax}

-- it binds a local, or a definition of the unit
abbrev pub BindsAs : (local : Bool) → Bound → Type 0
BindsAs true (LocalNumber v) = Unit {0}
BindsAs true (Definition u n) = ⊥
BindsAs false (LocalNumber v) = ⊥
BindsAs false (Definition u n) = Unit {0}

abbrev pub AllBind : (local : Bool) → List Binder → Type 0
AllBind local [] = Unit {0}
AllBind local (b ∷ bs) = BindsAs local b.bound × AllBind local bs

abbrev pub AllMacrosBind : (local : Bool) → List MacroDef → Type 0
AllMacrosBind local [] = Unit {0}
AllMacrosBind local (m ∷ ms) = BindsAs local m.binder.bound × AllMacrosBind local ms

-- a core binds locals alone, and so do the parts of a body
abbrev mutual
  pub BindsLocals : Core → Type 0
  BindsLocals (Ref t) = Unit {0}
  BindsLocals (Const a) = Unit {0}
  BindsLocals (Quote d) = Unit {0}
  BindsLocals (Quasi d cs) = AllBindLocals cs
  BindsLocals (Lambda bs c) = AllBind true bs.names × BindsLocals c
  BindsLocals (CaseLambda cs) = ClausesBindLocals cs
  BindsLocals (If cs) = AllBindLocals cs
  BindsLocals (Set t c) = BindsLocals c
  BindsLocals (Call cs) = AllBindLocals cs
  BindsLocals (Body ps) = PartsBind true ps
  BindsLocals (LetSyntax ms c) = AllMacrosBind true ms × BindsLocals c

  pub AllBindLocals : Cores → Type 0
  AllBindLocals no_cores = Unit {0}
  AllBindLocals (core c cs) = BindsLocals c × AllBindLocals cs

  pub ClausesBindLocals : Clauses → Type 0
  ClausesBindLocals no_clauses = Unit {0}
  ClausesBindLocals (clause bs c cs) = AllBind true bs.names × BindsLocals c × ClausesBindLocals cs

  pub PartsBind : (local : Bool) → Parts → Type 0
  PartsBind local no_parts = Unit {0}
  PartsBind local (part p ps) = PartBinds local p × PartsBind local ps

  -- what a part itself binds is such; its cores bind locals, and so do a record's fields
  pub PartBinds : (local : Bool) → Part → Type 0
  PartBinds local (Expression c) = BindsLocals c
  PartBinds local (Define b c) = BindsAs local b.bound × BindsLocals c
  PartBinds local (Values bs c) = AllBind local bs.names × BindsLocals c
  PartBinds local (Fields r) = AllBind local r.binders × AllBind true r.fields
  PartBinds local (Syntax m) = BindsAs local m.binder.bound

-- the parts of a form of a unit
abbrev pub DefineOnTop : Parts → Type 0
DefineOnTop ps = PartsBind false ps
