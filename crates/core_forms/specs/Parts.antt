-- What the parts of a form that is read stand for: names, trees, clauses, fields, local macros and choices.
use Rattle.std.specs.Prelude.{◌≡◌, ℕ, List, [], ◌∷◌, Option, Some, None, Vec, slice_get}
use Rattle.std.specs.declared.alloc.Global.{Global}
use Rattle.scheme_model.specs.Trees.{Tree, Trees, no_trees, tree}
use Rattle.scheme_model.specs.ExpansionFaults.{Named}
use Rattle.scheme_model.specs.Shapes.{Formals, Clause, FieldShape}
use Rattle.scheme_model.specs.Ident.{Ident as Identifier}
use Rattle.syntax_tree.specs.Looks.{PartsStand}
use Rattle.syntax_tree.specs.Macros.{IsIdent}
use Rattle.syntax_tree.specs.Works.{StandsFor}
use Rattle.syntax_tree.specs.declared.trees.Work.{Work}
use Rattle.syntax_tree.specs.declared.trees.nodes.Tree as number
use Rattle.core_forms.specs.declared.rows.Row.{Row}
use Rattle.core_forms.specs.declared.rows.Row.TheVariants as rows
use Rattle.core_forms.specs.declared.shape.NamePart as code_name
use Rattle.core_forms.specs.declared.shape.Formals as code_formals
use Rattle.core_forms.specs.declared.shape.ClauseShape as code_clause
use Rattle.core_forms.specs.declared.shape.FieldShape as code_field
use Rattle.core_forms.specs.declared.shape.LocalMacro as code_macro
use Rattle.core_forms.specs.declared.shape.Choice as code_choice
use Rattle.core_forms.specs.declared.records.Constructor as code_constructor

-- each of the first stands for one of the second, in order
abbrev pub AllMatch : {X Y : Type 0} → (X → Y → Type 0) → List X → List Y → Type 0
AllMatch P [] [] = Unit {0}
AllMatch P [] (y ∷ ys) = ⊥
AllMatch P (x ∷ xs) [] = ⊥
AllMatch P (x ∷ xs) (y ∷ ys) = P x y × AllMatch P xs ys

-- a row of trees by its first
abbrev pub IsRow : Work → Row → Trees Identifier → Type 0
IsRow work rows.Empty ts = ts ≡ no_trees
IsRow work (rows.Parts n ns) ts = (t : Tree Identifier) × (us : Trees Identifier) × (ts ≡ tree t us) × StandsFor work n t × PartsStand work ns.now us

-- an identifier with its place
abbrev pub IsName : Work → code_name.NamePart → Named Identifier → Type 0
IsName work n m = IsIdent work.symbols n.ident m.name × (n.occ ≡ m.occ)

abbrev pub AreNames : Work → Vec code_name.NamePart Global → List (Named Identifier) → Type 0
AreNames work ns ms = AllMatch (IsName work) ns.items ms

-- where there is one
abbrev pub IsNameIfAny : Work → Option code_name.NamePart → Option (Named Identifier) → Type 0
IsNameIfAny work None None = Unit {0}
IsNameIfAny work None (Some m) = ⊥
IsNameIfAny work (Some n) None = ⊥
IsNameIfAny work (Some n) (Some m) = IsName work n m

abbrev pub AreTrees : Work → Vec number.Tree Global → Trees Identifier → Type 0
AreTrees work ns ts = PartsStand work ns.items ts

pub record IsFormals (work : Work) (f : code_formals.Formals) (m : Formals Identifier) : Type 0 where
  pub names : AreNames work f.names m.names
  pub rest : f.dotted ≡ m.rest

pub record IsClause (work : Work) (c : code_clause.ClauseShape) (m : Clause Identifier) : Type 0 where
  pub formals : IsFormals work c.formals m.formals
  pub body : AreTrees work c.body m.body

abbrev pub AreClauses : Work → Vec code_clause.ClauseShape Global → List (Clause Identifier) → Type 0
AreClauses work cs ms = AllMatch (IsClause work) cs.items ms

abbrev pub IsConstructor : Work → code_constructor.Constructor → Named Identifier × List (Named Identifier) → Type 0
IsConstructor work c p = IsName work c.name p.0 × AreNames work c.used p.1

pub record IsField (work : Work) (f : code_field.FieldShape) (m : FieldShape Identifier) : Type 0 where
  pub field : IsName work f.name m.field
  pub accessor : IsName work f.accessor m.accessor
  pub modifier : IsNameIfAny work f.modifier m.modifier

abbrev pub AreFields : Work → Vec code_field.FieldShape Global → List (FieldShape Identifier) → Type 0
AreFields work fs ms = AllMatch (IsField work) fs.items ms

-- a name and a tree
abbrev pub IsMacro : Work → code_macro.LocalMacro → Named Identifier × Tree Identifier → Type 0
IsMacro work m p = IsName work m.name p.0 × StandsFor work m.rules p.1

abbrev pub AreMacros : Work → List code_macro.LocalMacro → List (Named Identifier) → Trees Identifier → Type 0
AreMacros work [] [] no_trees = Unit {0}
AreMacros work [] [] (tree t ts) = ⊥
AreMacros work [] (n ∷ ns) ts = ⊥
AreMacros work (m ∷ ms) [] ts = ⊥
AreMacros work (m ∷ ms) (n ∷ ns) no_trees = ⊥
AreMacros work (m ∷ ms) (n ∷ ns) (tree t ts) = IsMacro work m (n, t) × AreMacros work ms ns ts

abbrev pub AreBindings : Work → Vec code_macro.LocalMacro Global → List (Named Identifier × Tree Identifier) → Type 0
AreBindings work ms ps = AllMatch (IsMacro work) ms.items ps

-- a symbol's number
abbrev pub IsSymbol : Work → ℕ → List ℕ → Type 0
IsSymbol work n s = slice_get work.symbols.symbols n ≡ Some s

abbrev pub IsChoice : Work → code_choice.Choice → Tree Identifier × Trees Identifier → Type 0
IsChoice work c p = StandsFor work c.requirement p.0 × AreTrees work c.forms p.1

abbrev pub AreChoices : Work → Vec code_choice.Choice Global → List (Tree Identifier × Trees Identifier) → Type 0
AreChoices work cs ps = AllMatch (IsChoice work) cs.items ps
