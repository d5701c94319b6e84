-- A shape of the code with parts that are to be expanded stands for a shape of the same kind, and what is demanded of these parts
-- holds of them.
use Rattle.std.proofs.Common.{◌≡◌, ℕ, suc, List, [], ◌∷◌, length, map, Bool, true, false, Option, Some, None, refl, sym, ap, ◌∙◌, subst, arith}
use Rattle.std.specs.Prelude.{Vec}
use Rattle.std.specs.List.{AllByRecursion}
use Rattle.std.specs.declared.alloc.Global.{Global}
use Rattle.scheme_model.specs.Trees.{Tree, Trees, no_trees, tree}
use Rattle.scheme_model.specs.Holes.{hole_places}
use Rattle.scheme_model.specs.ExpansionFaults.{Named}
use Rattle.scheme_model.specs.Keywords.{CoreKeyword, IsLetrecSyntax}
use Rattle.scheme_model.specs.Quasiquote.{Pieces}
use Rattle.scheme_model.specs.Shapes.{Clause, LocalMacros}
use Rattle.scheme_model.specs.Order.{Here, Ops}
use Rattle.scheme_model.specs.Expression.{Expander}
use Rattle.scheme_model.specs.Ident.{Ident as Identifier}
use Rattle.syntax_tree.specs.Looks.{PartsStand}
use Rattle.syntax_tree.specs.Works.{StandsFor}
use Rattle.syntax_tree.specs.declared.trees.Work.{Work}
use Rattle.syntax_tree.specs.declared.trees.nodes.Tree as number
use Rattle.syntax_tree.specs.declared.trees.table.Region.{Region}
use Rattle.core_forms.specs.Ends.{keyword_as, ShapeFor}
use Rattle.core_forms.specs.Forms.{Shape, Quoted, Quasi, Procedure, Procedures, Conditional, Assignment, Sequence, Definition, Several, RecordType, Syntax, Local, Choices, ErrorText, Inclusion}
use Rattle.core_forms.specs.Named.{ClauseNamed}
use Rattle.core_forms.specs.Parts.{AllMatch as AllParts, IsName, IsClause, AreTrees, AreClauses, AreMacros}
use Rattle.core_forms.specs.declared.shape.Choice.{Choice}
use Rattle.core_forms.specs.declared.shape.ClauseShape.{ClauseShape}
use Rattle.core_forms.specs.declared.shape.CoreKeyword as code_keyword
use Rattle.core_forms.specs.declared.shape.CoreKeyword.TheVariants as word
use Rattle.core_forms.specs.declared.shape.CoreShape as code
use Rattle.core_forms.specs.declared.shape.CoreShape.TheVariants as shapes
use Rattle.core_forms.specs.declared.shape.LocalMacro.{LocalMacro}
use Rattle.core_forms.specs.declared.shape.NamePart.{NamePart}
use Rattle.core_tree.specs.Names.{AllMatch}
use Rattle.expander.specs.CoreSteps.{IsLeft, local_step}
use Rattle.expander.specs.Expanded.{macros_step}
use Rattle.unit_scopes.specs.Kept.{ClauseFor}
use Rattle.expander.specs.Passed.{ClausesFit}
use Rattle.expander.proofs.ShapeKinds.{same_kind}

module _ (work : Work) (P : Shape → Type 0) where
  pub as_quasi : (n : number.Tree) (ns : Vec number.Tree Global) (places : Vec ℕ Global) (m : Shape) → ShapeFor work (shapes.Quasi n ns places) m →
      ((t : Tree Identifier) (p : Pieces Identifier) → StandsFor work n t → AllParts (StandsFor work) ns.items p.holes → places.items ≡ hole_places p.datum → P (Quasi t p)) → P m
  as_quasi n ns places (Quasi t p) h f =
      let at = h.1.1.1 in
      let datum : h.0 ≡ n = cc in
      let parts : h.1.0 ≡ ns = cc in
      let where_holes : h.1.1.0 ≡ places = cc in
      f t p (subst (λ (x : number.Tree). StandsFor work x t) datum h.1.1.2) (subst (λ (x : Vec number.Tree Global). AllParts (StandsFor work) x.items p.holes) parts h.1.1.3)
      (subst (λ (x : Vec ℕ Global). x.items ≡ hole_places p.datum) where_holes h.1.1.4)
  as_quasi n ns places m h f = let k = same_kind work (shapes.Quasi n ns places) m h in absurd (omega (arith, k))

  pub as_lambda : (d : ClauseShape) (m : Shape) → ShapeFor work (shapes.Lambda d) m → ((c : Clause Identifier) → IsClause work d c → P (Procedure c)) → P m
  as_lambda d (Procedure c) h f = let at = h.1 in let e : h.0 ≡ d = cc in f c (subst (λ (x : ClauseShape). IsClause work x c) e h.2)
  as_lambda d m h f = let k = same_kind work (shapes.Lambda d) m h in absurd (omega (arith, k))

  pub as_case_lambda : (ds : Vec ClauseShape Global) (m : Shape) → ShapeFor work (shapes.CaseLambda ds) m → ((cs : List (Clause Identifier)) → AreClauses work ds cs → P (Procedures cs)) → P m
  as_case_lambda ds (Procedures cs) h f = let at = h.1 in let e : h.0 ≡ ds = cc in f cs (subst (λ (x : Vec ClauseShape Global). AreClauses work x cs) e h.2)
  as_case_lambda ds m h f = let k = same_kind work (shapes.CaseLambda ds) m h in absurd (omega (arith, k))

  pub as_if : (ns : Vec number.Tree Global) (m : Shape) → ShapeFor work (shapes.If ns) m → ((ts : Trees Identifier) → AreTrees work ns ts → P (Conditional ts)) → P m
  as_if ns (Conditional ts) h f = let at = h.1 in let e : h.0 ≡ ns = cc in f ts (subst (λ (x : Vec number.Tree Global). AreTrees work x ts) e h.2)
  as_if ns m h f = let k = same_kind work (shapes.If ns) m h in absurd (omega (arith, k))

  pub as_set : (n : NamePart) (v : number.Tree) (m : Shape) → ShapeFor work (shapes.Set n v) m → ((i : Named Identifier) (t : Tree Identifier) → IsName work n i → StandsFor work v t → P (Assignment (i, t))) → P m
  as_set n v (Assignment p) h f =
      let at = h.1.1 in
      let name : h.0 ≡ n = cc in
      let value : h.1.0 ≡ v = cc in
      f p.0 p.1 (subst (λ (x : NamePart). IsName work x p.0) name h.1.2) (subst (λ (x : number.Tree). StandsFor work x p.1) value h.1.3)
  as_set n v m h f = let k = same_kind work (shapes.Set n v) m h in absurd (omega (arith, k))

  pub as_local : (ms : Vec LocalMacro Global) (ns : Vec number.Tree Global) (m : Shape) → ShapeFor work (shapes.LetSyntax ms ns) m → ((l : LocalMacros Identifier) → AreMacros work ms.items l.names l.rules → AreTrees work ns l.body → P (Local l)) → P m
  as_local ms ns (Local l) h f =
      let at = h.1.1 in
      let macros : h.0 ≡ ms = cc in
      let body : h.1.0 ≡ ns = cc in
      f l (subst (λ (x : Vec LocalMacro Global). AreMacros work x.items l.names l.rules) macros h.1.2) (subst (λ (x : Vec number.Tree Global). AreTrees work x l.body) body h.1.3)
  as_local ms ns m h f = let k = same_kind work (shapes.LetSyntax ms ns) m h in absurd (omega (arith, k))

-- what is left and has no parts is a definition
abbrev pub IsMisplaced : Shape → Type 0
IsMisplaced (Definition d) = Unit {0}
IsMisplaced (Several p) = Unit {0}
IsMisplaced (RecordType r) = Unit {0}
IsMisplaced (Syntax p) = Unit {0}
IsMisplaced m = ⊥

-- ---- clauses

pub clauses_for : (work : Work) (region : Region) (xs : List ClauseShape) (cs : List (Clause Identifier)) → AllParts (IsClause work) xs cs → AllByRecursion (ClauseNamed work region) xs → ClausesFit cs → AllMatch (ClauseFor work region) xs cs
clauses_for work region [] [] are named fit = tt
clauses_for work region [] (c ∷ cs) are named fit = absurd are
clauses_for work region (x ∷ xs) [] are named fit = absurd are
clauses_for work region (x ∷ xs) (c ∷ cs) are named fit = ((are.0, named.0, fit.0), clauses_for work region xs cs are.1 named.1 fit.1)

pub parts_match : {X Y : Type 0} (P : X → Y → Type 0) (xs : List X) (ys : List Y) → AllParts P xs ys → AllMatch P xs ys
parts_match P [] [] h = tt
parts_match P [] (y ∷ ys) h = absurd h
parts_match P (x ∷ xs) [] h = absurd h
parts_match P (x ∷ xs) (y ∷ ys) h = (h.0, parts_match P xs ys h.1)

-- trees in a row
abbrev pub trees_of : List (Tree Identifier) → Trees Identifier
trees_of [] = no_trees
trees_of (t ∷ ts) = tree t (trees_of ts)

pub trees_stand : (work : Work) (ns : List number.Tree) (ts : List (Tree Identifier)) → AllParts (StandsFor work) ns ts → PartsStand work ns (trees_of ts)
trees_stand work [] [] h = tt
trees_stand work [] (t ∷ ts) h = absurd h
trees_stand work (n ∷ ns) [] h = absurd h
trees_stand work (n ∷ ns) (t ∷ ts) h = (h.0, trees_stand work ns ts h.1)

-- ---- definitions

pub misplaced_is : (work : Work) (x : code.CoreShape) (m : Shape) → ShapeFor work x m → IsLeft m → ((n : number.Tree) (ns : Vec number.Tree Global) (places : Vec ℕ Global) → x ≡ shapes.Quasi n ns places → ⊥) → ((d : ClauseShape) → x ≡ shapes.Lambda d → ⊥) → ((ds : Vec ClauseShape Global) → x ≡ shapes.CaseLambda ds → ⊥) →
    ((ns : Vec number.Tree Global) → x ≡ shapes.If ns → ⊥) → ((n : NamePart) (v : number.Tree) → x ≡ shapes.Set n v → ⊥) → ((ns : Vec number.Tree Global) → x ≡ shapes.Begin ns → ⊥) → ((ms : Vec LocalMacro Global) (ns : Vec number.Tree Global) → x ≡ shapes.LetSyntax ms ns → ⊥) →
    ((cs : Vec Choice Global) → x ≡ shapes.CondExpand cs → ⊥) → IsMisplaced m
misplaced_is work x (Quoted t) h left a b c d e f g i = absurd left
misplaced_is work x (Quasi t p) h left a b c d e f g i = absurd (a h.0 h.1.0 h.1.1.0 h.1.1.1)
misplaced_is work x (Procedure m) h left a b c d e f g i = absurd (b h.0 h.1)
misplaced_is work x (Procedures ms) h left a b c d e f g i = absurd (c h.0 h.1)
misplaced_is work x (Conditional ts) h left a b c d e f g i = absurd (d h.0 h.1)
misplaced_is work x (Assignment p) h left a b c d e f g i = absurd (e h.0 h.1.0 h.1.1)
misplaced_is work x (Sequence ts) h left a b c d e f g i = absurd (f h.0 h.1)
misplaced_is work x (Definition m) h left a b c d e f g i = tt
misplaced_is work x (Several p) h left a b c d e f g i = tt
misplaced_is work x (RecordType r) h left a b c d e f g i = tt
misplaced_is work x (Syntax p) h left a b c d e f g i = tt
misplaced_is work x (Local l) h left a b c d e f g i = absurd (g h.0 h.1.0 h.1.1)
misplaced_is work x (Choices ps) h left a b c d e f g i = absurd (i h.0 h.1)
misplaced_is work x (ErrorText text) h left a b c d e f g i = absurd left
misplaced_is work x Inclusion h left a b c d e f g i = absurd left

-- ---- local macros

pub names_of_macros : (work : Work) (ms : List LocalMacro) (ns : List (Named Identifier)) (ts : Trees Identifier) → AreMacros work ms ns ts → length ms ≡ length ns
names_of_macros work [] [] no_trees h = refl
names_of_macros work [] [] (tree t ts) h = absurd h
names_of_macros work [] (n ∷ ns) ts h = absurd h
names_of_macros work (m ∷ ms) [] ts h = absurd h
names_of_macros work (m ∷ ms) (n ∷ ns) no_trees h = absurd h
names_of_macros work (m ∷ ms) (n ∷ ns) (tree t ts) h = ap suc (names_of_macros work ms ns ts h.1)

pub macros_named : (work : Work) (ms : List LocalMacro) (ns : List (Named Identifier)) (ts : Trees Identifier) → AreMacros work ms ns ts → AllParts (IsName work) (map (λ (m : LocalMacro). m.name) ms) ns
macros_named work [] [] no_trees h = tt
macros_named work [] [] (tree t ts) h = absurd h
macros_named work [] (n ∷ ns) ts h = absurd h
macros_named work (m ∷ ms) [] ts h = absurd h
macros_named work (m ∷ ms) (n ∷ ns) no_trees h = absurd h
macros_named work (m ∷ ms) (n ∷ ns) (tree t ts) h = (h.0.0, macros_named work ms ns ts h.1)

-- those of `letrec-syntax` see their own names
abbrev again_of : Option CoreKeyword → Bool
again_of None = false
again_of (Some IsLetrecSyntax) = true
again_of (Some k) = false

again_is : (k : code_keyword.CoreKeyword) (again : Bool) → (k ≡ word.LetrecSyntax → again ≡ true) → ((k ≡ word.LetrecSyntax → ⊥) → again ≡ false) → again ≡ again_of (keyword_as k)
again_is word.LetrecSyntax again same other = same refl
again_is k again same other = other (λ e. cc)

module _ {E L S : Type 0} (f : Expander E Identifier S) (ops : Ops E Identifier L S) (depth : ℕ) (here : Here) (e : E) (m : LocalMacros Identifier) (s : S) where
  by_keyword : (c : CoreKeyword) → local_step f ops depth here e c m s ≡ macros_step (again_of (Some c)) f ops depth here e m s
  by_keyword IsLetrecSyntax = refl
  by_keyword c = refl

  pub local_is : (k : code_keyword.CoreKeyword) (c : CoreKeyword) (again : Bool) → keyword_as k ≡ Some c → (k ≡ word.LetrecSyntax → again ≡ true) → ((k ≡ word.LetrecSyntax → ⊥) → again ≡ false) →
      local_step f ops depth here e c m s ≡ macros_step again f ops depth here e m s
  local_is k c again is true_there false_else =
      let same : again ≡ again_of (Some c) = again_is k again true_there false_else ∙ ap again_of is in
      by_keyword c ∙ ap (λ (b : Bool). macros_step b f ops depth here e m s) (sym same)
