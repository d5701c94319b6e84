-- The marks of a core of the code, case by case.
use Rattle.std.proofs.Common.{◌≡◌, ℕ, suc, List, [], ◌∷◌, ◌++◌, map, length, Bool, true, refl, sym, ap, ◌∙◌}
use Rattle.std.specs.Prelude.{Vec}
use Rattle.std.specs.List.{flat_map}
use Rattle.std.specs.Global.{Box}
use Rattle.std.specs.declared.alloc.Global.{Global}
use Rattle.syntax_tree.specs.declared.trees.nodes.Tree as number
use Rattle.core_tree.specs.declared.cores.Binder.{Binder}
use Rattle.core_tree.specs.declared.cores.Target.{Target}
use Rattle.core_tree.specs.declared.cores.MacroDef.{MacroDef}
use Rattle.core_tree.specs.declared.cores.FieldUse.{FieldUse}
use Rattle.core_tree.specs.declared.cores.Core.{Core}
use Rattle.core_tree.specs.declared.cores.Core.TheVariants as cores
use Rattle.core_tree.specs.declared.cores.Clause.{Clause, out-Clause}
use Rattle.core_tree.specs.declared.cores.CorePart.{CorePart}
use Rattle.core_tree.specs.declared.cores.CorePart.TheVariants as parts
use Rattle.core_tree.specs.declared.cores.Core.TheOpen.{Core-F, CorePart-F}
use Rattle.core_tree.specs.declared.cores.Core.TheFolds.{fold-roll-Core, fold-roll-CorePart, fold_out-Clause}
use Rattle.rename_model.specs.Walks.{truth_number}
use Rattle.program_leaves.proofs.Growing.{grows_twice}
use Rattle.alpha_equal.specs.declared.nodes.Node.TheVariants as nodes
use Rattle.alpha_equal.specs.Marks.{Marked, ANode, ANumber, AUse, AnAtom, ADatum, Binding, SomeRules, joined, PartMarks, core_step, clause_step, part_step, core_marks, clause_marks, part_all, part_binding, part_marks, cores_marks, clauses_marks, parts_binding, parts_marks, bound_marks, bounds_marks, number_marks, used_marks, formal_marks, macro_bindings, macros_marks}

length_map : {X Y : Type 0} (f : X → Y) (xs : List X) → length (map f xs) ≡ length xs
length_map f [] = refl
length_map f (x ∷ xs) = ap suc (length_map f xs)

joined-map : {X : Type 0} (f : X → List Marked) (xs : List X) → joined (map f xs) ≡ flat_map f xs
joined-map f [] = refl
joined-map f (x ∷ xs) = ap (λ (q : List Marked). f x ++ q) (joined-map f xs)

-- a counted node over parts that are marked
counted : {X : Type 0} (k : List Marked → List Marked) (f : X → List Marked) (xs : List X) → ANumber (length (map f xs)) ∷ k (joined (map f xs)) ≡ ANumber (length xs) ∷ k (flat_map f xs)
counted k f xs = λ j. ANumber (length_map f xs j) ∷ k (joined-map f xs j)

binding-map : (xs : List CorePart) → map (λ (p : PartMarks). p.binding) (map part_all xs) ≡ map part_binding xs
binding-map [] = refl
binding-map (x ∷ xs) = ap (λ (q : List Marked). part_binding x ∷ q) (binding-map xs)

marks-map : (xs : List CorePart) → flat_map (λ (p : PartMarks). p.marks true) (map part_all xs) ≡ parts_marks xs
marks-map [] = refl
marks-map (x ∷ xs) = ap (λ (q : List Marked). part_marks x true ++ q) (marks-map xs)

-- ---- cores

pub marks_ref : (t : Target) → core_marks (cores.Ref t) ≡ ANode nodes.Reference ∷ AUse t ∷ []
marks_ref t = ap core_marks (sym (cores.rolls-Ref t)) ∙ fold-roll-Core (List Marked) PartMarks (List Marked) core_step part_step clause_step (Core-F.Ref t)

pub marks_const : (n : number.Tree) → core_marks (cores.Const n) ≡ ANode nodes.Constant ∷ AnAtom n ∷ []
marks_const n = ap core_marks (sym (cores.rolls-Const n)) ∙ fold-roll-Core (List Marked) PartMarks (List Marked) core_step part_step clause_step (Core-F.Const n)

pub marks_quote : (n : number.Tree) → core_marks (cores.Quote n) ≡ ANode nodes.Quotation ∷ ADatum n [] ∷ []
marks_quote n = ap core_marks (sym (cores.rolls-Quote n)) ∙ fold-roll-Core (List Marked) PartMarks (List Marked) core_step part_step clause_step (Core-F.Quote n)

pub marks_quasi : (n : number.Tree) (places : Vec ℕ Global) (xs : Vec Core Global) →
    core_marks (cores.Quasi n places xs) ≡ ANode nodes.Quasiquotation ∷ ANumber (length xs.items) ∷ ADatum n places.items ∷ cores_marks xs.items
marks_quasi n places xs =
    ap core_marks (sym (cores.rolls-Quasi n places xs)) ∙ fold-roll-Core (List Marked) PartMarks (List Marked) core_step part_step clause_step (Core-F.Quasi n places xs)
    ∙ ap (λ (q : List Marked). ANode nodes.Quasiquotation ∷ q) (counted (λ (q : List Marked). ADatum n places.items ∷ q) core_marks xs.items)

pub marks_lambda : (x : Clause) → core_marks (cores.Lambda x) ≡ clause_marks x
marks_lambda x = ap core_marks (sym (cores.rolls-Lambda x)) ∙ fold-roll-Core (List Marked) PartMarks (List Marked) core_step part_step clause_step (Core-F.Lambda x)

pub marks_case_lambda : (xs : Vec Clause Global) → core_marks (cores.CaseLambda xs) ≡ ANode nodes.CaseLambda ∷ ANumber (length xs.items) ∷ clauses_marks xs.items
marks_case_lambda xs =
    ap core_marks (sym (cores.rolls-CaseLambda xs)) ∙ fold-roll-Core (List Marked) PartMarks (List Marked) core_step part_step clause_step (Core-F.CaseLambda xs)
    ∙ ap (λ (q : List Marked). ANode nodes.CaseLambda ∷ q) (counted (λ (q : List Marked). q) clause_marks xs.items)

pub marks_if : (xs : Vec Core Global) → core_marks (cores.If xs) ≡ ANode nodes.Conditional ∷ ANumber (length xs.items) ∷ cores_marks xs.items
marks_if xs =
    ap core_marks (sym (cores.rolls-If xs)) ∙ fold-roll-Core (List Marked) PartMarks (List Marked) core_step part_step clause_step (Core-F.If xs)
    ∙ ap (λ (q : List Marked). ANode nodes.Conditional ∷ q) (counted (λ (q : List Marked). q) core_marks xs.items)

pub marks_set : (t : Target) (y : Box Core) → core_marks (cores.Set t y) ≡ ANode nodes.Assignment ∷ AUse t ∷ core_marks y.value
marks_set t y = ap core_marks (sym (cores.rolls-Set t y)) ∙ fold-roll-Core (List Marked) PartMarks (List Marked) core_step part_step clause_step (Core-F.Set t y)

pub marks_call : (xs : Vec Core Global) → core_marks (cores.Call xs) ≡ ANode nodes.Call ∷ ANumber (length xs.items) ∷ cores_marks xs.items
marks_call xs =
    ap core_marks (sym (cores.rolls-Call xs)) ∙ fold-roll-Core (List Marked) PartMarks (List Marked) core_step part_step clause_step (Core-F.Call xs)
    ∙ ap (λ (q : List Marked). ANode nodes.Call ∷ q) (counted (λ (q : List Marked). q) core_marks xs.items)

pub marks_body : (xs : Vec CorePart Global) → core_marks (cores.Body xs) ≡ ANode nodes.Body ∷ ANumber (length xs.items) ∷ parts_binding xs.items ++ parts_marks xs.items
marks_body xs =
    ap core_marks (sym (cores.rolls-Body xs)) ∙ fold-roll-Core (List Marked) PartMarks (List Marked) core_step part_step clause_step (Core-F.Body xs)
    ∙ (λ j. ANode nodes.Body ∷ ANumber (length_map part_all xs.items j) ∷ binding-map xs.items j ++ marks-map xs.items j)

pub marks_let_syntax : (ds : Vec MacroDef Global) (y : Box Core) →
    core_marks (cores.LetSyntax ds y) ≡ ANode nodes.LocalMacros ∷ ANumber (length ds.items) ∷ (macro_bindings ds.items ++ macros_marks ds.items) ++ core_marks y.value
marks_let_syntax ds y =
    ap core_marks (sym (cores.rolls-LetSyntax ds y)) ∙ fold-roll-Core (List Marked) PartMarks (List Marked) core_step part_step clause_step (Core-F.LetSyntax ds y)

-- ---- clauses and parts

pub clause_is : (x : Clause) → clause_marks x ≡ formal_marks x.binders.items x.dotted ++ core_marks x.body.value
clause_is x = fold_out-Clause (List Marked) PartMarks (List Marked) core_step part_step clause_step x

pub marks_clause : (x : Clause) (names : Vec Binder Global) (dotted : Bool) (y : Box Core) → out-Clause x ≡ record { binders = names; dotted = dotted; body = y } →
    clause_marks x ≡ formal_marks names.items dotted ++ core_marks y.value
marks_clause x names dotted y e = clause_is x ∙ (λ j. formal_marks (e j).binders.items (e j).dotted ++ core_marks (e j).body.value)

pub all_expression : (c : Core) → part_all (parts.Expression c) ≡ record { binding = Binding nodes.Expression []; marks = λ local. ANode nodes.Expression ∷ core_marks c }
all_expression c = ap part_all (sym (parts.rolls-Expression c)) ∙ fold-roll-CorePart (List Marked) PartMarks (List Marked) core_step part_step clause_step (CorePart-F.Expression c)

pub all_define : (b : Binder) (c : Core) →
    part_all (parts.Define b c) ≡ record { binding = Binding nodes.Definition (b ∷ []); marks = λ local. ANode nodes.Definition ∷ bound_marks local b ++ core_marks c }
all_define b c = ap part_all (sym (parts.rolls-Define b c)) ∙ fold-roll-CorePart (List Marked) PartMarks (List Marked) core_step part_step clause_step (CorePart-F.Define b c)

pub all_values : (bs : Vec Binder Global) (dotted : Bool) (c : Core) →
    part_all (parts.Values bs dotted c) ≡ record { binding = Binding nodes.Values bs.items; marks = λ local. ANode nodes.Values ∷ ANumber (length bs.items) ∷ ANumber (truth_number dotted) ∷ bounds_marks local bs.items ++ core_marks c }
all_values bs dotted c =
    ap part_all (sym (parts.rolls-Values bs dotted c)) ∙ fold-roll-CorePart (List Marked) PartMarks (List Marked) core_step part_step clause_step (CorePart-F.Values bs dotted c)

pub all_fields : (bs fs : Vec Binder Global) (ms : Vec ℕ Global) (us : Vec FieldUse Global) →
    part_all (parts.Fields bs fs ms us) ≡ record { binding = Binding nodes.Record bs.items; marks = λ local. ANode nodes.Record ∷ ANumber (length bs.items) ∷ ANumber (length fs.items) ∷ ANumber (length ms.items) ∷ ANumber (length us.items) ∷ bounds_marks local bs.items ++ number_marks ms.items ++ used_marks us.items }
all_fields bs fs ms us =
    ap part_all (sym (parts.rolls-Fields bs fs ms us)) ∙ fold-roll-CorePart (List Marked) PartMarks (List Marked) core_step part_step clause_step (CorePart-F.Fields bs fs ms us)

pub all_syntax : (d : MacroDef) → part_all (parts.Syntax d) ≡ record { binding = Binding nodes.Syntax (d.binder ∷ []); marks = λ local. ANode nodes.Syntax ∷ bound_marks local d.binder ++ SomeRules d ∷ [] }
all_syntax d = ap part_all (sym (parts.rolls-Syntax d)) ∙ fold-roll-CorePart (List Marked) PartMarks (List Marked) core_step part_step clause_step (CorePart-F.Syntax d)

-- ---- what was added

pub grows_three : {L S : Type 0} (seen : L → S) (old a b new : List L) (xs ys zs whole : List S) → map seen a ≡ map seen old ++ xs → map seen b ≡ map seen a ++ ys → map seen new ≡ map seen b ++ zs → whole ≡ xs ++ ys ++ zs →
    map seen new ≡ map seen old ++ whole
grows_three seen old a b new xs ys zs whole h k l e = grows_twice seen old b new (xs ++ ys) zs whole (grows_twice seen old a b xs ys (xs ++ ys) h k refl) l e
