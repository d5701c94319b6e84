-- The leaves of a core of the code, case by case.
use Rattle.std.proofs.Common.{◌≡◌, List, [], ◌∷◌, ◌++◌, map, Bool, true, refl, sym, ap, ◌∙◌}
use Rattle.std.specs.Prelude.{ℕ, Vec}
use Rattle.std.specs.List.{flat_map}
use Rattle.std.specs.Global.{Box}
use Rattle.std.specs.declared.alloc.Global.{Global}
use Rattle.syntax_tree.specs.declared.trees.nodes.Tree as number
use Rattle.core_tree.specs.declared.cores.Binder.{Binder}
use Rattle.core_tree.specs.declared.cores.Target.{Target}
use Rattle.core_tree.specs.declared.cores.MacroDef.{MacroDef}
use Rattle.core_tree.specs.declared.cores.FieldUse.{FieldUse}
use Rattle.core_tree.specs.declared.cores.Core.{Core}
use Rattle.core_tree.specs.declared.cores.Core.TheVariants as cores
use Rattle.core_tree.specs.declared.cores.Clause.{Clause, out-Clause}
use Rattle.core_tree.specs.declared.cores.CorePart.{CorePart}
use Rattle.core_tree.specs.declared.cores.CorePart.TheVariants as parts
use Rattle.core_tree.specs.declared.cores.Core.TheOpen.{Core-F, CorePart-F}
use Rattle.core_tree.specs.declared.cores.Core.TheFolds.{fold-roll-Core, fold-roll-CorePart, fold_out-Clause}
use Rattle.program_leaves.specs.Leaves.{Seen, Binds, Uses, Assigns, Quoted, Holed, joined, core_step, clause_step, part_step, core_seen, clause_seen, part_seen, cores_seen, clauses_seen, parts_seen, binders_seen, macro_seen, macros_seen, fields_seen}

joined-map : {X : Type 0} (f : X → List Seen) (xs : List X) → joined (map f xs) ≡ flat_map f xs
joined-map f [] = refl
joined-map f (x ∷ xs) = ap (λ (q : List Seen). f x ++ q) (joined-map f xs)

flat_map-map : {X : Type 0} (f : X → Bool → List Seen) (b : Bool) (xs : List X) → flat_map (λ (g : Bool → List Seen). g b) (map f xs) ≡ flat_map (λ x. f x b) xs
flat_map-map f b [] = refl
flat_map-map f b (x ∷ xs) = ap (λ (q : List Seen). f x b ++ q) (flat_map-map f b xs)

-- ---- cores

pub seen_ref : (t : Target) → core_seen (cores.Ref t) ≡ Uses t ∷ []
seen_ref t = ap core_seen (sym (cores.rolls-Ref t)) ∙ fold-roll-Core (List Seen) (Bool → List Seen) (List Seen) core_step part_step clause_step (Core-F.Ref t)

pub seen_const : (n : number.Tree) → core_seen (cores.Const n) ≡ []
seen_const n = ap core_seen (sym (cores.rolls-Const n)) ∙ fold-roll-Core (List Seen) (Bool → List Seen) (List Seen) core_step part_step clause_step (Core-F.Const n)

pub seen_quote : (n : number.Tree) → core_seen (cores.Quote n) ≡ Quoted n ∷ []
seen_quote n = ap core_seen (sym (cores.rolls-Quote n)) ∙ fold-roll-Core (List Seen) (Bool → List Seen) (List Seen) core_step part_step clause_step (Core-F.Quote n)

pub seen_quasi : (n : number.Tree) (places : Vec ℕ Global) (xs : Vec Core Global) → core_seen (cores.Quasi n places xs) ≡ Holed n places.items ∷ cores_seen xs.items
seen_quasi n places xs =
    ap core_seen (sym (cores.rolls-Quasi n places xs)) ∙ fold-roll-Core (List Seen) (Bool → List Seen) (List Seen) core_step part_step clause_step (Core-F.Quasi n places xs)
    ∙ ap (λ (q : List Seen). Holed n places.items ∷ q) (joined-map core_seen xs.items)

pub seen_lambda : (x : Clause) → core_seen (cores.Lambda x) ≡ clause_seen x
seen_lambda x = ap core_seen (sym (cores.rolls-Lambda x)) ∙ fold-roll-Core (List Seen) (Bool → List Seen) (List Seen) core_step part_step clause_step (Core-F.Lambda x)

pub seen_case_lambda : (xs : Vec Clause Global) → core_seen (cores.CaseLambda xs) ≡ clauses_seen xs.items
seen_case_lambda xs =
    ap core_seen (sym (cores.rolls-CaseLambda xs)) ∙ fold-roll-Core (List Seen) (Bool → List Seen) (List Seen) core_step part_step clause_step (Core-F.CaseLambda xs) ∙ joined-map clause_seen xs.items

pub seen_if : (xs : Vec Core Global) → core_seen (cores.If xs) ≡ cores_seen xs.items
seen_if xs = ap core_seen (sym (cores.rolls-If xs)) ∙ fold-roll-Core (List Seen) (Bool → List Seen) (List Seen) core_step part_step clause_step (Core-F.If xs) ∙ joined-map core_seen xs.items

pub seen_set : (t : Target) (y : Box Core) → core_seen (cores.Set t y) ≡ Assigns t ∷ core_seen y.value
seen_set t y = ap core_seen (sym (cores.rolls-Set t y)) ∙ fold-roll-Core (List Seen) (Bool → List Seen) (List Seen) core_step part_step clause_step (Core-F.Set t y)

pub seen_call : (xs : Vec Core Global) → core_seen (cores.Call xs) ≡ cores_seen xs.items
seen_call xs = ap core_seen (sym (cores.rolls-Call xs)) ∙ fold-roll-Core (List Seen) (Bool → List Seen) (List Seen) core_step part_step clause_step (Core-F.Call xs) ∙ joined-map core_seen xs.items

pub seen_body : (xs : Vec CorePart Global) → core_seen (cores.Body xs) ≡ parts_seen xs.items
seen_body xs =
    ap core_seen (sym (cores.rolls-Body xs)) ∙ fold-roll-Core (List Seen) (Bool → List Seen) (List Seen) core_step part_step clause_step (Core-F.Body xs) ∙ flat_map-map part_seen true xs.items

pub seen_let_syntax : (ds : Vec MacroDef Global) (y : Box Core) → core_seen (cores.LetSyntax ds y) ≡ macros_seen ds.items ++ core_seen y.value
seen_let_syntax ds y = ap core_seen (sym (cores.rolls-LetSyntax ds y)) ∙ fold-roll-Core (List Seen) (Bool → List Seen) (List Seen) core_step part_step clause_step (Core-F.LetSyntax ds y)

-- ---- clauses and parts

pub clause_is : (x : Clause) → clause_seen x ≡ binders_seen true x.binders.items ++ core_seen x.body.value
clause_is x = fold_out-Clause (List Seen) (Bool → List Seen) (List Seen) core_step part_step clause_step x

pub seen_clause : (x : Clause) (names : Vec Binder Global) (dotted : Bool) (y : Box Core) → out-Clause x ≡ record { binders = names; dotted = dotted; body = y } → clause_seen x ≡ binders_seen true names.items ++ core_seen y.value
seen_clause x names dotted y e = clause_is x ∙ (λ j. binders_seen true (e j).binders.items ++ core_seen (e j).body.value)

pub seen_expression : (c : Core) (local : Bool) → part_seen (parts.Expression c) local ≡ core_seen c
seen_expression c local =
    ap (λ (p : CorePart). part_seen p local) (sym (parts.rolls-Expression c))
    ∙ ap (λ (g : Bool → List Seen). g local) (fold-roll-CorePart (List Seen) (Bool → List Seen) (List Seen) core_step part_step clause_step (CorePart-F.Expression c))

pub seen_define : (b : Binder) (c : Core) (local : Bool) → part_seen (parts.Define b c) local ≡ Binds local b ∷ core_seen c
seen_define b c local =
    ap (λ (p : CorePart). part_seen p local) (sym (parts.rolls-Define b c))
    ∙ ap (λ (g : Bool → List Seen). g local) (fold-roll-CorePart (List Seen) (Bool → List Seen) (List Seen) core_step part_step clause_step (CorePart-F.Define b c))

pub seen_values : (bs : Vec Binder Global) (dotted : Bool) (c : Core) (local : Bool) → part_seen (parts.Values bs dotted c) local ≡ binders_seen local bs.items ++ core_seen c
seen_values bs dotted c local =
    ap (λ (p : CorePart). part_seen p local) (sym (parts.rolls-Values bs dotted c))
    ∙ ap (λ (g : Bool → List Seen). g local) (fold-roll-CorePart (List Seen) (Bool → List Seen) (List Seen) core_step part_step clause_step (CorePart-F.Values bs dotted c))

pub seen_fields : (bs fs : Vec Binder Global) (ms : Vec ℕ Global) (us : Vec FieldUse Global) (local : Bool) →
    part_seen (parts.Fields bs fs ms us) local ≡ binders_seen local bs.items ++ binders_seen true fs.items ++ fields_seen fs.items us.items
seen_fields bs fs ms us local =
    ap (λ (p : CorePart). part_seen p local) (sym (parts.rolls-Fields bs fs ms us))
    ∙ ap (λ (g : Bool → List Seen). g local) (fold-roll-CorePart (List Seen) (Bool → List Seen) (List Seen) core_step part_step clause_step (CorePart-F.Fields bs fs ms us))

pub seen_syntax : (d : MacroDef) (local : Bool) → part_seen (parts.Syntax d) local ≡ macro_seen local d
seen_syntax d local =
    ap (λ (p : CorePart). part_seen p local) (sym (parts.rolls-Syntax d))
    ∙ ap (λ (g : Bool → List Seen). g local) (fold-roll-CorePart (List Seen) (Bool → List Seen) (List Seen) core_step part_step clause_step (CorePart-F.Syntax d))
