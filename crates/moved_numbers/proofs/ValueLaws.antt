-- Cores as values under other numbers, at each variant.
use Rattle.std.proofs.Common.{◌≡◌, ℕ, Bool, Vec, refl, sym, ap, ap₂, ◌∙◌}
use Rattle.std.specs.Global.{Box}
use Rattle.std.specs.declared.alloc.Global.{Global}
use Rattle.syntax_tree.specs.declared.trees.nodes.Tree as number
use Rattle.core_tree.specs.declared.cores.Binder.{Binder}
use Rattle.core_tree.specs.declared.cores.Target.{Target}
use Rattle.core_tree.specs.declared.cores.FieldUse.{FieldUse}
use Rattle.core_tree.specs.declared.cores.MacroDef.{MacroDef}
use Rattle.core_tree.specs.declared.cores.Core.{Core, roll-Core, map-Core, fold-roll-Core}
use Rattle.core_tree.specs.declared.cores.Core.TheVariants as cores
use Rattle.core_tree.specs.declared.cores.Core.TheOpen.{Core-F, CorePart-F, Clause-F}
use Rattle.core_tree.specs.declared.cores.Clause.{Clause, out-Clause, roll-Clause, roll-out-Clause, map-Clause, fold_out-Clause}
use Rattle.core_tree.specs.declared.cores.CorePart.{CorePart, roll-CorePart, map-CorePart, fold-roll-CorePart}
use Rattle.core_tree.specs.declared.cores.CorePart.TheVariants as parts
use Rattle.renumbering_laws.specs.Renumbering.{Renumbering}
use Rattle.moved_numbers.specs.Leaves.{binder_as, target_as, field_as}
use Rattle.moved_numbers.specs.Values.{each, macro_as, core_step, part_step, clause_step, core_as, part_as, clause_as}

module _ (r : Renumbering) where
  abbrev Opened : Type 0
  Opened = Core-F Core CorePart Clause

  abbrev OpenedPart : Type 0
  OpenedPart = CorePart-F Core CorePart Clause

  abbrev OpenedClause : Type 0
  OpenedClause = Clause-F Core CorePart Clause

  abbrev pub boxed : Box Core → Box Core
  boxed b = record { ptr = b.ptr; alloc = b.alloc; value = core_as r b.value }

  -- one in the same memory
  pub box_is : (b e : Box Core) → e.ptr ≡ b.ptr → e.alloc ≡ b.alloc → e.value ≡ core_as r b.value → e ≡ boxed b
  box_is b e ptr alloc value = λ i. record { ptr = ptr i; alloc = alloc i; value = value i }

  -- ---- cores

  core_is : (x : Opened) (c d : Core) → c ≡ roll-Core x → d ≡ core_step r (map-Core Core CorePart Clause Core CorePart Clause (core_as r) (part_as r) (clause_as r) x) → d ≡ core_as r c
  core_is x c d is e = e ∙ sym (ap (core_as r) is ∙ fold-roll-Core Core CorePart Clause (core_step r) (part_step r) (clause_step r) x)

  pub ref_is : (c : Core) (x y : Target) → c ≡ cores.Ref x → y ≡ target_as r x → cores.Ref y ≡ core_as r c
  ref_is c x y is e = core_is (Core-F.Ref x) c (cores.Ref y) (is ∙ sym (cores.rolls-Ref x)) (ap cores.Ref e)

  pub const_is : (c : Core) (n : number.Tree) → c ≡ cores.Const n → cores.Const n ≡ core_as r c
  const_is c n is = core_is (Core-F.Const n) c (cores.Const n) (is ∙ sym (cores.rolls-Const n)) refl

  pub quote_is : (c : Core) (n : number.Tree) → c ≡ cores.Quote n → cores.Quote n ≡ core_as r c
  quote_is c n is = core_is (Core-F.Quote n) c (cores.Quote n) (is ∙ sym (cores.rolls-Quote n)) refl

  pub quasi_is : (c : Core) (n : number.Tree) (places : Vec ℕ Global) (xs ys : Vec Core Global) → c ≡ cores.Quasi n places xs → ys ≡ each (core_as r) xs → cores.Quasi n places ys ≡ core_as r c
  quasi_is c n places xs ys is e = core_is (Core-F.Quasi n places xs) c (cores.Quasi n places ys) (is ∙ sym (cores.rolls-Quasi n places xs)) (ap (λ (v : Vec Core Global). cores.Quasi n places v) e)

  pub lambda_is : (c : Core) (x y : Clause) → c ≡ cores.Lambda x → y ≡ clause_as r x → cores.Lambda y ≡ core_as r c
  lambda_is c x y is e = core_is (Core-F.Lambda x) c (cores.Lambda y) (is ∙ sym (cores.rolls-Lambda x)) (ap cores.Lambda e)

  pub case_lambda_is : (c : Core) (xs ys : Vec Clause Global) → c ≡ cores.CaseLambda xs → ys ≡ each (clause_as r) xs → cores.CaseLambda ys ≡ core_as r c
  case_lambda_is c xs ys is e = core_is (Core-F.CaseLambda xs) c (cores.CaseLambda ys) (is ∙ sym (cores.rolls-CaseLambda xs)) (ap cores.CaseLambda e)

  pub if_is : (c : Core) (xs ys : Vec Core Global) → c ≡ cores.If xs → ys ≡ each (core_as r) xs → cores.If ys ≡ core_as r c
  if_is c xs ys is e = core_is (Core-F.If xs) c (cores.If ys) (is ∙ sym (cores.rolls-If xs)) (ap cores.If e)

  pub set_is : (c : Core) (x y : Target) (b e : Box Core) → c ≡ cores.Set x b → y ≡ target_as r x → e ≡ boxed b → cores.Set y e ≡ core_as r c
  set_is c x y b e is t h = core_is (Core-F.Set x b) c (cores.Set y e) (is ∙ sym (cores.rolls-Set x b)) (ap₂ cores.Set t h)

  pub call_is : (c : Core) (xs ys : Vec Core Global) → c ≡ cores.Call xs → ys ≡ each (core_as r) xs → cores.Call ys ≡ core_as r c
  call_is c xs ys is e = core_is (Core-F.Call xs) c (cores.Call ys) (is ∙ sym (cores.rolls-Call xs)) (ap cores.Call e)

  pub body_is : (c : Core) (xs ys : Vec CorePart Global) → c ≡ cores.Body xs → ys ≡ each (part_as r) xs → cores.Body ys ≡ core_as r c
  body_is c xs ys is e = core_is (Core-F.Body xs) c (cores.Body ys) (is ∙ sym (cores.rolls-Body xs)) (ap cores.Body e)

  pub let_syntax_is : (c : Core) (ds es : Vec MacroDef Global) (b e : Box Core) → c ≡ cores.LetSyntax ds b → es ≡ each (macro_as r) ds → e ≡ boxed b → cores.LetSyntax es e ≡ core_as r c
  let_syntax_is c ds es b e is m h = core_is (Core-F.LetSyntax ds b) c (cores.LetSyntax es e) (is ∙ sym (cores.rolls-LetSyntax ds b)) (ap₂ cores.LetSyntax m h)

  -- ---- clauses and parts

  abbrev clause_level : OpenedClause → Clause
  clause_level x = clause_step r (map-Clause Core CorePart Clause Core CorePart Clause (core_as r) (part_as r) (clause_as r) x)

  pub clause_is : (x y : Clause) (bs cs : Vec Binder Global) (dotted : Bool) (c d : Box Core) → out-Clause x ≡ record { binders = bs; dotted = dotted; body = c } → out-Clause y ≡ record { binders = cs; dotted = dotted; body = d } →
      cs ≡ each (binder_as r) bs → d ≡ boxed c → y ≡ clause_as r x
  clause_is x y bs cs dotted c d is_x is_y names body =
      sym (roll-out-Clause y) ∙ ap roll-Clause is_y ∙ (λ i. roll-Clause (record { binders = names i; dotted = dotted; body = body i })) ∙ sym (ap (λ (o : OpenedClause). clause_level o) is_x)
      ∙ sym (fold_out-Clause Core CorePart Clause (core_step r) (part_step r) (clause_step r) x)

  part_is : (x : OpenedPart) (p q : CorePart) → p ≡ roll-CorePart x → q ≡ part_step r (map-CorePart Core CorePart Clause Core CorePart Clause (core_as r) (part_as r) (clause_as r) x) → q ≡ part_as r p
  part_is x p q is e = e ∙ sym (ap (part_as r) is ∙ fold-roll-CorePart Core CorePart Clause (core_step r) (part_step r) (clause_step r) x)

  pub expression_is : (p : CorePart) (c d : Core) → p ≡ parts.Expression c → d ≡ core_as r c → parts.Expression d ≡ part_as r p
  expression_is p c d is e = part_is (CorePart-F.Expression c) p (parts.Expression d) (is ∙ sym (parts.rolls-Expression c)) (ap parts.Expression e)

  pub define_is : (p : CorePart) (x y : Binder) (c d : Core) → p ≡ parts.Define x c → y ≡ binder_as r x → d ≡ core_as r c → parts.Define y d ≡ part_as r p
  define_is p x y c d is b e = part_is (CorePart-F.Define x c) p (parts.Define y d) (is ∙ sym (parts.rolls-Define x c)) (ap₂ parts.Define b e)

  pub values_is : (p : CorePart) (bs cs : Vec Binder Global) (dotted : Bool) (c d : Core) → p ≡ parts.Values bs dotted c → cs ≡ each (binder_as r) bs → d ≡ core_as r c → parts.Values cs dotted d ≡ part_as r p
  values_is p bs cs dotted c d is b e = part_is (CorePart-F.Values bs dotted c) p (parts.Values cs dotted d) (is ∙ sym (parts.rolls-Values bs dotted c)) (ap₂ (λ (v : Vec Binder Global) (x : Core). parts.Values v dotted x) b e)

  pub fields_is : (p : CorePart) (bs cs fs gs : Vec Binder Global) (ms : Vec ℕ Global) (us vs : Vec FieldUse Global) → p ≡ parts.Fields bs fs ms us → cs ≡ each (binder_as r) bs → gs ≡ each (binder_as r) fs → vs ≡ each (field_as r) us →
      parts.Fields cs gs ms vs ≡ part_as r p
  fields_is p bs cs fs gs ms us vs is b f u = part_is (CorePart-F.Fields bs fs ms us) p (parts.Fields cs gs ms vs) (is ∙ sym (parts.rolls-Fields bs fs ms us)) (λ i. parts.Fields (b i) (f i) ms (u i))

  pub syntax_is : (p : CorePart) (x y : MacroDef) → p ≡ parts.Syntax x → y ≡ macro_as r x → parts.Syntax y ≡ part_as r p
  syntax_is p x y is e = part_is (CorePart-F.Syntax x) p (parts.Syntax y) (is ∙ sym (parts.rolls-Syntax x)) (ap parts.Syntax e)
