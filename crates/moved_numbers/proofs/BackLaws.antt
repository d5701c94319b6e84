-- By the way back all that has numbers in it comes to be what it was.
use Rattle.std.proofs.Common.{◌≡◌, List, [], ◌∷◌, map, Option, Some, None, Vec, refl, sym, ap, ap₂, ◌∙◌, subst}
use Rattle.std.specs.Option.{option_map}
use Rattle.std.specs.Global.{Box}
use Rattle.std.specs.declared.alloc.Global.{Global}
use Rattle.std.specs.formers.vec.Vec.{mapped, holding_along}
use Rattle.scheme_model.specs.declared.Occ.{Occ}
use Rattle.syntax_tree.specs.declared.meaning.Meaning.{Meaning}
use Rattle.syntax_tree.specs.declared.meaning.Meaning.TheVariants as meanings
use Rattle.form_notes.specs.declared.notes.Note.{Note}
use Rattle.form_notes.specs.declared.notes.Question.{Question}
use Rattle.form_notes.specs.declared.notes.Question.TheVariants as questions
use Rattle.core_tree.specs.declared.cores.Binder.{Binder}
use Rattle.core_tree.specs.declared.cores.Target.{Target}
use Rattle.core_tree.specs.declared.cores.RuleLeaf.{RuleLeaf}
use Rattle.core_tree.specs.declared.cores.FieldUse.{FieldUse}
use Rattle.core_tree.specs.declared.cores.MacroDef.{MacroDef}
use Rattle.core_tree.specs.declared.cores.Core.{Core, roll-Core, map-Core, fold-roll-Core, ind-Core}
use Rattle.core_tree.specs.declared.cores.Core.TheVariants as cores
use Rattle.core_tree.specs.declared.cores.Core.TheOpen.{Core-F, CorePart-F, Clause-F}
use Rattle.core_tree.specs.declared.cores.Clause.{Clause, roll-Clause, map-Clause, fold-roll-Clause}
use Rattle.core_tree.specs.declared.cores.CorePart.{CorePart, roll-CorePart, map-CorePart, fold-roll-CorePart, ind-CorePart}
use Rattle.core_tree.specs.declared.cores.CorePart.TheVariants as parts
use Rattle.core_tree.specs.declared.traces.MacroUse.{MacroUse}
use Rattle.core_tree.specs.declared.traces.Trace.{Trace}
use Rattle.core_tree.specs.declared.traces.FormFault.{FormFault}
use Rattle.core_tree.specs.declared.units.ExpandedItem.{ExpandedItem}
use Rattle.core_tree.specs.declared.units.UnitForm.{UnitForm}
use Rattle.core_tree.specs.declared.units.Unit as units
use Rattle.core_tree.specs.declared.units.Program.{Program}
use Rattle.renumbering_laws.specs.Renumbering.{Renumbering, place}
use Rattle.moves.specs.Numbers.{meaning_as, IsBack}
use Rattle.moved_numbers.specs.Leaves.{binder_as, target_as, leaf_as, field_as}
use Rattle.moved_numbers.specs.Notes.{question_as, note_as}
use Rattle.moved_numbers.specs.Values.{each, macro_as, core_step, part_step, clause_step, core_as, part_as, clause_as, item_as, use_as, fault_as, trace_as, form_as, unit_as, program_as}

-- ---- lists and what holds them

map_back : {X : Type 0} (f g : X → X) → ((x : X) → g (f x) ≡ x) → (xs : List X) → map g (map f xs) ≡ xs
map_back f g back [] = refl
map_back f g back (x ∷ xs) = ap₂ (λ y ys. y ∷ ys) (back x) (map_back f g back xs)

-- each with its own proof
such_back : {X : Type 0} (f g : X → X) (xs : List ((x : X) × (g (f x) ≡ x))) → map g (map f (map (λ e. e.0) xs)) ≡ map (λ e. e.0) xs
such_back f g [] = refl
such_back f g (x ∷ xs) = ap₂ (λ y ys. y ∷ ys) x.1 (such_back f g xs)

vec_back : {X : Type 0} (f g : X → X) (v : Vec X Global) → map g (map f v.items) ≡ v.items → each g (each f v) ≡ v
vec_back f g v e = holding_along v (map g (map f v.items)) v.items e (each g (each f v)).ok v.ok

each_back : {X : Type 0} (f g : X → X) → ((x : X) → g (f x) ≡ x) → (v : Vec X Global) → each g (each f v) ≡ v
each_back f g back v = vec_back f g v (map_back f g back v.items)

option_back : {X : Type 0} (f g : X → X) → ((x : X) → g (f x) ≡ x) → (o : Option X) → option_map g (option_map f o) ≡ o
option_back f g back None = refl
option_back f g back (Some x) = ap (λ y. Some y) (back x)

module _ (r s : Renumbering) (is_back : IsBack r s) where
  -- ---- leaves

  place_back : (o : Option Occ) → place s (place r o) ≡ o
  place_back None = refl
  place_back (Some o) = λ i. Some (record { unit = is_back.unit o.unit i; form = is_back.form o.unit o.form i; token = o.token })

  meaning_back : (m : Meaning) → meaning_as s (meaning_as r m) ≡ m
  meaning_back (meanings.Local n) = refl
  meaning_back (meanings.Global u n) = ap (λ v. meanings.Global v n) (is_back.unit u)
  meaning_back (meanings.Standard n) = refl
  meaning_back (meanings.Free n) = refl

  binder_back : (b : Binder) → binder_as s (binder_as r b) ≡ b
  binder_back b = λ i. record b { occ = place_back b.occ i }

  target_back : (t : Target) → target_as s (target_as r t) ≡ t
  target_back t = λ i. record t { meaning = meaning_back t.meaning i; occ = place_back t.occ i }

  leaf_back : (l : RuleLeaf) → leaf_as s (leaf_as r l) ≡ l
  leaf_back l = λ i. record l { target = target_back l.target i }

  field_back : (u : FieldUse) → field_as s (field_as r u) ≡ u
  field_back u = λ i. record u { occ = place_back u.occ i }

  macro_back : (m : MacroDef) → macro_as s (macro_as r m) ≡ m
  macro_back m = λ i. record m { binder = binder_back m.binder i; leaves = each_back (leaf_as r) (leaf_as s) leaf_back m.leaves i }

  question_back : (q : Question) → question_as s (question_as r q) ≡ q
  question_back (questions.Lookup ident answer keyword) = ap (λ m. questions.Lookup ident m keyword) (meaning_back answer)
  question_back (questions.Literal literal ident answer) = refl
  question_back (questions.Rules meaning edition) = ap (λ m. questions.Rules m edition) (meaning_back meaning)
  question_back (questions.Assigned ident answer) = refl
  question_back (questions.Library name answer) = refl
  question_back (questions.Definition d answer) = λ i. questions.Definition (record d { occ = place_back d.occ i }) answer

  note_back : (n : Note) → note_as s (note_as r n) ≡ n
  note_back n = λ i. record n { question = question_back n.question i }

  -- ---- cores

  abbrev BackCore : Core → Type 0
  BackCore c = core_as s (core_as r c) ≡ c

  abbrev BackPart : CorePart → Type 0
  BackPart p = part_as s (part_as r p) ≡ p

  abbrev BackClause : Clause → Type 0
  BackClause c = clause_as s (clause_as r c) ≡ c

  abbrev SuchCore : Type 0
  SuchCore = (c : Core) × BackCore c

  abbrev SuchPart : Type 0
  SuchPart = (p : CorePart) × BackPart p

  abbrev SuchClause : Type 0
  SuchClause = (c : Clause) × BackClause c

  abbrev Opened : Type 0
  Opened = Core-F Core CorePart Clause

  abbrev Such : Type 0
  Such = Core-F SuchCore SuchPart SuchClause

  abbrev core_level : Renumbering → Opened → Core
  core_level t x = core_step t (map-Core Core CorePart Clause Core CorePart Clause (core_as t) (part_as t) (clause_as t) x)

  core_rolled : (t : Renumbering) (x : Opened) → core_as t (roll-Core x) ≡ core_level t x
  core_rolled t x = fold-roll-Core Core CorePart Clause (core_step t) (part_step t) (clause_step t) x

  core_by : (x y : Opened) → core_level r x ≡ roll-Core y → core_level s y ≡ roll-Core x → BackCore (roll-Core x)
  core_by x y e f = ap (core_as s) (core_rolled r x ∙ e) ∙ core_rolled s y ∙ f

  abbrev core_of : Such → Opened
  core_of y = map-Core SuchCore SuchPart SuchClause Core CorePart Clause (λ e. e.0) (λ e. e.0) (λ e. e.0) y

  cores_back : (v : Vec SuchCore Global) → each (core_as s) (each (core_as r) (mapped (λ e. e.0) v)) ≡ mapped (λ e. e.0) v
  cores_back v = vec_back (core_as r) (core_as s) (mapped (λ e. e.0) v) (such_back (core_as r) (core_as s) v.items)

  parts_back : (v : Vec SuchPart Global) → each (part_as s) (each (part_as r) (mapped (λ e. e.0) v)) ≡ mapped (λ e. e.0) v
  parts_back v = vec_back (part_as r) (part_as s) (mapped (λ e. e.0) v) (such_back (part_as r) (part_as s) v.items)

  clauses_back : (v : Vec SuchClause Global) → each (clause_as s) (each (clause_as r) (mapped (λ e. e.0) v)) ≡ mapped (λ e. e.0) v
  clauses_back v = vec_back (clause_as r) (clause_as s) (mapped (λ e. e.0) v) (such_back (clause_as r) (clause_as s) v.items)

  abbrev boxed : Renumbering → Box Core → Box Core
  boxed t b = record { ptr = b.ptr; alloc = b.alloc; value = core_as t b.value }

  abbrev box_of : Box SuchCore → Box Core
  box_of b = record { ptr = b.ptr; alloc = b.alloc; value = b.value.0 }

  box_back : (b : Box SuchCore) → boxed s (boxed r (box_of b)) ≡ box_of b
  box_back b = λ i. record { ptr = b.ptr; alloc = b.alloc; value = b.value.1 i }

  core_level_back : (y : Such) → BackCore (roll-Core (core_of y))
  core_level_back (Core-F.Ref t) = core_by (Core-F.Ref t) (Core-F.Ref (target_as r t)) (sym (cores.rolls-Ref (target_as r t))) (ap cores.Ref (target_back t) ∙ sym (cores.rolls-Ref t))
  core_level_back (Core-F.Const n) = core_by (Core-F.Const n) (Core-F.Const n) (sym (cores.rolls-Const n)) (sym (cores.rolls-Const n))
  core_level_back (Core-F.Quote n) = core_by (Core-F.Quote n) (Core-F.Quote n) (sym (cores.rolls-Quote n)) (sym (cores.rolls-Quote n))
  core_level_back (Core-F.Quasi n places v) =
      let xs : Vec Core Global = mapped (λ e. e.0) v in
      let ys : Vec Core Global = each (core_as r) xs in
      core_by (Core-F.Quasi n places xs) (Core-F.Quasi n places ys) (sym (cores.rolls-Quasi n places ys)) (ap (λ (z : Vec Core Global). cores.Quasi n places z) (cores_back v) ∙ sym (cores.rolls-Quasi n places xs))
  core_level_back (Core-F.Lambda c) = core_by (Core-F.Lambda c.0) (Core-F.Lambda (clause_as r c.0)) (sym (cores.rolls-Lambda (clause_as r c.0))) (ap cores.Lambda c.1 ∙ sym (cores.rolls-Lambda c.0))
  core_level_back (Core-F.CaseLambda v) =
      let xs : Vec Clause Global = mapped (λ e. e.0) v in
      let ys : Vec Clause Global = each (clause_as r) xs in
      core_by (Core-F.CaseLambda xs) (Core-F.CaseLambda ys) (sym (cores.rolls-CaseLambda ys)) (ap cores.CaseLambda (clauses_back v) ∙ sym (cores.rolls-CaseLambda xs))
  core_level_back (Core-F.If v) =
      let xs : Vec Core Global = mapped (λ e. e.0) v in
      let ys : Vec Core Global = each (core_as r) xs in
      core_by (Core-F.If xs) (Core-F.If ys) (sym (cores.rolls-If ys)) (ap cores.If (cores_back v) ∙ sym (cores.rolls-If xs))
  core_level_back (Core-F.Set t b) =
      let a = box_of b in
      core_by (Core-F.Set t a) (Core-F.Set (target_as r t) (boxed r a)) (sym (cores.rolls-Set (target_as r t) (boxed r a))) (ap₂ cores.Set (target_back t) (box_back b) ∙ sym (cores.rolls-Set t a))
  core_level_back (Core-F.Call v) =
      let xs : Vec Core Global = mapped (λ e. e.0) v in
      let ys : Vec Core Global = each (core_as r) xs in
      core_by (Core-F.Call xs) (Core-F.Call ys) (sym (cores.rolls-Call ys)) (ap cores.Call (cores_back v) ∙ sym (cores.rolls-Call xs))
  core_level_back (Core-F.Body v) =
      let xs : Vec CorePart Global = mapped (λ e. e.0) v in
      let ys : Vec CorePart Global = each (part_as r) xs in
      core_by (Core-F.Body xs) (Core-F.Body ys) (sym (cores.rolls-Body ys)) (ap cores.Body (parts_back v) ∙ sym (cores.rolls-Body xs))
  core_level_back (Core-F.LetSyntax ms b) =
      let a = box_of b in
      let ns : Vec MacroDef Global = each (macro_as r) ms in
      core_by (Core-F.LetSyntax ms a) (Core-F.LetSyntax ns (boxed r a)) (sym (cores.rolls-LetSyntax ns (boxed r a))) (ap₂ cores.LetSyntax (each_back (macro_as r) (macro_as s) macro_back ms) (box_back b) ∙ sym (cores.rolls-LetSyntax ms a))

  core_up : (x : Opened) (y : Such) → core_of y ≡ x → BackCore (roll-Core x)
  core_up x y is = subst (λ (z : Opened). BackCore (roll-Core z)) is (core_level_back y)

  -- ---- parts

  abbrev OpenedPart : Type 0
  OpenedPart = CorePart-F Core CorePart Clause

  abbrev SuchOpenedPart : Type 0
  SuchOpenedPart = CorePart-F SuchCore SuchPart SuchClause

  abbrev part_level : Renumbering → OpenedPart → CorePart
  part_level t x = part_step t (map-CorePart Core CorePart Clause Core CorePart Clause (core_as t) (part_as t) (clause_as t) x)

  part_rolled : (t : Renumbering) (x : OpenedPart) → part_as t (roll-CorePart x) ≡ part_level t x
  part_rolled t x = fold-roll-CorePart Core CorePart Clause (core_step t) (part_step t) (clause_step t) x

  part_by : (x y : OpenedPart) → part_level r x ≡ roll-CorePart y → part_level s y ≡ roll-CorePart x → BackPart (roll-CorePart x)
  part_by x y e f = ap (part_as s) (part_rolled r x ∙ e) ∙ part_rolled s y ∙ f

  abbrev part_of : SuchOpenedPart → OpenedPart
  part_of y = map-CorePart SuchCore SuchPart SuchClause Core CorePart Clause (λ e. e.0) (λ e. e.0) (λ e. e.0) y

  bound_back : (v : Vec Binder Global) → each (binder_as s) (each (binder_as r) v) ≡ v
  bound_back v = each_back (binder_as r) (binder_as s) binder_back v

  part_level_back : (y : SuchOpenedPart) → BackPart (roll-CorePart (part_of y))
  part_level_back (CorePart-F.Expression c) =
      let d = core_as r c.0 in
      part_by (CorePart-F.Expression c.0) (CorePart-F.Expression d) (sym (parts.rolls-Expression d)) (ap parts.Expression c.1 ∙ sym (parts.rolls-Expression c.0))
  part_level_back (CorePart-F.Define b c) =
      let d = core_as r c.0 in
      part_by (CorePart-F.Define b c.0) (CorePart-F.Define (binder_as r b) d) (sym (parts.rolls-Define (binder_as r b) d)) (ap₂ parts.Define (binder_back b) c.1 ∙ sym (parts.rolls-Define b c.0))
  part_level_back (CorePart-F.Values bs dotted c) =
      let d = core_as r c.0 in
      let cs = each (binder_as r) bs in
      part_by (CorePart-F.Values bs dotted c.0) (CorePart-F.Values cs dotted d) (sym (parts.rolls-Values cs dotted d)) (ap₂ (λ (v : Vec Binder Global) (x : Core). parts.Values v dotted x) (bound_back bs) c.1 ∙ sym (parts.rolls-Values bs dotted c.0))
  part_level_back (CorePart-F.Fields bs fs ms us) =
      let cs = each (binder_as r) bs in
      let gs = each (binder_as r) fs in
      let vs = each (field_as r) us in
      part_by (CorePart-F.Fields bs fs ms us) (CorePart-F.Fields cs gs ms vs) (sym (parts.rolls-Fields cs gs ms vs))
      ((λ i. parts.Fields (bound_back bs i) (bound_back fs i) ms (each_back (field_as r) (field_as s) field_back us i)) ∙ sym (parts.rolls-Fields bs fs ms us))
  part_level_back (CorePart-F.Syntax m) =
      part_by (CorePart-F.Syntax m) (CorePart-F.Syntax (macro_as r m)) (sym (parts.rolls-Syntax (macro_as r m))) (ap parts.Syntax (macro_back m) ∙ sym (parts.rolls-Syntax m))

  part_up : (x : OpenedPart) (y : SuchOpenedPart) → part_of y ≡ x → BackPart (roll-CorePart x)
  part_up x y is = subst (λ (z : OpenedPart). BackPart (roll-CorePart z)) is (part_level_back y)

  -- ---- clauses

  abbrev OpenedClause : Type 0
  OpenedClause = Clause-F Core CorePart Clause

  abbrev SuchOpenedClause : Type 0
  SuchOpenedClause = Clause-F SuchCore SuchPart SuchClause

  clause_rolled : (t : Renumbering) (x : OpenedClause) → clause_as t (roll-Clause x) ≡ clause_step t (map-Clause Core CorePart Clause Core CorePart Clause (core_as t) (part_as t) (clause_as t) x)
  clause_rolled t x = fold-roll-Clause Core CorePart Clause (core_step t) (part_step t) (clause_step t) x

  abbrev clause_of : SuchOpenedClause → OpenedClause
  clause_of y = map-Clause SuchCore SuchPart SuchClause Core CorePart Clause (λ e. e.0) (λ e. e.0) (λ e. e.0) y

  clause_up : (x : OpenedClause) (y : SuchOpenedClause) → clause_of y ≡ x → BackClause (roll-Clause x)
  clause_up x y is =
      subst (λ (z : OpenedClause). BackClause (roll-Clause z)) is
      (let a = clause_of y in
      let b : OpenedClause = record { binders = each (binder_as r) a.binders; dotted = a.dotted; body = boxed r a.body } in
      ap (clause_as s) (clause_rolled r a) ∙ clause_rolled s b ∙ (λ i. roll-Clause (record { binders = bound_back a.binders i; dotted = a.dotted; body = box_back y.body i })))

  core_back : (c : Core) → BackCore c
  core_back = ind-Core BackCore BackPart BackClause core_up part_up clause_up

  pub part_back : (p : CorePart) → BackPart p
  part_back = ind-CorePart BackCore BackPart BackClause core_up part_up clause_up

  -- ---- forms

  item_back : (x : ExpandedItem) → item_as s (item_as r x) ≡ x
  item_back x = λ i. record x { part = part_back x.part i }

  use_back : (u : MacroUse) → use_as s (use_as r u) ≡ u
  use_back u = λ i. record { keyword = target_back u.keyword i; literals = each_back (target_as r) (target_as s) target_back u.literals i }

  fault_back : (e : FormFault) → fault_as s (fault_as r e) ≡ e
  fault_back e = λ i. record e { occ = place_back e.occ i; here = place_back e.here i }

  trace_back : (t : Trace) → trace_as s (trace_as r t) ≡ t
  trace_back t = λ i. record {
    definitions = map_back (binder_as r) (binder_as s) binder_back t.definitions i;
    keywords = map_back (target_as r) (target_as s) target_back t.keywords i;
    uses = map_back (use_as r) (use_as s) use_back t.uses i;
    notes = record t.notes { notes = map_back (note_as r) (note_as s) note_back t.notes.notes i };
  }

  pub form_back : (f : UnitForm) → form_as s (form_as r f) ≡ f
  form_back f = λ i. record {
    items = map_back (item_as r) (item_as s) item_back f.items i;
    trace = trace_back f.trace i;
    fault = option_back (fault_as r) (fault_as s) fault_back f.fault i;
  }

  unit_back : (u : units.Unit) → unit_as s (unit_as r u) ≡ u
  unit_back u = λ i. record u { forms = map_back (form_as r) (form_as s) form_back u.forms i }

  pub program_back : (p : Program) → program_as s (program_as r p) ≡ p
  program_back p = λ i. record { units = map_back (unit_as r) (unit_as s) unit_back p.units i }
