-- By the way back cores, and what forms set aside and come to, are what they were.
use Rattle.std.proofs.Common.{◌≡◌, ℕ, List, map, Result, Ok, Err, refl, ap, ◌∙◌}
use Rattle.scheme_model.specs.Ident.{Ident}
use Rattle.scheme_model.specs.Meaning.{Meaning, Local, Global, Standard, Free}
use Rattle.scheme_model.specs.Trees.{Tree}
use Rattle.scheme_model.specs.Cores as model
use Rattle.scheme_model.specs.ExpansionFaults.{Named}
use Rattle.scheme_model.specs.Shapes.{Clause}
use Rattle.scheme_model.specs.Steps.{Broken}
use Rattle.scheme_model.specs.Order.{Form, Item, Expression, Value, Function, Assigned, AssignedFunction, ValuesOf, Record, Macro, WaitingUse, Left}
use Rattle.renumbering_laws.specs.Moving.{move_tree, move_named, move_clause}
use Rattle.renumbering_laws.specs.Renumbering as new
use Rattle.renumbering_laws.specs.Renumbering.{Renumbering, ident, change, places_of, core_as, cores_as, clauses_as, parts_as, part_as, result_as, form_as, item_as, use_as, left_as}
use Rattle.moves.specs.Numbers.{IsBack}
use Rattle.renumbered_entries.proofs.TreesBack.{list_back, number_back, ident_back, place_back, tree_back, named_back, fault_back, rules_back, clause_back}

module _ (r s : Renumbering) (back : IsBack r s) (keeps : (u n : ℕ) → r.definition u n ≡ n) (keeps' : (u n : ℕ) → s.definition u n ≡ n) where
  -- ---- leaves

  pub meaning_back : (m : Meaning) → new.meaning s (new.meaning r m) ≡ m
  meaning_back (Local v) = ap Local (number_back r s back v)
  meaning_back (Global u i) = let a = back.unit u in let b = ident_back r s back i in λ j. Global (a j) (b j)
  meaning_back (Standard x) = refl
  meaning_back (Free x) = refl

  pub target_back : (t : model.Target) → new.target s (new.target r t) ≡ t
  target_back t = let a = meaning_back t.meaning in let b = ident_back r s back t.ident in let c = place_back r s back t.occ in λ j. record { meaning = a j; ident = b j; occ = c j }

  bound_back : (x : model.Bound) → new.bound s (new.bound r x) ≡ x
  bound_back (model.LocalNumber v) = ap model.LocalNumber (number_back r s back v)
  bound_back (model.Definition u n) = let a = back.unit u in let b = keeps' (r.unit u) (r.definition u n) ∙ keeps u n in λ j. model.Definition (a j) (b j)

  binder_back : (x : model.Binder) → new.binder s (new.binder r x) ≡ x
  binder_back x = let a = bound_back x.bound in let b = ident_back r s back x.ident in let c = place_back r s back x.occ in λ j. record { bound = a j; ident = b j; occ = c j }

  binder_list : (xs : List model.Binder) → map (new.binder s) (map (new.binder r) xs) ≡ xs
  binder_list xs = list_back (new.binder s) (new.binder r) binder_back xs

  binders_back : (x : model.Binders) → new.binders s (new.binders r x) ≡ x
  binders_back x = let a = binder_list x.names in λ j. record { names = a j; rest = x.rest }

  leaf_back : (l : model.RuleLeaf) → new.rule_leaf s (new.rule_leaf r l) ≡ l
  leaf_back l = let a = target_back l.target in λ j. record { target = a j; literal = l.literal }

  macro_back : (m : model.MacroDef) → new.macro_of s (new.macro_of r m) ≡ m
  macro_back m =
      let a = binder_back m.binder in
      let b = rules_back Ident (change s) (change r) (ident_back r s back) (place_back r s back) m.rules in
      let c = list_back (new.rule_leaf s) (new.rule_leaf r) leaf_back m.leaves in
      λ j. record { binder = a j; rules = b j; leaves = c j }

  macro_list : (xs : List model.MacroDef) → map (new.macro_of s) (map (new.macro_of r) xs) ≡ xs
  macro_list xs = list_back (new.macro_of s) (new.macro_of r) macro_back xs

  field_back : (u : model.FieldUse) → new.field_use s (new.field_use r u) ≡ u
  field_back u = let a = place_back r s back u.occ in λ j. record { field = u.field; occ = a j }

  record_back : (t : model.RecordType) → new.record_type s (new.record_type r t) ≡ t
  record_back t =
      let a = binder_list t.binders in let b = binder_list t.fields in let c = list_back (new.field_use s) (new.field_use r) field_back t.used in
      λ j. record { binders = a j; fields = b j; modified = t.modified; used = c j }

  pub use_met_back : (u : model.MacroUse) → new.macro_use_as s (new.macro_use_as r u) ≡ u
  use_met_back u = let a = target_back u.keyword in let b = list_back (new.target s) (new.target r) target_back u.literals in λ j. record { keyword = a j; literals = b j }

  -- ---- cores

  datum_back : {A : Type 0} (t : Tree A) → move_tree (places_of s) (move_tree (places_of r) t) ≡ t
  datum_back {A} t = tree_back A (places_of s) (places_of r) (λ a. refl) (place_back r s back) t

  mutual
    core_back : (c : model.Core) → core_as s (core_as r c) ≡ c
    core_back (model.Ref t) = ap model.Ref (target_back t)
    core_back (model.Const a) = refl
    core_back (model.Quote d) = ap model.Quote (datum_back d)
    core_back (model.Quasi d cs) = let a = datum_back d in let b = cores_back cs in λ j. model.Quasi (a j) (b j)
    core_back (model.Lambda bs c) = let a = binders_back bs in let b = core_back c in λ j. model.Lambda (a j) (b j)
    core_back (model.CaseLambda cs) = ap model.CaseLambda (clauses_back cs)
    core_back (model.If cs) = ap model.If (cores_back cs)
    core_back (model.Set t c) = let a = target_back t in let b = core_back c in λ j. model.Set (a j) (b j)
    core_back (model.Call cs) = ap model.Call (cores_back cs)
    core_back (model.Body ps) = ap model.Body (parts_back ps)
    core_back (model.LetSyntax ms c) = let a = macro_list ms in let b = core_back c in λ j. model.LetSyntax (a j) (b j)

    cores_back : (cs : model.Cores) → cores_as s (cores_as r cs) ≡ cs
    cores_back model.no_cores = refl
    cores_back (model.core c cs) = let a = core_back c in let b = cores_back cs in λ j. model.core (a j) (b j)

    clauses_back : (cs : model.Clauses) → clauses_as s (clauses_as r cs) ≡ cs
    clauses_back model.no_clauses = refl
    clauses_back (model.clause bs c cs) = let a = binders_back bs in let b = core_back c in let d = clauses_back cs in λ j. model.clause (a j) (b j) (d j)

    parts_back : (ps : model.Parts) → parts_as s (parts_as r ps) ≡ ps
    parts_back model.no_parts = refl
    parts_back (model.part p ps) = let a = part_back p in let b = parts_back ps in λ j. model.part (a j) (b j)

    part_back : (p : model.Part) → part_as s (part_as r p) ≡ p
    part_back (model.Expression c) = ap model.Expression (core_back c)
    part_back (model.Define b c) = let a = binder_back b in let d = core_back c in λ j. model.Define (a j) (d j)
    part_back (model.Values bs c) = let a = binders_back bs in let d = core_back c in λ j. model.Values (a j) (d j)
    part_back (model.Fields t) = ap model.Fields (record_back t)
    part_back (model.Syntax m) = ap model.Syntax (macro_back m)

  broken_back : (b : Broken) → new.broken_as s (new.broken_as r b) ≡ b
  broken_back b = let a = fault_back Ident (change s) (change r) (ident_back r s back) (place_back r s back) b.fault in let c = place_back r s back b.here in λ j. record { fault = a j; here = c j }

  result_back : {X : Type 0} (f g : X → X) → ((x : X) → f (g x) ≡ x) → (q : Result X Broken) → result_as s f (result_as r g q) ≡ q
  result_back f g h (Ok x) = ap (λ y. Ok y) (h x)
  result_back f g h (Err e) = ap (λ d. Err d) (broken_back e)

  pub came_back : (q : Result model.Part Broken) → result_as s (part_as s) (result_as r (part_as r) q) ≡ q
  came_back q = result_back (part_as s) (part_as r) part_back q

  -- ---- what is left

  form_back : (x : Form Ident) → form_as s (ident s) (form_as r (ident r) x) ≡ x
  form_back x = let a = place_back r s back x.here in let b = tree_back Ident (change s) (change r) (ident_back r s back) (place_back r s back) x.tree in λ j. record { here = a j; tree = b j }

  name_back : (n : Named Ident) → move_named (change s) (move_named (change r) n) ≡ n
  name_back n = named_back Ident (change s) (change r) (ident_back r s back) (place_back r s back) n

  shape_back : (c : Clause Ident) → move_clause (change s) (move_clause (change r) c) ≡ c
  shape_back c = clause_back Ident (change s) (change r) (ident_back r s back) (place_back r s back) c

  item_back : (i : Item Ident) → item_as s (ident s) (item_as r (ident r) i) ≡ i
  item_back (Expression x) = ap Expression (form_back x)
  item_back (Value b x) = let a = binder_back b in let c = form_back x in λ j. Value (a j) (c j)
  item_back (Function b here c) = let a = binder_back b in let d = place_back r s back here in let e = shape_back c in λ j. Function (a j) (d j) (e j)
  item_back (Assigned n x) = let a = name_back n in let c = form_back x in λ j. Assigned (a j) (c j)
  item_back (AssignedFunction n here c) = let a = name_back n in let d = place_back r s back here in let e = shape_back c in λ j. AssignedFunction (a j) (d j) (e j)
  item_back (ValuesOf bs x) = let a = binders_back bs in let c = form_back x in λ j. ValuesOf (a j) (c j)
  item_back (Record t) = ap Record (record_back t)
  item_back (Macro b here) = let a = binder_back b in let d = place_back r s back here in λ j. Macro (a j) (d j)

  waiting_back : (u : WaitingUse Ident) → use_as s (ident s) (use_as r (ident r) u) ≡ u
  waiting_back u = let a = target_back u.keyword in let b = list_back (move_named (change s)) (move_named (change r)) name_back u.literals in λ j. record { keyword = a j; literals = b j }

  pub left_back : (l : Left Ident) → left_as s (ident s) (left_as r (ident r) l) ≡ l
  left_back l =
      let a = list_back (use_as s (ident s)) (use_as r (ident r)) waiting_back l.uses in
      let b = list_back (item_as s (ident s)) (item_as r (ident r)) item_back l.items in
      λ j. record { uses = a j; items = b j }

  pub set_aside_back : (q : Result (Left Ident) Broken) → result_as s (left_as s (ident s)) (result_as r (left_as r (ident r)) q) ≡ q
  set_aside_back q = result_back (left_as s (ident s)) (left_as r (ident r)) left_back q
