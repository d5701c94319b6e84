-- The marks of a core of the code are the points of the core that it stands for.
use Rattle.std.proofs.Common.{◌≡◌, ℕ, suc, ◌+◌, List, [], ◌∷◌, ◌++◌, map, length, Bool, true, false, Option, Some, None, refl, sym, ap, ◌∙◌, subst, append_assoc}
use Rattle.std.specs.List.{flat_map}
use Rattle.std.proofs.lemmas.List.{append-nil}
use Rattle.scheme_model.specs.declared.Occ.{Occ}
use Rattle.scheme_model.specs.Trees.{Tree, name, atom, list, vector, Trees, no_trees, tree, Tail, proper, dotted, map_tree, map_trees, map_tail}
use Rattle.scheme_model.specs.Ident.{Ident as Identifier, symbol_of}
use Rattle.scheme_model.specs.Cores as model
use Rattle.scheme_model.specs.Cores.{hole_weight, weights}
use Rattle.scheme_model.specs.Holes.{FillsHole, HasHoles, AreLike, IsTailLike, places_in, places_among, places_behind}
use Rattle.scheme_model.specs.Substitution.{Table}
use Rattle.rename_model.specs.Walks.{Point, AtShape, node, number, use_of, truth_number, atom_points, data_points, binders_at, bound_points, binder_points, part_binders, all_part_binders, core_count, clause_count, part_count, formal_points, macro_binders, macro_points, core_points, all_core_points, clause_points, all_part_points, part_points, form_points}
use Rattle.syntax_tree.specs.declared.trees.Work.{Work}
use Rattle.core_tree.specs.Names.{AllMatch, IsBound, IsBinder, IsMacro, IsField}
use Rattle.core_tree.specs.Cores.{CoreStands, CoresStand, ClausesStand, PartsStand, PartStands}
use Rattle.core_tree.specs.Levels.{BindsAs, AllBind, AllMacrosBind, BindsLocals, AllBindLocals, ClausesBindLocals, PartsBind, PartBinds}
use Rattle.core_tree.specs.declared.cores.Binder.{Binder}
use Rattle.core_tree.specs.declared.cores.MacroDef.{MacroDef}
use Rattle.core_tree.specs.declared.cores.FieldUse.{FieldUse}
use Rattle.core_tree.specs.declared.cores.Core.{Core}
use Rattle.core_tree.specs.declared.cores.Clause.{Clause}
use Rattle.core_tree.specs.declared.cores.CorePart.{CorePart}
use Rattle.core_tree.specs.declared.units.ExpandedItem.{ExpandedItem}
use Rattle.alpha_equal.specs.declared.nodes.Node.{Node}
use Rattle.alpha_equal.specs.declared.nodes.Node.TheVariants as nodes
use Rattle.alpha_equal.specs.Points.{node_as}
use Rattle.alpha_equal.specs.Marks.{Marked, ANode, ANumber, AUse, AnAtom, ADatum, Binding, SomeRules, PartMarks, core_marks, part_all, part_binding, part_marks, cores_marks, clauses_marks, parts_binding, parts_marks, bound_marks, bounds_marks, number_marks, used_marks, formal_marks, macro_bindings, macros_marks, items_marks, IsMark, AreMarks}
use Rattle.alpha_equal.proofs.MarkLaws.{marks_ref, marks_const, marks_quote, marks_quasi, marks_lambda, marks_case_lambda, marks_if, marks_set, marks_call, marks_body, marks_let_syntax, marks_clause, all_expression, all_define, all_values, all_fields, all_syntax}

-- ---- data without holes

abbrev whole : Tree Identifier → Tree (Option (List ℕ))
whole t = map_tree Some (map_tree symbol_of t)

mutual
  fills : (t : Tree Identifier) → HasHoles symbol_of t (whole t)
  fills (name i o) = (i, refl, refl)
  fills (atom a o) = refl
  fills (list ts tail o) = (ts, tail, refl, fill_all ts, fills_tail tail)
  fills (vector ts o) = (ts, refl, fill_all ts)

  fill_all : (ts : Trees Identifier) → AreLike (FillsHole symbol_of) ts (map_trees Some (map_trees symbol_of ts))
  fill_all no_trees = refl
  fill_all (tree t ts) = (t, ts, refl, fills t, fill_all ts)

  fills_tail : (tail : Tail Identifier) → IsTailLike (FillsHole symbol_of) tail (map_tail Some (map_tail symbol_of tail))
  fills_tail proper = refl
  fills_tail (dotted t) = (t, refl, fills t)

mutual
  no_places : (n : ℕ) (t : Tree Identifier) → places_in hole_weight n (whole t) ≡ []
  no_places n (name i o) = refl
  no_places n (atom a o) = refl
  no_places n (list ts tail o) =
      (λ j. no_places_among (n + 1) ts j ++ no_places_behind (n + 1 + weights hole_weight (map_trees Some (map_trees symbol_of ts))) tail j)
  no_places n (vector ts o) = no_places_among (n + 1) ts

  no_places_among : (n : ℕ) (ts : Trees Identifier) → places_among hole_weight n (map_trees Some (map_trees symbol_of ts)) ≡ []
  no_places_among n no_trees = refl
  no_places_among n (tree t ts) = (λ j. no_places n t j ++ no_places_among (n + model.weight hole_weight (whole t)) ts j)

  no_places_behind : (n : ℕ) (tail : Tail Identifier) → places_behind hole_weight n (map_tail Some (map_tail symbol_of tail)) ≡ []
  no_places_behind n proper = refl
  no_places_behind n (dotted t) = no_places n t

-- ---- counts

pub count_match : {X Y : Type 0} (P : X → Y → Type 0) (xs : List X) (ys : List Y) → AllMatch P xs ys → length xs ≡ length ys
count_match P [] [] h = refl
count_match P [] (y ∷ ys) h = absurd h
count_match P (x ∷ xs) [] h = absurd h
count_match P (x ∷ xs) (y ∷ ys) h = ap suc (count_match P xs ys h.1)

module _ (work : Work) (table : Table) (unit form : ℕ) where
  count_cores : (xs : List Core) (ms : model.Cores) → CoresStand work unit form xs ms → length xs ≡ core_count ms
  count_cores [] model.no_cores h = refl
  count_cores [] (model.core m ms) h = absurd h
  count_cores (x ∷ xs) model.no_cores h = absurd h
  count_cores (x ∷ xs) (model.core m ms) h = ap suc (count_cores xs ms h.1)

  count_clauses : (xs : List Clause) (ms : model.Clauses) → ClausesStand work unit form xs ms → length xs ≡ clause_count ms
  count_clauses [] model.no_clauses h = refl
  count_clauses [] (model.clause bs m ms) h = absurd h
  count_clauses (x ∷ xs) model.no_clauses h = absurd h
  count_clauses (x ∷ xs) (model.clause bs m ms) h = ap suc (count_clauses xs ms h.1)

  count_parts : (xs : List CorePart) (ms : model.Parts) → PartsStand work unit form xs ms → length xs ≡ part_count ms
  count_parts [] model.no_parts h = refl
  count_parts [] (model.part m ms) h = absurd h
  count_parts (x ∷ xs) model.no_parts h = absurd h
  count_parts (x ∷ xs) (model.part m ms) h = ap suc (count_parts xs ms h.1)

  -- ---- one after another

  pub mark_more : (x : Marked) (xs : List Marked) (ls ms : List Point) → IsMark work table unit form x ls → AreMarks work table unit form xs ms → AreMarks work table unit form (x ∷ xs) (ls ++ ms)
  mark_more x xs ls ms h k = (ls, ms, refl, h, k)

  mark_one : (x : Marked) (ls : List Point) → IsMark work table unit form x ls → AreMarks work table unit form (x ∷ []) ls
  mark_one x ls h = (ls, [], sym (append-nil ls), h, refl)

  mark_both : (xs ys : List Marked) (ls ms : List Point) → AreMarks work table unit form xs ls → AreMarks work table unit form ys ms → AreMarks work table unit form (xs ++ ys) (ls ++ ms)
  mark_both [] ys ls ms h k = subst (λ (q : List Point). AreMarks work table unit form ys (q ++ ms)) (sym h) k
  mark_both (x ∷ xs) ys ls ms h k =
      (h.0, h.1 ++ ms, ap (λ (q : List Point). q ++ ms) h.2 ∙ append_assoc h.0 h.1 ms, h.3, mark_both xs ys h.1 ms h.4 k)

  marks_as : (xs ys : List Marked) (ls : List Point) → ys ≡ xs → AreMarks work table unit form xs ls → AreMarks work table unit form ys ls
  marks_as xs ys ls e h = subst (λ (q : List Marked). AreMarks work table unit form q ls) (sym e) h

  counted : (k : Node) (n m : ℕ) (xs : List Marked) (ls : List Point) → n ≡ m → AreMarks work table unit form xs ls → AreMarks work table unit form (ANode k ∷ ANumber n ∷ xs) (node (node_as k) ∷ number m ∷ ls)
  counted k n m xs ls e h =
      mark_more (ANode k) (ANumber n ∷ xs) (node (node_as k) ∷ []) (number m ∷ ls) refl (mark_more (ANumber n) xs (number m ∷ []) ls (ap (λ (q : ℕ). number q ∷ []) (sym e)) h)

  numbered : (n m : ℕ) (xs : List Marked) (ls : List Point) → n ≡ m → AreMarks work table unit form xs ls → AreMarks work table unit form (ANumber n ∷ xs) (number m ∷ ls)
  numbered n m xs ls e h = mark_more (ANumber n) xs (number m ∷ []) ls (ap (λ (q : ℕ). number q ∷ []) (sym e)) h

  a_node : (k : Node) (xs : List Marked) (ls : List Point) → AreMarks work table unit form xs ls → AreMarks work table unit form (ANode k ∷ xs) (node (node_as k) ∷ ls)
  a_node k xs ls h = mark_more (ANode k) xs (node (node_as k) ∷ []) ls refl h

  -- ---- binders

  bound_is : (local : Bool) (b : Binder) (x : model.Bound) (i : Identifier) (o : Option Occ) → IsBound unit form b.number x → BindsAs local x →
      AreMarks work table unit form (bound_marks local b) (bound_points (record { bound = x; ident = i; occ = o }))
  bound_is true b (model.LocalNumber v) i o h k = a_node nodes.BindsLocal [] [] refl
  bound_is true b (model.Definition u n) i o h k = absurd k
  bound_is false b (model.LocalNumber v) i o h k = absurd k
  bound_is false b (model.Definition u n) i o h k = counted nodes.BindsDefinition b.number n [] [] (sym h.1) refl

  bounds_are : (local : Bool) (bs : List Binder) (ms : List model.Binder) → AllMatch (IsBinder work.symbols unit form) bs ms → AllBind local ms →
      AreMarks work table unit form (bounds_marks local bs) (binder_points ms)
  bounds_are local [] [] h k = refl
  bounds_are local [] (m ∷ ms) h k = absurd h
  bounds_are local (b ∷ bs) [] h k = absurd h
  bounds_are local (b ∷ bs) (m ∷ ms) h k =
      mark_both (bound_marks local b) (bounds_marks local bs) (bound_points m) (binder_points ms) (bound_is local b m.bound m.ident m.occ h.0.number k.0) (bounds_are local bs ms h.1 k.1)

  binding_is : (k : Node) (bs : List Binder) (ms : List model.Binder) → AllMatch (IsBinder work.symbols unit form) bs ms → AllBind true ms →
      IsMark work table unit form (Binding k bs) (binders_at (node_as k) ms ∷ [])
  binding_is k bs ms h g = (ms, refl, h, g)

  formals_are : (bs : List Binder) (rest : Bool) (m : model.Binders) → AllMatch (IsBinder work.symbols unit form) bs m.names → rest ≡ m.rest → AllBind true m.names →
      AreMarks work table unit form (formal_marks bs rest) (formal_points m)
  formals_are bs rest m h e k =
      counted nodes.Procedure (length bs) (length m.names) (ANumber (truth_number rest) ∷ Binding nodes.Procedure bs ∷ []) (number (truth_number m.rest) ∷ binders_at (node_as nodes.Procedure) m.names ∷ [])
      (count_match (IsBinder work.symbols unit form) bs m.names h)
      (numbered (truth_number rest) (truth_number m.rest) (Binding nodes.Procedure bs ∷ []) (binders_at (node_as nodes.Procedure) m.names ∷ []) (ap truth_number e)
      (mark_one (Binding nodes.Procedure bs) (binders_at (node_as nodes.Procedure) m.names ∷ []) (binding_is nodes.Procedure bs m.names h k)))

  -- ---- macros

  macro_bindings_are : (ds : List MacroDef) (ms : List model.MacroDef) → AllMatch (IsMacro work unit form) ds ms → AllMacrosBind true ms → AreMarks work table unit form (macro_bindings ds) (macro_binders ms)
  macro_bindings_are [] [] h k = refl
  macro_bindings_are [] (m ∷ ms) h k = absurd h
  macro_bindings_are (d ∷ ds) [] h k = absurd h
  macro_bindings_are (d ∷ ds) (m ∷ ms) h k =
      mark_more (Binding nodes.Syntax (d.binder ∷ [])) (macro_bindings ds) (binders_at (node_as nodes.Syntax) (m.binder ∷ []) ∷ []) (macro_binders ms)
      (binding_is nodes.Syntax (d.binder ∷ []) (m.binder ∷ []) (h.0.binder, tt) (k.0, tt)) (macro_bindings_are ds ms h.1 k.1)

  macros_are : (ds : List MacroDef) (ms : List model.MacroDef) → AllMatch (IsMacro work unit form) ds ms → AreMarks work table unit form (macros_marks ds) (flat_map (macro_points table) ms)
  macros_are [] [] h = refl
  macros_are [] (m ∷ ms) h = absurd h
  macros_are (d ∷ ds) [] h = absurd h
  macros_are (d ∷ ds) (m ∷ ms) h = mark_more (SomeRules d) (macros_marks ds) (macro_points table m) (flat_map (macro_points table) ms) (m, refl, h.0) (macros_are ds ms h.1)

  -- ---- records

  numbers_are : (ns ms : List ℕ) → ns ≡ ms → AreMarks work table unit form (number_marks ns) (map number ms)
  numbers_are ns ms e = subst (λ (q : List ℕ). AreMarks work table unit form (number_marks ns) (map number q)) e (same ns)
    where
      same : (ns : List ℕ) → AreMarks work table unit form (number_marks ns) (map number ns)
      same [] = refl
      same (n ∷ ns) = numbered n n (number_marks ns) (map number ns) refl (same ns)

  used_are : (us : List FieldUse) (ms : List model.FieldUse) → AllMatch IsField us ms → AreMarks work table unit form (used_marks us) (map (λ (u : model.FieldUse). number u.field) ms)
  used_are [] [] h = refl
  used_are [] (m ∷ ms) h = absurd h
  used_are (u ∷ us) [] h = absurd h
  used_are (u ∷ us) (m ∷ ms) h = numbered u.field m.field (used_marks us) (map (λ (u : model.FieldUse). number u.field) ms) h.0.field (used_are us ms h.1)

  -- ---- what parts bind

  part_binding_is : (p : CorePart) (m : model.Part) → PartStands work unit form p m → PartBinds true m → IsMark work table unit form (part_binding p) (part_binders m ∷ [])
  part_binding_is p (model.Expression m) h k =
      subst (λ (q : PartMarks). IsMark work table unit form q.binding (part_binders (model.Expression m) ∷ [])) (sym (ap part_all h.1 ∙ all_expression h.0)) (binding_is nodes.Expression [] [] tt tt)
  part_binding_is p (model.Define b m) h k =
      subst (λ (q : PartMarks). IsMark work table unit form q.binding (part_binders (model.Define b m) ∷ [])) (sym (ap part_all h.2 ∙ all_define h.0 h.1)) (binding_is nodes.Definition (h.0 ∷ []) (b ∷ []) (h.3, tt) (k.0, tt))
  part_binding_is p (model.Values bs m) h k =
      subst (λ (q : PartMarks). IsMark work table unit form q.binding (part_binders (model.Values bs m) ∷ [])) (sym (ap part_all h.3 ∙ all_values h.0 h.1 h.2)) (binding_is nodes.Values h.0.items bs.names h.4.0 k.0)
  part_binding_is p (model.Fields r) h k =
      subst (λ (q : PartMarks). IsMark work table unit form q.binding (part_binders (model.Fields r) ∷ [])) (sym (ap part_all h.4 ∙ all_fields h.0 h.1 h.2 h.3)) (binding_is nodes.Record h.0.items r.binders h.5 k.0)
  part_binding_is p (model.Syntax d) h k =
      subst (λ (q : PartMarks). IsMark work table unit form q.binding (part_binders (model.Syntax d) ∷ [])) (sym (ap part_all h.1 ∙ all_syntax h.0)) (binding_is nodes.Syntax (h.0.binder ∷ []) (d.binder ∷ []) (h.2.binder, tt) (k, tt))

  parts_binding_are : (ps : List CorePart) (ms : model.Parts) → PartsStand work unit form ps ms → PartsBind true ms → AreMarks work table unit form (parts_binding ps) (all_part_binders ms)
  parts_binding_are [] model.no_parts h k = refl
  parts_binding_are [] (model.part m ms) h k = absurd h
  parts_binding_are (p ∷ ps) model.no_parts h k = absurd h
  parts_binding_are (p ∷ ps) (model.part m ms) h k =
      mark_more (part_binding p) (parts_binding ps) (part_binders m ∷ []) (all_part_binders ms) (part_binding_is p m h.0 k.0) (parts_binding_are ps ms h.1 k.1)

  -- ---- cores

  mutual
    pub core_are : (c : Core) (m : model.Core) → CoreStands work unit form c m → BindsLocals m → AreMarks work table unit form (core_marks c) (core_points table m)
    core_are c (model.Ref t) h k =
        marks_as (ANode nodes.Reference ∷ AUse h.0 ∷ []) (core_marks c) (core_points table (model.Ref t)) (ap core_marks h.1 ∙ marks_ref h.0)
        (a_node nodes.Reference (AUse h.0 ∷ []) (use_of table t ∷ []) (mark_one (AUse h.0) (use_of table t ∷ []) (t, refl, h.2)))
    core_are c (model.Const a) h k =
        marks_as (ANode nodes.Constant ∷ AnAtom h.0 ∷ []) (core_marks c) (core_points table (model.Const a)) (ap core_marks h.2 ∙ marks_const h.0)
        (a_node nodes.Constant (AnAtom h.0 ∷ []) (atom_points AtShape None a) (mark_one (AnAtom h.0) (atom_points AtShape None a) (a, h.1, refl, h.3)))
    core_are c (model.Quote d) h k =
        marks_as (ANode nodes.Quotation ∷ ADatum h.0 [] ∷ []) (core_marks c) (core_points table (model.Quote d)) (ap core_marks h.2 ∙ marks_quote h.0)
        (a_node nodes.Quotation (ADatum h.0 [] ∷ []) (data_points (map_tree Some d))
        (mark_one (ADatum h.0 []) (data_points (map_tree Some d)) (whole h.1, ap (λ (s : Tree (List ℕ)). data_points (map_tree Some s)) (sym h.4), (h.1, h.3, fills h.1, sym (no_places 0 h.1)))))
    core_are c (model.Quasi d ms) h k =
        marks_as (ANode nodes.Quasiquotation ∷ ANumber (length h.2.items) ∷ ADatum h.0 h.1.items ∷ cores_marks h.2.items) (core_marks c) (core_points table (model.Quasi d ms)) (ap core_marks h.3 ∙ marks_quasi h.0 h.1 h.2)
        (counted nodes.Quasiquotation (length h.2.items) (core_count ms) (ADatum h.0 h.1.items ∷ cores_marks h.2.items) (data_points d ++ all_core_points table ms) (count_cores h.2.items ms h.5)
        (mark_more (ADatum h.0 h.1.items) (cores_marks h.2.items) (data_points d) (all_core_points table ms) (d, refl, h.4) (cores_are h.2.items ms h.5 k)))
    core_are c (model.Lambda bs m) h k =
        let q = h.3 in
        marks_as (formal_marks q.0.items q.1 ++ core_marks h.1.value) (core_marks c) (core_points table (model.Lambda bs m)) (ap core_marks h.2 ∙ marks_lambda h.0 ∙ marks_clause h.0 q.0 q.1 h.1 q.2)
        (mark_both (formal_marks q.0.items q.1) (core_marks h.1.value) (formal_points bs) (core_points table m) (formals_are q.0.items q.1 bs q.3.0 q.3.1 k.0) (core_are h.1.value m h.4 k.1))
    core_are c (model.CaseLambda ms) h k =
        marks_as (ANode nodes.CaseLambda ∷ ANumber (length h.0.items) ∷ clauses_marks h.0.items) (core_marks c) (core_points table (model.CaseLambda ms)) (ap core_marks h.1 ∙ marks_case_lambda h.0)
        (counted nodes.CaseLambda (length h.0.items) (clause_count ms) (clauses_marks h.0.items) (clause_points table ms) (count_clauses h.0.items ms h.2) (clauses_are h.0.items ms h.2 k))
    core_are c (model.If ms) h k =
        marks_as (ANode nodes.Conditional ∷ ANumber (length h.0.items) ∷ cores_marks h.0.items) (core_marks c) (core_points table (model.If ms)) (ap core_marks h.1 ∙ marks_if h.0)
        (counted nodes.Conditional (length h.0.items) (core_count ms) (cores_marks h.0.items) (all_core_points table ms) (count_cores h.0.items ms h.2) (cores_are h.0.items ms h.2 k))
    core_are c (model.Set t m) h k =
        marks_as (ANode nodes.Assignment ∷ AUse h.0 ∷ core_marks h.1.value) (core_marks c) (core_points table (model.Set t m)) (ap core_marks h.2 ∙ marks_set h.0 h.1)
        (a_node nodes.Assignment (AUse h.0 ∷ core_marks h.1.value) (use_of table t ∷ core_points table m)
        (mark_more (AUse h.0) (core_marks h.1.value) (use_of table t ∷ []) (core_points table m) (t, refl, h.3) (core_are h.1.value m h.4 k)))
    core_are c (model.Call ms) h k =
        marks_as (ANode nodes.Call ∷ ANumber (length h.0.items) ∷ cores_marks h.0.items) (core_marks c) (core_points table (model.Call ms)) (ap core_marks h.1 ∙ marks_call h.0)
        (counted nodes.Call (length h.0.items) (core_count ms) (cores_marks h.0.items) (all_core_points table ms) (count_cores h.0.items ms h.2) (cores_are h.0.items ms h.2 k))
    core_are c (model.Body ms) h k =
        marks_as (ANode nodes.Body ∷ ANumber (length h.0.items) ∷ parts_binding h.0.items ++ parts_marks h.0.items) (core_marks c) (core_points table (model.Body ms)) (ap core_marks h.1 ∙ marks_body h.0)
        (counted nodes.Body (length h.0.items) (part_count ms) (parts_binding h.0.items ++ parts_marks h.0.items) (all_part_binders ms ++ all_part_points table ms) (count_parts h.0.items ms h.2)
        (mark_both (parts_binding h.0.items) (parts_marks h.0.items) (all_part_binders ms) (all_part_points table ms) (parts_binding_are h.0.items ms h.2 k) (parts_are true h.0.items ms h.2 k)))
    core_are c (model.LetSyntax ds m) h k =
        let xs = h.0.items in
        let defined = mark_both (macro_bindings xs) (macros_marks xs) (macro_binders ds) (flat_map (macro_points table) ds) (macro_bindings_are xs ds h.3 k.0) (macros_are xs ds h.3) in
        let all = mark_both (macro_bindings xs ++ macros_marks xs) (core_marks h.1.value) (macro_binders ds ++ flat_map (macro_points table) ds) (core_points table m) defined (core_are h.1.value m h.4 k.1) in
        marks_as (ANode nodes.LocalMacros ∷ ANumber (length xs) ∷ (macro_bindings xs ++ macros_marks xs) ++ core_marks h.1.value) (core_marks c) (core_points table (model.LetSyntax ds m)) (ap core_marks h.2 ∙ marks_let_syntax h.0 h.1)
        (counted nodes.LocalMacros (length xs) (length ds) ((macro_bindings xs ++ macros_marks xs) ++ core_marks h.1.value) ((macro_binders ds ++ flat_map (macro_points table) ds) ++ core_points table m) (count_match (IsMacro work unit form) xs ds h.3)
        all)

    pub cores_are : (cs : List Core) (ms : model.Cores) → CoresStand work unit form cs ms → AllBindLocals ms → AreMarks work table unit form (cores_marks cs) (all_core_points table ms)
    cores_are [] model.no_cores h k = refl
    cores_are [] (model.core m ms) h k = absurd h
    cores_are (c ∷ cs) model.no_cores h k = absurd h
    cores_are (c ∷ cs) (model.core m ms) h k = mark_both (core_marks c) (cores_marks cs) (core_points table m) (all_core_points table ms) (core_are c m h.0 k.0) (cores_are cs ms h.1 k.1)

    pub clauses_are : (cs : List Clause) (ms : model.Clauses) → ClausesStand work unit form cs ms → ClausesBindLocals ms → AreMarks work table unit form (clauses_marks cs) (clause_points table ms)
    clauses_are [] model.no_clauses h k = refl
    clauses_are [] (model.clause bs m ms) h k = absurd h
    clauses_are (c ∷ cs) model.no_clauses h k = absurd h
    clauses_are (c ∷ cs) (model.clause bs m ms) h k =
        let x = h.0 in
        let q = x.1 in
        let one = mark_both (formal_marks q.0.items q.1) (core_marks x.0.value) (formal_points bs) (core_points table m) (formals_are q.0.items q.1 bs q.3.0 q.3.1 k.0) (core_are x.0.value m x.2 k.1) in
        marks_as ((formal_marks q.0.items q.1 ++ core_marks x.0.value) ++ clauses_marks cs) (clauses_marks (c ∷ cs)) (clause_points table (model.clause bs m ms))
        (ap (λ (s : List Marked). s ++ clauses_marks cs) (marks_clause c q.0 q.1 x.0 q.2))
        (mark_both (formal_marks q.0.items q.1 ++ core_marks x.0.value) (clauses_marks cs) (formal_points bs ++ core_points table m) (clause_points table ms) one (clauses_are cs ms h.1 k.2))

    pub parts_are : (local : Bool) (ps : List CorePart) (ms : model.Parts) → PartsStand work unit form ps ms → PartsBind local ms →
        AreMarks work table unit form (flat_map (λ p. part_marks p local) ps) (all_part_points table ms)
    parts_are local [] model.no_parts h k = refl
    parts_are local [] (model.part m ms) h k = absurd h
    parts_are local (p ∷ ps) model.no_parts h k = absurd h
    parts_are local (p ∷ ps) (model.part m ms) h k =
        mark_both (part_marks p local) (flat_map (λ q. part_marks q local) ps) (part_points table m) (all_part_points table ms) (part_are local p m h.0 k.0) (parts_are local ps ms h.1 k.1)

    pub part_are : (local : Bool) (p : CorePart) (m : model.Part) → PartStands work unit form p m → PartBinds local m → AreMarks work table unit form (part_marks p local) (part_points table m)
    part_are local p (model.Expression m) h k =
        marks_as (ANode nodes.Expression ∷ core_marks h.0) (part_marks p local) (part_points table (model.Expression m)) (ap (λ (q : PartMarks). q.marks local) (ap part_all h.1 ∙ all_expression h.0))
        (a_node nodes.Expression (core_marks h.0) (core_points table m) (core_are h.0 m h.2 k))
    part_are local p (model.Define b m) h k =
        marks_as (ANode nodes.Definition ∷ bound_marks local h.0 ++ core_marks h.1) (part_marks p local) (part_points table (model.Define b m)) (ap (λ (q : PartMarks). q.marks local) (ap part_all h.2 ∙ all_define h.0 h.1))
        (a_node nodes.Definition (bound_marks local h.0 ++ core_marks h.1) (bound_points b ++ core_points table m)
        (mark_both (bound_marks local h.0) (core_marks h.1) (bound_points b) (core_points table m) (bound_is local h.0 b.bound b.ident b.occ h.3.number k.0) (core_are h.1 m h.4 k.1)))
    part_are local p (model.Values bs m) h k =
        let names = h.0.items in
        marks_as (ANode nodes.Values ∷ ANumber (length names) ∷ ANumber (truth_number h.1) ∷ bounds_marks local names ++ core_marks h.2) (part_marks p local) (part_points table (model.Values bs m))
        (ap (λ (q : PartMarks). q.marks local) (ap part_all h.3 ∙ all_values h.0 h.1 h.2))
        (counted nodes.Values (length names) (length bs.names) (ANumber (truth_number h.1) ∷ bounds_marks local names ++ core_marks h.2) (number (truth_number bs.rest) ∷ binder_points bs.names ++ core_points table m) (count_match (IsBinder work.symbols unit form) names bs.names h.4.0)
        (numbered (truth_number h.1) (truth_number bs.rest) (bounds_marks local names ++ core_marks h.2) (binder_points bs.names ++ core_points table m) (ap truth_number h.4.1)
        (mark_both (bounds_marks local names) (core_marks h.2) (binder_points bs.names) (core_points table m) (bounds_are local names bs.names h.4.0 k.0) (core_are h.2 m h.5 k.1))))
    part_are local p (model.Fields r) h k =
        let bs = h.0.items in
        let fs = h.1.items in
        let ms = h.2.items in
        let us = h.3.items in
        marks_as (ANode nodes.Record ∷ ANumber (length bs) ∷ ANumber (length fs) ∷ ANumber (length ms) ∷ ANumber (length us) ∷ bounds_marks local bs ++ number_marks ms ++ used_marks us) (part_marks p local) (part_points table (model.Fields r))
        (ap (λ (q : PartMarks). q.marks local) (ap part_all h.4 ∙ all_fields h.0 h.1 h.2 h.3))
        (counted nodes.Record (length bs) (length r.binders) (ANumber (length fs) ∷ ANumber (length ms) ∷ ANumber (length us) ∷ bounds_marks local bs ++ number_marks ms ++ used_marks us) (number (length r.fields) ∷ number (length r.modified) ∷ number (length r.used) ∷ binder_points r.binders ++ map number r.modified ++ map (λ (u : model.FieldUse). number u.field) r.used) (count_match (IsBinder work.symbols unit form) bs r.binders h.5)
        (numbered (length fs) (length r.fields) (ANumber (length ms) ∷ ANumber (length us) ∷ bounds_marks local bs ++ number_marks ms ++ used_marks us) (number (length r.modified) ∷ number (length r.used) ∷ binder_points r.binders ++ map number r.modified ++ map (λ (u : model.FieldUse). number u.field) r.used) (count_match (IsBinder work.symbols unit form) fs r.fields h.6)
        (numbered (length ms) (length r.modified) (ANumber (length us) ∷ bounds_marks local bs ++ number_marks ms ++ used_marks us) (number (length r.used) ∷ binder_points r.binders ++ map number r.modified ++ map (λ (u : model.FieldUse). number u.field) r.used) (ap length h.7)
        (numbered (length us) (length r.used) (bounds_marks local bs ++ number_marks ms ++ used_marks us) (binder_points r.binders ++ map number r.modified ++ map (λ (u : model.FieldUse). number u.field) r.used) (count_match IsField us r.used h.8)
        (mark_both (bounds_marks local bs ++ number_marks ms) (used_marks us) (binder_points r.binders ++ map number r.modified) (map (λ (u : model.FieldUse). number u.field) r.used)
        (mark_both (bounds_marks local bs) (number_marks ms) (binder_points r.binders) (map number r.modified) (bounds_are local bs r.binders h.5 k.0) (numbers_are ms r.modified h.7)) (used_are us r.used h.8))))))
    part_are local p (model.Syntax d) h k =
        marks_as (ANode nodes.Syntax ∷ bound_marks local h.0.binder ++ SomeRules h.0 ∷ []) (part_marks p local) (part_points table (model.Syntax d)) (ap (λ (q : PartMarks). q.marks local) (ap part_all h.1 ∙ all_syntax h.0))
        (a_node nodes.Syntax (bound_marks local h.0.binder ++ SomeRules h.0 ∷ []) (bound_points d.binder ++ macro_points table d)
        (mark_both (bound_marks local h.0.binder) (SomeRules h.0 ∷ []) (bound_points d.binder) (macro_points table d) (bound_is local h.0.binder d.binder.bound d.binder.ident d.binder.occ h.2.binder.number k)
        (mark_one (SomeRules h.0) (macro_points table d) (d, refl, h.2))))

  -- ---- forms

  items_map : (is : List ExpandedItem) → flat_map (λ p. part_marks p false) (map (λ (i : ExpandedItem). i.part) is) ≡ items_marks is
  items_map [] = refl
  items_map (i ∷ is) = ap (λ (q : List Marked). part_marks i.part false ++ q) (items_map is)

  items_count : (is : List ExpandedItem) → length (map (λ (i : ExpandedItem). i.part) is) ≡ length is
  items_count [] = refl
  items_count (i ∷ is) = ap suc (items_count is)

  -- the items of a form that stand for these parts
  pub form_are : (is : List ExpandedItem) (ms : model.Parts) → PartsStand work unit form (map (λ (i : ExpandedItem). i.part) is) ms → PartsBind false ms →
      AreMarks work table unit form (ANode nodes.Form ∷ ANumber (length is) ∷ items_marks is) (form_points table ms)
  form_are is ms h k =
      counted nodes.Form (length is) (part_count ms) (items_marks is) (all_part_points table ms) (sym (items_count is) ∙ count_parts (map (λ (i : ExpandedItem). i.part) is) ms h)
      (marks_as (flat_map (λ p. part_marks p false) (map (λ (i : ExpandedItem). i.part) is)) (items_marks is) (all_part_points table ms) (sym (items_map is)) (parts_are false (map (λ (i : ExpandedItem). i.part) is) ms h k))
