-- Expressions on both sides: they come to the same cores, renumbered.
use Rattle.std.proofs.Common.{◌≡◌, ℕ, zero, suc, ◌+◌, List, [], ◌∷◌, map, Bool, Option, Some, None, Ok, Err, refl, ap, ◌∙◌}
use Rattle.scheme_model.specs.Identifiers.{Number}
use Rattle.scheme_model.specs.Ident.{Ident}
use Rattle.scheme_model.specs.Keywords.{CoreKeyword, IsQuote, IsQuasiquote, IsLambda, IsCaseLambda, IsIf, IsSet, IsBegin, IsDefine, IsDefineValues, IsDefineRecordType, IsDefineSyntax, IsLetSyntax, IsLetrecSyntax, IsCondExpand, IsSyntaxError, IsInclude}
use Rattle.scheme_model.specs.Trees.{Tree, name, atom, list, vector, Trees, no_trees, tree, Tail, proper, dotted, map_tree}
use Rattle.scheme_model.specs.Measures.{tree_size}
use Rattle.scheme_model.specs.ExpansionFaults.{Named, named, KeywordAsValue, ◌>>◌}
use Rattle.scheme_model.specs.Meaning.{Head, IsCore, IsAuxiliary, IsMacro, IsNone}
use Rattle.scheme_model.specs.Requirements.{chosen_of, libraries_in}
use Rattle.scheme_model.specs.Shapes.{Clause, LocalMacros, one_of}
use Rattle.scheme_model.specs.Quasiquote.{Pieces, quasi_of, marks_in}
use Rattle.scheme_model.specs.RulesShape.{option_map}
use Rattle.scheme_model.specs.Leaves.{Leaf, leaves_of}
use Rattle.scheme_model.specs.Cores.{Target, LocalNumber, Binder, Binders, Core, Ref, Quote, Quasi, Set, LetSyntax, Syntax as syntax_part, weight, weights, tail_weight, hole_weight, outside}
use Rattle.scheme_model.specs.Steps.{Step, ◌>>=◌, done}
use Rattle.scheme_model.specs.Order.{Here, Item, Expression, Value, Function, Assigned, AssignedFunction, ValuesOf, Record, Macro, Pass, Region, Transformer, Asked, Meant, Headed, RulesOf, Library, target_of, head_of, here_at, forms_at, given, RulesParts, run}
use Rattle.scheme_model.specs.Expression.{whole, body, Expander, node, each, each_of, bound, procedure, lambda, clauses, meaning_of, macro_with, macro_def, macro_asked, assignment, item_part, parts, left_of, body_in, body_core, expressions, sequence, heads, keep_all, numbers, local_defs, locals_asked, local_macros, recursive, let_syntax, letrec_syntax, mark_of, symbol_or_hole, quasi, quote, unless_keyword, set, reference, call, chosen_sequence, core_form, macro_use, by_head, expression, expand}
use Rattle.scheme_model.proofs.RenamingLaws.{map_turned}
use Rattle.renumbering_laws.specs.Moving.{Change, move_tree, move_trees, move_tail, move_named, move_rules, move_clause}
use Rattle.renumbering_laws.specs.Renumbering.{Renumbering, number, place, ident, meaning, places_of, target, binder, binders, rule_leaf, macro_of, core_as, cores_as, clauses_as, parts_as, part_as, item_as, left_as}
use Rattle.renumbering_laws.proofs.Sides.{no_macro, a_macro, regions, meant, headed, rules_of, Sides, Macros, Regions}
use Rattle.renumbering_laws.proofs.MovedParts.{on_some, move_local_macros, move_pieces, move_leaf}
use Rattle.renumbering_laws.proofs.MovingSteps.{Reads, size-map, then_map}
use Rattle.renumbering_laws.proofs.Turned.{tree_turned, rules_turned}
use Rattle.renumbering_laws.proofs.MovedShapes.{some_of-map, one_of-map, if_of-map, named_tree_of-map, syntax_of-map, error_text_of-map, lambda_of-map, case_lambda_of-map, definition_of-map, values_of-map, local_macros_of-map}
use Rattle.renumbering_laws.proofs.MovedRequirements.{chosen_of-map}
use Rattle.renumbering_laws.proofs.MovedQuasi.{quasi_of-map}
use Rattle.renumbering_laws.proofs.MovedLeaves.{leaves_of-map}
use Rattle.renumbering_laws.proofs.SideSteps.{moved, told as names_told, Goes, goes, goes_at, goes_bind, goes_read, here_seen, node_goes}
use Rattle.renumbering_laws.proofs.SideQuestions.{meaning_seen, marks_asked, libraries_asked, macro_leaves_asked, local_macros_asked}
use Rattle.renumbering_laws.proofs.SideUses.{head_moved, head_goes, target_goes, use_goes, waiting_met, all_met}
use Rattle.renumbering_laws.proofs.SideForms.{move_parts, forms_at_seen, Ran, ran, ran_at, rules_parts_goes, rules_at_goes}
use Rattle.renumbering_laws.proofs.SideRuns.{run_goes}

mark_seen : (r : Renumbering) (x : Head) → mark_of (head_moved r x) ≡ mark_of x
mark_seen r (IsCore k) = refl
mark_seen r (IsAuxiliary a) = refl
mark_seen r (IsMacro m) = refl
mark_seen r IsNone = refl

-- how many nodes stand outside holes
module _ (A B : Type 0) (f : Change A B) where
  hole_same : (o : Option A) → hole_weight (option_map f.on o) ≡ hole_weight o
  hole_same None = refl
  hole_same (Some i) = refl

  mutual
    weight_same : (t : Tree (Option A)) → weight hole_weight (move_tree (on_some f) t) ≡ weight hole_weight t
    weight_same (name i o) = hole_same i
    weight_same (atom a o) = refl
    weight_same (list ts tail o) = let a = weights_same ts in let b = tail_weight_same tail in λ j. a j + b j + 1
    weight_same (vector ts o) = ap (λ n. n + 1) (weights_same ts)

    weights_same : (ts : Trees (Option A)) → weights hole_weight (move_trees (on_some f) ts) ≡ weights hole_weight ts
    weights_same no_trees = refl
    weights_same (tree t ts) = let a = weight_same t in let b = weights_same ts in λ j. a j + b j

    tail_weight_same : (tail : Tail (Option A)) → tail_weight hole_weight (move_tail (on_some f) tail) ≡ tail_weight hole_weight tail
    tail_weight_same proper = refl
    tail_weight_same (dotted t) = weight_same t

module _ (h : Sides) where
  abbrev r : Renumbering
  r = h.r

  abbrev mv : Change h.A h.A'
  mv = moved h

  abbrev One : Type 0
  One = Expander h.E h.A h.S

  abbrev Two : Type 0
  Two = Expander h.E' h.A' h.S'

  abbrev pub WholeGoes : One → Two → Type 0
  WholeGoes F G = (depth : ℕ) (here : Here) (e : h.E) (e' : h.E') → h.around e e' → (t : Tree h.A) (s : h.S) (s' : h.S') → h.state s s' → Goes h (core_as r) (F depth here e (whole t) s) (G depth (place r here) e' (whole (move_tree mv t)) s')

  abbrev pub BodyGoes : One → Two → Type 0
  BodyGoes F G = (depth : ℕ) (here : Here) (e : h.E) (e' : h.E') → h.around e e' → (ts : Trees h.A) (s : h.S) (s' : h.S') → h.state s s' → Goes h (core_as r) (F depth here e (body ts) s) (G depth (place r here) e' (body (move_trees mv ts)) s')

  -- ---- tree by tree

  module _ (f : Tree h.A → Step h.S Core) (g : Tree h.A' → Step h.S' Core) (law : (t : Tree h.A) (s : h.S) (s' : h.S') → h.state s s' → Goes h (core_as r) (f t s) (g (move_tree mv t) s')) where
    each_goes : (ts : Trees h.A) (s : h.S) (s' : h.S') → h.state s s' → Goes h (cores_as r) (each f ts s) (each g (move_trees mv ts) s')
    each_goes no_trees s s' l = goes refl l
    each_goes (tree t ts) s s' l = goes_bind h _ _ (law t s s' l) (λ a u u' m. goes_bind h _ _ (each_goes ts u u' m) (λ b v v' n. goes refl n))

    each_of_goes : (ts : List (Tree h.A)) (s : h.S) (s' : h.S') → h.state s s' → Goes h (cores_as r) (each_of f ts s) (each_of g (map (move_tree mv) ts) s')
    each_of_goes [] s s' l = goes refl l
    each_of_goes (t ∷ ts) s s' l = goes_bind h _ _ (law t s s' l) (λ a u u' m. goes_bind h _ _ (each_of_goes ts u u' m) (λ b v v' n. goes refl n))

    expressions_goes : (ts : Trees h.A) (s : h.S) (s' : h.S') → h.state s s' → Goes h (parts_as r) (expressions f ts s) (expressions g (move_trees mv ts) s')
    expressions_goes no_trees s s' l = goes refl l
    expressions_goes (tree t ts) s s' l = goes_bind h _ _ (law t s s' l) (λ a u u' m. goes_bind h _ _ (expressions_goes ts u u' m) (λ b v v' n. goes refl n))

  -- ---- binders

  abbrev with_binders : {V W : Type 0} → (V → W) → List Binder × V → List Binder × W
  with_binders g q = (map (binder r) q.0, g q.1)

  -- what comes of a region that corresponds
  in_region : {V W : Type 0} {g : V → W} (go : h.E → Trees h.A → Step h.S V) (go' : h.E' → Trees h.A' → Step h.S' W)
      → ((e : h.E) (e' : h.E') → h.around e e' → (ts : Trees h.A) (s : h.S) (s' : h.S') → h.state s s' → Goes h g (go e ts s) (go' e' (move_trees mv ts) s'))
      → (x : Region h.E h.A h.S) (y : Region h.E' h.A' h.S') → Regions h.around mv h.state x y → Goes h g (go x.env x.trees x.state) (go' y.env y.trees y.state)
  in_region go go' law x y (regions k d l) = goes_at h (ap (λ ts. go' y.env ts y.state) d) (law x.env y.env k x.trees x.state y.state l)

  bound_goes : {V W : Type 0} (g : V → W) (go : h.E → Trees h.A → Step h.S V) (go' : h.E' → Trees h.A' → Step h.S' W)
      → ((e : h.E) (e' : h.E') → h.around e e' → (ts : Trees h.A) (s : h.S) (s' : h.S') → h.state s s' → Goes h g (go e ts s) (go' e' (move_trees mv ts) s'))
      → (ns : List (Named h.A)) (e : h.E) (e' : h.E') → h.around e e' → (ts : Trees h.A) (s : h.S) (s' : h.S') → h.state s s' → Goes h (with_binders g) (bound h.one go ns e ts s) (bound h.two go' (map (move_named mv) ns) e' (move_trees mv ts) s')
  bound_goes g go go' law [] e e' k ts s s' l = goes_bind h _ _ (law e e' k ts s s' l) (λ b u u' m. goes refl m)
  bound_goes g go go' law (n ∷ ns) e e' k ts s s' l =
      goes_bind h _ _ (in_region (bound h.one go ns) (bound h.two go' (map (move_named mv) ns)) (bound_goes g go go' law ns) (h.one.bind n.name e ts s) (h.two.bind (h.on n.name) e' (move_trees mv ts) s') (h.bind n.name e e' k ts s s' l))
      (λ q u u' m. goes (let a = h.next_local s s' l in let b = h.plain n.name in λ j. Ok (record { bound = LocalNumber (a j); ident = b j; occ = place r n.occ } ∷ map (binder r) q.0, g q.1)) m)

  -- ---- macro definitions

  macro_with_same : (s : h.S) (s' : h.S') → h.state s s' → (b : Binder) (o : Option (Transformer h.E h.A)) (o' : Option (Transformer h.E' h.A')) → Macros h.around mv o o' → macro_with h.two s' (binder r b) o' ≡ macro_of r (macro_with h.one s b o)
  macro_with_same s s' l b _ _ no_macro = refl
  macro_with_same s s' l b _ _ (a_macro m d at) =
      let rs = rules_turned h.A h.A' Ident Ident (place r) h.on (ident r) h.one.plain h.two.plain h.plain m.rules in
      let ls = ap (map (λ (x : Leaf h.A'). record { target = target_of h.two d s' x.leaf.name x.leaf.occ; literal = x.literal })) (leaves_of-map h.A h.A' mv h.one.names h.two.names (names_told h) m.rules)
      ∙ map_turned (λ (x : Leaf h.A'). record { target = target_of h.two d s' x.leaf.name x.leaf.occ; literal = x.literal }) (move_leaf mv) (rule_leaf r) (λ (x : Leaf h.A). record { target = target_of h.one m.env s x.leaf.name x.leaf.occ; literal = x.literal })
      (λ x. ap (λ t. record { target = t; literal = x.literal }) (target_goes h m.env d at s s' l x.leaf.name x.leaf.occ)) (leaves_of h.one.names m.rules) in
      λ j. record { binder = binder r b; rules = rs j; leaves = ls j }

  macro_def_same : (s : h.S) (s' : h.S') → h.state s s' → (b : Binder) → macro_def h.two s' (binder r b) ≡ macro_of r (macro_def h.one s b)
  macro_def_same s s' l b =
      ap (λ m. macro_with h.two s' (binder r b) (h.two.transformer s' m)) (meaning_seen r b.bound b.ident) ∙ macro_with_same s s' l b _ _ (h.transformer s s' l (meaning_of b.bound b.ident))

  local_defs_same : (s : h.S) (s' : h.S') → h.state s s' → (vs : List Number) (ns : List (Named h.A)) → local_defs h.two s' (map (number r) vs) (map (move_named mv) ns) ≡ map (macro_of r) (local_defs h.one s vs ns)
  local_defs_same s s' l [] ns = refl
  local_defs_same s s' l (v ∷ vs) [] = refl
  local_defs_same s s' l (v ∷ vs) (n ∷ ns) =
      let p = h.plain n.name in
      let a = ap (λ i. macro_def h.two s' (record { bound = LocalNumber (number r v); ident = i; occ = place r n.occ })) p ∙ macro_def_same s s' l (record { bound = LocalNumber v; ident = h.one.plain n.name; occ = n.occ }) in
      let b = local_defs_same s s' l vs ns in λ j. a j ∷ b j

  numbers_same : (v : Number) (ns : List (Named h.A)) → numbers (number r v) (map (move_named mv) ns) ≡ map (number r) (numbers v ns)
  numbers_same v [] = refl
  numbers_same v (n ∷ ns) = ap (λ vs. number r v ∷ vs) (numbers_same (record { unit = v.unit; form = v.form; count = suc v.count }) ns)

  -- ---- without trees to expand

  quote_goes : (depth : ℕ) (here : Here) (t : Tree h.A) (s : h.S) (s' : h.S') → h.state s s' → Goes h (core_as r) (quote h.one depth here t s) (quote h.two depth (place r here) (move_tree mv t) s')
  quote_goes depth here t s s' l =
      let z = size-map h.A h.A' mv t in let q = tree_turned h.A h.A' (List ℕ) (List ℕ) (place r) h.on (λ x. x) h.one.names.strip h.two.names.strip h.strip t in
      goes_at h (λ j. node h.two (place r here) (1 + z j) depth (λ below. done (Quote (q j))) s')
      (node_goes h here (1 + tree_size t) depth s s' l (λ below. done (Quote (map_tree h.one.names.strip t))) (λ below. done (Quote (move_tree (places_of r) (map_tree h.one.names.strip t)))) (λ below u u' m. goes refl m))

  unless_goes : {V W : Type 0} {g : V → W} (here : Here) (x : Head) (n : Named h.A) (c : Step h.S V) (c' : Step h.S' W) (s : h.S) (s' : h.S') → h.state s s' → Goes h g (c s) (c' s') → Goes h g (unless_keyword h.one here x n c s) (unless_keyword h.two (place r here) (head_moved r x) (move_named mv n) c' s')
  unless_goes here (IsCore y) n c c' s s' l q = goes (ap (λ i. Err (record { fault = KeywordAsValue (named i (place r n.occ)); here = place r here })) (h.plain n.name)) l
  unless_goes here (IsAuxiliary y) n c c' s s' l q = goes (ap (λ i. Err (record { fault = KeywordAsValue (named i (place r n.occ)); here = place r here })) (h.plain n.name)) l
  unless_goes here (IsMacro y) n c c' s s' l q = goes (ap (λ i. Err (record { fault = KeywordAsValue (named i (place r n.occ)); here = place r here })) (h.plain n.name)) l
  unless_goes here IsNone n c c' s s' l q = q

  -- a variable that mustn't be a keyword is asked for
  asked_head : (e : h.E) (e' : h.E') → h.around e e' → (n : Named h.A) (s : h.S) (s' : h.S') → h.state s s' → h.state (h.one.ask (Headed e n.name ∷ []) s) (h.two.ask (Headed e' (h.on n.name) ∷ []) s')
  asked_head e e' k n s s' l = h.ask (Headed e n.name ∷ []) (Headed e' (h.on n.name) ∷ []) (headed e e' k n.name, tt) s s' l

  reference_goes : (depth : ℕ) (here : Here) (e : h.E) (e' : h.E') → h.around e e' → (n : Named h.A) (s : h.S) (s' : h.S') → h.state s s' → Goes h (core_as r) (reference h.one depth here e n s) (reference h.two depth (place r here) e' (move_named mv n) s')
  reference_goes depth here e e' k n s s' l =
      goes_at h (ap (λ x. unless_keyword h.two (place r here) x (move_named mv n) (node h.two (place r here) 1 depth (λ below t. done (Ref (target_of h.two e' t (h.on n.name) (place r n.occ))) t)) (h.two.ask (Headed e' (h.on n.name) ∷ []) s')) (head_goes h e e' k s s' l n.name))
      (unless_goes here (head_of h.one e s n.name) n (node h.one here 1 depth (λ below t. done (Ref (target_of h.one e t n.name n.occ)) t)) (node h.two (place r here) 1 depth (λ below t. done (Ref (target_of h.two e' t (h.on n.name) (place r n.occ))) t)) _ _ (asked_head e e' k n s s' l)
      (node_goes h here 1 depth _ _ (asked_head e e' k n s s' l) _ _ (λ below u u' m. goes (ap (λ t. Ok (Ref t)) (target_goes h e e' k u u' m n.name n.occ)) m)))

  -- ---- rules, read in an environment of their own

  heads_goes : (here : Here) (e : h.E) (e' : h.E') → h.around e e' → (ts : Trees h.A) (s : h.S) (s' : h.S') → h.state s s' → Goes h (map (move_parts mv)) (heads h.one here e ts s) (heads h.two (place r here) e' (move_trees mv ts) s')
  heads_goes here e e' k no_trees s s' l = goes refl l
  heads_goes here e e' k (tree t ts) s s' l = goes_bind h _ _ (rules_parts_goes h here e e' k t s s' l) (λ x u u' m. goes_bind h _ _ (heads_goes here e e' k ts u u' m) (λ xs v v' n. goes refl n))

  abbrev itself : Unit {0} → Unit {0}
  itself u = u

  keep_goes : (here : Here) (e : h.E) (e' : h.E') → h.around e e' → (vs : List Number) (ts : Trees h.A) (xs : List (RulesParts h.A)) (s : h.S) (s' : h.S') → h.state s s' → Goes h itself (keep_all h.one here e vs ts xs s) (keep_all h.two (place r here) e' (map (number r) vs) (move_trees mv ts) (map (move_parts mv) xs) s')
  keep_goes here e e' k [] ts xs s s' l = goes refl l
  keep_goes here e e' k (v ∷ vs) no_trees xs s s' l = goes refl l
  keep_goes here e e' k (v ∷ vs) (tree t ts) [] s s' l = goes refl l
  keep_goes here e e' k (v ∷ vs) (tree t ts) (x ∷ xs) s s' l =
      goes_bind h _ _ (rules_at_goes h here e e' k t x s s' l) (λ rules u u' m. keep_goes here e e' k vs ts xs (h.one.keep v rules e u) (h.two.keep (number r v) (move_rules mv rules) e' u') (h.keep v rules e e' k u u' m))

  module _ (F : One) (G : Two) (w : WholeGoes F G) (b : BodyGoes F G) where
    -- ---- procedures

    abbrev procedure_as : Binders × Core → Binders × Core
    procedure_as q = (binders r q.0, core_as r q.1)

    procedure_goes : (depth : ℕ) (here : Here) (e : h.E) (e' : h.E') → h.around e e' → (c : Clause h.A) (s : h.S) (s' : h.S') → h.state s s' → Goes h procedure_as (procedure F h.one depth here e c s) (procedure G h.two depth (place r here) e' (move_clause mv c) s')
    procedure_goes depth here e e' k c s s' l =
        goes_bind h _ _ (bound_goes (core_as r) (λ d ts. F depth here d (body ts)) (λ d ts. G depth (place r here) d (body ts)) (λ d d' k2 ts u u' m. b depth here d d' k2 ts u u' m) c.formals.names e e' k c.body s s' l) (λ q u u' m. goes refl m)

    lambda_goes : (depth : ℕ) (here : Here) (e : h.E) (e' : h.E') → h.around e e' → (c : Clause h.A) (s : h.S) (s' : h.S') → h.state s s' → Goes h (core_as r) (lambda F h.one depth here e c s) (lambda G h.two depth (place r here) e' (move_clause mv c) s')
    lambda_goes depth here e e' k c s s' l = node_goes h here 1 depth s s' l _ _ (λ below u u' m. goes_bind h _ _ (procedure_goes below here e e' k c u u' m) (λ q v v' n. goes refl n))

    clauses_goes : (depth : ℕ) (here : Here) (e : h.E) (e' : h.E') → h.around e e' → (cs : List (Clause h.A)) (s : h.S) (s' : h.S') → h.state s s' → Goes h (clauses_as r) (clauses F h.one depth here e cs s) (clauses G h.two depth (place r here) e' (map (move_clause mv) cs) s')
    clauses_goes depth here e e' k [] s s' l = goes refl l
    clauses_goes depth here e e' k (c ∷ cs) s s' l = goes_bind h _ _ (procedure_goes depth here e e' k c s s' l) (λ q u u' m. goes_bind h _ _ (clauses_goes depth here e e' k cs u u' m) (λ more v v' n. goes refl n))

    -- ---- bodies

    assignment_goes : (depth : ℕ) (here : Here) (e : h.E) (e' : h.E') → h.around e e' → (n : Named h.A) (go : ℕ → Step h.S Core) (go' : ℕ → Step h.S' Core) → ((below : ℕ) (u : h.S) (u' : h.S') → h.state u u' → Goes h (core_as r) (go below u) (go' below u'))
        → (s : h.S) (s' : h.S') → h.state s s' → Goes h (core_as r) (assignment h.one depth here e n go s) (assignment h.two depth (place r here) e' (move_named mv n) go' s')
    assignment_goes depth here e e' k n go go' law s s' l =
        node_goes h here 1 depth s s' l _ _ (λ below u u' m. goes_bind h _ _ (law below _ _ (h.ask (Meant e n.name ∷ []) (Meant e' (h.on n.name) ∷ []) (meant e e' k n.name, tt) u u' m)) (λ c v v' m2. goes (ap (λ t. Ok (Set t (core_as r c))) (target_goes h e e' k u u' m n.name n.occ)) m2))

    pub item_goes : (depth : ℕ) (e : h.E) (e' : h.E') → h.around e e' → (i : Item h.A) (s : h.S) (s' : h.S') → h.state s s' → Goes h (part_as r) (item_part F h.one depth e i s) (item_part G h.two depth e' (item_as r h.on i) s')
    item_goes depth e e' k (Expression y) s s' l = goes_bind h _ _ (w depth y.here e e' k y.tree s s' l) (λ c u u' m. goes refl m)
    item_goes depth e e' k (Value z y) s s' l = goes_bind h _ _ (w depth y.here e e' k y.tree s s' l) (λ c u u' m. goes refl m)
    item_goes depth e e' k (Function z here c) s s' l = goes_bind h _ _ (lambda_goes depth here e e' k c s s' l) (λ x u u' m. goes refl m)
    item_goes depth e e' k (Assigned n y) s s' l =
        goes_bind h _ _ (assignment_goes depth y.here e e' k n (λ below. F below y.here e (whole y.tree)) (λ below. G below (place r y.here) e' (whole (move_tree mv y.tree))) (λ below u u' m. w below y.here e e' k y.tree u u' m) s s' l) (λ c u u' m. goes refl m)
    item_goes depth e e' k (AssignedFunction n here c) s s' l =
        goes_bind h _ _ (assignment_goes depth here e e' k n (λ below. lambda F h.one below here e c) (λ below. lambda G h.two below (place r here) e' (move_clause mv c)) (λ below u u' m. lambda_goes below here e e' k c u u' m) s s' l) (λ x u u' m. goes refl m)
    item_goes depth e e' k (ValuesOf bs y) s s' l = goes_bind h _ _ (w depth y.here e e' k y.tree s s' l) (λ c u u' m. goes refl m)
    item_goes depth e e' k (Record t) s s' l = goes refl l
    item_goes depth e e' k (Macro z here) s s' l = goes (ap (λ m. Ok (syntax_part m)) (macro_def_same s s' l z)) (h.ask (macro_asked h.one s z) (macro_asked h.two s' (binder r z)) (macro_leaves_asked h s s' l z) s s' l)

    pub parts_goes : (depth : ℕ) (e : h.E) (e' : h.E') → h.around e e' → (is : List (Item h.A)) (s : h.S) (s' : h.S') → h.state s s' → Goes h (parts_as r) (parts (item_part F h.one depth e) is s) (parts (item_part G h.two depth e') (map (item_as r h.on) is) s')
    parts_goes depth e e' k [] s s' l = goes refl l
    parts_goes depth e e' k (i ∷ is) s s' l = goes_bind h _ _ (item_goes depth e e' k i s s' l) (λ p u u' m. goes_bind h _ _ (parts_goes depth e e' k is u u' m) (λ ps v v' n. goes refl n))

    left_goes : {q : Pass h.A h.L × h.S} {q' : Pass h.A' h.L' × h.S'} → Ran h q q' → Goes h (left_as r h.on) (left_of q) (left_of q')
    left_goes (ran e l) = goes (ap (λ p. p.left) e) l

    in_body : (turns below : ℕ) (here : Here) (x : Region h.E h.A h.S) (y : Region h.E' h.A' h.S') → Regions h.around mv h.state x y → Goes h (core_as r) (body_in h.one turns (item_part F h.one below) here x) (body_in h.two turns (item_part G h.two below) (place r here) y)
    in_body turns below here x y (regions k d l) =
        goes_bind h _ _ (left_goes (ran_at h (ap (λ zs. run h.two turns y.env (record { todo = zs; aside = []; uses = []; notes = [] }) y.state) (ap (forms_at (place r here)) d ∙ forms_at_seen r h.A h.A' h.on here x.trees))
        (run_goes h turns x.env y.env k (record { todo = forms_at here x.trees; aside = []; uses = []; notes = [] }) x.state y.state l)))
        (λ z u u' m. goes_bind h _ _ (parts_goes below x.env y.env k z.items _ _ (all_met h x.env y.env k z.uses u u' m)) (λ ps v v' n. goes refl n))

    pub body_goes : (turns depth : ℕ) (here : Here) (e : h.E) (e' : h.E') → h.around e e' → (ts : Trees h.A) (s : h.S) (s' : h.S') → h.state s s' → Goes h (core_as r) (body_core F h.one turns depth here e ts s) (body_core G h.two turns depth (place r here) e' (move_trees mv ts) s')
    body_goes turns depth here e e' k ts s s' l = node_goes h here 1 depth s s' l _ _ (λ below u u' m. in_body turns below here (h.one.enter e ts u) (h.two.enter e' (move_trees mv ts) u') (h.enter e e' k ts u u' m))

    sequence_goes : (depth : ℕ) (here : Here) (e : h.E) (e' : h.E') → h.around e e' → (ts : Trees h.A) (s : h.S) (s' : h.S') → h.state s s' → Goes h (core_as r) (sequence F h.one depth here e ts s) (sequence G h.two depth (place r here) e' (move_trees mv ts) s')
    sequence_goes depth here e e' k ts s s' l =
        node_goes h here 1 depth s s' l _ _ (λ below u u' m. goes_bind h _ _ (expressions_goes (λ t. F below here e (whole t)) (λ t. G below (place r here) e' (whole t)) (λ t v v' n. w below here e e' k t v v' n) ts u u' m) (λ ps v v' n. goes refl n))

    -- ---- local macros

    local_macros_goes : (depth : ℕ) (here : Here) (vs : List Number) (ns : List (Named h.A)) (d : h.E) (d' : h.E') → h.around d d' → (rules : Trees h.A) (e : h.E) (e' : h.E') → h.around e e' → (ts : Trees h.A) (s : h.S) (s' : h.S') → h.state s s'
        → Goes h (core_as r) (local_macros F h.one depth here vs ns d rules e ts s) (local_macros G h.two depth (place r here) (map (number r) vs) (map (move_named mv) ns) d' (move_trees mv rules) e' (move_trees mv ts) s')
    local_macros_goes depth here vs ns d d' kd rules e e' k ts s s' l =
        goes_bind h _ _ (heads_goes here d d' kd rules s s' l) (λ xs u u' m. node_goes h here 1 depth u u' m _ _ (λ below t t' m1.
        goes_bind h _ _ (keep_goes here d d' kd vs rules xs t t' m1) (λ z t1 t1' m2. goes_bind h _ _ (b below here e e' k ts _ _ (h.ask (locals_asked h.one t1 vs ns) (locals_asked h.two t1' (map (number r) vs) (map (move_named mv) ns)) (local_macros_asked h t1 t1' m2 vs ns) t1 t1' m2)) (λ c y y' m3. goes (ap (λ ds. Ok (LetSyntax ds (core_as r c))) (local_defs_same t1 t1' m2 vs ns)) m3))))

    recursive_goes : (depth : ℕ) (here : Here) (vs : List Number) (ns : List (Named h.A)) (e : h.E) (e' : h.E') → h.around e e' → (ts : Trees h.A) (s : h.S) (s' : h.S') → h.state s s'
        → Goes h (core_as r) (recursive F h.one depth here vs ns e ts s) (recursive G h.two depth (place r here) (map (number r) vs) (map (move_named mv) ns) e' (move_trees mv ts) s')
    recursive_goes depth here vs ns e e' k no_trees s s' l = goes refl l
    recursive_goes depth here vs ns e e' k (tree (name i o) ts) s s' l = goes refl l
    recursive_goes depth here vs ns e e' k (tree (atom a o) ts) s s' l = goes refl l
    recursive_goes depth here vs ns e e' k (tree (vector us o) ts) s s' l = goes refl l
    recursive_goes depth here vs ns e e' k (tree (list rules tail o) ts) s s' l = local_macros_goes depth here vs ns e e' k rules e e' k ts s s' l

    -- the numbers of the macros
    numbers_goes : (s : h.S) (s' : h.S') → h.state s s' → (ns : List (Named h.A)) → numbers (h.two.next_local s') (map (move_named mv) ns) ≡ map (number r) (numbers (h.one.next_local s) ns)
    numbers_goes s s' l ns = ap (λ v. numbers v (map (move_named mv) ns)) (h.next_local s s' l) ∙ numbers_same (h.one.next_local s) ns

    let_goes : (depth : ℕ) (here : Here) (e : h.E) (e' : h.E') → h.around e e' → (m : LocalMacros h.A) (s : h.S) (s' : h.S') → h.state s s' → Goes h (core_as r) (let_syntax F h.one depth here e m s) (let_syntax G h.two depth (place r here) e' (move_local_macros mv m) s')
    let_goes depth here e e' k m s s' l =
        let vs = numbers (h.one.next_local s) m.names in
        goes_at h (ap (λ ws. bound h.two (λ d ts. local_macros G h.two depth (place r here) ws (map (move_named mv) m.names) e' (move_trees mv m.rules) d ts) (map (move_named mv) m.names) e' (move_trees mv m.body) s' >>= λ q. done q.1) (numbers_goes s s' l m.names))
        (goes_bind h _ _ (bound_goes (core_as r) (λ d ts. local_macros F h.one depth here vs m.names e m.rules d ts) (λ d ts. local_macros G h.two depth (place r here) (map (number r) vs) (map (move_named mv) m.names) e' (move_trees mv m.rules) d ts)
        (λ d d' kd ts u u' n. local_macros_goes depth here vs m.names e e' k m.rules d d' kd ts u u' n) m.names e e' k m.body s s' l) (λ q u u' n. goes refl n))

    letrec_goes : (depth : ℕ) (here : Here) (e : h.E) (e' : h.E') → h.around e e' → (m : LocalMacros h.A) (s : h.S) (s' : h.S') → h.state s s' → Goes h (core_as r) (letrec_syntax F h.one depth here e m s) (letrec_syntax G h.two depth (place r here) e' (move_local_macros mv m) s')
    letrec_goes depth here e e' k m s s' l =
        let vs = numbers (h.one.next_local s) m.names in let ts = tree (list m.rules proper None) m.body in
        goes_at h (ap (λ ws. bound h.two (recursive G h.two depth (place r here) ws (map (move_named mv) m.names)) (map (move_named mv) m.names) e' (move_trees mv ts) s' >>= λ q. done q.1) (numbers_goes s s' l m.names))
        (goes_bind h _ _ (bound_goes (core_as r) (recursive F h.one depth here vs m.names) (recursive G h.two depth (place r here) (map (number r) vs) (map (move_named mv) m.names))
        (λ d d' kd us u u' n. recursive_goes depth here vs m.names d d' kd us u u' n) m.names e e' k ts s s' l) (λ q u u' n. goes refl n))

    -- ---- other core forms

    hole_seen : (o : Option h.A) → symbol_or_hole h.two.names.strip (option_map h.on o) ≡ symbol_or_hole h.one.names.strip o
    hole_seen None = refl
    hole_seen (Some i) = ap Some (h.strip i)

    quasi_goes : (depth : ℕ) (here : Here) (e : h.E) (e' : h.E') → h.around e e' → (p : Pieces h.A) (s : h.S) (s' : h.S') → h.state s s' → Goes h (core_as r) (quasi F h.one depth here e p s) (quasi G h.two depth (place r here) e' (move_pieces mv p) s')
    quasi_goes depth here e e' k p s s' l =
        let z = weight_same h.A h.A' mv p.datum in
        let d = tree_turned (Option h.A) (Option h.A') (Option (List ℕ)) (Option (List ℕ)) (place r) (option_map h.on) (λ x. x) (symbol_or_hole h.one.names.strip) (symbol_or_hole h.two.names.strip) hole_seen p.datum in
        goes_at h (λ j. node h.two (place r here) (1 + z j) depth (λ below t. each_of (λ u. G below (place r here) e' (whole u)) (map (move_tree mv) p.holes) t >>= λ cs. done (Quasi (d j) cs)) s')
        (node_goes h here (1 + outside p.datum) depth s s' l
        (λ below t. each_of (λ u. F below here e (whole u)) p.holes t >>= λ cs. done (Quasi (map_tree (symbol_or_hole h.one.names.strip) p.datum) cs))
        (λ below t. each_of (λ u. G below (place r here) e' (whole u)) (map (move_tree mv) p.holes) t >>= λ cs. done (Quasi (move_tree (places_of r) (map_tree (symbol_or_hole h.one.names.strip) p.datum)) cs))
        (λ below u u' m. goes_bind h _ _ (each_of_goes (λ t. F below here e (whole t)) (λ t. G below (place r here) e' (whole t)) (λ t v v' n. w below here e e' k t v v' n) p.holes u u' m) (λ cs v v' n. goes refl n)))

    quasi_read : (e : h.E) (e' : h.E') → h.around e e' → (ts : Trees h.A) (tail : Tail h.A) (s : h.S) (s' : h.S') → h.state s s'
        → Reads mv (move_pieces mv) (one_of ts tail >> quasi_of (λ i. mark_of (head_of h.one e s i))) (one_of (move_trees mv ts) (move_tail mv tail) >> quasi_of (λ i. mark_of (head_of h.two e' s' i)))
    quasi_read e e' k ts tail s s' l =
        then_map (quasi_of (λ i. mark_of (head_of h.two e' s' i))) (one_of-map h.A h.A' mv ts tail)
        (quasi_of-map h.A h.A' mv refl (λ i. mark_of (head_of h.one e s i)) (λ i. mark_of (head_of h.two e' s' i)) (λ i. ap mark_of (head_goes h e e' k s s' l i) ∙ mark_seen r (head_of h.one e s i)))

    set_goes : (depth : ℕ) (here : Here) (e : h.E) (e' : h.E') → h.around e e' → (p : Named h.A × Tree h.A) (s : h.S) (s' : h.S') → h.state s s' → Goes h (core_as r) (set F h.one depth here e p s) (set G h.two depth (place r here) e' (move_named mv p.0, move_tree mv p.1) s')
    set_goes depth here e e' k p s s' l =
        goes_at h (ap (λ x. unless_keyword h.two (place r here) x (move_named mv p.0) (node h.two (place r here) 1 depth (λ below t. G below (place r here) e' (whole (move_tree mv p.1)) t >>= λ c. done (Set (target_of h.two e' t (h.on p.0.name) (place r p.0.occ)) c))) (h.two.ask (Headed e' (h.on p.0.name) ∷ []) s')) (head_goes h e e' k s s' l p.0.name))
        (unless_goes here (head_of h.one e s p.0.name) p.0 (node h.one here 1 depth (λ below t. F below here e (whole p.1) t >>= λ c. done (Set (target_of h.one e t p.0.name p.0.occ) c)))
        (node h.two (place r here) 1 depth (λ below t. G below (place r here) e' (whole (move_tree mv p.1)) t >>= λ c. done (Set (target_of h.two e' t (h.on p.0.name) (place r p.0.occ)) c))) _ _ (asked_head e e' k p.0 s s' l)
        (node_goes h here 1 depth _ _ (asked_head e e' k p.0 s s' l) _ _ (λ below u u' m. goes_bind h _ _ (w below here e e' k p.1 u u' m) (λ c v v' n. goes (ap (λ t. Ok (Set t (core_as r c))) (target_goes h e e' k u u' m p.0.name p.0.occ)) n))))

    call_goes : (depth : ℕ) (here : Here) (e : h.E) (e' : h.E') → h.around e e' → (ts : Trees h.A) (tail : Tail h.A) (s : h.S) (s' : h.S') → h.state s s' → Goes h (core_as r) (call F h.one depth here e ts tail s) (call G h.two depth (place r here) e' (move_trees mv ts) (move_tail mv tail) s')
    call_goes depth here e e' k ts (dotted t) s s' l = goes refl l
    call_goes depth here e e' k ts proper s s' l =
        node_goes h here 1 depth s s' l _ _ (λ below u u' m. goes_bind h _ _ (each_goes (λ t. F below here e (whole t)) (λ t. G below (place r here) e' (whole t)) (λ t v v' n. w below here e e' k t v v' n) ts u u' m) (λ cs v v' n. goes refl n))

    chosen_goes : (depth : ℕ) (here : Here) (e : h.E) (e' : h.E') → h.around e e' → (o : Option (Trees h.A)) (s : h.S) (s' : h.S') → h.state s s' → Goes h (core_as r) (chosen_sequence F h.one depth here e o s) (chosen_sequence G h.two depth (place r here) e' (option_map (move_trees mv) o) s')
    chosen_goes depth here e e' k None s s' l = goes refl l
    chosen_goes depth here e e' k (Some no_trees) s s' l = goes refl l
    chosen_goes depth here e e' k (Some (tree t ts)) s s' l = sequence_goes depth here e e' k (tree t ts) s s' l

    abbrev same : h.A → h.A → Bool
    same = h.one.names.same

    abbrev same' : h.A' → h.A' → Bool
    same' = h.two.names.same

    core_goes : (depth : ℕ) (here : Here) (e : h.E) (e' : h.E') → h.around e e' → (x : CoreKeyword) (ts : Trees h.A) (tail : Tail h.A) (s : h.S) (s' : h.S') → h.state s s' → Goes h (core_as r) (core_form F h.one depth here e x ts tail s) (core_form G h.two depth (place r here) e' x (move_trees mv ts) (move_tail mv tail) s')
    core_goes depth here e e' k IsQuote ts tail s s' l = goes_bind h _ _ (goes_read h here s s' l (one_of-map h.A h.A' mv ts tail)) (λ t u u' m. quote_goes depth here t u u' m)
    core_goes depth here e e' k IsQuasiquote ts tail s s' l = goes_bind h _ _ (goes_read h here _ _ (h.ask (map (Headed e) (marks_in (λ i. mark_of (head_of h.one e s i)) ts tail)) (map (Headed e') (marks_in (λ i. mark_of (head_of h.two e' s' i)) (move_trees mv ts) (move_tail mv tail)))
        (marks_asked h e e' k (λ i. mark_of (head_of h.one e s i)) (λ i. mark_of (head_of h.two e' s' i)) (λ i. ap mark_of (head_goes h e e' k s s' l i) ∙ mark_seen r (head_of h.one e s i)) ts tail) s s' l) (quasi_read e e' k ts tail s s' l)) (λ p u u' m. quasi_goes depth here e e' k p u u' m)
    core_goes depth here e e' k IsLambda ts tail s s' l = goes_bind h _ _ (goes_read h here s s' l (lambda_of-map h.A h.A' mv same same' h.same ts tail)) (λ c u u' m. lambda_goes depth here e e' k c u u' m)
    core_goes depth here e e' k IsCaseLambda ts tail s s' l =
        goes_bind h _ _ (goes_read h here s s' l (case_lambda_of-map h.A h.A' mv same same' h.same ts tail)) (λ cs u u' m. node_goes h here 1 depth u u' m _ _ (λ below v v' n. goes_bind h _ _ (clauses_goes below here e e' k cs v v' n) (λ more z z' o. goes refl o)))
    core_goes depth here e e' k IsIf ts tail s s' l =
        goes_bind h _ _ (goes_read h here s s' l (if_of-map h.A h.A' mv ts tail)) (λ us u u' m. node_goes h here 1 depth u u' m _ _ (λ below v v' n. goes_bind h _ _ (each_goes (λ t. F below here e (whole t)) (λ t. G below (place r here) e' (whole t)) (λ t z z' o. w below here e e' k t z z' o) us v v' n) (λ cs z z' o. goes refl o)))
    core_goes depth here e e' k IsSet ts tail s s' l = goes_bind h _ _ (goes_read h here s s' l (named_tree_of-map h.A h.A' mv ts tail)) (λ p u u' m. set_goes depth here e e' k p u u' m)
    core_goes depth here e e' k IsBegin ts tail s s' l = goes_bind h _ _ (goes_read h here s s' l (some_of-map h.A h.A' mv ts tail)) (λ us u u' m. sequence_goes depth here e e' k us u u' m)
    core_goes depth here e e' k IsDefine ts tail s s' l = goes_bind h {f = core_as r} _ _ (goes_read h here s s' l (definition_of-map h.A h.A' mv same same' h.same ts tail)) (λ d u u' m. goes refl m)
    core_goes depth here e e' k IsDefineValues ts tail s s' l = goes_bind h {f = core_as r} _ _ (goes_read h here s s' l (values_of-map h.A h.A' mv same same' h.same ts tail)) (λ d u u' m. goes refl m)
    core_goes depth here e e' k IsDefineRecordType ts tail s s' l = goes refl l
    core_goes depth here e e' k IsDefineSyntax ts tail s s' l = goes_bind h {f = core_as r} _ _ (goes_read h here s s' l (syntax_of-map h.A h.A' mv ts tail)) (λ d u u' m. goes refl m)
    core_goes depth here e e' k IsLetSyntax ts tail s s' l = goes_bind h _ _ (goes_read h here s s' l (local_macros_of-map h.A h.A' mv same same' h.same ts tail)) (λ x u u' m. let_goes depth here e e' k x u u' m)
    core_goes depth here e e' k IsLetrecSyntax ts tail s s' l = goes_bind h _ _ (goes_read h here s s' l (local_macros_of-map h.A h.A' mv same same' h.same ts tail)) (λ x u u' m. letrec_goes depth here e e' k x u u' m)
    core_goes depth here e e' k IsCondExpand ts tail s s' l =
        let asked : List (Asked h.E h.A) = map Library (libraries_in h.one.names.strip ts tail) in let asked' : List (Asked h.E' h.A') = map Library (libraries_in h.two.names.strip (move_trees mv ts) (move_tail mv tail)) in
        goes_at h (ap (λ known. given h.two.plain (place r here) (chosen_of h.two.names.strip known (move_trees mv ts) (move_tail mv tail)) (h.two.ask asked' s') >>= chosen_sequence G h.two depth (place r here) e') h.known)
        (goes_bind h _ _ (goes_read h here _ _ (h.ask asked asked' (libraries_asked h ts tail) s s' l) (chosen_of-map h.A h.A' mv h.one.names.strip h.two.names.strip h.strip h.one.known ts tail)) (λ o u u' m. chosen_goes depth here e e' k o u u' m))
    core_goes depth here e e' k IsSyntaxError ts tail s s' l = goes_bind h {f = core_as r} _ _ (goes_read h here s s' l (error_text_of-map h.A h.A' mv ts tail)) (λ text u u' m. goes refl m)
    core_goes depth here e e' k IsInclude ts tail s s' l = goes refl l

    -- ---- any expression

    macro_goes : (depth : ℕ) (here : Here) (e : h.E) (e' : h.E') → h.around e e' → (t : Target) (o : Option (Transformer h.E h.A)) (o' : Option (Transformer h.E' h.A')) → Macros h.around mv o o' → (ts : Trees h.A) (tail : Tail h.A) (s : h.S) (s' : h.S') → h.state s s'
        → Goes h (core_as r) (macro_use F h.one depth here e t o ts tail s) (macro_use G h.two depth (place r here) e' (target r t) o' (move_trees mv ts) (move_tail mv tail) s')
    macro_goes depth here e e' k t _ _ no_macro ts tail s s' l = goes refl l
    macro_goes depth here e e' k t _ _ (a_macro m d at) ts tail s s' l = goes_bind h _ _ (use_goes h here e e' k t m d at ts tail s s' l) (λ i u u' n. w depth here e e' k i.tree _ _ (waiting_met h e e' k i.met u u' n))

    by_head_goes : (depth : ℕ) (here : Here) (e : h.E) (e' : h.E') → h.around e e' → (x : Head) (n : Named h.A) (ts : Trees h.A) (tail : Tail h.A) (s : h.S) (s' : h.S') → h.state s s'
        → Goes h (core_as r) (by_head F h.one depth here e x n ts tail s) (by_head G h.two depth (place r here) e' (head_moved r x) (move_named mv n) (move_trees mv ts) (move_tail mv tail) s')
    by_head_goes depth here e e' k (IsCore c) n ts tail s s' l =
        goes_at h (ap (λ t. core_form G h.two depth (place r here) e' c (move_trees mv ts) (move_tail mv tail) (h.two.meet t (h.two.ask (Headed e' (h.on n.name) ∷ []) s'))) (target_goes h e e' k s s' l n.name n.occ))
        (core_goes depth here e e' k c ts tail _ _ (h.meet (target_of h.one e s n.name n.occ) _ _ (asked_head e e' k n s s' l)))
    by_head_goes depth here e e' k (IsAuxiliary a) n ts tail s s' l = call_goes depth here e e' k (tree (name n.name n.occ) ts) tail _ _ (asked_head e e' k n s s' l)
    by_head_goes depth here e e' k (IsMacro m) n ts tail s s' l =
        let u = h.one.ask (Headed e n.name ∷ []) s in let u' = h.two.ask (Headed e' (h.on n.name) ∷ []) s' in let lu = asked_head e e' k n s s' l in
        goes_at h (ap (λ t. macro_use G h.two depth (place r here) e' t (h.two.transformer u' (meaning r m)) (move_trees mv ts) (move_tail mv tail) (h.two.ask (RulesOf (meaning r m) ∷ []) u')) (target_goes h e e' k s s' l n.name n.occ))
        (macro_goes depth here e e' k (target_of h.one e s n.name n.occ) _ _ (h.transformer u u' lu m) ts tail _ _ (h.ask (RulesOf m ∷ []) (RulesOf (meaning r m) ∷ []) (rules_of m, tt) u u' lu))
    by_head_goes depth here e e' k IsNone n ts tail s s' l = call_goes depth here e e' k (tree (name n.name n.occ) ts) tail _ _ (asked_head e e' k n s s' l)

    pub expression_goes : (depth : ℕ) (here : Here) (e : h.E) (e' : h.E') → h.around e e' → (t : Tree h.A) (s : h.S) (s' : h.S') → h.state s s' → Goes h (core_as r) (expression F h.one depth here e t s) (expression G h.two depth (place r here) e' (move_tree mv t) s')
    expression_goes depth here e e' k (name i o) s s' l = reference_goes depth here e e' k (named i o) s s' l
    expression_goes depth here e e' k (atom a o) s s' l = node_goes h here 2 depth s s' l _ _ (λ below u u' m. goes refl m)
    expression_goes depth here e e' k (vector ts o) s s' l = quote_goes depth here (vector ts o) s s' l
    expression_goes depth here e e' k (list no_trees tail o) s s' l = goes refl l
    expression_goes depth here e e' k (list (tree (name i q) ts) tail o) s s' l =
        goes_at h (ap (λ x. by_head G h.two depth (place r here) e' x (named (h.on i) (place r q)) (move_trees mv ts) (move_tail mv tail) s') (head_goes h e e' k s s' l i)) (by_head_goes depth here e e' k (head_of h.one e s i) (named i q) ts tail s s' l)
    expression_goes depth here e e' k (list (tree (atom a q) ts) tail o) s s' l = call_goes depth here e e' k (tree (atom a q) ts) tail s s' l
    expression_goes depth here e e' k (list (tree (list us end q) ts) tail o) s s' l = call_goes depth here e e' k (tree (list us end q) ts) tail s s' l
    expression_goes depth here e e' k (list (tree (vector us q) ts) tail o) s s' l = call_goes depth here e e' k (tree (vector us q) ts) tail s s' l

  -- any task, within the same turns
  pub expand_goes : (turns : ℕ) → WholeGoes (expand h.one turns) (expand h.two turns) × BodyGoes (expand h.one turns) (expand h.two turns)
  expand_goes zero = (λ depth here e e' k t s s' l. goes refl l, λ depth here e e' k ts s s' l. goes refl l)
  expand_goes (suc turns) =
      let ih = expand_goes turns in (
        λ depth here e e' k t s s' l. goes_at h (ap (λ hr. expression (expand h.two turns) h.two depth hr e' (move_tree mv t) s') (here_seen h t here)) (expression_goes (expand h.one turns) (expand h.two turns) ih.0 ih.1 depth (here_at h.one.plain t here) e e' k t s s' l),
        λ depth here e e' k ts s s' l. body_goes (expand h.one turns) (expand h.two turns) ih.0 ih.1 turns depth here e e' k ts s s' l,
      )
