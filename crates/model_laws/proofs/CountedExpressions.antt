-- Expressions on the third side of counted expansion, and on each other side alike: they come to the same cores.
use Rattle.std.proofs.Common.{arith, ◌≡◌, ℕ, zero, suc, ◌+◌, ◌≤◌, List, [], ◌∷◌, map, Bool, true, false, Option, Some, None, Result, Ok, refl, sym, ap, ◌∙◌}
use Rattle.scheme_model.specs.Identifiers.{Number}
use Rattle.scheme_model.specs.Ident.{Ident, same_ident, symbol_of}
use Rattle.scheme_model.specs.Keywords.{CoreKeyword, IsQuote, IsQuasiquote, IsLambda, IsCaseLambda, IsIf, IsSet, IsBegin, IsDefine, IsDefineValues, IsDefineRecordType, IsDefineSyntax, IsLetSyntax, IsLetrecSyntax, IsCondExpand, IsSyntaxError, IsInclude}
use Rattle.scheme_model.specs.Trees.{Tree, name, atom, list, vector, Trees, no_trees, tree, Tail, proper, dotted, map_tree, map_trees, map_tail}
use Rattle.scheme_model.specs.Measures.{tree_size}
use Rattle.scheme_model.specs.ExpansionFaults.{Named, named, named_map, ◌>>◌}
use Rattle.scheme_model.specs.Meaning.{Local, Head, IsCore, IsAuxiliary, IsMacro, IsNone}
use Rattle.scheme_model.specs.Shapes.{Clause, LocalMacros, one_of}
use Rattle.scheme_model.specs.Quasiquote.{Pieces, quasi_of}
use Rattle.scheme_model.specs.RulesShape.{Rules, rules_map, option_map}
use Rattle.scheme_model.specs.Leaves.{Leaf, leaves_of}
use Rattle.scheme_model.specs.Cores.{Target, Bound, LocalNumber, Definition, Binder, Core, Ref, Quote, Quasi, Set, LetSyntax, Syntax as syntax_part, outside}
use Rattle.scheme_model.specs.Steps.{Broken, Step, ◌>>=◌, done}
use Rattle.scheme_model.specs.Order.{Here, Form, Item, Expression, Value, Function, Assigned, AssignedFunction, ValuesOf, Record, Macro, Pass, Region, Transformer, target_of, head_of, here_at, forms_at, RulesParts, meet_waiting, meet_all, run}
use Rattle.scheme_model.specs.Expression.{whole, body, Expander, node, each, each_of, bound, procedure, lambda, clauses, meaning_of, macro_with, macro_def, assignment, item_part, parts, left_of, body_in, body_core, expressions, sequence, heads, keep_all, numbers, local_defs, local_macros, recursive, let_syntax, letrec_syntax, mark_of, symbol_or_hole, quasi, quote, unless_keyword, set, reference, call, chosen_sequence, core_form, macro_use, by_head, expression, expand}
use Rattle.scheme_model.specs.Substitution.{clause_map, item_map}
use Rattle.scheme_model.specs.ScopedExpansion.{Frames, FramedIdent, ScopedState, next_number}
use Rattle.scheme_model.specs.Renaming.{pieces_map, leaf_map, local_macros_map}
use Rattle.scheme_model.proofs.RenamingLaws.{Reads, map_after, size-map, then_map}
use Rattle.scheme_model.proofs.ShapeLaws.{some_of-map, one_of-map, if_of-map, named_tree_of-map, syntax_of-map, error_text_of-map, lambda_of-map, case_lambda_of-map, definition_of-map, values_of-map, local_macros_of-map}
use Rattle.model_laws.proofs.RequirementLaws.{chosen_of-map}
use Rattle.model_laws.proofs.QuasiLaws.{quasi_of-map}
use Rattle.model_laws.proofs.LeafLaws.{leaves_of-map}
use Rattle.scheme_model.proofs.ScopeLaws.{map_map, map_same}
use Rattle.model_laws.proofs.IdentKinds.{rules_fused}
use Rattle.model_laws.proofs.FrameAsks.{AllOf}
use Rattle.model_laws.proofs.FrameReaders.{parts_map}
use Rattle.model_laws.proofs.FrameHeld.{left_map}
use Rattle.model_laws.proofs.FrameQuasi.{weight_same}
use Rattle.model_laws.proofs.CountedOps.{Setting, ToldBound, Side, B, D, T, M, ident, names_over, identifiers, told_names, transformer_map, keep_if, over, side, Goes, goes, goes_at, goes_bind, goes_read}
use Rattle.model_laws.proofs.CountedUses.{transformer_same, ToldHead, told_head, head_goes, target_goes, node_goes, use_goes, meet_goes, meet_all_goes}
use Rattle.model_laws.proofs.CountedForms.{ToldItem, ToldRest, forms_at_seen, here_seen, Comes, comes, comes_bind, goes_comes, Ran, ran, ran_at, rules_parts_goes, rules_at_goes}
use Rattle.model_laws.proofs.CountedRuns.{run_goes}

module _ (c : Setting) (x : Side c) where
  abbrev Over : Type 0
  Over = Expander (D c) (B c) (T c)

  abbrev Aside : Type 0
  Aside = Expander Frames Ident ScopedState

  -- both give the same value
  abbrev pub Same : {V : Type 0} → Result V Broken × T c → Result V Broken × ScopedState → Type 0
  Same {V} q q' = Goes c {V = V} {W = V} (λ v. v) q q'

  abbrev pub WholeGoes : Over → Aside → Type 0
  WholeGoes F G = (depth : ℕ) (here : Here) (e : D c) (t : Tree (B c)) (s : T c) → Same (F depth here e (whole t) s) (G depth here e.0 (whole (map_tree (ident c) t)) s.0)

  abbrev pub BodyGoes : Over → Aside → Type 0
  BodyGoes F G = (depth : ℕ) (here : Here) (e : D c) (ts : Trees (B c)) (s : T c) → Same (F depth here e (body ts) s) (G depth here e.0 (body (map_trees (ident c) ts)) s.0)

  -- ---- tree by tree

  module _ (f : Tree (B c) → Step (T c) Core) (g : Tree Ident → Step ScopedState Core) (h : (t : Tree (B c)) (s : T c) → Same (f t s) (g (map_tree (ident c) t) s.0)) where
    each_goes : (ts : Trees (B c)) (s : T c) → Same (each f ts s) (each g (map_trees (ident c) ts) s.0)
    each_goes no_trees s = goes refl
    each_goes (tree t ts) s = goes_bind c _ _ (h t s) (λ a u. goes_bind c _ _ (each_goes ts u) (λ b v. goes refl))

    each_of_goes : (ts : List (Tree (B c))) (s : T c) → Same (each_of f ts s) (each_of g (map (map_tree (ident c)) ts) s.0)
    each_of_goes [] s = goes refl
    each_of_goes (t ∷ ts) s = goes_bind c _ _ (h t s) (λ a u. goes_bind c _ _ (each_of_goes ts u) (λ b v. goes refl))

    expressions_goes : (ts : Trees (B c)) (s : T c) → Same (expressions f ts s) (expressions g (map_trees (ident c) ts) s.0)
    expressions_goes no_trees s = goes refl
    expressions_goes (tree t ts) s = goes_bind c _ _ (h t s) (λ a u. goes_bind c _ _ (expressions_goes ts u) (λ b v. goes refl))

  -- ---- binders

  bound_goes : {V : Type 0} (go : D c → Trees (B c) → Step (T c) V) (go' : Frames → Trees Ident → Step ScopedState V) → ((e : D c) (ts : Trees (B c)) (s : T c) → Same (go e ts s) (go' e.0 (map_trees (ident c) ts) s.0))
      → (ns : List (Named (B c))) (e : D c) (ts : Trees (B c)) (s : T c) → Same (bound (over c) go ns e ts s) (bound (side c x) go' (map (named_map (ident c)) ns) e.0 (map_trees (ident c) ts) s.0)
  bound_goes go go' h [] e ts s = goes_bind c _ _ (h e ts s) (λ b u. goes refl)
  bound_goes go go' h (n ∷ ns) e ts s =
      let r = (over c).bind n.name e ts s in
      goes_bind c _ _ (bound_goes go go' h ns r.env r.trees r.state) (λ q u. goes refl)

  -- ---- macro definitions

  told_meaning : (b : Bound) (i : Ident) → ToldBound c.told b → c.told (meaning_of b i) ≡ true
  told_meaning (LocalNumber v) i h = h
  told_meaning (Definition u n) i h = c.global u i

  macro_with_same : (s : T c) (b : Binder) (o : Option (Transformer (D c) (B c))) → macro_with (side c x) s.0 b (option_map (transformer_map c) o) ≡ macro_with (over c) s b o
  macro_with_same s b None = refl
  macro_with_same s b (Some m) =
      let rs = rules_fused (B c) Ident Ident (λ i. i) (ident c) m.rules in
      let ls = ap (map (λ (l : Leaf Ident). record { target = target_of (side c x) m.env.0 s.0 l.leaf.name l.leaf.occ; literal = l.literal })) (leaves_of-map (B c) Ident (ident c) (names_over c) (identifiers c) (told_names c) m.rules)
      ∙ map_after (λ (l : Leaf Ident). record { target = target_of (side c x) m.env.0 s.0 l.leaf.name l.leaf.occ; literal = l.literal }) (leaf_map (ident c)) (λ (l : Leaf (B c)). record { target = target_of (over c) m.env s l.leaf.name l.leaf.occ; literal = l.literal })
      (λ l. ap (λ t. record { target = t; literal = l.literal }) (target_goes c x m.env s l.leaf.name l.leaf.occ)) (leaves_of (names_over c) m.rules) in
      λ j. record { binder = b; rules = rs j; leaves = ls j }

  macro_def_same : (s : T c) (b : Binder) → ToldBound c.told b.bound → macro_def (side c x) s.0 b ≡ macro_def (over c) s b
  macro_def_same s b h = ap (macro_with (side c x) s.0 b) (transformer_same c x s (meaning_of b.bound b.ident) (told_meaning b.bound b.ident h)) ∙ macro_with_same s b ((over c).transformer s (meaning_of b.bound b.ident))

  abbrev ToldNumbers : List Number → Type 0
  ToldNumbers vs = AllOf (λ (v : Number). c.told (Local v) ≡ true) vs

  local_defs_same : (s : T c) (vs : List Number) (ns : List (Named (B c))) → ToldNumbers vs → local_defs (side c x) s.0 vs (map (named_map (ident c)) ns) ≡ local_defs (over c) s vs ns
  local_defs_same s [] ns h = refl
  local_defs_same s (v ∷ vs) [] h = refl
  local_defs_same s (v ∷ vs) (n ∷ ns) h =
      let a = macro_def_same s (record { bound = LocalNumber v; ident = n.name.0; occ = n.occ }) h.0 in let b = local_defs_same s vs ns h.1 in λ j. a j ∷ b j

  numbers_told : (s : T c) (n : ℕ) → s.0.locals s.0.form ≤ n → (ns : List (Named (B c))) → ToldNumbers (numbers (record { unit = s.0.unit; form = s.0.form; count = n }) ns)
  numbers_told s n l [] = tt
  numbers_told s n l (y ∷ ys) = (c.local s.0 s.1 n l, numbers_told s (suc n) (omega (arith, l)) ys)

  numbers_same : (v : Number) (ns : List (Named (B c))) → numbers v (map (named_map (ident c)) ns) ≡ numbers v ns
  numbers_same v [] = refl
  numbers_same v (n ∷ ns) = ap (λ vs. v ∷ vs) (numbers_same (record { unit = v.unit; form = v.form; count = suc v.count }) ns)

  -- ---- without trees to expand

  quote_goes : (depth : ℕ) (here : Here) (t : Tree (B c)) (s : T c) → Same (quote (over c) depth here t s) (quote (side c x) depth here (map_tree (ident c) t) s.0)
  quote_goes depth here t s =
      let z = size-map (B c) Ident (ident c) t in let q = map_map symbol_of (ident c) t in
      goes_at c (λ j. node (side c x) here (1 + z j) depth (λ below. done (Quote (q j))) s.0)
      (node_goes c x here (1 + tree_size t) depth s (λ below. done (Quote (map_tree (names_over c).strip t))) (λ below. done (Quote (map_tree (names_over c).strip t))) (λ below u. goes refl))

  unless_goes : {V : Type 0} (here : Here) (h : Head) (n : Named (B c)) (k : Step (T c) V) (k' : Step ScopedState V) (s : T c) → Same (k s) (k' s.0) → Same (unless_keyword (over c) here h n k s) (unless_keyword (side c x) here h (named_map (ident c) n) k' s.0)
  unless_goes here (IsCore y) n k k' s q = goes refl
  unless_goes here (IsAuxiliary y) n k k' s q = goes refl
  unless_goes here (IsMacro y) n k k' s q = goes refl
  unless_goes here IsNone n k k' s q = q

  reference_goes : (depth : ℕ) (here : Here) (e : D c) (n : Named (B c)) (s : T c) → Same (reference (over c) depth here e n s) (reference (side c x) depth here e.0 (named_map (ident c) n) s.0)
  reference_goes depth here e n s =
      goes_at c (ap (λ h. unless_keyword (side c x) here h (named_map (ident c) n) (node (side c x) here 1 depth (λ below t. done (Ref (target_of (side c x) e.0 t n.name.0 n.occ)) t)) s.0) (head_goes c x e s n.name))
      (unless_goes here (head_of (over c) e s n.name) n (node (over c) here 1 depth (λ below t. done (Ref (target_of (over c) e t n.name n.occ)) t)) (node (side c x) here 1 depth (λ below t. done (Ref (target_of (side c x) e.0 t n.name.0 n.occ)) t)) s
      (node_goes c x here 1 depth s _ _ (λ below u. goes (ap (λ t. (Ok (Ref t), u.0)) (target_goes c x e u n.name n.occ)))))

  -- ---- rules, read in an environment of their own

  heads_goes : (here : Here) (e : D c) (ts : Trees (B c)) (s : T c) → Goes c (map (parts_map (ident c))) (heads (over c) here e ts s) (heads (side c x) here e.0 (map_trees (ident c) ts) s.0)
  heads_goes here e no_trees s = goes refl
  heads_goes here e (tree t ts) s = goes_bind c _ _ (rules_parts_goes c x here e t s) (λ r u. goes_bind c _ _ (heads_goes here e ts u) (λ rs v. goes refl))

  keep_same : (v : Number) → c.told (Local v) ≡ true → (r : Rules (B c)) (e : D c) (s : T c) → (side c x).keep v (rules_map (ident c) r) e.0 s.0 ≡ ((over c).keep v r e s).0
  keep_same v h r e s = go (c.told (Local v)) refl h
    where
      go : (t : Bool) (d : c.told (Local v) ≡ t) → t ≡ true → (side c x).keep v (rules_map (ident c) r) e.0 s.0 ≡ (keep_if c v r e s t d).0
      go true d q = refl
      go false d q = let z : true ≡ false = sym q in absurd cc

  keep_goes : (here : Here) (e : D c) (vs : List Number) → ToldNumbers vs → (ts : Trees (B c)) (rs : List (RulesParts (B c))) (s : T c) → Same (keep_all (over c) here e vs ts rs s) (keep_all (side c x) here e.0 vs (map_trees (ident c) ts) (map (parts_map (ident c)) rs) s.0)
  keep_goes here e [] h ts rs s = goes refl
  keep_goes here e (v ∷ vs) h no_trees rs s = goes refl
  keep_goes here e (v ∷ vs) h (tree t ts) [] s = goes refl
  keep_goes here e (v ∷ vs) h (tree t ts) (r ∷ rs) s =
      goes_bind c _ _ (rules_at_goes c x here e t r s) (λ rules u. goes_at c (ap (keep_all (side c x) here e.0 vs (map_trees (ident c) ts) (map (parts_map (ident c)) rs)) (keep_same v h.0 rules e u)) (keep_goes here e vs h.1 ts rs ((over c).keep v rules e u)))

  module _ (F : Over) (G : Aside) (w : WholeGoes F G) (b : BodyGoes F G) where
    -- ---- procedures

    procedure_goes : (depth : ℕ) (here : Here) (e : D c) (k : Clause (B c)) (s : T c) → Same (procedure F (over c) depth here e k s) (procedure G (side c x) depth here e.0 (clause_map (ident c) k) s.0)
    procedure_goes depth here e k s =
        goes_bind c _ _ (bound_goes (λ d ts. F depth here d (body ts)) (λ d ts. G depth here d (body ts)) (λ d ts u. b depth here d ts u) k.formals.names e k.body s) (λ q u. goes refl)

    lambda_goes : (depth : ℕ) (here : Here) (e : D c) (k : Clause (B c)) (s : T c) → Same (lambda F (over c) depth here e k s) (lambda G (side c x) depth here e.0 (clause_map (ident c) k) s.0)
    lambda_goes depth here e k s = node_goes c x here 1 depth s _ _ (λ below u. goes_bind c _ _ (procedure_goes below here e k u) (λ q v. goes refl))

    clauses_goes : (depth : ℕ) (here : Here) (e : D c) (ks : List (Clause (B c))) (s : T c) → Same (clauses F (over c) depth here e ks s) (clauses G (side c x) depth here e.0 (map (clause_map (ident c)) ks) s.0)
    clauses_goes depth here e [] s = goes refl
    clauses_goes depth here e (k ∷ ks) s = goes_bind c _ _ (procedure_goes depth here e k s) (λ q u. goes_bind c _ _ (clauses_goes depth here e ks u) (λ more v. goes refl))

    -- ---- bodies

    assignment_goes : (depth : ℕ) (here : Here) (e : D c) (n : Named (B c)) (go : ℕ → Step (T c) Core) (go' : ℕ → Step ScopedState Core) → ((below : ℕ) (u : T c) → Same (go below u) (go' below u.0)) → (s : T c)
        → Same (assignment (over c) depth here e n go s) (assignment (side c x) depth here e.0 (named_map (ident c) n) go' s.0)
    assignment_goes depth here e n go go' h s = node_goes c x here 1 depth s _ _ (λ below u. goes_bind c _ _ (h below u) (λ k v. goes (ap (λ t. (Ok (Set t k), v.0)) (target_goes c x e u n.name n.occ))))

    pub item_goes : (depth : ℕ) (e : D c) (i : Item (B c)) → ToldItem c.told i → (s : T c) → Same (item_part F (over c) depth e i s) (item_part G (side c x) depth e.0 (item_map (ident c) i) s.0)
    item_goes depth e (Expression y) h s = goes_bind c _ _ (w depth y.here e y.tree s) (λ k u. goes refl)
    item_goes depth e (Value z y) h s = goes_bind c _ _ (w depth y.here e y.tree s) (λ k u. goes refl)
    item_goes depth e (Function z here k) h s = goes_bind c _ _ (lambda_goes depth here e k s) (λ l u. goes refl)
    item_goes depth e (Assigned n y) h s =
        goes_bind c _ _ (assignment_goes depth y.here e n (λ below. F below y.here e (whole y.tree)) (λ below. G below y.here e.0 (whole (map_tree (ident c) y.tree))) (λ below u. w below y.here e y.tree u) s) (λ k u. goes refl)
    item_goes depth e (AssignedFunction n here k) h s =
        goes_bind c _ _ (assignment_goes depth here e n (λ below. lambda F (over c) below here e k) (λ below. lambda G (side c x) below here e.0 (clause_map (ident c) k)) (λ below u. lambda_goes below here e k u) s) (λ l u. goes refl)
    item_goes depth e (ValuesOf bs y) h s = goes_bind c _ _ (w depth y.here e y.tree s) (λ k u. goes refl)
    item_goes depth e (Record r) h s = goes refl
    item_goes depth e (Macro z here) h s = goes (ap (λ m. (Ok (syntax_part m), s.0)) (macro_def_same s z h))

    pub parts_goes : (depth : ℕ) (e : D c) (is : List (Item (B c))) → AllOf (ToldItem c.told) is → (s : T c) → Same (parts (item_part F (over c) depth e) is s) (parts (item_part G (side c x) depth e.0) (map (item_map (ident c)) is) s.0)
    parts_goes depth e [] h s = goes refl
    parts_goes depth e (i ∷ is) h s = goes_bind c _ _ (item_goes depth e i h.0 s) (λ p u. goes_bind c _ _ (parts_goes depth e is h.1 u) (λ ps v. goes refl))

    left_comes : {q : Pass (B c) (M c) × T c} {q' : Pass Ident FramedIdent × ScopedState} → Ran c q q' → Comes c (ToldRest c) (left_map (ident c)) (left_of q) (left_of q')
    left_comes (ran e a) = comes (ap left_of e) a

    comes_goes : {V W : Type 0} {H : V → Type 0} {g : V → W} {q : Result V Broken × T c} {q' : Result W Broken × ScopedState} → Comes c H g q q' → Goes c g q q'
    comes_goes (comes e a) = goes e

    in_body : (turns below : ℕ) (here : Here) (e : D c) (ts : Trees (B c)) (s : T c)
        → Same (body_in (over c) turns (item_part F (over c) below) here ((over c).enter e ts s)) (body_in (side c x) turns (item_part G (side c x) below) here ((side c x).enter e.0 (map_trees (ident c) ts) s.0))
    in_body turns below here e ts s =
        let r = (over c).enter e ts s in
        comes_goes {H = λ (v : Core). Unit {0}} (comes_bind c _ _ (left_comes_at r) (λ l u a.
        goes_comes c (goes_bind c _ _
        (goes_at c (ap (parts (item_part G (side c x) below r.env.0) (map (item_map (ident c)) l.items)) (meet_all_goes c x r.env l.uses u)) (parts_goes below r.env l.items a (meet_all (over c) r.env l.uses u)))
        (λ ps v. goes refl))))
      where
        left_comes_at : (r : Region (D c) (B c) (T c)) → Comes c (ToldRest c) (left_map (ident c)) (left_of (run (over c) turns r.env (record { todo = forms_at here r.trees; aside = []; uses = []; notes = [] }) r.state))
            (left_of (run (side c x) turns r.env.0 (record { todo = forms_at here (map_trees (ident c) r.trees); aside = []; uses = []; notes = [] }) r.state.0))
        left_comes_at r = comes_at_forms (forms_at_seen (ident c) here r.trees) (run_goes c x turns r.env (record { todo = forms_at here r.trees; aside = []; uses = []; notes = [] }) r.state tt)
          where
            comes_at_forms : {fs gs : List (Form Ident)} → gs ≡ fs → Ran c (run (over c) turns r.env (record { todo = forms_at here r.trees; aside = []; uses = []; notes = [] }) r.state) (run (side c x) turns r.env.0 (record { todo = fs; aside = []; uses = []; notes = [] }) r.state.0)
                → Comes c (ToldRest c) (left_map (ident c)) (left_of (run (over c) turns r.env (record { todo = forms_at here r.trees; aside = []; uses = []; notes = [] }) r.state)) (left_of (run (side c x) turns r.env.0 (record { todo = gs; aside = []; uses = []; notes = [] }) r.state.0))
            comes_at_forms d k = left_comes (ran_at c (ap (λ zs. run (side c x) turns r.env.0 (record { todo = zs; aside = []; uses = []; notes = [] }) r.state.0) d) k)

    pub body_goes : (turns depth : ℕ) (here : Here) (e : D c) (ts : Trees (B c)) (s : T c) → Same (body_core F (over c) turns depth here e ts s) (body_core G (side c x) turns depth here e.0 (map_trees (ident c) ts) s.0)
    body_goes turns depth here e ts s = node_goes c x here 1 depth s _ _ (λ below u. in_body turns below here e ts u)

    sequence_goes : (depth : ℕ) (here : Here) (e : D c) (ts : Trees (B c)) (s : T c) → Same (sequence F (over c) depth here e ts s) (sequence G (side c x) depth here e.0 (map_trees (ident c) ts) s.0)
    sequence_goes depth here e ts s =
        node_goes c x here 1 depth s _ _ (λ below u. goes_bind c _ _ (expressions_goes (λ t. F below here e (whole t)) (λ t. G below here e.0 (whole t)) (λ t v. w below here e t v) ts u) (λ ps v. goes refl))

    -- ---- local macros

    local_macros_goes : (depth : ℕ) (here : Here) (vs : List Number) → ToldNumbers vs → (ns : List (Named (B c))) (d : D c) (rules : Trees (B c)) (e : D c) (ts : Trees (B c)) (s : T c)
        → Same (local_macros F (over c) depth here vs ns d rules e ts s) (local_macros G (side c x) depth here vs (map (named_map (ident c)) ns) d.0 (map_trees (ident c) rules) e.0 (map_trees (ident c) ts) s.0)
    local_macros_goes depth here vs h ns d rules e ts s =
        goes_bind c _ _ (heads_goes here d rules s) (λ rs u. node_goes c x here 1 depth u _ _ (λ below t.
        goes_bind c _ _ (keep_goes here d vs h rules rs t) (λ z t1. goes_bind c _ _ (b below here e ts t1) (λ k y. goes (ap (λ ds. (Ok (LetSyntax ds k), y.0)) (local_defs_same t1 vs ns h))))))

    recursive_goes : (depth : ℕ) (here : Here) (vs : List Number) → ToldNumbers vs → (ns : List (Named (B c))) (e : D c) (ts : Trees (B c)) (s : T c)
        → Same (recursive F (over c) depth here vs ns e ts s) (recursive G (side c x) depth here vs (map (named_map (ident c)) ns) e.0 (map_trees (ident c) ts) s.0)
    recursive_goes depth here vs h ns e no_trees s = goes refl
    recursive_goes depth here vs h ns e (tree (name i o) ts) s = goes refl
    recursive_goes depth here vs h ns e (tree (atom a o) ts) s = goes refl
    recursive_goes depth here vs h ns e (tree (vector us o) ts) s = goes refl
    recursive_goes depth here vs h ns e (tree (list rules tail o) ts) s = local_macros_goes depth here vs h ns e rules e ts s

    let_goes : (depth : ℕ) (here : Here) (e : D c) (m : LocalMacros (B c)) (s : T c) → Same (let_syntax F (over c) depth here e m s) (let_syntax G (side c x) depth here e.0 (local_macros_map (ident c) m) s.0)
    let_goes depth here e m s =
        let v = next_number s.0 s.0.locals in
        goes_at c (ap (λ vs. bound (side c x) (λ d ts. local_macros G (side c x) depth here vs (map (named_map (ident c)) m.names) e.0 (map_trees (ident c) m.rules) d ts) (map (named_map (ident c)) m.names) e.0 (map_trees (ident c) m.body) s.0 >>= λ q. done q.1) (numbers_same v m.names))
        (goes_bind c _ _ (bound_goes (λ d ts. local_macros F (over c) depth here (numbers v m.names) m.names e m.rules d ts) (λ d ts. local_macros G (side c x) depth here (numbers v m.names) (map (named_map (ident c)) m.names) e.0 (map_trees (ident c) m.rules) d ts)
        (λ d ts u. local_macros_goes depth here (numbers v m.names) (numbers_told s (s.0.locals s.0.form) (omega arith) m.names) m.names e m.rules d ts u) m.names e m.body s) (λ q u. goes refl))

    letrec_goes : (depth : ℕ) (here : Here) (e : D c) (m : LocalMacros (B c)) (s : T c) → Same (letrec_syntax F (over c) depth here e m s) (letrec_syntax G (side c x) depth here e.0 (local_macros_map (ident c) m) s.0)
    letrec_goes depth here e m s =
        let v = next_number s.0 s.0.locals in let ts = tree (list m.rules proper None) m.body in
        goes_at c (ap (λ vs. bound (side c x) (recursive G (side c x) depth here vs (map (named_map (ident c)) m.names)) (map (named_map (ident c)) m.names) e.0 (map_trees (ident c) ts) s.0 >>= λ q. done q.1) (numbers_same v m.names))
        (goes_bind c _ _ (bound_goes (recursive F (over c) depth here (numbers v m.names) m.names) (recursive G (side c x) depth here (numbers v m.names) (map (named_map (ident c)) m.names))
        (λ d us u. recursive_goes depth here (numbers v m.names) (numbers_told s (s.0.locals s.0.form) (omega arith) m.names) m.names d us u) m.names e ts s) (λ q u. goes refl))

    -- ---- other core forms

    hole_seen : (o : Option (B c)) → symbol_or_hole symbol_of (option_map (ident c) o) ≡ symbol_or_hole (names_over c).strip o
    hole_seen None = refl
    hole_seen (Some i) = refl

    quasi_goes : (depth : ℕ) (here : Here) (e : D c) (p : Pieces (B c)) (s : T c) → Same (quasi F (over c) depth here e p s) (quasi G (side c x) depth here e.0 (pieces_map (ident c) p) s.0)
    quasi_goes depth here e p s =
        let z = weight_same (B c) Ident (ident c) p.datum in
        let d = map_map (symbol_or_hole symbol_of) (option_map (ident c)) p.datum ∙ map_same (λ o. symbol_or_hole symbol_of (option_map (ident c) o)) (symbol_or_hole (names_over c).strip) hole_seen p.datum in
        goes_at c (λ j. node (side c x) here (1 + z j) depth (λ below t. each_of (λ u. G below here e.0 (whole u)) (map (map_tree (ident c)) p.holes) t >>= λ cs. done (Quasi (d j) cs)) s.0)
        (node_goes c x here (1 + outside p.datum) depth s
        (λ below t. each_of (λ u. F below here e (whole u)) p.holes t >>= λ cs. done (Quasi (map_tree (symbol_or_hole (names_over c).strip) p.datum) cs))
        (λ below t. each_of (λ u. G below here e.0 (whole u)) (map (map_tree (ident c)) p.holes) t >>= λ cs. done (Quasi (map_tree (symbol_or_hole (names_over c).strip) p.datum) cs))
        (λ below u. goes_bind c _ _ (each_of_goes (λ t. F below here e (whole t)) (λ t. G below here e.0 (whole t)) (λ t v. w below here e t v) p.holes u) (λ cs v. goes refl)))

    quasi_read : (e : D c) (ts : Trees (B c)) (tail : Tail (B c)) (s : T c)
        → Reads (ident c) (pieces_map (ident c)) (one_of ts tail >> quasi_of (λ i. mark_of (head_of (over c) e s i))) (one_of (map_trees (ident c) ts) (map_tail (ident c) tail) >> quasi_of (λ i. mark_of (head_of (side c x) e.0 s.0 i)))
    quasi_read e ts tail s =
        then_map (quasi_of (λ i. mark_of (head_of (side c x) e.0 s.0 i))) (one_of-map (B c) Ident (ident c) ts tail)
        (quasi_of-map (B c) Ident (ident c) (λ i. mark_of (head_of (over c) e s i)) (λ i. mark_of (head_of (side c x) e.0 s.0 i)) (λ i. ap mark_of (head_goes c x e s i)))

    set_goes : (depth : ℕ) (here : Here) (e : D c) (p : Named (B c) × Tree (B c)) (s : T c) → Same (set F (over c) depth here e p s) (set G (side c x) depth here e.0 (named_map (ident c) p.0, map_tree (ident c) p.1) s.0)
    set_goes depth here e p s =
        goes_at c (ap (λ h. unless_keyword (side c x) here h (named_map (ident c) p.0) (node (side c x) here 1 depth (λ below t. G below here e.0 (whole (map_tree (ident c) p.1)) t >>= λ k. done (Set (target_of (side c x) e.0 t p.0.name.0 p.0.occ) k))) s.0) (head_goes c x e s p.0.name))
        (unless_goes here (head_of (over c) e s p.0.name) p.0 (node (over c) here 1 depth (λ below t. F below here e (whole p.1) t >>= λ k. done (Set (target_of (over c) e t p.0.name p.0.occ) k)))
        (node (side c x) here 1 depth (λ below t. G below here e.0 (whole (map_tree (ident c) p.1)) t >>= λ k. done (Set (target_of (side c x) e.0 t p.0.name.0 p.0.occ) k))) s
        (node_goes c x here 1 depth s _ _ (λ below u. goes_bind c _ _ (w below here e p.1 u) (λ k v. goes (ap (λ t. (Ok (Set t k), v.0)) (target_goes c x e u p.0.name p.0.occ))))))

    call_goes : (depth : ℕ) (here : Here) (e : D c) (ts : Trees (B c)) (tail : Tail (B c)) (s : T c) → Same (call F (over c) depth here e ts tail s) (call G (side c x) depth here e.0 (map_trees (ident c) ts) (map_tail (ident c) tail) s.0)
    call_goes depth here e ts (dotted t) s = goes refl
    call_goes depth here e ts proper s =
        node_goes c x here 1 depth s _ _ (λ below u. goes_bind c _ _ (each_goes (λ t. F below here e (whole t)) (λ t. G below here e.0 (whole t)) (λ t v. w below here e t v) ts u) (λ cs v. goes refl))

    chosen_goes : (depth : ℕ) (here : Here) (e : D c) (o : Option (Trees (B c))) (s : T c) → Same (chosen_sequence F (over c) depth here e o s) (chosen_sequence G (side c x) depth here e.0 (option_map (map_trees (ident c)) o) s.0)
    chosen_goes depth here e None s = goes refl
    chosen_goes depth here e (Some no_trees) s = goes refl
    chosen_goes depth here e (Some (tree t ts)) s = sequence_goes depth here e (tree t ts) s

    core_goes : (depth : ℕ) (here : Here) (e : D c) (k : CoreKeyword) (ts : Trees (B c)) (tail : Tail (B c)) (s : T c) → Same (core_form F (over c) depth here e k ts tail s) (core_form G (side c x) depth here e.0 k (map_trees (ident c) ts) (map_tail (ident c) tail) s.0)
    core_goes depth here e IsQuote ts tail s = goes_bind c _ _ (goes_read c here s (one_of-map (B c) Ident (ident c) ts tail)) (λ t u. quote_goes depth here t u)
    core_goes depth here e IsQuasiquote ts tail s = goes_bind c _ _ (goes_read c here s (quasi_read e ts tail s)) (λ p u. quasi_goes depth here e p u)
    core_goes depth here e IsLambda ts tail s = goes_bind c _ _ (goes_read c here s (lambda_of-map (B c) Ident (ident c) (names_over c).same same_ident (λ i j. refl) ts tail)) (λ k u. lambda_goes depth here e k u)
    core_goes depth here e IsCaseLambda ts tail s =
        goes_bind c _ _ (goes_read c here s (case_lambda_of-map (B c) Ident (ident c) (names_over c).same same_ident (λ i j. refl) ts tail)) (λ ks u. node_goes c x here 1 depth u _ _ (λ below v. goes_bind c _ _ (clauses_goes below here e ks v) (λ more z. goes refl)))
    core_goes depth here e IsIf ts tail s =
        goes_bind c _ _ (goes_read c here s (if_of-map (B c) Ident (ident c) ts tail)) (λ us u. node_goes c x here 1 depth u _ _ (λ below v. goes_bind c _ _ (each_goes (λ t. F below here e (whole t)) (λ t. G below here e.0 (whole t)) (λ t z. w below here e t z) us v) (λ cs z. goes refl)))
    core_goes depth here e IsSet ts tail s = goes_bind c _ _ (goes_read c here s (named_tree_of-map (B c) Ident (ident c) ts tail)) (λ p u. set_goes depth here e p u)
    core_goes depth here e IsBegin ts tail s = goes_bind c _ _ (goes_read c here s (some_of-map (B c) Ident (ident c) ts tail)) (λ us u. sequence_goes depth here e us u)
    core_goes depth here e IsDefine ts tail s = goes_bind c _ _ (goes_read c here s (definition_of-map (B c) Ident (ident c) (names_over c).same same_ident (λ i j. refl) ts tail)) (λ d u. goes refl)
    core_goes depth here e IsDefineValues ts tail s = goes_bind c _ _ (goes_read c here s (values_of-map (B c) Ident (ident c) (names_over c).same same_ident (λ i j. refl) ts tail)) (λ d u. goes refl)
    core_goes depth here e IsDefineRecordType ts tail s = goes refl
    core_goes depth here e IsDefineSyntax ts tail s = goes_bind c _ _ (goes_read c here s (syntax_of-map (B c) Ident (ident c) ts tail)) (λ d u. goes refl)
    core_goes depth here e IsLetSyntax ts tail s = goes_bind c _ _ (goes_read c here s (local_macros_of-map (B c) Ident (ident c) (names_over c).same same_ident (λ i j. refl) ts tail)) (λ m u. let_goes depth here e m u)
    core_goes depth here e IsLetrecSyntax ts tail s = goes_bind c _ _ (goes_read c here s (local_macros_of-map (B c) Ident (ident c) (names_over c).same same_ident (λ i j. refl) ts tail)) (λ m u. letrec_goes depth here e m u)
    core_goes depth here e IsCondExpand ts tail s = goes_bind c _ _ (goes_read c here s (chosen_of-map (B c) Ident (ident c) (names_over c).strip symbol_of (λ i. refl) c.known ts tail)) (λ o u. chosen_goes depth here e o u)
    core_goes depth here e IsSyntaxError ts tail s = goes_bind c _ _ (goes_read c here s (error_text_of-map (B c) Ident (ident c) ts tail)) (λ text u. goes refl)
    core_goes depth here e IsInclude ts tail s = goes refl

    -- ---- any expression

    macro_goes : (depth : ℕ) (here : Here) (e : D c) (k : Target) (o : Option (Transformer (D c) (B c))) (ts : Trees (B c)) (tail : Tail (B c)) (s : T c)
        → Same (macro_use F (over c) depth here e k o ts tail s) (macro_use G (side c x) depth here e.0 k (option_map (transformer_map c) o) (map_trees (ident c) ts) (map_tail (ident c) tail) s.0)
    macro_goes depth here e k None ts tail s = goes refl
    macro_goes depth here e k (Some m) ts tail s = goes_bind c _ _ (use_goes c x here e k m ts tail s) (λ i u. goes_at c (ap (G depth here e.0 (whole (map_tree (ident c) i.tree))) (meet_goes c x e i.met u)) (w depth here e i.tree (meet_waiting (over c) e i.met u)))

    by_head_goes : (depth : ℕ) (here : Here) (e : D c) (h : Head) → ToldHead c x h → (n : Named (B c)) (ts : Trees (B c)) (tail : Tail (B c)) (s : T c)
        → Same (by_head F (over c) depth here e h n ts tail s) (by_head G (side c x) depth here e.0 h (named_map (ident c) n) (map_trees (ident c) ts) (map_tail (ident c) tail) s.0)
    by_head_goes depth here e (IsCore k) q n ts tail s =
        goes_at c (ap (λ t. core_form G (side c x) depth here e.0 k (map_trees (ident c) ts) (map_tail (ident c) tail) ((side c x).meet t s.0)) (target_goes c x e s n.name n.occ)) (core_goes depth here e k ts tail ((over c).meet (target_of (over c) e s n.name n.occ) s))
    by_head_goes depth here e (IsAuxiliary a) q n ts tail s = call_goes depth here e (tree (name n.name n.occ) ts) tail s
    by_head_goes depth here e (IsMacro m) q n ts tail s =
        let tg = target_goes c x e s n.name n.occ in let tr = transformer_same c x s m q in
        goes_at c (λ j. macro_use G (side c x) depth here e.0 (tg j) (tr j) (map_trees (ident c) ts) (map_tail (ident c) tail) s.0) (macro_goes depth here e (target_of (over c) e s n.name n.occ) ((over c).transformer s m) ts tail s)
    by_head_goes depth here e IsNone q n ts tail s = call_goes depth here e (tree (name n.name n.occ) ts) tail s

    pub expression_goes : (depth : ℕ) (here : Here) (e : D c) (t : Tree (B c)) (s : T c) → Same (expression F (over c) depth here e t s) (expression G (side c x) depth here e.0 (map_tree (ident c) t) s.0)
    expression_goes depth here e (name i o) s = reference_goes depth here e (named i o) s
    expression_goes depth here e (atom a o) s = node_goes c x here 2 depth s _ _ (λ below u. goes refl)
    expression_goes depth here e (vector ts o) s = quote_goes depth here (vector ts o) s
    expression_goes depth here e (list no_trees tail o) s = goes refl
    expression_goes depth here e (list (tree (name i q) ts) tail o) s =
        goes_at c (ap (λ h. by_head G (side c x) depth here e.0 h (named i.0 q) (map_trees (ident c) ts) (map_tail (ident c) tail) s.0) (head_goes c x e s i)) (by_head_goes depth here e (head_of (over c) e s i) (told_head c x e s i) (named i q) ts tail s)
    expression_goes depth here e (list (tree (atom a q) ts) tail o) s = call_goes depth here e (tree (atom a q) ts) tail s
    expression_goes depth here e (list (tree (list us end q) ts) tail o) s = call_goes depth here e (tree (list us end q) ts) tail s
    expression_goes depth here e (list (tree (vector us q) ts) tail o) s = call_goes depth here e (tree (vector us q) ts) tail s

  -- any task, within the same turns
  pub expand_goes : (turns : ℕ) → WholeGoes (expand (over c) turns) (expand (side c x) turns) × BodyGoes (expand (over c) turns) (expand (side c x) turns)
  expand_goes zero = (λ depth here e t s. goes refl, λ depth here e ts s. goes refl)
  expand_goes (suc turns) =
      let ih = expand_goes turns in (
        λ depth here e t s. goes_at c (ap (λ hr. expression (expand (side c x) turns) (side c x) depth hr e.0 (map_tree (ident c) t) s.0) (here_seen (ident c) t here)) (expression_goes (expand (over c) turns) (expand (side c x) turns) ih.0 ih.1 depth (here_at (ident c) t here) e t s),
        λ depth here e ts s. body_goes (expand (over c) turns) (expand (side c x) turns) ih.0 ih.1 turns depth here e ts s,
      )
