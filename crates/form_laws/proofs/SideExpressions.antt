-- Expressions on two sides: as long as what the first asks has the same answers on the second, both come to the same cores, but for the
-- numbers of definitions.
use Rattle.std.proofs.Common.{◌≡◌, ℕ, zero, suc, ◌+◌, List, [], ◌∷◌, ◌++◌, map, Bool, true, false, cond, Option, Some, None, Result, Ok, refl, sym, ap, ◌∙◌, subst}
use Rattle.std.specs.Prelude.{nat_le}
use Rattle.scheme_model.specs.Identifiers.{Number}
use Rattle.scheme_model.specs.Ident.{Ident}
use Rattle.scheme_model.specs.Keywords.{CoreKeyword, IsQuote, IsQuasiquote, IsLambda, IsCaseLambda, IsIf, IsSet, IsBegin, IsDefine, IsDefineValues, IsDefineRecordType, IsDefineSyntax, IsLetSyntax, IsLetrecSyntax, IsCondExpand, IsSyntaxError, IsInclude}
use Rattle.scheme_model.specs.Trees.{Tree, name, atom, list, vector, Trees, no_trees, tree, Tail, proper, dotted, map_tree}
use Rattle.scheme_model.specs.Measures.{tree_size}
use Rattle.scheme_model.specs.ExpansionFaults.{Named, named, Fault, BadForm, BadPlace, NodeBudget, DepthBudget, SyntaxError, IncludeRefused, OutOfTurns, ◌>>◌}
use Rattle.scheme_model.specs.Meaning.{Meaning, Head, IsCore, IsAuxiliary, IsMacro, IsNone}
use Rattle.scheme_model.specs.Shapes.{Clause, lambda_of, case_lambda_of, if_of, named_tree_of, syntax_of, some_of, one_of, error_text_of, definition_of, values_of, LocalMacros, local_macros_of}
use Rattle.scheme_model.specs.Requirements.{LibraryName, chosen_of, libraries_in}
use Rattle.scheme_model.specs.Quasiquote.{quasi_of, marks_in, Pieces}
use Rattle.scheme_model.specs.Leaves.{Leaf, leaves_of}
use Rattle.scheme_model.specs.Cores.{Target, Bound, LocalNumber, Binder, Binders, RuleLeaf, MacroDef, Core, Ref, Const, Quote, Quasi, Lambda, CaseLambda, If, Set, Call, Body, LetSyntax, core, no_cores, clause, Parts, no_parts, part, Part, Expression as expression_part, Define as define_part, Values as values_part, Fields as fields_part, Syntax as syntax_part, outside}
use Rattle.scheme_model.specs.Steps.{Broken, Step, ◌>>=◌, done, fails}
use Rattle.scheme_model.specs.Order.{Here, Item, Expression, Value, Function, Assigned, AssignedFunction, ValuesOf, Record, Macro, Left, Pending, Pass, Region, Transformer, Asked, Meant, Headed, RulesOf, Library, Ops, target_of, head_of, here_at, forms_at, given, meet_waiting, meet_all, RulesParts, rules_parts_of, max_nodes}
use Rattle.scheme_model.specs.Expression.{Task, whole, body, Expander, node, each, each_of, bound, procedure, lambda, clauses, meaning_of, macro_with, macro_def, leaves_asked, macro_asked, assignment, item_part, parts, left_of, body_in, body_core, expressions, sequence, heads, keep_all, numbers, local_defs, locals_asked, local_macros, recursive, let_syntax, letrec_syntax, mark_of, symbol_or_hole, quasi, quote, unless_keyword, set, reference, call, chosen_sequence, core_form, macro_use, by_head, expression, expand}
use Rattle.model_laws.proofs.FrameAsks.{AllOf}
use Rattle.model_laws.proofs.FrameHeads.{IfMacro}
use Rattle.form_laws.proofs.Sides.{Both, Equal, BinderLike, MacroLike, ItemLike, PartLike, PartsLike, LeftLike, TransformerLike, AskedLike, Answer, Sides}
use Rattle.form_laws.proofs.SideSteps.{other, Goes, Same, comes_into, comes_after, comes_read, AskAlike, comes_asking, comes_asked, meant_alike, libraries_alike, asked_fits, goes_done, goes_same, goes_fails, bind_like, bind_same, counting_goes, given_goes, meet_goes, meet_later, meet_all_goes, meet_all_later, use_goes, parts_goes, rules_goes, Runs}
use Rattle.form_laws.proofs.SideRuns.{both_append, run_runs}
use Rattle.form_laws.proofs.AskedReaders.{chosen_same, quasi_same, marks_same}

parted : {X : Type 0} (P : X → Type 0) (xs ys : List X) → AllOf P (xs ++ ys) → AllOf P xs × AllOf P ys
parted P [] ys h = (tt, h)
parted P (x ∷ xs) ys h = let q = parted P xs ys h.1 in ((h.0, q.0), q.1)

-- ---- what is alike but for binders that are equal is equal

module _ (R : Bound → Bound → Type 0) (equal : (x y : Bound) → R x y → y ≡ x) where
  binder_equal : (b c : Binder) → BinderLike R b c → c ≡ b
  binder_equal b c h = let p = equal b.bound c.bound h.0 in let q = h.1 in let r = h.2 in λ j. record { bound = p j; ident = q j; occ = r j }

  binders_equal : (bs cs : List Binder) → Both (BinderLike R) bs cs → cs ≡ bs
  binders_equal [] [] h = refl
  binders_equal [] (c ∷ cs) h = absurd h
  binders_equal (b ∷ bs) [] h = absurd h
  binders_equal (b ∷ bs) (c ∷ cs) h = let p = binder_equal b c h.0 in let q = binders_equal bs cs h.1 in λ j. p j ∷ q j

  pub item_equal : {A : Type 0} (i j : Item A) → ItemLike R i j → j ≡ i
  item_equal (Expression x) j h = h
  item_equal (Value b x) j h = h.2 ∙ ap (λ d. Value d x) (binder_equal b h.0 h.1)
  item_equal (Function b here c) j h = h.2 ∙ ap (λ d. Function d here c) (binder_equal b h.0 h.1)
  item_equal (Assigned n x) j h = h
  item_equal (AssignedFunction n here c) j h = h
  item_equal (ValuesOf bs x) j h = h.2 ∙ (let p = binders_equal bs.names h.0.names h.1.0 in let r = h.1.1 in λ z. ValuesOf (record { names = p z; rest = r z }) x)
  item_equal (Record r) j h = h.2 ∙ (let a = binders_equal r.binders h.0.binders h.1.0 in let b = h.1.1 in let c = h.1.2 in let d = h.1.3 in λ z. Record (record { binders = a z; fields = b z; modified = c z; used = d z }))
  item_equal (Macro b here) j h = h.2 ∙ ap (λ d. Macro d here) (binder_equal b h.0 h.1)

  pub items_equal : {A : Type 0} (is js : List (Item A)) → Both (ItemLike R) is js → js ≡ is
  items_equal [] [] h = refl
  items_equal [] (j ∷ js) h = absurd h
  items_equal (i ∷ is) [] h = absurd h
  items_equal (i ∷ is) (j ∷ js) h = let p = item_equal i j h.0 in let q = items_equal is js h.1 in λ z. p z ∷ q z

  pub part_equal : (p q : Part) → PartLike R p q → q ≡ p
  part_equal (expression_part c) q h = h
  part_equal (define_part b c) q h = h.2 ∙ ap (λ d. define_part d c) (binder_equal b h.0 h.1)
  part_equal (values_part bs c) q h = h.2 ∙ (let p = binders_equal bs.names h.0.names h.1.0 in let r = h.1.1 in λ j. values_part (record { names = p j; rest = r j }) c)
  part_equal (fields_part r) q h =
      h.2 ∙ (let a = binders_equal r.binders h.0.binders h.1.0 in let b = h.1.1 in let c = h.1.2 in let d = h.1.3 in λ j. fields_part (record { binders = a j; fields = b j; modified = c j; used = d j }))
  part_equal (syntax_part m) q h = h.2 ∙ (let a = binder_equal m.binder h.0.binder h.1.0 in let b = h.1.1 in let c = h.1.2 in λ j. syntax_part (record { binder = a j; rules = b j; leaves = c j }))

  pub parts_equal : (ps qs : Parts) → PartsLike R ps qs → qs ≡ ps
  parts_equal no_parts qs h = h
  parts_equal (part p ps) qs h = h.4 ∙ (let a = part_equal p h.0 h.2 in let b = parts_equal ps h.1 h.3 in λ j. part (a j) (b j))

-- of any macro the rules may be asked
module _ {E A L S T : Type 0} (ops : Ops E A L S) (others : Ops E A L T) (fits : S → E → E → Type 0) (k : Sides ops others fits) (any_ruled : (s : S) (m : Meaning) → k.ruled s m) where
  abbrev there : Ops E A L T
  there = other ops others fits k

  -- both come to the same value
  abbrev Gives : {V : Type 0} → S → Result V Broken × S → Step T V → Type 0
  Gives {V} s q g = Same ops others fits k {V = V} s q g

  -- both expand each task alike
  abbrev pub ExpandsAlike : Expander E A S → Expander E A T → Type 0
  ExpandsAlike F G = (depth : ℕ) (here : Here) (e f : E) (t : Task A) (s : S) → fits s e f → Gives s (F depth here e t s) (G depth here f t)

  -- environments in a later state
  still : (s u : S) → k.later s u → (e f : E) → fits s e f → fits u e f
  still s u a e f h = k.fits_later s u a e f h

  node_goes : {V : Type 0} (here : Here) (n depth : ℕ) (s : S) (step : ℕ → Step S V) (step2 : ℕ → Step T V) → ((below : ℕ) (u : S) → k.later s u → Gives u (step below u) (step2 below)) → Gives s (node ops here n depth step s) (node there here n depth step2)
  node_goes here n zero s step step2 law = goes_fails ops others fits k here DepthBudget s
  node_goes here n (suc depth) s step step2 law = bind_same ops others fits k {V = Unit {0}} s (λ u. step depth) (λ u. step2 depth) (counting_goes ops others fits k here n s) (λ v u a. law depth u a)

  -- a value is made of what was expanded
  made : {V W : Type 0} (s : S) {q : Result V Broken × S} {g : Step T V} (h : V → W) → Gives s q g → Gives s (q >>= λ v. done (h v)) (λ t. g t >>= λ v. done (h v))
  made s h law = bind_same ops others fits k s _ _ law (λ v u a. goes_same ops others fits k u (h v))

  -- ---- tree by tree

  module _ (e e2 : E) (f : Tree A → Step S Core) (g : Tree A → Step T Core) (law : (t : Tree A) (s : S) → fits s e e2 → Gives s (f t s) (g t)) where
    each_goes : (ts : Trees A) (s : S) → fits s e e2 → Gives s (each f ts s) (each g ts)
    each_goes no_trees s h = goes_same ops others fits k s no_cores
    each_goes (tree t ts) s h = bind_same ops others fits k s _ _ (law t s h) (λ c u a. made u (λ cs. core c cs) (each_goes ts u (still s u a e e2 h)))

    each_of_goes : (ts : List (Tree A)) (s : S) → fits s e e2 → Gives s (each_of f ts s) (each_of g ts)
    each_of_goes [] s h = goes_same ops others fits k s no_cores
    each_of_goes (t ∷ ts) s h = bind_same ops others fits k s _ _ (law t s h) (λ c u a. made u (λ cs. core c cs) (each_of_goes ts u (still s u a e e2 h)))

    expressions_goes : (ts : Trees A) (s : S) → fits s e e2 → Gives s (expressions f ts s) (expressions g ts)
    expressions_goes no_trees s h = goes_same ops others fits k s no_parts
    expressions_goes (tree t ts) s h = bind_same ops others fits k s _ _ (law t s h) (λ c u a. made u (λ ps. part (expression_part c) ps) (expressions_goes ts u (still s u a e e2 h)))

  -- ---- binders

  -- beside other environments, in which what is bound isn't seen
  bound_goes : {V : Type 0} (go : E → Trees A → Step S V) (go2 : E → Trees A → Step T V) (o o2 : E) → ((e f : E) (ts : Trees A) (s : S) → fits s e f → fits s o o2 → Gives s (go e ts s) (go2 f ts))
      → (ns : List (Named A)) (e f : E) (ts : Trees A) (s : S) → fits s e f → fits s o o2 → Gives {V = List Binder × V} s (bound ops go ns e ts s) (bound there go2 ns f ts)
  bound_goes go go2 o o2 law [] e f ts s h i = bind_same ops others fits k s _ _ (law e f ts s h i) (λ b u a. goes_same ops others fits k u ([], b))
  bound_goes {V} go go2 o o2 law (n ∷ ns) e f ts s h i =
      let r = ops.bind n.name e ts s in
      let b : Binder = record { bound = LocalNumber (ops.next_local s); ident = ops.plain n.name; occ = n.occ } in
      let a = k.bind_later s n.name e f h ts in
      let one = k.bind_some s n.name e f h ts in
      comes_into ops others fits k s r.state _ (fits r.state r.env) one.0 one.1 (λ g t. bound there go2 ns g r.trees t >>= λ q. done (b ∷ q.0, q.1)) (k.bind_back s n.name e ts) a
      (λ g z. bind_same ops others fits k {V = List Binder × V} r.state (λ q. done (b ∷ q.0, q.1)) (λ q. done (b ∷ q.0, q.1)) (bound_goes go go2 o o2 law ns r.env g r.trees r.state z (still s r.state a o o2 i)) (λ q u c. goes_same ops others fits k u (b ∷ q.0, q.1)))
      (λ t w c. let x = k.bind_near s t w n.name e f h ts in let y = others.bind n.name f ts t in let p = k.next_local s t w in let z = x.2 in
      (y.env, x.1, y.state, x.0, λ j. bound there go2 ns y.env (z j) y.state >>= λ q. done (record { bound = LocalNumber (p j); ident = ops.plain n.name; occ = n.occ } ∷ q.0, q.1)))

  unless_goes : {V : Type 0} (here : Here) (c : Head) (n : Named A) (s : S) (go : Step S V) (go2 : Step T V) → Gives s (go s) go2 → Gives s (unless_keyword ops here c n go s) (unless_keyword there here c n go2)
  unless_goes here (IsCore x) n s go go2 law = goes_fails ops others fits k here _ s
  unless_goes here (IsAuxiliary x) n s go go2 law = goes_fails ops others fits k here _ s
  unless_goes here (IsMacro x) n s go go2 law = goes_fails ops others fits k here _ s
  unless_goes here IsNone n s go go2 law = law

  -- a target that is read once a node has begun is what it was before
  fixed : {X Y V : Type 0} (o : Ops E X Y V) → ((s : V) (n : ℕ) (e : E) (i : X) → o.means e (o.spend n s) i ≡ o.means e s i) → (here : Here) (depth : ℕ) (e : E) (n : Named X) (W : Type 0) (step : Target → ℕ → Step V W) (s : V)
      → node o here 1 depth (λ below u. step (target_of o e u n.name n.occ) below u) s ≡ node o here 1 depth (step (target_of o e s n.name n.occ)) s
  fixed o same here zero e n W step s = refl
  fixed o same here (suc depth) e n W step s = go (nat_le ((o.counted s).nodes + 1) max_nodes)
    where
      go : (b : Bool) → (cond b (done {A = Unit {0}} tt (o.spend 1 s)) (fails here NodeBudget s) >>= λ x u. step (target_of o e u n.name n.occ) depth u) ≡ (cond b (done {A = Unit {0}} tt (o.spend 1 s)) (fails here NodeBudget s) >>= λ x u. step (target_of o e s n.name n.occ) depth u)
      go true = let p = same s 1 e n.name in λ j. step (record { meaning = p j; ident = o.plain n.name; occ = n.occ }) depth (o.spend 1 s)
      go false = refl

  -- a variable that isn't a keyword, and something with its target
  variable_goes : {V : Type 0} (depth : ℕ) (here : Here) (e f : E) (n : Named A) (s : S) → fits s e f → (step : Target → ℕ → Step S V) (step2 : Target → ℕ → Step T V) → ((x : Target) (below : ℕ) (u : S) → fits u e f → Gives u (step x below u) (step2 x below))
      → Gives s (unless_keyword ops here (head_of ops e s n.name) n (node ops here 1 depth (λ below u. step (target_of ops e u n.name n.occ) below u)) (ops.ask (Headed e n.name ∷ []) s))
      (λ t. unless_keyword there here (head_of there f t n.name) n (node there here 1 depth (λ below u. step2 (target_of there f u n.name n.occ) below u)) (others.ask (Headed f n.name ∷ []) t))
  variable_goes {V} depth here e f n s h step step2 law =
      let c = head_of ops e s n.name in
      let qs = Headed e n.name ∷ [] in
      let rs = Headed f n.name ∷ [] in
      let u = ops.ask qs s in
      let x = target_of ops e u n.name n.occ in
      let hu = asked_fits ops others fits k s qs e f h in
      comes_asked ops others fits k s qs rs ((f, h, refl), tt) _ (unless_keyword there here c n (node there here 1 depth (step2 x)))
      (λ t w a. let b = a.0 f h in let v = others.ask rs t in let p = k.ask_meant t rs f n.name ∙ (b.0 ∙ sym (k.ask_means s qs e n.name)) in
      unless_fixed there here (head_of there f t n.name) n _ _ v (fixed there k.spend_meant here depth f n V step2 v)
      ∙ (λ j. unless_keyword there here (b.1 j) n (node there here 1 depth (step2 (record { meaning = p j; ident = ops.plain n.name; occ = n.occ }))) v))
      (subst (λ (z : Result V Broken × S). Gives u z (unless_keyword there here c n (node there here 1 depth (step2 x)))) (sym (unless_fixed ops here c n _ _ u (fixed ops k.spend_means here depth e n V step u)))
      (unless_goes here c n u (node ops here 1 depth (step x)) (node there here 1 depth (step2 x)) (node_goes here 1 depth u (step x) (step2 x) (λ below w a. law x below w (still u w a e f hu)))))
    where
      unless_fixed : {X Y Z W : Type 0} (o : Ops E X Y Z) (here : Here) (c : Head) (n : Named X) (go go2 : Step Z W) (s : Z) → go s ≡ go2 s → unless_keyword o here c n go s ≡ unless_keyword o here c n go2 s
      unless_fixed o here (IsCore x) n go go2 s e = refl
      unless_fixed o here (IsAuxiliary x) n go go2 s e = refl
      unless_fixed o here (IsMacro x) n go go2 s e = refl
      unless_fixed o here IsNone n go go2 s e = e

  -- a target is read, and asked for
  target_goes : {V : Type 0} (s : S) (e f : E) → fits s e f → (n : Named A) {q : Result V Broken × S} (g0 : Step T V) (g : Target → Step T V) → ((t : T) → g0 t ≡ g (target_of there f t n.name n.occ) (others.ask (Meant f n.name ∷ []) t))
      → Gives (ops.ask (Meant e n.name ∷ []) s) q (g (target_of ops e s n.name n.occ)) → Gives s q g0
  target_goes s e f h n g0 g find law =
      comes_asked ops others fits k s (Meant e n.name ∷ []) (Meant f n.name ∷ []) ((f, h, refl), tt) g0 (g (target_of ops e s n.name n.occ))
      (λ t w a. find t ∙ (let p = a.0 f h in λ j. g (record { meaning = p j; ident = ops.plain n.name; occ = n.occ }) (others.ask (Meant f n.name ∷ []) t))) law

  -- ---- macro definitions

  -- what is asked of a macro's leaves
  leaf_targets : (s : S) (t : T) (e f : E) → fits s e f → (ls : List (Leaf A)) → AllOf (Answer ops others fits s t) (map (λ (l : Leaf A). Meant e l.leaf.name) ls)
      → map {B = RuleLeaf} (λ (l : Leaf A). record { target = target_of there f t l.leaf.name l.leaf.occ; literal = l.literal }) ls ≡ map {B = RuleLeaf} (λ (l : Leaf A). record { target = target_of ops e s l.leaf.name l.leaf.occ; literal = l.literal }) ls
  leaf_targets s t e f h [] a = refl
  leaf_targets s t e f h (l ∷ ls) a =
      let p = a.0 f h in let q = leaf_targets s t e f h ls a.1 in
      λ j. record { target = record { meaning = p j; ident = ops.plain l.leaf.name; occ = l.leaf.occ }; literal = l.literal } ∷ q j

  macro_by : (R : Bound → Bound → Type 0) (s : S) (t : T) (b c : Binder) → BinderLike R b c → (o o2 : Option (Transformer E A)) → TransformerLike (fits s) o o2 → AllOf (Answer ops others fits s t) (leaves_asked ops o) → MacroLike R (macro_with ops s b o) (macro_with there t c o2)
  macro_by R s t b c h None o2 x a = subst (λ (z : Option (Transformer E A)). MacroLike R (macro_with ops s b None) (macro_with there t c z)) (sym x) (h, refl, refl)
  macro_by R s t b c h (Some m) o2 x a =
      subst (λ (z : Option (Transformer E A)). MacroLike R (macro_with ops s b (Some m)) (macro_with there t c z)) (sym x.2) (h, refl, leaf_targets s t m.env x.0 x.1 (leaves_of ops.names m.rules) a)

  macro_like : (R : Bound → Bound → Type 0) → ((x y : Bound) → R x y → (i : Ident) → meaning_of y i ≡ meaning_of x i) → (s : S) (t : T) (b c : Binder) → BinderLike R b c → AllOf (Answer ops others fits s t) (macro_asked ops s b) → MacroLike R (macro_def ops s b) (macro_def there t c)
  macro_like R meant s t b c h a =
      let m : Meaning = meaning_of b.bound b.ident in
      let same : meaning_of c.bound c.ident ≡ m = ap (λ i. meaning_of c.bound i) h.1 ∙ meant b.bound c.bound h.0 b.ident in
      subst (λ (n : Meaning). MacroLike R (macro_def ops s b) (macro_with there t c (others.transformer t n))) (sym same) (macro_by R s t b c h (ops.transformer s m) (others.transformer t m) a.0 a.1)

  -- both ask alike of it
  leaves_alike : (s : S) (o o2 : Option (Transformer E A)) → TransformerLike (fits s) o o2 → AskAlike ops others fits k s (leaves_asked ops o) (leaves_asked there o2)
  leaves_alike s None o2 x = subst (λ (z : Option (Transformer E A)). AskAlike ops others fits k s [] (leaves_asked there z)) (sym x) tt
  leaves_alike s (Some m) o2 x =
      subst (λ (z : Option (Transformer E A)). AskAlike ops others fits k s (leaves_asked ops (Some m)) (leaves_asked there z)) (sym x.2) (meant_alike ops others fits k (λ (l : Leaf A). l.leaf.name) s m.env x.0 x.1 (leaves_of ops.names m.rules))

  macro_alike : (R : Bound → Bound → Type 0) → ((x y : Bound) → R x y → (i : Ident) → meaning_of y i ≡ meaning_of x i) → (s : S) (t : T) (b c : Binder) → BinderLike R b c → AllOf (Answer ops others fits s t) (macro_asked ops s b)
      → AskAlike ops others fits k s (macro_asked ops s b) (macro_asked there t c)
  macro_alike R meant s t b c h a =
      let m : Meaning = meaning_of b.bound b.ident in
      let same : meaning_of c.bound c.ident ≡ m = ap (λ i. meaning_of c.bound i) h.1 ∙ meant b.bound c.bound h.0 b.ident in
      subst (λ (n : Meaning). AskAlike ops others fits k s (macro_asked ops s b) (RulesOf n ∷ leaves_asked there (others.transformer t n))) (sym same) ((any_ruled s m, refl), leaves_alike s (ops.transformer s m) (others.transformer t m) a.0)

  -- the macro of another binder is told by the first's
  macro_some : (R : Bound → Bound → Type 0) (s : S) (b c : Binder) → BinderLike R b c → (n : MacroDef) × MacroLike R (macro_def ops s b) n
  macro_some R s b c h = by (ops.transformer s (meaning_of b.bound b.ident))
    where
      by : (o : Option (Transformer E A)) → (n : MacroDef) × MacroLike R (macro_with ops s b o) n
      by None = (macro_with ops s c None, (h, refl, refl))
      by (Some m) = (macro_with ops s c (Some m), (h, refl, refl))

  -- a local macro's binder is the same
  local_macro : (s : S) (t : T) (b : Binder) → AllOf (Answer ops others fits s t) (macro_asked ops s b) → macro_def there t b ≡ macro_def ops s b
  local_macro s t b a =
      let m : Meaning = meaning_of b.bound b.ident in
      let h = macro_by (λ (x y : Bound). y ≡ x) s t b b (refl, refl, refl) (ops.transformer s m) (others.transformer t m) a.0 a.1 in
      let p = h.0.0 in let q = h.1 in let r = h.2 in let i = h.0.1 in let o = h.0.2 in
      λ j. record { binder = record { bound = p j; ident = i j; occ = o j }; rules = q j; leaves = r j }

  local_macros_same : (s : S) (t : T) (vs : List Number) (ns : List (Named A)) → AllOf (Answer ops others fits s t) (locals_asked ops s vs ns) → local_defs there t vs ns ≡ local_defs ops s vs ns
  local_macros_same s t [] ns a = refl
  local_macros_same s t (v ∷ vs) [] a = refl
  local_macros_same s t (v ∷ vs) (n ∷ ns) a =
      let b : Binder = record { bound = LocalNumber v; ident = ops.plain n.name; occ = n.occ } in
      let q = parted (Answer ops others fits s t) (macro_asked ops s b) (locals_asked ops s vs ns) a in
      let x = local_macro s t b q.0 in let y = local_macros_same s t vs ns q.1 in λ j. x j ∷ y j

  locals_alike : (s : S) (t : T) (vs : List Number) (ns : List (Named A)) → AllOf (Answer ops others fits s t) (locals_asked ops s vs ns) → AskAlike ops others fits k s (locals_asked ops s vs ns) (locals_asked there t vs ns)
  locals_alike s t [] ns a = tt
  locals_alike s t (v ∷ vs) [] a = tt
  locals_alike s t (v ∷ vs) (n ∷ ns) a =
      let b : Binder = record { bound = LocalNumber v; ident = ops.plain n.name; occ = n.occ } in
      let q = parted (Answer ops others fits s t) (macro_asked ops s b) (locals_asked ops s vs ns) a in
      both_append (AskedLike (k.ruled s) (fits s)) (macro_asked ops s b) (macro_asked there t b) (locals_asked ops s vs ns) (locals_asked there t vs ns)
      (macro_alike (λ (x y : Bound). y ≡ x) (λ x y d i. ap (λ z. meaning_of z i) d) s t b b (refl, refl, refl) q.0) (locals_alike s t vs ns q.1)

  heads_goes : (here : Here) (e f : E) (ts : Trees A) (s : S) → fits s e f → Gives {V = List (RulesParts A)} s (heads ops here e ts s) (heads there here f ts)
  heads_goes here e f no_trees s h = goes_same ops others fits k s []
  heads_goes here e f (tree t ts) s h = bind_same ops others fits k s _ _ (parts_goes ops others fits k here e f (rules_parts_of t) s h) (λ r u a. made u (λ rs. r ∷ rs) (heads_goes here e f ts u (still s u a e f h)))

  keep_goes : (here : Here) (e f : E) (vs : List Number) (ts : Trees A) (rs : List (RulesParts A)) (s : S) → fits s e f → Gives {V = Unit {0}} s (keep_all ops here e vs ts rs s) (keep_all there here f vs ts rs)
  keep_goes here e f [] ts rs s h = goes_same ops others fits k s tt
  keep_goes here e f (v ∷ vs) no_trees rs s h = goes_same ops others fits k s tt
  keep_goes here e f (v ∷ vs) (tree t ts) [] s h = goes_same ops others fits k s tt
  keep_goes here e f (v ∷ vs) (tree t ts) (r ∷ rs) s h =
      bind_same ops others fits k s _ _ (rules_goes ops others fits k here t r s)
      (λ rules u a. let w = ops.keep v rules e u in let hu = still s u a e f h in let b = k.keep_later u v rules e f hu in
      comes_after ops others fits k u w (keep_all there here f vs ts rs) (others.keep v rules f) (k.keep_back u v rules e) b (λ x z. k.keep_near u x z v rules e f hu) (keep_goes here e f vs ts rs w (still u w b e f hu)))

  module _ (F : Expander E A S) (G : Expander E A T) (law : ExpandsAlike F G) where
    -- ---- procedures

    procedure_goes : (depth : ℕ) (here : Here) (e f : E) (c : Clause A) (s : S) → fits s e f → Gives {V = Binders × Core} s (procedure F ops depth here e c s) (procedure G there depth here f c)
    procedure_goes depth here e f c s h =
        made {V = List Binder × Core} s (λ q. (record { names = q.0; rest = c.formals.rest }, q.1)) (bound_goes (λ d ts. F depth here d (body ts)) (λ d ts. G depth here d (body ts)) e f (λ d g ts u z i. law depth here d g (body ts) u z) c.formals.names e f c.body s h h)

    lambda_goes : (depth : ℕ) (here : Here) (e f : E) (c : Clause A) (s : S) → fits s e f → Gives s (lambda F ops depth here e c s) (lambda G there depth here f c)
    lambda_goes depth here e f c s h = node_goes here 1 depth s _ _ (λ below u a. made {V = Binders × Core} u (λ q. Lambda q.0 q.1) (procedure_goes below here e f c u (still s u a e f h)))

    clauses_goes : (depth : ℕ) (here : Here) (e f : E) (cs : List (Clause A)) (s : S) → fits s e f → Gives s (clauses F ops depth here e cs s) (clauses G there depth here f cs)
    clauses_goes depth here e f [] s h = goes_same ops others fits k s _
    clauses_goes depth here e f (c ∷ cs) s h = bind_same ops others fits k s _ _ (procedure_goes depth here e f c s h) (λ q u a. made u (λ more. clause q.0 q.1 more) (clauses_goes depth here e f cs u (still s u a e f h)))

    -- ---- what was set aside

    assignment_goes : (depth : ℕ) (here : Here) (e f : E) (n : Named A) (go : ℕ → Step S Core) (go2 : ℕ → Step T Core) → ((below : ℕ) (u : S) → fits u e f → Gives u (go below u) (go2 below)) → (s : S) → fits s e f
        → Gives s (assignment ops depth here e n go s) (assignment there depth here f n go2)
    assignment_goes depth here e f n go go2 step s h =
        node_goes here 1 depth s _ _ (λ below u a. let hu = still s u a e f h in let qs = Meant e n.name ∷ [] in
        target_goes u e f hu n _ (λ x t. go2 below t >>= λ c. done (Set x c)) (λ t. refl) (made (ops.ask qs u) (λ c. Set (target_of ops e u n.name n.occ) c) (step below (ops.ask qs u) (asked_fits ops others fits k u qs e f hu))))

    -- beside what an item binds
    module _ (R : Bound → Bound → Type 0) (meant : (x y : Bound) → R x y → (i : Ident) → meaning_of y i ≡ meaning_of x i) where
      abbrev pub PartGoes : S → Result Part Broken × S → Step T Part → Type 0
      PartGoes s q g = Goes ops others fits k (λ u. PartLike R) s q g

      with_part : (s : S) {q : Result Core Broken × S} {g : Step T Core} (x y : Core → Part) → ((c : Core) → PartLike R (x c) (y c)) → Gives s q g → PartGoes s (q >>= λ c. done (x c)) (λ t. g t >>= λ c. done (y c))
      with_part s x y like step = bind_same ops others fits k {H = λ u. PartLike R} s _ _ step (λ c u a. goes_done ops others fits k u (x c) (y c) (like c))

      at_item : (s : S) {q : Result Part Broken × S} (g : Item A → Step T Part) (i j : Item A) → j ≡ i → PartGoes s q (g i) → PartGoes s q (g j)
      at_item s g i j d step = comes_read ops others fits k s (g j) (g i) (λ t w. ap (λ x. g x t) d) step

      pub item_goes : (depth : ℕ) (e f : E) (i j : Item A) → ItemLike R i j → (s : S) → fits s e f → PartGoes s (item_part F ops depth e i s) (item_part G there depth f j)
      item_goes depth e f (Expression x) j l s h = at_item s (λ z. item_part G there depth f z) (Expression x) j l (with_part s expression_part expression_part (λ c. refl) (law depth x.here e f (whole x.tree) s h))
      item_goes depth e f (Value b x) j l s h = at_item s (λ z. item_part G there depth f z) (Value l.0 x) j l.2 (with_part s (define_part b) (define_part l.0) (λ c. (l.0, l.1, refl)) (law depth x.here e f (whole x.tree) s h))
      item_goes depth e f (Function b here c) j l s h = at_item s (λ z. item_part G there depth f z) (Function l.0 here c) j l.2 (with_part s (define_part b) (define_part l.0) (λ c. (l.0, l.1, refl)) (lambda_goes depth here e f c s h))
      item_goes depth e f (Assigned n x) j l s h =
          at_item s (λ z. item_part G there depth f z) (Assigned n x) j l
          (with_part s expression_part expression_part (λ c. refl) (assignment_goes depth x.here e f n (λ below. F below x.here e (whole x.tree)) (λ below. G below x.here f (whole x.tree)) (λ below u hu. law below x.here e f (whole x.tree) u hu) s h))
      item_goes depth e f (AssignedFunction n here c) j l s h =
          at_item s (λ z. item_part G there depth f z) (AssignedFunction n here c) j l
          (with_part s expression_part expression_part (λ c. refl) (assignment_goes depth here e f n (λ below. lambda F ops below here e c) (λ below. lambda G there below here f c) (λ below u hu. lambda_goes below here e f c u hu) s h))
      item_goes depth e f (ValuesOf bs x) j l s h = at_item s (λ z. item_part G there depth f z) (ValuesOf l.0 x) j l.2 (with_part s (values_part bs) (values_part l.0) (λ c. (l.0, l.1, refl)) (law depth x.here e f (whole x.tree) s h))
      item_goes depth e f (Record r) j l s h = at_item s (λ z. item_part G there depth f z) (Record l.0) j l.2 (goes_done ops others fits k s (fields_part r) (fields_part l.0) (l.0, l.1, refl))
      item_goes depth e f (Macro b here) j l s h =
          let one = macro_some R s b l.0 l.1 in
          at_item s (λ z. item_part G there depth f z) (Macro l.0 here) j l.2
          (record {
            back = λ a. k.ask_back s (macro_asked ops s b) a;
            after = k.ask_later s (macro_asked ops s b);
            some = (Ok (syntax_part one.0), (one.0, one.1, refl));
            same = λ t w a. let x = k.answered s t w (macro_asked ops s b) a in
                ((macro_def there t l.0, macro_like R meant s t b l.0 l.1 x, refl), k.ask_near s t w (macro_asked ops s b) (macro_asked there t l.0) (macro_alike R meant s t b l.0 l.1 x));
          })

      pub parts_go : (depth : ℕ) (e f : E) (is js : List (Item A)) → Both (ItemLike R) is js → (s : S) → fits s e f → Goes ops others fits k (λ u. PartsLike R) s (parts (item_part F ops depth e) is s) (parts (item_part G there depth f) js)
      parts_go depth e f [] [] l s h = goes_done ops others fits k s no_parts no_parts refl
      parts_go depth e f [] (j ∷ js) l s h = absurd l
      parts_go depth e f (i ∷ is) [] l s h = absurd l
      parts_go depth e f (i ∷ is) (j ∷ js) l s h =
          bind_like ops others fits k {G = λ u. PartLike R} {H = λ u. PartsLike R} s _ _ (item_goes depth e f i j l.0 s h)
          (λ p u q a lp. bind_like ops others fits k {G = λ u. PartsLike R} {H = λ u. PartsLike R} u _ _ (parts_go depth e f is js l.1 u (still s u a e f h))
          (λ ps v qs b lps. goes_done ops others fits k v (part p ps) (part q qs) (q, qs, lp, lps, refl)))

    -- ---- bodies

    left_goes : (e : E) (s : S) {x : Pass A L × S} {g : T → Pass A L × T} → Runs ops others fits k e s x g → Goes ops others fits k (λ u. LeftLike (k.bounds e)) s (left_of x) (λ t. left_of (g t))
    left_goes e s r = record { back = r.back; after = r.after; some = (r.some.0.left, r.some.1.left); same = λ t w a. let y = r.same t w a in (y.0.left, y.1) }

    -- what is left: uses are met, and items expanded
    pub left_parts : (R : Bound → Bound → Type 0) → ((x y : Bound) → R x y → (i : Ident) → meaning_of y i ≡ meaning_of x i) → (depth : ℕ) (e f : E) (l m : Left A) → LeftLike R l m → (s : S) → fits s e f
        → Goes ops others fits k (λ u. PartsLike R) s (parts (item_part F ops depth e) l.items (meet_all ops e l.uses s)) (λ t. parts (item_part G there depth f) m.items (meet_all there f m.uses t))
    left_parts R meant depth e f l m w s h =
        let u = meet_all ops e l.uses s in
        comes_read ops others fits k s _ (λ t. parts (item_part G there depth f) m.items (meet_all there f l.uses t)) (λ t n. ap (λ us. parts (item_part G there depth f) m.items (meet_all there f us t)) w.0)
        (meet_all_goes ops others fits k e f l.uses s (parts (item_part G there depth f) m.items) h (parts_go R meant depth e f l.items m.items w.1 u (still s u (meet_all_later ops others fits k e l.uses s) e f h)))

    in_body : (turns below : ℕ) (here : Here) (r : Region E A S) → ((x y : Bound) → k.bounds r.env x y → y ≡ x) → k.defines r.env → k.notes r.state r.env [] [] → (f : E) → fits r.state r.env f
        → Gives r.state (body_in ops turns (item_part F ops below) here r) (λ t. body_in there turns (item_part G there below) here (record { env = f; trees = r.trees; state = t }))
    in_body turns below here r equal defines none f h =
        let p : Pending A L = record { todo = forms_at here r.trees; aside = []; uses = []; notes = [] } in
        bind_like ops others fits k {G = λ u. LeftLike (k.bounds r.env)} {H = λ u. Equal} r.state _ _
        (left_goes r.env r.state (run_runs ops others fits k r.env f defines turns p p r.state h (record { todo = refl; aside = tt; uses = refl; notes = none })))
        (λ l u m a w. bind_like ops others fits k {G = λ u. PartsLike (k.bounds r.env)} {H = λ u. Equal} u (λ ps. done (Body ps)) (λ ps. done (Body ps)) (left_parts (k.bounds r.env) (k.same_meant r.env) below r.env f l m w u (still r.state u a r.env f h))
        (λ ps v qs b x. goes_done ops others fits k v (Body ps) (Body qs) (ap Body (parts_equal (k.bounds r.env) equal ps qs x))))

    body_goes : (turns depth : ℕ) (here : Here) (e f : E) (ts : Trees A) (s : S) → fits s e f → Gives s (body_core F ops turns depth here e ts s) (body_core G there turns depth here f ts)
    body_goes turns depth here e f ts s h =
        node_goes here 1 depth s _ _ (λ below u a.
        let hu = still s u a e f h in
        let r = ops.enter e ts u in
        let one = k.enter_some u e f hu ts in
        comes_into ops others fits k u r.state _ (fits r.state r.env) one.0 one.1 (λ g t. body_in there turns (item_part G there below) here (record { env = g; trees = r.trees; state = t })) (k.enter_back u e ts) (k.enter_later u e f hu ts)
        (λ g z. in_body turns below here r (k.inside_bounds u e ts) (k.inside u e ts) (k.entered u e f hu ts) g z)
        (λ t w b. let x = k.enter_near u t w e f hu ts in let y = others.enter f ts t in let z = x.2 in (y.env, x.1, y.state, x.0, λ j. body_in there turns (item_part G there below) here (record { env = y.env; trees = z j; state = y.state }))))

    sequence_goes : (depth : ℕ) (here : Here) (e f : E) (ts : Trees A) (s : S) → fits s e f → Gives s (sequence F ops depth here e ts s) (sequence G there depth here f ts)
    sequence_goes depth here e f ts s h =
        node_goes here 1 depth s _ _ (λ below u a. made u Body (expressions_goes e f (λ t. F below here e (whole t)) (λ t. G below here f (whole t)) (λ t v hv. law below here e f (whole t) v hv) ts u (still s u a e f h)))

    -- ---- local macros

    macros_go : (depth : ℕ) (here : Here) (vs : List Number) (ns : List (Named A)) (d g : E) (rules : Trees A) (e f : E) (ts : Trees A) (s : S) → fits s d g → fits s e f → Gives s (local_macros F ops depth here vs ns d rules e ts s) (local_macros G there depth here vs ns g rules f ts)
    macros_go depth here vs ns d g rules e f ts s z h =
        bind_same ops others fits k s _ _ (heads_goes here d g rules s z) (λ rs u a.
        let zu = still s u a d g z in let hu = still s u a e f h in
        node_goes here 1 depth u _ _ (λ below v b.
        let zv = still u v b d g zu in let hv = still u v b e f hu in
        bind_same ops others fits k {V = Unit {0}} v _ _ (keep_goes here d g vs rules rs v zv) (λ x w c.
        let qs = locals_asked ops w vs ns in
        comes_asking ops others fits k w qs _ (λ t. G below here f (body ts) t >>= λ c. done (LetSyntax (local_defs ops w vs ns) c))
        (λ t y q. let rs = locals_asked there t vs ns in (rs, locals_alike w t vs ns q, ap (λ ds. G below here f (body ts) (others.ask rs t) >>= λ c. done (LetSyntax ds c)) (local_macros_same w t vs ns q)))
        (made (ops.ask qs w) (λ c. LetSyntax (local_defs ops w vs ns) c) (law below here e f (body ts) (ops.ask qs w) (asked_fits ops others fits k w qs e f (still v w c e f hv)))))))

    recursive_goes : (depth : ℕ) (here : Here) (vs : List Number) (ns : List (Named A)) (e f : E) (ts : Trees A) (s : S) → fits s e f → Gives s (recursive F ops depth here vs ns e ts s) (recursive G there depth here vs ns f ts)
    recursive_goes depth here vs ns e f no_trees s h = goes_fails ops others fits k here BadForm s
    recursive_goes depth here vs ns e f (tree (name i o) ts) s h = goes_fails ops others fits k here BadForm s
    recursive_goes depth here vs ns e f (tree (atom a o) ts) s h = goes_fails ops others fits k here BadForm s
    recursive_goes depth here vs ns e f (tree (vector us o) ts) s h = goes_fails ops others fits k here BadForm s
    recursive_goes depth here vs ns e f (tree (list rules tail o) ts) s h = macros_go depth here vs ns e f rules e f ts s h h

    let_goes : (depth : ℕ) (here : Here) (e f : E) (m : LocalMacros A) (s : S) → fits s e f → Gives s (let_syntax F ops depth here e m s) (let_syntax G there depth here f m)
    let_goes depth here e f m s h =
        let vs = numbers (ops.next_local s) m.names in
        comes_read ops others fits k s _ (λ t. bound there (λ d ts. local_macros G there depth here vs m.names f m.rules d ts) m.names f m.body t >>= λ q. done q.1)
        (λ t w. ap (λ v. bound there (λ d ts. local_macros G there depth here (numbers v m.names) m.names f m.rules d ts) m.names f m.body t >>= λ q. done q.1) (k.next_local s t w))
        (made {V = List Binder × Core} s (λ q. q.1)
        (bound_goes (λ d ts. local_macros F ops depth here vs m.names e m.rules d ts) (λ d ts. local_macros G there depth here vs m.names f m.rules d ts) e f (λ d g ts u z i. macros_go depth here vs m.names e f m.rules d g ts u i z) m.names e f m.body s h h))

    letrec_goes : (depth : ℕ) (here : Here) (e f : E) (m : LocalMacros A) (s : S) → fits s e f → Gives s (letrec_syntax F ops depth here e m s) (letrec_syntax G there depth here f m)
    letrec_goes depth here e f m s h =
        let vs = numbers (ops.next_local s) m.names in
        comes_read ops others fits k s _ (λ t. bound there (recursive G there depth here vs m.names) m.names f (tree (list m.rules proper None) m.body) t >>= λ q. done q.1)
        (λ t w. ap (λ v. bound there (recursive G there depth here (numbers v m.names) m.names) m.names f (tree (list m.rules proper None) m.body) t >>= λ q. done q.1) (k.next_local s t w))
        (made {V = List Binder × Core} s (λ q. q.1)
        (bound_goes (recursive F ops depth here vs m.names) (recursive G there depth here vs m.names) e f (λ d g ts u z i. recursive_goes depth here vs m.names d g ts u z) m.names e f (tree (list m.rules proper None) m.body) s h h))

    -- ---- other core forms

    quasi_goes : (depth : ℕ) (here : Here) (e f : E) (p : Pieces A) (s : S) → fits s e f → Gives s (quasi F ops depth here e p s) (quasi G there depth here f p)
    quasi_goes depth here e f p s h =
        node_goes here (1 + outside p.datum) depth s _ _
        (λ below u a. made u (λ cs. Quasi (map_tree (symbol_or_hole ops.names.strip) p.datum) cs) (each_of_goes e f (λ t. F below here e (whole t)) (λ t. G below here f (whole t)) (λ t v hv. law below here e f (whole t) v hv) p.holes u (still s u a e f h)))

    quote_goes : (depth : ℕ) (here : Here) (t : Tree A) (s : S) → Gives s (quote ops depth here t s) (quote there depth here t)
    quote_goes depth here t s = node_goes here (1 + tree_size t) depth s _ _ (λ below u a. goes_same ops others fits k u (Quote (map_tree ops.names.strip t)))

    set_goes : (depth : ℕ) (here : Here) (e f : E) (p : Named A × Tree A) (s : S) → fits s e f → Gives s (set F ops depth here e p s) (set G there depth here f p)
    set_goes depth here e f p s h =
        variable_goes depth here e f p.0 s h (λ x below u. F below here e (whole p.1) u >>= λ y. done (Set x y)) (λ x below t. G below here f (whole p.1) t >>= λ y. done (Set x y)) (λ x below u hu. made u (λ y. Set x y) (law below here e f (whole p.1) u hu))

    reference_goes : (depth : ℕ) (here : Here) (e f : E) (n : Named A) (s : S) → fits s e f → Gives s (reference ops depth here e n s) (reference there depth here f n)
    reference_goes depth here e f n s h = variable_goes depth here e f n s h (λ x below u. done (Ref x) u) (λ x below t. done (Ref x) t) (λ x below u hu. goes_same ops others fits k u (Ref x))

    each_below : (here : Here) (e f : E) (ts : Trees A) (below : ℕ) (u : S) → fits u e f → Gives u (each (λ t. F below here e (whole t)) ts u) (each (λ t. G below here f (whole t)) ts)
    each_below here e f ts below u hu = each_goes e f (λ t. F below here e (whole t)) (λ t. G below here f (whole t)) (λ t v hv. law below here e f (whole t) v hv) ts u hu

    call_goes : (depth : ℕ) (here : Here) (e f : E) (ts : Trees A) (tail : Tail A) (s : S) → fits s e f → Gives s (call F ops depth here e ts tail s) (call G there depth here f ts tail)
    call_goes depth here e f ts (dotted u) s h = goes_fails ops others fits k here BadForm s
    call_goes depth here e f ts proper s h = node_goes here 1 depth s _ _ (λ below u a. made u Call (each_below here e f ts below u (still s u a e f h)))

    chosen_goes : (depth : ℕ) (here : Here) (e f : E) (o : Option (Trees A)) (s : S) → fits s e f → Gives s (chosen_sequence F ops depth here e o s) (chosen_sequence G there depth here f o)
    chosen_goes depth here e f None s h = goes_fails ops others fits k here BadForm s
    chosen_goes depth here e f (Some no_trees) s h = goes_fails ops others fits k here BadForm s
    chosen_goes depth here e f (Some (tree t ts)) s h = sequence_goes depth here e f (tree t ts) s h

    -- something is read, and then it goes on
    read_goes : {X V : Type 0} (here : Here) (e f : E) (r : Result X (Fault A)) (s : S) → fits s e f → (go : X → Step S V) (go2 : X → Step T V) → ((x : X) (u : S) → fits u e f → Gives u (go x u) (go2 x)) → Gives s (given ops.plain here r s >>= go) (λ t. given ops.plain here r t >>= go2)
    read_goes here e f r s h go go2 step = bind_same ops others fits k s go go2 (given_goes ops others fits k here r s) (λ x u a. step x u (still s u a e f h))

    marks_there : (s : S) (t : T) (e f : E) → fits s e f → (is : List A) → AllOf (Answer ops others fits s t) (map (λ (i : A). Headed e i) is) → AllOf (λ (i : A). mark_of (head_of there f t i) ≡ mark_of (head_of ops e s i)) is
    marks_there s t e f h [] a = tt
    marks_there s t e f h (i ∷ is) a = (ap mark_of (a.0 f h).1, marks_there s t e f h is a.1)

    headed_alike : (s : S) (e f : E) → fits s e f → (is : List A) → AskAlike ops others fits k s (map (λ (i : A). Headed e i) is) (map (λ (i : A). Headed f i) is)
    headed_alike s e f h [] = tt
    headed_alike s e f h (i ∷ is) = ((f, h, refl), headed_alike s e f h is)

    known_there : (s : S) (t : T) (ns : List LibraryName) → AllOf (Answer ops others fits s t) (map (λ (n : LibraryName). Library n) ns) → AllOf (λ (n : LibraryName). others.known n ≡ ops.known n) ns
    known_there s t [] a = tt
    known_there s t (n ∷ ns) a = (a.0, known_there s t ns a.1)

    core_goes : (depth : ℕ) (here : Here) (e f : E) (c : CoreKeyword) (ts : Trees A) (tail : Tail A) (s : S) → fits s e f → Gives s (core_form F ops depth here e c ts tail s) (core_form G there depth here f c ts tail)
    core_goes depth here e f IsQuote ts tail s h = read_goes here e f (one_of ts tail) s h _ _ (λ t u hu. quote_goes depth here t u)
    core_goes depth here e f IsQuasiquote ts tail s h =
        let mark = λ (i : A). mark_of (head_of ops e s i) in
        let qs : List (Asked E A) = map (λ (i : A). Headed e i) (marks_in mark ts tail) in
        let rs : List (Asked E A) = map (λ (i : A). Headed f i) (marks_in mark ts tail) in
        comes_asked ops others fits k s qs rs (headed_alike s e f h (marks_in mark ts tail)) _ (λ t. given ops.plain here (one_of ts tail >> quasi_of mark) t >>= quasi G there depth here f)
        (λ t w a. let there_mark = λ (i : A). mark_of (head_of there f t i) in let x = marks_there s t e f h (marks_in mark ts tail) a in
        let p = quasi_same mark there_mark ts tail x in let q = marks_same mark there_mark ts tail x in
        λ j. given ops.plain here (p j) (others.ask (map (λ (i : A). Headed f i) (q j)) t) >>= quasi G there depth here f)
        (read_goes here e f (one_of ts tail >> quasi_of mark) (ops.ask qs s) (asked_fits ops others fits k s qs e f h) _ _ (λ p u hu. quasi_goes depth here e f p u hu))
    core_goes depth here e f IsLambda ts tail s h = read_goes here e f (lambda_of ops.names.same ts tail) s h _ _ (λ c u hu. lambda_goes depth here e f c u hu)
    core_goes depth here e f IsCaseLambda ts tail s h = read_goes here e f (case_lambda_of ops.names.same ts tail) s h _ _ (λ cs u hu. node_goes here 1 depth u _ _ (λ below v a. made v CaseLambda (clauses_goes below here e f cs v (still u v a e f hu))))
    core_goes depth here e f IsIf ts tail s h = read_goes here e f (if_of ts tail) s h _ _ (λ us u hu. node_goes here 1 depth u _ _ (λ below v a. made v If (each_below here e f us below v (still u v a e f hu))))
    core_goes depth here e f IsSet ts tail s h = read_goes here e f (named_tree_of ts tail) s h _ _ (λ p u hu. set_goes depth here e f p u hu)
    core_goes depth here e f IsBegin ts tail s h = read_goes here e f (some_of ts tail) s h _ _ (λ us u hu. sequence_goes depth here e f us u hu)
    core_goes depth here e f IsDefine ts tail s h = read_goes here e f (definition_of ops.names.same ts tail) s h _ _ (λ d u hu. goes_fails ops others fits k here BadPlace u)
    core_goes depth here e f IsDefineValues ts tail s h = read_goes here e f (values_of ops.names.same ts tail) s h _ _ (λ d u hu. goes_fails ops others fits k here BadPlace u)
    core_goes depth here e f IsDefineRecordType ts tail s h = goes_fails ops others fits k here BadPlace s
    core_goes depth here e f IsDefineSyntax ts tail s h = read_goes here e f (syntax_of ts tail) s h _ _ (λ d u hu. goes_fails ops others fits k here BadPlace u)
    core_goes depth here e f IsLetSyntax ts tail s h = read_goes here e f (local_macros_of ops.names.same ts tail) s h _ _ (λ m u hu. let_goes depth here e f m u hu)
    core_goes depth here e f IsLetrecSyntax ts tail s h = read_goes here e f (local_macros_of ops.names.same ts tail) s h _ _ (λ m u hu. letrec_goes depth here e f m u hu)
    core_goes depth here e f IsCondExpand ts tail s h =
        let qs : List (Asked E A) = map (λ (n : LibraryName). Library n) (libraries_in ops.names.strip ts tail) in
        comes_asked ops others fits k s qs qs (libraries_alike ops others fits k s (libraries_in ops.names.strip ts tail)) _ (λ t. given ops.plain here (chosen_of ops.names.strip ops.known ts tail) t >>= chosen_sequence G there depth here f)
        (λ t w a. ap (λ r. given ops.plain here r (others.ask qs t) >>= chosen_sequence G there depth here f) (chosen_same ops.names.strip others.known ops.known ts tail (known_there s t (libraries_in ops.names.strip ts tail) a)))
        (read_goes here e f (chosen_of ops.names.strip ops.known ts tail) (ops.ask qs s) (asked_fits ops others fits k s qs e f h) _ _ (λ o u hu. chosen_goes depth here e f o u hu))
    core_goes depth here e f IsSyntaxError ts tail s h = read_goes here e f (error_text_of ts tail) s h _ _ (λ text u hu. goes_fails ops others fits k here (SyntaxError text) u)
    core_goes depth here e f IsInclude ts tail s h = goes_fails ops others fits k here IncludeRefused s

    -- ---- any expression

    macro_goes : (depth : ℕ) (here : Here) (e f : E) (x : Target) (ts : Trees A) (tail : Tail A) (s : S) → fits s e f → (m : Meaning) (o : Option (Transformer E A)) → o ≡ ops.transformer s m
        → Gives s (macro_use F ops depth here e x o ts tail (ops.ask (RulesOf m ∷ []) s)) (λ t. macro_use G there depth here f x (others.transformer t m) ts tail (others.ask (RulesOf m ∷ []) t))
    macro_goes depth here e f x ts tail s h m None d =
        let qs = RulesOf m ∷ [] in
        comes_asked ops others fits k s qs qs ((any_ruled s m, refl), tt) _ (fails here BadForm) (λ t n a. ap (λ z. macro_use G there depth here f x z ts tail (others.ask qs t)) (by a.0)) (goes_fails ops others fits k here BadForm (ops.ask (RulesOf m ∷ []) s))
      where
        by : {z : Option (Transformer E A)} → TransformerLike (fits s) (ops.transformer s m) z → z ≡ None
        by {z} a = subst (λ (w : Option (Transformer E A)). TransformerLike (fits s) w z) (sym d) a
    macro_goes depth here e f x ts tail s h m (Some c) d =
        let qs = RulesOf m ∷ [] in
        let u = ops.ask qs s in
        let hu = asked_fits ops others fits k s qs e f h in
        let one = subst (IfMacro (λ (c : Transformer E A). (g : E) × fits s c.env g)) (sym d) (k.macro s e f h m) in
        comes_into ops others fits k s u _ (fits u c.env) one.0 (asked_fits ops others fits k s qs c.env one.0 one.1) (λ g t. macro_use G there depth here f x (Some (record { env = g; rules = c.rules })) ts tail t) (k.ask_back s qs) (k.ask_later s qs)
        (λ g z. bind_same ops others fits k u _ _ (use_goes ops others fits k here e f x c.env g c.rules ts tail u hu z)
        (λ i v a. let hv = still u v a e f hu in let w = meet_waiting ops e i.met v in
        meet_goes ops others fits k e f i.met v (G depth here f (whole i.tree)) hv (law depth here e f (whole i.tree) w (still v w (meet_later ops others fits k e i.met v) e f hv))))
        (λ t n a. let z = by (k.answered s t n qs a).0 in (z.0, asked_fits ops others fits k s qs c.env z.0 z.1, others.ask qs t, k.ask_near s t n qs qs ((any_ruled s m, refl), tt), ap (λ w. macro_use G there depth here f x w ts tail (others.ask qs t)) z.2))
      where
        by : {z : Option (Transformer E A)} → TransformerLike (fits s) (ops.transformer s m) z → TransformerLike (fits s) (Some c) z
        by {z} a = subst (λ (w : Option (Transformer E A)). TransformerLike (fits s) w z) (sym d) a

    -- the head was read; it is asked for in each case
    head_goes : (depth : ℕ) (here : Here) (e f : E) (c : Head) (n : Named A) (ts : Trees A) (tail : Tail A) (s : S) → fits s e f → c ≡ head_of ops e s n.name
        → Gives s (by_head F ops depth here e c n ts tail s) (λ t. by_head G there depth here f (head_of there f t n.name) n ts tail t)
    head_goes depth here e f (IsCore c) n ts tail s h d =
        let qs = Headed e n.name ∷ [] in let rs = Headed f n.name ∷ [] in
        let u = ops.ask qs s in let x = target_of ops e s n.name n.occ in let w = ops.meet x u in
        comes_asked ops others fits k s qs rs ((f, h, refl), tt) _ (λ t. core_form G there depth here f c ts tail (others.meet x t))
        (λ t z a. let b = a.0 f h in ap (λ y. by_head G there depth here f y n ts tail t) (b.1 ∙ sym d) ∙ (let p = b.0 in λ j. core_form G there depth here f c ts tail (others.meet (record { meaning = p j; ident = ops.plain n.name; occ = n.occ }) (others.ask rs t))))
        (comes_after ops others fits k u w (core_form G there depth here f c ts tail) (others.meet x) (k.meet_back u x) (k.meet_later u x) (λ t z. k.meet_near u t z x)
        (core_goes depth here e f c ts tail w (still u w (k.meet_later u x) e f (asked_fits ops others fits k s qs e f h))))
    head_goes depth here e f (IsAuxiliary c) n ts tail s h d =
        let qs = Headed e n.name ∷ [] in let rs = Headed f n.name ∷ [] in
        comes_asked ops others fits k s qs rs ((f, h, refl), tt) _ (call G there depth here f (tree (name n.name n.occ) ts) tail) (λ t w a. ap (λ z. by_head G there depth here f z n ts tail t) ((a.0 f h).1 ∙ sym d))
        (call_goes depth here e f (tree (name n.name n.occ) ts) tail (ops.ask qs s) (asked_fits ops others fits k s qs e f h))
    head_goes depth here e f (IsMacro m) n ts tail s h d =
        let qs = Headed e n.name ∷ [] in let rs = Headed f n.name ∷ [] in
        let u = ops.ask qs s in let x = target_of ops e s n.name n.occ in
        comes_asked ops others fits k s qs rs ((f, h, refl), tt) _ (λ t. macro_use G there depth here f x (others.transformer t m) ts tail (others.ask (RulesOf m ∷ []) t))
        (λ t w a. let b = a.0 f h in ap (λ z. by_head G there depth here f z n ts tail t) (b.1 ∙ sym d) ∙ (let p = b.0 in λ j. macro_use G there depth here f (record { meaning = p j; ident = ops.plain n.name; occ = n.occ }) (others.transformer (others.ask rs t) m) ts tail (others.ask (RulesOf m ∷ []) (others.ask rs t))))
        (macro_goes depth here e f x ts tail u (asked_fits ops others fits k s qs e f h) m (ops.transformer u m) refl)
    head_goes depth here e f IsNone n ts tail s h d =
        let qs = Headed e n.name ∷ [] in let rs = Headed f n.name ∷ [] in
        comes_asked ops others fits k s qs rs ((f, h, refl), tt) _ (call G there depth here f (tree (name n.name n.occ) ts) tail) (λ t w a. ap (λ z. by_head G there depth here f z n ts tail t) ((a.0 f h).1 ∙ sym d))
        (call_goes depth here e f (tree (name n.name n.occ) ts) tail (ops.ask qs s) (asked_fits ops others fits k s qs e f h))

    expression_goes : (depth : ℕ) (here : Here) (e f : E) (t : Tree A) (s : S) → fits s e f → Gives s (expression F ops depth here e t s) (expression G there depth here f t)
    expression_goes depth here e f (name i o) s h = reference_goes depth here e f (named i o) s h
    expression_goes depth here e f (atom a o) s h = node_goes here 2 depth s _ _ (λ below u b. goes_same ops others fits k u (Const a))
    expression_goes depth here e f (vector ts o) s h = quote_goes depth here (vector ts o) s
    expression_goes depth here e f (list no_trees tail o) s h = goes_fails ops others fits k here BadForm s
    expression_goes depth here e f (list (tree (name i q) ts) tail o) s h = head_goes depth here e f (head_of ops e s i) (named i q) ts tail s h refl
    expression_goes depth here e f (list (tree (atom a q) ts) tail o) s h = call_goes depth here e f (tree (atom a q) ts) tail s h
    expression_goes depth here e f (list (tree (list us end q) ts) tail o) s h = call_goes depth here e f (tree (list us end q) ts) tail s h
    expression_goes depth here e f (list (tree (vector us q) ts) tail o) s h = call_goes depth here e f (tree (vector us q) ts) tail s h

  -- any task, within the same turns
  pub expand_goes : (turns : ℕ) → ExpandsAlike (expand ops turns) (expand there turns)
  expand_goes zero depth here e f t s h = goes_fails ops others fits k here OutOfTurns s
  expand_goes (suc turns) depth here e f (whole t) s h = expression_goes (expand ops turns) (expand there turns) (expand_goes turns) depth (here_at ops.plain t here) e f t s h
  expand_goes (suc turns) depth here e f (body ts) s h = body_goes (expand ops turns) (expand there turns) (expand_goes turns) turns depth here e f ts s h
