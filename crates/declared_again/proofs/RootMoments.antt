-- While a form is gone through, nothing is inside a body: all that it makes and finds is at the root of its unit.
use Rattle.std.proofs.Common.{◌≡◌, ℕ, zero, suc, ◌+◌, ◌-◌, List, [], ◌∷◌, ◌++◌, append_assoc, map, Bool, true, false, Option, Some, None, Result, Ok, Err, refl, sym, subst}
use Rattle.std.specs.Prelude.{if◌then◌else◌, nat_le}
use Rattle.scheme_model.specs.Identifiers.{Number}
use Rattle.scheme_model.specs.Ident.{Ident}
use Rattle.scheme_model.specs.Keywords.{CoreKeyword, IsQuote, IsQuasiquote, IsLambda, IsCaseLambda, IsIf, IsSet, IsBegin, IsDefine, IsDefineValues, IsDefineRecordType, IsDefineSyntax, IsLetSyntax, IsLetrecSyntax, IsCondExpand, IsSyntaxError, IsInclude}
use Rattle.scheme_model.specs.Trees.{Tree, name, atom, list, vector, Trees, no_trees, tree, Tail, map_tree}
use Rattle.scheme_model.specs.Measures.{tree_size}
use Rattle.scheme_model.specs.ExpansionFaults.{Named, named_map, Fault, NodeBudget, UseBudget, BadForm}
use Rattle.scheme_model.specs.Meaning.{Head, IsCore, IsAuxiliary, IsMacro, IsNone, is_keyword, same_meaning}
use Rattle.scheme_model.specs.Shapes.{Formals, Clause, DefinitionShape, Variable, Procedure, RecordShape, proper_of, definition_of, values_of, record_of, syntax_of}
use Rattle.scheme_model.specs.RulesShape.{Rules, rules_of}
use Rattle.scheme_model.specs.Matching.{Chosen, matcher, first_match}
use Rattle.scheme_model.specs.Building.{build}
use Rattle.scheme_model.specs.Requirements.{chosen_of, libraries_in}
use Rattle.scheme_model.specs.Cores.{Target, LocalNumber}
use Rattle.scheme_model.specs.Steps.{Broken, Step, done, fails, ◌>>=◌}
use Rattle.scheme_model.specs.Order.{Here, Form, Expression, Value, Function, Assigned, AssignedFunction, ValuesOf, Record, Macro, Note, LookedUp, Pending, Pass, Going, Transformer, Asked, Headed, RulesOf, Assigns, Library, Ops, head_of, target_of, here_at, forms_at, told, has_use, used, use_of, compared_asked, comparisons, counting, given, is_rules, RulesParts, rules_parts, rules_parts_of, rules_note, rules_at, max_nodes, fields_bound, binder_at, put, waiting, noted, first, define_all, define_names, record_names, record_part, caught, run_variable, run_function, run_define, run_values, run_record, run_syntax, splice, or_none, read_then, run_core, run_use, run_head, run_form, run_next, run}
use Rattle.scheme_model.specs.UnitExpansion.{one_form}
use Rattle.scheme_model.specs.ScopedExpansion.{Frames, FramedIdent}
use Rattle.scheme_model.specs.Questions.{Moment, Question, Around, Defines, Outcome, Stands, Redefines, StoodBefore, outcome, dated, in_unit, ended, beside, Asking, asking}
use Rattle.scheme_model.specs.FormsAlike.{set_aside_asking, no_questions}
use Rattle.scheme_model.specs.Meaning.{Meaning, Local, Global, Standard, Free, same_meaning as alike_meanings}
use Rattle.scheme_model.specs.ScopedExpansion.{ScopedMacro, macro_at}
use Rattle.scheme_model.specs.OwnAnswers.{own_macro}
use Rattle.scheme_model.specs.Questions.{at_moment, own_at, left_to_ask, all_left}
use Rattle.form_laws.specs.Begins.{Each}
use Rattle.model_laws.proofs.FrameHeads.{IfMacro}
use Rattle.declared_again.specs.Endings.{AtRoot}

abbrev MacrosAtRoot : List ScopedMacro → Type 0
MacrosAtRoot ks = Each (λ (k : ScopedMacro). k.frames ≡ []) ks

abbrev InRoot : Option (Transformer Frames Ident) → Type 0
InRoot o = IfMacro (λ (m : Transformer Frames Ident). m.env ≡ []) o

macro_if : (b : Bool) (k : ScopedMacro) (o : Option (Transformer Frames Ident)) → k.frames ≡ [] → InRoot o → InRoot (if b then Some (record { env = k.frames; rules = k.rules }) else o)
macro_if true k o e h = e
macro_if false k o e h = h

macro_in_root : (ks : List ScopedMacro) (m : Meaning) → MacrosAtRoot ks → InRoot (macro_at ks m)
macro_in_root [] m h = tt
macro_in_root (k ∷ ks) m h = macro_if (alike_meanings k.meaning m) k (macro_at ks m) h.0 (macro_in_root ks m h.1)

both_at_root : (ks ls : List ScopedMacro) → MacrosAtRoot ks → MacrosAtRoot ls → MacrosAtRoot (ks ++ ls)
both_at_root [] ls h k = k
both_at_root (x ∷ ks) ls h k = (h.0, both_at_root ks ls h.1 k)

module _ (w : Around) (around : MacrosAtRoot w.state.macros) where
  abbrev here : Ops Frames Ident FramedIdent Asking
  here = asking w

  own_in_root : (n : Moment) (m : Meaning) → AtRoot n → InRoot (own_macro (own_at n) (at_moment w n) m)
  own_in_root n (Local v) h = macro_in_root n.macros (Local v) h.1
  own_in_root n (Global u i) h = macro_in_root (n.macros ++ w.state.macros) (Global u i) (both_at_root n.macros w.state.macros h.1 around)
  own_in_root n (Standard x) h = macro_in_root (n.macros ++ w.state.macros) (Standard x) (both_at_root n.macros w.state.macros h.1 around)
  own_in_root n (Free x) h = macro_in_root (n.macros ++ w.state.macros) (Free x) (both_at_root n.macros w.state.macros h.1 around)

  -- the state is at the root, and so was each question
  abbrev pub Root : Asking → Type 0
  Root s = AtRoot s.moment × Each (λ (q : Moment × Question). AtRoot q.0) s.asked

  dated_root : (n : Moment) (qs : List Question) (rest : List (Moment × Question)) → AtRoot n → Each (λ (q : Moment × Question). AtRoot q.0) rest → Each (λ (q : Moment × Question). AtRoot q.0) (dated n qs ++ rest)
  dated_root n [] rest h k = k
  dated_root n (q ∷ qs) rest h k = (h, dated_root n qs rest h k)

  asked_root : (n : Moment) (qs : List (Asked Frames Ident)) (rest : List (Moment × Question)) → AtRoot n → Each (λ (q : Moment × Question). AtRoot q.0) rest → Each (λ (q : Moment × Question). AtRoot q.0) (all_left n qs ++ rest)
  asked_root n [] rest h k = k
  asked_root n (q ∷ qs) rest h k =
      subst (Each (λ (x : Moment × Question). AtRoot x.0)) (sym (append_assoc (dated n (left_to_ask n q)) (all_left n qs) rest)) (dated_root n (left_to_ask n q) (all_left n qs ++ rest) h (asked_root n qs rest h k))

  ask_root : (qs : List (Asked Frames Ident)) (s : Asking) → Root s → Root (here.ask qs s)
  ask_root qs s h = (h.0, asked_root s.moment qs s.asked h.0 h.1)

  -- ---- steps

  abbrev Keeps : {X : Type 0} → Asking → X × Asking → Type 0
  Keeps s q = Root s → Root q.1

  bind_keeps : {V Y : Type 0} (s : Asking) (r : Result V Broken) (u : Asking) (f : V → Step Asking Y) → (Root s → Root u) → ((v : V) (t : Asking) → Keeps t (f v t)) → Keeps s ((r, u) >>= f)
  bind_keeps s (Ok v) u f h next a = next v u (h a)
  bind_keeps s (Err e) u f h next a = h a

  counting_keeps : (at : Here) (n : ℕ) (s : Asking) → Keeps s (counting here at n s)
  counting_keeps at n s = go (nat_le ((here.counted s).nodes + n) max_nodes)
    where
      go : (b : Bool) → Keeps {X = Result (Unit {0}) Broken} s (if b then done tt (here.spend n s) else fails at NodeBudget s)
      go true h = h
      go false h = h

  given_keeps : {V : Type 0} (at : Here) (r : Result V (Fault Ident)) (s : Asking) → Keeps s (given here.plain at r s)
  given_keeps at (Ok v) s h = h
  given_keeps at (Err e) s h = h

  parts_keeps : (at : Here) (o : Option (RulesParts Ident)) (s : Asking) → Keeps s (rules_parts here at [] o s)
  parts_keeps at None s = λ h. h
  parts_keeps at (Some r) s = go (is_rules (head_of here [] s r.head))
    where
      go : (b : Bool) → let t = here.ask (Headed [] r.head ∷ []) s in Keeps s (if b then done r t else fails at BadForm t)
      go true h = ask_root (Headed [] r.head ∷ []) s h
      go false h = ask_root (Headed [] r.head ∷ []) s h

  rules_keeps : (at : Here) (t : Tree Ident) (r : RulesParts Ident) (s : Asking) → Keeps s (rules_at here at t r s)
  rules_keeps at t r s =
      let q = counting here at (tree_size t) s in
      bind_keeps s q.0 q.1 (λ u. given here.plain at (rules_of here.names r.parts r.tail)) (counting_keeps at (tree_size t) s) (λ v u. given_keeps at (rules_of here.names r.parts r.tail) u)

  fields_keeps : (ns : List (Named Ident)) (s : Asking) → Keeps s (fields_bound here ns s)
  fields_keeps [] s = λ h. h
  fields_keeps (n ∷ ns) s =
      let q = fields_bound here ns (here.take_local s) in
      bind_keeps s q.0 q.1 (λ bs. done (record { bound = LocalNumber (here.next_local s); ident = here.plain n.name; occ = n.occ } ∷ bs)) (fields_keeps ns (here.take_local s)) (λ v u h. h)

  used_keeps : (at : Here) (k : Target) (m : Transformer Frames Ident) (n : Number) (o : Option (Chosen Ident Ident)) (s : Asking) → Keeps s (used here at k m n o s)
  used_keeps at k m n None s = λ h. h
  used_keeps at k m n (Some c) s =
      let r = build here.names m.rules (λ i. here.insert i n) c.rule.template c.match.bindings (max_nodes - (here.counted s).nodes) in
      let q = given here.plain at r s in
      bind_keeps s q.0 q.1 (λ b t. done (record { tree = b.value; met = record { keyword = k; literals = c.match.met } }) (here.spend b.count t)) (given_keeps at r s) (λ v u h. h)

  use_keeps : (at : Here) (k : Target) (m : Transformer Frames Ident) → m.env ≡ [] → (ts : Trees Ident) (tail : Tail Ident) (s : Asking) → Keeps s (use_of here at [] k m ts tail s)
  use_keeps at k m root ts tail s = go (has_use here s)
    where
      go : (b : Bool) → Keeps s (if b then used here at k m (here.next_use s) (first_match (matcher here.names m.rules (λ l j. same_meaning (here.means m.env s l) (here.means [] s j))) m.rules.rules ts tail) (here.begin_use m.env (here.ask (compared_asked here [] m ts tail) s)) else fails at UseBudget s)
      go true h =
          used_keeps at k m (here.next_use s) (first_match (matcher here.names m.rules (λ l j. same_meaning (here.means m.env s l) (here.means [] s j))) m.rules.rules ts tail) (here.begin_use m.env (here.ask (compared_asked here [] m ts tail) s))
          (let a = ask_root (compared_asked here [] m ts tail) s h in (((root, a.0.0), a.0.1, a.0.2), a.1))
      go false h = h

  define_keeps : (at : Here) (x : Named Ident) (r : Option (Rules Ident)) (p : Pending Ident FramedIdent) (s : Asking) → Keeps s (told at (here.define x r [] p s))
  define_keeps at x r p s = go r (outcome w s.moment None [] x r p.notes)
    where
      go : (r2 : Option (Rules Ident)) (o : Outcome) → Keeps s (told at (beside (dated s.moment (in_unit None (Defines [] x r p.notes)) ++ s.asked) (ended o w None x r2 [] p s.moment)))
      go r2 Redefines h = (h.0, (h.0, h.1))
      go r2 StoodBefore h = (h.0, (h.0, h.1))
      go None Stands h = (h.0, (h.0, h.1))
      go (Some q) Stands h = ((h.0.0, (refl, h.0.1), h.0.2), (h.0, h.1))

  all_keep : (at : Here) (f : Ident → Ident) (ns : List (Named Ident)) (p : Pending Ident FramedIdent) (s : Asking) → Keeps s (define_all here at [] f ns p s)
  all_keep at f [] p s = λ h. h
  all_keep at f (n ∷ ns) p s =
      let x = named_map f n in
      let q = told at (here.define x None [] p s) in
      bind_keeps s q.0 q.1 _ (define_keeps at x None p s)
      (λ d t. let z = define_all here at [] (λ i. d.rename (f i)) ns d.pending t in bind_keeps t z.0 z.1 _ (all_keep at (λ i. d.rename (f i)) ns d.pending t) (λ m u h. h))

  -- ---- the forms

  abbrev Pass2 : Type 0
  Pass2 = Pass Ident FramedIdent × Asking

  caught_keeps : {V : Type 0} (ns : List (Note FramedIdent)) (s : Asking) (r : Result V Broken) (u : Asking) (f : V → Asking → Pass2) → (Root s → Root u) → ((v : V) (t : Asking) → Keeps t (f v t)) → Keeps s (caught ns (r, u) f)
  caught_keeps ns s (Ok v) u f e next h = next v u (e h)
  caught_keeps ns s (Err x) u f e next h = e h

  abbrev GoesOn : Going Ident FramedIdent Asking → Type 0
  GoesOn go = (p : Pending Ident FramedIdent) (s : Asking) → Keeps s (go p s)

  module _ (go : Going Ident FramedIdent Asking) (law : GoesOn go) (at : Here) where
    variable_keeps : (n : Named Ident) (t : Tree Ident) (b : Bool) (p : Pending Ident FramedIdent) (s : Asking) → Keeps s (run_variable here go at [] n t b p s)
    variable_keeps n t true p s = law (put (Assigned n (record { here = at; tree = t })) p) s
    variable_keeps n t false p s =
        let p2 = put (Value (binder_at here [] s n) (record { here = at; tree = t })) p in
        let q = told at (here.define n None [] p2 s) in
        caught_keeps p.notes s q.0 q.1 (λ d. go d.pending) (define_keeps at n None p2 s) (λ d u. law d.pending u)

    function_keeps : (n : Named Ident) (c : Clause Ident) (b : Bool) (p : Pending Ident FramedIdent) (s : Asking) → Keeps s (run_function here go at [] n c b p s)
    function_keeps n c true p s = law (put (AssignedFunction n at c) p) s
    function_keeps n c false p s =
        let p2 = put (Function (binder_at here [] s n) at c) p in
        let q = told at (here.define n None [] p2 s) in
        caught_keeps p.notes s q.0 q.1 (λ d. go d.pending) (define_keeps at n None p2 s) (λ d u. law d.pending u)

    definition_keeps : (d : DefinitionShape Ident) (p : Pending Ident FramedIdent) (s : Asking) → Keeps s (run_define here go at [] p d s)
    definition_keeps (Variable n t) p s = λ h. variable_keeps n t (here.is_assigned [] s n.name) p (here.ask (Assigns [] n.name ∷ []) s) (ask_root (Assigns [] n.name ∷ []) s h)
    definition_keeps (Procedure n c) p s = λ h. function_keeps n c (here.is_assigned [] s n.name) p (here.ask (Assigns [] n.name ∷ []) s) (ask_root (Assigns [] n.name ∷ []) s h)

    values_keep : (d : Formals Ident × Tree Ident) (p : Pending Ident FramedIdent) (s : Asking) → Keeps s (run_values here go at [] p d s)
    values_keep d p s =
        let q = define_names here at [] d.0.names p s in
        caught_keeps p.notes s q.0 q.1 _ (all_keep at (λ i. i) d.0.names p s)
        (λ r u. law (put (ValuesOf (record { names = r.0; rest = d.0.rest }) (record { here = at; tree = map_tree r.1.rename d.1 })) r.1.pending) u)

    record_keeps : (d : RecordShape Ident) (p : Pending Ident FramedIdent) (s : Asking) → Keeps s (run_record here go at [] p d s)
    record_keeps d p s =
        let fs = map (λ f. f.field) d.fields in
        let q = fields_bound here fs s in
        let made = bind_keeps s q.0 q.1 (λ bs t. define_names here at [] (record_names d) p t >>= λ r. done (bs, r)) (fields_keeps fs s)
        (λ bs t. let z = define_names here at [] (record_names d) p t in bind_keeps t z.0 z.1 (λ r. done (bs, r)) (all_keep at (λ i. i) (record_names d) p t) (λ r u h. h)) in
        let x = q >>= λ bs t. define_names here at [] (record_names d) p t >>= λ r. done (bs, r) in
        caught_keeps p.notes s x.0 x.1 _ made (λ r u. law (put (Record (record_part here.names.same d r.1.0 r.0)) r.1.1.pending) u)

    syntax_keeps : (d : Named Ident × Tree Ident) (p : Pending Ident FramedIdent) (s : Asking) → Keeps s (run_syntax here go at [] p d s)
    syntax_keeps d p s =
        let o = rules_parts_of d.1 in
        let q = noted (rules_note here [] s o) p in
        let a = rules_parts here at [] o s in
        let x = a >>= λ r t0. rules_at here at d.1 r t0 >>= λ rules t. told at (here.define d.0 (Some rules) [] q t) >>= λ made. done (binder_at here [] t d.0, made.pending) in
        let made = bind_keeps s a.0 a.1 _ (parts_keeps at o s)
        (λ r t0. let b = rules_at here at d.1 r t0 in bind_keeps t0 b.0 b.1 _ (rules_keeps at d.1 r t0)
        (λ rules t. let z = told at (here.define d.0 (Some rules) [] q t) in bind_keeps t z.0 z.1 (λ made. done (binder_at here [] t d.0, made.pending)) (define_keeps at d.0 (Some rules) q t) (λ e i h. h))) in
        caught_keeps q.notes s x.0 x.1 _ made (λ r u. law (put (Macro r.0 at) r.1) u)

    splice_keeps : (ts : Trees Ident) (p : Pending Ident FramedIdent) (s : Asking) → Keeps s (splice here go at p ts s)
    splice_keeps ts p s = let q = counting here at 1 s in caught_keeps p.notes s q.0 q.1 _ (counting_keeps at 1 s) (λ v t. law (first (forms_at at ts) p) t)

    read_keeps : {V : Type 0} (p : Pending Ident FramedIdent) (r : Result V (Fault Ident)) (f : V → Asking → Pass2) (s : Asking) → ((v : V) (t : Asking) → Keeps t (f v t)) → Keeps s (read_then here at p r f s)
    read_keeps p r f s next = let q = given here.plain at r s in caught_keeps p.notes s q.0 q.1 f (given_keeps at r s) next

    core_keeps : (c : CoreKeyword) (k : Target) (form : Form Ident) (ts : Trees Ident) (tail : Tail Ident) (p : Pending Ident FramedIdent) (s : Asking) → Keeps s (run_core here go at [] c k form ts tail p s)
    core_keeps IsQuote k form ts tail p s = law (put (Expression form) p) s
    core_keeps IsQuasiquote k form ts tail p s = law (put (Expression form) p) s
    core_keeps IsLambda k form ts tail p s = law (put (Expression form) p) s
    core_keeps IsCaseLambda k form ts tail p s = law (put (Expression form) p) s
    core_keeps IsIf k form ts tail p s = law (put (Expression form) p) s
    core_keeps IsSet k form ts tail p s = law (put (Expression form) p) s
    core_keeps IsBegin k form ts tail p s = read_keeps p (proper_of ts tail) (splice here go at p) (here.meet k s) (λ v t. splice_keeps v p t)
    core_keeps IsDefine k form ts tail p s = read_keeps p (definition_of here.names.same ts tail) (run_define here go at [] p) (here.meet k s) (λ v t. definition_keeps v p t)
    core_keeps IsDefineValues k form ts tail p s = read_keeps p (values_of here.names.same ts tail) (run_values here go at [] p) (here.meet k s) (λ v t. values_keep v p t)
    core_keeps IsDefineRecordType k form ts tail p s = read_keeps p (record_of here.names.same ts tail) (run_record here go at [] p) (here.meet k s) (λ v t. record_keeps v p t)
    core_keeps IsDefineSyntax k form ts tail p s = read_keeps p (syntax_of ts tail) (run_syntax here go at [] p) (here.meet k s) (λ v t. syntax_keeps v p t)
    core_keeps IsLetSyntax k form ts tail p s = law (put (Expression form) p) s
    core_keeps IsLetrecSyntax k form ts tail p s = law (put (Expression form) p) s
    core_keeps IsCondExpand k form ts tail p s = λ h. read_keeps p (chosen_of here.names.strip here.known ts tail) (λ c. splice here go at p (or_none c)) (here.ask (map Library (libraries_in here.names.strip ts tail)) (here.meet k s)) (λ v t. splice_keeps (or_none v) p t) (ask_root (map Library (libraries_in here.names.strip ts tail)) (here.meet k s) h)
    core_keeps IsSyntaxError k form ts tail p s = law (put (Expression form) p) s
    core_keeps IsInclude k form ts tail p s = law (put (Expression form) p) s

    use_then : (k : Target) (o : Option (Transformer Frames Ident)) → InRoot o → (form : Form Ident) (ts : Trees Ident) (tail : Tail Ident) (p : Pending Ident FramedIdent) (s : Asking) → Keeps s (run_use here go at [] k o form ts tail p s)
    use_then k None root form ts tail p s = law (put (Expression form) p) s
    use_then k (Some m) root form ts tail p s =
        let q = noted (comparisons here [] m ts tail s) p in
        let x = use_of here at [] k m ts tail s in
        caught_keeps q.notes s x.0 x.1 _ (use_keeps at k m root ts tail s) (λ i t. law (first (record { here = at; tree = i.tree } ∷ []) (waiting i.met q)) t)

    head_keeps : (d : Head) (k : Target) (form : Form Ident) (ts : Trees Ident) (tail : Tail Ident) (p : Pending Ident FramedIdent) (s : Asking) → Keeps s (run_head here go at [] d k form ts tail p s)
    head_keeps (IsCore c) k form ts tail p s = core_keeps c k form ts tail p s
    head_keeps (IsAuxiliary a) k form ts tail p s = law (put (Expression form) p) s
    head_keeps (IsMacro m) k form ts tail p s = λ h. use_then k (here.transformer s m) (own_in_root s.moment m h.0) form ts tail p (here.ask (RulesOf m ∷ []) s) (ask_root (RulesOf m ∷ []) s h)
    head_keeps IsNone k form ts tail p s = law (put (Expression form) p) s

    form_keeps : (form : Form Ident) (t : Tree Ident) (p : Pending Ident FramedIdent) (s : Asking) → Keeps s (run_form here go [] at form t p s)
    form_keeps form (name i o) p s = law (put (Expression form) p) s
    form_keeps form (atom a o) p s = law (put (Expression form) p) s
    form_keeps form (vector ts o) p s = law (put (Expression form) p) s
    form_keeps form (list no_trees tail o) p s = law (put (Expression form) p) s
    form_keeps form (list (tree (name i q) ts) tail o) p s =
        let n = LookedUp (here.place [] i) true (is_keyword (head_of here [] s i)) in
        λ h. head_keeps (head_of here [] s i) (target_of here [] s i q) form ts tail (noted (n ∷ []) p) (here.ask (Headed [] i ∷ []) s) (ask_root (Headed [] i ∷ []) s h)
    form_keeps form (list (tree (atom a q) ts) tail o) p s = law (put (Expression form) p) s
    form_keeps form (list (tree (list us end q) ts) tail o) p s = law (put (Expression form) p) s
    form_keeps form (list (tree (vector us q) ts) tail o) p s = law (put (Expression form) p) s

  next_keeps : (go : Going Ident FramedIdent Asking) → GoesOn go → (todo : List (Form Ident)) (p : Pending Ident FramedIdent) (s : Asking) → Keeps s (run_next here go [] todo p s)
  next_keeps go law [] p s = λ h. h
  next_keeps go law (f ∷ fs) p s = form_keeps go law (here_at here.plain f.tree f.here) f f.tree (record p { todo = fs }) s

  run_keeps : (turns : ℕ) → GoesOn (run here turns [])
  run_keeps zero p s = λ h. h
  run_keeps (suc turns) p s = next_keeps (run here turns []) (run_keeps turns) p.todo p s

  pub stays_at_root : (turns : ℕ) (t : Tree Ident) → Root (set_aside_asking w turns t).1
  stays_at_root turns t = run_keeps turns (one_form t []) (no_questions w) ((tt, tt, refl), tt)
