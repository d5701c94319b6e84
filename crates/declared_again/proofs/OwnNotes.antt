-- A form's notes grow while it is gone through: each of its definitions is made in view of those by then.
use Rattle.std.proofs.Common.{◌≡◌, ℕ, zero, suc, ◌+◌, ◌-◌, List, [], ◌∷◌, ◌++◌, append_assoc, map, Bool, true, false, Option, Some, None, Result, Ok, Err, refl, sym, ap, ◌∙◌, subst}
use Rattle.std.specs.Prelude.{if◌then◌else◌, nat_le}
use Rattle.scheme_model.specs.Identifiers.{Number}
use Rattle.scheme_model.specs.Ident.{Ident}
use Rattle.scheme_model.specs.Keywords.{CoreKeyword, IsQuote, IsQuasiquote, IsLambda, IsCaseLambda, IsIf, IsSet, IsBegin, IsDefine, IsDefineValues, IsDefineRecordType, IsDefineSyntax, IsLetSyntax, IsLetrecSyntax, IsCondExpand, IsSyntaxError, IsInclude}
use Rattle.scheme_model.specs.Trees.{Tree, name, atom, list, vector, Trees, no_trees, tree, Tail, map_tree}
use Rattle.scheme_model.specs.Measures.{tree_size}
use Rattle.scheme_model.specs.ExpansionFaults.{Named, named_map, Fault, NodeBudget, UseBudget, BadForm}
use Rattle.scheme_model.specs.Meaning.{Head, IsCore, IsAuxiliary, IsMacro, IsNone, is_keyword, same_meaning}
use Rattle.scheme_model.specs.Shapes.{Formals, Clause, DefinitionShape, Variable, Procedure, RecordShape, proper_of, definition_of, values_of, record_of, syntax_of}
use Rattle.scheme_model.specs.RulesShape.{Rules, rules_of}
use Rattle.scheme_model.specs.Matching.{Chosen, matcher, first_match}
use Rattle.scheme_model.specs.Building.{build}
use Rattle.scheme_model.specs.Requirements.{chosen_of, libraries_in}
use Rattle.scheme_model.specs.Cores.{Target, Binder, LocalNumber}
use Rattle.scheme_model.specs.Steps.{Broken, Step, done, fails, ◌>>=◌}
use Rattle.scheme_model.specs.Order.{Here, Form, Expression, Value, Function, Assigned, AssignedFunction, ValuesOf, Record, Macro, Note, LookedUp, Pending, Renamed, Pass, Going, Transformer, Asked, Headed, RulesOf, Assigns, Library, Ops, head_of, target_of, here_at, forms_at, told, has_use, used, use_of, compared_asked, comparisons, counting, given, is_rules, RulesParts, rules_parts, rules_parts_of, rules_note, rules_at, max_nodes, fields_bound, binder_at, put, waiting, noted, first, define_all, define_names, record_names, record_part, caught, run_variable, run_function, run_define, run_values, run_record, run_syntax, splice, or_none, read_then, run_core, run_use, run_head, run_form, run_next, run}
use Rattle.scheme_model.specs.UnitExpansion.{one_form}
use Rattle.scheme_model.specs.ScopedExpansion.{Frames, FramedIdent}
use Rattle.scheme_model.specs.Questions.{Around, Defines, Outcome, Stands, Redefines, StoodBefore, outcome, dated, in_unit, ended, beside, Asking, asking}
use Rattle.scheme_model.specs.FormsAlike.{set_aside_asking, no_questions}
use Rattle.declared_again.specs.Endings.{Ending, endings, MadeInOrder}
use Rattle.declared_again.proofs.EndingSides.{asked_none}

abbrev Notes : Type 0
Notes = List (Note FramedIdent)

grow_more : (es : List Ending) (more ns : Notes) → MadeInOrder es ns → MadeInOrder es (more ++ ns)
grow_more [] more ns h = tt
grow_more (e ∷ es) more ns h = (h.0, (more ++ h.1.0, ap (λ (xs : Notes). more ++ xs) h.1.1 ∙ sym (append_assoc more h.1.0 e.notes)), h.2)

module _ (w : Around) where
  abbrev here : Ops Frames Ident FramedIdent Asking
  here = asking w

  abbrev made_by : Asking → List Ending
  made_by s = endings s.asked

  -- ---- steps that make no definition

  abbrev Quiet : {X : Type 0} → Asking → X × Asking → Type 0
  Quiet s q = made_by q.1 ≡ made_by s

  bind_quiet : {V Y : Type 0} (s : Asking) (r : Result V Broken) (u : Asking) (f : V → Step Asking Y) → made_by u ≡ made_by s → ((v : V) (t : Asking) → Quiet t (f v t)) → Quiet s ((r, u) >>= f)
  bind_quiet s (Ok v) u f h next = next v u ∙ h
  bind_quiet s (Err e) u f h next = h

  counting_quiet : (at : Here) (n : ℕ) (s : Asking) → Quiet s (counting here at n s)
  counting_quiet at n s = go (nat_le ((here.counted s).nodes + n) max_nodes)
    where
      go : (b : Bool) → Quiet {X = Result (Unit {0}) Broken} s (if b then done tt (here.spend n s) else fails at NodeBudget s)
      go true = refl
      go false = refl

  given_quiet : {V : Type 0} (at : Here) (r : Result V (Fault Ident)) (s : Asking) → Quiet s (given here.plain at r s)
  given_quiet at (Ok v) s = refl
  given_quiet at (Err e) s = refl

  parts_quiet : (at : Here) (o : Option (RulesParts Ident)) (s : Asking) → Quiet s (rules_parts here at [] o s)
  parts_quiet at None s = refl
  parts_quiet at (Some r) s = go (is_rules (head_of here [] s r.head))
    where
      go : (b : Bool) → let t = here.ask (Headed [] r.head ∷ []) s in Quiet s (if b then done r t else fails at BadForm t)
      go true = asked_none s.moment (Headed [] r.head ∷ []) s.asked
      go false = asked_none s.moment (Headed [] r.head ∷ []) s.asked

  rules_quiet : (at : Here) (t : Tree Ident) (r : RulesParts Ident) (s : Asking) → Quiet s (rules_at here at t r s)
  rules_quiet at t r s =
      let q = counting here at (tree_size t) s in
      bind_quiet s q.0 q.1 (λ u. given here.plain at (rules_of here.names r.parts r.tail)) (counting_quiet at (tree_size t) s) (λ v u. given_quiet at (rules_of here.names r.parts r.tail) u)

  fields_quiet : (ns : List (Named Ident)) (s : Asking) → Quiet s (fields_bound here ns s)
  fields_quiet [] s = refl
  fields_quiet (n ∷ ns) s =
      let q = fields_bound here ns (here.take_local s) in
      bind_quiet s q.0 q.1 (λ bs. done (record { bound = LocalNumber (here.next_local s); ident = here.plain n.name; occ = n.occ } ∷ bs)) (fields_quiet ns (here.take_local s)) (λ v u. refl)

  used_quiet : (at : Here) (k : Target) (m : Transformer Frames Ident) (n : Number) (o : Option (Chosen Ident Ident)) (s : Asking) → Quiet s (used here at k m n o s)
  used_quiet at k m n None s = refl
  used_quiet at k m n (Some c) s =
      let q = given here.plain at (build here.names m.rules (λ i. here.insert i n) c.rule.template c.match.bindings (max_nodes - (here.counted s).nodes)) s in
      bind_quiet s q.0 q.1 (λ b t. done (record { tree = b.value; met = record { keyword = k; literals = c.match.met } }) (here.spend b.count t))
      (given_quiet at (build here.names m.rules (λ i. here.insert i n) c.rule.template c.match.bindings (max_nodes - (here.counted s).nodes)) s) (λ v u. refl)

  use_quiet : (at : Here) (k : Target) (m : Transformer Frames Ident) (ts : Trees Ident) (tail : Tail Ident) (s : Asking) → Quiet s (use_of here at [] k m ts tail s)
  use_quiet at k m ts tail s = go (has_use here s)
    where
      go : (b : Bool) → Quiet s (if b then used here at k m (here.next_use s) (first_match (matcher here.names m.rules (λ l j. same_meaning (here.means m.env s l) (here.means [] s j))) m.rules.rules ts tail) (here.begin_use m.env (here.ask (compared_asked here [] m ts tail) s)) else fails at UseBudget s)
      go true =
          used_quiet at k m (here.next_use s) (first_match (matcher here.names m.rules (λ l j. same_meaning (here.means m.env s l) (here.means [] s j))) m.rules.rules ts tail) (here.begin_use m.env (here.ask (compared_asked here [] m ts tail) s))
          ∙ asked_none s.moment (compared_asked here [] m ts tail) s.asked
      go false = refl

  -- ---- definitions

  -- made in view of these notes, which are still there
  abbrev NotesOf : {V : Type 0} → (V → Notes) → Notes → Result V Broken → Type 0
  NotesOf f ns (Ok v) = f v ≡ ns
  NotesOf f ns (Err e) = Unit {0}

  abbrev MadeIn : {V : Type 0} → (V → Notes) → Notes → Result V Broken × Asking → Type 0
  MadeIn f ns q = NotesOf f ns q.0 × MadeInOrder (made_by q.1) ns

  define_grows : (at : Here) (x : Named Ident) (r : Option (Rules Ident)) (p : Pending Ident FramedIdent) (s : Asking) → MadeInOrder (made_by s) p.notes → MadeIn (λ (d : Renamed Ident FramedIdent). d.pending.notes) p.notes (told at (here.define x r [] p s))
  define_grows at x r p s h = go (outcome w s.moment None [] x r p.notes)
    where
      go : (o : Outcome) → MadeIn (λ (d : Renamed Ident FramedIdent). d.pending.notes) p.notes (told at (beside (dated s.moment (in_unit None (Defines [] x r p.notes)) ++ s.asked) (ended o w None x r [] p s.moment)))
      go Redefines = (tt, (refl, ([], refl), h))
      go StoodBefore = (tt, (refl, ([], refl), h))
      go Stands = (refl, (refl, ([], refl), h))

  abbrev pending_notes : Renamed Ident FramedIdent → Notes
  pending_notes d = d.pending.notes

  abbrev rest_notes : List Binder × Renamed Ident FramedIdent → Notes
  rest_notes q = q.1.pending.notes

  on_notes : (es : List Ending) (ns ms : Notes) → ms ≡ ns → MadeInOrder es ns → MadeInOrder es ms
  on_notes es ns ms e h = subst (MadeInOrder es) (sym e) h

  on_quiet : (s t : Asking) (ns : Notes) → made_by t ≡ made_by s → MadeInOrder (made_by s) ns → MadeInOrder (made_by t) ns
  on_quiet s t ns e h = subst (λ (es : List Ending). MadeInOrder es ns) (sym e) h

  -- what is made behind a step is made in view of these notes too
  then_made : {V Y : Type 0} (g : V → Notes) (k : Y → Notes) (ns : Notes) (r : Result V Broken) (u : Asking) (f : V → Step Asking Y) → MadeIn g ns (r, u) → ((v : V) → g v ≡ ns → MadeInOrder (made_by u) ns → MadeIn k ns (f v u)) → MadeIn k ns ((r, u) >>= f)
  then_made g k ns (Ok v) u f h next = next v h.0 h.1
  then_made g k ns (Err e) u f h next = (tt, h.1)

  quiet_then : {V Y : Type 0} (k : Y → Notes) (ns : Notes) (s : Asking) (r : Result V Broken) (u : Asking) (f : V → Step Asking Y) → made_by u ≡ made_by s → MadeInOrder (made_by s) ns → ((v : V) → MadeInOrder (made_by u) ns → MadeIn k ns (f v u)) → MadeIn k ns ((r, u) >>= f)
  quiet_then k ns s (Ok v) u f e h next = next v (on_quiet s u ns e h)
  quiet_then k ns s (Err x) u f e h next = (tt, on_quiet s u ns e h)

  all_grow : (at : Here) (f : Ident → Ident) (ns : List (Named Ident)) (p : Pending Ident FramedIdent) (s : Asking) → MadeInOrder (made_by s) p.notes → MadeIn rest_notes p.notes (define_all here at [] f ns p s)
  all_grow at f [] p s h = (refl, h)
  all_grow at f (n ∷ ns) p s h =
      let x = named_map f n in
      let q = told at (here.define x None [] p s) in
      then_made pending_notes rest_notes p.notes q.0 q.1 _ (define_grows at x None p s h)
      (λ d e k. let z = define_all here at [] (λ i. d.rename (f i)) ns d.pending q.1 in
      let more = all_grow at (λ i. d.rename (f i)) ns d.pending q.1 (on_notes (made_by q.1) p.notes d.pending.notes e k) in
      then_made rest_notes rest_notes p.notes z.0 z.1 _ (subst (λ (xs : Notes). MadeIn rest_notes xs z) e more) (λ m a b. (a, b)))

  -- ---- the forms

  abbrev Grown : Pass Ident FramedIdent × Asking → Type 0
  Grown q = MadeInOrder (made_by q.1) q.0.notes

  caught_quiet : {V : Type 0} (ns : Notes) (s : Asking) (r : Result V Broken) (u : Asking) (f : V → Asking → Pass Ident FramedIdent × Asking) → made_by u ≡ made_by s → MadeInOrder (made_by s) ns → ((v : V) (t : Asking) → MadeInOrder (made_by t) ns → Grown (f v t)) → Grown (caught ns (r, u) f)
  caught_quiet ns s (Ok v) u f e h next = next v u (on_quiet s u ns e h)
  caught_quiet ns s (Err x) u f e h next = on_quiet s u ns e h

  caught_made : {V : Type 0} (g : V → Notes) (ns : Notes) (r : Result V Broken) (u : Asking) (f : V → Asking → Pass Ident FramedIdent × Asking) → MadeIn g ns (r, u) → ((v : V) (t : Asking) → MadeInOrder (made_by t) (g v) → Grown (f v t)) → Grown (caught ns (r, u) f)
  caught_made g ns (Ok v) u f h next = next v u (on_notes (made_by u) ns (g v) h.0 h.1)
  caught_made g ns (Err x) u f h next = h.1

  abbrev GoesOn : Going Ident FramedIdent Asking → Type 0
  GoesOn go = (p : Pending Ident FramedIdent) (s : Asking) → MadeInOrder (made_by s) p.notes → Grown (go p s)

  module _ (go : Going Ident FramedIdent Asking) (law : GoesOn go) (at : Here) where
    variable_grows : (n : Named Ident) (t : Tree Ident) (b : Bool) (p : Pending Ident FramedIdent) (s : Asking) → MadeInOrder (made_by s) p.notes → Grown (run_variable here go at [] n t b p s)
    variable_grows n t true p s h = law (put (Assigned n (record { here = at; tree = t })) p) s h
    variable_grows n t false p s h =
        let p2 = put (Value (binder_at here [] s n) (record { here = at; tree = t })) p in
        let q = told at (here.define n None [] p2 s) in
        caught_made pending_notes p.notes q.0 q.1 (λ d. go d.pending) (define_grows at n None p2 s h) (λ d u k. law d.pending u k)

    function_grows : (n : Named Ident) (c : Clause Ident) (b : Bool) (p : Pending Ident FramedIdent) (s : Asking) → MadeInOrder (made_by s) p.notes → Grown (run_function here go at [] n c b p s)
    function_grows n c true p s h = law (put (AssignedFunction n at c) p) s h
    function_grows n c false p s h =
        let p2 = put (Function (binder_at here [] s n) at c) p in
        let q = told at (here.define n None [] p2 s) in
        caught_made pending_notes p.notes q.0 q.1 (λ d. go d.pending) (define_grows at n None p2 s h) (λ d u k. law d.pending u k)

    asked_grows : (qs : List (Asked Frames Ident)) (s : Asking) (ns : Notes) → MadeInOrder (made_by s) ns → MadeInOrder (made_by (here.ask qs s)) ns
    asked_grows qs s ns h = on_quiet s (here.ask qs s) ns (asked_none s.moment qs s.asked) h

    definition_grows : (d : DefinitionShape Ident) (p : Pending Ident FramedIdent) (s : Asking) → MadeInOrder (made_by s) p.notes → Grown (run_define here go at [] p d s)
    definition_grows (Variable n t) p s h = variable_grows n t (here.is_assigned [] s n.name) p (here.ask (Assigns [] n.name ∷ []) s) (asked_grows (Assigns [] n.name ∷ []) s p.notes h)
    definition_grows (Procedure n c) p s h = function_grows n c (here.is_assigned [] s n.name) p (here.ask (Assigns [] n.name ∷ []) s) (asked_grows (Assigns [] n.name ∷ []) s p.notes h)

    values_grow : (d : Formals Ident × Tree Ident) (p : Pending Ident FramedIdent) (s : Asking) → MadeInOrder (made_by s) p.notes → Grown (run_values here go at [] p d s)
    values_grow d p s h =
        let q = define_names here at [] d.0.names p s in
        caught_made rest_notes p.notes q.0 q.1 _ (all_grow at (λ i. i) d.0.names p s h)
        (λ r u k. law (put (ValuesOf (record { names = r.0; rest = d.0.rest }) (record { here = at; tree = map_tree r.1.rename d.1 })) r.1.pending) u k)

    record_grows : (d : RecordShape Ident) (p : Pending Ident FramedIdent) (s : Asking) → MadeInOrder (made_by s) p.notes → Grown (run_record here go at [] p d s)
    record_grows d p s h =
        let fs = map (λ f. f.field) d.fields in
        let q = fields_bound here fs s in
        let both : List Binder × (List Binder × Renamed Ident FramedIdent) → Notes = λ r. r.1.1.pending.notes in
        let made = quiet_then both p.notes s q.0 q.1 (λ bs t. define_names here at [] (record_names d) p t >>= λ r. done (bs, r)) (fields_quiet fs s) h
        (λ bs k. let z = define_names here at [] (record_names d) p q.1 in then_made rest_notes both p.notes z.0 z.1 (λ r. done (bs, r)) (all_grow at (λ i. i) (record_names d) p q.1 k) (λ r a b. (a, b))) in
        let x = q >>= λ bs t. define_names here at [] (record_names d) p t >>= λ r. done (bs, r) in
        caught_made both p.notes x.0 x.1 _ made (λ r u k. law (put (Record (record_part here.names.same d r.1.0 r.0)) r.1.1.pending) u k)

    syntax_grows : (d : Named Ident × Tree Ident) (p : Pending Ident FramedIdent) (s : Asking) → MadeInOrder (made_by s) p.notes → Grown (run_syntax here go at [] p d s)
    syntax_grows d p s h0 =
        let o = rules_parts_of d.1 in
        let q = noted (rules_note here [] s o) p in
        let h = grow_more (made_by s) (rules_note here [] s o) p.notes h0 in
        let left : Binder × Pending Ident FramedIdent → Notes = λ r. r.1.notes in
        let a = rules_parts here at [] o s in
        let x = a >>= λ r t0. rules_at here at d.1 r t0 >>= λ rules t. told at (here.define d.0 (Some rules) [] q t) >>= λ made. done (binder_at here [] t d.0, made.pending) in
        let made = quiet_then left q.notes s a.0 a.1 _ (parts_quiet at o s) h
        (λ r k. let b = rules_at here at d.1 r a.1 in quiet_then left q.notes a.1 b.0 b.1 _ (rules_quiet at d.1 r a.1) k
        (λ rules m. let z = told at (here.define d.0 (Some rules) [] q b.1) in then_made pending_notes left q.notes z.0 z.1 (λ made. done (binder_at here [] b.1 d.0, made.pending)) (define_grows at d.0 (Some rules) q b.1 m) (λ e i l. (i, l)))) in
        caught_made left q.notes x.0 x.1 _ made (λ r u k. law (put (Macro r.0 at) r.1) u k)

    splice_grows : (ts : Trees Ident) (p : Pending Ident FramedIdent) (s : Asking) → MadeInOrder (made_by s) p.notes → Grown (splice here go at p ts s)
    splice_grows ts p s h = let q = counting here at 1 s in caught_quiet p.notes s q.0 q.1 _ (counting_quiet at 1 s) h (λ v t k. law (first (forms_at at ts) p) t k)

    read_grows : {V : Type 0} (p : Pending Ident FramedIdent) (r : Result V (Fault Ident)) (f : V → Asking → Pass Ident FramedIdent × Asking) (s : Asking) → MadeInOrder (made_by s) p.notes → ((v : V) (t : Asking) → MadeInOrder (made_by t) p.notes → Grown (f v t)) → Grown (read_then here at p r f s)
    read_grows p r f s h next = let q = given here.plain at r s in caught_quiet p.notes s q.0 q.1 f (given_quiet at r s) h next

    core_grows : (c : CoreKeyword) (k : Target) (form : Form Ident) (ts : Trees Ident) (tail : Tail Ident) (p : Pending Ident FramedIdent) (s : Asking) → MadeInOrder (made_by s) p.notes → Grown (run_core here go at [] c k form ts tail p s)
    core_grows IsQuote k form ts tail p s h = law (put (Expression form) p) s h
    core_grows IsQuasiquote k form ts tail p s h = law (put (Expression form) p) s h
    core_grows IsLambda k form ts tail p s h = law (put (Expression form) p) s h
    core_grows IsCaseLambda k form ts tail p s h = law (put (Expression form) p) s h
    core_grows IsIf k form ts tail p s h = law (put (Expression form) p) s h
    core_grows IsSet k form ts tail p s h = law (put (Expression form) p) s h
    core_grows IsBegin k form ts tail p s h = read_grows p (proper_of ts tail) (splice here go at p) (here.meet k s) h (λ v t m. splice_grows v p t m)
    core_grows IsDefine k form ts tail p s h = read_grows p (definition_of here.names.same ts tail) (run_define here go at [] p) (here.meet k s) h (λ v t m. definition_grows v p t m)
    core_grows IsDefineValues k form ts tail p s h = read_grows p (values_of here.names.same ts tail) (run_values here go at [] p) (here.meet k s) h (λ v t m. values_grow v p t m)
    core_grows IsDefineRecordType k form ts tail p s h = read_grows p (record_of here.names.same ts tail) (run_record here go at [] p) (here.meet k s) h (λ v t m. record_grows v p t m)
    core_grows IsDefineSyntax k form ts tail p s h = read_grows p (syntax_of ts tail) (run_syntax here go at [] p) (here.meet k s) h (λ v t m. syntax_grows v p t m)
    core_grows IsLetSyntax k form ts tail p s h = law (put (Expression form) p) s h
    core_grows IsLetrecSyntax k form ts tail p s h = law (put (Expression form) p) s h
    core_grows IsCondExpand k form ts tail p s h =
        let qs = map Library (libraries_in here.names.strip ts tail) in
        read_grows p (chosen_of here.names.strip here.known ts tail) (λ c. splice here go at p (or_none c)) (here.ask qs (here.meet k s)) (asked_grows qs (here.meet k s) p.notes h) (λ v t m. splice_grows (or_none v) p t m)
    core_grows IsSyntaxError k form ts tail p s h = law (put (Expression form) p) s h
    core_grows IsInclude k form ts tail p s h = law (put (Expression form) p) s h

    use_grows : (k : Target) (o : Option (Transformer Frames Ident)) (form : Form Ident) (ts : Trees Ident) (tail : Tail Ident) (p : Pending Ident FramedIdent) (s : Asking) → MadeInOrder (made_by s) p.notes → Grown (run_use here go at [] k o form ts tail p s)
    use_grows k None form ts tail p s h = law (put (Expression form) p) s h
    use_grows k (Some m) form ts tail p s h =
        let q = noted (comparisons here [] m ts tail s) p in
        let x = use_of here at [] k m ts tail s in
        caught_quiet q.notes s x.0 x.1 _ (use_quiet at k m ts tail s) (grow_more (made_by s) (comparisons here [] m ts tail s) p.notes h) (λ i t z. law (first (record { here = at; tree = i.tree } ∷ []) (waiting i.met q)) t z)

    head_grows : (d : Head) (k : Target) (form : Form Ident) (ts : Trees Ident) (tail : Tail Ident) (p : Pending Ident FramedIdent) (s : Asking) → MadeInOrder (made_by s) p.notes → Grown (run_head here go at [] d k form ts tail p s)
    head_grows (IsCore c) k form ts tail p s h = core_grows c k form ts tail p s h
    head_grows (IsAuxiliary a) k form ts tail p s h = law (put (Expression form) p) s h
    head_grows (IsMacro m) k form ts tail p s h = use_grows k (here.transformer s m) form ts tail p (here.ask (RulesOf m ∷ []) s) (asked_grows (RulesOf m ∷ []) s p.notes h)
    head_grows IsNone k form ts tail p s h = law (put (Expression form) p) s h

    form_grows : (form : Form Ident) (t : Tree Ident) (p : Pending Ident FramedIdent) (s : Asking) → MadeInOrder (made_by s) p.notes → Grown (run_form here go [] at form t p s)
    form_grows form (name i o) p s h = law (put (Expression form) p) s h
    form_grows form (atom a o) p s h = law (put (Expression form) p) s h
    form_grows form (vector ts o) p s h = law (put (Expression form) p) s h
    form_grows form (list no_trees tail o) p s h = law (put (Expression form) p) s h
    form_grows form (list (tree (name i q) ts) tail o) p s h =
        let n = LookedUp (here.place [] i) true (is_keyword (head_of here [] s i)) in
        head_grows (head_of here [] s i) (target_of here [] s i q) form ts tail (noted (n ∷ []) p) (here.ask (Headed [] i ∷ []) s)
        (asked_grows (Headed [] i ∷ []) s (n ∷ p.notes) (grow_more (made_by s) (n ∷ []) p.notes h))
    form_grows form (list (tree (atom a q) ts) tail o) p s h = law (put (Expression form) p) s h
    form_grows form (list (tree (list us end q) ts) tail o) p s h = law (put (Expression form) p) s h
    form_grows form (list (tree (vector us q) ts) tail o) p s h = law (put (Expression form) p) s h

  next_grows : (go : Going Ident FramedIdent Asking) → GoesOn go → (todo : List (Form Ident)) (p : Pending Ident FramedIdent) (s : Asking) → MadeInOrder (made_by s) p.notes → Grown (run_next here go [] todo p s)
  next_grows go law [] p s h = h
  next_grows go law (f ∷ fs) p s h = form_grows go law (here_at here.plain f.tree f.here) f f.tree (record p { todo = fs }) s h

  run_grows : (turns : ℕ) → GoesOn (run here turns [])
  run_grows zero p s h = h
  run_grows (suc turns) p s h = next_grows (run here turns []) (run_grows turns) p.todo p s h

  pub made_in_order : (turns : ℕ) (t : Tree Ident) → let q = set_aside_asking w turns t in MadeInOrder (endings q.1.asked) q.0.notes
  made_in_order turns t = run_grows turns (one_form t []) (no_questions w) tt
