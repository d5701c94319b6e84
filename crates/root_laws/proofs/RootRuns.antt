-- While a form is gone through where all macros and notes stand outside of all frames, so do those that it adds.
use Rattle.std.proofs.Common.{◌≡◌, ℕ, zero, suc, ◌+◌, ◌-◌, List, [], ◌∷◌, ◌++◌, map, Bool, true, false, cond, Option, Some, None, Result, Ok, Err, refl, sym, subst}
use Rattle.std.specs.Prelude.{if◌then◌else◌, nat_le}
use Rattle.scheme_model.specs.Identifiers.{Number}
use Rattle.scheme_model.specs.Ident.{Ident}
use Rattle.scheme_model.specs.Keywords.{CoreKeyword, IsQuote, IsQuasiquote, IsLambda, IsCaseLambda, IsIf, IsSet, IsBegin, IsDefine, IsDefineValues, IsDefineRecordType, IsDefineSyntax, IsLetSyntax, IsLetrecSyntax, IsCondExpand, IsSyntaxError, IsInclude}
use Rattle.scheme_model.specs.Trees.{Tree, name, atom, list, vector, Trees, no_trees, tree, Tail, map_tree}
use Rattle.scheme_model.specs.Measures.{tree_size}
use Rattle.scheme_model.specs.ExpansionFaults.{Named, named_map, Fault, NodeBudget, UseBudget, BadForm, KeywordRedefined, Duplicate}
use Rattle.scheme_model.specs.Meaning.{Meaning, Head, IsCore, IsAuxiliary, IsMacro, IsNone, Global, is_keyword, same_meaning}
use Rattle.scheme_model.specs.Shapes.{Formals, Clause, DefinitionShape, Variable, Procedure, RecordShape, proper_of, definition_of, values_of, record_of, syntax_of}
use Rattle.scheme_model.specs.RulesShape.{Rules, rules_of, role_of, dots_of}
use Rattle.scheme_model.specs.Matching.{Chosen, matcher, first_match, compared}
use Rattle.scheme_model.specs.Building.{build}
use Rattle.scheme_model.specs.Requirements.{Known, chosen_of}
use Rattle.scheme_model.specs.Cores.{Binder, Target, LocalNumber}
use Rattle.scheme_model.specs.Steps.{Broken, Step, done, fails, ◌>>=◌}
use Rattle.scheme_model.specs.Order.{Here, Form, Expression, Value, Function, Assigned, AssignedFunction, ValuesOf, Record, Macro, Note, LookedUp, Compared, Pending, Renamed, Pass, Going, Transformer, Ops, head_of, target_of, here_at, forms_at, told, has_use, used, use_of, comparisons, counting, given, is_rules, RulesParts, rules_parts, rules_parts_of, rules_note, rules_at, max_nodes, fields_bound, binder_at, put, waiting, noted, first, define_all, define_names, record_names, record_part, caught, run_variable, run_function, run_define, run_values, run_record, run_syntax, splice, or_none, read_then, run_core, run_use, run_head, run_form, run_next, run}
use Rattle.scheme_model.specs.Substitution.{unchanged}
use Rattle.scheme_model.specs.UnitExpansion.{one_form}
use Rattle.scheme_model.specs.Program.{enough_turns}
use Rattle.scheme_model.specs.ScopedExpansion.{Frames, FramedIdent, ScopedMacro, ScopedState, macro_at, macro_added, definition_added, is_defined}
use Rattle.model_laws.proofs.FrameHeads.{IfMacro}
use Rattle.form_laws.specs.Begins.{Each}
use Rattle.expansion_laws.proofs.OtherForms.{is_refused_here}
use Rattle.unit_scopes.specs.Forgotten.{IsAtRoot, AreAtRoot}
use Rattle.unit_scopes.specs.Searched.{searched}
use Rattle.unit_scopes.specs.Stepped.{turned}
use Rattle.unit_scopes.specs.Units.{declared}
use Rattle.root_laws.specs.AtRoot.{AllAtRoot}

-- ---- macros and notes

abbrev InRoot : Option (Transformer Frames Ident) → Type 0
InRoot o = IfMacro (λ (m : Transformer Frames Ident). m.env ≡ []) o

macro_if : (b : Bool) (k : ScopedMacro) (o : Option (Transformer Frames Ident)) → k.frames ≡ [] → InRoot o → InRoot (if b then Some (record { env = k.frames; rules = k.rules }) else o)
macro_if true k o e h = e
macro_if false k o e h = h

macro_in_root : (ks : List ScopedMacro) (m : Meaning) → Each (λ (k : ScopedMacro). k.frames ≡ []) ks → InRoot (macro_at ks m)
macro_in_root [] m h = tt
macro_in_root (k ∷ ks) m h = macro_if (same_meaning k.meaning m) k (macro_at ks m) h.0 (macro_in_root ks m h.1)

added_root : (m : Meaning) (r : Option (Rules Ident)) (ks : List ScopedMacro) → Each (λ (k : ScopedMacro). k.frames ≡ []) ks → Each (λ (k : ScopedMacro). k.frames ≡ []) (macro_added m [] r ks)
added_root m None ks h = h
added_root m (Some r) ks h = (refl, h)

both_root : (xs ys : List (Note FramedIdent)) → AreAtRoot xs → AreAtRoot ys → AreAtRoot (xs ++ ys)
both_root [] ys h k = k
both_root (x ∷ xs) ys h k = (h.0, both_root xs ys h.1 k)

module _ (known : Known) where
  abbrev here : Ops Frames Ident FramedIdent ScopedState
  here = searched known

  compared_root : (m : Transformer Frames Ident) → m.env ≡ [] → (s : ScopedState) (qs : List (Ident × Ident)) →
      AreAtRoot (map (λ q. Compared (here.place m.env q.0) (here.place [] q.1) (same_meaning (here.means m.env s q.0) (here.means [] s q.1))) qs)
  compared_root m root s [] = tt
  compared_root m root s (q ∷ qs) = ((root, refl), compared_root m root s qs)

  abbrev compared_by : Transformer Frames Ident → Trees Ident → Tail Ident → List (Ident × Ident)
  compared_by m ts tail = compared (role_of here.names m.rules) (dots_of here.names m.rules) m.rules.rules ts tail

  comparisons_root : (m : Transformer Frames Ident) → m.env ≡ [] → (ts : Trees Ident) (tail : Tail Ident) (s : ScopedState) → AreAtRoot (comparisons here [] m ts tail s)
  comparisons_root m root ts tail s = go (has_use here s)
    where
      go : (b : Bool) → AreAtRoot (if b then map (λ q. Compared (here.place m.env q.0) (here.place [] q.1) (same_meaning (here.means m.env s q.0) (here.means [] s q.1))) (compared_by m ts tail) else [])
      go true = compared_root m root s (compared_by m ts tail)
      go false = tt

  rules_root : (s : ScopedState) (o : Option (RulesParts Ident)) → AreAtRoot (rules_note here [] s o)
  rules_root s None = tt
  rules_root s (Some r) = (refl, tt)

  -- ---- steps

  abbrev IfGiven : {X : Type 0} → (X → Type 0) → Result X Broken → Type 0
  IfGiven P (Ok x) = P x
  IfGiven P (Err e) = Unit {0}

  -- macros stay outside of all frames, and this holds of what the step gives
  abbrev Keeps : {X : Type 0} → ScopedState → (X → Type 0) → Result X Broken × ScopedState → Type 0
  Keeps s P q = (AllAtRoot s → AllAtRoot q.1) × IfGiven P q.0

  abbrev Any : {X : Type 0} → X → Type 0
  Any x = Unit {0}

  abbrev NotesRoot : Renamed Ident FramedIdent → Type 0
  NotesRoot d = AreAtRoot d.pending.notes

  bind_keeps : {V Y : Type 0} (s : ScopedState) (r : Result V Broken) (u : ScopedState) (f : V → Step ScopedState Y) (P : V → Type 0) (Q : Y → Type 0) → Keeps s P (r, u) → ((v : V) (t : ScopedState) → P v → Keeps t Q (f v t)) → Keeps s Q ((r, u) >>= f)
  bind_keeps s (Ok v) u f P Q k next = let n = next v u k.1 in ((λ h. n.0 (k.0 h)), n.1)
  bind_keeps s (Err e) u f P Q k next = (k.0, tt)

  counting_keeps : (at : Here) (n : ℕ) (s : ScopedState) → Keeps s Any (counting here at n s)
  counting_keeps at n s = go (nat_le ((here.counted s).nodes + n) max_nodes)
    where
      go : (b : Bool) → Keeps {X = Unit {0}} s Any (if b then done tt (here.spend n s) else fails at NodeBudget s)
      go true = ((λ h. h), tt)
      go false = ((λ h. h), tt)

  given_keeps : {V : Type 0} (at : Here) (r : Result V (Fault Ident)) (s : ScopedState) → Keeps s Any (given here.plain at r s)
  given_keeps at (Ok v) s = ((λ h. h), tt)
  given_keeps at (Err e) s = ((λ h. h), tt)

  parts_keeps : (at : Here) (o : Option (RulesParts Ident)) (s : ScopedState) → Keeps s Any (rules_parts here at [] o s)
  parts_keeps at None s = ((λ h. h), tt)
  parts_keeps at (Some r) s = go (is_rules (head_of here [] s r.head))
    where
      go : (b : Bool) → Keeps {X = RulesParts Ident} s Any (if b then done r s else fails at BadForm s)
      go true = ((λ h. h), tt)
      go false = ((λ h. h), tt)

  rules_keeps : (at : Here) (t : Tree Ident) (r : RulesParts Ident) (s : ScopedState) → Keeps s Any (rules_at here at t r s)
  rules_keeps at t r s =
      let q = counting here at (tree_size t) s in
      bind_keeps s q.0 q.1 (λ u. given here.plain at (rules_of here.names r.parts r.tail)) Any Any (counting_keeps at (tree_size t) s) (λ v u p. given_keeps at (rules_of here.names r.parts r.tail) u)

  fields_keeps : (ns : List (Named Ident)) (s : ScopedState) → Keeps s Any (fields_bound here ns s)
  fields_keeps [] s = ((λ h. h), tt)
  fields_keeps (n ∷ ns) s =
      let q = fields_bound here ns (here.take_local s) in
      bind_keeps s q.0 q.1 (λ bs. done (record { bound = LocalNumber (here.next_local s); ident = here.plain n.name; occ = n.occ } ∷ bs)) Any Any (fields_keeps ns (here.take_local s)) (λ v u p. ((λ h. h), tt))

  used_keeps : (at : Here) (k : Target) (m : Transformer Frames Ident) (n : Number) (o : Option (Chosen Ident Ident)) (s : ScopedState) → Keeps s Any (used here at k m n o s)
  used_keeps at k m n None s = ((λ h. h), tt)
  used_keeps at k m n (Some c) s =
      let r = build here.names m.rules (λ i. here.insert i n) c.rule.template c.match.bindings (max_nodes - (here.counted s).nodes) in
      let q = given here.plain at r s in
      bind_keeps s q.0 q.1 (λ b t. done (record { tree = b.value; met = record { keyword = k; literals = c.match.met } }) (here.spend b.count t)) Any Any (given_keeps at r s) (λ v u p. ((λ h. h), tt))

  abbrev chosen_by : Transformer Frames Ident → Trees Ident → Tail Ident → ScopedState → Option (Chosen Ident Ident)
  chosen_by m ts tail s = first_match (matcher here.names m.rules (λ l j. same_meaning (here.means m.env s l) (here.means [] s j))) m.rules.rules ts tail

  use_keeps : (at : Here) (k : Target) (m : Transformer Frames Ident) (ts : Trees Ident) (tail : Tail Ident) (s : ScopedState) → Keeps s Any (use_of here at [] k m ts tail s)
  use_keeps at k m ts tail s = go (has_use here s)
    where
      go : (b : Bool) → Keeps s Any (if b then used here at k m (here.next_use s) (chosen_by m ts tail s) (here.begin_use m.env s) else fails at UseBudget s)
      go true = used_keeps at k m (here.next_use s) (chosen_by m ts tail s) (here.begin_use m.env s)
      go false = ((λ h. h), tt)

  define_keeps : (at : Here) (x : Named Ident) (r : Option (Rules Ident)) (p : Pending Ident FramedIdent) (s : ScopedState) → AreAtRoot p.notes → Keeps s NotesRoot (told at (here.define x r [] p s))
  define_keeps at x r p s root = go (is_refused_here x r [] p s) (is_defined s None x.name)
    where
      go : (refused twice : Bool) →
          Keeps s NotesRoot (told at (cond {A = Result (Renamed Ident FramedIdent) (Fault Ident) × ScopedState} refused (Err (KeywordRedefined x), s) (cond twice (Err (Duplicate x), s) (Ok (unchanged p), definition_added None x r [] s))))
      go true twice = ((λ h. h), tt)
      go false true = ((λ h. h), tt)
      go false false = ((λ h. added_root (Global s.unit x.name) r s.macros h), root)

  all_keep : (at : Here) (f : Ident → Ident) (ns : List (Named Ident)) (p : Pending Ident FramedIdent) (s : ScopedState) → AreAtRoot p.notes → Keeps s (λ (d : List Binder × Renamed Ident FramedIdent). NotesRoot d.1) (define_all here at [] f ns p s)
  all_keep at f [] p s root = ((λ h. h), root)
  all_keep at f (n ∷ ns) p s root =
      let x = named_map f n in
      let q = told at (here.define x None [] p s) in
      bind_keeps s q.0 q.1 _ NotesRoot (λ (d : List Binder × Renamed Ident FramedIdent). NotesRoot d.1) (define_keeps at x None p s root)
      (λ d t e. let z = define_all here at [] (λ i. d.rename (f i)) ns d.pending t in
      bind_keeps t z.0 z.1 _ (λ (d : List Binder × Renamed Ident FramedIdent). NotesRoot d.1) (λ (d : List Binder × Renamed Ident FramedIdent). NotesRoot d.1) (all_keep at (λ i. d.rename (f i)) ns d.pending t e) (λ m u i. ((λ h. h), i)))

  -- ---- the forms

  abbrev Passed : Type 0
  Passed = Pass Ident FramedIdent × ScopedState

  -- macros and notes stay outside of all frames
  abbrev Stays : ScopedState → Passed → Type 0
  Stays s q = AllAtRoot s → AllAtRoot q.1 × AreAtRoot q.0.notes

  caught_stays : {V : Type 0} (ns : List (Note FramedIdent)) (s : ScopedState) (r : Result V Broken) (u : ScopedState) (f : V → ScopedState → Passed) (P : V → Type 0) → AreAtRoot ns → Keeps s P (r, u) →
      ((v : V) (t : ScopedState) → P v → Stays t (f v t)) → Stays s (caught ns (r, u) f)
  caught_stays ns s (Ok v) u f P root k next h = next v u k.1 (k.0 h)
  caught_stays ns s (Err x) u f P root k next h = (k.0 h, root)

  abbrev GoesOn : Going Ident FramedIdent ScopedState → Type 0
  GoesOn go = (p : Pending Ident FramedIdent) (s : ScopedState) → AreAtRoot p.notes → Stays s (go p s)

  module _ (go : Going Ident FramedIdent ScopedState) (law : GoesOn go) (at : Here) where
    variable_stays : (n : Named Ident) (t : Tree Ident) (b : Bool) (p : Pending Ident FramedIdent) (s : ScopedState) → AreAtRoot p.notes → Stays s (run_variable here go at [] n t b p s)
    variable_stays n t true p s root = law (put (Assigned n (record { here = at; tree = t })) p) s root
    variable_stays n t false p s root =
        let p2 = put (Value (binder_at here [] s n) (record { here = at; tree = t })) p in
        let q = told at (here.define n None [] p2 s) in
        caught_stays p.notes s q.0 q.1 (λ d. go d.pending) NotesRoot root (define_keeps at n None p2 s root) (λ d u e. law d.pending u e)

    function_stays : (n : Named Ident) (c : Clause Ident) (b : Bool) (p : Pending Ident FramedIdent) (s : ScopedState) → AreAtRoot p.notes → Stays s (run_function here go at [] n c b p s)
    function_stays n c true p s root = law (put (AssignedFunction n at c) p) s root
    function_stays n c false p s root =
        let p2 = put (Function (binder_at here [] s n) at c) p in
        let q = told at (here.define n None [] p2 s) in
        caught_stays p.notes s q.0 q.1 (λ d. go d.pending) NotesRoot root (define_keeps at n None p2 s root) (λ d u e. law d.pending u e)

    definition_stays : (d : DefinitionShape Ident) (p : Pending Ident FramedIdent) (s : ScopedState) → AreAtRoot p.notes → Stays s (run_define here go at [] p d s)
    definition_stays (Variable n t) p s root = variable_stays n t (here.is_assigned [] s n.name) p s root
    definition_stays (Procedure n c) p s root = function_stays n c (here.is_assigned [] s n.name) p s root

    values_stay : (d : Formals Ident × Tree Ident) (p : Pending Ident FramedIdent) (s : ScopedState) → AreAtRoot p.notes → Stays s (run_values here go at [] p d s)
    values_stay d p s root =
        let q = define_names here at [] d.0.names p s in
        caught_stays p.notes s q.0 q.1 _ (λ (r : List Binder × Renamed Ident FramedIdent). NotesRoot r.1) root (all_keep at (λ i. i) d.0.names p s root)
        (λ r u e. law (put (ValuesOf (record { names = r.0; rest = d.0.rest }) (record { here = at; tree = map_tree r.1.rename d.1 })) r.1.pending) u e)

    record_stays : (d : RecordShape Ident) (p : Pending Ident FramedIdent) (s : ScopedState) → AreAtRoot p.notes → Stays s (run_record here go at [] p d s)
    record_stays d p s root =
        let fs = map (λ f. f.field) d.fields in
        let q = fields_bound here fs s in
        let made = bind_keeps s q.0 q.1 (λ bs t. define_names here at [] (record_names d) p t >>= λ r. done (bs, r)) Any (λ (x : List Binder × (List Binder × Renamed Ident FramedIdent)). NotesRoot x.1.1) (fields_keeps fs s)
        (λ bs t a. let z = define_names here at [] (record_names d) p t in
        bind_keeps t z.0 z.1 (λ r. done (bs, r)) (λ (r : List Binder × Renamed Ident FramedIdent). NotesRoot r.1) (λ (x : List Binder × (List Binder × Renamed Ident FramedIdent)). NotesRoot x.1.1) (all_keep at (λ i. i) (record_names d) p t root) (λ r u e. ((λ h. h), e))) in
        let x = q >>= λ bs t. define_names here at [] (record_names d) p t >>= λ r. done (bs, r) in
        caught_stays p.notes s x.0 x.1 _ (λ (x : List Binder × (List Binder × Renamed Ident FramedIdent)). NotesRoot x.1.1) root made (λ r u e. law (put (Record (record_part here.names.same d r.1.0 r.0)) r.1.1.pending) u e)

    syntax_stays : (d : Named Ident × Tree Ident) (p : Pending Ident FramedIdent) (s : ScopedState) → AreAtRoot p.notes → Stays s (run_syntax here go at [] p d s)
    syntax_stays d p s root =
        let o = rules_parts_of d.1 in
        let q = noted (rules_note here [] s o) p in
        let at_root : AreAtRoot q.notes = both_root (rules_note here [] s o) p.notes (rules_root s o) root in
        let a = rules_parts here at [] o s in
        let x = a >>= λ r t0. rules_at here at d.1 r t0 >>= λ rules t. told at (here.define d.0 (Some rules) [] q t) >>= λ made. done (binder_at here [] t d.0, made.pending) in
        let made = bind_keeps s a.0 a.1 _ Any (λ (x : Binder × Pending Ident FramedIdent). AreAtRoot x.1.notes) (parts_keeps at o s)
        (λ r t0 i. let b = rules_at here at d.1 r t0 in bind_keeps t0 b.0 b.1 _ Any (λ (x : Binder × Pending Ident FramedIdent). AreAtRoot x.1.notes) (rules_keeps at d.1 r t0)
        (λ rules t j. let z = told at (here.define d.0 (Some rules) [] q t) in
        bind_keeps t z.0 z.1 (λ made. done (binder_at here [] t d.0, made.pending)) NotesRoot (λ (x : Binder × Pending Ident FramedIdent). AreAtRoot x.1.notes) (define_keeps at d.0 (Some rules) q t at_root) (λ e u i. ((λ h. h), i)))) in
        caught_stays q.notes s x.0 x.1 _ (λ (x : Binder × Pending Ident FramedIdent). AreAtRoot x.1.notes) at_root made (λ r u e. law (put (Macro r.0 at) r.1) u e)

    splice_stays : (ts : Trees Ident) (p : Pending Ident FramedIdent) (s : ScopedState) → AreAtRoot p.notes → Stays s (splice here go at p ts s)
    splice_stays ts p s root = let q = counting here at 1 s in caught_stays p.notes s q.0 q.1 _ Any root (counting_keeps at 1 s) (λ v t a. law (first (forms_at at ts) p) t root)

    read_stays : {V : Type 0} (p : Pending Ident FramedIdent) (r : Result V (Fault Ident)) (f : V → ScopedState → Passed) (s : ScopedState) → AreAtRoot p.notes → ((v : V) (t : ScopedState) → Stays t (f v t)) → Stays s (read_then here at p r f s)
    read_stays p r f s root next = let q = given here.plain at r s in caught_stays p.notes s q.0 q.1 f Any root (given_keeps at r s) (λ v t a. next v t)

    core_stays : (c : CoreKeyword) (k : Target) (form : Form Ident) (ts : Trees Ident) (tail : Tail Ident) (p : Pending Ident FramedIdent) (s : ScopedState) → AreAtRoot p.notes → Stays s (run_core here go at [] c k form ts tail p s)
    core_stays IsQuote k form ts tail p s root = law (put (Expression form) p) s root
    core_stays IsQuasiquote k form ts tail p s root = law (put (Expression form) p) s root
    core_stays IsLambda k form ts tail p s root = law (put (Expression form) p) s root
    core_stays IsCaseLambda k form ts tail p s root = law (put (Expression form) p) s root
    core_stays IsIf k form ts tail p s root = law (put (Expression form) p) s root
    core_stays IsSet k form ts tail p s root = law (put (Expression form) p) s root
    core_stays IsBegin k form ts tail p s root = read_stays p (proper_of ts tail) (splice here go at p) (here.meet k s) root (λ v t. splice_stays v p t root)
    core_stays IsDefine k form ts tail p s root = read_stays p (definition_of here.names.same ts tail) (run_define here go at [] p) (here.meet k s) root (λ v t. definition_stays v p t root)
    core_stays IsDefineValues k form ts tail p s root = read_stays p (values_of here.names.same ts tail) (run_values here go at [] p) (here.meet k s) root (λ v t. values_stay v p t root)
    core_stays IsDefineRecordType k form ts tail p s root = read_stays p (record_of here.names.same ts tail) (run_record here go at [] p) (here.meet k s) root (λ v t. record_stays v p t root)
    core_stays IsDefineSyntax k form ts tail p s root = read_stays p (syntax_of ts tail) (run_syntax here go at [] p) (here.meet k s) root (λ v t. syntax_stays v p t root)
    core_stays IsLetSyntax k form ts tail p s root = law (put (Expression form) p) s root
    core_stays IsLetrecSyntax k form ts tail p s root = law (put (Expression form) p) s root
    core_stays IsCondExpand k form ts tail p s root = read_stays p (chosen_of here.names.strip here.known ts tail) (λ c. splice here go at p (or_none c)) (here.meet k s) root (λ v t. splice_stays (or_none v) p t root)
    core_stays IsSyntaxError k form ts tail p s root = law (put (Expression form) p) s root
    core_stays IsInclude k form ts tail p s root = law (put (Expression form) p) s root

    use_stays : (k : Target) (o : Option (Transformer Frames Ident)) → InRoot o → (form : Form Ident) (ts : Trees Ident) (tail : Tail Ident) (p : Pending Ident FramedIdent) (s : ScopedState) → AreAtRoot p.notes → Stays s (run_use here go at [] k o form ts tail p s)
    use_stays k None at_root form ts tail p s root = law (put (Expression form) p) s root
    use_stays k (Some m) at_root form ts tail p s root =
        let q = noted (comparisons here [] m ts tail s) p in
        let all : AreAtRoot q.notes = both_root (comparisons here [] m ts tail s) p.notes (comparisons_root m at_root ts tail s) root in
        let x = use_of here at [] k m ts tail s in
        caught_stays q.notes s x.0 x.1 _ Any all (use_keeps at k m ts tail s) (λ i t a. law (first (record { here = at; tree = i.tree } ∷ []) (waiting i.met q)) t all)

    head_stays : (d : Head) (k : Target) (form : Form Ident) (ts : Trees Ident) (tail : Tail Ident) (p : Pending Ident FramedIdent) (s : ScopedState) → AreAtRoot p.notes → Stays s (run_head here go at [] d k form ts tail p s)
    head_stays (IsCore c) k form ts tail p s root = core_stays c k form ts tail p s root
    head_stays (IsAuxiliary a) k form ts tail p s root = law (put (Expression form) p) s root
    head_stays (IsMacro m) k form ts tail p s root = λ h. use_stays k (here.transformer s m) (macro_in_root s.macros m h) form ts tail p s root h
    head_stays IsNone k form ts tail p s root = law (put (Expression form) p) s root

    form_stays : (form : Form Ident) (t : Tree Ident) (p : Pending Ident FramedIdent) (s : ScopedState) → AreAtRoot p.notes → Stays s (run_form here go [] at form t p s)
    form_stays form (name i o) p s root = law (put (Expression form) p) s root
    form_stays form (atom a o) p s root = law (put (Expression form) p) s root
    form_stays form (vector ts o) p s root = law (put (Expression form) p) s root
    form_stays form (list no_trees tail o) p s root = law (put (Expression form) p) s root
    form_stays form (list (tree (name i q) ts) tail o) p s root =
        let n = LookedUp (here.place [] i) true (is_keyword (head_of here [] s i)) in
        head_stays (head_of here [] s i) (target_of here [] s i q) form ts tail (noted (n ∷ []) p) s (refl, root)
    form_stays form (list (tree (atom a q) ts) tail o) p s root = law (put (Expression form) p) s root
    form_stays form (list (tree (list us end q) ts) tail o) p s root = law (put (Expression form) p) s root
    form_stays form (list (tree (vector us q) ts) tail o) p s root = law (put (Expression form) p) s root

  next_stays : (go : Going Ident FramedIdent ScopedState) → GoesOn go → (todo : List (Form Ident)) (p : Pending Ident FramedIdent) (s : ScopedState) → AreAtRoot p.notes → Stays s (run_next here go [] todo p s)
  next_stays go law [] p s root = λ h. (h, root)
  next_stays go law (f ∷ fs) p s root = form_stays go law (here_at here.plain f.tree f.here) f f.tree (record p { todo = fs }) s root

  run_stays : (turns : ℕ) → GoesOn (run here turns [])
  run_stays zero p s root = λ h. (h, root)
  run_stays (suc turns) p s root = next_stays (run here turns []) (run_stays turns) p.todo p s root

  pub declared_root : (n : ℕ) (t : Tree Ident) (notes : List (Note FramedIdent)) (s : ScopedState) → AllAtRoot s → AreAtRoot notes → AllAtRoot (declared known n t notes s).1 × AreAtRoot (declared known n t notes s).0.notes
  declared_root n t notes s macros root = run_stays enough_turns (one_form t notes) (turned n s) root macros
