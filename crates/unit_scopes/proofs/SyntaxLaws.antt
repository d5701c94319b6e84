-- The rules of macros where they are defined, by what the code was told.
use Rattle.std.proofs.Common.{◌≡◌, ℕ, ◌≤◌, List, [], ◌∷◌, map, true, false, cond, Option, Some, None, Result, Ok, Err, Bor, refl, sym, ap, ◌∙◌, subst}
use Rattle.std.specs.Option.{option_copied}
use Rattle.std.proofs.lemmas.Option.{same_Some}
use Rattle.scheme_model.specs.Ident.{Ident as Identifier}
use Rattle.scheme_model.specs.Trees.{Tree, name, atom, list, vector, Trees, no_trees, tree, Tail, proper, dotted, map_tree, map_trees, map_tail}
use Rattle.scheme_model.specs.Measures.{tree_size}
use Rattle.scheme_model.specs.ExpansionFaults.{named_map, Fault, BadRules, TwoEllipses, DuplicateVariable, EllipsisDepth, IdleEllipsis, NoRule, EllipsisLength, BadForm, DuplicateBinder, BadPlace, BadRecord, BadQuasi, KeywordRedefined, Duplicate, KeywordAsValue, UseBudget, NodeBudget, DepthBudget, SyntaxError, IncludeRefused, OutOfTurns, fault_map, ◌>>◌}
use Rattle.scheme_model.specs.RulesShape.{Rule, rule_map, option_map, Rules, rules_map, check_rules, rules_of}
use Rattle.scheme_model.specs.RulesShape as shapes
use Rattle.scheme_model.specs.Requirements.{Known}
use Rattle.scheme_model.specs.Meaning.{Meaning, Head, IsCore, IsAuxiliary, IsNone, is_keyword}
use Rattle.scheme_model.specs.Meaning as meaning
use Rattle.scheme_model.specs.Leaves.{leaves_of}
use Rattle.scheme_model.specs.Cores.{Binder, MacroDef}
use Rattle.scheme_model.specs.Steps.{Broken, Step, ◌>>=◌, done, fails}
use Rattle.scheme_model.specs.Expression.{meaning_of, macro_def, macro_with, no_rules}
use Rattle.scheme_model.specs.Order.{Here, Note, LookedUp, Transformer, head_of, is_rules, given, counting, RulesParts, rules_parts_of, rules_parts, rules_note, rules_at}
use Rattle.scheme_model.specs.ScopedExpansion.{Frames, FramedIdent, ScopedState, macro_at}
use Rattle.scheme_model.proofs.Distinct.{ok_same}
use Rattle.syntax_tree.specs.Names.{Names}
use Rattle.syntax_tree.specs.Macros.{identifiers, IsIdent, RulesFor}
use Rattle.syntax_tree.specs.declared.trees.Work.{Work}
use Rattle.syntax_tree.specs.declared.trees.table.Region.{Region}
use Rattle.syntax_tree.specs.Meant.{IsMeaning}
use Rattle.syntax_tree.specs.declared.meaning.Meaning as code_meaning
use Rattle.syntax_tree.specs.declared.rules.Rules as code_rules
use Rattle.syntax_tree.proofs.Places.{none_some}
use Rattle.rules_check.specs.Gathered.{AreLeaves}
use Rattle.rules_check.specs.Checked.{rules_in_form, Refuses}
use Rattle.rules_check.specs.declared.fault.RulesFault.{RulesFault}
use Rattle.core_tree.specs.Names.{AllMatch, IsBinder, IsLeaf}
use Rattle.core_tree.specs.Names.{IsMacro as IsMacroDef}
use Rattle.core_tree.specs.declared.cores.MacroDef as code_def
use Rattle.core_tree.specs.declared.cores.RuleLeaf as code_leaf
use Rattle.core_tree.specs.Traces.{IsFault}
use Rattle.unit_scopes.specs.Searched.{searched}
use Rattle.form_parts.specs.FormsSeen.{IsRulesHead}
use Rattle.unit_scopes.specs.Told.{rules_fault, told, Tells}
use Rattle.unit_scopes.specs.Counts.{Counts}
use Rattle.form_parts.specs.Heads.{auxiliary_as, IsHead}
use Rattle.unit_scopes.specs.Macros.{macro_in}
use Rattle.unit_scopes.specs.RulesTold.{definition_leaf}
use Rattle.unit_scopes.specs.State.{IsMacro, IsMacroIfAny, Stands}
use Rattle.unit_scopes.specs.Stepped.{spent}
use Rattle.unit_scopes.specs.Outcomes.{At, Stays, EndsHere}
use Rattle.feature_requirements.specs.declared.fault.ExpandFault.{ExpandFault}
use Rattle.feature_requirements.specs.declared.fault.ExpandFault.TheVariants as fault
use Rattle.form_parts.specs.declared.heads.Auxiliary as code_auxiliary
use Rattle.form_parts.specs.declared.heads.Head.TheVariants as heads
use Rattle.unit_scopes.specs.declared.macros.Macro.{Macro}
use Rattle.unit_scopes.specs.declared.scope.UnitScope.{UnitScope}
use Rattle.unit_scopes.proofs.OutcomeLaws.{leaves_itself, here_fails}
use Rattle.unit_scopes.proofs.NodeLaws.{counts_goes, counts_fails}
use Rattle.unit_scopes.proofs.ToldLaws.{bad_rules_are}

-- ---- the head of rules

module _ (known : Known) (names : Names) (fs : Frames) (s : ScopedState) where
  -- no rules, and no note
  pub no_note : (o : Option (RulesParts Identifier)) → IsRulesHead names None o → rules_note (searched known) fs s o ≡ []
  no_note None h = refl
  no_note (Some r) h = absurd h

  abbrev pub looked : Identifier → Note FramedIdent
  looked i = LookedUp (record { frames = fs; ident = i }) false (is_keyword (head_of (searched known) fs s i))

  pub a_note : (n : ℕ) (o : Option (RulesParts Identifier)) → IsRulesHead names (Some n) o → (i : Identifier) × IsIdent names n i × (rules_note (searched known) fs s o ≡ looked i ∷ [])
  a_note n None h = absurd h
  a_note n (Some r) h = (r.head, h, refl)

  module _ (here : Here) where
    abbrev step : Option (RulesParts Identifier) → Result (RulesParts Identifier) Broken × ScopedState
    step o = rules_parts (searched known) here fs o s

    pub no_rules_are : (o : Option (RulesParts Identifier)) → IsRulesHead names None o → step o ≡ fails here BadForm s
    no_rules_are None h = refl
    no_rules_are (Some r) h = absurd h

    pub rules_are : (n : ℕ) (o : Option (RulesParts Identifier)) → IsRulesHead names (Some n) o → ((i : Identifier) → IsIdent names n i → is_rules (head_of (searched known) fs s i) ≡ true) → (r : RulesParts Identifier) × (step o ≡ (Ok r, s))
    rules_are n None h is = absurd h
    rules_are n (Some r) h is = (r, ap (λ b. cond b (done r s) (fails here BadForm s)) (is r.head h))

    pub other_head : (n : ℕ) (o : Option (RulesParts Identifier)) → IsRulesHead names (Some n) o → ((i : Identifier) → IsIdent names n i → is_rules (head_of (searched known) fs s i) ≡ false) → step o ≡ fails here BadForm s
    other_head n None h is = absurd h
    other_head n (Some r) h is = ap (λ b. cond b (done r s) (fails here BadForm s)) (is r.head h)

-- ---- rules that are read

pub in_form : (t : Tree Identifier) (r : RulesParts Identifier) → rules_parts_of t ≡ Some r → rules_in_form t ≡ rules_of identifiers r.parts r.tail
in_form (name i o) r h = absurd cc
in_form (atom a o) r h = absurd cc
in_form (vector ts o) r h = absurd cc
in_form (list no_trees tail o) r h = absurd cc
in_form (list (tree (name i p) ts) tail o) r h = ap (λ (q : RulesParts Identifier). rules_of identifiers q.parts q.tail) (same_Some (record { head = i; parts = ts; tail = tail }) r h)
in_form (list (tree (atom a p) ts) tail o) r h = absurd cc
in_form (list (tree (list us end p) ts) tail o) r h = absurd cc
in_form (list (tree (vector us p) ts) tail o) r h = absurd cc

-- rules that were read were checked
checked_by : (c : Result (Unit {0}) (Fault Identifier)) (q r : Rules Identifier) → (c >> λ u. Ok q) ≡ Ok r → (c ≡ Ok tt) × (q ≡ r)
checked_by (Ok u) q r h = (refl, ok_same (Fault Identifier) q r h)
checked_by (Err e) q r h = absurd cc

checked_in : (p : Result (Rules Identifier) (Fault Identifier)) (r : Rules Identifier) → (p >> λ q. check_rules identifiers q q.rules >> λ u. Ok q) ≡ Ok r → check_rules identifiers r r.rules ≡ Ok tt
checked_in (Ok q) r h = let both = checked_by (check_rules identifiers q q.rules) q r h in subst (λ (x : Rules Identifier). check_rules identifiers x x.rules ≡ Ok tt) both.1 both.0
checked_in (Err e) r h = absurd cc

pub are_checked : (ts : Trees Identifier) (tail : Tail Identifier) (r : Rules Identifier) → rules_of identifiers ts tail ≡ Ok r → check_rules identifiers r r.rules ≡ Ok tt
are_checked ts tail r h = checked_in (shapes.rules_parts ts tail) r h

-- ---- nothing is renamed

pub same_fault : (e : Fault Identifier) → fault_map (λ (i : Identifier). i) e ≡ e
same_fault BadRules = refl
same_fault TwoEllipses = refl
same_fault (DuplicateVariable n) = refl
same_fault (EllipsisDepth n) = refl
same_fault IdleEllipsis = refl
same_fault (NoRule n) = refl
same_fault EllipsisLength = refl
same_fault BadForm = refl
same_fault (DuplicateBinder n) = refl
same_fault BadPlace = refl
same_fault BadRecord = refl
same_fault BadQuasi = refl
same_fault (KeywordRedefined n) = refl
same_fault (Duplicate n) = refl
same_fault (KeywordAsValue n) = refl
same_fault UseBudget = refl
same_fault NodeBudget = refl
same_fault DepthBudget = refl
same_fault (SyntaxError text) = refl
same_fault IncludeRefused = refl
same_fault OutOfTurns = refl

mutual
  same_tree : (t : Tree Identifier) → map_tree (λ (i : Identifier). i) t ≡ t
  same_tree (name i o) = refl
  same_tree (atom a o) = refl
  same_tree (list ts tail o) = let a = same_trees ts in let b = same_tail tail in λ j. list (a j) (b j) o
  same_tree (vector ts o) = ap (λ (us : Trees Identifier). vector us o) (same_trees ts)

  same_trees : (ts : Trees Identifier) → map_trees (λ (i : Identifier). i) ts ≡ ts
  same_trees no_trees = refl
  same_trees (tree t ts) = let a = same_tree t in let b = same_trees ts in λ j. tree (a j) (b j)

  same_tail : (tail : Tail Identifier) → map_tail (λ (i : Identifier). i) tail ≡ tail
  same_tail proper = refl
  same_tail (dotted t) = ap dotted (same_tree t)

same_all : {A : Type 0} (f : A → A) → ((x : A) → f x ≡ x) → (xs : List A) → map f xs ≡ xs
same_all f h [] = refl
same_all f h (x ∷ xs) = let a = h x in let b = same_all f h xs in λ j. a j ∷ b j

same_option : (o : Option Identifier) → option_map (λ (i : Identifier). i) o ≡ o
same_option None = refl
same_option (Some i) = refl

same_rule : (r : Rule Identifier) → rule_map (λ (i : Identifier). i) r ≡ r
same_rule r = let a = same_trees r.parts in let b = same_tail r.tail in let c = same_tree r.template in λ j. record { parts = a j; tail = b j; template = c j }

pub same_rules : (r : Rules Identifier) → rules_map (λ (i : Identifier). i) r ≡ r
same_rules r =
    let e = same_option r.ellipsis in let ls = same_all (named_map (λ (i : Identifier). i)) (λ n. refl) r.literals in let rs = same_all (rule_map (λ (i : Identifier). i)) same_rule r.rules in
    λ j. record { ellipsis = e j; literals = ls j; rules = rs j }

-- ---- how reading ends

module _ (known : Known) (here : Here) (t : Tree Identifier) (r : RulesParts Identifier) (s : ScopedState) where
  abbrev reading : Result (Rules Identifier) Broken × ScopedState
  reading = rules_at (searched known) here t r s

  abbrev given_rules : Result (Rules Identifier) (Fault Identifier) → Result (Rules Identifier) Broken × ScopedState
  given_rules q = given (λ (i : Identifier). i) here q (spent (tree_size t) s)

  -- what is read once the nodes were counted
  reading_goes : (q : Result (Rules Identifier) (Fault Identifier)) → rules_parts_of t ≡ Some r → counting (searched known) here (tree_size t) s ≡ done tt (spent (tree_size t) s) → rules_in_form t ≡ q → reading ≡ given_rules q
  reading_goes q parts counted is =
      ap (λ (p : Result (Unit {0}) Broken × ScopedState). p >>= λ u. given (λ (i : Identifier). i) here (rules_of identifiers r.parts r.tail)) counted
      ∙ ap given_rules (sym (in_form t r parts) ∙ is)

  module _ (work : Work) (region : Region) (u v : UnitScope) (ls : List Frames) (parts : rules_parts_of t ≡ Some r) (counted : counting (searched known) here (tree_size t) s ≡ done tt (spent (tree_size t) s)) (stays : Stays work work region u v ls (spent (tree_size t) s)) where
    pub rules_end : (P : Macro → Rules Identifier → Type 0) (k : Macro) (rs : Rules Identifier) → rules_in_form t ≡ Ok rs → P k rs → EndsHere P work work region u v ls (Ok k) reading
    rules_end P k rs is p = subst (λ (q : Result (Rules Identifier) Broken × ScopedState). EndsHere P work work region u v ls (Ok k) q) (sym (reading_goes (Ok rs) parts counted is)) (rs, stays, refl, p)

    bad_by : (P : Macro → Rules Identifier → Type 0) (x : ExpandFault) → u.form.budget.nodes ≤ 200000 → Tells work.symbols here x (rules_in_form t) → EndsHere P work work region u v ls (Err x) reading
    bad_by P (fault.At e) few h =
        subst (λ (q : Result (Rules Identifier) Broken × ScopedState). EndsHere P work work region u v ls (Err (fault.At e)) q) (sym (reading_goes (Err h.0) parts counted h.1))
        (stays, (record { fault = fault_map (λ (i : Identifier). i) h.0; here = here }, refl, subst (λ (b : Fault Identifier). IsFault work.symbols e (record { fault = b; here = here })) (sym (same_fault h.0)) h.2))
    bad_by P fault.Full few h = absurd h
    bad_by P fault.Memory few h = leaves_itself work region u few

    -- rules that are none
    pub bad_end : (P : Macro → Rules Identifier → Type 0) (e : RulesFault) → u.form.budget.nodes ≤ 200000 → Refuses work e (rules_in_form t) → EndsHere P work work region u v ls (Err (told here (rules_fault e))) reading
    bad_end P e few h = bad_by P (told here (rules_fault e)) few (bad_rules_are work here e (rules_in_form t) h)

-- ---- how reading fails before it

module _ (known : Known) (work : Work) (region : Region) (u v : UnitScope) (ls : List Frames) (s : ScopedState) (here : Here) (t : Tree Identifier) (r : RulesParts Identifier) (n : ℕ) (size : n ≡ tree_size t) (e : Stands work u ls s) where
  pub counted_rules : {x : Unit {0}} → Counts u v here n (Ok x) → (counting (searched known) here (tree_size t) s ≡ done tt (spent (tree_size t) s)) × Stays work work region u v ls (spent (tree_size t) s)
  counted_rules {x} h = counts_goes known work region u v ls s here (tree_size t) e {x = x} (subst (λ (k : ℕ). Counts u v here k (Ok x)) size h)

  pub uncounted_rules : (P : Macro → Rules Identifier → Type 0) (x : ExpandFault) → Counts u v here n (Err x) → EndsHere P work work region u v ls (Err x) (rules_at (searched known) here t r s)
  uncounted_rules P x h =
      let go : Unit {0} → Step ScopedState (Rules Identifier) = λ _. given (λ (i : Identifier). i) here (rules_of identifiers r.parts r.tail) in
      let Q : Macro → Unit {0} → Type 0 = λ _ _. Unit {0} in
      here_fails Q P work work region u v ls x (counting (searched known) here (tree_size t) s) go
      (counts_fails known work region u v ls s here (tree_size t) e Q x (subst (λ (k : ℕ). Counts u v here k (Err x)) size h))

-- a macro by what the code was told
pub read_as : (work : Work) (ls : List Frames) (fs : Frames) (k : Macro) (t : Tree Identifier) (r : RulesParts Identifier) (rs : Rules Identifier) → At ls k.scope fs → rules_parts_of t ≡ Some r → rules_in_form t ≡ Ok rs → RulesFor work k.rules rs →
    AreLeaves work.symbols k.leaves.items (leaves_of identifiers rs) → IsMacro work ls k (record { env = fs; rules = rs })
read_as work ls fs k t r rs at parts is for leaves = record {
  scope = at;
  checked = (rs, for, are_checked r.parts r.tail rs (sym (in_form t r parts) ∙ is));
  rules = for;
  leaves = leaves;
}

-- ---- definitions of macros

pub head_known : (names : Names) (n : ℕ) (o : Option (RulesParts Identifier)) → IsRulesHead names (Some n) o → (i : Identifier) × IsIdent names n i
head_known names n None h = absurd h
head_known names n (Some r) h = (r.head, h)

pub means_macro : (work : Work) (u : UnitScope) (ls : List Frames) (s : ScopedState) (c : code_meaning.Meaning) (m : Meaning) → Stands work u ls s → IsMeaning work.symbols s.unit s.form c m → IsMacroIfAny work ls (macro_in u.macros u.form.number c) (macro_at s.macros m)
means_macro work u ls s c m e is = e.macros.there u.form.number c m (subst (λ (n : ℕ). IsMeaning work.symbols s.unit n c m) (sym e.form.number) is)

pub macro_found : (work : Work) (ls : List Frames) (o : Option Macro) (k : Macro) (p : Option (Transformer Frames Identifier)) → o ≡ Some k → IsMacroIfAny work ls o p → (m : Transformer Frames Identifier) × (p ≡ Some m) × IsMacro work ls k m
macro_found work ls None k p is h = none_some k is
macro_found work ls (Some l) k None is h = absurd h
macro_found work ls (Some l) k (Some m) is h = (m, refl, subst (λ (x : Macro). IsMacro work ls x m) (same_Some l k is) h)

pub macro_none : (work : Work) (ls : List Frames) (o : Option Macro) (p : Option (Transformer Frames Identifier)) → o ≡ None → IsMacroIfAny work ls o p → p ≡ None
macro_none work ls None None is h = refl
macro_none work ls None (Some m) is h = absurd h
macro_none work ls (Some k) p is h = none_some k (sym is)

pub nothing_copied : {X : Type 0} (o : Option (Bor X)) → ((b : Bor X) → o ≡ Some b → ⊥) → option_copied o ≡ None
nothing_copied None none = refl
nothing_copied (Some b) none = absurd (none b refl)

module _ (known : Known) (work : Work) (s : ScopedState) (b : Binder) (d : code_def.MacroDef) where
  abbrev defined : Option (Transformer Frames Identifier) → MacroDef
  defined o = macro_with (searched known) s b o

  pub no_def : IsBinder work.symbols s.unit s.form d.binder b → macro_at s.macros (meaning_of b.bound b.ident) ≡ None → d.rules ≡ record { ellipsis = None; literals = []; rules = [] } → d.leaves.items ≡ [] → IsMacroDef work s.unit s.form d (macro_def (searched known) s b)
  no_def binder none rules leaves =
      subst (λ (o : Option (Transformer Frames Identifier)). IsMacroDef work s.unit s.form d (defined o)) (sym none) (record {
        binder = binder;
        rules = subst (λ (x : code_rules.Rules). RulesFor work x no_rules) (sym rules) (record { ellipsis = tt; literals = tt; rules = tt });
        leaves = subst (λ (xs : List code_leaf.RuleLeaf). AllMatch (IsLeaf work.symbols s.unit s.form) xs []) (sym leaves) tt;
      })

  pub a_def : (m : Transformer Frames Identifier) → IsBinder work.symbols s.unit s.form d.binder b → macro_at s.macros (meaning_of b.bound b.ident) ≡ Some m → RulesFor work d.rules m.rules →
      AllMatch (IsLeaf work.symbols s.unit s.form) d.leaves.items (map (definition_leaf s m.env) (leaves_of identifiers m.rules)) → IsMacroDef work s.unit s.form d (macro_def (searched known) s b)
  a_def m binder is rules leaves =
      subst (λ (o : Option (Transformer Frames Identifier)). IsMacroDef work s.unit s.form d (defined o)) (sym is) (record {
        binder = binder;
        rules = subst (λ (x : Rules Identifier). RulesFor work d.rules x) (sym (same_rules m.rules)) rules;
        leaves = leaves;
      })

-- ---- the head that means `syntax-rules`

pub auxiliary_rules : (k : code_auxiliary.Auxiliary) (h : Head) → IsHead (heads.Auxiliary k) h → is_rules (IsAuxiliary (auxiliary_as k)) ≡ is_rules h
auxiliary_rules k (IsCore c) is = absurd is
auxiliary_rules k (IsAuxiliary a) is = ap (λ x. is_rules (IsAuxiliary x)) is
auxiliary_rules k (meaning.IsMacro m) is = absurd is
auxiliary_rules k IsNone is = absurd is
