-- What stood for a core, a part, a clause or what was set aside in a work still does in one that grew.
use Rattle.std.proofs.Common.{ℕ, List, [], ◌∷◌, Option, Some, None}
use Rattle.scheme_model.specs.ExpansionFaults.{Named}
use Rattle.scheme_model.specs.Cores.{Core, Ref, Const, Quote, Quasi, Lambda, CaseLambda, If, Set, Call, Body, LetSyntax, Cores, no_cores, core, Clauses, no_clauses, clause, Parts, no_parts, part, Part, Expression, Define, Values, Fields, Syntax, Binder, Target, MacroDef, RuleLeaf}
use Rattle.scheme_model.specs.Trees.{atom, list, name, tree}
use Rattle.scheme_model.specs.Ident.{Ident as Identifier}
use Rattle.scheme_model.specs.RulesShape.{Rule, Rules}
use Rattle.scheme_model.specs.Shapes.{Clause}
use Rattle.scheme_model.specs.Order.{Item, Form, WaitingUse}
use Rattle.scheme_model.specs.Order as model
use Rattle.scheme_model.specs.Expression.{meaning_of}
use Rattle.syntax_tree.specs.Names.{KeepsNames}
use Rattle.syntax_tree.specs.Macros.{AreIdents, IsEllipsisOf, IsRule, AreRules, RulesFor}
use Rattle.syntax_tree.specs.Works.{KeepsTrees}
use Rattle.syntax_tree.specs.declared.rules.Rule as code_rule
use Rattle.syntax_tree.specs.declared.rules.Rules as code_rules
use Rattle.syntax_tree.specs.declared.trees.Work.{Work}
use Rattle.syntax_tree.specs.declared.trees.table.Region.{Region}
use Rattle.scheme_model.specs.Meaning.{Meaning, Local, Global, Standard, Free}
use Rattle.syntax_tree.specs.Meant.{IsMeaning}
use Rattle.syntax_tree.specs.declared.meaning.Meaning as code_meaning
use Rattle.syntax_tree.specs.declared.meaning.Meaning.TheVariants as meanings
use Rattle.core_forms.specs.Parts as forms
use Rattle.core_forms.specs.Parts.{IsName}
use Rattle.core_forms.specs.declared.shape.NamePart.{NamePart}
use Rattle.core_forms.specs.declared.shape.ClauseShape.{ClauseShape}
use Rattle.core_tree.specs.Names.{AllMatch, IsBinder, IsTarget, IsLeaf, IsMacro}
use Rattle.core_tree.specs.Cores.{CoreStands, CoresStand, ClausesStand, PartsStand, PartStands}
use Rattle.core_tree.specs.declared.cores.Binder as code_binder
use Rattle.core_tree.specs.declared.cores.Target as code_target
use Rattle.core_tree.specs.declared.cores.RuleLeaf as code_leaf
use Rattle.core_tree.specs.declared.cores.MacroDef as code_macro
use Rattle.core_tree.specs.declared.cores.Core as code
use Rattle.core_tree.specs.declared.cores.Clause as code_clause
use Rattle.core_tree.specs.declared.cores.CorePart as code_part
use Rattle.unit_scopes.specs.Kept.{FormFor, ClauseFor, KeptFor, WaitsFor}
use Rattle.form_parts.specs.declared.items.Form as code_form
use Rattle.form_parts.specs.declared.items.Kept as code_kept
use Rattle.form_parts.specs.declared.items.WaitingUse as code_waiting
use Rattle.unit_scopes.proofs.OutcomeLaws.{works_on, all_named_on, parts_on}

pub every_on : {X Y : Type 0} (P Q : X → Y → Type 0) → ((x : X) (y : Y) → P x y → Q x y) → (xs : List X) (ys : List Y) → AllMatch P xs ys → AllMatch Q xs ys
every_on P Q on [] [] h = h
every_on P Q on [] (y ∷ ys) h = h
every_on P Q on (x ∷ xs) [] h = h
every_on P Q on (x ∷ xs) (y ∷ ys) h = (on x y h.0, every_on P Q on xs ys h.1)

-- the same by the words of core forms
every_part_on : {X Y : Type 0} (P Q : X → Y → Type 0) → ((x : X) (y : Y) → P x y → Q x y) → (xs : List X) (ys : List Y) → forms.AllMatch P xs ys → forms.AllMatch Q xs ys
every_part_on P Q on [] [] h = h
every_part_on P Q on [] (y ∷ ys) h = h
every_part_on P Q on (x ∷ xs) [] h = h
every_part_on P Q on (x ∷ xs) (y ∷ ys) h = (on x y h.0, every_part_on P Q on xs ys h.1)

module _ (old new : Work) (trees : KeepsTrees old new) (names : KeepsNames old.symbols new.symbols) where
  -- ---- macros

  idents_on : (ns : List ℕ) (is : List (Named Identifier)) → AreIdents old.symbols ns is → AreIdents new.symbols ns is
  idents_on [] [] h = h
  idents_on [] (i ∷ is) h = h
  idents_on (n ∷ ns) [] h = h
  idents_on (n ∷ ns) (i ∷ is) h = (names.idents n i.name h.0, idents_on ns is h.1)

  ellipsis_on : (o : Option ℕ) (p : Option Identifier) → IsEllipsisOf old.symbols o p → IsEllipsisOf new.symbols o p
  ellipsis_on None None h = h
  ellipsis_on None (Some i) h = h
  ellipsis_on (Some n) None h = h
  ellipsis_on (Some n) (Some i) h = names.idents n i h

  rule_on : (n : code_rule.Rule) (r : Rule Identifier) → IsRule old n r → IsRule new n r
  rule_on n r h = record {
    head = h.head;
    head_place = h.head_place;
    place = h.place;
    pattern = trees.trees n.pattern (list (tree (name h.head h.head_place) r.parts) r.tail h.place) h.pattern;
    template = trees.trees n.template r.template h.template;
  }

  each_rule_on : (ns : List code_rule.Rule) (rs : List (Rule Identifier)) → AreRules old ns rs → AreRules new ns rs
  each_rule_on [] [] h = h
  each_rule_on [] (r ∷ rs) h = h
  each_rule_on (n ∷ ns) [] h = h
  each_rule_on (n ∷ ns) (r ∷ rs) h = (rule_on n r h.0, each_rule_on ns rs h.1)

  rules_stand_on : (n : code_rules.Rules) (r : Rules Identifier) → RulesFor old n r → RulesFor new n r
  rules_stand_on n r h = record { ellipsis = ellipsis_on n.ellipsis r.ellipsis h.ellipsis; literals = idents_on n.literals r.literals h.literals; rules = each_rule_on n.rules r.rules h.rules }

  pub name_on : (x : NamePart) (n : Named Identifier) → IsName old x n → IsName new x n
  name_on x n h = (names.idents x.ident n.name h.0, h.1)

  module _ (unit form : ℕ) where
    meaning_on : (m : code_meaning.Meaning) (d : Meaning) → IsMeaning old.symbols unit form m d → IsMeaning new.symbols unit form m d
    meaning_on (meanings.Local n) d h = h
    meaning_on (meanings.Global u n) (Local v) h = h
    meaning_on (meanings.Global u n) (Global w i) h = (h.0, names.idents n i h.1)
    meaning_on (meanings.Global u n) (Standard s) h = h
    meaning_on (meanings.Global u n) (Free s) h = h
    meaning_on (meanings.Standard n) (Local v) h = h
    meaning_on (meanings.Standard n) (Global w i) h = h
    meaning_on (meanings.Standard n) (Standard s) h = names.symbols n s h
    meaning_on (meanings.Standard n) (Free s) h = h
    meaning_on (meanings.Free n) (Local v) h = h
    meaning_on (meanings.Free n) (Global w i) h = h
    meaning_on (meanings.Free n) (Standard s) h = h
    meaning_on (meanings.Free n) (Free s) h = names.symbols n s h

    pub binder_on : (x : code_binder.Binder) (b : Binder) → IsBinder old.symbols unit form x b → IsBinder new.symbols unit form x b
    binder_on x b h = record { number = h.number; ident = names.idents x.ident b.ident h.ident; place = h.place }

    pub target_on : (x : code_target.Target) (t : Target) → IsTarget old.symbols unit form x t → IsTarget new.symbols unit form x t
    target_on x t h = record { meaning = meaning_on x.meaning t.meaning h.meaning; ident = names.idents x.ident t.ident h.ident; place = h.place }

    leaf_on : (x : code_leaf.RuleLeaf) (l : RuleLeaf) → IsLeaf old.symbols unit form x l → IsLeaf new.symbols unit form x l
    leaf_on x l h = record { target = target_on x.target l.target h.target; literal = h.literal }

    pub macro_def_on : (x : code_macro.MacroDef) (d : MacroDef) → IsMacro old unit form x d → IsMacro new unit form x d
    macro_def_on x d h = record {
      binder = binder_on x.binder d.binder h.binder;
      rules = rules_stand_on x.rules d.rules h.rules;
      leaves = every_on (IsLeaf old.symbols unit form) (IsLeaf new.symbols unit form) leaf_on x.leaves.items d.leaves h.leaves;
    }

    pub binders_on : (xs : List code_binder.Binder) (bs : List Binder) → AllMatch (IsBinder old.symbols unit form) xs bs → AllMatch (IsBinder new.symbols unit form) xs bs
    binders_on xs bs h = every_on (IsBinder old.symbols unit form) (IsBinder new.symbols unit form) binder_on xs bs h

    -- ---- cores

    mutual
      pub core_on : (c : code.Core) (m : Core) → CoreStands old unit form c m → CoreStands new unit form c m
      core_on c (Ref t) h = (h.0, h.1, target_on h.0 t h.2)
      core_on c (Const a) h = (h.0, h.1, h.2, trees.trees h.0 (atom a h.1) h.3)
      core_on c (Quote s) h = (h.0, h.1, h.2, trees.trees h.0 h.1 h.3, h.4)
      core_on c (Quasi p ms) h = (h.0, h.1, h.2, h.3, (h.4.0, trees.trees h.0 h.4.0 h.4.1, h.4.2, h.4.3), cores_on h.2.items ms h.5)
      core_on c (Lambda bs m) h = (h.0, h.1, h.2, (h.3.0, h.3.1, h.3.2, (binders_on h.3.0.items bs.names h.3.3.0, h.3.3.1)), core_on h.1.value m h.4)
      core_on c (CaseLambda ms) h = (h.0, h.1, clauses_on h.0.items ms h.2)
      core_on c (If ms) h = (h.0, h.1, cores_on h.0.items ms h.2)
      core_on c (Set t m) h = (h.0, h.1, h.2, target_on h.0 t h.3, core_on h.1.value m h.4)
      core_on c (Call ms) h = (h.0, h.1, cores_on h.0.items ms h.2)
      core_on c (Body ms) h = (h.0, h.1, parts_stand_on h.0.items ms h.2)
      core_on c (LetSyntax ds m) h = (h.0, h.1, h.2, every_on (IsMacro old unit form) (IsMacro new unit form) macro_def_on h.0.items ds h.3, core_on h.1.value m h.4)

      pub cores_on : (xs : List code.Core) (ms : Cores) → CoresStand old unit form xs ms → CoresStand new unit form xs ms
      cores_on [] no_cores h = h
      cores_on [] (core m ms) h = h
      cores_on (x ∷ xs) no_cores h = h
      cores_on (x ∷ xs) (core m ms) h = (core_on x m h.0, cores_on xs ms h.1)

      pub clauses_on : (xs : List code_clause.Clause) (ms : Clauses) → ClausesStand old unit form xs ms → ClausesStand new unit form xs ms
      clauses_on [] no_clauses h = h
      clauses_on [] (clause bs m ms) h = h
      clauses_on (x ∷ xs) no_clauses h = h
      clauses_on (x ∷ xs) (clause bs m ms) h = ((h.0.0, (h.0.1.0, h.0.1.1, h.0.1.2, (binders_on h.0.1.0.items bs.names h.0.1.3.0, h.0.1.3.1)), core_on h.0.0.value m h.0.2), clauses_on xs ms h.1)

      pub parts_stand_on : (xs : List code_part.CorePart) (ms : Parts) → PartsStand old unit form xs ms → PartsStand new unit form xs ms
      parts_stand_on [] no_parts h = h
      parts_stand_on [] (part m ms) h = h
      parts_stand_on (x ∷ xs) no_parts h = h
      parts_stand_on (x ∷ xs) (part m ms) h = (part_on x m h.0, parts_stand_on xs ms h.1)

      pub part_on : (p : code_part.CorePart) (m : Part) → PartStands old unit form p m → PartStands new unit form p m
      part_on p (Expression m) h = (h.0, h.1, core_on h.0 m h.2)
      part_on p (Define b m) h = (h.0, h.1, h.2, binder_on h.0 b h.3, core_on h.1 m h.4)
      part_on p (Values bs m) h = (h.0, h.1, h.2, h.3, (binders_on h.0.items bs.names h.4.0, h.4.1), core_on h.2 m h.5)
      part_on p (Fields r) h = (h.0, h.1, h.2, h.3, h.4, binders_on h.0.items r.binders h.5, binders_on h.1.items r.fields h.6, h.7, h.8)
      part_on p (Syntax d) h = (h.0, h.1, macro_def_on h.0 d h.2)

    -- ---- what was set aside

    pub form_on : (region : Region) (f : code_form.Form) (m : Form Identifier) → FormFor old region f m → FormFor new region f m
    form_on region f m h = (h.0, works_on old new region f.tree m.tree trees h.1)

    pub clause_on : (region : Region) (x : ClauseShape) (c : Clause Identifier) → ClauseFor old region x c → ClauseFor new region x c
    clause_on region x c h = (
      record {
        formals = record { names = every_part_on (IsName old) (IsName new) name_on x.formals.names.items c.formals.names h.0.formals.names; rest = h.0.formals.rest };
        body = parts_on old new x.body.items c.body trees h.0.body;
      },
      all_named_on old new region x.body.items trees h.1,
      h.2,
    )

    pub kept_on : (region : Region) (k : code_kept.Kept) (i : Item Identifier) → KeptFor old region unit form k i → KeptFor new region unit form k i
    kept_on region k (model.Expression m) h = (h.0, h.1, form_on region h.0 m h.2)
    kept_on region k (model.Value b m) h = (h.0, h.1, h.2, binder_on h.0 b h.3, form_on region h.1 m h.4)
    kept_on region k (model.Function b here c) h = (h.0, h.1, h.2, binder_on h.0 b h.3, clause_on region h.1 c h.4)
    kept_on region k (model.Assigned n m) h = (h.0, h.1, h.2, name_on h.0 n h.3, form_on region h.1 m h.4)
    kept_on region k (model.AssignedFunction n here c) h = (h.0, h.1, h.2, name_on h.0 n h.3, clause_on region h.1 c h.4)
    kept_on region k (model.ValuesOf bs m) h = (h.0, h.1, h.2, h.3, (binders_on h.0.items bs.names h.4.0, h.4.1), form_on region h.2 m h.5)
    kept_on region k (model.Record r) h = (h.0, h.1, h.2, h.3, h.4, binders_on h.0.items r.binders h.5, binders_on h.1.items r.fields h.6, h.7, h.8)
    kept_on region k (model.Macro b here) h = (h.0, h.1, h.2, binder_on h.0 b h.3, meaning_on h.1 (meaning_of b.bound b.ident) h.4)

    pub waits_on : (x : code_waiting.WaitingUse) (w : WaitingUse Identifier) → WaitsFor old unit form x w → WaitsFor new unit form x w
    waits_on x w h = record { keyword = target_on x.keyword w.keyword h.keyword; literals = every_on (IsName old) (IsName new) name_on x.literals.items w.literals h.literals }
