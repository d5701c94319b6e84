-- The shape of a list of rules, part by part.
use Rattle.std.proofs.Common.{◌≡◌, ◌≢◌, ℕ, suc, List, [], ◌∷◌, ◌++◌, true, false, Option, Result, Ok, Err, refl, sym, ap, ◌∙◌, subst, append_assoc}
use Rattle.std.specs.Prelude.{is_some}
use Rattle.std.specs.Result.{IsErrAnd}
use Rattle.std.proofs.lemmas.List.{append-nil}
use Rattle.scheme_model.specs.declared.Occ.{Occ}
use Rattle.scheme_model.specs.Trees.{Tree, name, atom, list, vector, Trees, no_trees, tree, Tail, proper, dotted}
use Rattle.scheme_model.specs.TreeParts.{count}
use Rattle.scheme_model.specs.Matching.{behind}
use Rattle.scheme_model.specs.ExpansionFaults.{Named, named, Fault, BadRules, BadForm, TwoEllipses, DuplicateVariable, EllipsisDepth, IdleEllipsis, ◌>>◌}
use Rattle.scheme_model.specs.Shapes.{names_of}
use Rattle.scheme_model.specs.RulesShape.{Rule, rules_behind, rules_in, rule_of, rule_in, bad}
use Rattle.scheme_model.specs.Ident.{Ident as Identifier}
use Rattle.syntax_tree.specs.Macros.{IsIdent, AreIdents, IsRule, AreRules}
use Rattle.syntax_tree.specs.Works.{StandsFor}
use Rattle.syntax_tree.specs.Looks.{EndStands}
use Rattle.syntax_tree.proofs.Looking.{some_end, no_end}
use Rattle.syntax_tree.specs.declared.trees.nodes.Tree as number
use Rattle.syntax_tree.specs.declared.trees.Work.{Work}
use Rattle.syntax_tree.specs.declared.rules.Rule as code_rule
use Rattle.rules_check.specs.declared.fault.RulesFault.{RulesFault}
use Rattle.rules_check.specs.declared.fault.RulesFault.TheVariants as fault
use Rattle.rules_check.specs.Checked.{Refuses, Ends, literals_in, pair_in, is_headed, starts_name}

-- ---- faults that are passed on

pub refuses_then : {Y Z : Type 0} (work : Work) (e : RulesFault) (s : Result Y (Fault Identifier)) (f : Y → Result Z (Fault Identifier)) → Refuses work e s → Refuses work e (s >> f)
refuses_then work fault.BadShape s f h = subst (λ x. (x >> f) ≡ Err BadRules) (sym h) refl
refuses_then work fault.TwoEllipses s f h = subst (λ x. (x >> f) ≡ Err TwoEllipses) (sym h) refl
refuses_then work (fault.DuplicateVariable n) s f h = (h.0, subst (λ x. (x >> f) ≡ Err (DuplicateVariable h.0)) (sym h.1) refl, h.2)
refuses_then work (fault.Depth n) s f h = (h.0, subst (λ x. (x >> f) ≡ Err (EllipsisDepth h.0)) (sym h.1) refl, h.2)
refuses_then work fault.IdleEllipsis s f h = subst (λ x. (x >> f) ≡ Err IdleEllipsis) (sym h) refl
refuses_then work fault.Memory s f h = tt

-- a fault that a call hands on
pub ends_err : {X Y : Type 0} (work : Work) (P : X → Y → Type 0) (s : Result Y (Fault Identifier)) (r : Result X RulesFault) (e : RulesFault) → IsErrAnd r (λ f. f ≡ e) → Refuses work e s → Ends work P s r
ends_err work P s (Ok x) e h p = absurd h
ends_err work P s (Err f) e h p = subst (λ x. Refuses work x s) (sym h) p

-- the same by another way to the definition's answer
pub ends_same : {X Y : Type 0} (work : Work) (P : X → Y → Type 0) (s z : Result Y (Fault Identifier)) (r : Result X RulesFault) → s ≡ z → Ends work P z r → Ends work P s r
ends_same work P s z r e h = subst (λ x. Ends work P x r) (sym e) h

-- ---- lists with a tail and without

pub list_dotted : (work : Work) (end : Option number.Tree) (t : Tree Identifier) (ts : Trees Identifier) (tail : Tail Identifier) (o : Option Occ) → t ≡ list ts tail o → EndStands work end tail → is_some end ≡ true →
    (u : Tree Identifier) × (t ≡ list ts (dotted u) o)
list_dotted work end t ts tail o e h s = let d = some_end work end tail s h in (d.0, e ∙ ap (λ (x : Tail Identifier). list ts x o) d.1)

pub list_proper : (work : Work) (end : Option number.Tree) (t : Tree Identifier) (ts : Trees Identifier) (tail : Tail Identifier) (o : Option Occ) → t ≡ list ts tail o → EndStands work end tail → is_some end ≡ false →
    t ≡ list ts proper o
list_proper work end t ts tail o e h s = e ∙ ap (λ (x : Tail Identifier). list ts x o) (no_end work end tail s h)

-- ---- lists after others

-- so many came before
abbrev pub after : {A : Type 0} → List A → Result (List A) (Fault Identifier) → Result (List A) (Fault Identifier)
after xs (Ok ys) = Ok (xs ++ ys)
after xs (Err e) = Err e

pub after_none : {A : Type 0} (s : Result (List A) (Fault Identifier)) → after [] s ≡ s
after_none (Ok ys) = refl
after_none (Err e) = refl

pub after_one : {A : Type 0} (xs : List A) (x : A) (s : Result (List A) (Fault Identifier)) → after (xs ++ x ∷ []) s ≡ after xs (s >> λ ys. Ok (x ∷ ys))
after_one xs x (Ok ys) = ap Ok (append_assoc xs (x ∷ []) ys)
after_one xs x (Err e) = refl

pub idents_more : (work : Work) (ns : List ℕ) (is : List (Named Identifier)) (n : ℕ) (i : Named Identifier) → AreIdents work.symbols ns is → IsIdent work.symbols n i.name → AreIdents work.symbols (ns ++ n ∷ []) (is ++ i ∷ [])
idents_more work [] [] n i h g = (g, tt)
idents_more work [] (j ∷ is) n i h g = absurd h
idents_more work (m ∷ ns) [] n i h g = absurd h
idents_more work (m ∷ ns) (j ∷ is) n i h g = (h.0, idents_more work ns is n i h.1 g)

pub rules_more : (work : Work) (ns : List code_rule.Rule) (rs : List (Rule Identifier)) (n : code_rule.Rule) (r : Rule Identifier) → AreRules work ns rs → IsRule work n r → AreRules work (ns ++ n ∷ []) (rs ++ r ∷ [])
rules_more work [] [] n r h g = (g, tt)
rules_more work [] (s ∷ rs) n r h g = absurd h
rules_more work (m ∷ ns) [] n r h g = absurd h
rules_more work (m ∷ ns) (s ∷ rs) n r h g = (h.0, rules_more work ns rs n r h.1 g)

-- names that were read up to a place
pub record NamesUpTo (work : Work) (ts : Trees Identifier) (k : ℕ) (ns : List ℕ) : Type 0 where
  pub names : List (Named Identifier)
  pub are : AreIdents work.symbols ns names
  pub whole : after names (names_of (behind k ts)) ≡ names_of ts

pub names_none : (work : Work) (ts : Trees Identifier) → NamesUpTo work ts 0 []
names_none work ts = record { names = []; are = tt; whole = after_none (names_of ts) }

pub names_more : (work : Work) (ts : Trees Identifier) (k : ℕ) (ns : List ℕ) (t : Tree Identifier) (n : ℕ) (i : Identifier) (o : Option Occ) → NamesUpTo work ts k ns → behind k ts ≡ tree t (behind (suc k) ts) → t ≡ name i o → IsIdent work.symbols n i →
    NamesUpTo work ts (suc k) (ns ++ n ∷ [])
names_more work ts k ns t n i o p e s h =
    record {
      names = p.names ++ named i o ∷ [];
      are = idents_more work ns p.names n (named i o) p.are h;
      whole = after_one p.names (named i o) (names_of (behind (suc k) ts)) ∙ ap (after p.names) (sym (ap names_of (e ∙ ap (λ x. tree x (behind (suc k) ts)) s))) ∙ p.whole;
    }

pub names_all : (work : Work) (ts : Trees Identifier) (k : ℕ) (ns : List ℕ) → NamesUpTo work ts k ns → behind k ts ≡ no_trees → (is : List (Named Identifier)) × (names_of ts ≡ Ok is) × AreIdents work.symbols ns is
names_all work ts k ns p e = (p.names, sym p.whole ∙ ap (λ us. after p.names (names_of us)) e ∙ ap Ok (append-nil p.names), p.are)

-- what is no identifier ends them
abbrev pub IsNoName : Tree Identifier → Type 0
IsNoName (name i o) = ⊥
IsNoName (atom a o) = Unit {0}
IsNoName (list ts tail o) = Unit {0}
IsNoName (vector ts o) = Unit {0}

no_name : (t : Tree Identifier) (us : Trees Identifier) → IsNoName t → names_of (tree t us) ≡ Err BadForm
no_name (name i o) us h = absurd h
no_name (atom a o) us h = refl
no_name (list ts tail o) us h = refl
no_name (vector ts o) us h = refl

pub names_end : (work : Work) (ts : Trees Identifier) (k : ℕ) (ns : List ℕ) (t : Tree Identifier) → NamesUpTo work ts k ns → behind k ts ≡ tree t (behind (suc k) ts) → IsNoName t → bad (names_of ts) ≡ Err BadRules
names_end work ts k ns t p e h =
    ap bad (sym p.whole ∙ ap (λ us. after p.names (names_of us)) e ∙ ap (after p.names) (no_name t (behind (suc k) ts) h))

-- ---- rules in a row

-- rules that were read from a place up to another
pub record RulesUpTo (work : Work) (ts : Trees Identifier) (from k : ℕ) (ns : List code_rule.Rule) : Type 0 where
  pub rules : List (Rule Identifier)
  pub are : AreRules work ns rules
  pub whole : after rules (rules_in (behind k ts)) ≡ rules_in (behind from ts)

pub rules_none : (work : Work) (ts : Trees Identifier) (from : ℕ) → RulesUpTo work ts from from []
rules_none work ts from = record { rules = []; are = tt; whole = after_none (rules_in (behind from ts)) }

pub rules_step : (work : Work) (ts : Trees Identifier) (from k : ℕ) (ns : List code_rule.Rule) (t : Tree Identifier) (n : code_rule.Rule) (r : Rule Identifier) → RulesUpTo work ts from k ns →
    behind k ts ≡ tree t (behind (suc k) ts) → rule_of t ≡ Ok r → IsRule work n r → RulesUpTo work ts from (suc k) (ns ++ n ∷ [])
rules_step work ts from k ns t n r p e s h =
    record {
      rules = p.rules ++ r ∷ [];
      are = rules_more work ns p.rules n r p.are h;
      whole =
          after_one p.rules r (rules_in (behind (suc k) ts))
          ∙ ap (after p.rules) (sym (ap rules_in e ∙ ap (λ (x : Result (Rule Identifier) (Fault Identifier)). x >> λ y. rules_in (behind (suc k) ts) >> λ ys. Ok (y ∷ ys)) s)) ∙ p.whole;
    }

pub rules_all : (work : Work) (ts : Trees Identifier) (from k : ℕ) (ns : List code_rule.Rule) → RulesUpTo work ts from k ns → behind k ts ≡ no_trees →
    (rs : List (Rule Identifier)) × (rules_in (behind from ts) ≡ Ok rs) × AreRules work ns rs
rules_all work ts from k ns p e = (p.rules, sym p.whole ∙ ap (λ us. after p.rules (rules_in us)) e ∙ ap Ok (append-nil p.rules), p.are)

pub rules_end : (work : Work) (ts : Trees Identifier) (from k : ℕ) (ns : List code_rule.Rule) (t : Tree Identifier) → RulesUpTo work ts from k ns → behind k ts ≡ tree t (behind (suc k) ts) →
    rule_of t ≡ Err BadRules → rules_in (behind from ts) ≡ Err BadRules
rules_end work ts from k ns t p e s =
    sym p.whole ∙ ap (λ us. after p.rules (rules_in us)) e
    ∙ ap (λ (x : Result (Rule Identifier) (Fault Identifier)). after p.rules (x >> λ y. rules_in (behind (suc k) ts) >> λ ys. Ok (y ∷ ys))) s

-- ---- one rule

-- the place of a list doesn't matter
pub rule_place : (ts : Trees Identifier) (o : Option Occ) → rule_of (list ts proper o) ≡ pair_in ts
rule_place no_trees o = refl
rule_place (tree p no_trees) o = refl
rule_place (tree (name i q) (tree t no_trees)) o = refl
rule_place (tree (atom a q) (tree t no_trees)) o = refl
rule_place (tree (list us end q) (tree t no_trees)) o = refl
rule_place (tree (vector us q) (tree t no_trees)) o = refl
rule_place (tree p (tree t (tree u us))) o = refl

pub rule_dotted : (ts : Trees Identifier) (u : Tree Identifier) (o : Option Occ) → rule_of (list ts (dotted u) o) ≡ Err BadRules
rule_dotted no_trees u o = refl
rule_dotted (tree p no_trees) u o = refl
rule_dotted (tree p (tree t no_trees)) u o = refl
rule_dotted (tree p (tree t (tree v vs))) u o = refl

pub not_two : (ts : Trees Identifier) → count ts ≢ 2 → pair_in ts ≡ Err BadRules
not_two no_trees h = refl
not_two (tree p no_trees) h = refl
not_two (tree p (tree t no_trees)) h = absurd (h refl)
not_two (tree p (tree t (tree u us))) h = refl

no_head : (us : Trees Identifier) (end : Tail Identifier) (t : Tree Identifier) → starts_name us ≡ false → rule_in us end t ≡ Err BadRules
no_head no_trees end t h = refl
no_head (tree (name i o) us) end t h = absurd cc
no_head (tree (atom a o) us) end t h = refl
no_head (tree (list vs tail o) us) end t h = refl
no_head (tree (vector vs o) us) end t h = refl

pub not_headed : (p t : Tree Identifier) → is_headed p ≡ false → pair_in (tree p (tree t no_trees)) ≡ Err BadRules
not_headed (name i q) t h = refl
not_headed (atom a q) t h = refl
not_headed (vector us q) t h = refl
not_headed (list us end q) t h = no_head us end t h

-- a pattern and a template
pub record IsPair (p t : Tree Identifier) : Type 0 where
  pub rule : Rule Identifier
  pub read : pair_in (tree p (tree t no_trees)) ≡ Ok rule
  pub head : Identifier
  pub head_place : Option Occ
  pub place : Option Occ
  pub pattern : p ≡ list (tree (name head head_place) rule.parts) rule.tail place
  pub template : t ≡ rule.template

pub headed : (p t : Tree Identifier) → is_headed p ≡ true → IsPair p t
headed (name i q) t h = absurd cc
headed (atom a q) t h = absurd cc
headed (vector us q) t h = absurd cc
headed (list no_trees end q) t h = absurd cc
headed (list (tree (name i o) us) end q) t h =
    record { rule = record { parts = us; tail = end; template = t }; read = refl; head = i; head_place = o; place = q; pattern = refl; template = refl }
headed (list (tree (atom a o) us) end q) t h = absurd cc
headed (list (tree (list vs tail o) us) end q) t h = absurd cc
headed (list (tree (vector vs o) us) end q) t h = absurd cc

pub pair_rule : (work : Work) (n : code_rule.Rule) (p t : Tree Identifier) (h : IsPair p t) → StandsFor work n.pattern p → StandsFor work n.template t → IsRule work n h.rule
pair_rule work n p t h a b =
    record { head = h.head; head_place = h.head_place; place = h.place; pattern = subst (StandsFor work n.pattern) h.pattern a; template = subst (StandsFor work n.template) h.template b }

-- ---- literals, and then rules

pub behind_is : (e : Option Identifier) (t : Tree Identifier) (ts : Trees Identifier) →
    rules_behind e (tree t ts) ≡ (literals_in t >> λ ls. rules_in ts >> λ rs. Ok (record { ellipsis = e; literals = ls; rules = rs }))
behind_is e (name i o) ts = refl
behind_is e (atom a o) ts = refl
behind_is e (vector us o) ts = refl
behind_is e (list us (dotted u) o) ts = refl
behind_is e (list us proper o) ts = refl

-- a list of literals that is refused
pub behind_read : (work : Work) (e : Option Identifier) (t : Tree Identifier) (us ts : Trees Identifier) → ts ≡ tree t us → (f : RulesFault) → Refuses work f (literals_in t) → Refuses work f (rules_behind e ts)
behind_read work e t us ts split f h =
    subst (Refuses work f) (sym (ap (rules_behind e) split ∙ behind_is e t us))
    (refuses_then work f (literals_in t) (λ ls. rules_in us >> λ rs. Ok (record { ellipsis = e; literals = ls; rules = rs })) h)

-- the rules behind them that are refused
pub behind_each : (work : Work) (e : Option Identifier) (t : Tree Identifier) (us ts : Trees Identifier) → ts ≡ tree t us → (ls : List (Named Identifier)) → literals_in t ≡ Ok ls →
    (f : RulesFault) → Refuses work f (rules_in us) → Refuses work f (rules_behind e ts)
behind_each work e t us ts split ls l f h =
    subst (Refuses work f) (sym (ap (rules_behind e) split ∙ behind_is e t us ∙ ap (λ (x : Result (List (Named Identifier)) (Fault Identifier)). x >> λ ls. rules_in us >> λ rs. Ok (record { ellipsis = e; literals = ls; rules = rs })) l))
    (refuses_then work f (rules_in us) (λ rs. Ok (record { ellipsis = e; literals = ls; rules = rs })) h)

-- both are read
pub behind_both : (e : Option Identifier) (t : Tree Identifier) (us ts : Trees Identifier) → ts ≡ tree t us → (ls : List (Named Identifier)) → literals_in t ≡ Ok ls → (rs : List (Rule Identifier)) → rules_in us ≡ Ok rs →
    rules_behind e ts ≡ Ok (record { ellipsis = e; literals = ls; rules = rs })
behind_both e t us ts split ls l rs r =
    ap (rules_behind e) split ∙ behind_is e t us
    ∙ (λ k. l k >> λ (xs : List (Named Identifier)). r k >> λ ys. Ok (record { ellipsis = e; literals = xs; rules = ys }))
