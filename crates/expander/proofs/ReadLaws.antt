-- How an expression is read: heads, keywords, identifiers as values, and what was read.
use Rattle.std.proofs.Common.{◌≡◌, ℕ, ◌<◌, List, [], ◌∷◌, length, Bool, true, false, Option, Some, None, Result, Err, refl, sym, ap, subst}
use Rattle.std.proofs.lemmas.Option.{slice_get_within}
use Rattle.scheme_model.specs.declared.Occ.{Occ}
use Rattle.scheme_model.specs.Trees.{Tree, name, atom, list, vector, Trees, no_trees, tree, Tail}
use Rattle.scheme_model.specs.Ident.{Ident as Identifier}
use Rattle.scheme_model.specs.ExpansionFaults.{Named, KeywordAsValue}
use Rattle.scheme_model.specs.Keywords.{core_named, CoreKeyword, auxiliary_named, Auxiliary}
use Rattle.scheme_model.specs.Meaning.{Meaning, Local, Global, Standard, Free, Head, IsCore, IsAuxiliary, IsMacro, IsNone, is_keyword, macro_or_none, other_standard, standard_head, head_as}
use Rattle.scheme_model.specs.Requirements.{Known}
use Rattle.scheme_model.specs.Cores.{Target}
use Rattle.scheme_model.specs.Steps.{Broken, Step, fails}
use Rattle.scheme_model.specs.Order.{Here, Transformer, Headed, is_some, head_of}
use Rattle.scheme_model.specs.Expression.{unless_keyword}
use Rattle.scheme_model.specs.CountedExpansion.{means_here}
use Rattle.scheme_model.specs.ScopedExpansion.{Frames, ScopedState, macro_at}
use Rattle.unit_scopes.specs.Searched.{searched}
use Rattle.syntax_tree.specs.Names.{Names}
use Rattle.syntax_tree.specs.declared.trees.Work.{Work}
use Rattle.core_forms.specs.Parts.{IsName, IsNameIfAny}
use Rattle.core_forms.specs.declared.shape.NamePart.{NamePart}
use Rattle.core_tree.specs.Names.{IsTarget}
use Rattle.core_tree.specs.Traces.{IsFault}
use Rattle.core_tree.specs.declared.cores.Target as code_target
use Rattle.form_parts.specs.Heads.{IsHead}
use Rattle.form_parts.specs.declared.heads.Head as code_head
use Rattle.form_parts.specs.declared.heads.Head.TheVariants as heads
use Rattle.unit_scopes.specs.Used.{target_at as used_at}
use Rattle.expander.specs.Ready.{not_macro, IsSettled, IsHeadTarget, head_asked, TestsVariable}
use Rattle.feature_requirements.specs.declared.fault.ExpandFault.{ExpandFault}
use Rattle.feature_requirements.specs.declared.fault.ExpandFault.TheVariants as fault
use Rattle.syntax_tree.specs.declared.trees.table.Region.{Region}
use Rattle.form_parts.specs.FormsSeen.{name_in, head_name_of}
use Rattle.unit_scopes.specs.declared.scope.UnitScope.{UnitScope}
use Rattle.noted_steps.specs.Noting.{Noting, state_of, noting}
use Rattle.noted_steps.specs.Outcomes.{EndsHere}
use Rattle.noted_steps.proofs.OutcomeLaws.{stays_itself}
use Rattle.noted_steps.specs.Standing.{Stands, TargetFor, with_notes}
use Rattle.noted_steps.proofs.NoteLaws.{plainly}
use Rattle.unit_scopes.specs.State.{Stands as StandsPlainly}

-- ---- keywords that stand for values

pub keyword_fault : (work : Work) (here : Option Occ) (x : NamePart) (n : Named Identifier) → IsName work x n →
    IsFault work.symbols (record { code = 43; name = Some x.ident; occ = x.occ; here = here; text = None }) (record { fault = KeywordAsValue n; here = here })
keyword_fault work here x n h = record { code = refl; name = h.0; place = h.1; here = refl; text = refl }

module _ (known : Known) {B : Type 0} (here : Here) (n : Named Identifier) (go : Step Noting B) (s : Noting) where
  pub unless_goes : (h : Head) → is_keyword h ≡ false → unless_keyword (noting known) here h n go s ≡ go s
  unless_goes (IsCore k) is = absurd cc
  unless_goes (IsAuxiliary a) is = absurd cc
  unless_goes (IsMacro m) is = absurd cc
  unless_goes IsNone is = refl

  pub unless_fails : (h : Head) → is_keyword h ≡ true → unless_keyword (noting known) here h n go s ≡ fails here (KeywordAsValue n) s
  unless_fails (IsCore k) is = refl
  unless_fails (IsAuxiliary a) is = refl
  unless_fails (IsMacro m) is = refl
  unless_fails IsNone is = absurd cc

-- the test failed, and so does what was to follow
pub tested_fails : {B X : Type 0} (known : Known) (work : Work) (region : Region) (u : UnitScope) (ls : List Frames) (s : Noting) (here : Here) (n : Named Identifier) (go : Step Noting B) (h : Head) (P : X → B → Type 0) (e : ExpandFault) → Stands work u ls s →
    TestsVariable work s here n h (Err e) → EndsHere P work work region u u ls (Err e) (unless_keyword (noting known) here h n go s)
tested_fails {B} known work region u ls s here n go h P (fault.At e) stands tests =
    subst (λ (p : Result B Broken × Noting). EndsHere P work work region u u ls (Err (fault.At e)) p) (sym (unless_fails known here n go s h tests.0))
    (stays_itself work region u ls s stands, (record { fault = KeywordAsValue n; here = here }, refl, tests.1))
tested_fails known work region u ls s here n go h P fault.Full stands tests = absurd tests
tested_fails known work region u ls s here n go h P fault.Memory stands tests = absurd tests

-- a target in a form of a unit, however these are told
pub target_at : (names : Names) (unit form n m : ℕ) (x : code_target.Target) (t : Target) → unit ≡ n → form ≡ m → IsTarget names n m x t → IsTarget names unit form x t
target_at names unit form n m x t p q h = subst (λ (k : ℕ). IsTarget names k form x t) (sym p) (subst (λ (k : ℕ). IsTarget names n k x t) (sym q) h)

-- ---- heads

module _ (m : Meaning) where
  macro_by : (b : Bool) → IsHead heads.Macro (macro_or_none b m) → (macro_or_none b m ≡ IsMacro m) × (b ≡ true)
  macro_by true h = (refl, refl)
  macro_by false h = absurd h

  other_by : (a : Option Auxiliary) (b : Bool) → IsHead heads.Macro (other_standard a b m) → (other_standard a b m ≡ IsMacro m) × (b ≡ true)
  other_by (Some a) b h = absurd h
  other_by None b h = macro_by b h

  standard_by : (k : Option CoreKeyword) (a : Option Auxiliary) (b : Bool) → IsHead heads.Macro (standard_head k a b m) → (standard_head k a b m ≡ IsMacro m) × (b ≡ true)
  standard_by (Some k) a b h = absurd h
  standard_by None a b h = other_by a b h

macro_head : (is_macro : Meaning → Bool) (m : Meaning) → IsHead heads.Macro (head_as is_macro m) → (head_as is_macro m ≡ IsMacro m) × (is_macro m ≡ true)
macro_head is_macro (Local v) h = macro_by (Local v) (is_macro (Local v)) h
macro_head is_macro (Global u i) h = macro_by (Global u i) (is_macro (Global u i)) h
macro_head is_macro (Standard x) h = standard_by (Standard x) (core_named x) (auxiliary_named x) (is_macro (Standard x)) h
macro_head is_macro (Free x) h = absurd h

there : (o : Option (Transformer Frames Identifier)) → is_some o ≡ true → (m : Transformer Frames Identifier) × (o ≡ Some m)
there None h = absurd cc
there (Some m) h = (m, refl)

-- a macro's head is that of a macro that there is
pub head_is_macro : (known : Known) (s : ScopedState) (fs : Frames) (i : Identifier) → IsHead heads.Macro (head_as (λ x. is_some (macro_at s.macros x)) (means_here s fs i)) →
    (m : Transformer Frames Identifier) × (head_of (searched known) fs s i ≡ IsMacro (means_here s fs i)) × (macro_at s.macros (means_here s fs i) ≡ Some m)
head_is_macro known s fs i h =
    let both = macro_head (λ x. is_some (macro_at s.macros x)) (means_here s fs i) h in
    let m = there (macro_at s.macros (means_here s fs i)) both.1 in
    (m.0, both.0, m.1)

abbrev pub is_macro_head : code_head.Head → Bool
is_macro_head (heads.Core k) = false
is_macro_head (heads.Auxiliary a) = false
is_macro_head heads.Macro = true
is_macro_head heads.Other = false

pub head_no_macro : (c : code_head.Head) (h : Head) → is_macro_head c ≡ false → IsHead c h → not_macro h
head_no_macro (heads.Core k) (IsCore d) plain h = tt
head_no_macro (heads.Core k) (IsAuxiliary a) plain h = tt
head_no_macro (heads.Core k) (IsMacro m) plain h = h
head_no_macro (heads.Core k) IsNone plain h = tt
head_no_macro (heads.Auxiliary a) (IsCore d) plain h = tt
head_no_macro (heads.Auxiliary a) (IsAuxiliary b) plain h = tt
head_no_macro (heads.Auxiliary a) (IsMacro m) plain h = h
head_no_macro (heads.Auxiliary a) IsNone plain h = tt
head_no_macro heads.Macro h plain is = absurd cc
head_no_macro heads.Other (IsCore d) plain h = tt
head_no_macro heads.Other (IsAuxiliary a) plain h = tt
head_no_macro heads.Other (IsMacro m) plain h = h
head_no_macro heads.Other IsNone plain h = tt

-- no name is at the head
pub nameless_settled : (known : Known) (work : Work) (s : ScopedState) (fs : Frames) (t : Tree Identifier) → IsNameIfAny work None (head_name_of t) → IsSettled known s fs t
nameless_settled known work s fs (name i o) h = tt
nameless_settled known work s fs (atom a o) h = tt
nameless_settled known work s fs (vector ts o) h = tt
nameless_settled known work s fs (list no_trees tail o) h = tt
nameless_settled known work s fs (list (tree (name i p) ts) tail o) h = absurd h
nameless_settled known work s fs (list (tree (atom a p) ts) tail o) h = tt
nameless_settled known work s fs (list (tree (list us end p) ts) tail o) h = tt
nameless_settled known work s fs (list (tree (vector us p) ts) tail o) h = tt

-- a name at the head of a list
pub record HeadNamed (work : Work) (t : Tree Identifier) (x : NamePart) : Type 0 where
  pub ident : Identifier
  pub place : Option Occ
  pub parts : Trees Identifier
  pub tail : Tail Identifier
  pub around : Option Occ
  pub is : t ≡ list (tree (name ident place) parts) tail around
  pub named : IsName work x (record { name = ident; occ = place })

pub head_named : (work : Work) (t : Tree Identifier) (x : NamePart) → IsNameIfAny work (Some x) (head_name_of t) → HeadNamed work t x
head_named work (name i o) x h = absurd h
head_named work (atom a o) x h = absurd h
head_named work (vector ts o) x h = absurd h
head_named work (list no_trees tail o) x h = absurd h
head_named work (list (tree (name i p) ts) tail o) x h = record { ident = i; place = p; parts = ts; tail = tail; around = o; is = refl; named = h }
head_named work (list (tree (atom a p) ts) tail o) x h = absurd h
head_named work (list (tree (list us end p) ts) tail o) x h = absurd h
head_named work (list (tree (vector us p) ts) tail o) x h = absurd h

-- its head is no macro's
pub named_settled : (known : Known) (work : Work) (s : ScopedState) (fs : Frames) (t : Tree Identifier) (x : NamePart) (h : HeadNamed work t x) → not_macro (head_of (searched known) fs s h.ident) → IsSettled known s fs t
named_settled known work s fs t x h plain = subst (λ (u : Tree Identifier). IsSettled known s fs u) (sym h.is) plain

-- ---- the name at the head, as it is asked

pub named_target : (work : Work) (s : ScopedState) (fs : Frames) (t : Tree Identifier) (x : NamePart) (h : HeadNamed work t x) (k : code_target.Target) → IsTarget work.symbols s.unit s.form k (used_at s fs (record { name = h.ident; occ = h.place })) →
    IsHeadTarget work s fs (head_name_of t) (Some k)
named_target work s fs t x h k is = subst (λ (u : Tree Identifier). IsHeadTarget work s fs (head_name_of u) (Some k)) (sym h.is) is

pub nameless_target : (work : Work) (s : ScopedState) (fs : Frames) (o : Option (Named Identifier)) → IsNameIfAny work None o → IsHeadTarget work s fs o None
nameless_target work s fs None h = tt
nameless_target work s fs (Some n) h = h

-- where a use of it was noted, it is asked
pub head_noted : (known : Known) (work : Work) (v : UnitScope) (ls : List Frames) (s : Noting) (fs : Frames) (o : Option (Named Identifier)) (k : code_target.Target) → IsHeadTarget work (state_of s) fs o (Some k) →
    ((n : Named Identifier) → TargetFor work s fs k n → Stands work v ls ((noting known).ask (Headed fs n.name ∷ []) s)) → Stands work v ls (head_asked known fs o s)
head_noted known work v ls s fs None k h noted = absurd h
head_noted known work v ls s fs (Some n) k h noted = noted n h

-- it has a number
pub head_within : (work : Work) (s : ScopedState) (fs : Frames) (o : Option (Named Identifier)) (k : code_target.Target) → IsHeadTarget work s fs o (Some k) → k.ident < length work.symbols.idents
head_within work s fs None k h = absurd h
head_within work s fs (Some n) k h = slice_get_within work.symbols.idents k.ident n.name h.ident

-- nothing is asked where there is none
pub nameless_asked : (known : Known) (work : Work) (u : UnitScope) (ls : List Frames) (s : Noting) (fs : Frames) (o : Option (Named Identifier)) → IsHeadTarget work (state_of s) fs o None → Stands work u ls s → Stands work u ls (head_asked known fs o s)
nameless_asked known work u ls s fs None h e = e
nameless_asked known work u ls s fs (Some n) h e = absurd h

-- and stands plainly as it did
pub head_plainly : (known : Known) (work : Work) (u : UnitScope) (ls : List Frames) (s : Noting) (fs : Frames) (o : Option (Named Identifier)) → Stands work u ls (head_asked known fs o s) → StandsPlainly work u ls (state_of s)
head_plainly known work u ls s fs None e = plainly work u ls s e
head_plainly known work u ls s fs (Some n) e = plainly work u ls ((noting known).ask (Headed fs n.name ∷ []) s) e

-- where notes alone were changed, they are changed back
pub notes_back : (u v : UnitScope) → v ≡ with_notes u v.form.trace.notes → u ≡ with_notes v u.form.trace.notes
notes_back u v same = sym (ap (λ (x : UnitScope). with_notes x u.form.trace.notes) same)

-- ---- whole trees

-- the tree is a name
pub named_tree : (work : Work) (t : Tree Identifier) (x : NamePart) → IsNameIfAny work (Some x) (name_in t) → (i : Identifier) × (o : Option Occ) × (t ≡ name i o) × IsName work x (record { name = i; occ = o })
named_tree work (name i o) x h = (i, o, refl, h)
named_tree work (atom a o) x h = absurd h
named_tree work (list ts tail o) x h = absurd h
named_tree work (vector ts o) x h = absurd h
