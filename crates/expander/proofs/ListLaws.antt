-- A list that is read: a core form by its keyword, or a call.
use Rattle.std.proofs.Common.{◌≡◌, ℕ, List, [], ◌∷◌, Bool, true, false, Option, Some, None, Result, Ok, Err, refl, sym, ap, ◌∙◌, subst, ◌⊎◌, inl, inr, Vec, arith}
use Rattle.std.specs.Result.{IsErrAnd}
use Rattle.std.specs.declared.alloc.Global.{Global}
use Rattle.scheme_model.specs.declared.Occ.{Occ}
use Rattle.scheme_model.specs.Trees.{Tree, name, atom, list, vector, Trees, no_trees, tree, Tail, proper, dotted}
use Rattle.scheme_model.specs.Ident.{Ident as Identifier}
use Rattle.scheme_model.specs.ExpansionFaults.{named, BadForm}
use Rattle.scheme_model.specs.Keywords.{CoreKeyword}
use Rattle.scheme_model.specs.Meaning.{Head, IsCore, IsAuxiliary, IsMacro, IsNone}
use Rattle.scheme_model.specs.Requirements.{Known}
use Rattle.scheme_model.specs.Cores.{Core, Call, Target}
use Rattle.scheme_model.specs.Steps.{Broken, Step, ◌>>=◌, done, fails}
use Rattle.scheme_model.specs.Order.{Here, Headed, head_of, target_of}
use Rattle.scheme_model.specs.Expression.{whole, node, each, call, by_head, core_form, expression}
use Rattle.scheme_model.specs.ScopedExpansion.{Frames, ScopedState}
use Rattle.syntax_tree.specs.Looks.{PartsStand, EndStands, AllNamed}
use Rattle.syntax_tree.specs.declared.trees.Work.{Work}
use Rattle.syntax_tree.specs.declared.trees.nodes.Tree as number
use Rattle.syntax_tree.specs.declared.trees.table.Region.{Region}
use Rattle.core_forms.specs.Ends.{keyword_as}
use Rattle.core_forms.specs.Parts.{IsNameIfAny}
use Rattle.core_forms.specs.declared.shape.CoreKeyword as code_keyword
use Rattle.core_forms.specs.declared.shape.NamePart.{NamePart}
use Rattle.core_tree.specs.declared.cores.Target as code_target
use Rattle.core_tree.specs.Names.{IsTarget}
use Rattle.form_parts.specs.Heads.{IsHead}
use Rattle.unit_scopes.specs.Stepped.{with_keyword}
use Rattle.form_parts.specs.FormsSeen.{head_name_of}
use Rattle.unit_scopes.specs.Searched.{searched}
use Rattle.expander.specs.Ready.{Expanding, not_macro, head_asked, IsSettled, IsPlain, not_core, IsCall, Reads}
use Rattle.expander.specs.declared.expressions.Ready as code_ready
use Rattle.expander.specs.declared.expressions.Ready.TheVariants as ready
use Rattle.feature_requirements.specs.declared.fault.ExpandFault.{ExpandFault}
use Rattle.feature_requirements.specs.declared.fault.ExpandFault.TheVariants as fault
use Rattle.form_parts.specs.declared.heads.Head as code_head
use Rattle.form_parts.specs.declared.heads.Head.TheVariants as heads
use Rattle.unit_scopes.specs.declared.scope.UnitScope.{UnitScope}
use Rattle.unit_scopes.proofs.OutcomeLaws.{grows_itself, leaves_itself, numbers_stay}
use Rattle.unit_scopes.proofs.NodeLaws.{plain_is}
use Rattle.expander.proofs.ReadLaws.{HeadNamed}
use Rattle.noted_steps.specs.Noting.{Noting, state_of, noting}
use Rattle.noted_steps.specs.Standing.{Stands}
use Rattle.noted_steps.specs.Stepped.{met}
use Rattle.noted_steps.specs.Outcomes.{Stays}
use Rattle.noted_steps.proofs.CountingStands.{keyword_stands}
use Rattle.noted_steps.proofs.OutcomeLaws.{stays_itself, stays_on, moves_here, leaves_on, fills_on}

-- ---- heads

-- the keyword that a head tells
abbrev pub IsHeadAs : Option CoreKeyword → Head → Type 0
IsHeadAs o (IsCore c) = o ≡ Some c
IsHeadAs o (IsAuxiliary a) = ⊥
IsHeadAs o (IsMacro m) = ⊥
IsHeadAs o IsNone = ⊥

-- the head of a core form's keyword
head_by : (h : Head) (o : Option CoreKeyword) → IsHeadAs o h → (c : CoreKeyword) × (o ≡ Some c) × (h ≡ IsCore c)
head_by (IsCore c) o e = (c, e, refl)
head_by (IsAuxiliary a) o e = absurd e
head_by (IsMacro m) o e = absurd e
head_by IsNone o e = absurd e

as_head : (k : code_keyword.CoreKeyword) (h : Head) → IsHead (heads.Core k) h → IsHeadAs (keyword_as k) h
as_head k (IsCore c) e = e
as_head k (IsAuxiliary a) e = e
as_head k (IsMacro m) e = e
as_head k IsNone e = e

pub head_is_core : (k : code_keyword.CoreKeyword) (h : Head) → IsHead (heads.Core k) h → (c : CoreKeyword) × (keyword_as k ≡ Some c) × (h ≡ IsCore c)
head_is_core k h e = head_by h (keyword_as k) (as_head k h e)

abbrev pub is_core_head : code_head.Head → Bool
is_core_head (heads.Core k) = true
is_core_head (heads.Auxiliary a) = false
is_core_head heads.Macro = false
is_core_head heads.Other = false

pub head_no_core : (c : code_head.Head) (h : Head) → is_core_head c ≡ false → IsHead c h → not_core h
head_no_core (heads.Core k) h plain is = absurd cc
head_no_core (heads.Auxiliary a) (IsCore d) plain is = is
head_no_core (heads.Auxiliary a) (IsAuxiliary b) plain is = tt
head_no_core (heads.Auxiliary a) (IsMacro m) plain is = tt
head_no_core (heads.Auxiliary a) IsNone plain is = tt
head_no_core heads.Macro (IsCore d) plain is = is
head_no_core heads.Macro (IsAuxiliary a) plain is = tt
head_no_core heads.Macro (IsMacro m) plain is = tt
head_no_core heads.Macro IsNone plain is = tt
head_no_core heads.Other (IsCore d) plain is = is
head_no_core heads.Other (IsAuxiliary a) plain is = tt
head_no_core heads.Other (IsMacro m) plain is = tt
head_no_core heads.Other IsNone plain is = tt

pub named_plain : (known : Known) (work : Work) (s : ScopedState) (fs : Frames) (t : Tree Identifier) (x : NamePart) (h : HeadNamed work t x) → not_core (head_of (searched known) fs s h.ident) → IsPlain known s fs t
named_plain known work s fs t x h plain = subst (λ (u : Tree Identifier). IsPlain known s fs u) (sym h.is) plain

pub nameless_plain : (known : Known) (work : Work) (s : ScopedState) (fs : Frames) (t : Tree Identifier) → IsNameIfAny work None (head_name_of t) → IsPlain known s fs t
nameless_plain known work s fs (name i o) h = tt
nameless_plain known work s fs (atom a o) h = tt
nameless_plain known work s fs (vector ts o) h = tt
nameless_plain known work s fs (list no_trees tail o) h = tt
nameless_plain known work s fs (list (tree (name i p) ts) tail o) h = absurd h
nameless_plain known work s fs (list (tree (atom a p) ts) tail o) h = tt
nameless_plain known work s fs (list (tree (list us end p) ts) tail o) h = tt
nameless_plain known work s fs (list (tree (vector us p) ts) tail o) h = tt

-- ---- calls

abbrev as_call : Expanding → Known → ℕ → Here → Frames → Trees Identifier → Tail Identifier → Step Noting Core
as_call f known depth here fs no_trees tail s = fails here BadForm s
as_call f known depth here fs (tree t ts) tail s = call f (noting known) depth here fs (tree t ts) tail s

call_by : (f : Expanding) (known : Known) (depth : ℕ) (here : Here) (fs : Frames) (i : Identifier) (p : Option Occ) (ts : Trees Identifier) (tail : Tail Identifier) (s : Noting) (h : Head) → not_core h → not_macro h →
    by_head f (noting known) depth here fs h (named i p) ts tail s ≡ call f (noting known) depth here fs (tree (name i p) ts) tail ((noting known).ask (Headed fs i ∷ []) s)
call_by f known depth here fs i p ts tail s (IsCore c) core mac = absurd core
call_by f known depth here fs i p ts tail s (IsAuxiliary a) core mac = refl
call_by f known depth here fs i p ts tail s (IsMacro m) core mac = absurd mac
call_by f known depth here fs i p ts tail s IsNone core mac = refl

-- a list without a keyword at its head is a call
calls : (f : Expanding) (known : Known) (depth : ℕ) (here : Here) (fs : Frames) (ts : Trees Identifier) (tail : Tail Identifier) (o : Option Occ) (s : Noting) → IsSettled known (state_of s) fs (list ts tail o) → IsPlain known (state_of s) fs (list ts tail o) →
    expression f (noting known) depth here fs (list ts tail o) s ≡ as_call f known depth here fs ts tail (head_asked known fs (head_name_of (list ts tail o)) s)
calls f known depth here fs no_trees tail o s settled plain = refl
calls f known depth here fs (tree (name i p) ts) tail o s settled plain = call_by f known depth here fs i p ts tail s (head_of (noting known) fs s i) plain settled
calls f known depth here fs (tree (atom a p) ts) tail o s settled plain = refl
calls f known depth here fs (tree (list us end p) ts) tail o s settled plain = refl
calls f known depth here fs (tree (vector us p) ts) tail o s settled plain = refl

some_trees : (f : Expanding) (known : Known) (depth : ℕ) (here : Here) (fs : Frames) (work : Work) (ns : List number.Tree) (ts : Trees Identifier) (s : Noting) → PartsStand work ns ts → (ns ≡ [] → ⊥) →
    as_call f known depth here fs ts proper s ≡ node (noting known) here 1 depth (λ below t. each (λ u. f below here fs (whole u)) ts t >>= λ cs. done (Call cs)) s
some_trees f known depth here fs work [] ts s h full = absurd (full refl)
some_trees f known depth here fs work (n ∷ ns) no_trees s h full = absurd h
some_trees f known depth here fs work (n ∷ ns) (tree t ts) s h full = refl

no_call : (f : Expanding) (known : Known) (depth : ℕ) (here : Here) (fs : Frames) (work : Work) (ns : List number.Tree) (end : Option number.Tree) (ts : Trees Identifier) (tail : Tail Identifier) (s : Noting) → PartsStand work ns ts → EndStands work end tail → (end ≡ None → ⊥) ⊎ (ns ≡ []) →
    as_call f known depth here fs ts tail s ≡ fails here BadForm s
no_call f known depth here fs work ns end no_trees tail s h e bad = refl
no_call f known depth here fs work ns None (tree t ts) proper s h e bad = elim bad [ inl some ↦ absurd (some refl) | inr none ↦ absurd (subst (λ (ms : List number.Tree). PartsStand work ms (tree t ts)) none h) ]
no_call f known depth here fs work ns None (tree t ts) (dotted u) s h e bad = absurd e
no_call f known depth here fs work ns (Some n) (tree t ts) proper s h e bad = absurd e
no_call f known depth here fs work ns (Some n) (tree t ts) (dotted u) s h e bad = refl

no_end : (work : Work) (tail : Tail Identifier) → EndStands work None tail → tail ≡ proper
no_end work proper h = refl
no_end work (dotted t) h = absurd h

module _ (known : Known) (depth : ℕ) (here : Option Occ) (work : Work) (region : Region) (u : UnitScope) (ls : List Frames) (fs : Frames) (s : Noting) (ts : Trees Identifier) (end : Tail Identifier) (o : Option Occ)
    (stands : Stands work u ls (head_asked known fs (head_name_of (list ts end o)) s)) (settled : IsSettled known (state_of s) fs (list ts end o)) (plain : IsPlain known (state_of s) fs (list ts end o)) (ns : List number.Tree) (tail : Option number.Tree) (parts : PartsStand work ns ts) (behind : EndStands work tail end) where
  abbrev asked : Noting
  asked = head_asked known fs (head_name_of (list ts end o)) s

  abbrev reading : Expanding → Result Core Broken × Noting
  reading f = expression f (noting known) depth here fs (list ts end o) s

  pub call_reads : (v : Vec number.Tree Global) → AllNamed work region ns → IsCall ns tail here (Ok v) → Reads known depth here work region u u ls fs (Ok (ready.Call v)) reading
  call_reads v nameable h =
      let ended : end ≡ proper = no_end work end (subst (λ (e : Option number.Tree). EndStands work e end) h.1 behind) in (
        asked,
        stays_itself work region u ls asked stands,
        (
          ts,
          subst (λ (ms : List number.Tree). PartsStand work ms ts) (sym h.0) parts,
          subst (λ (ms : List number.Tree). AllNamed work region ms) (sym h.0) nameable,
          λ f. calls f known depth here fs ts end o s settled plain ∙ (ap (λ (x : Tail Identifier). as_call f known depth here fs ts x asked) ended ∙ some_trees f known depth here fs work ns ts asked parts h.2),
        ),
      )

  pub call_fails : (r : Result code_ready.Ready ExpandFault) (x : ExpandFault) → IsErrAnd r (λ g. g ≡ x) → IsCall ns tail here (Err x) → Reads known depth here work region u u ls fs r reading
  call_fails (Ok y) x is h = absurd is
  call_fails (Err g) x is h = subst (λ (e : ExpandFault). Reads known depth here work region u u ls fs (Err e) reading) (sym is) (go x h)
    where
      go : (e : ExpandFault) → IsCall ns tail here (Err e) → Reads known depth here work region u u ls fs (Err e) reading
      go (fault.At e) h =
          subst (λ (y : ExpandFault). Reads known depth here work region u u ls fs (Err y) reading) (sym h.0)
          (record { fault = BadForm; here = here }, asked, stays_itself work region u ls asked stands, plain_is work.symbols here BadForm refl refl, λ f. calls f known depth here fs ts end o s settled plain ∙ no_call f known depth here fs work ns tail ts end asked parts behind h.1)
      go fault.Full h = absurd h
      go fault.Memory h = leaves_itself work region u stands.form.few_nodes

-- ---- a core form

-- a keyword was met
pub meets : (work : Work) (region : Region) (u v : UnitScope) (ls : List Frames) (s : Noting) (x : code_target.Target) (k : Target) → v ≡ with_keyword u x → IsTarget work.symbols s.unit s.form x k → Stands work u ls s → Stays work work region u v ls (met k s)
meets work region u v ls s x k is for e = subst (λ (w : UnitScope). Stays work work region u w ls (met k s)) (sym is) (record {
  stands = keyword_stands work u ls s x k for e;
  work = grows_itself work region;
  counted = omega arith;
  same = record { unit = refl; number = refl; root = refl; libraries = refl; roots = refl; uses = omega arith; nodes = omega arith; numbers = numbers_stay u (with_keyword u x) refl refl };
})

pub meets_here : (work : Work) (u v : UnitScope) (ls : List Frames) (s : Noting) (x : code_target.Target) (k : Target) → v ≡ with_keyword u x → IsTarget work.symbols s.unit s.form x k → Stands work u ls s → Stands work v ls (met k s)
meets_here work u v ls s x k is for e = subst (λ (w : UnitScope). Stands work w ls (met k s)) (sym is) (keyword_stands work u ls s x k for e)

-- what is read after a step that changes no tree
pub reads_behind : (known : Known) (depth : ℕ) (here : Option Occ) (work : Work) (region : Region) (u w v : UnitScope) (ls : List Frames) (fs : Frames) (s : Noting) (r : Result code_ready.Ready ExpandFault) (step goes : Expanding → Result Core Broken × Noting) →
    Stays work work region u w ls s → ((f : Expanding) → goes f ≡ step f) → Reads known depth here work region w v ls fs r step → Reads known depth here work region u v ls fs r goes
reads_behind known depth here work region u w v ls fs s (Ok (ready.Core c)) step goes m same h = (h.0, stays_on work work work region u w v ls s h.0 m h.1, (h.2.0, h.2.1, λ f. same f ∙ h.2.2 f))
reads_behind known depth here work region u w v ls fs s (Ok (ready.Call parts)) step goes m same h = (h.0, stays_on work work work region u w v ls s h.0 m h.1, (h.2.0, h.2.1, h.2.2, λ f. same f ∙ h.2.3 f))
reads_behind known depth here work region u w v ls fs s (Ok (ready.Shape k shape)) step goes m same h = (h.0, stays_on work work work region u w v ls s h.0 m h.1, (h.2.0, h.2.1, h.2.2, h.2.3, h.2.4, h.2.5, λ f. same f ∙ h.2.6 f))
reads_behind known depth here work region u w v ls fs s (Err (fault.At e)) step goes m same h = (h.0, h.1, stays_on work work work region u w v ls s h.1 m h.2, h.3, λ f. same f ∙ h.4 f)
reads_behind known depth here work region u w v ls fs s (Err fault.Full) step goes m same h = (leaves_on work work work region u w ls s (moves_here work work region u w ls s m) h.0, fills_on work work region u w ls s (moves_here work work region u w ls s m) h.1)
reads_behind known depth here work region u w v ls fs s (Err fault.Memory) step goes m same h = leaves_on work work work region u w ls s (moves_here work work region u w ls s m) h

-- a core form at the head
pub core_goes : (f : Expanding) (known : Known) (depth : ℕ) (here : Here) (fs : Frames) (t : Tree Identifier) (i : Identifier) (p : Option Occ) (ts : Trees Identifier) (tail : Tail Identifier) (o : Option Occ) (c : CoreKeyword) (s : Noting) → t ≡ list (tree (name i p) ts) tail o → head_of (noting known) fs s i ≡ IsCore c →
    expression f (noting known) depth here fs t s ≡ core_form f (noting known) depth here fs c ts tail (met (target_of (noting known) fs s i p) ((noting known).ask (Headed fs i ∷ []) s))
core_goes f known depth here fs t i p ts tail o c s is head =
    ap (λ (u : Tree Identifier). expression f (noting known) depth here fs u s) is
    ∙ ap (λ (h : Head). by_head f (noting known) depth here fs h (named i p) ts tail s) head
