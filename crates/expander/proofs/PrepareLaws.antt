-- An expression that was settled and read: what is left of it.
use Rattle.std.proofs.Common.{◌≡◌, ℕ, List, Option, Some, Result, Ok, Err, refl, sym, ◌∙◌, subst}
use Rattle.scheme_model.specs.declared.Occ.{Occ}
use Rattle.scheme_model.specs.Trees.{Tree, Trees}
use Rattle.scheme_model.specs.Ident.{Ident as Identifier}
use Rattle.scheme_model.specs.Keywords.{CoreKeyword}
use Rattle.scheme_model.specs.Requirements.{Known}
use Rattle.scheme_model.specs.Cores.{Core, Call}
use Rattle.scheme_model.specs.Steps.{Broken, ◌>>=◌, done}
use Rattle.scheme_model.specs.Expression.{whole, expression, expand, node, each}
use Rattle.scheme_model.specs.ScopedExpansion.{Frames}
use Rattle.syntax_tree.specs.Looks.{PartsStand, AllNamed}
use Rattle.syntax_tree.specs.declared.trees.Work.{Work}
use Rattle.syntax_tree.specs.declared.trees.nodes.Tree as number
use Rattle.syntax_tree.specs.declared.trees.table.Region.{Region}
use Rattle.core_forms.specs.Ends.{keyword_as, ShapeFor}
use Rattle.core_forms.specs.Forms.{Shape}
use Rattle.core_forms.specs.declared.shape.CoreKeyword as code_keyword
use Rattle.core_forms.specs.declared.shape.CoreShape as code_shape
use Rattle.core_tree.specs.Cores.{CoreStands}
use Rattle.core_tree.specs.declared.cores.Core as code_core
use Rattle.std.specs.Prelude.{Vec}
use Rattle.std.specs.declared.alloc.Global.{Global}
use Rattle.expander.specs.CoreSteps.{core_step, IsLeft}
use Rattle.std.specs.Result.{IsErrAnd}
use Rattle.unit_scopes.specs.Outcomes.{At, WorksOn, IsEnoughBelow}
use Rattle.expander.specs.Passed.{ShapeFits}
use Rattle.form_parts.specs.FormsSeen.{head_name_of}
use Rattle.expander.specs.Ready.{head_asked, IsSettled, Settles, Reads, Prepares}
use Rattle.expander.specs.declared.expressions.Ready as code_ready
use Rattle.expander.specs.declared.expressions.Ready.TheVariants as ready
use Rattle.feature_requirements.specs.declared.fault.ExpandFault.{ExpandFault}
use Rattle.feature_requirements.specs.declared.fault.ExpandFault.TheVariants as fault
use Rattle.unit_scopes.specs.declared.scope.UnitScope.{UnitScope}
use Rattle.expander.proofs.AfterLaws.{IsAfter, stays_after, enough_less, enough_below_later, stays_then}
use Rattle.noted_steps.specs.Noting.{Noting, state_of, noting}
use Rattle.noted_steps.specs.Standing.{Stands}
use Rattle.noted_steps.specs.Outcomes.{Ends}
use Rattle.noted_steps.proofs.OutcomeLaws.{stays_on, moves_here, here_ends, leaves_on, fills_on}
use Rattle.noted_steps.proofs.NodeLaws.{here_done}

module _ (known : Known) (depth turns : ℕ) (old new : Work) (region : Region) (u w v : UnitScope) (ls : List Frames) (fs : Frames) (p : Result Core Broken × Noting) where
  -- what is read behind uses
  abbrev pub ReadsBehind : number.Tree × Option Occ → Result code_ready.Ready ExpandFault → Type 0
  ReadsBehind x r = (t : Tree Identifier) (s : Noting) → Stands new w ls (head_asked known fs (head_name_of t) s) → WorksOn new region x.0 t → IsSettled known (state_of s) fs t → Reads known depth x.1 new region w v ls fs r (λ f. expression f (noting known) depth x.1 fs t s)

  pub prepares : (x : number.Tree × Option Occ) (r : code_ready.Ready) → Settles known depth turns old new region u w ls fs (Ok x) p → ReadsBehind x (Ok r) → Prepares known depth old new region u v ls fs (Ok (x.1, r)) p
  prepares x r h next =
      let settled = h.4 in
      let read = next h.0 h.1 h.2.stands h.3 settled.settled in
      let less = enough_less depth w.form.budget.uses settled.turns_left settled.enough in (
        settled.turns_left,
        λ f. expression f (noting known) depth x.1 fs h.0 h.1,
        read.0,
        stays_on old new new region u w v ls (head_asked known fs (head_name_of h.0) h.1) read.0 h.2 read.1,
        enough_below_later depth w.form.budget.uses v.form.budget.uses settled.turns_left read.1.same.uses less,
        settled.same,
        read.2,
      )

  pub prepares_unread : (x : number.Tree × Option Occ) (e : ExpandFault) → Settles known depth turns old new region u w ls fs (Ok x) p → ReadsBehind x (Err e) → Prepares known depth old new region u v ls fs (Err e) p
  prepares_unread x (fault.At e) h next =
      let settled = h.4 in
      let read = next h.0 h.1 h.2.stands h.3 settled.settled in
      let is : p ≡ (Err read.0, read.1) = settled.same ∙ read.4 (expand (noting known) settled.turns_left) in
      subst (λ (q : Result Core Broken × Noting). Prepares known depth old new region u v ls fs (Err (fault.At e)) q) (sym is) (stays_on old new new region u w v ls (head_asked known fs (head_name_of h.0) h.1) read.1 h.2 read.2, (read.0, refl, read.3))
  prepares_unread x fault.Full h next =
      let asked = head_asked known fs (head_name_of h.0) h.1 in
      let m = moves_here old new region u w ls asked h.2 in
      let read = next h.0 h.1 h.2.stands h.3 h.4.settled in
      (leaves_on old new new region u w ls asked m read.0, fills_on old new region u w ls asked m read.1)
  prepares_unread x fault.Memory h next =
      let asked = head_asked known fs (head_name_of h.0) h.1 in
      leaves_on old new new region u w ls asked (moves_here old new region u w ls asked h.2) (next h.0 h.1 h.2.stands h.3 h.4.settled)

pub prepares_unsettled : (known : Known) (depth turns : ℕ) (old new : Work) (region : Region) (u v : UnitScope) (ls : List Frames) (fs : Frames) (p : Result Core Broken × Noting) (e : ExpandFault) → Settles known depth turns old new region u v ls fs (Err e) p → Prepares known depth old new region u v ls fs (Err e) p
prepares_unsettled known depth turns old new region u v ls fs p (fault.At e) h = h
prepares_unsettled known depth turns old new region u v ls fs p fault.Full h = h
prepares_unsettled known depth turns old new region u v ls fs p fault.Memory h = h

-- ---- what is done then

module _ (known : Known) (depth : ℕ) (old mid : Work) (region : Region) (u w : UnitScope) (ls : List Frames) (fs : Frames) (here : Option Occ) (p : Result Core Broken × Noting) where
  pub prepared_fails : {V : Type 0} (Q : List Frames → V → Core → Type 0) (e : ExpandFault) → Prepares known depth old mid region u w ls fs (Err e) p → Ends Q old mid region u w ls (Err e) p
  unfolding moves_here
  prepared_fails Q (fault.At e) h = (moves_here old mid region u w ls p.1 h.0, h.1)
  prepared_fails Q fault.Full h = h
  prepared_fails Q fault.Memory h = h

  pub prepared_core : (c : code_core.Core) → Prepares known depth old mid region u w ls fs (Ok (here, ready.Core c)) p → Ends (λ layout. CoreStands mid w.unit w.form.number) old mid region u w ls (Ok c) p
  prepared_core c h =
      let P = CoreStands mid w.unit w.form.number in
      here_ends P old mid region u w ls (Ok c) p (here_done P old mid region u w ls c p h.6.0 h.2 (h.5 ∙ h.6.2 (expand (noting known) h.0)) h.3 h.6.1)

  pub prepared_call : {V : Type 0} (Q : List Frames → V → Core → Type 0) (new : Work) (v : UnitScope) (parts : Vec number.Tree Global) (result : Result V ExpandFault) → Prepares known depth old mid region u w ls fs (Ok (here, ready.Call parts)) p →
      ((left : ℕ) (ts : Trees Identifier) (t : Noting) → Stands mid w ls t → IsEnoughBelow depth w.form.budget.uses left → PartsStand mid parts.items ts → AllNamed mid region parts.items →
      Ends Q mid new region w v ls result (node (noting known) here 1 depth (λ below t1. each (λ x. expand (noting known) left below here fs (whole x)) ts t1 >>= λ cs. done (Call cs)) t)) →
      Ends Q old new region u v ls result p
  prepared_call Q new v parts result h next =
      let f = expand (noting known) h.0 in
      let all = h.5 ∙ h.6.3 f in
      subst (λ (q : Result Core Broken × Noting). Ends Q old new region u v ls result q) (sym all)
      (stays_then Q old mid new region u w v ls h.2 result (node (noting known) here 1 depth (λ below t1. each (λ x. f below here fs (whole x)) h.6.0 t1 >>= λ cs. done (Call cs)) h.2) h.3
      (next h.0 h.6.0 h.2 h.3.stands h.4 h.6.1 h.6.2))

  pub prepared_shape : {V : Type 0} (Q : List Frames → V → Core → Type 0) (new : Work) (v : UnitScope) (k : code_keyword.CoreKeyword) (shape : code_shape.CoreShape) (result : Result V ExpandFault) → Prepares known depth old mid region u w ls fs (Ok (here, ready.Shape k shape)) p →
      ((left : ℕ) (c : CoreKeyword) (m : Shape) (t : Noting) → Stands mid w ls t → IsEnoughBelow depth w.form.budget.uses left → keyword_as k ≡ Some c → ShapeFor mid shape m → ShapeFits m → IsLeft m →
      Ends Q mid new region w v ls result (core_step (expand (noting known) left) (noting known) depth here fs c m t)) →
      Ends Q old new region u v ls result p
  prepared_shape Q new v k shape result h next =
      let f = expand (noting known) h.0 in
      let all = h.5 ∙ h.6.6 f in
      subst (λ (q : Result Core Broken × Noting). Ends Q old new region u v ls result q) (sym all)
      (stays_then Q old mid new region u w v ls h.2 result (core_step f (noting known) depth here fs h.6.0 h.6.1 h.2) h.3
      (next h.0 h.6.0 h.6.1 h.2 h.3.stands h.4 h.6.2 h.6.3 h.6.5.0 h.6.5.1))

-- ---- faults and looks

pub prepares_err : (known : Known) (depth : ℕ) (old new : Work) (region : Region) (u v : UnitScope) (ls : List Frames) (fs : Frames) (p : Result Core Broken × Noting) (r : Result (Option Occ × code_ready.Ready) ExpandFault) (x : ExpandFault) → IsErrAnd r (λ g. g ≡ x) →
    Prepares known depth old new region u v ls fs (Err x) p → Prepares known depth old new region u v ls fs r p
prepares_err known depth old new region u v ls fs p (Ok y) x is h = absurd is
prepares_err known depth old new region u v ls fs p (Err g) x is h = subst (λ (e : ExpandFault). Prepares known depth old new region u v ls fs (Err e) p) (sym is) h

pub settles_after : (known : Known) (depth turns : ℕ) (old new : Work) (region : Region) (u v : UnitScope) (scope : ℕ) (ls : List Frames) (fs : Frames) (x : number.Tree × Option Occ) (p : Result Core Broken × Noting) → At ls scope fs → Settles known depth turns old new region u v ls fs (Ok x) p →
    IsAfter old new region u v scope
settles_after known depth turns old new region u v scope ls fs x p at h = stays_after old new region u v scope ls fs (head_asked known fs (head_name_of h.0) h.1) at h.2

pub prepares_after : (known : Known) (depth : ℕ) (old new : Work) (region : Region) (u v : UnitScope) (scope : ℕ) (ls : List Frames) (fs : Frames) (x : Option Occ × code_ready.Ready) (p : Result Core Broken × Noting) → At ls scope fs → Prepares known depth old new region u v ls fs (Ok x) p →
    IsAfter old new region u v scope
prepares_after known depth old new region u v scope ls fs x p at h = stays_after old new region u v scope ls fs h.2 at h.3
