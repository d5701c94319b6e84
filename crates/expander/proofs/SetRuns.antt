-- An assignment: its variable is asked about, and is no keyword; then the node begins, and its value is expanded.
use Rattle.std.proofs.Common.{◌≡◌, ℕ, List, [], ◌∷◌, Option, Result, Ok, Err, refl, sym, ◌∙◌, subst}
use Rattle.std.specs.Global.{Box}
use Rattle.scheme_model.specs.declared.Occ.{Occ}
use Rattle.scheme_model.specs.Trees.{Tree}
use Rattle.scheme_model.specs.Ident.{Ident as Identifier}
use Rattle.scheme_model.specs.ExpansionFaults.{Named}
use Rattle.scheme_model.specs.Meaning.{Head}
use Rattle.scheme_model.specs.Requirements.{Known}
use Rattle.scheme_model.specs.Cores.{Core, Set}
use Rattle.scheme_model.specs.Steps.{Broken, Step, ◌>>=◌, done}
use Rattle.scheme_model.specs.Order.{Headed, head_of, target_of}
use Rattle.scheme_model.specs.Expression.{whole, expand, node, set, unless_keyword}
use Rattle.scheme_model.specs.ScopedExpansion.{Frames}
use Rattle.syntax_tree.specs.declared.trees.Work.{Work}
use Rattle.syntax_tree.specs.declared.trees.table.Region.{Region}
use Rattle.core_forms.specs.Parts.{IsName}
use Rattle.core_forms.specs.declared.shape.NamePart.{NamePart}
use Rattle.core_tree.specs.Names.{IsTarget}
use Rattle.core_tree.specs.Cores.{CoreStands}
use Rattle.core_tree.specs.declared.cores.Core as code_core
use Rattle.core_tree.specs.declared.cores.Core.TheVariants as cores
use Rattle.core_tree.specs.declared.cores.Target as code_target
use Rattle.feature_requirements.specs.Judged.{Knows}
use Rattle.feature_requirements.specs.declared.fault.ExpandFault.{ExpandFault}
use Rattle.feature_requirements.specs.declared.fault.ExpandFault.TheVariants as fault
use Rattle.unit_scopes.specs.Outcomes.{At, Grows, SameForm}
use Rattle.unit_scopes.specs.declared.scope.UnitScope.{UnitScope}
use Rattle.unit_scopes.proofs.CoreStandLaws.{target_on}
use Rattle.expander.specs.Ready.{BeginsBelow, TestsVariable}
use Rattle.expander.specs.declared.expressions.At as code_at
use Rattle.expander.proofs.AskedRuns.{noted_knows, stays_then}
use Rattle.expander.proofs.BelowLaws.{below_at, below_knows, node_below, node_unbegun}
use Rattle.expander.proofs.ReadLaws.{unless_goes, tested_fails, target_at}
use Rattle.expander.proofs.RowLaws.{ends_mapped}
use Rattle.noted_steps.specs.Noting.{Noting, means_here, noting}
use Rattle.noted_steps.specs.Outcomes.{Ends, Runs}
use Rattle.noted_steps.specs.Standing.{Stands, with_notes}
use Rattle.noted_steps.specs.Stepped.{spent}
use Rattle.noted_steps.proofs.OutcomeLaws.{ends_fails, here_ends, noted_stays}

-- the test is of the head alone
tests_on : (work : Work) (s t : Noting) (here : Option Occ) (n : Named Identifier) (h : Head) (r : Result (Unit {0}) ExpandFault) → TestsVariable work s here n h r → TestsVariable work t here n h r
tests_on work s t here n h (Ok x) is = is
tests_on work s t here n h (Err (fault.At e)) is = is
tests_on work s t here n h (Err fault.Full) is = is
tests_on work s t here n h (Err fault.Memory) is = is

-- the variable is tested, and what it means is noted
module _ (old new : Work) (region : Region) (u u1 v : UnitScope) (at : code_at.At) (x : NamePart) (n : Named Identifier) (name : IsName old x n) (tree : Tree Identifier) (turns : ℕ) (same : u1 ≡ with_notes u u1.form.trace.notes)
    (notes : (known : Known) (ls : List Frames) (s : Noting) (fs : Frames) (n : Named Identifier) → Stands old u ls s → At ls at.scope fs → IsName old x n → Stands old u1 ls ((noting known).ask (Headed fs n.name ∷ []) s)) where
  abbrev asked : Known → Frames → Noting → Noting
  asked known fs s = (noting known).ask (Headed fs n.name ∷ []) s

  abbrev value : Known → Frames → ℕ → Option Occ → Step Noting Core
  value known fs d here = expand (noting known) turns d here fs (whole tree)

  abbrev go : Known → Frames → Step Noting Core
  go known fs = node (noting known) at.here 1 at.depth (λ d t. value known fs d at.here t >>= λ c. done (Set (target_of (noting known) fs t n.name n.occ) c))

  abbrev pub SetRuns : {V : Type 0} → (List Frames → V → Core → Type 0) → Result V ExpandFault → Type 0
  SetRuns Q result = Runs Q old new region u v at.scope result (λ known fs. set (expand (noting known) turns) (noting known) at.depth at.here fs (n, tree))

  abbrev pub Tests : Result (Unit {0}) ExpandFault → Type 0
  Tests result = (known : Known) (ls : List Frames) (s : Noting) (fs : Frames) (n : Named Identifier) → Stands old u ls s → At ls at.scope fs → IsName old x n → TestsVariable old s at.here n (head_of (noting known) fs s n.name) result

  set_goes : {V : Type 0} (Q : List Frames → V → Core → Type 0) (result : Result V ExpandFault) → Tests (Ok tt) →
      ((known : Known) (ls : List Frames) (s : Noting) (fs : Frames) → Knows u1.libraries known → Stands old u ls s → Stands old u1 ls (asked known fs s) → At ls at.scope fs → Ends Q old new region u1 v ls result (go known fs (asked known fs s))) → SetRuns Q result
  set_goes Q result tests next = λ known ls s fs knows stands there.
      let a = asked known fs s in
      let now = notes known ls s fs n stands there name in
      subst (λ (p : Result Core Broken × Noting). Ends Q old new region u v ls result p) (sym (unless_goes known at.here n (go known fs) a (head_of (noting known) fs s n.name) (tests known ls s fs n stands there name)))
      (stays_then Q old old new region u u1 v ls a result (go known fs a) (noted_stays old region u u1 ls s a stands same now) (next known ls s fs (noted_knows u u1 known same knows) stands now there))

  module _ (w : UnitScope) (below : code_at.At) (h : BeginsBelow u1 w at 1 (Ok below)) where
    abbrev pub ValueRuns : Result code_core.Core ExpandFault → Type 0
    ValueRuns result = Runs (λ (layout : List Frames). CoreStands new v.unit v.form.number) old new region w v below.scope result (λ known fs. value known fs below.depth below.here)

    pub set_runs : (target : code_target.Target) (y : Box code_core.Core) → Tests (Ok tt) → Grows old new region → SameForm w v →
        ((ls : List Frames) (s : Noting) (fs : Frames) (n : Named Identifier) → Stands old u ls s → At ls at.scope fs → IsName old x n → IsTarget old.symbols s.unit s.form target (record { meaning = means_here s fs n.name; ident = n.name; occ = n.occ })) →
        ValueRuns (Ok y.value) → SetRuns (λ (layout : List Frames). CoreStands new v.unit v.form.number) (Ok (cores.Set target y))
    set_runs target y tests grows form targets runs =
        let P : List Frames → code_core.Core → Core → Type 0 = λ layout. CoreStands new v.unit v.form.number in
        set_goes P (Ok (cores.Set target y)) tests (λ known ls s fs knows stands now there.
        let a = asked known fs s in
        let t = target_of (noting known) fs s n.name n.occ in
        node_below known old new region u1 w v ls a at below 1 now h P (λ d o r. value known fs d o r >>= λ c. done (Set (target_of (noting known) fs r n.name n.occ) c)) (Ok (cores.Set target y))
        (λ begun. ends_mapped P P old new region w v ls y.value (cores.Set target y) (value known fs below.depth below.here (spent 1 a)) (λ c. Set t c)
        (λ layout m held. let on = target_on old new grows.trees grows.names s.unit s.form target t (targets ls s fs n stands there name) in
        (target, y, refl, target_at new.symbols v.unit v.form.number s.unit s.form target t (form.unit ∙ begun.unit) (form.number ∙ begun.form.number) on, held))
        (runs known ls (spent 1 a) fs (below_knows u1 w at below 1 h known knows) begun (below_at u1 w at below 1 h ls fs there))))

    pub set_stops : {V : Type 0} (Q : List Frames → V → Core → Type 0) (e : ExpandFault) → Tests (Ok tt) → ValueRuns (Err e) → SetRuns Q (Err e)
    set_stops Q e tests runs =
        set_goes Q (Err e) tests (λ known ls s fs knows stands now there.
        let a = asked known fs s in
        node_below known old new region u1 w v ls a at below 1 now h Q (λ d o r. value known fs d o r >>= λ c. done (Set (target_of (noting known) fs r n.name n.occ) c)) (Err e)
        (λ begun. ends_fails (λ (layout : List Frames). CoreStands new v.unit v.form.number) Q old new region w v ls e (value known fs below.depth below.here (spent 1 a)) (λ c. done (Set (target_of (noting known) fs (spent 1 a) n.name n.occ) c))
        (runs known ls (spent 1 a) fs (below_knows u1 w at below 1 h known knows) begun (below_at u1 w at below 1 h ls fs there))))

-- where nothing is expanded
module _ (old : Work) (region : Region) (u u1 : UnitScope) (at : code_at.At) (x : NamePart) (n : Named Identifier) (name : IsName old x n) (tree : Tree Identifier) (turns : ℕ) (same : u1 ≡ with_notes u u1.form.trace.notes)
    (notes : (known : Known) (ls : List Frames) (s : Noting) (fs : Frames) (n : Named Identifier) → Stands old u ls s → At ls at.scope fs → IsName old x n → Stands old u1 ls ((noting known).ask (Headed fs n.name ∷ []) s)) where
  -- the node can't begin
  pub set_unbegun : {V : Type 0} (Q : List Frames → V → Core → Type 0) (w : UnitScope) (e : ExpandFault) → Tests old old region u u1 w at x n name tree turns same notes (Ok tt) → BeginsBelow u1 w at 1 (Err e) → SetRuns old old region u u1 w at x n name tree turns same notes Q (Err e)
  set_unbegun Q w e tests h =
      set_goes old old region u u1 w at x n name tree turns same notes Q (Err e) tests (λ known ls s fs knows stands now there.
      node_unbegun Q known old region u1 w ls ((noting known).ask (Headed fs n.name ∷ []) s) at 1 e (λ d r. expand (noting known) turns d at.here fs (whole tree) r >>= λ c. done (Set (target_of (noting known) fs r n.name n.occ) c)) now h)

  -- a keyword
  pub keyword_runs : {V : Type 0} (P : V → Core → Type 0) (e : ExpandFault) → Tests old old region u u1 u1 at x n name tree turns same notes (Err e) → SetRuns old old region u u1 u1 at x n name tree turns same notes (λ (layout : List Frames). P) (Err e)
  keyword_runs P e tests = λ known ls s fs knows stands there.
      let a = (noting known).ask (Headed fs n.name ∷ []) s in
      let now = notes known ls s fs n stands there name in
      let k = head_of (noting known) fs s n.name in
      let then : Step Noting Core = node (noting known) at.here 1 at.depth (λ d r. expand (noting known) turns d at.here fs (whole tree) r >>= λ c. done (Set (target_of (noting known) fs r n.name n.occ) c)) in
      stays_then (λ (layout : List Frames). P) old old old region u u1 u1 ls a (Err e) (unless_keyword (noting known) at.here k n then a) (noted_stays old region u u1 ls s a stands same now)
      (here_ends P old old region u1 u1 ls (Err e) (unless_keyword (noting known) at.here k n then a) (tested_fails known old region u1 ls a at.here n then k P e now (tests_on old s a at.here n k (Err e) (tests known ls s fs n stands there name))))
