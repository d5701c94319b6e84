-- Loops that do steps in a row, whatever state the scopes of the code stand for.
use Rattle.std.proofs.Common.{◌≡◌, ℕ, suc, List, [], ◌∷◌, ◌++◌, take, Result, Ok, Err, refl, sym, subst, arith}
use Rattle.std.specs.Result.{IsErrAnd}
use Rattle.std.specs.BTreeSet.{BTreeSet}
use Rattle.std.specs.Prelude.{String}
use Rattle.std.specs.declared.alloc.Global.{Global}
use Rattle.scheme_model.specs.Requirements.{Known}
use Rattle.scheme_model.specs.Steps.{Broken, Step, ◌>>=◌, done}
use Rattle.scheme_model.specs.ScopedExpansion.{Frames}
use Rattle.syntax_tree.specs.declared.trees.Work.{Work}
use Rattle.syntax_tree.specs.declared.trees.table.Region.{Region}
use Rattle.core_tree.specs.Names.{AllMatch}
use Rattle.feature_requirements.specs.Judged.{Knows}
use Rattle.unit_scopes.specs.Outcomes.{At, SameForm}
use Rattle.feature_requirements.specs.declared.fault.ExpandFault.{ExpandFault}
use Rattle.feature_requirements.specs.declared.fault.ExpandFault.TheVariants as fault
use Rattle.unit_scopes.specs.declared.scope.UnitScope.{UnitScope}
use Rattle.unit_scopes.proofs.OutcomeLaws.{grows_itself, grows_on, same_itself, same_on}
use Rattle.expander.proofs.AfterLaws.{IsAfter}
use Rattle.expander.proofs.RowLaws.{row, row_goes, row_fails, ends_mapped}
use Rattle.noted_steps.specs.Noting.{Noting}
use Rattle.noted_steps.specs.Outcomes.{Moves, Ends, Runs}
use Rattle.noted_steps.proofs.OutcomeLaws.{stays_itself, moves_here, ends_fails}
use Rattle.noted_steps.proofs.NodeLaws.{ends_err}
use Rattle.noted_steps.specs.Kept.{CanLook}

-- ---- what can be done after calls

pub after_itself : (work : Work) (region : Region) (u : UnitScope) (scope : ℕ) → CanLook work u scope → IsAfter work work region u u scope
after_itself work region u scope look = record { look = look; work = grows_itself work region; same = same_itself u }

pub after_on : (a b c : Work) (region : Region) (u w v : UnitScope) (scope inner : ℕ) → IsAfter a b region u w scope → IsAfter b c region w v inner → IsAfter a c region u v inner
after_on a b c region u w v scope inner p q = record { look = q.look; work = grows_on a b c region p.work q.work; same = same_on u w v p.same q.same }

pub knows_on : (known : Known) (u v : UnitScope) → SameForm u v → Knows u.libraries known → Knows v.libraries known
knows_on known u v same knows = subst (λ (l : BTreeSet (String Global)). Knows l known) (sym same.libraries) knows

-- ---- the row so far

module _ {A X Y : Type 0} (f : Known → Frames → A → Step Noting Y) where
  pub runs_none : (P : X → Y → Type 0) (work : Work) (region : Region) (u : UnitScope) (scope : ℕ) (xs : List X) → xs ≡ [] → Runs (λ layout. AllMatch P) work work region u u scope (Ok xs) (λ known fs. row (f known fs) [])
  runs_none P work region u scope xs none = λ known ls s fs knows stands at.
      subst (λ (zs : List X). Ends (λ layout. AllMatch P) work work region u u ls (Ok zs) (done {S = Noting} {A = List Y} [] s)) (sym none)
      ([], moves_here work work region u u ls s (stays_itself work region u ls s stands), refl, tt)

  module _ (P Q : X → Y → Type 0) (on : (x : X) (y : Y) → P x y → Q x y) (a b c : Work) (region : Region) (u w v : UnitScope) (scope : ℕ) (xs : List X) (k : ℕ) (es : List A) (e : A) (split : take (suc k) es ≡ take k es ++ e ∷ [])
      (before : Runs (λ (layout : List Frames). AllMatch P) a b region u w scope (Ok xs) (λ known fs. row (f known fs) (take k es))) where
    next_from : (Z : Result X ExpandFault) → Runs (λ (layout : List Frames). Q) b c region w v scope Z (λ known fs. f known fs e) → (known : Known) (ls : List Frames) (s : Noting) (fs : Frames) → Knows u.libraries known → At ls scope fs →
        (m : Moves a b region u w ls (row (f known fs) (take k es) s).1) → Ends (λ layout. Q) b c region w v m.layout Z (f known fs e (row (f known fs) (take k es) s).1)
    next_from Z runs known ls s fs knows at m = runs known m.layout (row (f known fs) (take k es) s).1 fs (knows_on known u w m.stays.same knows) m.stays.stands (m.kept scope fs at)

    pub runs_more : (x : X) → Runs (λ (layout : List Frames). Q) b c region w v scope (Ok x) (λ known fs. f known fs e) → Runs (λ (layout : List Frames). AllMatch Q) a c region u v scope (Ok (xs ++ x ∷ [])) (λ known fs. row (f known fs) (take (suc k) es))
    runs_more x runs = λ known ls s fs knows stands at.
        row_goes (f known fs) P Q on a b c region u w v ls s xs x k es e split (before known ls s fs knows stands at) (next_from (Ok x) runs known ls s fs knows at)

    pub runs_stop : {V : Type 0} (R : List Frames → V → List Y → Type 0) (x : ExpandFault) → Runs (λ (layout : List Frames). Q) b c region w v scope (Err x) (λ known fs. f known fs e) → Runs R a c region u v scope (Err x) (λ known fs. row (f known fs) es)
    runs_stop R x runs = λ known ls s fs knows stands at.
        row_fails (f known fs) P Q on a b c region u w v ls s R xs x k es e split (before known ls s fs knows stands at) (next_from (Err x) runs known ls s fs knows at)

-- ---- the whole row, as the definition tells it

module _ {A Y Z : Type 0} (f : Known → Frames → A → Step Noting Y) (tell : List Y → Z) (step : Known → Frames → Step Noting Z) (es : List A) (same : (known : Known) (fs : Frames) (s : Noting) → step known fs s ≡ (row (f known fs) es s >>= λ ys. done (tell ys))) (a c : Work) (region : Region) (u v : UnitScope) (scope : ℕ) where
  pub runs_told : {X V : Type 0} (P : X → Y → Type 0) (Q : V → Z → Type 0) (xs : List X) (z : V) (k : ℕ) → take k es ≡ es → ((ys : List Y) → AllMatch P xs ys → Q z (tell ys)) → Runs (λ (layout : List Frames). AllMatch P) a c region u v scope (Ok xs) (λ known fs. row (f known fs) (take k es)) →
      Runs (λ (layout : List Frames). Q) a c region u v scope (Ok z) step
  runs_told P Q xs z k all on runs = λ known ls s fs knows stands at.
      subst (λ (p : Result Z Broken × Noting). Ends (λ layout. Q) a c region u v ls (Ok z) p) (sym (same known fs s))
      (ends_mapped (λ layout. AllMatch P) (λ layout. Q) a c region u v ls xs z (row (f known fs) es s) tell (λ layout ys held. on ys held)
      (subst (λ (zs : List A). Ends (λ layout. AllMatch P) a c region u v ls (Ok xs) (row (f known fs) zs s)) all (runs known ls s fs knows stands at)))

  pub runs_failed : {X V : Type 0} (P : List Frames → X → List Y → Type 0) (Q : List Frames → V → Z → Type 0) (r : Result V ExpandFault) (x : ExpandFault) → IsErrAnd r (λ g. g ≡ x) → Runs P a c region u v scope (Err x) (λ known fs. row (f known fs) es) → Runs Q a c region u v scope r step
  runs_failed P Q r x is runs = λ known ls s fs knows stands at.
      ends_err Q a c region u v ls r x (step known fs s) is
      (subst (λ (p : Result Z Broken × Noting). Ends Q a c region u v ls (Err x) p) (sym (same known fs s)) (ends_fails P Q a c region u v ls x (row (f known fs) es s) (λ ys. done (tell ys)) (runs known ls s fs knows stands at)))

-- ---- want of memory behind calls

pub memory_behind : {X Y V Z : Type 0} (P : List Frames → X → Y → Type 0) (Q : List Frames → V → Z → Type 0) (a c : Work) (region : Region) (u v : UnitScope) (ls : List Frames) (x : X) (p : Result Y Broken × Noting) (q : Result Z Broken × Noting) → Ends P a c region u v ls (Ok x) p → Ends Q a c region u v ls (Err fault.Memory) q
memory_behind P Q a c region u v ls x p q h = record { work = h.1.stays.work; few = omega (arith, h.1.stays.counted, h.1.stays.stands.form.few_nodes) }
