-- Macro uses that waited are met, one after another.
use Rattle.std.proofs.Common.{◌≡◌, ℕ, zero, suc, ◌+◌, ◌≤◌, List, [], ◌∷◌, map, length, take, get_or, slice_get, Some, sym, ap, ◌∙◌, subst, arith, add-one}
use Rattle.std.specs.Prelude.{Vec}
use Rattle.std.specs.declared.alloc.Global.{Global}
use Rattle.std.proofs.lemmas.List.{take_all}
use Rattle.std.proofs.lemmas.Option.{same_Some}
use Rattle.scheme_model.specs.Ident.{Ident as Identifier}
use Rattle.scheme_model.specs.Requirements.{Known}
use Rattle.scheme_model.specs.Order.{WaitingUse, meet_waiting, meet_all}
use Rattle.scheme_model.specs.ScopedExpansion.{Frames, ScopedState}
use Rattle.syntax_tree.specs.declared.trees.Work.{Work}
use Rattle.syntax_tree.specs.declared.trees.table.Region.{Region}
use Rattle.syntax_tree.proofs.Places.{none_some}
use Rattle.core_tree.specs.Names.{AllMatch, IsTarget}
use Rattle.core_tree.specs.declared.cores.Target as code_target
use Rattle.unit_scopes.specs.State.{Stands}
use Rattle.unit_scopes.specs.Stepped.{with_met, with_uses}
use Rattle.unit_scopes.specs.Used.{target_at, met_at}
use Rattle.unit_scopes.specs.Kept.{WaitsFor}
use Rattle.unit_scopes.specs.Outcomes.{Stays, Leaves}
use Rattle.unit_scopes.specs.Searched.{searched}
use Rattle.form_parts.specs.declared.items.WaitingUse as code_waiting
use Rattle.unit_scopes.specs.declared.scope.UnitScope.{UnitScope}
use Rattle.unit_scopes.proofs.CountingStands.{use_stands}

-- one more is met
module _ (known : Known) (fs : Frames) where
  abbrev all : List (WaitingUse Identifier) → ScopedState → ScopedState
  all us s = meet_all (searched known) fs us s

  next_met : (k : ℕ) (us : List (WaitingUse Identifier)) (s : ScopedState) (w : WaitingUse Identifier) → slice_get us k ≡ Some w → all (take (suc k) us) s ≡ meet_waiting (searched known) fs w (all (take k us) s)
  next_met k [] s w h = none_some w h
  next_met zero (u ∷ us) s w h = ap (λ (x : WaitingUse Identifier). meet_waiting (searched known) fs x s) (same_Some u w h)
  next_met (suc k) (u ∷ us) s w h = next_met k us (meet_waiting (searched known) fs u s) w h

  pub one_more_met : (k : ℕ) (us : List (WaitingUse Identifier)) (s : ScopedState) (w : WaitingUse Identifier) → slice_get us k ≡ Some w → all (take (k + 1) us) s ≡ meet_waiting (searched known) fs w (all (take k us) s)
  one_more_met k us s w h = ap (λ (n : ℕ). all (take n us) s) (add-one k) ∙ next_met k us s w h

  pub all_met : (n : ℕ) (us : List (WaitingUse Identifier)) (s : ScopedState) → length us ≤ n → all (take n us) s ≡ all us s
  all_met n us s h = ap (λ (vs : List (WaitingUse Identifier)). all vs s) (take_all n us h)

  -- it waited in the form at work
  pub waits_at : (work : Work) (u : UnitScope) (ls : List Frames) (s : ScopedState) (x : code_waiting.WaitingUse) (w : WaitingUse Identifier) → Stands work u ls s → WaitsFor work u.unit u.form.number x w → WaitsFor work s.unit s.form x w
  waits_at work u ls s x w e h = subst (λ (n : ℕ). WaitsFor work n s.form x w) e.unit (subst (λ (f : ℕ). WaitsFor work u.unit f x w) e.form.number h)

  pub use_met : (work : Work) (u : UnitScope) (ls : List Frames) (s : ScopedState) (x : code_target.Target) (literals : Vec code_target.Target Global) (w : WaitingUse Identifier) → Stands work u ls s → IsTarget work.symbols s.unit s.form x w.keyword →
      AllMatch (IsTarget work.symbols s.unit s.form) literals.items (map (target_at s fs) w.literals) → Stands work (with_met u (record { keyword = x; literals = literals })) ls (meet_waiting (searched known) fs w s)
  use_met work u ls s x literals w e keyword are = use_stands work u ls s (record { keyword = x; literals = literals }) (met_at s fs w) (record { keyword = keyword; literals = are }) e

-- the one at this place in the row waits
pub item_waits : (work : Work) (unit form : ℕ) (xs : List code_waiting.WaitingUse) (k : ℕ) (x : code_waiting.WaitingUse) (w : WaitingUse Identifier) → x ≡ get_or xs k x → WaitsFor work unit form (get_or xs k x) w → WaitsFor work unit form x w
item_waits work unit form xs k x w is h = subst (λ (y : code_waiting.WaitingUse). WaitsFor work unit form y w) (sym is) h

-- what waits in a form waits in it where the list of uses alone has changed
pub waits_on : (work : Work) (u v : UnitScope) (x : code_waiting.WaitingUse) (w : WaitingUse Identifier) → v ≡ with_uses u v.form.trace.uses → WaitsFor work u.unit u.form.number x w → WaitsFor work v.unit v.form.number x w
waits_on work u v x w same h = subst (λ (n : ℕ). WaitsFor work n v.form.number x w) (sym (ap (λ (y : UnitScope). y.unit) same)) (subst (λ (n : ℕ). WaitsFor work u.unit n x w) (sym (ap (λ (y : UnitScope). y.form.number) same)) h)

-- the list of uses alone has changed, twice
pub uses_again : (u v w : UnitScope) → v ≡ with_uses u v.form.trace.uses → w ≡ with_uses v w.form.trace.uses → w ≡ with_uses u w.form.trace.uses
uses_again u v w a b = b ∙ ap (λ (x : UnitScope). with_uses x w.form.trace.uses) a

-- a step, and then uses that are met
pub met_stays : (old new : Work) (region : Region) (u v w : UnitScope) (ls : List Frames) (t r : ScopedState) → Stays old new region u v ls t → Stands new w ls r → w ≡ with_uses v w.form.trace.uses → Stays old new region u w ls r
met_stays old new region u v w ls t r h e same =
    subst (λ (x : UnitScope). Stays old new region u x ls r) (sym same) (record {
      stands = subst (λ (x : UnitScope). Stands new x ls r) same e;
      work = h.work;
      counted = h.counted;
      same = record { unit = h.same.unit; number = h.same.number; root = h.same.root; libraries = h.same.libraries; roots = h.same.roots; uses = h.same.uses; nodes = h.same.nodes; numbers = record { defined = h.same.numbers.defined; numbers = h.same.numbers.numbers } };
    })

-- want of memory behind a step
pub left_behind : (old new : Work) (region : Region) (u v : UnitScope) (ls : List Frames) (t : ScopedState) → Stays old new region u v ls t → Leaves old new region u
left_behind old new region u v ls t h = let counted = h.counted in let few = h.stands.form.few_nodes in record { work = h.work; few = omega (arith, counted, few) }
