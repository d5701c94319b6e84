-- A unit that was begun just now: none of its forms has counted, met or defined anything.
use Rattle.std.proofs.Common.{◌≡◌, ℕ, ◌+◌, ◌^◌, ◌==◌, List, [], ◌∷◌, length, Bool, cond, Option, None, refl, sym, ap, ◌∙◌, subst, arith, eq-eqb}
use Rattle.std.specs.Prelude.{filter}
use Rattle.std.specs.FinMap as map
use Rattle.scheme_model.specs.Meaning.{Meaning}
use Rattle.scheme_model.specs.Substitution.{Defined}
use Rattle.scheme_model.specs.ScopedExpansion.{Frames, ScopedState}
use Rattle.syntax_tree.specs.declared.trees.Work.{Work}
use Rattle.scope_env.specs.Environment.{IsSound}
use Rattle.core_tree.specs.Units.{defined_by}
use Rattle.core_tree.specs.declared.traces.Trace.{Trace}
use Rattle.unit_scopes.specs.Opened.{HasUnits, started, with_imports}
use Rattle.unit_scopes.specs.Others.{InOrder}
use Rattle.unit_scopes.specs.State.{numbered}
use Rattle.unit_scopes.specs.Stepped.{IsFresh}
use Rattle.unit_scopes.specs.Units.{CountsFor, HasSpace, form_at}
use Rattle.unit_scopes.specs.declared.scope.Budget.{Budget}
use Rattle.unit_scopes.specs.declared.scope.UnitScope.{UnitScope}
use Rattle.unit_scopes.proofs.FormsStand.{fresh_stands}
use Rattle.unit_scopes.proofs.ImportLaws.{none_counted}
use Rattle.unit_scopes.proofs.NumberedLaws.{none_numbered}
use Rattle.unit_scopes.proofs.OpenedStand.{none_defined}

pub unit_fresh : (work : Work) (u : UnitScope) (unit : ℕ) (program : Bool) → IsSound u.env → map.get u.env.roots unit ≡ None → (ls : List Frames) (s : ScopedState) (imported : List ℕ → Option Meaning) → HasUnits work u ls s →
    (m : ℕ) → IsFresh (started unit program (with_imports unit imported s.entry) s) m
unit_fresh work u unit program sound new ls s imported h m = record {
  locals = refl;
  uses = refl;
  nodes = refl;
  keywords = refl;
  met = refl;
  definitions = none_numbered unit m s.table (none_counted s.table unit (none_defined work.symbols u.env sound ls s unit program new h.begun h.env));
}

-- counts of nothing are those of a form that has counted nothing
pub none_count : (work : Work) (s : ScopedState) (m : ℕ) (b : Budget) (t : Trace) → IsFresh s m → b.uses ≡ 0 → b.nodes ≡ 0 → b.locals ≡ 0 → t.definitions ≡ [] → t.keywords ≡ [] → t.uses ≡ [] → CountsFor work s m b t
none_count work s m b t fresh uses nodes locals definitions keywords met = fresh_stands work.symbols (form_at m b t) s m refl locals uses nodes definitions keywords met fresh

pub none_has_space : (b : Budget) → b.locals ≡ 0 → HasSpace (2 ^ 43 + 2 ^ 40) b
none_has_space b none = omega (arith, none)

-- where no form has defined anything, there is no definition
not_none : {P : Type 0} {X : Type 0} (x : X) (xs : List X) → x ∷ xs ≡ [] → P
not_none x xs h = absurd cc

of_none : (ds : List Defined) → ((m : ℕ) → filter (λ (e : ℕ × Defined). e.1.form == m) (numbered ds) ≡ []) → ds ≡ []
of_none [] none = refl
of_none (d ∷ ds) none =
    let rest : List (ℕ × Defined) = filter (λ (e : ℕ × Defined). e.1.form == d.form) (numbered ds) in
    let first : ℕ × Defined = (length ds, d) in
    let here : cond (d.form == d.form) (first ∷ rest) rest ≡ first ∷ rest = ap (λ b. cond b (first ∷ rest) rest) (eq-eqb d.form d.form refl) in
    not_none first rest (sym here ∙ none d.form)

pub none_in_order : (s : ScopedState) → ((m : ℕ) → IsFresh s m) → InOrder (λ (d : Defined). d.form) 0 0 (defined_by s.unit s.table)
none_in_order s fresh = subst (λ (ds : List Defined). InOrder (λ (d : Defined). d.form) 0 0 ds) (sym (of_none (defined_by s.unit s.table) (λ m. (fresh m).definitions))) tt
