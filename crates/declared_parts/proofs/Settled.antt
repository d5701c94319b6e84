-- What isn't local of a form's surroundings and of what it has made by a moment; the code's scopes stand for it whatever the forms have counted.
use Rattle.std.proofs.Common.{◌≡◌, ℕ, ◌<◌, List, [], ◌∷◌, ◌++◌, slice_get, Bool, true, false, cond, Option, Some, None, refl, sym, ap, ◌∙◌, subst}
use Rattle.std.specs.Option.{option_and_then}
use Rattle.std.proofs.lemmas.Option.{slice_get_within}
use Rattle.scheme_model.specs.Ident.{Ident as Identifier}
use Rattle.scheme_model.specs.Order.{Transformer}
use Rattle.scheme_model.specs.ScopedExpansion.{Frames, ScopedMacro, ScopedState}
use Rattle.scheme_model.specs.Questions.{Moment, Around}
use Rattle.scheme_model.specs.FormsAlike.{again}
use Rattle.forgotten_locals.specs.Outside.{is_outside, macros_outside, outside}
use Rattle.syntax_tree.specs.Names.{Names}
use Rattle.syntax_tree.specs.declared.trees.Work.{Work}
use Rattle.scope_env.specs.Environment.{Environment, Scope, IsSound}
use Rattle.scope_env.specs.Moved.{parent_of}
use Rattle.unit_scopes.specs.Editions.{EditionsTell}
use Rattle.unit_scopes.specs.Forgotten.{AllOwn}
use Rattle.unit_scopes.specs.State.{AreEntered, AreDefined, EnvStands, Rests, Stands}
use Rattle.unit_scopes.specs.declared.macros.Macros.{Macros}
use Rattle.unit_scopes.specs.declared.scope.UnitScope.{UnitScope}
use Rattle.declared_parts.specs.Going.{settled}

-- ---- the state

kept_if : (b : Bool) (k : ScopedMacro) (xs ys : List ScopedMacro) → cond b (k ∷ (xs ++ ys)) (xs ++ ys) ≡ cond b (k ∷ xs) xs ++ ys
kept_if true k xs ys = refl
kept_if false k xs ys = refl

macros_both : (xs ys : List ScopedMacro) → macros_outside (xs ++ ys) ≡ macros_outside xs ++ macros_outside ys
macros_both [] ys = refl
macros_both (k ∷ xs) ys =
    ap (λ (zs : List ScopedMacro). cond (is_outside k.meaning) (k ∷ zs) zs) (macros_both xs ys) ∙ kept_if (is_outside k.meaning) k (macros_outside xs) (macros_outside ys)

-- with other counts
abbrev pub with_counts : ScopedState → ScopedState → ScopedState
with_counts c s = record s { locals = c.locals; uses = c.uses; nodes = c.nodes; bodies = c.bodies; keywords = c.keywords; met = c.met }

pub settled_is : (v : Around) (n : Moment) → outside (again v n) ≡ with_counts (again v n) (settled v n)
settled_is v n = let macros = macros_both n.macros v.state.macros in λ j. record (outside (again v n)) { macros = macros j }

pub settled_told : (v : Around) (n m : Moment) → n.table ≡ m.table → macros_outside n.macros ≡ macros_outside m.macros → settled v n ≡ settled v m
settled_told v n m table macros = λ j. record (outside v.state) { table = table j ++ v.state.table; macros = macros j ++ macros_outside v.state.macros }

-- ---- the scopes

none_some : {X : Type 0} {P : Type 0} (o : Option X) (x : X) → o ≡ None → o ≡ Some x → P
none_some o x none some = let never : None ≡ Some x = sym none ∙ some in absurd cc

-- where each scope is a unit's own, no frames are around any
pub all_flat : (names : Names) (u : UnitScope) (ls : List Frames) (s : ScopedState) → AllOwn u → IsSound u.env → EnvStands names u.env ls s → (n : ℕ) (fs : Frames) → slice_get ls n ≡ Some fs → fs ≡ []
all_flat names u ls s all sound e n [] at = refl
all_flat names u ls s all sound e n (f ∷ fs) at =
    let own = all n (subst (λ (len : ℕ). n < len) e.count (slice_get_within ls n (f ∷ fs) at)) in
    let root = sound.roots own.0 n own.1 in
    let inside = e.inside n f fs at in
    none_some (parent_of u.env n) inside.0 (ap (λ (o : Option Scope). option_and_then (λ (x : Scope). x.parent) o) root.there ∙ root.outermost) inside.1

module _ (ls : List Frames) (flat : (n : ℕ) (fs : Frames) → slice_get ls n ≡ Some fs → fs ≡ []) (c s : ScopedState) (none : s.definitions ≡ []) where
  abbrev t : ScopedState
  t = with_counts c s

  pub env_counted : (names : Names) (env : Environment) → EnvStands names env ls s → EnvStands names env ls t
  env_counted names env e = record {
    count = e.count;
    scopes = e.scopes;
    given = e.given;
    noted = e.noted;
    unnoted = e.unnoted;
    inside = e.inside;
    entered = λ n fs at. subst (AreEntered t) (sym (flat n fs at)) tt;
    defined = subst (AreDefined t) (sym none) tt;
    named = e.named;
    given_named = e.given_named;
  }

  pub rests_counted : (work : Work) (u : UnitScope) → Rests work u ls s → Rests work u ls t
  rests_counted work u h = record {
    unit = h.unit;
    program = h.program;
    env = env_counted work.symbols u.env h.env;
    macros = record { there = h.macros.there; idents = h.macros.idents; symbols = h.macros.symbols; free = h.macros.free; known_idents = h.macros.known_idents; known_symbols = h.macros.known_symbols };
    root = h.root;
    own = h.own;
    begun = record { frames = h.begun.frames; bodies = h.begun.bodies; macros = h.begun.macros };
    defined = h.defined;
    known = h.known;
    count = h.count;
  }

pub editions_counted : (c s : ScopedState) (names : Names) (ms : Macros) (editions : ℕ → Option (Transformer Frames Identifier)) → EditionsTell names ms s editions → EditionsTell names ms (with_counts c s) editions
editions_counted c s names ms editions h = record { none = h.none; tells = h.tells }

-- between two forms, whatever the one at work is
pub stands_rests : (work : Work) (u : UnitScope) (ls : List Frames) (s : ScopedState) → Stands work u ls s → Rests work u ls s
stands_rests work u ls s h = record { unit = h.unit; program = h.program; env = h.env; macros = h.macros; root = h.root; own = h.own; begun = h.begun; defined = h.defined; known = h.known; count = h.count }
