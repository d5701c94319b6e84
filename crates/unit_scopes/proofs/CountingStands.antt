-- What is counted and what is met: the state stands with it.
use Rattle.std.proofs.Common.{◌≡◌, ℕ, ◌+◌, ◌^◌, ◌<◌, ◌≤◌, List, [], ◌∷◌, ◌++◌, reverse, cond, refl, sym, ap, ◌∙◌, subst, arith, eq-eqb}
use Rattle.std.proofs.lemmas.Grind.{reverse_onto}
use Rattle.scheme_model.specs.Cores.{Target, MacroUse}
use Rattle.scheme_model.specs.Substitution.{Clock, at_form}
use Rattle.scheme_model.specs.Order.{max_nodes}
use Rattle.scheme_model.specs.ScopedExpansion.{Frames, ScopedState}
use Rattle.syntax_tree.specs.Names.{Names}
use Rattle.syntax_tree.specs.declared.trees.Work.{Work}
use Rattle.scope_env.specs.Environment.{Environment}
use Rattle.core_tree.specs.Names.{AllMatch, IsTarget, IsUse}
use Rattle.core_tree.specs.declared.cores.Target as code_target
use Rattle.core_tree.specs.declared.traces.MacroUse as code_use
use Rattle.unit_scopes.specs.declared.macros.Macros.{Macros}
use Rattle.unit_scopes.specs.declared.scope.FormAtWork.{FormAtWork}
use Rattle.unit_scopes.specs.declared.scope.UnitScope.{UnitScope}
use Rattle.unit_scopes.specs.Counts.{with_nodes}
use Rattle.unit_scopes.specs.Binds.{with_locals}
use Rattle.unit_scopes.specs.State.{EnvStands, MacrosStand, FormStands, Stands, most_locals}
use Rattle.unit_scopes.specs.Stepped.{spent, taken, met, met_use, with_keyword, with_met}

-- what a clock tells of the form that was counted
pub counted_here : {X : Type 0} (form : ℕ) (f : X → X) (clock : ℕ → X) → at_form form f clock form ≡ f (clock form)
counted_here form f clock = ap (λ b. cond b (f (clock form)) (clock form)) (eq-eqb form form refl)

-- ---- scopes and macros don't change with counts

module _ (s : ScopedState) (locals uses nodes : Clock) (keywords : ℕ → List Target) (met_uses : ℕ → List MacroUse) where
  abbrev recounted : ScopedState
  recounted = record s { locals = locals; uses = uses; nodes = nodes; keywords = keywords; met = met_uses }

  pub env_recounted : (names : Names) (env : Environment) (ls : List Frames) → EnvStands names env ls s → EnvStands names env ls recounted
  env_recounted names env ls e = record {
    count = e.count;
    scopes = e.scopes;
    given = e.given;
    noted = e.noted;
    unnoted = e.unnoted;
    inside = e.inside;
    entered = e.entered;
    defined = e.defined;
    named = e.named;
    given_named = e.given_named;
  }

  pub macros_recounted : (work : Work) (ms : Macros) (ls : List Frames) → MacrosStand work ms ls s → MacrosStand work ms ls recounted
  macros_recounted work ms ls m = record { there = m.there; idents = m.idents; symbols = m.symbols; free = m.free; known_idents = m.known_idents; known_symbols = m.known_symbols }

  -- so it is the form at work that has to stand
  pub recounted_stands : (work : Work) (u : UnitScope) (f : FormAtWork) (ls : List Frames) → Stands work u ls s → FormStands work.symbols f recounted → Stands work (record u { form = f }) ls recounted
  recounted_stands work u f ls e form = record {
    unit = e.unit;
    program = e.program;
    env = env_recounted work.symbols u.env ls e.env;
    macros = macros_recounted work u.macros ls e.macros;
    root = e.root;
    own = e.own;
    begun = record { frames = e.begun.frames; bodies = e.begun.bodies; macros = e.begun.macros };
    form = form;
    defined = e.defined;
    known = e.known;
    count = e.count;
  }

-- ---- nodes and locals

pub nodes_stand : (work : Work) (u : UnitScope) (ls : List Frames) (s : ScopedState) (n : ℕ) → u.form.budget.nodes + n ≤ max_nodes → Stands work u ls s → Stands work (with_nodes u n) ls (spent n s)
nodes_stand work u ls s n within e =
    let nodes = at_form s.form (λ m. m + n) s.nodes in
    let now : u.form.budget.nodes + n ≡ nodes s.form = ap (λ m. m + n) e.form.nodes ∙ sym (counted_here s.form (λ m. m + n) s.nodes) in
    let f = e.form in
    recounted_stands s s.locals s.uses nodes s.keywords s.met work u (with_nodes u n).form ls e (record {
      number = f.number;
      locals = f.locals;
      uses = f.uses;
      nodes = now;
      few_uses = f.few_uses;
      few_nodes = within;
      few_locals = omega (arith, f.few_locals);
      definitions = f.definitions;
      keywords = f.keywords;
      met = f.met;
    })

pub locals_stand : (work : Work) (u : UnitScope) (ls : List Frames) (s : ScopedState) (n : ℕ) → u.form.budget.locals + n ≤ most_locals u.form.budget.nodes → Stands work u ls s →
    Stands work (with_locals u (u.form.budget.locals + n)) ls (taken n s)
locals_stand work u ls s n within e =
    let locals = at_form s.form (λ m. m + n) s.locals in
    let now : u.form.budget.locals + n ≡ locals s.form = ap (λ m. m + n) e.form.locals ∙ sym (counted_here s.form (λ m. m + n) s.locals) in
    let f = e.form in
    recounted_stands s locals s.uses s.nodes s.keywords s.met work u (with_locals u (u.form.budget.locals + n)).form ls e (record {
      number = f.number;
      locals = now;
      uses = f.uses;
      nodes = f.nodes;
      few_uses = f.few_uses;
      few_nodes = f.few_nodes;
      few_locals = within;
      definitions = f.definitions;
      keywords = f.keywords;
      met = f.met;
    })

-- so locals never overflow, nor do as many again
pub most_fit : (nodes : ℕ) → nodes ≤ max_nodes → most_locals nodes < 2 ^ 62
most_fit nodes within = omega (arith, within)

pub locals_fit : (names : Names) (f : FormAtWork) (s : ScopedState) → FormStands names f s → f.budget.locals < 2 ^ 62
locals_fit names f s e = omega (arith, e.few_locals, e.few_nodes)

-- ---- keywords and uses

pub all_last : {X Y : Type 0} (P : X → Y → Type 0) (xs : List X) (ys : List Y) (x : X) (y : Y) → AllMatch P xs ys → P x y → AllMatch P (xs ++ x ∷ []) (ys ++ y ∷ [])
all_last P [] [] x y h p = (p, tt)
all_last P [] (z ∷ ys) x y h p = absurd h
all_last P (w ∷ xs) [] x y h p = absurd h
all_last P (w ∷ xs) (z ∷ ys) x y h p = (h.0, all_last P xs ys x y h.1 p)

-- one more at the end of the code's list is one more in front of the state's
met_last : {X Y : Type 0} (P : X → Y → Type 0) (form : ℕ) (clock : ℕ → List Y) (xs : List X) (x : X) (y : Y) → AllMatch P xs (reverse (clock form)) → P x y → AllMatch P (xs ++ x ∷ []) (reverse (at_form form (λ ys. y ∷ ys) clock form))
met_last P form clock xs x y h p =
    subst (λ ys. AllMatch P (xs ++ x ∷ []) (reverse ys)) (sym (counted_here form (λ ys. y ∷ ys) clock))
    (subst (λ ys. AllMatch P (xs ++ x ∷ []) ys) (sym (reverse_onto (clock form) y [])) (all_last P xs (reverse (clock form)) x y h p))

pub keyword_stands : (work : Work) (u : UnitScope) (ls : List Frames) (s : ScopedState) (x : code_target.Target) (t : Target) → IsTarget work.symbols s.unit s.form x t → Stands work u ls s → Stands work (with_keyword u x) ls (met t s)
keyword_stands work u ls s x t for e =
    let f = e.form in
    recounted_stands s s.locals s.uses s.nodes (at_form s.form (λ ys. t ∷ ys) s.keywords) s.met work u (with_keyword u x).form ls e (record {
      number = f.number;
      locals = f.locals;
      uses = f.uses;
      nodes = f.nodes;
      few_uses = f.few_uses;
      few_nodes = f.few_nodes;
      few_locals = f.few_locals;
      definitions = f.definitions;
      keywords = met_last (IsTarget work.symbols s.unit s.form) s.form s.keywords u.form.trace.keywords x t f.keywords for;
      met = f.met;
    })

pub use_stands : (work : Work) (u : UnitScope) (ls : List Frames) (s : ScopedState) (x : code_use.MacroUse) (t : MacroUse) → IsUse work.symbols s.unit s.form x t → Stands work u ls s → Stands work (with_met u x) ls (met_use t s)
use_stands work u ls s x t for e =
    let f = e.form in
    recounted_stands s s.locals s.uses s.nodes s.keywords (at_form s.form (λ ys. t ∷ ys) s.met) work u (with_met u x).form ls e (record {
      number = f.number;
      locals = f.locals;
      uses = f.uses;
      nodes = f.nodes;
      few_uses = f.few_uses;
      few_nodes = f.few_nodes;
      few_locals = f.few_locals;
      definitions = f.definitions;
      keywords = f.keywords;
      met = met_last (IsUse work.symbols s.unit s.form) s.form s.met u.form.trace.uses x t f.met for;
    })
