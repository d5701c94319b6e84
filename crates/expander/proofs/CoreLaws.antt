-- The parts of expressions, each by the steps that the code takes: procedures, bodies, local macros, assignments.
use Rattle.std.proofs.Common.{◌≡◌, ℕ, ◌+◌, ◌≤◌, List, [], ◌∷◌, ◌++◌, length, Bool, true, false, None, Result, Ok, Err, refl, sym, ap, ◌∙◌, subst, arith, Vec}
use Rattle.std.specs.Prelude.{String}
use Rattle.std.specs.Global.{Box}
use Rattle.std.specs.declared.alloc.Global.{Global}
use Rattle.scheme_model.specs.Trees.{list, Trees, tree, proper}
use Rattle.scheme_model.specs.Ident.{Ident as Identifier}
use Rattle.scheme_model.specs.ExpansionFaults.{Named}
use Rattle.scheme_model.specs.Requirements.{Known}
use Rattle.scheme_model.specs.Shapes.{Clause, LocalMacros}
use Rattle.scheme_model.specs.Cores.{Core, Body, Binder, Binders, Parts}
use Rattle.scheme_model.specs.Steps.{Broken, Step, ◌>>=◌, done}
use Rattle.scheme_model.specs.Order.{Here, Item, forms_at, run, Left, meet_all}
use Rattle.scheme_model.specs.Expression.{Expander, body, procedure, expand, item_part, parts, left_of, body_in, local_macros, recursive, numbers}
use Rattle.scheme_model.specs.ScopedExpansion.{Frames}
use Rattle.syntax_tree.specs.Names.{AreToldApart}
use Rattle.syntax_tree.specs.declared.trees.Work.{Work}
use Rattle.syntax_tree.specs.declared.trees.table.Region.{Region}
use Rattle.syntax_tree.proofs.Places.{get_front, get_next}
use Rattle.scope_env.specs.Environment.{IsSound, with_child}
use Rattle.core_forms.specs.Parts.{AllMatch as AllParts, IsName}
use Rattle.core_forms.specs.declared.shape.NamePart.{NamePart}
use Rattle.core_tree.specs.Names.{AllMatch, IsBinder}
use Rattle.core_tree.specs.Cores.{CoreStands}
use Rattle.core_tree.specs.declared.cores.Binder as code_binder
use Rattle.core_tree.specs.declared.cores.Clause as code_clause
use Rattle.core_tree.specs.declared.cores.Core as code_core
use Rattle.unit_scopes.specs.Binds.{Binds}
use Rattle.expander.specs.Bodies.{body_pass}
use Rattle.unit_scopes.specs.State.{most_locals}
use Rattle.unit_scopes.specs.Stepped.{bound_frames, bound_binders}
use Rattle.std.specs.BTreeSet.{BTreeSet}
use Rattle.feature_requirements.specs.Judged.{Knows}
use Rattle.unit_scopes.specs.Outcomes.{At}
use Rattle.expander.specs.Expanded.{ClauseStands, macros_step}
use Rattle.feature_requirements.specs.declared.fault.ExpandFault.{ExpandFault}
use Rattle.unit_scopes.specs.declared.scope.UnitScope.{UnitScope}
use Rattle.unit_scopes.proofs.BindersStand.{roots_stay}
use Rattle.noted_steps.proofs.BindersStand.{bound_is, binders_stand, BindersStand}
use Rattle.unit_scopes.proofs.OutcomeLaws.{grows_itself, numbers_stay}
use Rattle.expander.proofs.RowLaws.{ends_mapped}
use Rattle.unit_scopes.proofs.CoreStandLaws.{binders_on}
use Rattle.noted_steps.specs.Noting.{Noting, next_number, noting}
use Rattle.noted_steps.specs.Standing.{Stands}
use Rattle.noted_steps.specs.Stepped.{taken, with_binders, entered, entered_frames}
use Rattle.noted_steps.specs.Outcomes.{Moves, Ends, Runs}
use Rattle.noted_steps.proofs.OutcomeLaws.{ends_after, ends_fails}

-- ---- names that are bound

with_rest : {B : Type 0} (bs : List Binder) (r : Result B Broken × Noting) → ((r >>= with_binders bs) >>= λ q. done q.1) ≡ r
with_rest bs (Ok x, s) = refl
with_rest bs (Err e, s) = refl

as_clause : {B : Type 0} (bs : List Binder) (rest : Bool) (r : Result B Broken × Noting) →
    ((r >>= with_binders bs) >>= λ q. done {A = Binders × B} (record { names = q.0; rest = rest }, q.1)) ≡ (r >>= λ m. done (record { names = bs; rest = rest }, m))
as_clause bs rest (Ok x, s) = refl
as_clause bs rest (Err e, s) = refl

pub procedure_is : (known : Known) (f : Expander Frames Identifier Noting) (depth : ℕ) (here : Here) (fs : Frames) (c : Clause Identifier) (s : Noting) →
    procedure f (noting known) depth here fs c s
    ≡ (f depth here (bound_frames (next_number s s.locals) c.formals.names fs) (body c.body) (taken (length c.formals.names) s) >>= λ m. done (record { names = bound_binders (next_number s s.locals) c.formals.names; rest = c.formals.rest }, m))
procedure_is known f depth here fs c s =
    let v = next_number s s.locals in
    let ns = c.formals.names in
    let inner : Frames → Trees Identifier → Step Noting Core = λ d ts. f depth here d (body ts) in
    ap (λ (r : Result (List Binder × Core) Broken × Noting). r >>= λ q. done {A = Binders × Core} (record { names = q.0; rest = c.formals.rest }, q.1)) (bound_is known inner ns fs c.body s)
    ∙ as_clause (bound_binders v ns) c.formals.rest (inner (bound_frames v ns fs) c.body (taken (length ns) s))

-- the new scope is the newest, and the others keep their frames
module _ (work : Work) (region : Region) (u w : UnitScope) (ls : List Frames) (s : Noting) (scope : ℕ) (fs : Frames) (xs : List NamePart) (ns : List (Named Identifier)) (inner : ℕ) (bs : List code_binder.Binder) where
  unfoldable pub binds_moves : BindersStand work w ls s fs ns inner bs → Binds u w scope xs inner bs → Moves work work region u w ls (taken (length ns) s)
  binds_moves b h = record {
    layout = ls ++ bound_frames (next_number s s.locals) ns fs ∷ [];
    kept = λ n gs at. get_front ls (bound_frames (next_number s s.locals) ns fs ∷ []) n gs at;
    stays = record {
      stands = b.stands;
      work = grows_itself work region;
      counted = omega (arith, ap (λ (x : UnitScope). x.form.budget.nodes) h.after);
      same = record {
        unit = ap (λ (x : UnitScope). x.unit) h.after;
        number = ap (λ (x : UnitScope). x.form.number) h.after;
        root = ap (λ (x : UnitScope). x.root) h.after;
        libraries = ap (λ (x : UnitScope). x.libraries) h.after;
        roots = ap (λ (x : UnitScope). x.env.roots) h.after ∙ roots_stay (with_child u.env scope) (length u.env.scopes) u.form.budget.locals xs;
        uses = omega (arith, ap (λ (x : UnitScope). x.form.budget.uses) h.after);
        nodes = omega (arith, ap (λ (x : UnitScope). x.form.budget.nodes) h.after);
        numbers = numbers_stay u w (ap (λ (x : UnitScope). x.macros) h.after) (ap (λ (x : UnitScope). x.defined) h.after);
      };
    };
  }

  pub inner_at : BindersStand work w ls s fs ns inner bs → At (ls ++ bound_frames (next_number s s.locals) ns fs ∷ []) inner (bound_frames (next_number s s.locals) ns fs)
  inner_at b = subst (λ (n : ℕ). At (ls ++ bound_frames (next_number s s.locals) ns fs ∷ []) n (bound_frames (next_number s s.locals) ns fs)) (sym b.at) (get_next ls [] (bound_frames (next_number s s.locals) ns fs))

-- ---- bodies

module _ (known : Known) (turns depth : ℕ) (here : Here) (fs : Frames) (ts : Trees Identifier) (t : Noting) where
  abbrev kept_parts : ℕ → Frames × List (Item Identifier) → Step Noting Parts
  kept_parts below m = parts (item_part (expand (noting known) turns) (noting known) below m.0) m.1

  abbrev meeting : Frames → Left Identifier → Step Noting (Frames × List (Item Identifier))
  meeting g l u = done (g, l.items) (meet_all (noting known) g l.uses u)

  split_body : (below : ℕ) (g : Frames) (r : Result (Left Identifier) Broken × Noting) →
      (r >>= λ l u. parts (item_part (expand (noting known) turns) (noting known) below g) l.items (meet_all (noting known) g l.uses u) >>= λ ps. done (Body ps)) ≡ (((r >>= meeting g) >>= kept_parts below) >>= λ ps. done (Body ps))
  split_body below g (Ok l, s) = refl
  split_body below g (Err e, s) = refl

  pub body_is : (below : ℕ) → body_in (noting known) turns (item_part (expand (noting known) turns) (noting known) below) here (record { env = entered_frames t fs; trees = ts; state = entered t })
      ≡ ((body_pass turns here ts known fs t >>= kept_parts below) >>= λ ps. done (Body ps))
  body_is below = split_body below (entered_frames t fs) (left_of (run (noting known) turns (entered_frames t fs) (record { todo = forms_at here ts; aside = []; uses = []; notes = [] }) (entered t)))

-- ---- local macros

-- what is done once the macros' names are bound
pub macros_are : (again : Bool) (known : Known) (f : Expander Frames Identifier Noting) (depth : ℕ) (here : Here) (fs : Frames) (m : LocalMacros Identifier) (s : Noting) → (rules_at : Frames) →
    ((again ≡ true) → rules_at ≡ bound_frames (next_number s s.locals) m.names fs) → ((again ≡ false) → rules_at ≡ fs) →
    macros_step again f (noting known) depth here fs m s
    ≡ local_macros f (noting known) depth here (numbers (next_number s s.locals) m.names) m.names rules_at m.rules (bound_frames (next_number s s.locals) m.names fs) m.body (taken (length m.names) s)
macros_are true known f depth here fs m s rules_at inside outside =
    let v = next_number s s.locals in
    let inner : Frames → Trees Identifier → Step Noting Core = recursive f (noting known) depth here (numbers v m.names) m.names in
    let gs = bound_frames v m.names fs in
    let region : Trees Identifier = tree (list m.rules proper None) m.body in
    ap (λ (r : Result (List Binder × Core) Broken × Noting). r >>= λ q. done q.1) (bound_is known inner m.names fs region s)
    ∙ (with_rest (bound_binders v m.names) (inner gs region (taken (length m.names) s))
    ∙ ap (λ (hs : Frames). local_macros f (noting known) depth here (numbers v m.names) m.names hs m.rules gs m.body (taken (length m.names) s)) (sym (inside refl)))
macros_are false known f depth here fs m s rules_at inside outside =
    let v = next_number s s.locals in
    let inner : Frames → Trees Identifier → Step Noting Core = λ d ts. local_macros f (noting known) depth here (numbers v m.names) m.names fs m.rules d ts in
    let gs = bound_frames v m.names fs in
    ap (λ (r : Result (List Binder × Core) Broken × Noting). r >>= λ q. done q.1) (bound_is known inner m.names fs m.body s)
    ∙ (with_rest (bound_binders v m.names) (inner gs m.body (taken (length m.names) s))
    ∙ ap (λ (hs : Frames). local_macros f (noting known) depth here (numbers v m.names) m.names hs m.rules gs m.body (taken (length m.names) s)) (sym (outside refl)))

-- ---- procedures

binders_at : (a c : Work) (unit form n m : ℕ) (grows : (xs : List code_binder.Binder) (bs : List Binder) → AllMatch (IsBinder a.symbols n m) xs bs → AllMatch (IsBinder c.symbols n m) xs bs) → unit ≡ n → form ≡ m →
    (xs : List code_binder.Binder) (bs : List Binder) → AllMatch (IsBinder a.symbols n m) xs bs → AllMatch (IsBinder c.symbols unit form) xs bs
binders_at a c unit form n m grows p q xs bs h =
    subst (λ (k : ℕ). AllMatch (IsBinder c.symbols k form) xs bs) (sym p) (subst (λ (k : ℕ). AllMatch (IsBinder c.symbols n k) xs bs) (sym q) (grows xs bs h))

module _ (known : Known) (turns depth : ℕ) (here : Here) (a c : Work) (region : Region) (u w v : UnitScope) (ls : List Frames) (s : Noting) (scope : ℕ) (fs : Frames) (xs : List NamePart) (rest : Bool) (m : Clause Identifier) (inner : ℕ) (bs : Vec code_binder.Binder Global)
    (knows : Knows u.libraries known) (apart : AreToldApart a.symbols.idents) (sound : IsSound u.env) (names : AllParts (IsName a) xs m.formals.names) (dotted : rest ≡ m.formals.rest) (room : u.form.budget.locals + length xs ≤ most_locals u.form.budget.nodes)
    (e : Stands a u ls s) (at : At ls scope fs) (h : Binds u w scope xs inner bs.items) where
  stand : BindersStand a w ls s fs m.formals.names inner bs.items
  stand = binders_stand a u w ls s scope fs xs m.formals.names inner bs.items apart sound names room at e h

  abbrev layout : List Frames
  layout = ls ++ bound_frames (next_number s s.locals) m.formals.names fs ∷ []

  abbrev in_body : Result Core Broken × Noting
  in_body = expand (noting known) turns depth here (bound_frames (next_number s s.locals) m.formals.names fs) (body m.body) (taken (length m.formals.names) s)

  abbrev Body_runs : Result code_core.Core ExpandFault → Type 0
  Body_runs result = Runs (λ (l : List Frames). CoreStands c v.unit v.form.number) a c region w v inner result (λ known fs. expand (noting known) turns depth here fs (body m.body))

  now_known : Knows w.libraries known
  now_known = subst (λ (l : BTreeSet (String Global)). Knows l known) (sym (ap (λ (x : UnitScope). x.libraries) h.after)) knows

  body_ends : (result : Result code_core.Core ExpandFault) → Body_runs result → Ends (λ (l : List Frames). CoreStands c v.unit v.form.number) a c region w v layout result in_body
  body_ends result runs = runs known layout (taken (length m.formals.names) s) (bound_frames (next_number s s.locals) m.formals.names fs) now_known stand.stands
      (inner_at a region u w ls s scope fs xs m.formals.names inner bs.items stand)

  -- before the body
  unfoldable before : Moves a a region u w ls (taken (length m.formals.names) s)
  before = binds_moves a region u w ls s scope fs xs m.formals.names inner bs.items stand h

  from_body : {V : Type 0} (Q : List Frames → V → Binders × Core → Type 0) (result : Result V ExpandFault) →
      Ends Q a c region w v layout result (in_body >>= λ y. done (record { names = bound_binders (next_number s s.locals) m.formals.names; rest = m.formals.rest }, y)) →
      Ends Q a c region u v ls result (procedure (expand (noting known) turns) (noting known) depth here fs m s)
  unfolding before binds_moves
  from_body Q result ends =
      subst (λ (p : Result (Binders × Core) Broken × Noting). Ends Q a c region u v ls result p) (sym (procedure_is known (expand (noting known) turns) depth here fs m s))
      (ends_after Q a a c region u w v ls (taken (length m.formals.names) s) result (in_body >>= λ y. done (record { names = bound_binders (next_number s s.locals) m.formals.names; rest = m.formals.rest }, y)) before ends)

  pub procedure_fails : {V : Type 0} (Q : List Frames → V → Binders × Core → Type 0) (x : ExpandFault) → Body_runs (Err x) → Ends Q a c region u v ls (Err x) (procedure (expand (noting known) turns) (noting known) depth here fs m s)
  procedure_fails Q x runs =
      from_body Q (Err x) (ends_fails (λ (l : List Frames). CoreStands c v.unit v.form.number) Q a c region w v layout x in_body (λ y. done (record { names = bound_binders (next_number s s.locals) m.formals.names; rest = m.formals.rest }, y)) (body_ends (Err x) runs))

  pub procedure_ends : (x : code_clause.Clause) (y : Box code_core.Core) → code_clause.out-Clause x ≡ record { binders = bs; dotted = rest; body = y } → Body_runs (Ok y.value) →
      Ends (λ (l : List Frames). ClauseStands c v.unit v.form.number) a c region u v ls (Ok x) (procedure (expand (noting known) turns) (noting known) depth here fs m s)
  procedure_ends x y is runs =
      let ends = body_ends (Ok y.value) runs in
      let grows = ends.1.stays.work in
      let unit : v.unit ≡ s.unit = ends.1.stays.same.unit ∙ (ap (λ (x : UnitScope). x.unit) h.after ∙ e.unit) in
      let form : v.form.number ≡ s.form = ends.1.stays.same.number ∙ (ap (λ (x : UnitScope). x.form.number) h.after ∙ e.form.number) in
      let are = binders_at a c v.unit v.form.number s.unit s.form (binders_on a c grows.trees grows.names s.unit s.form) unit form bs.items (bound_binders (next_number s s.locals) m.formals.names) stand.binders in
      from_body (λ (l : List Frames). ClauseStands c v.unit v.form.number) (Ok x)
      (ends_mapped (λ (l : List Frames). CoreStands c v.unit v.form.number) (λ (l : List Frames). ClauseStands c v.unit v.form.number) a c region w v layout y.value x in_body
      (λ z. (record { names = bound_binders (next_number s s.locals) m.formals.names; rest = m.formals.rest }, z))
      (λ l z held. (y, (bs, rest, is, (are, dotted)), held)) ends)
