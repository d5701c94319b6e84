-- Names bound to locals in a new scope, and fields, while what is asked is noted.
use Rattle.std.proofs.Common.{◌≡◌, ℕ, suc, ◌+◌, ◌≤◌, ◌==◌, List, [], ◌∷◌, ◌++◌, length, slice_get, Bool, true, false, cond, Result, Ok, Err, refl, sym, ap, ◌∙◌, arith}
use Rattle.std.specs.Prelude.{Some}
use Rattle.scheme_model.specs.Ident.{Ident as Identifier}
use Rattle.scheme_model.specs.ExpansionFaults.{Named}
use Rattle.scheme_model.specs.Requirements.{Known}
use Rattle.scheme_model.specs.Trees.{Trees}
use Rattle.scheme_model.specs.Cores.{LocalNumber, Binder}
use Rattle.scheme_model.specs.Substitution.{Clock, at_form}
use Rattle.scheme_model.specs.Steps.{Broken, Step, ◌>>=◌, done}
use Rattle.scheme_model.specs.ScopedExpansion.{Bind, Frames}
use Rattle.scheme_model.specs.Order.{fields_bound}
use Rattle.scheme_model.specs.Expression.{bound}
use Rattle.syntax_tree.specs.Names.{AreToldApart}
use Rattle.syntax_tree.specs.declared.trees.Work.{Work}
use Rattle.scope_env.specs.Environment.{IsSound}
use Rattle.core_forms.specs.Parts.{AllMatch, IsName}
use Rattle.core_forms.specs.declared.shape.NamePart.{NamePart}
use Rattle.core_tree.specs.Names as trees
use Rattle.core_tree.specs.Names.{IsBinder}
use Rattle.core_tree.specs.declared.cores.Binder as code_binder
use Rattle.unit_scopes.specs.Binds.{local_binders, with_locals, Binds}
use Rattle.unit_scopes.specs.State.{most_locals}
use Rattle.unit_scopes.specs.Stepped.{after, bound_frames, bound_binders}
use Rattle.unit_scopes.specs.declared.scope.UnitScope.{UnitScope}
use Rattle.unit_scopes.proofs.BindersStand as plain
use Rattle.noted_steps.specs.Noting.{Noting, state_of, next_number, noting}
use Rattle.noted_steps.specs.Standing.{Stands}
use Rattle.noted_steps.specs.Stepped.{taken, with_binders}
use Rattle.noted_steps.proofs.NoteLaws.{plainly}
use Rattle.noted_steps.proofs.CountingStands.{stands_after}

-- ---- what `bound` comes to

none_more : (c : Clock) (g : ℕ) (b : Bool) → cond b (c g + 0) (c g) ≡ c g
none_more c g true = omega arith
none_more c g false = refl

pub taken_none : (s : Noting) → taken 0 s ≡ s
taken_none s = λ j. record s { locals = λ g. none_more s.locals g (g == s.form) j }

one_more : (n k : ℕ) (b : Bool) → cond b (cond b (suc n) n + k) (cond b (suc n) n) ≡ cond b (n + suc k) n
one_more n k true = omega arith
one_more n k false = refl

-- one local, and then so many
pub taken_on : (s : Noting) (k : ℕ) → taken k (record s { locals = at_form s.form suc s.locals }) ≡ taken (suc k) s
taken_on s k = λ j. record s { locals = λ g. one_more (s.locals g) k (g == s.form) j }

pub next_after : (s : Noting) → next_number s (at_form s.form suc s.locals) ≡ after (next_number s s.locals)
next_after s = plain.next_after (state_of s)

abbrev with_one : {B : Type 0} → Binder → List Binder × B → Step Noting (List Binder × B)
with_one c q = done (c ∷ q.0, q.1)

one_by_one : {B : Type 0} (c : Binder) (cs : List Binder) (r : Result B Broken × Noting) → ((r >>= with_binders cs) >>= with_one c) ≡ (r >>= with_binders (c ∷ cs))
one_by_one c cs (Ok x, s) = refl
one_by_one c cs (Err x, s) = refl

pub bound_is : {B : Type 0} (known : Known) (f : Frames → Trees Identifier → Step Noting B) (ns : List (Named Identifier)) (fs : Frames) (ts : Trees Identifier) (s : Noting) →
    bound (noting known) f ns fs ts s ≡ (f (bound_frames (next_number s s.locals) ns fs) ts (taken (length ns) s) >>= with_binders (bound_binders (next_number s s.locals) ns))
bound_is known f [] fs ts s = ap (λ (t : Noting). f fs ts t >>= with_binders []) (sym (taken_none s))
bound_is {B} known f (n ∷ ns) fs ts s =
    let v = next_number s s.locals in
    let t : Noting = record s { locals = at_form s.form suc s.locals } in
    let c : Binder = record { bound = LocalNumber v; ident = n.name; occ = n.occ } in
    let gs = Bind n.name v ∷ fs in
    let x = f (bound_frames (next_number t t.locals) ns gs) ts (taken (length ns) t) in
    ap (λ (r : Result (List Binder × B) Broken × Noting). r >>= with_one c) (bound_is known f ns gs ts t)
    ∙ (one_by_one c (bound_binders (next_number t t.locals) ns) x
    ∙ (λ j. f (bound_frames (next_after s j) ns gs) ts (taken_on s (length ns) j) >>= with_binders (c ∷ bound_binders (next_after s j) ns)))

-- ---- locals that no scope binds

abbrev put_first : Binder → List Binder → Step Noting (List Binder)
put_first c cs = done (c ∷ cs)

pub fields_are : (known : Known) (ns : List (Named Identifier)) (s : Noting) → fields_bound (noting known) ns s ≡ done (bound_binders (next_number s s.locals) ns) (taken (length ns) s)
fields_are known [] s = ap (λ (t : Noting). done {S = Noting} {A = List Binder} [] t) (sym (taken_none s))
fields_are known (n ∷ ns) s =
    let v = next_number s s.locals in
    let t : Noting = record s { locals = at_form s.form suc s.locals } in
    let c : Binder = record { bound = LocalNumber v; ident = n.name; occ = n.occ } in
    ap (λ (r : Result (List Binder) Broken × Noting). r >>= put_first c) (fields_are known ns t)
    ∙ (λ j. done (c ∷ bound_binders (next_after s j) ns) (taken_on s (length ns) j))

-- ---- the scope of the names

pub fields_stand : (work : Work) (u : UnitScope) (ls : List Frames) (s : Noting) (xs : List NamePart) (ns : List (Named Identifier)) → AllMatch (IsName work) xs ns →
    u.form.budget.locals + length xs ≤ most_locals u.form.budget.nodes → Stands work u ls s →
    Stands work (with_locals u (u.form.budget.locals + length xs)) ls (taken (length ns) s)
    × trees.AllMatch (IsBinder work.symbols s.unit s.form) (local_binders u.form.budget.locals xs) (bound_binders (next_number s s.locals) ns)
fields_stand work u ls s xs ns names room e =
    let p = plain.fields_stand work u ls (state_of s) xs ns names room (plainly work u ls s e) in (
      stands_after work u (with_locals u (u.form.budget.locals + length xs)) ls ls s (state_of (taken (length ns) s)) e p.0 (record { notes = refl; macros = refl; table = refl; rules = refl }) refl refl,
      p.1,
    )

-- the binders, and the layout after them
pub record BindersStand (work : Work) (new : UnitScope) (ls : List Frames) (s : Noting) (fs : Frames) (ns : List (Named Identifier)) (inner : ℕ) (bs : List code_binder.Binder) : Type 0 where
  pub at : inner ≡ length ls
  pub stands : Stands work new (ls ++ bound_frames (next_number s s.locals) ns fs ∷ []) (taken (length ns) s)
  pub binders : trees.AllMatch (IsBinder work.symbols s.unit s.form) bs (bound_binders (next_number s s.locals) ns)

pub binders_stand : (work : Work) (old new : UnitScope) (ls : List Frames) (s : Noting) (scope : ℕ) (fs : Frames) (xs : List NamePart) (ns : List (Named Identifier)) (inner : ℕ) (binders : List code_binder.Binder) →
    AreToldApart work.symbols.idents → IsSound old.env → AllMatch (IsName work) xs ns → old.form.budget.locals + length xs ≤ most_locals old.form.budget.nodes →
    slice_get ls scope ≡ Some fs → Stands work old ls s → Binds old new scope xs inner binders → BindersStand work new ls s fs ns inner binders
binders_stand work old new ls s scope fs xs ns inner binders apart sound names room at e b =
    let p = plain.binders_stand work old new ls (state_of s) scope fs xs ns inner binders apart sound names room at (plainly work old ls s e) b in
    let same = b.after in
    record {
      at = p.at;
      stands = stands_after work old new ls (ls ++ bound_frames (next_number s s.locals) ns fs ∷ []) s (state_of (taken (length ns) s)) e p.stands
          (record { notes = λ j. (same j).form.trace.notes; macros = λ j. (same j).macros; table = refl; rules = refl }) refl refl;
      binders = p.binders;
    }
