-- Names bound to locals in a new scope: what `bound` comes to, and that the state stands with it.
use Rattle.std.proofs.Common.{◌≡◌, ℕ, suc, ◌+◌, ◌<◌, ◌≤◌, ◌==◌, List, [], ◌∷◌, ◌++◌, length, slice_get, Bool, true, false, cond, Some, Result, Ok, Err, refl, sym, ap, ◌∙◌, subst, arith}
use Rattle.std.specs.FinMap as map
use Rattle.std.specs.Ordering.{nat_cmp}
use Rattle.std.proofs.lemmas.Option.{slice_get_within}
use Rattle.scheme_model.specs.Identifiers.{Number}
use Rattle.scheme_model.specs.Ident.{Ident as Identifier}
use Rattle.scheme_model.specs.ExpansionFaults.{Named}
use Rattle.scheme_model.specs.Requirements.{Known}
use Rattle.scheme_model.specs.Trees.{Trees}
use Rattle.scheme_model.specs.Cores.{LocalNumber, Binder}
use Rattle.scheme_model.specs.Substitution.{Clock, at_form}
use Rattle.scheme_model.specs.Steps.{Broken, Step, ◌>>=◌, done}
use Rattle.scheme_model.specs.ScopedExpansion.{Bind, Frames, ScopedState, next_number}
use Rattle.scheme_model.specs.Order.{fields_bound}
use Rattle.scheme_model.specs.Expression.{bound, numbers}
use Rattle.syntax_tree.specs.Names.{AreToldApart}
use Rattle.syntax_tree.specs.declared.trees.Work.{Work}
use Rattle.syntax_tree.specs.declared.meaning.Meaning.TheVariants.{Local}
use Rattle.scope_env.specs.Environment.{Environment, IsSound, with_child, with_bound}
use Rattle.scope_env.specs.Moved.{parent_of}
use Rattle.scope_env.proofs.Changes.{sound_child, sound_bound}
use Rattle.scope_env.proofs.AroundLaws.{child_parent}
use Rattle.core_forms.specs.Parts.{AllMatch, IsName}
use Rattle.core_forms.specs.declared.shape.NamePart.{NamePart}
use Rattle.core_tree.specs.Names as trees
use Rattle.core_tree.specs.Names.{IsBinder}
use Rattle.core_tree.specs.declared.cores.Binder as code_binder
use Rattle.scheme_model.specs.CountedExpansion.{counted as coded}
use Rattle.unit_scopes.specs.Binds.{local_binders, with_locals, with_names, Binds}
use Rattle.unit_scopes.specs.State.{AreBegun, EnvStands, Stands, most_locals}
use Rattle.unit_scopes.specs.Stepped.{taken, after, bound_frames, bound_binders, with_binders}
use Rattle.unit_scopes.specs.declared.scope.UnitScope.{UnitScope}
use Rattle.unit_scopes.proofs.CountingStands.{counted_here, env_recounted, locals_stand}
use Rattle.unit_scopes.proofs.LayoutLaws.{child_env_stands, bound_env_stands, parent_bound, scope_more}

-- ---- what `bound` comes to

none_more : (form : ℕ) (c : Clock) (g : ℕ) (b : Bool) → cond b (c g + 0) (c g) ≡ c g
none_more form c g true = omega arith
none_more form c g false = refl

pub taken_none : (s : ScopedState) → taken 0 s ≡ s
taken_none s = λ j. record s { locals = λ g. none_more s.form s.locals g (g == s.form) j }

one_more : (n k : ℕ) (b : Bool) → cond b (cond b (suc n) n + k) (cond b (suc n) n) ≡ cond b (n + suc k) n
one_more n k true = omega arith
one_more n k false = refl

-- one local, and then so many
pub taken_on : (s : ScopedState) (k : ℕ) → taken k (record s { locals = at_form s.form suc s.locals }) ≡ taken (suc k) s
taken_on s k = λ j. record s { locals = λ g. one_more (s.locals g) k (g == s.form) j }

pub next_after : (s : ScopedState) → next_number s (at_form s.form suc s.locals) ≡ after (next_number s s.locals)
next_after s =
    let e : at_form s.form suc s.locals s.form ≡ s.locals s.form + 1 = omega (arith, counted_here s.form suc s.locals) in
    λ j. record { unit = s.unit; form = s.form; count = e j }

abbrev with_one : {B : Type 0} → Binder → List Binder × B → Step ScopedState (List Binder × B)
with_one c q = done (c ∷ q.0, q.1)

one_by_one : {B : Type 0} (c : Binder) (cs : List Binder) (r : Result B Broken × ScopedState) → ((r >>= with_binders cs) >>= with_one c) ≡ (r >>= with_binders (c ∷ cs))
one_by_one c cs (Ok x, s) = refl
one_by_one c cs (Err x, s) = refl

pub bound_is : {B : Type 0} (known : Known) (f : Frames → Trees Identifier → Step ScopedState B) (ns : List (Named Identifier)) (fs : Frames) (ts : Trees Identifier) (s : ScopedState) →
    bound (coded known) f ns fs ts s ≡ (f (bound_frames (next_number s s.locals) ns fs) ts (taken (length ns) s) >>= with_binders (bound_binders (next_number s s.locals) ns))
bound_is known f [] fs ts s = ap (λ (t : ScopedState). f fs ts t >>= with_binders []) (sym (taken_none s))
bound_is {B} known f (n ∷ ns) fs ts s =
    let v = next_number s s.locals in
    let t = record s { locals = at_form s.form suc s.locals } in
    let c : Binder = record { bound = LocalNumber v; ident = n.name; occ = n.occ } in
    let gs = Bind n.name v ∷ fs in
    let x = f (bound_frames (next_number t t.locals) ns gs) ts (taken (length ns) t) in
    ap (λ (r : Result (List Binder × B) Broken × ScopedState). r >>= with_one c) (bound_is known f ns gs ts t)
    ∙ (one_by_one c (bound_binders (next_number t t.locals) ns) x
    ∙ (λ j. f (bound_frames (next_after s j) ns gs) ts (taken_on s (length ns) j) >>= with_binders (c ∷ bound_binders (next_after s j) ns)))

-- ---- locals that no scope binds

abbrev put_first : Binder → List Binder → Step ScopedState (List Binder)
put_first c cs = done (c ∷ cs)

pub fields_are : (known : Known) (ns : List (Named Identifier)) (s : ScopedState) → fields_bound (coded known) ns s ≡ done (bound_binders (next_number s s.locals) ns) (taken (length ns) s)
fields_are known [] s = ap (λ (t : ScopedState). done {S = ScopedState} {A = List Binder} [] t) (sym (taken_none s))
fields_are known (n ∷ ns) s =
    let v = next_number s s.locals in
    let t = record s { locals = at_form s.form suc s.locals } in
    let c : Binder = record { bound = LocalNumber v; ident = n.name; occ = n.occ } in
    ap (λ (r : Result (List Binder) Broken × ScopedState). r >>= put_first c) (fields_are known ns t)
    ∙ (λ j. done (c ∷ bound_binders (next_after s j) ns) (taken_on s (length ns) j))

-- the numbers of local macros are those of their binders
pub numbers_are : (unit form n : ℕ) (ns : List (Named Identifier)) (xs : List NamePart) → length xs ≡ length ns →
    trees.AllMatch (λ (b : code_binder.Binder) (v : Number). v ≡ record { unit = unit; form = form; count = b.number }) (local_binders n xs) (numbers (record { unit = unit; form = form; count = n }) ns)
numbers_are unit form n [] [] h = tt
numbers_are unit form n [] (x ∷ xs) h = absurd (omega (arith, h))
numbers_are unit form n (m ∷ ns) [] h = absurd (omega (arith, h))
numbers_are unit form n (m ∷ ns) (x ∷ xs) h =
    let next : n + 1 ≡ suc n = omega arith in
    let rest = numbers_are unit form (n + 1) ns xs (omega (arith, h)) in
    (refl, subst (λ (k : ℕ). trees.AllMatch (λ (b : code_binder.Binder) (v : Number). v ≡ record { unit = unit; form = form; count = b.number }) (local_binders (n + 1) xs) (numbers (record { unit = unit; form = form; count = k }) ns)) next rest)

-- ---- the scope of the names

pub roots_stay : (env : Environment) (at n : ℕ) (xs : List NamePart) → (with_names env at n xs).roots ≡ env.roots
roots_stay env at n [] = refl
roots_stay env at n (x ∷ xs) = roots_stay (with_bound env at x.ident (Local n)) at (n + 1) xs

same_count : (work : Work) (xs : List NamePart) (ns : List (Named Identifier)) → AllMatch (IsName work) xs ns → length xs ≡ length ns
same_count work [] [] h = refl
same_count work [] (n ∷ ns) h = absurd h
same_count work (x ∷ xs) [] h = absurd h
same_count work (x ∷ xs) (n ∷ ns) h = ap suc (same_count work xs ns h.1)

binders_for : (work : Work) (unit form n : ℕ) (xs : List NamePart) (ns : List (Named Identifier)) → AllMatch (IsName work) xs ns →
    trees.AllMatch (IsBinder work.symbols unit form) (local_binders n xs) (bound_binders (record { unit = unit; form = form; count = n }) ns)
binders_for work unit form n [] [] h = tt
binders_for work unit form n [] (m ∷ ns) h = absurd h
binders_for work unit form n (x ∷ xs) [] h = absurd h
binders_for work unit form n (x ∷ xs) (m ∷ ns) h = (record { number = refl; ident = h.0.0; place = h.0.1 }, binders_for work unit form (n + 1) xs ns h.1)

module _ (work : Work) (apart : AreToldApart work.symbols.idents) (s : ScopedState) (older : List Frames) (at : ℕ) (newest : at ≡ length older) where
  names_env_stand : (xs : List NamePart) (ns : List (Named Identifier)) (env : Environment) (fs : Frames) (p : ℕ) (v : Number) → AllMatch (IsName work) xs ns → IsSound env → parent_of env at ≡ Some p →
      ((k : Number) (n : ℕ) → map.get env.uses k ≡ Some n → n < at) → EnvStands work.symbols env (older ++ fs ∷ []) s →
      EnvStands work.symbols (with_names env at v.count xs) (older ++ bound_frames v ns fs ∷ []) s
  names_env_stand [] [] env fs p v h sound inside unused e = e
  names_env_stand [] (n ∷ ns) env fs p v h sound inside unused e = absurd h
  names_env_stand (x ∷ xs) [] env fs p v h sound inside unused e = absurd h
  names_env_stand (x ∷ xs) (n ∷ ns) env fs p v h sound inside unused e =
      let m = Local v.count in
      names_env_stand xs ns (with_bound env at x.ident m) (Bind n.name v ∷ fs) p (after v) h.1 (sound_bound env at x.ident m sound) (parent_bound env at x.ident m at p inside) unused
      (bound_env_stands work.symbols apart s older at newest env fs p x.ident n.name v sound inside unused h.0.0 e)

pub fields_stand : (work : Work) (u : UnitScope) (ls : List Frames) (s : ScopedState) (xs : List NamePart) (ns : List (Named Identifier)) → AllMatch (IsName work) xs ns →
    u.form.budget.locals + length xs ≤ most_locals u.form.budget.nodes → Stands work u ls s →
    Stands work (with_locals u (u.form.budget.locals + length xs)) ls (taken (length ns) s)
    × trees.AllMatch (IsBinder work.symbols s.unit s.form) (local_binders u.form.budget.locals xs) (bound_binders (next_number s s.locals) ns)
fields_stand work u ls s xs ns names room e = (
  subst (λ (k : ℕ). Stands work (with_locals u (u.form.budget.locals + length xs)) ls (taken k s)) (same_count work xs ns names) (locals_stand work u ls s (length xs) room e),
  subst (λ (n : ℕ). trees.AllMatch (IsBinder work.symbols s.unit s.form) (local_binders n xs) (bound_binders (next_number s s.locals) ns)) (sym e.form.locals) (binders_for work s.unit s.form (s.locals s.form) xs ns names),
)

bound_begun : (roots : map.FinMap nat_cmp ℕ) (v : Number) (ns : List (Named Identifier)) (fs : Frames) → AreBegun roots fs → AreBegun roots (bound_frames v ns fs)
bound_begun roots v [] fs h = h
bound_begun roots v (n ∷ ns) fs h = bound_begun roots (after v) ns (Bind n.name v ∷ fs) h

-- the binders, and the layout after them
pub record BindersStand (work : Work) (new : UnitScope) (ls : List Frames) (s : ScopedState) (fs : Frames) (ns : List (Named Identifier)) (inner : ℕ) (bs : List code_binder.Binder) : Type 0 where
  pub at : inner ≡ length ls
  pub stands : Stands work new (ls ++ bound_frames (next_number s s.locals) ns fs ∷ []) (taken (length ns) s)
  pub binders : trees.AllMatch (IsBinder work.symbols s.unit s.form) bs (bound_binders (next_number s s.locals) ns)

pub binders_stand : (work : Work) (old new : UnitScope) (ls : List Frames) (s : ScopedState) (scope : ℕ) (fs : Frames) (xs : List NamePart) (ns : List (Named Identifier)) (inner : ℕ) (binders : List code_binder.Binder) →
    AreToldApart work.symbols.idents → IsSound old.env → AllMatch (IsName work) xs ns → old.form.budget.locals + length xs ≤ most_locals old.form.budget.nodes →
    slice_get ls scope ≡ Some fs → Stands work old ls s → Binds old new scope xs inner binders → BindersStand work new ls s fs ns inner binders
binders_stand work old new ls s scope fs xs ns inner binders apart sound names room at e b =
    let v = next_number s s.locals in
    let top = length old.env.scopes in
    let child = with_child old.env scope in
    let gs = bound_frames v ns fs in
    let within : scope < top = subst (λ (len : ℕ). scope < len) e.env.count (slice_get_within ls scope fs at) in
    let env : EnvStands work.symbols (with_names child top v.count xs) (ls ++ gs ∷ []) s =
    names_env_stand work apart s ls top (sym e.env.count) xs ns child fs scope v names (sound_child old.env scope sound within) (child_parent old.env scope) sound.uses
    (child_env_stands work.symbols old.env sound ls s e.env scope fs fs at refl (e.env.entered scope fs at)) in
    let now : EnvStands work.symbols (with_names child top old.form.budget.locals xs) (ls ++ gs ∷ []) (taken (length xs) s) =
    env_recounted s (at_form s.form (λ m. m + length xs) s.locals) s.uses s.nodes s.keywords s.met work.symbols (with_names child top old.form.budget.locals xs) (ls ++ gs ∷ [])
    (subst (λ (n : ℕ). EnvStands work.symbols (with_names child top n xs) (ls ++ gs ∷ []) s) (sym e.form.locals) env) in
    let more = scope_more work (with_locals old (old.form.budget.locals + length xs)) (with_names child top old.form.budget.locals xs) ls gs (taken (length xs) s)
    (roots_stay child top old.form.budget.locals xs) (bound_begun old.env.roots v ns fs (e.begun.frames scope fs at)) now (locals_stand work old ls s (length xs) room e) in
    record {
      at = b.number ∙ sym e.env.count;
      stands = subst (λ (u : UnitScope). Stands work u (ls ++ gs ∷ []) (taken (length ns) s)) (sym b.after)
          (subst (λ (k : ℕ). Stands work (record (with_locals old (old.form.budget.locals + length xs)) { env = with_names child top old.form.budget.locals xs }) (ls ++ gs ∷ []) (taken k s)) (same_count work xs ns names) more);
      binders = subst (λ bs. trees.AllMatch (IsBinder work.symbols s.unit s.form) bs (bound_binders v ns)) (sym b.bound)
          (subst (λ (n : ℕ). trees.AllMatch (IsBinder work.symbols s.unit s.form) (local_binders n xs) (bound_binders v ns)) (sym e.form.locals) (binders_for work s.unit s.form v.count xs ns names));
    }
