-- The steps of definitions: how one is gone on behind, and names that are defined one after another.
use Rattle.std.proofs.Common.{◌≡◌, ℕ, zero, suc, ◌+◌, ◌<◌, ◌≤◌, List, [], ◌∷◌, ◌++◌, append_assoc, append-nil, length, reverse, get_or, drop, Bool, true, false, None, Result, Ok, Err, refl, sym, ap, ◌∙◌, subst, arith}
use Rattle.std.specs.Prelude.{nat_le, Vec, IsErrAnd, if◌then◌else◌}
use Rattle.std.specs.declared.alloc.Global.{Global}
use Rattle.std.proofs.lemmas.List.{drop_all}
use Rattle.scheme_model.specs.Ident.{Ident as Identifier}
use Rattle.scheme_model.specs.ExpansionFaults.{Named, Fault, NodeBudget}
use Rattle.scheme_model.specs.Requirements.{Known}
use Rattle.scheme_model.specs.RulesShape.{Rules, rules_of}
use Rattle.scheme_model.specs.Trees.{Tree}
use Rattle.scheme_model.specs.Measures.{tree_size}
use Rattle.scheme_model.specs.Cores.{Binder}
use Rattle.scheme_model.specs.Steps.{Broken, Step, ◌>>=◌, done, fails}
use Rattle.scheme_model.specs.Order.{Here, Form, Item, Note, Pending, Renamed, Pass, Going, told, caught, put, binder_at, define_all, define_names, fields_bound, RulesParts, rules_at, given, max_nodes}
use Rattle.scheme_model.specs.Substitution.{unchanged}
use Rattle.scheme_model.specs.Questions.{Outcome, Stands as Defined, Redefines, StoodBefore}
use Rattle.scheme_model.specs.ScopedExpansion.{Frames, FramedIdent, body_around}
use Rattle.syntax_tree.specs.declared.trees.Work.{Work}
use Rattle.syntax_tree.specs.declared.trees.table.Region.{Region}
use Rattle.core_forms.specs.Parts as forms
use Rattle.core_tree.specs.Names.{AllMatch, IsBinder}
use Rattle.core_tree.specs.declared.cores.Binder as code_binder
use Rattle.unit_scopes.specs.Binds.{with_locals}
use Rattle.unit_scopes.specs.Stepped.{bound_binders}
use Rattle.unit_scopes.specs.Kept.{FormFor, PendingFor, NotesFor, KeptFor, WaitsFor, left_with}
use Rattle.unit_scopes.specs.Outcomes.{SameForm}
use Rattle.unit_scopes.specs.Defining.{define_each}
use Rattle.expander.specs.Passed.{GoesOn}
use Rattle.unit_scopes.specs.declared.asked.Asked.{Asked}
use Rattle.feature_requirements.specs.declared.fault.ExpandFault.{ExpandFault}
use Rattle.feature_requirements.specs.declared.fault.ExpandFault.TheVariants as fault
use Rattle.form_parts.specs.declared.items.Form as code_form
use Rattle.form_parts.specs.declared.items.Kept as code_kept
use Rattle.form_parts.specs.declared.items.Pending as code_pending
use Rattle.form_parts.specs.declared.items.Spot.{Spot}
use Rattle.form_parts.specs.declared.items.WaitingUse as code_waiting
use Rattle.unit_scopes.specs.declared.scope.UnitScope.{UnitScope}
use Rattle.noted_steps.proofs.BindersStand.{fields_are}
use Rattle.unit_scopes.proofs.CountingStands.{all_last}
use Rattle.unit_scopes.proofs.OutcomeLaws.{grows_itself, leaves_itself, numbers_stay, same_itself, same_on}
use Rattle.noted_steps.specs.Noting.{Noting, next_number, outcome, ended, define_by, noting}
use Rattle.noted_steps.specs.Stepped.{taken}
use Rattle.noted_steps.specs.Outcomes.{Stays}
use Rattle.noted_steps.specs.Standing.{Stands}
use Rattle.noted_steps.proofs.OutcomeLaws.{bound_fails, stays_itself}
use Rattle.noted_steps.specs.Kept.{SpotFor, GoesTo, EndsIn}

-- ---- what goes on behind a step

-- where no node is added
pub stays_in : (work : Work) (region : Region) (u v : UnitScope) (ls : List Frames) (spot : Spot) (fs : Frames) (t : Noting) → GoesTo work u v ls spot fs t → Stays work work region u v ls t
stays_in work region u v ls spot fs t h = record { stands = h.stands; work = grows_itself work region; counted = let n = h.same.nodes in omega (arith, n); same = h.same }

module _ {Y : Type 0} (ns : List (Note FramedIdent)) (x : Result Y Broken × Noting) where
  pub caught_fails : (b : Broken) → x.0 ≡ Err b → (go : Y → Noting → Pass Identifier FramedIdent × Noting) → caught ns x go ≡ (record { notes = ns; left = Err b }, x.1)
  caught_fails b h go = ap (λ (r : Result Y Broken). caught ns (r, x.1) go) h

  pub caught_goes : (y : Y) → x.0 ≡ Ok y → (go : Y → Noting → Pass Identifier FramedIdent × Noting) → caught ns x go ≡ go y x.1
  caught_goes y h go = ap (λ (r : Result Y Broken). caught ns (r, x.1) go) h

module _ (work : Work) (region : Region) (u v : UnitScope) (ls : List Frames) (spot : Spot) (fs : Frames) (before : List (Form Identifier)) (given : ℕ) (todo : code_pending.Pending) (asked : Asked) (ns : List (Note FramedIdent)) where
  -- a step that fails
  pub goes_failing : {X Y : Type 0} (P : X → Y → Type 0) (e : ExpandFault) (x : Result Y Broken × Noting) (f : Going Identifier FramedIdent Noting → Y → Noting → Pass Identifier FramedIdent × Noting) →
      u.form.budget.nodes ≤ 200000 → EndsIn P work u v ls spot fs (Err e) x → NotesFor work ls asked ns → GoesOn work work region u v ls spot fs before given todo asked (Err e) (λ go. caught ns x (f go))
  goes_failing P (fault.At e) x f few h notes = (ns, h.1.0, x.1, record { stays = stays_in work region u v ls spot fs x.1 h.0; placed = h.0.placed; notes = notes }, h.1.2, λ go. caught_fails ns x h.1.0 h.1.1 (f go))
  goes_failing P fault.Full x f few h notes = absurd h
  goes_failing P fault.Memory x f few h notes = leaves_itself work region u few

  -- one that comes to a state, with what is left there
  pub goes_done : {Y : Type 0} (y : Y) (x : Result Y Broken × Noting) (f : Going Identifier FramedIdent Noting → Y → Noting → Pass Identifier FramedIdent × Noting) (q : Pending Identifier FramedIdent) →
      GoesTo work u v ls spot fs x.1 → x.0 ≡ Ok y → PendingFor work region v.unit v.form.number todo q → NotesFor work ls asked q.notes →
      left_with q.todo v.form.budget.uses < left_with before u.form.budget.uses + given → v.form.budget.locals + left_with q.todo v.form.budget.uses ≤ u.form.budget.locals + left_with before u.form.budget.uses + given →
      ((go : Going Identifier FramedIdent Noting) → f go y x.1 ≡ go q x.1) → GoesOn work work region u v ls spot fs before given todo asked (Ok tt) (λ go. caught ns x (f go))
  goes_done y x f q goes is pending notes less locals same =
      (q, x.1, record { stays = stays_in work region u v ls spot fs x.1 goes; placed = goes.placed; pending = pending; notes = notes; less = less; locals = locals }, λ go. caught_goes ns x y is (f go) ∙ same go)

-- what is left to be gone through stays, and so do the uses that wait
abbrev pub StaysBeside : code_pending.Pending → code_pending.Pending → Type 0
StaysBeside old new = (new.todo ≡ old.todo) × (new.uses ≡ old.uses)

-- one more was set aside
pub kept_more : (work : Work) (region : Region) (unit form : ℕ) (old new : code_pending.Pending) (p : Pending Identifier FramedIdent) (k : code_kept.Kept) (m : Item Identifier) → StaysBeside old new → new.aside.items ≡ old.aside.items ++ k ∷ [] →
    PendingFor work region unit form old p → KeptFor work region unit form k m → PendingFor work region unit form new (put m p)
kept_more work region unit form old new p k m todo aside h kept = record {
  todo = subst (λ (t : Vec code_form.Form Global). AllMatch (FormFor work region) (reverse t.items) p.todo) (sym todo.0) h.todo;
  aside = subst (λ (ks : List code_kept.Kept). AllMatch (KeptFor work region unit form) ks (p.aside ++ m ∷ [])) (sym aside) (all_last (KeptFor work region unit form) old.aside.items p.aside k m h.aside kept);
  uses = subst (λ (us : Vec code_waiting.WaitingUse Global). AllMatch (WaitsFor work unit form) us.items p.uses) (sym todo.1) h.uses;
}

-- the same match by the words of two crates
pub matched_so : {X Y : Type 0} (P : X → Y → Type 0) (xs : List X) (ys : List Y) → forms.AllMatch P xs ys → AllMatch P xs ys
matched_so P [] [] h = h
matched_so P [] (y ∷ ys) h = h
matched_so P (x ∷ xs) [] h = h
matched_so P (x ∷ xs) (y ∷ ys) h = (h.0, matched_so P xs ys h.1)

-- ---- names are defined

abbrev pub with_made : Pending Identifier FramedIdent → List Binder → Step Noting (List Binder × Renamed Identifier FramedIdent)
with_made p bs = done (bs, unchanged p)

abbrev one_first : Binder → List Binder → Step Noting (List Binder)
one_first b bs = done (b ∷ bs)

abbrev pair_first : Binder → List Binder × Renamed Identifier FramedIdent → Step Noting (List Binder × Renamed Identifier FramedIdent)
pair_first b more = done (b ∷ more.0, more.1)

turned_about : (b : Binder) (p : Pending Identifier FramedIdent) (r : Result (List Binder) Broken × Noting) → ((r >>= with_made p) >>= pair_first b) ≡ ((r >>= one_first b) >>= with_made p)
turned_about b p (Ok bs, s) = refl
turned_about b p (Err e, s) = refl

-- a definition gives what is left as it was, however it ends
module _ (here : Here) (n : Named Identifier) (b : Binder) (fs : Frames) (p : Pending Identifier FramedIdent) (u : Noting) (f : Renamed Identifier FramedIdent → Step Noting (List Binder × Renamed Identifier FramedIdent)) (g : Renamed Identifier FramedIdent → Step Noting (List Binder)) where
  abbrev made : Outcome → Result (Renamed Identifier FramedIdent) (Fault Identifier) × Noting
  made o = define_by o (body_around fs) n None fs p u

  one_defined : (o : Outcome) → ((t : Noting) → f (unchanged p) t ≡ (g (unchanged p) t >>= with_made p)) → (told here (made o) >>= λ x w. f x w >>= pair_first b) ≡ ((told here (made o) >>= λ x w. g x w >>= one_first b) >>= with_made p)
  one_defined Redefines h = refl
  one_defined StoodBefore h = refl
  one_defined Defined h =
      ap (λ (x : Result (List Binder × Renamed Identifier FramedIdent) Broken × Noting). x >>= pair_first b) (h (made Defined).1) ∙ turned_about b p (g (unchanged p) (made Defined).1)

-- by scopes nothing is renamed
module _ (known : Known) (here : Here) (e : Frames) (p : Pending Identifier FramedIdent) where
  pub names_defined : (ns : List (Named Identifier)) (s : Noting) → define_names (noting known) here e ns p s ≡ (define_each (noting known) here e ns p s >>= with_made p)
  names_defined [] s = refl
  names_defined (n ∷ ns) s =
      let b = body_around e in
      let o = outcome b n None e p s in
      one_defined here n (binder_at (noting known) e s n) e p (ended b n None e p.notes o s) (λ made w. define_all (noting known) here e made.rename ns made.pending w) (λ made w. define_each (noting known) here e ns p w) o (names_defined ns)

-- ---- names defined one after another, as far as they were gone through

abbrev pub behind : List Binder → List Binder → Step Noting (List Binder)
behind bs more = done (bs ++ more)

behind_one : (bs : List Binder) (b : Binder) (r : Result (List Binder) Broken × Noting) → ((r >>= one_first b) >>= behind bs) ≡ (r >>= behind (bs ++ b ∷ []))
behind_one bs b (Ok cs, s) = λ j. done (sym (append_assoc bs (b ∷ []) cs) j) s
behind_one bs b (Err e, s) = refl

behind_none : (r : Result (List Binder) Broken × Noting) → r ≡ (r >>= behind [])
behind_none (Ok bs, s) = refl
behind_none (Err e, s) = refl

-- a name that is defined, and the names behind it
one_goes : (x : Result (Renamed Identifier FramedIdent) Broken × Noting) (f : Renamed Identifier FramedIdent → Step Noting (List Binder)) (b : Binder) (names : List Binder) (y : Renamed Identifier FramedIdent) → x.0 ≡ Ok y →
    ((x >>= λ q w. f q w >>= one_first b) >>= behind names) ≡ (f y x.1 >>= behind (names ++ b ∷ []))
one_goes x f b names y is =
    ap (λ (r : Result (Renamed Identifier FramedIdent) Broken). ((r, x.1) >>= λ q w. f q w >>= one_first b) >>= behind names) is ∙ behind_one names b (f y x.1)

one_fails : (x : Result (Renamed Identifier FramedIdent) Broken × Noting) (f : Renamed Identifier FramedIdent → Step Noting (List Binder)) (b : Binder) (names : List Binder) (e : Broken) → x.0 ≡ Err e →
    ((x >>= λ q w. f q w >>= one_first b) >>= behind names) ≡ (Err e, x.1)
one_fails x f b names e is = ap (λ (r : Result (Renamed Identifier FramedIdent) Broken). ((r, x.1) >>= λ q w. f q w >>= one_first b) >>= behind names) is

-- what stands beside an element, and behind it
pub matched_here : {X Y : Type 0} (P : X → Y → Type 0) (xs : List X) (ys : List Y) (k : ℕ) (d : X) → forms.AllMatch P xs ys → k < length xs → (y : Y) × P (get_or xs k d) y × (drop k ys ≡ y ∷ drop (k + 1) ys)
matched_here P [] ys k d h lt = absurd (omega (arith, lt))
matched_here P (x ∷ xs) [] k d h lt = absurd h
matched_here P (x ∷ xs) (y ∷ ys) zero d h lt = (y, h.0, refl)
matched_here P (x ∷ xs) (y ∷ ys) (suc k) d h lt =
    let p = matched_here P xs ys k d h.1 (omega (arith, lt)) in
    let e : suc (k + 1) ≡ suc k + 1 = omega arith in
    (p.0, p.1, p.2 ∙ ap (λ (n : ℕ). p.0 ∷ drop n (y ∷ ys)) e)

pub matched_length : {X Y : Type 0} (P : X → Y → Type 0) (xs : List X) (ys : List Y) → forms.AllMatch P xs ys → length xs ≡ length ys
matched_length P [] [] h = refl
matched_length P [] (y ∷ ys) h = absurd h
matched_length P (x ∷ xs) [] h = absurd h
matched_length P (x ∷ xs) (y ∷ ys) h = ap suc (matched_length P xs ys h.1)

module _ (work : Work) (known : Known) (here : Here) (u : UnitScope) (ls : List Frames) (spot : Spot) (fs : Frames) (s : Noting) (ns : List (Named Identifier)) (p : Pending Identifier FramedIdent) where
  -- so many names are defined
  pub record DefinedSoFar (v : UnitScope) (k : ℕ) (bs : List code_binder.Binder) : Type 0 where
    pub state : Noting
    pub names : List Binder
    pub goes : GoesTo work u v ls spot fs state
    pub binders : AllMatch (IsBinder work.symbols u.unit u.form.number) bs names
    pub rest : define_each (noting known) here fs ns p s ≡ (define_each (noting known) here fs (drop k ns) p state >>= behind names)

  goes_on : (v w : UnitScope) (t r : Noting) → GoesTo work u v ls spot fs t → GoesTo work v w ls spot fs r → GoesTo work u w ls spot fs r
  goes_on v w t r a b = record { stands = b.stands; placed = b.placed; same = same_on u v w a.same b.same }

  pub none_defined_yet : Stands work u ls s → SpotFor work u ls s spot fs → DefinedSoFar u 0 []
  none_defined_yet e placed = record {
    state = s;
    names = [];
    goes = record { stands = e; placed = placed; same = same_itself u };
    binders = tt;
    rest = behind_none (define_each (noting known) here fs ns p s);
  }

  module _ (v w : UnitScope) (k : ℕ) (bs : List code_binder.Binder) (n : Named Identifier) (next : drop k ns ≡ n ∷ drop (k + 1) ns) (h : DefinedSoFar v k bs) where
    abbrev x : Result (Renamed Identifier FramedIdent) Broken × Noting
    x = told here ((noting known).define n None fs p h.state)

    abbrev binder : Binder
    binder = binder_at (noting known) fs h.state n

    abbrev behind_it : Renamed Identifier FramedIdent → Step Noting (List Binder)
    behind_it q t = define_each (noting known) here fs (drop (k + 1) ns) p t

    split : define_each (noting known) here fs ns p s ≡ ((x >>= λ q t. behind_it q t >>= one_first binder) >>= behind h.names)
    split = h.rest ∙ ap (λ (l : List (Named Identifier)). define_each (noting known) here fs l p h.state >>= behind h.names) next

    pub one_more_defined : (b : code_binder.Binder) → IsBinder work.symbols h.state.unit h.state.form b binder → EndsIn (λ (done : Unit {0}) (made : Renamed Identifier FramedIdent). made ≡ unchanged p) work v w ls spot fs (Ok tt) x → DefinedSoFar w (k + 1) (bs ++ b ∷ [])
    one_more_defined b is ends =
        let unit : h.state.unit ≡ u.unit = sym h.goes.stands.unit ∙ h.goes.same.unit in
        let form : h.state.form ≡ u.form.number = sym h.goes.stands.form.number ∙ h.goes.same.number in
        record {
          state = x.1;
          names = h.names ++ binder ∷ [];
          goes = goes_on v w h.state x.1 h.goes ends.1;
          binders = all_last (IsBinder work.symbols u.unit u.form.number) bs h.names b binder h.binders
              (subst (λ (f : ℕ). IsBinder work.symbols u.unit f b binder) form (subst (λ (g : ℕ). IsBinder work.symbols g h.state.form b binder) unit is));
          rest = split ∙ one_goes x behind_it binder h.names ends.0 ends.2;
        }

    pub next_fails : {X : Type 0} (Q : X → List Binder → Type 0) (e : ExpandFault) → EndsIn (λ (done : Unit {0}) (made : Renamed Identifier FramedIdent). made ≡ unchanged p) work v w ls spot fs (Err e) x → EndsIn Q work u w ls spot fs (Err e) (define_each (noting known) here fs ns p s)
    next_fails Q (fault.At e) ends =
        subst (λ (r : Result (List Binder) Broken × Noting). EndsIn Q work u w ls spot fs (Err (fault.At e)) r) (sym (split ∙ one_fails x behind_it binder h.names ends.1.0 ends.1.1))
        (goes_on v w h.state x.1 h.goes ends.0, (ends.1.0, refl, ends.1.2))
    next_fails Q fault.Full ends = absurd ends
    next_fails Q fault.Memory ends = tt

  pub all_defined : (v : UnitScope) (k : ℕ) (bs : Vec code_binder.Binder Global) → DefinedSoFar v k bs.items → length ns ≤ k →
      EndsIn (λ (cs : Vec code_binder.Binder Global) ms. AllMatch (IsBinder work.symbols u.unit u.form.number) cs.items ms) work u v ls spot fs (Ok bs) (define_each (noting known) here fs ns p s)
  all_defined v k bs h past =
      let whole : define_each (noting known) here fs ns p s ≡ (Ok (h.names ++ []), h.state) = h.rest ∙ ap (λ (l : List (Named Identifier)). define_each (noting known) here fs l p h.state >>= behind h.names) (drop_all k ns past) in
      subst (λ (r : Result (List Binder) Broken × Noting). EndsIn (λ (cs : Vec code_binder.Binder Global) ms. AllMatch (IsBinder work.symbols u.unit u.form.number) cs.items ms) work u v ls spot fs (Ok bs) r) (sym whole)
      (h.names ++ [], h.goes, refl, subst (AllMatch (IsBinder work.symbols u.unit u.form.number) bs.items) (sym (append-nil h.names)) h.binders)

-- ---- what is set aside

-- where no use is begun, and so many locals are taken
pub less_left : (fs : List (Form Identifier)) (k given : ℕ) (u v : UnitScope) → v.form.budget.uses ≡ u.form.budget.uses → v.form.budget.locals ≤ u.form.budget.locals + k → k ≤ given → 1 ≤ given →
    (left_with fs v.form.budget.uses < left_with fs u.form.budget.uses + given) × (v.form.budget.locals + left_with fs v.form.budget.uses ≤ u.form.budget.locals + left_with fs u.form.budget.uses + given)
less_left fs k given u v uses locals le one =
    let same = ap (left_with fs) uses in
    (less_by (left_with fs v.form.budget.uses) (left_with fs u.form.budget.uses) given same one, fewer_by (left_with fs v.form.budget.uses) (left_with fs u.form.budget.uses) v.form.budget.locals u.form.budget.locals k given same locals le)
  where
    less_by : (a b given : ℕ) → a ≡ b → 1 ≤ given → a < b + given
    less_by a b given e one = omega (arith, e, one)

    fewer_by : (a b m n k given : ℕ) → a ≡ b → m ≤ n + k → k ≤ given → m + a ≤ n + b + given
    fewer_by a b m n k given e locals le = omega (arith, e, locals, le)

module _ (work : Work) (region : Region) (u v : UnitScope) (ls : List Frames) (spot : Spot) (fs : Frames) (s : Noting) (p : Pending Identifier FramedIdent) (old new : code_pending.Pending) (asked : Asked) (given : ℕ) (m : Item Identifier) (k : code_kept.Kept)
    (pending : PendingFor work region u.unit u.form.number old p) (notes : NotesFor work ls asked p.notes) (kept : KeptFor work region u.unit u.form.number k m) (todo : StaysBeside old new) (aside : new.aside.items ≡ old.aside.items ++ k ∷ []) where
  pub aside_stands : SameForm u v → PendingFor work region v.unit v.form.number new (put m p)
  aside_stands h =
      let there = kept_more work region u.unit u.form.number old new p k m todo aside pending kept in
      subst (λ (f : ℕ). PendingFor work region v.unit f new (put m p)) (sym h.number) (subst (λ (w : ℕ). PendingFor work region w u.form.number new (put m p)) (sym h.unit) there)

  -- after a step that took so many locals
  pub aside_goes : {Y : Type 0} (taken : ℕ) (y : Y) (x : Result Y Broken × Noting) (f : Going Identifier FramedIdent Noting → Y → Noting → Pass Identifier FramedIdent × Noting) →
      GoesTo work u v ls spot fs x.1 → x.0 ≡ Ok y → v.form.budget.uses ≡ u.form.budget.uses → v.form.budget.locals ≤ u.form.budget.locals + taken → taken ≤ given → 1 ≤ given → ((go : Going Identifier FramedIdent Noting) → f go y x.1 ≡ go (put m p) x.1) →
      GoesOn work work region u v ls spot fs p.todo given new asked (Ok tt) (λ go. caught p.notes x (f go))
  aside_goes taken y x f goes is uses locals le one same =
      let less = less_left p.todo taken given u v uses locals le one in
      goes_done work region u v ls spot fs p.todo given new asked p.notes y x f (put m p) goes is (aside_stands goes.same) notes less.0 less.1 same

  -- at once
  pub aside_now : Stands work u ls s → SpotFor work u ls s spot fs → v ≡ u → 1 ≤ given → GoesOn work work region u v ls spot fs p.todo given new asked (Ok tt) (λ go. go (put m p) s)
  aside_now e placed here one =
      let stays = subst (λ (w : UnitScope). Stays work work region u w ls s) (sym here) (stays_itself work region u ls s e) in
      let none : v.form.budget.locals ≡ u.form.budget.locals = λ j. (here j).form.budget.locals in
      let less = less_left p.todo 0 given u v (λ j. (here j).form.budget.uses) (omega (arith, none)) (omega arith) one in
      (put m p, s, record { stays = stays; placed = subst (λ (w : UnitScope). SpotFor work w ls s spot fs) (sym here) placed; pending = aside_stands stays.same; notes = notes; less = less.0; locals = less.1 }, λ go. refl)

-- a binder of the form at work, by what the code has of the unit and the form
pub binder_here : (work : Work) (u : UnitScope) (ls : List Frames) (s : Noting) (b : code_binder.Binder) (m : Binder) → Stands work u ls s → IsBinder work.symbols s.unit s.form b m → IsBinder work.symbols u.unit u.form.number b m
binder_here work u ls s b m e is =
    subst (λ (f : ℕ). IsBinder work.symbols u.unit f b m) (sym e.form.number) (subst (λ (w : ℕ). IsBinder work.symbols w s.form b m) (sym e.unit) is)

-- a fault passes through what would follow
pub in_fails : {X Y V Z : Type 0} (P : X → Y → Type 0) (Q : V → Z → Type 0) (work : Work) (u v : UnitScope) (ls : List Frames) (spot : Spot) (fs : Frames) (e : ExpandFault) (x : Result Y Broken × Noting) (f : Y → Step Noting Z) →
    EndsIn P work u v ls spot fs (Err e) x → EndsIn Q work u v ls spot fs (Err e) (x >>= f)
in_fails {Z = Z} P Q work u v ls spot fs (fault.At e) x f h =
    subst (λ (r : Result Z Broken × Noting). EndsIn Q work u v ls spot fs (Err (fault.At e)) r) (sym (bound_fails x f h.1.0 h.1.1)) (h.0, (h.1.0, refl, h.1.2))
in_fails P Q work u v ls spot fs fault.Full x f h = absurd h
in_fails P Q work u v ls spot fs fault.Memory x f h = tt

-- the same form is at work before and behind
pub in_after_same : {X Y : Type 0} (P : X → Y → Type 0) (work : Work) (u w v : UnitScope) (ls : List Frames) (spot : Spot) (fs : Frames) (result : Result X ExpandFault) (x : Result Y Broken × Noting) → SameForm u w → EndsIn P work w v ls spot fs result x → EndsIn P work u v ls spot fs result x
in_after_same P work u w v ls spot fs (Ok y) x same h = (h.0, record { stands = h.1.stands; placed = h.1.placed; same = same_on u w v same h.1.same }, h.2, h.3)
in_after_same P work u w v ls spot fs (Err (fault.At e)) x same h = (record { stands = h.0.stands; placed = h.0.placed; same = same_on u w v same h.0.same }, h.1)
in_after_same P work u w v ls spot fs (Err fault.Full) x same h = h
in_after_same P work u w v ls spot fs (Err fault.Memory) x same h = h

-- ---- records

pub taken_same : (u : UnitScope) (n : ℕ) → SameForm u (with_locals u (u.form.budget.locals + n))
taken_same u n = record { unit = refl; number = refl; root = refl; libraries = refl; roots = refl; uses = omega arith; nodes = omega arith; numbers = numbers_stay u (with_locals u (u.form.budget.locals + n)) refl refl }

abbrev pub with_fields : List Binder → List Binder × Renamed Identifier FramedIdent → Step Noting (List Binder × (List Binder × Renamed Identifier FramedIdent))
with_fields bs q = done (bs, q)

-- the fields take locals, and then the names are defined
pub record_steps : (known : Known) (here : Here) (fs : Frames) (fields names : List (Named Identifier)) (p : Pending Identifier FramedIdent) (s : Noting) →
    (fields_bound (noting known) fields s >>= λ bs t. define_names (noting known) here fs names p t >>= λ q. done {A = List Binder × (List Binder × Renamed Identifier FramedIdent)} (bs, q))
    ≡ ((define_each (noting known) here fs names p (taken (length fields) s) >>= with_made p) >>= with_fields (bound_binders (next_number s s.locals) fields))
record_steps known here fs fields names p s =
    let bs = bound_binders (next_number s s.locals) fields in
    ap (λ (r : Result (List Binder) Broken × Noting). r >>= λ cs t. define_names (noting known) here fs names p t >>= λ q. done {A = List Binder × (List Binder × Renamed Identifier FramedIdent)} (cs, q)) (fields_are known fields s)
    ∙ ap (λ (r : Result (List Binder × Renamed Identifier FramedIdent) Broken × Noting). r >>= with_fields bs) (names_defined known here fs p names (taken (length fields) s))

-- ---- macros

counted_same : (here : Here) (b : Bool) (s t : Noting) (r : Result (Rules Identifier) (Fault Identifier)) → t.definitions ≡ s.definitions →
    ((if b then done tt t else fails here NodeBudget s) >>= λ (u : Unit {0}). given (λ (i : Identifier). i) here r).1.definitions ≡ s.definitions
counted_same here true s t (Ok rs) h = h
counted_same here true s t (Err e) h = h
counted_same here false s t r h = refl

-- no body defines anything while rules are read
pub rules_define_none : (known : Known) (here : Here) (t : Tree Identifier) (r : RulesParts Identifier) (s : Noting) → (rules_at (noting known) here t r s).1.definitions ≡ s.definitions
rules_define_none known here t r s =
    counted_same here (nat_le (s.nodes s.form + tree_size t) max_nodes) s ((noting known).spend (tree_size t) s) (rules_of (noting known).names r.parts r.tail) refl

-- ---- faults that are handed on

pub in_handed : {X Y : Type 0} (P : X → Y → Type 0) (work : Work) (u v : UnitScope) (ls : List Frames) (spot : Spot) (fs : Frames) (r : Result X ExpandFault) (e : ExpandFault) (x : Result Y Broken × Noting) → IsErrAnd r (λ f. f ≡ e) →
    EndsIn P work u v ls spot fs (Err e) x → EndsIn P work u v ls spot fs r x
in_handed P work u v ls spot fs (Ok y) e x same h = absurd same
in_handed P work u v ls spot fs (Err f) e x same h = subst (λ (g : ExpandFault). EndsIn P work u v ls spot fs (Err g) x) (sym same) h

pub goes_handed : (work : Work) (region : Region) (u v : UnitScope) (ls : List Frames) (spot : Spot) (fs : Frames) (before : List (Form Identifier)) (given : ℕ) (todo : code_pending.Pending) (asked : Asked) (r : Result (Unit {0}) ExpandFault) (e : ExpandFault)
    (step : Going Identifier FramedIdent Noting → Pass Identifier FramedIdent × Noting) → IsErrAnd r (λ f. f ≡ e) → GoesOn work work region u v ls spot fs before given todo asked (Err e) step → GoesOn work work region u v ls spot fs before given todo asked r step
goes_handed work region u v ls spot fs before given todo asked (Ok y) e step same h = absurd same
goes_handed work region u v ls spot fs before given todo asked (Err f) e step same h = subst (λ (g : ExpandFault). GoesOn work work region u v ls spot fs before given todo asked (Err g) step) (sym same) h

-- want of memory
pub goes_without : (work : Work) (region : Region) (u v : UnitScope) (ls : List Frames) (spot : Spot) (fs : Frames) (before : List (Form Identifier)) (given : ℕ) (todo : code_pending.Pending) (asked : Asked) (r : Result (Unit {0}) ExpandFault)
    (step : Going Identifier FramedIdent Noting → Pass Identifier FramedIdent × Noting) → IsErrAnd r (λ f. f ≡ fault.Memory) → u.form.budget.nodes ≤ 200000 → GoesOn work work region u v ls spot fs before given todo asked r step
goes_without work region u v ls spot fs before given todo asked r step same few = goes_handed work region u v ls spot fs before given todo asked r fault.Memory step same (leaves_itself work region u few)
