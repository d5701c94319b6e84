-- The forms of a body or a unit, gone through on two sides: as long as what the first asks has the same answers on the second, both set
-- the same aside, but for the numbers of definitions.
use Rattle.std.proofs.Common.{◌≡◌, ℕ, zero, suc, List, [], ◌∷◌, ◌++◌, map, Bool, true, false, cond, Option, Some, None, Result, Ok, Err, refl, sym, ap, ◌∙◌, subst}
use Rattle.scheme_model.specs.Ident.{Ident}
use Rattle.scheme_model.specs.Keywords.{CoreKeyword, Auxiliary, core_named, auxiliary_named, IsQuote, IsQuasiquote, IsLambda, IsCaseLambda, IsIf, IsSet, IsBegin, IsDefine, IsDefineValues, IsDefineRecordType, IsDefineSyntax, IsLetSyntax, IsLetrecSyntax, IsCondExpand, IsSyntaxError, IsInclude}
use Rattle.scheme_model.specs.Trees.{Tree, name, atom, list, vector, Trees, no_trees, tree, Tail, map_tree}
use Rattle.scheme_model.specs.ExpansionFaults.{Named, named_map, Fault, UseBudget, OutOfTurns}
use Rattle.scheme_model.specs.Meaning.{Meaning, Local, Global, Standard, Free, Head, IsCore, IsAuxiliary, IsMacro, IsNone, is_keyword, macro_or_none, other_standard, standard_head, head_as}
use Rattle.scheme_model.specs.Shapes.{Formals, Clause, DefinitionShape, Variable, Procedure, RecordShape, proper_of, definition_of, values_of, record_of, syntax_of}
use Rattle.scheme_model.specs.RulesShape.{Rules}
use Rattle.scheme_model.specs.Matching.{matcher, first_match}
use Rattle.scheme_model.specs.Requirements.{LibraryName, chosen_of, libraries_in}
use Rattle.scheme_model.specs.Cores.{Target, Bound, Binder, Binders}
use Rattle.scheme_model.specs.Steps.{Broken, Step, ◌>>=◌, done, fails}
use Rattle.scheme_model.specs.Order.{Here, Form, Item, Expression, Value, Function, Assigned, AssignedFunction, ValuesOf, Record, Macro, Note, LookedUp, Compared, WaitingUse, Pending, Renamed, Pass, Going, Transformer, Instance, Asked, Headed, RulesOf, Assigns, Library, Counted, Ops, is_some, head_of, target_of, here_at, forms_at, told, has_use, used, binder_at, put, waiting, noted, first, define_all, define_names, record_names, record_part, caught, run_variable, run_function, run_define, run_values, run_record, RulesParts, rules_parts_of, rules_parts, rules_note, rules_at, run_syntax, splice, or_none, read_then, run_core, run_use, run_head, run_form, run_next, run}
use Rattle.model_laws.proofs.FrameAsks.{AllOf}
use Rattle.model_laws.proofs.FrameHeads.{IfMacro}
use Rattle.form_laws.proofs.Sides.{Both, Results, BinderLike, ItemLike, PendingLike, RenamedLike, TransformerLike, Answer, Sides}
use Rattle.form_laws.proofs.SideSteps.{other, Comes, Goes, comes_into, comes_after, comes_read, comes_asked, libraries_alike, asked_fits, goes_done, goes_fails, bind_like, bind_same, counting_goes, given_goes, pairs, held, held_first, questions, questions_there, questions_alike, use_begun, use_read, use_from, compared_there, compared_read, compared_noted, parts_there, parts_from, rules_goes, fields_goes, Runs, caught_like, caught_same}
use Rattle.form_laws.proofs.AskedReaders.{chosen_same}

pub both_append : {X : Type 0} (R : X → X → Type 0) (xs ys us vs : List X) → Both R xs ys → Both R us vs → Both R (xs ++ us) (ys ++ vs)
both_append R [] [] us vs h l = l
both_append R [] (y ∷ ys) us vs h l = absurd h
both_append R (x ∷ xs) [] us vs h l = absurd h
both_append R (x ∷ xs) (y ∷ ys) us vs h l = (h.0, both_append R xs ys us vs h.1 l)

pub both_itself : {X : Type 0} (R : X → X → Type 0) → ((x : X) → R x x) → (xs : List X) → Both R xs xs
both_itself R r [] = tt
both_itself R r (x ∷ xs) = (r x, both_itself R r xs)

pub binder_itself : (R : Bound → Bound → Type 0) → ((x : Bound) → R x x) → (b : Binder) → BinderLike R b b
binder_itself R r b = (r b.bound, refl, refl)

pub item_itself : {A : Type 0} (R : Bound → Bound → Type 0) → ((x : Bound) → R x x) → (i : Item A) → ItemLike R i i
item_itself R r (Expression x) = refl
item_itself R r (Value b x) = (b, binder_itself R r b, refl)
item_itself R r (Function b here k) = (b, binder_itself R r b, refl)
item_itself R r (Assigned n x) = refl
item_itself R r (AssignedFunction n here k) = refl
item_itself R r (ValuesOf bs x) = (bs, (both_itself (BinderLike R) (binder_itself R r) bs.names, refl), refl)
item_itself R r (Record q) = (q, (both_itself (BinderLike R) (binder_itself R r) q.binders, refl, refl, refl), refl)
item_itself R r (Macro b here) = (b, binder_itself R r b, refl)

-- the head is a macro that is there
abbrev ByRules : (Meaning → Bool) → Head → Type 0
ByRules f (IsCore c) = Unit {0}
ByRules f (IsAuxiliary a) = Unit {0}
ByRules f (IsMacro m) = f m ≡ true
ByRules f IsNone = Unit {0}

macro_rules : (f : Meaning → Bool) (m : Meaning) (t : Bool) → f m ≡ t → ByRules f (macro_or_none t m)
macro_rules f m true e = e
macro_rules f m false e = tt

other_rules : (f : Meaning → Bool) (m : Meaning) (a : Option Auxiliary) (t : Bool) → f m ≡ t → ByRules f (other_standard a t m)
other_rules f m (Some a) t e = tt
other_rules f m None t e = macro_rules f m t e

standard_rules : (f : Meaning → Bool) (m : Meaning) (c : Option CoreKeyword) (a : Option Auxiliary) (t : Bool) → f m ≡ t → ByRules f (standard_head c a t m)
standard_rules f m (Some c) a t e = tt
standard_rules f m None a t e = other_rules f m a t e

head_rules : (f : Meaning → Bool) (m : Meaning) → ByRules f (head_as f m)
head_rules f (Local v) = macro_rules f (Local v) (f (Local v)) refl
head_rules f (Global u i) = macro_rules f (Global u i) (f (Global u i)) refl
head_rules f (Standard x) = standard_rules f (Standard x) (core_named x) (auxiliary_named x) (f (Standard x)) refl
head_rules f (Free x) = tt

rules_same : (f g : Meaning → Bool) → ((m : Meaning) → g m ≡ f m) → (c : Head) → ByRules f c → ByRules g c
rules_same f g e (IsCore c) h = tt
rules_same f g e (IsAuxiliary a) h = tt
rules_same f g e (IsMacro m) h = e m ∙ h
rules_same f g e IsNone h = tt

module _ {E A L S T : Type 0} (ops : Ops E A L S) (others : Ops E A L T) (fits : S → E → E → Type 0) (k : Sides ops others fits) where
  abbrev there : Ops E A L T
  there = other ops others fits k

  -- what is pending in two states that go together
  abbrev pub Waits : E → S → Pending A L → Pending A L → Type 0
  Waits e s p q = PendingLike (k.bounds e) (k.notes s e) p q

  -- what a definition makes of it
  abbrev Turns : E → S → Renamed A L → Renamed A L → Type 0
  Turns e s d r = RenamedLike (k.bounds e) (k.notes s e) d r

  waits_later : (e : E) (s u : S) → k.later s u → (p q : Pending A L) → Waits e s p q → Waits e u p q
  waits_later e s u a p q l = record { todo = l.todo; aside = l.aside; uses = l.uses; notes = k.notes_later s u a e p.notes q.notes l.notes }

  put_waits : (e : E) (s : S) (i j : Item A) → ItemLike (k.bounds e) i j → (p q : Pending A L) → Waits e s p q → Waits e s (put i p) (put j q)
  put_waits e s i j h p q l = record { todo = l.todo; aside = both_append (ItemLike (k.bounds e)) p.aside q.aside (i ∷ []) (j ∷ []) l.aside (h, tt); uses = l.uses; notes = l.notes }

  first_waits : (e : E) (s : S) (xs : List (Form A)) (p q : Pending A L) → Waits e s p q → Waits e s (first xs p) (first xs q)
  first_waits e s xs p q l = record { todo = ap (λ ys. xs ++ ys) l.todo; aside = l.aside; uses = l.uses; notes = l.notes }

  used_waits : (e : E) (s : S) (w : WaitingUse A) (p q : Pending A L) → Waits e s p q → Waits e s (waiting w p) (waiting w q)
  used_waits e s w p q l = record { todo = l.todo; aside = l.aside; uses = ap (λ us. us ++ w ∷ []) l.uses; notes = l.notes }

  with_todo : (e : E) (s : S) (xs : List (Form A)) (p q : Pending A L) → Waits e s p q → Waits e s (record p { todo = xs }) (record q { todo = xs })
  with_todo e s xs p q l = record { todo = refl; aside = l.aside; uses = l.uses; notes = l.notes }

  module _ (e f : E) (defines : k.defines e) where
    -- both go on alike
    abbrev pub RunsAlike : Going A L S → Going A L T → Type 0
    RunsAlike go go2 = (p q : Pending A L) (s : S) → fits s e f → Waits e s p q → Runs ops others fits k e s (go p s) (go2 q)

    -- ---- a definition

    told_same : (x : Result (Renamed A L) (Fault Ident)) (u : S) (here : Here) (y : Result (Renamed A L) (Fault Ident)) (t : T) → Results (Turns e u) x y → k.near u t
        → Results (Turns e (told here (x, u)).1) (told here (x, u)).0 (told here (y, t)).0 × k.near (told here (x, u)).1 (told here (y, t)).1
    told_same (Ok v) u here (Ok w) t h n = (h, n)
    told_same (Ok v) u here (Err y) t h n = absurd h
    told_same (Err x) u here (Ok w) t h n = absurd h
    told_same (Err x) u here (Err y) t h n = (ap (λ (c : Fault Ident). record { fault = c; here = here }) h, n)

    told_state : (x : Result (Renamed A L) (Fault Ident)) (u : S) (here : Here) → (told here (x, u)).1 ≡ u
    told_state (Ok v) u here = refl
    told_state (Err x) u here = refl

    told_some : (x y : Result (Renamed A L) (Fault Ident)) (u : S) (here : Here) → Results (Turns e u) x y → (z : Result (Renamed A L) Broken) × Results (Turns e (told here (x, u)).1) (told here (x, u)).0 z
    told_some (Ok v) (Ok w) u here h = (Ok w, h)
    told_some (Ok v) (Err y) u here h = absurd h
    told_some (Err x) y u here h = (Err (record { fault = x; here = here }), refl)

    define_goes : (here : Here) (n : Named A) (r : Option (Rules A)) (p q : Pending A L) (s : S) → fits s e f → Waits e s p q → Goes ops others fits k (Turns e) s (told here (ops.define n r e p s)) (λ t. told here (others.define n r f q t))
    define_goes here n r p q s h l =
        let x = ops.define n r e p s in
        let one = k.define_some s e f defines h n r p q l in
        record {
          back = λ a. k.define_back s n r e p (subst k.same_so_far (told_state x.0 x.1 here) a);
          after = subst (k.later s) (sym (told_state x.0 x.1 here)) (k.define_later s e f defines h n r p q l);
          some = told_some x.0 one.0 x.1 here one.1;
          same = λ t z a. let y = others.define n r f q t in let d = k.define_near s t z e f defines h n r p q l (subst k.same_so_far (told_state x.0 x.1 here) a) in told_same x.0 x.1 here y.0 y.1 d.0 d.1;
        }

    -- something with what the next definition binds
    binding : {X Y : Type 0} {R : S → X → Y → Type 0} (s : S) {q : X × S} (g0 : T → Y × T) (n : Named A) → fits s e f → (g : Binder → T → Y × T) → ((b : Binder) → BinderLike (k.bounds e) (binder_at ops e s n) b → Comes ops others fits k R s q (g b))
        → ((t : T) → g0 t ≡ g (binder_at there f t n) t) → Comes ops others fits k R s q g0
    binding s g0 n h g law find =
        let c = k.some_bound s e f h in
        comes_into ops others fits k s s g0 (BinderLike (k.bounds e) (binder_at ops e s n)) (record { bound = c.0; ident = ops.plain n.name; occ = n.occ }) (c.1, refl, refl) g (λ a. a) (k.itself s) law
        (λ t z a. (binder_at there f t n, (k.next_bound s t z e f h, refl, refl), t, z, find t))

    -- beside the binders of several definitions
    abbrev Many : S → List Binder × Renamed A L → List Binder × Renamed A L → Type 0
    Many s v w = Both (BinderLike (k.bounds e)) v.0 w.0 × Turns e s v.1 w.1

    module _ (here : Here) where
      pub all_go : (made : A → A) (ns : List (Named A)) (p q : Pending A L) (s : S) → fits s e f → Waits e s p q → Goes ops others fits k Many s (define_all ops here e made ns p s) (define_all there here f made ns q)
      all_go made [] p q s h l = goes_done ops others fits k s ([], record { pending = p; rename = made }) ([], record { pending = q; rename = made }) (tt, (l, refl))
      all_go made (n ∷ ns) p q s h l =
          let x = named_map made n in
          binding s _ x h (λ b t. told here (others.define x None f q t) >>= λ r u. define_all there here f (λ i. r.rename (made i)) ns r.pending u >>= λ more. done (b ∷ more.0, more.1))
          (λ b hb. bind_like ops others fits k {G = Turns e} {H = Many} s _ _ (define_goes here x None p q s h l)
          (λ r u r2 a lr. bind_like ops others fits k {G = Many} {H = Many} u _ _
          (comes_read ops others fits k u (define_all there here f (λ i. r2.rename (made i)) ns r2.pending) (define_all there here f (λ i. r.rename (made i)) ns r2.pending)
          (λ t z. ap (λ (g : A → A). define_all there here f (λ i. g (made i)) ns r2.pending t) lr.1) (all_go (λ i. r.rename (made i)) ns r.pending r2.pending u (k.fits_later s u a e f h) lr.0))
          (λ more v more2 c lm. goes_done ops others fits k v (binder_at ops e s x ∷ more.0, more.1) (b ∷ more2.0, more2.1) ((hb, lm.0), lm.1))))
          (λ t. refl)

      names_go : (ns : List (Named A)) (p q : Pending A L) (s : S) → fits s e f → Waits e s p q → Goes ops others fits k Many s (define_names ops here e ns p s) (define_names there here f ns q)
      names_go ns p q s h l = all_go (λ i. i) ns p q s h l

    module _ (go : Going A L S) (go2 : Going A L T) (law : RunsAlike go go2) where
      module _ (here : Here) where
        one_runs : (n : Named A) (i : Binder → Item A) → ((b c : Binder) → BinderLike (k.bounds e) b c → ItemLike (k.bounds e) (i b) (i c)) → (p q : Pending A L) (s : S) → fits s e f → Waits e s p q
            → Runs ops others fits k e s (caught p.notes (told here (ops.define n None e (put (i (binder_at ops e s n)) p) s)) (λ d. go d.pending)) (λ t. caught q.notes (told here (others.define n None f (put (i (binder_at there f t n)) q) t)) (λ d. go2 d.pending))
        one_runs n i like p q s h l =
            binding s _ n h (λ b t. caught q.notes (told here (others.define n None f (put (i b) q) t)) (λ d. go2 d.pending))
            (λ b hb. caught_like ops others fits k {G = Turns e} e p.notes q.notes (λ d. go d.pending) (λ d. go2 d.pending) s l.notes
            (define_goes here n None (put (i (binder_at ops e s n)) p) (put (i b) q) s h (put_waits e s _ _ (like _ b hb) p q l))
            (λ r u r2 a lr. law r.pending r2.pending u (k.fits_later s u a e f h) lr.0))
            (λ t. refl)

        put_runs : (i j : Item A) → ItemLike (k.bounds e) i j → (p q : Pending A L) (s : S) → fits s e f → Waits e s p q → Runs ops others fits k e s (go (put i p) s) (go2 (put j q))
        put_runs i j hi p q s h l = law (put i p) (put j q) s h (put_waits e s i j hi p q l)

        variable_runs : (n : Named A) (t : Tree A) (b : Bool) (p q : Pending A L) (s : S) → fits s e f → Waits e s p q → Runs ops others fits k e s (run_variable ops go here e n t b p s) (run_variable there go2 here f n t b q)
        variable_runs n t true p q s h l = put_runs (Assigned n (record { here = here; tree = t })) _ refl p q s h l
        variable_runs n t false p q s h l = one_runs n (λ b. Value b (record { here = here; tree = t })) (λ b c hb. (c, hb, refl)) p q s h l

        function_runs : (n : Named A) (c : Clause A) (b : Bool) (p q : Pending A L) (s : S) → fits s e f → Waits e s p q → Runs ops others fits k e s (run_function ops go here e n c b p s) (run_function there go2 here f n c b q)
        function_runs n c true p q s h l = put_runs (AssignedFunction n here c) _ refl p q s h l
        function_runs n c false p q s h l = one_runs n (λ b. Function b here c) (λ b d hb. (d, hb, refl)) p q s h l

        -- what goes on once it was asked
        asked_waits : (s : S) (qs : List (Asked E A)) (p q : Pending A L) → Waits e s p q → Waits e (ops.ask qs s) p q
        asked_waits s qs p q l = waits_later e s (ops.ask qs s) (k.ask_later s qs) p q l

        define_runs : (p q : Pending A L) (d : DefinitionShape A) (s : S) → fits s e f → Waits e s p q → Runs ops others fits k e s (run_define ops go here e p d s) (run_define there go2 here f q d)
        define_runs p q (Variable n t) s h l =
            let b = ops.is_assigned e s n.name in
            let qs = Assigns e n.name ∷ [] in
            let rs = Assigns f n.name ∷ [] in
            comes_asked ops others fits k s qs rs ((f, h, refl), tt) (run_define there go2 here f q (Variable n t)) (run_variable there go2 here f n t b q)
            (λ u z a. ap (λ c. run_variable there go2 here f n t c q (others.ask rs u)) (a.0 f h)) (variable_runs n t b p q (ops.ask qs s) (asked_fits ops others fits k s qs e f h) (asked_waits s qs p q l))
        define_runs p q (Procedure n c) s h l =
            let b = ops.is_assigned e s n.name in
            let qs = Assigns e n.name ∷ [] in
            let rs = Assigns f n.name ∷ [] in
            comes_asked ops others fits k s qs rs ((f, h, refl), tt) (run_define there go2 here f q (Procedure n c)) (run_function there go2 here f n c b q)
            (λ u z a. ap (λ d. run_function there go2 here f n c d q (others.ask rs u)) (a.0 f h)) (function_runs n c b p q (ops.ask qs s) (asked_fits ops others fits k s qs e f h) (asked_waits s qs p q l))

        -- ---- several names

        values_runs : (p q : Pending A L) (d : Formals A × Tree A) (s : S) → fits s e f → Waits e s p q → Runs ops others fits k e s (run_values ops go here e p d s) (run_values there go2 here f q d)
        values_runs p q d s h l =
            caught_like ops others fits k {G = Many} e p.notes q.notes (λ r. go (put (ValuesOf (record { names = r.0; rest = d.0.rest }) (record { here = here; tree = map_tree r.1.rename d.1 })) r.1.pending))
            (λ r. go2 (put (ValuesOf (record { names = r.0; rest = d.0.rest }) (record { here = here; tree = map_tree r.1.rename d.1 })) r.1.pending)) s l.notes (names_go here d.0.names p q s h l)
            (λ r u r2 a lr. let bs : Binders = record { names = r2.0; rest = d.0.rest } in let m = lr.1.1 in
            put_runs (ValuesOf (record { names = r.0; rest = d.0.rest }) (record { here = here; tree = map_tree r.1.rename d.1 })) (ValuesOf bs (record { here = here; tree = map_tree r2.1.rename d.1 }))
            (bs, (lr.0, refl), λ j. ValuesOf bs (record { here = here; tree = map_tree (m j) d.1 })) r.1.pending r2.1.pending u (k.fits_later s u a e f h) lr.1.0)

        -- ---- records

        abbrev Parts2 : S → List Binder × (List Binder × Renamed A L) → List Binder × (List Binder × Renamed A L) → Type 0
        Parts2 s v w = (w.0 ≡ v.0) × Many s v.1 w.1

        record_runs : (p q : Pending A L) (r : RecordShape A) (s : S) → fits s e f → Waits e s p q → Runs ops others fits k e s (run_record ops go here e p r s) (run_record there go2 here f q r)
        record_runs p q r s h l =
            caught_like ops others fits k {V = List Binder × (List Binder × Renamed A L)} {W = List Binder × (List Binder × Renamed A L)} {G = Parts2} e p.notes q.notes
            (λ x. go (put (Record (record_part ops.names.same r x.1.0 x.0)) x.1.1.pending)) (λ x. go2 (put (Record (record_part ops.names.same r x.1.0 x.0)) x.1.1.pending)) s l.notes
            (bind_same ops others fits k {H = Parts2} s _ _ (fields_goes ops others fits k (map (λ x. x.field) r.fields) s)
            (λ bs u a. bind_like ops others fits k {G = Many} {H = Parts2} u _ _ (names_go here (record_names r) p q u (k.fits_later s u a e f h) (waits_later e s u a p q l)) (λ x v y b ly. goes_done ops others fits k v (bs, x) (bs, y) (refl, ly))))
            (λ x u y a ly. put_runs (Record (record_part ops.names.same r x.1.0 x.0)) (Record (record_part ops.names.same r y.1.0 y.0)) (record_part ops.names.same r y.1.0 y.0, (ly.1.0, ly.0, refl, refl), refl) x.1.1.pending y.1.1.pending u (k.fits_later s u a e f h) ly.1.1.0)

        -- ---- macro definitions

        abbrev One : S → Binder × Pending A L → Binder × Pending A L → Type 0
        One s v w = BinderLike (k.bounds e) v.0 w.0 × Waits e s v.1 w.1

        -- the rules were read; the macro is defined
        abbrev macro_defined : Named A × Tree A → Pending A L → RulesParts A → Step S (Binder × Pending A L)
        macro_defined d p r t0 = rules_at ops here d.1 r t0 >>= λ rules t. told here (ops.define d.0 (Some rules) e p t) >>= λ made. done (binder_at ops e t d.0, made.pending)

        abbrev macro_defined2 : Named A × Tree A → Pending A L → RulesParts A → Step T (Binder × Pending A L)
        macro_defined2 d q r t0 = rules_at there here d.1 r t0 >>= λ rules t. told here (others.define d.0 (Some rules) f q t) >>= λ made. done (binder_at there f t d.0, made.pending)

        macro_goes : (d : Named A × Tree A) (p q : Pending A L) (r : RulesParts A) (s : S) → fits s e f → Waits e s p q → Goes ops others fits k One s (macro_defined d p r s) (macro_defined2 d q r)
        macro_goes d p q r s h l =
            bind_same ops others fits k {H = One} s _ _ (rules_goes ops others fits k here d.1 r s)
            (λ rules u a. let hu = k.fits_later s u a e f h in
            binding u _ d.0 hu (λ b t. told here (others.define d.0 (Some rules) f q t) >>= λ made. done (b, made.pending))
            (λ b hb. bind_like ops others fits k {G = Turns e} {H = One} u _ _ (define_goes here d.0 (Some rules) p q u hu (waits_later e s u a p q l)) (λ d1 v d2 c l2. goes_done ops others fits k v (binder_at ops e u d.0, d1.pending) (b, d2.pending) (hb, l2.0)))
            (λ t. refl))

        abbrev syntax_end : Named A × Tree A → Option (RulesParts A) → Pending A L → S → Pass A L × S
        syntax_end d o p s = caught {B = Binder × Pending A L} p.notes (rules_parts ops here e o s >>= macro_defined d p) (λ r. go (put (Macro r.0 here) r.1))

        macro_put : (s : S) → fits s e f → (r : Binder × Pending A L) (u : S) (r2 : Binder × Pending A L) → k.later s u → One u r r2 → Runs ops others fits k e u (go (put (Macro r.0 here) r.1) u) (go2 (put (Macro r2.0 here) r2.1))
        macro_put s h r u r2 a lr = put_runs (Macro r.0 here) (Macro r2.0 here) (r2.0, lr.0, refl) r.1 r2.1 u (k.fits_later s u a e f h) lr.1

        syntax_by : (d : Named A × Tree A) (o : Option (RulesParts A)) (p q : Pending A L) (s : S) → fits s e f → Waits e s p q
            → Runs ops others fits k e s (syntax_end d o (noted (rules_note ops e s o) p) s)
            (λ t. caught {B = Binder × Pending A L} (noted (rules_note there f t o) q).notes (rules_parts there here f o t >>= macro_defined2 d (noted (rules_note there f t o) q)) (λ r. go2 (put (Macro r.0 here) r.1)))
        syntax_by d None p q s h l =
            caught_like ops others fits k {V = Binder × Pending A L} {W = Binder × Pending A L} {G = One} e p.notes q.notes (λ r. go (put (Macro r.0 here) r.1)) (λ r. go2 (put (Macro r.0 here) r.1)) s l.notes
            (bind_same ops others fits k {V = RulesParts A} {H = One} s (macro_defined d p) (macro_defined2 d q) (goes_fails ops others fits k here _ s) (λ r u a. macro_goes d p q r u (k.fits_later s u a e f h) (waits_later e s u a p q l)))
            (macro_put s h)
        syntax_by d (Some r) p q s h l =
            let hd = head_of ops e s r.head in
            let n : Note L = LookedUp (ops.place e r.head) false (is_keyword hd) in
            let m : Note L = LookedUp (others.place f r.head) false (is_keyword hd) in
            let p1 = noted (n ∷ []) p in let q1 = noted (m ∷ []) q in
            let qs = Headed e r.head ∷ [] in
            let rs = Headed f r.head ∷ [] in
            let s1 = ops.ask qs s in
            let h1 = asked_fits ops others fits k s qs e f h in
            let l1 : Waits e s p1 q1 = record { todo = l.todo; aside = l.aside; uses = l.uses; notes = k.more_notes s e p.notes q.notes l.notes n m (k.placed s e f h r.head, refl, refl) } in
            let l2 = asked_waits s qs p1 q1 l1 in
            comes_asked ops others fits k s qs rs ((f, h, refl), tt) _ (λ t. caught {B = Binder × Pending A L} q1.notes (parts_there ops others fits k here e f hd r t >>= macro_defined2 d q1) (λ x. go2 (put (Macro x.0 here) x.1)))
            (λ t z a. let c = (a.0 f h).1 in λ j. caught {B = Binder × Pending A L} (noted (LookedUp (others.place f r.head) false (is_keyword (c j)) ∷ []) q).notes (parts_there ops others fits k here e f (c j) r (others.ask rs t) >>= macro_defined2 d (noted (LookedUp (others.place f r.head) false (is_keyword (c j)) ∷ []) q)) (λ x. go2 (put (Macro x.0 here) x.1)))
            (caught_like ops others fits k {V = Binder × Pending A L} {W = Binder × Pending A L} {G = One} e p1.notes q1.notes (λ x. go (put (Macro x.0 here) x.1)) (λ x. go2 (put (Macro x.0 here) x.1)) s1 l2.notes
            (bind_same ops others fits k {V = RulesParts A} {H = One} s1 (macro_defined d p1) (macro_defined2 d q1) (parts_from ops others fits k here e f r s) (λ x u a. macro_goes d p1 q1 x u (k.fits_later s1 u a e f h1) (waits_later e s1 u a p1 q1 l2)))
            (macro_put s1 h1))

        syntax_runs : (p q : Pending A L) (d : Named A × Tree A) (s : S) → fits s e f → Waits e s p q → Runs ops others fits k e s (run_syntax ops go here e p d s) (run_syntax there go2 here f q d)
        syntax_runs p q d s h l = syntax_by d (rules_parts_of d.1) p q s h l

        -- ---- core forms

        splice_runs : (p q : Pending A L) (ts : Trees A) (s : S) → fits s e f → Waits e s p q → Runs ops others fits k e s (splice ops go here p ts s) (splice there go2 here q ts)
        splice_runs p q ts s h l =
            caught_same ops others fits k {V = Unit {0}} e p.notes q.notes (λ u. go (first (forms_at here ts) p)) (λ u. go2 (first (forms_at here ts) q)) s l.notes (counting_goes ops others fits k here 1 s)
            (λ v u a. law (first (forms_at here ts) p) (first (forms_at here ts) q) u (k.fits_later s u a e f h) (first_waits e u (forms_at here ts) p q (waits_later e s u a p q l)))

        module _ (p q : Pending A L) where
          abbrev NextRead : {X : Type 0} → (X → S → Pass A L × S) → (X → T → Pass A L × T) → Type 0
          NextRead {X} g g2 = (x : X) (u : S) → fits u e f → Waits e u p q → Runs ops others fits k e u (g x u) (g2 x)

          read_runs : {X : Type 0} (r : Result X (Fault A)) (g : X → S → Pass A L × S) (g2 : X → T → Pass A L × T) (s : S) → fits s e f → Waits e s p q → NextRead g g2 → Runs ops others fits k e s (read_then ops here p r g s) (read_then there here q r g2)
          read_runs {X} r g g2 s h l next = caught_same ops others fits k {V = X} e p.notes q.notes g g2 s l.notes (given_goes ops others fits k here r s) (λ x u a. next x u (k.fits_later s u a e f h) (waits_later e s u a p q l))

          module _ (x : Target) (y : Form A) (ts : Trees A) (tail : Tail A) (s : S) (h : fits s e f) (l : Waits e s p q) where
            abbrev met_state : S
            met_state = ops.meet x s

            met_fits : fits met_state e f
            met_fits = k.fits_later s met_state (k.meet_later s x) e f h

            met_waits : Waits e met_state p q
            met_waits = waits_later e s met_state (k.meet_later s x) p q l

            met : {X : Type 0} (r : Result X (Fault A)) (g : X → S → Pass A L × S) (g2 : X → T → Pass A L × T) → NextRead g g2 → Runs ops others fits k e s (read_then ops here p r g (ops.meet x s)) (λ t. read_then there here q r g2 (others.meet x t))
            met r g g2 next = comes_after ops others fits k s met_state (read_then there here q r g2) (others.meet x) (k.meet_back s x) (k.meet_later s x) (λ t z. k.meet_near s t z x) (read_runs r g g2 met_state met_fits met_waits next)

            as_expression : Runs ops others fits k e s (go (put (Expression y) p) s) (go2 (put (Expression y) q))
            as_expression = put_runs (Expression y) (Expression y) refl p q s h l

            abbrev libraries : List (Asked E A)
            libraries = map (λ (n : LibraryName). Library n) (libraries_in ops.names.strip ts tail)

            known_there : (u : S) (t : T) → (ns : List LibraryName) → AllOf (Answer ops others fits u t) (map (λ (n : LibraryName). Library n) ns) → AllOf (λ (n : LibraryName). others.known n ≡ ops.known n) ns
            known_there u t [] a = tt
            known_there u t (n ∷ ns) a = (a.0, known_there u t ns a.1)

            chosen_runs : Runs ops others fits k e s (run_core ops go here e IsCondExpand x y ts tail p s) (run_core there go2 here f IsCondExpand x y ts tail q)
            chosen_runs =
                comes_after ops others fits k s met_state (λ t. read_then there here q (chosen_of ops.names.strip others.known ts tail) (λ c. splice there go2 here q (or_none c)) (others.ask libraries t)) (others.meet x) (k.meet_back s x) (k.meet_later s x) (λ t z. k.meet_near s t z x)
                (comes_asked ops others fits k met_state libraries libraries (libraries_alike ops others fits k met_state (libraries_in ops.names.strip ts tail)) _ (read_then there here q (chosen_of ops.names.strip ops.known ts tail) (λ c. splice there go2 here q (or_none c)))
                (λ t z a. ap (λ c. read_then there here q c (λ c. splice there go2 here q (or_none c)) (others.ask libraries t)) (chosen_same ops.names.strip others.known ops.known ts tail (known_there met_state t (libraries_in ops.names.strip ts tail) a)))
                (read_runs (chosen_of ops.names.strip ops.known ts tail) (λ c. splice ops go here p (or_none c)) (λ c. splice there go2 here q (or_none c)) (ops.ask libraries met_state) (asked_fits ops others fits k met_state libraries e f met_fits) (asked_waits met_state libraries p q met_waits)
                (λ c u hu lu. splice_runs p q (or_none c) u hu lu)))

            core_runs : (c : CoreKeyword) → Runs ops others fits k e s (run_core ops go here e c x y ts tail p s) (run_core there go2 here f c x y ts tail q)
            core_runs IsQuote = as_expression
            core_runs IsQuasiquote = as_expression
            core_runs IsLambda = as_expression
            core_runs IsCaseLambda = as_expression
            core_runs IsIf = as_expression
            core_runs IsSet = as_expression
            core_runs IsBegin = met (proper_of ts tail) (splice ops go here p) (splice there go2 here q) (λ us u hu lu. splice_runs p q us u hu lu)
            core_runs IsDefine = met (definition_of ops.names.same ts tail) (run_define ops go here e p) (run_define there go2 here f q) (λ d u hu lu. define_runs p q d u hu lu)
            core_runs IsDefineValues = met (values_of ops.names.same ts tail) (run_values ops go here e p) (run_values there go2 here f q) (λ d u hu lu. values_runs p q d u hu lu)
            core_runs IsDefineRecordType = met (record_of ops.names.same ts tail) (run_record ops go here e p) (run_record there go2 here f q) (λ r u hu lu. record_runs p q r u hu lu)
            core_runs IsDefineSyntax = met (syntax_of ts tail) (run_syntax ops go here e p) (run_syntax there go2 here f q) (λ d u hu lu. syntax_runs p q d u hu lu)
            core_runs IsLetSyntax = as_expression
            core_runs IsLetrecSyntax = as_expression
            core_runs IsCondExpand = chosen_runs
            core_runs IsSyntaxError = as_expression
            core_runs IsInclude = as_expression

            -- ---- macro uses

            module _ (m : Transformer E A) (g : E) (z : fits s m.env g) where
              abbrev asked_here : List (Asked E A)
              asked_here = questions ops others fits k here e f x m.env g m.rules ts tail s h z

              abbrev asked_there : List (Asked E A)
              asked_there = questions_there ops others fits k here e f x m.env g m.rules ts tail s h z

              abbrev macro_there : Transformer E A
              macro_there = record { env = g; rules = m.rules }

              -- what the second compares, and its use, where the budget has one left
              abbrev notes_there : T → List (Note L)
              notes_there t =
                  map (λ (c : A × A). Compared (others.place g c.0) (others.place f c.1) (held ops others fits k here e f x m.env g m.rules ts tail s h z t c.0 c.1)) (pairs ops others fits k here e f x m.env g m.rules ts tail s h z)

              abbrev use_there : Step T (Instance A)
              use_there t = used there here x macro_there (others.next_use t) (first_match (matcher ops.names m.rules (held ops others fits k here e f x m.env g m.rules ts tail s h z t)) m.rules.rules ts tail) (others.begin_use g (others.ask asked_there t))

              abbrev notes_here : List (Note L)
              notes_here =
                  map (λ (c : A × A). Compared (ops.place m.env c.0) (ops.place e c.1) (held_first ops others fits k here e f x m.env g m.rules ts tail s h z c.0 c.1)) (pairs ops others fits k here e f x m.env g m.rules ts tail s h z)

              abbrev use_here : Result (Instance A) Broken × S
              use_here = used ops here x m (ops.next_use s) (first_match (matcher ops.names m.rules (held_first ops others fits k here e f x m.env g m.rules ts tail s h z)) m.rules.rules ts tail) (ops.begin_use m.env (ops.ask asked_here s))

              abbrev next_here : Pending A L → Instance A → S → Pass A L × S
              next_here p1 i = go (first (record { here = here; tree = i.tree } ∷ []) (waiting i.met p1))

              abbrev next_there : Pending A L → Instance A → T → Pass A L × T
              next_there q1 i = go2 (first (record { here = here; tree = i.tree } ∷ []) (waiting i.met q1))

              next_runs : (s1 : S) → fits s1 e f → (p1 q1 : Pending A L) → Waits e s1 p1 q1 → (i : Instance A) (u : S) → k.later s1 u → Runs ops others fits k e u (next_here p1 i u) (next_there q1 i)
              next_runs s1 h1 p1 q1 l1 i u a =
                  law (first (record { here = here; tree = i.tree } ∷ []) (waiting i.met p1)) (first (record { here = here; tree = i.tree } ∷ []) (waiting i.met q1)) u (k.fits_later s1 u a e f h1)
                  (first_waits e u (record { here = here; tree = i.tree } ∷ []) (waiting i.met p1) (waiting i.met q1) (used_waits e u i.met p1 q1 (waits_later e s1 u a p1 q1 l1)))

              by_budget : (b : Bool) → Runs ops others fits k e s (caught (noted (cond b notes_here []) p).notes (cond b use_here (fails here UseBudget s)) (next_here (noted (cond b notes_here []) p)))
                  (λ t. caught (noted (cond b (notes_there t) []) q).notes (cond b (use_there t) (fails here UseBudget t)) (next_there (noted (cond b (notes_there t) []) q)))
              by_budget false = caught_same ops others fits k {V = Instance A} e p.notes q.notes (next_here p) (next_there q) s l.notes (goes_fails ops others fits k here UseBudget s) (next_runs s h p q l)
              by_budget true =
                  let ms = compared_there ops others fits k here e f x m.env g m.rules ts tail s h z in
                  let p1 = noted notes_here p in let q1 = noted ms q in
                  let s1 = ops.ask asked_here s in
                  let l1 : Waits e s p1 q1 = record { todo = l.todo; aside = l.aside; uses = l.uses; notes = compared_noted ops others fits k here e f x m.env g m.rules ts tail s h z e p.notes q.notes l.notes } in
                  let l2 = asked_waits s asked_here p1 q1 l1 in
                  comes_asked ops others fits k s asked_here asked_there (questions_alike ops others fits k here e f x m.env g m.rules ts tail s h z) _ (λ t. caught q1.notes (use_begun ops others fits k here e f x m.env g m.rules ts tail s h z t) (next_there q1))
                  (λ t n a. let c = compared_read ops others fits k here e f x m.env g m.rules ts tail s h z t a in let u = use_read ops others fits k here e f x m.env g m.rules ts tail s h z t n a in
                  λ j. caught (noted (c j) q).notes (u j) (next_there (noted (c j) q)))
                  (caught_same ops others fits k {V = Instance A} e p1.notes q1.notes (next_here p1) (next_there q1) s1 l2.notes (use_from ops others fits k here e f x m.env g m.rules ts tail s h z) (next_runs s1 (asked_fits ops others fits k s asked_here e f h) p1 q1 l2))

              use_runs : Runs ops others fits k e s (run_use ops go here e x (Some m) y ts tail p s) (run_use there go2 here f x (Some macro_there) y ts tail q)
              use_runs =
                  comes_read ops others fits k s _ (λ t. caught (noted (cond (has_use ops s) (notes_there t) []) q).notes (cond (has_use ops s) (use_there t) (fails here UseBudget t)) (next_there (noted (cond (has_use ops s) (notes_there t) []) q)))
                  (λ t n. ap (λ (c : Counted). let b = has_use (record ops { counted = λ u. c }) s in caught (noted (cond b (notes_there t) []) q).notes (cond b (use_there t) (fails here UseBudget t)) (next_there (noted (cond b (notes_there t) []) q))) (k.counts s t n))
                  (by_budget (has_use ops s))

        -- what is done by a macro that is there, where its rules were asked for
        macro_runs : (x : Target) (y : Form A) (ts : Trees A) (tail : Tail A) (p q : Pending A L) (s : S) → fits s e f → Waits e s p q → (m : Meaning) (o : Option (Transformer E A)) → o ≡ ops.transformer s m → is_some (ops.transformer s m) ≡ true
            → Runs ops others fits k e s (run_use ops go here e x o y ts tail p (ops.ask (RulesOf m ∷ []) s)) (run_head there go2 here f (IsMacro m) x y ts tail q)
        macro_runs x y ts tail p q s h l m None d r = let z : false ≡ true = ap is_some d ∙ r in absurd cc
        macro_runs x y ts tail p q s h l m (Some c) d r =
            let qs = RulesOf m ∷ [] in
            let u = ops.ask qs s in
            let one = subst (IfMacro (λ (c : Transformer E A). (g : E) × fits s c.env g)) (sym d) (k.macro s e f h m) in
            comes_into ops others fits k s u _ (fits u c.env) one.0 (asked_fits ops others fits k s qs c.env one.0 one.1) (λ g. run_use there go2 here f x (Some (record { env = g; rules = c.rules })) y ts tail q) (k.ask_back s qs) (k.ask_later s qs)
            (λ g z. use_runs p q x y ts tail u (asked_fits ops others fits k s qs e f h) (asked_waits s qs p q l) c g z)
            (λ t n a. let z = by (k.answered s t n qs a).0 in (z.0, asked_fits ops others fits k s qs c.env z.0 z.1, others.ask qs t, k.ask_near s t n qs qs ((k.ruled_there s m r, refl), tt), ap (λ w. run_use there go2 here f x w y ts tail q (others.ask qs t)) z.2))
          where
            by : {z : Option (Transformer E A)} → TransformerLike (fits s) (ops.transformer s m) z → TransformerLike (fits s) (Some c) z
            by {z} a = subst (λ (w : Option (Transformer E A)). TransformerLike (fits s) w z) (sym d) a

        head_runs : (c : Head) (x : Target) (y : Form A) (ts : Trees A) (tail : Tail A) (p q : Pending A L) (s : S) → fits s e f → Waits e s p q → ByRules (λ m. is_some (ops.transformer s m)) c → Runs ops others fits k e s (run_head ops go here e c x y ts tail p s) (run_head there go2 here f c x y ts tail q)
        head_runs (IsCore c) x y ts tail p q s h l r = core_runs p q x y ts tail s h l c
        head_runs (IsAuxiliary a) x y ts tail p q s h l r = put_runs (Expression y) (Expression y) refl p q s h l
        head_runs (IsMacro m) x y ts tail p q s h l r = macro_runs x y ts tail p q s h l m (ops.transformer s m) refl r
        head_runs IsNone x y ts tail p q s h l r = put_runs (Expression y) (Expression y) refl p q s h l

        -- ---- any form

        form_runs : (y : Form A) (t : Tree A) (p q : Pending A L) (s : S) → fits s e f → Waits e s p q → Runs ops others fits k e s (run_form ops go e here y t p s) (run_form there go2 f here y t q)
        form_runs y (name i o) p q s h l = put_runs (Expression y) (Expression y) refl p q s h l
        form_runs y (atom a o) p q s h l = put_runs (Expression y) (Expression y) refl p q s h l
        form_runs y (vector ts o) p q s h l = put_runs (Expression y) (Expression y) refl p q s h l
        form_runs y (list no_trees tail o) p q s h l = put_runs (Expression y) (Expression y) refl p q s h l
        form_runs y (list (tree (name i z) ts) tail o) p q s h l =
            let hd = head_of ops e s i in let x = target_of ops e s i z in
            let n : Note L = LookedUp (ops.place e i) true (is_keyword hd) in
            let m : Note L = LookedUp (others.place f i) true (is_keyword hd) in
            let qs = Headed e i ∷ [] in
            let rs = Headed f i ∷ [] in
            let l1 : Waits e s (noted (n ∷ []) p) (noted (m ∷ []) q) = record { todo = l.todo; aside = l.aside; uses = l.uses; notes = k.more_notes s e p.notes q.notes l.notes n m (k.placed s e f h i, refl, refl) } in
            comes_asked ops others fits k s qs rs ((f, h, refl), tt) _ (run_head there go2 here f hd x y ts tail (noted (m ∷ []) q))
            (λ t w a. let b = a.0 f h in λ j. run_head there go2 here f (b.1 j) (record { meaning = b.0 j; ident = ops.plain i; occ = z }) y ts tail (noted (LookedUp (others.place f i) true (is_keyword (b.1 j)) ∷ []) q) (others.ask rs t))
            (head_runs hd x y ts tail (noted (n ∷ []) p) (noted (m ∷ []) q) (ops.ask qs s) (asked_fits ops others fits k s qs e f h) (asked_waits s qs (noted (n ∷ []) p) (noted (m ∷ []) q) l1)
            (rules_same (λ m. is_some (ops.transformer s m)) (λ m. is_some (ops.transformer (ops.ask qs s) m)) (λ m. ap is_some (k.ask_macro s qs m)) hd (head_rules (λ m. is_some (ops.transformer s m)) (ops.means e s i))))
        form_runs y (list (tree (atom a z) ts) tail o) p q s h l = put_runs (Expression y) (Expression y) refl p q s h l
        form_runs y (list (tree (list us end z) ts) tail o) p q s h l = put_runs (Expression y) (Expression y) refl p q s h l
        form_runs y (list (tree (vector us z) ts) tail o) p q s h l = put_runs (Expression y) (Expression y) refl p q s h l

      next_form : (todo : List (Form A)) (p q : Pending A L) (s : S) → fits s e f → Waits e s p q → Runs ops others fits k e s (run_next ops go e todo p s) (run_next there go2 f todo q)
      next_form [] p q s h l = record {
        back = λ a. a;
        after = k.itself s;
        some = (record { notes = q.notes; left = Ok (record { uses = q.uses; items = q.aside }) }, record { notes = l.notes; left = (l.uses, l.aside) });
        same = λ t n a. (record { notes = l.notes; left = (l.uses, l.aside) }, n);
      }
      next_form (y ∷ ys) p q s h l = form_runs (here_at ops.plain y.tree y.here) y y.tree (record p { todo = ys }) (record q { todo = ys }) s h (with_todo e s ys p q l)

    -- all forms, within the same turns
    pub run_runs : (turns : ℕ) → RunsAlike (run ops turns e) (run there turns f)
    run_runs zero p q s h l = record {
      back = λ a. a;
      after = k.itself s;
      some = (record { notes = q.notes; left = Err (record { fault = OutOfTurns; here = None }) }, record { notes = l.notes; left = refl });
      same = λ t n a. (record { notes = l.notes; left = refl }, n);
    }
    run_runs (suc turns) p q s h l =
        comes_read ops others fits k s (run there (suc turns) f q) (run_next there (run there turns f) f p.todo q)
        (λ t n. ap (λ xs. run_next there (run there turns f) f xs q t) l.todo) (next_form (run ops turns e) (run there turns f) (run_runs turns) p.todo p q s h l)
