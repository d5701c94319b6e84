-- The forms of a body or a unit, gone through on the third side of counted expansion and on each other side alike.
use Rattle.std.proofs.Common.{arith, ◌≡◌, List, [], ◌∷◌, map, Bool, true, false, cond, Option, Some, None, Result, Ok, Err, refl, sym, ap, ◌∙◌, subst}
use Rattle.scheme_model.specs.Identifiers.{Number}
use Rattle.scheme_model.specs.Ident.{Ident, same_ident}
use Rattle.scheme_model.specs.Trees.{Tree, name, atom, list, vector, Trees, no_trees, tree, map_tree, map_trees, map_tail}
use Rattle.scheme_model.specs.Measures.{tree_size}
use Rattle.scheme_model.specs.ExpansionFaults.{Named, named_map, BadForm}
use Rattle.scheme_model.specs.Meaning.{Meaning, Head, is_keyword}
use Rattle.scheme_model.specs.Shapes.{Formals, Clause, DefinitionShape, Variable, Procedure, FieldShape, RecordShape}
use Rattle.scheme_model.specs.RulesShape.{Rules, rules_map, rules_of, option_map}
use Rattle.scheme_model.specs.Cores.{Binder}
use Rattle.scheme_model.specs.Steps.{Broken, Step, ◌>>=◌, done, fails}
use Rattle.scheme_model.specs.Order.{Here, Form, Item, Expression, Value, Function, Assigned, AssignedFunction, ValuesOf, Record, Macro, Note, LookedUp, WaitingUse, Left, Pending, Renamed, Pass, Going, head_of, here_at, forms_at, counting, given, told, binder_at, put, waiting, noted, first, define_all, define_names, fields_bound, record_names, record_part, caught, run_variable, run_function, run_define, run_values, run_record, is_rules, RulesParts, rules_parts_of, rules_parts, rules_note, rules_at, or_none}
use Rattle.scheme_model.specs.Substitution.{form_map, clause_map, item_map, use_map, note_map, pending_map}
use Rattle.scheme_model.specs.ScopedExpansion.{FramedIdent, ScopedState, body_around, bound_next, assigned}
use Rattle.scheme_model.specs.Renaming.{formals_map, definition_map, field_map, record_map}
use Rattle.scheme_model.proofs.RenamingLaws.{map-append, map_turned, size-map}
use Rattle.scheme_model.proofs.ScopeLaws.{map_itself}
use Rattle.scheme_model.proofs.RulesLaws.{rules_of-map}
use Rattle.model_laws.proofs.FrameAsks.{AllOf}
use Rattle.model_laws.proofs.FrameHeld.{all_append, left_map}
use Rattle.model_laws.proofs.FrameReaders.{parts_map}
use Rattle.model_laws.proofs.FrameDefinitions.{record_names-map, record_part-map}
use Rattle.model_laws.proofs.CountedOps.{Setting, ToldBound, seen, Side, B, D, T, M, ident, at, names_over, identifiers, told_names, define_cases, renamed_seen, defined_seen, over, side, Goes, goes, goes_at, goes_read}
use Rattle.model_laws.proofs.CountedUses.{head_goes, counted_goes}

-- a macro that was set aside is told
abbrev pub ToldItem : {A : Type 0} → (Meaning → Bool) → Item A → Type 0
ToldItem t (Expression x) = Unit {0}
ToldItem t (Value b x) = Unit {0}
ToldItem t (Function b here c) = Unit {0}
ToldItem t (Assigned n x) = Unit {0}
ToldItem t (AssignedFunction n here c) = Unit {0}
ToldItem t (ValuesOf bs x) = Unit {0}
ToldItem t (Record r) = Unit {0}
ToldItem t (Macro b here) = ToldBound t b.bound

abbrev pub OkAll : {V X : Type 0} → (V → Type 0) → Result V X → Type 0
OkAll G (Ok v) = G v
OkAll G (Err e) = Unit {0}

-- ---- renamed

pub parts_of_seen : {A C : Type 0} (f : A → C) (t : Tree A) → rules_parts_of (map_tree f t) ≡ option_map (parts_map f) (rules_parts_of t)
parts_of_seen f (name i o) = refl
parts_of_seen f (atom a o) = refl
parts_of_seen f (vector ts o) = refl
parts_of_seen f (list no_trees tail o) = refl
parts_of_seen f (list (tree (name i p) ts) tail o) = refl
parts_of_seen f (list (tree (atom a p) ts) tail o) = refl
parts_of_seen f (list (tree (list us end p) ts) tail o) = refl
parts_of_seen f (list (tree (vector us p) ts) tail o) = refl

pub forms_at_seen : {A C : Type 0} (f : A → C) (here : Here) (ts : Trees A) → forms_at here (map_trees f ts) ≡ map (form_map f) (forms_at here ts)
forms_at_seen f here no_trees = refl
forms_at_seen f here (tree t ts) = ap (λ xs. record { here = here; tree = map_tree f t } ∷ xs) (forms_at_seen f here ts)

pub here_seen : {A : Type 0} (f : A → Ident) (t : Tree A) (here : Here) → here_at (λ i. i) (map_tree f t) here ≡ here_at f t here
here_seen f (name i o) here = refl
here_seen f (atom a o) here = refl
here_seen f (list ts tail o) here = refl
here_seen f (vector ts o) here = refl

pub or_none_seen : {A C : Type 0} (f : A → C) (o : Option (Trees A)) → or_none (option_map (map_trees f) o) ≡ map_trees f (or_none o)
or_none_seen f None = refl
or_none_seen f (Some ts) = refl

module _ (c : Setting) where
  -- ---- steps whose values hold something

  pub data Comes {V W : Type 0} (G : V → Type 0) (g : V → W) (q : Result V Broken × T c) (q' : Result W Broken × ScopedState) : Type 0 where
    comes : q' ≡ (seen g q.0, q.1.0) → OkAll G q.0 → Comes G g q q'

  pub comes_at : {V W : Type 0} {G : V → Type 0} {g : V → W} {q : Result V Broken × T c} {q' q2 : Result W Broken × ScopedState} → q2 ≡ q' → Comes G g q q' → Comes G g q q2
  comes_at d (comes e a) = comes (d ∙ e) a

  pub goes_comes : {V W : Type 0} {g : V → W} {q : Result V Broken × T c} {q' : Result W Broken × ScopedState} → Goes c g q q' → Comes (λ v. Unit {0}) g q q'
  goes_comes {q = q} (goes e) = comes e (go q.0)
    where
      go : {V : Type 0} (r : Result V Broken) → OkAll (λ v. Unit {0}) r
      go (Ok v) = tt
      go (Err x) = tt

  comes_from : {V W Y Z : Type 0} (G : V → Type 0) (H : Y → Type 0) (g : V → W) (h : Y → Z) (r : Result V Broken) (t : T c) (k : V → Step (T c) Y) (k' : W → Step ScopedState Z) → OkAll G r
      → ((v : V) (u : T c) → G v → Comes H h (k v u) (k' (g v) u.0)) → Comes H h ((r, t) >>= k) ((seen g r, t.0) >>= k')
  comes_from G H g h (Ok v) t k k' a next = next v t a
  comes_from G H g h (Err e) t k k' a next = comes refl tt

  pub comes_bind : {V W Y Z : Type 0} {G : V → Type 0} {H : Y → Type 0} {g : V → W} {h : Y → Z} {q : Result V Broken × T c} {q' : Result W Broken × ScopedState} (k : V → Step (T c) Y) (k' : W → Step ScopedState Z)
      → Comes G g q q' → ((v : V) (u : T c) → G v → Comes H h (k v u) (k' (g v) u.0)) → Comes H h (q >>= k) (q' >>= k')
  comes_bind {G = G} {H = H} {g = g} {h = h} {q = q} k k' (comes e a) next = comes_at (ap (λ z. z >>= k') e) (comes_from G H g h q.0 q.1 k k' a next)

  -- ---- passes

  abbrev pub pass_seen : Pass (B c) (M c) → Pass Ident FramedIdent
  pass_seen p = record { notes = map (note_map (at c)) p.notes; left = seen (left_map (ident c)) p.left }

  abbrev pub left_seen : Pending (B c) (M c) → Pending Ident FramedIdent
  left_seen p = pending_map (ident c) (at c) p

  abbrev pub ToldRest : Left (B c) → Type 0
  ToldRest l = AllOf (ToldItem c.told) l.items

  abbrev pub ToldLeft : Pending (B c) (M c) → Type 0
  ToldLeft p = AllOf (ToldItem c.told) p.aside

  pub data Ran (q : Pass (B c) (M c) × T c) (q' : Pass Ident FramedIdent × ScopedState) : Type 0 where
    ran : q' ≡ (pass_seen q.0, q.1.0) → OkAll ToldRest q.0.left → Ran q q'

  pub ran_at : {q : Pass (B c) (M c) × T c} {q' q2 : Pass Ident FramedIdent × ScopedState} → q2 ≡ q' → Ran q q' → Ran q q2
  ran_at d (ran e a) = ran (d ∙ e) a

  abbrev pub OverGo : Type 0
  OverGo = Going (B c) (M c) (T c)

  abbrev pub SideGo : Type 0
  SideGo = Going Ident FramedIdent ScopedState

  abbrev pub RanLaw : OverGo → SideGo → Type 0
  RanLaw f f' = (p : Pending (B c) (M c)) (s : T c) → ToldLeft p → Ran (f p s) (f' (left_seen p) s.0)

  caught_from : {V W : Type 0} (G : V → Type 0) (g : V → W) (ns : List (Note (M c))) (r : Result V Broken) (t : T c) (k : V → T c → Pass (B c) (M c) × T c) (k' : W → ScopedState → Pass Ident FramedIdent × ScopedState) → OkAll G r
      → ((v : V) (u : T c) → G v → Ran (k v u) (k' (g v) u.0)) → Ran (caught ns (r, t) k) (caught (map (note_map (at c)) ns) (seen g r, t.0) k')
  caught_from G g ns (Ok v) t k k' a next = next v t a
  caught_from G g ns (Err e) t k k' a next = ran refl tt

  pub caught_comes : {V W : Type 0} {G : V → Type 0} {g : V → W} {q : Result V Broken × T c} {q' : Result W Broken × ScopedState} (ns : List (Note (M c))) (k : V → T c → Pass (B c) (M c) × T c) (k' : W → ScopedState → Pass Ident FramedIdent × ScopedState)
      → Comes G g q q' → ((v : V) (u : T c) → G v → Ran (k v u) (k' (g v) u.0)) → Ran (caught ns q k) (caught (map (note_map (at c)) ns) q' k')
  caught_comes {G = G} {g = g} {q = q} ns k k' (comes e a) next = ran_at (ap (λ z. caught (map (note_map (at c)) ns) z k') e) (caught_from G g ns q.0 q.1 k k' a next)

  put_seen : (t : Item (B c)) (p : Pending (B c) (M c)) → put (item_map (ident c) t) (left_seen p) ≡ left_seen (put t p)
  put_seen t p = ap (λ (xs : List (Item Ident)). record (left_seen p) { aside = xs }) (sym (map-append (item_map (ident c)) p.aside (t ∷ [])))

  pub waiting_seen : (u : WaitingUse (B c)) (p : Pending (B c) (M c)) → waiting (use_map (ident c) u) (left_seen p) ≡ left_seen (waiting u p)
  waiting_seen u p = ap (λ (us : List (WaitingUse Ident)). record (left_seen p) { uses = us }) (sym (map-append (use_map (ident c)) p.uses (u ∷ [])))

  first_seen : (xs : List (Form (B c))) (p : Pending (B c) (M c)) → first (map (form_map (ident c)) xs) (left_seen p) ≡ left_seen (first xs p)
  first_seen xs p = ap (λ (ys : List (Form Ident)). record (left_seen p) { todo = ys }) (sym (map-append (form_map (ident c)) xs p.todo))

  pub noted_seen : (ns : List (Note (M c))) (p : Pending (B c) (M c)) → noted (map (note_map (at c)) ns) (left_seen p) ≡ left_seen (noted ns p)
  noted_seen ns p = ap (λ (ms : List (Note FramedIdent)). record (left_seen p) { notes = ms }) (sym (map-append (note_map (at c)) ns p.notes))

  put_told : (t : Item (B c)) (p : Pending (B c) (M c)) → ToldItem c.told t → ToldLeft p → ToldLeft (put t p)
  put_told t p a h = all_append (ToldItem c.told) p.aside (t ∷ []) h (a, tt)

  pub told_bound : (e : D c) (s : T c) → ToldBound c.told (bound_next s.0 (body_around e.0))
  told_bound e s = go (body_around e.0)
    where
      go : (b : Option Number) → ToldBound c.told (bound_next s.0 b)
      go None = tt
      go (Some b) = c.local s.0 s.1 (s.0.locals s.0.form) (omega arith)

module _ (c : Setting) (x : Side c) where
  -- ---- a definition

  -- what is left is told, and names stay
  abbrev pub ToldMade : Renamed (B c) (M c) → Type 0
  ToldMade r = ToldLeft c r.pending × (r.rename ≡ (λ i. i))

  pub define_comes : (here : Here) (n : Named (B c)) (r : Option (Rules (B c))) (e : D c) (p : Pending (B c) (M c)) (s : T c) → ToldLeft c p
      → Comes c ToldMade (renamed_seen c) (told here ((over c).define n r e p s)) (told here ((side c x).define (named_map (ident c) n) (option_map (rules_map (ident c)) r) e.0 (left_seen c p) s.0))
  define_comes here n r e p s h = comes_at c (ap (told here) (x.same_define n r e p s)) (go _ _)
    where
      go : (y d : Bool) → Comes c ToldMade (renamed_seen c) (told here (define_cases c n r e p s y d)) (told here (defined_seen c (define_cases c n r e p s y d)))
      go true d = comes refl tt
      go false true = comes refl tt
      go false false = comes refl (h, refl)

  module _ (f : OverGo c) (f' : SideGo c) (law : RanLaw c f f') (here : Here) (e : D c) where
    pub put_goes : (t : Item (B c)) (p : Pending (B c) (M c)) (s : T c) → ToldItem c.told t → ToldLeft c p → Ran c (f (put t p) s) (f' (put (item_map (ident c) t) (left_seen c p)) s.0)
    put_goes t p s a h = ran_at c (ap (λ z. f' z s.0) (put_seen c t p)) (law (put t p) s (put_told c t p a h))

    pub first_goes : (xs : List (Form (B c))) (p : Pending (B c) (M c)) (s : T c) → ToldLeft c p → Ran c (f (first xs p) s) (f' (first (map (form_map (ident c)) xs) (left_seen c p)) s.0)
    first_goes xs p s h = ran_at c (ap (λ z. f' z s.0) (first_seen c xs p)) (law (first xs p) s h)

    one_goes : (n : Named (B c)) (t : Item (B c)) (p : Pending (B c) (M c)) (s : T c) → ToldItem c.told t → ToldLeft c p
        → Ran c (caught p.notes (told here ((over c).define n None e (put t p) s)) (λ d. f d.pending)) (caught (map (note_map (at c)) p.notes) (told here ((side c x).define (named_map (ident c) n) None e.0 (put (item_map (ident c) t) (left_seen c p)) s.0)) (λ d. f' d.pending))
    one_goes n t p s a h =
        caught_comes c p.notes (λ d. f d.pending) (λ d. f' d.pending) (comes_at c (ap (λ z. told here ((side c x).define (named_map (ident c) n) None e.0 z s.0)) (put_seen c t p)) (define_comes here n None e (put t p) s (put_told c t p a h))) (λ r u b. law r.pending u b.0)

    variable_goes : (n : Named (B c)) (t : Tree (B c)) (b : Bool) (p : Pending (B c) (M c)) (s : T c) → ToldLeft c p → Ran c (run_variable (over c) f here e n t b p s) (run_variable (side c x) f' here e.0 (named_map (ident c) n) (map_tree (ident c) t) b (left_seen c p) s.0)
    variable_goes n t true p s h = put_goes (Assigned n (record { here = here; tree = t })) p s tt h
    variable_goes n t false p s h = one_goes n (Value (binder_at (over c) e s n) (record { here = here; tree = t })) p s tt h

    function_goes : (n : Named (B c)) (k : Clause (B c)) (b : Bool) (p : Pending (B c) (M c)) (s : T c) → ToldLeft c p → Ran c (run_function (over c) f here e n k b p s) (run_function (side c x) f' here e.0 (named_map (ident c) n) (clause_map (ident c) k) b (left_seen c p) s.0)
    function_goes n k true p s h = put_goes (AssignedFunction n here k) p s tt h
    function_goes n k false p s h = one_goes n (Function (binder_at (over c) e s n) here k) p s tt h

    pub define_goes : (p : Pending (B c) (M c)) → ToldLeft c p → (d : DefinitionShape (B c)) (s : T c) → Ran c (run_define (over c) f here e p d s) (run_define (side c x) f' here e.0 (left_seen c p) (definition_map (ident c) d) s.0)
    define_goes p h (Variable n t) s = variable_goes n t (assigned s.0 (body_around e.0) n.name.0) p s h
    define_goes p h (Procedure n k) s = function_goes n k (assigned s.0 (body_around e.0) n.name.0) p s h

    -- ---- several names

    abbrev several_seen : List Binder × Renamed (B c) (M c) → List Binder × Renamed Ident FramedIdent
    several_seen q = (q.0, renamed_seen c q.1)

    abbrev Several : Result (List Binder × Renamed (B c) (M c)) Broken × T c → Result (List Binder × Renamed Ident FramedIdent) Broken × ScopedState → Type 0
    Several q q' = Comes c (λ (v : List Binder × Renamed (B c) (M c)). ToldMade v.1) several_seen q q'

    all_goes : (ns : List (Named (B c))) (p : Pending (B c) (M c)) (s : T c) → ToldLeft c p → Several (define_all (over c) here e (λ i. i) ns p s) (define_all (side c x) here e.0 (λ i. i) (map (named_map (ident c)) ns) (left_seen c p) s.0)
    all_goes [] p s h = comes refl (h, refl)
    all_goes (n ∷ ns) p s h =
        comes_bind c _ _ (define_comes here n None e p s h) (λ r u a.
        subst (λ (g : B c → B c). Several (define_all (over c) here e g ns r.pending u >>= λ more. done (binder_at (over c) e s n ∷ more.0, more.1)) (define_all (side c x) here e.0 (λ i. i) (map (named_map (ident c)) ns) (left_seen c r.pending) u.0 >>= λ more. done (binder_at (side c x) e.0 s.0 (named_map (ident c) n) ∷ more.0, more.1)))
        (sym a.1) (comes_bind c _ _ (all_goes ns r.pending u a.0) (λ more v b. comes refl b)))

    names_goes : (ns : List (Named (B c))) (p : Pending (B c) (M c)) (s : T c) → ToldLeft c p → Several (define_names (over c) here e ns p s) (define_names (side c x) here e.0 (map (named_map (ident c)) ns) (left_seen c p) s.0)
    names_goes ns p s h = all_goes ns p s h

    value_same : (g : B c → B c) → g ≡ (λ i. i) → (t : Tree (B c)) → map_tree (λ i. i) (map_tree (ident c) t) ≡ map_tree (ident c) (map_tree g t)
    value_same g d t = map_itself (map_tree (ident c) t) ∙ sym (ap (λ (h : B c → B c). map_tree (ident c) (map_tree h t)) d ∙ ap (map_tree (ident c)) (map_itself t))

    pub values_goes : (p : Pending (B c) (M c)) → ToldLeft c p → (d : Formals (B c) × Tree (B c)) (s : T c) → Ran c (run_values (over c) f here e p d s) (run_values (side c x) f' here e.0 (left_seen c p) (formals_map (ident c) d.0, map_tree (ident c) d.1) s.0)
    values_goes p h d s =
        caught_comes c p.notes (λ r. f (put (ValuesOf (record { names = r.0; rest = d.0.rest }) (record { here = here; tree = map_tree r.1.rename d.1 })) r.1.pending))
        (λ r. f' (put (ValuesOf (record { names = r.0; rest = d.0.rest }) (record { here = here; tree = map_tree r.1.rename (map_tree (ident c) d.1) })) r.1.pending)) (names_goes d.0.names p s h) (λ r u a.
        ran_at c (ap (λ t. f' (put (ValuesOf (record { names = r.0; rest = d.0.rest }) (record { here = here; tree = t })) (left_seen c r.1.pending)) u.0) (value_same r.1.rename a.1 d.1))
        (put_goes (ValuesOf (record { names = r.0; rest = d.0.rest }) (record { here = here; tree = map_tree r.1.rename d.1 })) r.1.pending u tt a.0))

    -- ---- records

    fields_comes : (ns : List (Named (B c))) (s : T c) → Comes c {V = List Binder} {W = List Binder} (λ v. Unit {0}) (λ bs. bs) (fields_bound (over c) ns s) (fields_bound (side c x) (map (named_map (ident c)) ns) s.0)
    fields_comes [] s = comes refl tt
    fields_comes (n ∷ ns) s = comes_bind c _ _ (fields_comes ns ((over c).take_local s)) (λ bs u a. comes refl tt)

    pub record_goes : (p : Pending (B c) (M c)) → ToldLeft c p → (r : RecordShape (B c)) (s : T c) → Ran c (run_record (over c) f here e p r s) (run_record (side c x) f' here e.0 (left_seen c p) (record_map (ident c) r) s.0)
    record_goes p h r s =
        let fields = map_turned (λ (y : FieldShape Ident). y.field) (field_map (ident c)) (named_map (ident c)) (λ (y : FieldShape (B c)). y.field) (λ y. refl) r.fields in
        let ns = record_names-map (B c) Ident (ident c) r in
        caught_comes c {G = λ (q : List Binder × (List Binder × Renamed (B c) (M c))). ToldMade q.1.1} {g = λ (q : List Binder × (List Binder × Renamed (B c) (M c))). (q.0, (q.1.0, renamed_seen c q.1.1))} p.notes
        (λ q. f (put (Record (record_part (names_over c).same r q.1.0 q.0)) q.1.1.pending)) (λ q. f' (put (Record (record_part same_ident (record_map (ident c) r) q.1.0 q.0)) q.1.1.pending))
        (comes_at c (λ j. fields_bound (side c x) (fields j) s.0 >>= λ bs t. define_names (side c x) here e.0 (ns j) (left_seen c p) t >>= λ q. done (bs, q))
        (comes_bind c _ _ (fields_comes (map (λ y. y.field) r.fields) s) (λ bs u a. comes_bind c _ _ (names_goes (record_names r) p u h) (λ q v b. comes refl b))))
        (λ q u a. ran_at c (ap (λ z. f' (put (Record z) (left_seen c q.1.1.pending)) u.0) (record_part-map (B c) Ident (ident c) (names_over c).same same_ident (λ i j. refl) r q.1.0 q.0))
        (put_goes (Record (record_part (names_over c).same r q.1.0 q.0)) q.1.1.pending u tt a.0))

    -- ---- rules

    pub note_goes : (s : T c) (o : Option (RulesParts (B c))) → rules_note (side c x) e.0 s.0 (option_map (parts_map (ident c)) o) ≡ map (note_map (at c)) (rules_note (over c) e s o)
    note_goes s None = refl
    note_goes s (Some r) = ap (λ h. LookedUp (record { frames = e.0; ident = r.head.0 }) false (is_keyword h) ∷ []) (head_goes c x e s r.head)

  module _ (here : Here) (e : D c) where
    some_parts : (s : T c) (o : Option (RulesParts (B c))) → Goes c (parts_map (ident c)) (rules_parts (over c) here e o s) (rules_parts (side c x) here e.0 (option_map (parts_map (ident c)) o) s.0)
    some_parts s None = goes refl
    some_parts s (Some r) = goes_at c (ap (λ (h : Head). cond (is_rules h) (done (parts_map (ident c) r) s.0) (fails here BadForm s.0)) (head_goes c x e s r.head)) (go (is_rules (head_of (over c) e s r.head)))
      where
        go : (t : Bool) → Goes c (parts_map (ident c)) (cond t (done r s) (fails here BadForm s)) (cond t (done (parts_map (ident c) r) s.0) (fails here BadForm s.0))
        go true = goes refl
        go false = goes refl

    pub rules_parts_goes : (t : Tree (B c)) (s : T c) → Goes c (parts_map (ident c)) (rules_parts (over c) here e (rules_parts_of t) s) (rules_parts (side c x) here e.0 (rules_parts_of (map_tree (ident c) t)) s.0)
    rules_parts_goes t s = goes_at c (ap (λ o. rules_parts (side c x) here e.0 o s.0) (parts_of_seen (ident c) t)) (some_parts s (rules_parts_of t))

    pub rules_at_goes : (t : Tree (B c)) (r : RulesParts (B c)) (s : T c) → Goes c (rules_map (ident c)) (rules_at (over c) here t r s) (rules_at (side c x) here (map_tree (ident c) t) (parts_map (ident c) r) s.0)
    rules_at_goes t r s =
        goes_at c (ap (λ z. counting (side c x) here z s.0 >>= λ u. given (λ i. i) here (rules_of (identifiers c) (map_trees (ident c) r.parts) (map_tail (ident c) r.tail))) (size-map (B c) Ident (ident c) t))
        (counted_goes c x here (tree_size t) s (given (ident c) here (rules_of (names_over c) r.parts r.tail)) (given (λ i. i) here (rules_of (identifiers c) (map_trees (ident c) r.parts) (map_tail (ident c) r.tail)))
        (λ u. goes_read c here u (rules_of-map (B c) Ident (ident c) (names_over c) (identifiers c) (told_names c) r.parts r.tail)))
