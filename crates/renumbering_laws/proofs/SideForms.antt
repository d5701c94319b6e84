-- The forms of a body or a unit, gone through on both sides.
use Rattle.std.proofs.Common.{◌≡◌, ℕ, suc, List, [], ◌∷◌, map, Bool, true, false, cond, Option, Some, None, Result, Ok, Err, refl, sym, ap, ◌∙◌, subst}
use Rattle.scheme_model.specs.Ident.{Ident}
use Rattle.scheme_model.specs.Trees.{Tree, name, atom, list, vector, Trees, no_trees, tree, map_tree}
use Rattle.scheme_model.specs.Measures.{tree_size}
use Rattle.scheme_model.specs.ExpansionFaults.{Named, named_map, Fault, BadForm}
use Rattle.scheme_model.specs.Meaning.{Head, IsCore, IsAuxiliary, IsMacro, IsNone, is_keyword}
use Rattle.scheme_model.specs.Keywords.{IsSyntaxRules, IsUnquote, IsUnquoteSplicing, IsOther}
use Rattle.scheme_model.specs.Shapes.{Formals, Clause, DefinitionShape, Variable, Procedure, FieldShape, RecordShape}
use Rattle.scheme_model.specs.RulesShape.{Rules, rules_of, option_map}
use Rattle.scheme_model.specs.Cores.{LocalNumber, Binder}
use Rattle.scheme_model.specs.Steps.{Broken, ◌>>=◌, done, fails}
use Rattle.scheme_model.specs.Order.{Here, Form, Item, Value, Function, Assigned, AssignedFunction, ValuesOf, Record, Note, LookedUp, WaitingUse, Pending, Renamed, Pass, Assigns, Headed, Going, is_some, head_of, forms_at, counting, given, told, binder_at, put, waiting, noted, first, define_all, define_names, fields_bound, position, modifiers, modified, record_names, record_part, caught, run_variable, run_function, run_define, run_values, run_record, is_rules, RulesParts, rules_parts_of, rules_parts, rules_note, rules_at, or_none}
use Rattle.scheme_model.specs.Substitution.{note_map}
use Rattle.scheme_model.proofs.RenamingLaws.{append_map, map-append, map_turned}
use Rattle.renumbering_laws.specs.Moving.{Change, move_tree, move_trees, move_tail, move_named, move_rules, move_clause}
use Rattle.renumbering_laws.specs.Renumbering.{Renumbering, place, with_places, binder, field_use, record_type, result_as, form_as, item_as, use_as, pending_as, pass_as}
use Rattle.renumbering_laws.proofs.MovedParts.{move_formals, move_definition, move_field, move_record}
use Rattle.renumbering_laws.proofs.Sides.{RenamedMoves, DefinedMoves, headed, assigns, Sides}
use Rattle.renumbering_laws.proofs.MovingSteps.{size-map}
use Rattle.renumbering_laws.proofs.Turned.{tree_turned}
use Rattle.renumbering_laws.proofs.MovedRules.{rules_of-map}
use Rattle.renumbering_laws.proofs.SideSteps.{moved, told as names_told, Goes, goes, goes_at, goes_bind, Values, Meets, meets_at, meets_bind, Told, meets_of, goes_read, counted_goes}
use Rattle.renumbering_laws.proofs.SideUses.{head_moved, keyword_seen, head_goes}

-- ---- renamed

abbrev pub move_parts : {A B : Type 0} → Change A B → RulesParts A → RulesParts B
move_parts f r = record { head = f.on r.head; parts = move_trees f r.parts; tail = move_tail f r.tail }

pub rules_seen : (r : Renumbering) (x : Head) → is_rules (head_moved r x) ≡ is_rules x
rules_seen r (IsCore k) = refl
rules_seen r (IsAuxiliary IsSyntaxRules) = refl
rules_seen r (IsAuxiliary IsUnquote) = refl
rules_seen r (IsAuxiliary IsUnquoteSplicing) = refl
rules_seen r (IsAuxiliary IsOther) = refl
rules_seen r (IsMacro m) = refl
rules_seen r IsNone = refl

module _ (r : Renumbering) (A B : Type 0) (on : A → B) where
  abbrev f : Change A B
  f = with_places r on

  pub parts_of_seen : (t : Tree A) → rules_parts_of (move_tree f t) ≡ option_map (move_parts f) (rules_parts_of t)
  parts_of_seen (name i o) = refl
  parts_of_seen (atom a o) = refl
  parts_of_seen (vector ts o) = refl
  parts_of_seen (list no_trees tail o) = refl
  parts_of_seen (list (tree (name i p) ts) tail o) = refl
  parts_of_seen (list (tree (atom a p) ts) tail o) = refl
  parts_of_seen (list (tree (list us end p) ts) tail o) = refl
  parts_of_seen (list (tree (vector us p) ts) tail o) = refl

  pub forms_at_seen : (here : Here) (ts : Trees A) → forms_at (place r here) (move_trees f ts) ≡ map (form_as r on) (forms_at here ts)
  forms_at_seen here no_trees = refl
  forms_at_seen here (tree t ts) = ap (λ xs. record { here = place r here; tree = move_tree f t } ∷ xs) (forms_at_seen here ts)

  pub or_none_seen : (o : Option (Trees A)) → or_none (option_map (move_trees f) o) ≡ move_trees f (or_none o)
  or_none_seen None = refl
  or_none_seen (Some ts) = refl

  modifiers-map : (xs : List (FieldShape A)) → modifiers (map (move_field f) xs) ≡ map (move_named f) (modifiers xs)
  modifiers-map [] = refl
  modifiers-map (x ∷ xs) = go x.modifier (modifiers-map xs)
    where
      go : (o : Option (Named A)) → modifiers (map (move_field f) xs) ≡ map (move_named f) (modifiers xs)
          → modifiers (map (move_field f) (record { field = x.field; accessor = x.accessor; modifier = o } ∷ xs)) ≡ map (move_named f) (modifiers (record { field = x.field; accessor = x.accessor; modifier = o } ∷ xs))
      go None e = e
      go (Some m) e = ap (λ ns. move_named f m ∷ ns) e

  record_names-map : (x : RecordShape A) → record_names (move_record f x) ≡ map (move_named f) (record_names x)
  record_names-map x =
      ap (λ ns. move_named f x.type ∷ move_named f x.constructor ∷ move_named f x.predicate ∷ ns)
      (append_map (move_named f) (map (λ (y : FieldShape A). y.accessor) x.fields) (modifiers x.fields)
      (map_turned (λ (y : FieldShape B). y.accessor) (move_field f) (move_named f) (λ (y : FieldShape A). y.accessor) (λ y. refl) x.fields) (modifiers-map x.fields))

  some_same : (o : Option (Named A)) → is_some (option_map (move_named f) o) ≡ is_some o
  some_same None = refl
  some_same (Some x) = refl

  modified-map : (n : ℕ) (xs : List (FieldShape A)) → modified n (map (move_field f) xs) ≡ modified n xs
  modified-map n [] = refl
  modified-map n (x ∷ xs) = let e = some_same x.modifier in let rest = modified-map (suc n) xs in λ j. cond (e j) (n ∷ rest j) (rest j)

  module _ (same : A → A → Bool) (same' : B → B → Bool) (told_apart : (i j : A) → same' (on i) (on j) ≡ same i j) where
    position-map : (i : A) (xs : List (FieldShape A)) → position same' (on i) (map (move_field f) xs) ≡ position same i xs
    position-map i [] = refl
    position-map i (x ∷ xs) = let a = told_apart x.field.name i in let b = position-map i xs in λ j. cond (a j) 0 (suc (b j))

    record_part-map : (x : RecordShape A) (bs cs : List Binder) → record_part same' (move_record f x) (map (binder r) bs) (map (binder r) cs) ≡ record_type r (record_part same x bs cs)
    record_part-map x bs cs =
        let m = modified-map 0 x.fields in
        let u = map_turned (λ (n : Named B). record { field = position same' n.name (map (move_field f) x.fields); occ = n.occ }) (move_named f) (field_use r) (λ (n : Named A). record { field = position same n.name x.fields; occ = n.occ })
        (λ n. ap (λ (p : ℕ). record { field = p; occ = place r n.occ }) (position-map n.name x.fields)) x.used in
        λ j. record { binders = map (binder r) bs; fields = map (binder r) cs; modified = m j; used = u j }

module _ (h : Sides) where
  abbrev r : Renumbering
  r = h.r

  abbrev mv : Change h.A h.A'
  mv = moved h

  abbrev pub pending_two : Pending h.A h.L → Pending h.A' h.L'
  pending_two p = pending_as h.r h.on h.look p

  abbrev notes_as : List (Note h.L) → List (Note h.L')
  notes_as ns = map (note_map h.look) ns

  pub data Ran (q : Pass h.A h.L × h.S) (q' : Pass h.A' h.L' × h.S') : Type 0 where
    ran : q'.0 ≡ pass_as h.r h.on h.look q.0 → h.state q.1 q'.1 → Ran q q'

  pub ran_at : {q : Pass h.A h.L × h.S} {q' q2 : Pass h.A' h.L' × h.S'} → q2 ≡ q' → Ran q q' → Ran q q2
  ran_at {q} d x = subst (λ z. Ran q z) (sym d) x

  abbrev pub OneGo : Type 0
  OneGo = Going h.A h.L h.S

  abbrev pub TwoGo : Type 0
  TwoGo = Going h.A' h.L' h.S'

  abbrev pub RanLaw : OneGo → TwoGo → Type 0
  RanLaw f f' = (p : Pending h.A h.L) (s : h.S) (s' : h.S') → h.state s s' → Ran (f p s) (f' (pending_two p) s')

  caught_from : {V W : Type 0} (g : V → W) (ns : List (Note h.L)) (x : Result V Broken) (t : h.S) (t' : h.S') (k : V → h.S → Pass h.A h.L × h.S) (k' : W → h.S' → Pass h.A' h.L' × h.S') → h.state t t'
      → ((v : V) (u : h.S) (u' : h.S') → h.state u u' → Ran (k v u) (k' (g v) u')) → Ran (caught ns (x, t) k) (caught (notes_as ns) (result_as h.r g x, t') k')
  caught_from g ns (Ok v) t t' k k' l next = next v t t' l
  caught_from g ns (Err e) t t' k k' l next = ran refl l

  pub caught_goes : {V W : Type 0} {g : V → W} {q : Result V Broken × h.S} {q' : Result W Broken × h.S'} (ns : List (Note h.L)) (k : V → h.S → Pass h.A h.L × h.S) (k' : W → h.S' → Pass h.A' h.L' × h.S')
      → Goes h g q q' → ((v : V) (u : h.S) (u' : h.S') → h.state u u' → Ran (k v u) (k' (g v) u')) → Ran (caught ns q k) (caught (notes_as ns) q' k')
  caught_goes {g = g} {q = q} {q' = q'} ns k k' (goes e l) next = ran_at (ap (λ z. caught (notes_as ns) (z, q'.1) k') e) (caught_from g ns q.0 q.1 q'.1 k k' l next)

  caught_by : {V W : Type 0} (G : V → W → Type 0) (ns : List (Note h.L)) (x : Result V Broken) (x' : Result W Broken) (t : h.S) (t' : h.S') (k : V → h.S → Pass h.A h.L × h.S) (k' : W → h.S' → Pass h.A' h.L' × h.S') → Values h G x x' → h.state t t'
      → ((v : V) (w : W) → G v w → (u : h.S) (u' : h.S') → h.state u u' → Ran (k v u) (k' w u')) → Ran (caught ns (x, t) k) (caught (notes_as ns) (x', t') k')
  caught_by G ns (Ok v) (Ok w) t t' k k' g l next = next v w g t t' l
  caught_by G ns (Ok v) (Err y) t t' k k' g l next = absurd g
  caught_by G ns (Err x) (Ok w) t t' k k' g l next = absurd g
  caught_by G ns (Err x) (Err y) t t' k k' g l next = ran (ap (λ z. record { notes = notes_as ns; left = Err z }) g) l

  pub caught_meets : {V W : Type 0} (G : V → W → Type 0) (q : Result V Broken × h.S) (q' : Result W Broken × h.S') (ns : List (Note h.L)) (k : V → h.S → Pass h.A h.L × h.S) (k' : W → h.S' → Pass h.A' h.L' × h.S')
      → Meets h G q q' → ((v : V) (w : W) → G v w → (u : h.S) (u' : h.S') → h.state u u' → Ran (k v u) (k' w u')) → Ran (caught ns q k) (caught (notes_as ns) q' k')
  caught_meets G q q' ns k k' m next = caught_by G ns q.0 q'.0 q.1 q'.1 k k' m.0 m.1 next

  put_seen : (t : Item h.A) (p : Pending h.A h.L) → put (item_as h.r h.on t) (pending_two p) ≡ pending_two (put t p)
  put_seen t p = ap (λ (xs : List (Item h.A')). record { todo = map (form_as h.r h.on) p.todo; aside = xs; uses = map (use_as h.r h.on) p.uses; notes = notes_as p.notes }) (sym (map-append (item_as h.r h.on) p.aside (t ∷ [])))

  waiting_seen : (u : WaitingUse h.A) (p : Pending h.A h.L) → waiting (use_as h.r h.on u) (pending_two p) ≡ pending_two (waiting u p)
  waiting_seen u p = ap (λ (us : List (WaitingUse h.A')). record { todo = map (form_as h.r h.on) p.todo; aside = map (item_as h.r h.on) p.aside; uses = us; notes = notes_as p.notes }) (sym (map-append (use_as h.r h.on) p.uses (u ∷ [])))

  first_seen : (xs : List (Form h.A)) (p : Pending h.A h.L) → first (map (form_as h.r h.on) xs) (pending_two p) ≡ pending_two (first xs p)
  first_seen xs p = ap (λ (ys : List (Form h.A')). record { todo = ys; aside = map (item_as h.r h.on) p.aside; uses = map (use_as h.r h.on) p.uses; notes = notes_as p.notes }) (sym (map-append (form_as h.r h.on) xs p.todo))

  pub noted_seen : (ns : List (Note h.L)) (p : Pending h.A h.L) → noted (notes_as ns) (pending_two p) ≡ pending_two (noted ns p)
  noted_seen ns p = ap (λ (ms : List (Note h.L')). record { todo = map (form_as h.r h.on) p.todo; aside = map (item_as h.r h.on) p.aside; uses = map (use_as h.r h.on) p.uses; notes = ms }) (sym (map-append (note_map h.look) ns p.notes))

  pub binder_seen : (e : h.E) (e' : h.E') → h.around e e' → (s : h.S) (s' : h.S') → h.state s s' → (n : Named h.A) → binder_at h.two e' s' (move_named mv n) ≡ binder r (binder_at h.one e s n)
  binder_seen e e' k s s' l n = let a = h.next_bound e e' k s s' l in let b = h.plain n.name in λ j. record { bound = a j; ident = b j; occ = place r n.occ }

  -- ---- a definition

  abbrev pub Renames : Renamed h.A h.L → Renamed h.A' h.L' → Type 0
  Renames p q = RenamedMoves h.r h.on h.look p q

  told_meets : (here : Here) (x : Result (Renamed h.A h.L) (Fault Ident)) (y : Result (Renamed h.A' h.L') (Fault Ident)) (t : h.S) (t' : h.S') → DefinedMoves h.r h.on h.look x y → h.state t t' → Meets h Renames (told here (x, t)) (told (place r here) (y, t'))
  told_meets here (Ok p) (Ok q) t t' g l = (g, l)
  told_meets here (Ok p) (Err d) t t' g l = absurd g
  told_meets here (Err e) (Ok q) t t' g l = absurd g
  told_meets here (Err e) (Err d) t t' g l = (ap (λ z. record { fault = z; here = place r here }) g, l)

  pub define_step : (here : Here) (n : Named h.A) (x : Option (Rules h.A)) (e : h.E) (e' : h.E') → h.around e e' → (p : Pending h.A h.L) (s : h.S) (s' : h.S') → h.state s s'
      → Meets h Renames (told here (h.one.define n x e p s)) (told (place r here) (h.two.define (move_named mv n) (option_map (move_rules mv) x) e' (pending_two p) s'))
  define_step here n x e e' k p s s' l =
      let m = h.define n x e e' k p s s' l in let q = h.one.define n x e p s in let q' = h.two.define (move_named mv n) (option_map (move_rules mv) x) e' (pending_two p) s' in
      told_meets here q.0 q'.0 q.1 q'.1 m.0 m.1

  module _ (f : OneGo) (f' : TwoGo) (law : RanLaw f f') (here : Here) (e : h.E) (e' : h.E') (k : h.around e e') where
    pub put_goes : (t : Item h.A) (p : Pending h.A h.L) (s : h.S) (s' : h.S') → h.state s s' → Ran (f (put t p) s) (f' (put (item_as r h.on t) (pending_two p)) s')
    put_goes t p s s' l = ran_at (ap (λ z. f' z s') (put_seen t p)) (law (put t p) s s' l)

    pub first_goes : (xs : List (Form h.A)) (p : Pending h.A h.L) (s : h.S) (s' : h.S') → h.state s s' → Ran (f (first xs p) s) (f' (first (map (form_as r h.on) xs) (pending_two p)) s')
    first_goes xs p s s' l = ran_at (ap (λ z. f' z s') (first_seen xs p)) (law (first xs p) s s' l)

    -- with what is pending once the definition is made
    made_goes : (p : Renamed h.A h.L) (q : Renamed h.A' h.L') → Renames p q → (u : h.S) (u' : h.S') → h.state u u' → Ran (f p.pending u) (f' q.pending u')
    made_goes p q m u u' l = ran_at (ap (λ z. f' z u') m.pending) (law p.pending u u' l)

    one_goes : (n : Named h.A) (t : Item h.A) (t' : Item h.A') → t' ≡ item_as r h.on t → (p : Pending h.A h.L) (s : h.S) (s' : h.S') → h.state s s'
        → Ran (caught p.notes (told here (h.one.define n None e (put t p) s)) (λ d. f d.pending)) (caught (notes_as p.notes) (told (place r here) (h.two.define (move_named mv n) None e' (put t' (pending_two p)) s')) (λ d. f' d.pending))
    one_goes n t t' d p s s' l =
        ran_at (ap (λ z. caught (notes_as p.notes) (told (place r here) (h.two.define (move_named mv n) None e' z s')) (λ d. f' d.pending)) (ap (λ z. put z (pending_two p)) d ∙ put_seen t p))
        (caught_meets Renames _ _ p.notes (λ d. f d.pending) (λ d. f' d.pending) (define_step here n None e e' k (put t p) s s' l) made_goes)

    -- the form of a macro use is gone through in its place, and the use waits
    pub use_put_goes : (y : Tree h.A) (u : WaitingUse h.A) (p : Pending h.A h.L) (s : h.S) (s' : h.S') → h.state s s'
        → Ran (f (first (record { here = here; tree = y } ∷ []) (waiting u p)) s) (f' (first (record { here = place r here; tree = move_tree mv y } ∷ []) (waiting (use_as r h.on u) (pending_two p))) s')
    use_put_goes y u p s s' l = ran_at (ap (λ z. f' (first (record { here = place r here; tree = move_tree mv y } ∷ []) z) s') (waiting_seen u p)) (first_goes (record { here = here; tree = y } ∷ []) (waiting u p) s s' l)

    variable_goes : (n : Named h.A) (t : Tree h.A) (b : Bool) (p : Pending h.A h.L) (s : h.S) (s' : h.S') → h.state s s' → Ran (run_variable h.one f here e n t b p s) (run_variable h.two f' (place r here) e' (move_named mv n) (move_tree mv t) b (pending_two p) s')
    variable_goes n t true p s s' l = put_goes (Assigned n (record { here = here; tree = t })) p s s' l
    variable_goes n t false p s s' l =
        one_goes n (Value (binder_at h.one e s n) (record { here = here; tree = t })) _ (ap (λ b. Value b (record { here = place r here; tree = move_tree mv t })) (binder_seen e e' k s s' l n)) p s s' l

    function_goes : (n : Named h.A) (c : Clause h.A) (b : Bool) (p : Pending h.A h.L) (s : h.S) (s' : h.S') → h.state s s' → Ran (run_function h.one f here e n c b p s) (run_function h.two f' (place r here) e' (move_named mv n) (move_clause mv c) b (pending_two p) s')
    function_goes n c true p s s' l = put_goes (AssignedFunction n here c) p s s' l
    function_goes n c false p s s' l = one_goes n (Function (binder_at h.one e s n) here c) _ (ap (λ b. Function b (place r here) (move_clause mv c)) (binder_seen e e' k s s' l n)) p s s' l

    pub define_goes : (p : Pending h.A h.L) (d : DefinitionShape h.A) (s : h.S) (s' : h.S') → h.state s s' → Ran (run_define h.one f here e p d s) (run_define h.two f' (place r here) e' (pending_two p) (move_definition mv d) s')
    define_goes p (Variable n t) s s' l =
        ran_at (ap (λ b. run_variable h.two f' (place r here) e' (move_named mv n) (move_tree mv t) b (pending_two p) (h.two.ask (Assigns e' (h.on n.name) ∷ []) s')) (h.is_assigned e e' k s s' l n.name))
        (variable_goes n t (h.one.is_assigned e s n.name) p _ _ (h.ask (Assigns e n.name ∷ []) (Assigns e' (h.on n.name) ∷ []) (assigns e e' k n.name, tt) s s' l))
    define_goes p (Procedure n c) s s' l =
        ran_at (ap (λ b. run_function h.two f' (place r here) e' (move_named mv n) (move_clause mv c) b (pending_two p) (h.two.ask (Assigns e' (h.on n.name) ∷ []) s')) (h.is_assigned e e' k s s' l n.name))
        (function_goes n c (h.one.is_assigned e s n.name) p _ _ (h.ask (Assigns e n.name ∷ []) (Assigns e' (h.on n.name) ∷ []) (assigns e e' k n.name, tt) s s' l))

    -- ---- several names

    abbrev Several : List Binder × Renamed h.A h.L → List Binder × Renamed h.A' h.L' → Type 0
    Several q q' = (q'.0 ≡ map (binder r) q.0) × Renames q.1 q'.1

    -- what the definitions before made of names, on both sides
    abbrev ReadSo : (h.A → h.A) → (h.A' → h.A') → Type 0
    ReadSo g g' = (i : h.A) → g' (h.on i) ≡ h.on (g i)

    all_goes : (ns : List (Named h.A)) (g : h.A → h.A) (g' : h.A' → h.A') → ReadSo g g' → (p : Pending h.A h.L) (q : Pending h.A' h.L') → q ≡ pending_two p → (s : h.S) (s' : h.S') → h.state s s'
        → Meets h Several (define_all h.one here e g ns p s) (define_all h.two (place r here) e' g' (map (move_named mv) ns) q s')
    all_goes [] g g' so p q d s s' l = ((refl, record { pending = d; rename = so }), l)
    all_goes (n ∷ ns) g g' so p q d s s' l =
        let a = ap (λ i. record { name = i; occ = place r n.occ }) (so n.name) in
        let n1 = named_map g n in let n2 : Named h.A' = named_map g' (move_named mv n) in
        meets_bind h Renames Several (told here (h.one.define n1 None e p s)) (told (place r here) (h.two.define n2 None e' q s')) _ _
        (meets_at h Renames (told here (h.one.define n1 None e p s)) (λ j. told (place r here) (h.two.define (a j) None e' (d j) s')) (define_step here n1 None e e' k p s s' l))
        (λ made made' m u u' l1. meets_bind h Several Several (define_all h.one here e (λ i. made.rename (g i)) ns made.pending u) (define_all h.two (place r here) e' (λ i. made'.rename (g' i)) (map (move_named mv) ns) made'.pending u') _ _
        (all_goes ns (λ i. made.rename (g i)) (λ i. made'.rename (g' i)) (λ i. ap made'.rename (so i) ∙ m.rename (g i)) made.pending made'.pending m.pending u u' l1)
        (λ more more' m2 v v' l2. (((let b = ap (λ x. binder_at h.two e' s' x) a ∙ binder_seen e e' k s s' l n1 in let c = m2.0 in λ j. b j ∷ c j), m2.1), l2)))

    names_goes : (ns : List (Named h.A)) (p : Pending h.A h.L) (s : h.S) (s' : h.S') → h.state s s' → Meets h Several (define_names h.one here e ns p s) (define_names h.two (place r here) e' (map (move_named mv) ns) (pending_two p) s')
    names_goes ns p s s' l = all_goes ns (λ i. i) (λ i. i) (λ i. refl) p (pending_two p) refl s s' l

    pub values_goes : (p : Pending h.A h.L) (d : Formals h.A × Tree h.A) (s : h.S) (s' : h.S') → h.state s s' → Ran (run_values h.one f here e p d s) (run_values h.two f' (place r here) e' (pending_two p) (move_formals mv d.0, move_tree mv d.1) s')
    values_goes p d s s' l =
        caught_meets Several (define_names h.one here e d.0.names p s) (define_names h.two (place r here) e' (map (move_named mv) d.0.names) (pending_two p) s') p.notes
        (λ q. f (put (ValuesOf (record { names = q.0; rest = d.0.rest }) (record { here = here; tree = map_tree q.1.rename d.1 })) q.1.pending))
        (λ q. f' (put (ValuesOf (record { names = q.0; rest = d.0.rest }) (record { here = place r here; tree = map_tree q.1.rename (move_tree mv d.1) })) q.1.pending))
        (names_goes d.0.names p s s' l)
        (λ q q' m u u' l1.
        let a = m.0 in let t = tree_turned h.A h.A' h.A h.A' (place r) h.on h.on q.1.rename q'.1.rename m.1.rename d.1 in let b = m.1.pending in
        ran_at (λ j. f' (put (ValuesOf (record { names = a j; rest = d.0.rest }) (record { here = place r here; tree = t j })) (b j)) u')
        (put_goes (ValuesOf (record { names = q.0; rest = d.0.rest }) (record { here = here; tree = map_tree q.1.rename d.1 })) q.1.pending u u' l1))

    -- ---- records

    fields_goes : (ns : List (Named h.A)) (s : h.S) (s' : h.S') → h.state s s' → Goes h (map (binder r)) (fields_bound h.one ns s) (fields_bound h.two (map (move_named mv) ns) s')
    fields_goes [] s s' l = goes refl l
    fields_goes (n ∷ ns) s s' l =
        goes_bind h _ _ (fields_goes ns (h.one.take_local s) (h.two.take_local s') (h.take_local s s' l))
        (λ bs u u' m. goes (let a = h.next_local s s' l in let b = h.plain n.name in λ j. Ok (record { bound = LocalNumber (a j); ident = b j; occ = place r n.occ } ∷ map (binder r) bs)) m)

    abbrev Recorded : List Binder × (List Binder × Renamed h.A h.L) → List Binder × (List Binder × Renamed h.A' h.L') → Type 0
    Recorded q q' = (q'.0 ≡ map (binder r) q.0) × Several q.1 q'.1

    pub record_goes : (p : Pending h.A h.L) (x : RecordShape h.A) (s : h.S) (s' : h.S') → h.state s s' → Ran (run_record h.one f here e p x s) (run_record h.two f' (place r here) e' (pending_two p) (move_record mv x) s')
    record_goes p x s s' l =
        let fields = map_turned (λ (y : FieldShape h.A'). y.field) (move_field mv) (move_named mv) (λ (y : FieldShape h.A). y.field) (λ y. refl) x.fields in
        let ns = record_names-map r h.A h.A' h.on x in
        ran_at (λ j. caught {B = List Binder × (List Binder × Renamed h.A' h.L')} (notes_as p.notes) (fields_bound h.two (fields j) s' >>= λ bs t. define_names h.two (place r here) e' (ns j) (pending_two p) t >>= λ q. done (bs, q))
        (λ q. f' (put (Record (record_part h.two.names.same (move_record mv x) q.1.0 q.0)) q.1.1.pending)))
        (caught_meets Recorded
        (fields_bound h.one (map (λ y. y.field) x.fields) s >>= λ bs t. define_names h.one here e (record_names x) p t >>= λ q. done (bs, q))
        (fields_bound h.two (map (move_named mv) (map (λ y. y.field) x.fields)) s' >>= λ bs t. define_names h.two (place r here) e' (map (move_named mv) (record_names x)) (pending_two p) t >>= λ q. done (bs, q))
        p.notes
        (λ q. f (put (Record (record_part h.one.names.same x q.1.0 q.0)) q.1.1.pending)) (λ q. f' (put (Record (record_part h.two.names.same (move_record mv x) q.1.0 q.0)) q.1.1.pending))
        (meets_bind h (Told h (map (binder r))) Recorded (fields_bound h.one (map (λ y. y.field) x.fields) s) (fields_bound h.two (map (move_named mv) (map (λ y. y.field) x.fields)) s') _ _
        (meets_of h (fields_goes (map (λ y. y.field) x.fields) s s' l))
        (λ bs bs' d u u' m. meets_bind h Several Recorded (define_names h.one here e (record_names x) p u) (define_names h.two (place r here) e' (map (move_named mv) (record_names x)) (pending_two p) u') _ _
        (names_goes (record_names x) p u u' m) (λ q q' g v v' m2. ((d, g), m2))))
        (λ q q' g u u' m. let a = g.0 in let b = g.1.0 in let c = g.1.1.pending in
        ran_at ((λ j. f' (put (Record (record_part h.two.names.same (move_record mv x) (b j) (a j))) (c j)) u') ∙ ap (λ z. f' (put (Record z) (pending_two q.1.1.pending)) u') (record_part-map r h.A h.A' h.on h.one.names.same h.two.names.same h.same x q.1.0 q.0))
        (put_goes (Record (record_part h.one.names.same x q.1.0 q.0)) q.1.1.pending u u' m)))

    -- ---- rules

    pub note_goes : (s : h.S) (s' : h.S') → h.state s s' → (o : Option (RulesParts h.A)) → rules_note h.two e' s' (option_map (move_parts mv) o) ≡ notes_as (rules_note h.one e s o)
    note_goes s s' l None = refl
    note_goes s s' l (Some x) =
        let a = h.place e e' k x.head in let b = ap is_keyword (head_goes h e e' k s s' l x.head) ∙ keyword_seen r (head_of h.one e s x.head) in
        λ j. LookedUp (a j) false (b j) ∷ []

  module _ (here : Here) (e : h.E) (e' : h.E') (k : h.around e e') where
    some_parts : (s : h.S) (s' : h.S') → h.state s s' → (o : Option (RulesParts h.A)) → Goes h (move_parts mv) (rules_parts h.one here e o s) (rules_parts h.two (place r here) e' (option_map (move_parts mv) o) s')
    some_parts s s' l None = goes refl l
    some_parts s s' l (Some x) =
        goes_at h (ap (λ (t : Bool). cond t (done (move_parts mv x) (h.two.ask (Headed e' (h.on x.head) ∷ []) s')) (fails (place r here) BadForm (h.two.ask (Headed e' (h.on x.head) ∷ []) s'))) (ap is_rules (head_goes h e e' k s s' l x.head) ∙ rules_seen r (head_of h.one e s x.head)))
        (go (h.one.ask (Headed e x.head ∷ []) s) (h.two.ask (Headed e' (h.on x.head) ∷ []) s') (h.ask (Headed e x.head ∷ []) (Headed e' (h.on x.head) ∷ []) (headed e e' k x.head, tt) s s' l) (is_rules (head_of h.one e s x.head)))
      where
        go : (u : h.S) (u' : h.S') → h.state u u' → (t : Bool) → Goes h (move_parts mv) (cond t (done x u) (fails here BadForm u)) (cond t (done (move_parts mv x) u') (fails (place r here) BadForm u'))
        go u u' m true = goes refl m
        go u u' m false = goes refl m

    pub rules_parts_goes : (t : Tree h.A) (s : h.S) (s' : h.S') → h.state s s' → Goes h (move_parts mv) (rules_parts h.one here e (rules_parts_of t) s) (rules_parts h.two (place r here) e' (rules_parts_of (move_tree mv t)) s')
    rules_parts_goes t s s' l = goes_at h (ap (λ o. rules_parts h.two (place r here) e' o s') (parts_of_seen r h.A h.A' h.on t)) (some_parts s s' l (rules_parts_of t))

    pub rules_at_goes : (t : Tree h.A) (x : RulesParts h.A) (s : h.S) (s' : h.S') → h.state s s' → Goes h (move_rules mv) (rules_at h.one here t x s) (rules_at h.two (place r here) (move_tree mv t) (move_parts mv x) s')
    rules_at_goes t x s s' l =
        goes_at h (ap (λ z. counting h.two (place r here) z s' >>= λ u. given h.two.plain (place r here) (rules_of h.two.names (move_trees mv x.parts) (move_tail mv x.tail))) (size-map h.A h.A' mv t))
        (counted_goes h here (tree_size t) s s' l (given h.one.plain here (rules_of h.one.names x.parts x.tail)) (given h.two.plain (place r here) (rules_of h.two.names (move_trees mv x.parts) (move_tail mv x.tail)))
        (λ u u' m. goes_read h here u u' m (rules_of-map h.A h.A' mv h.one.names h.two.names (names_told h) x.parts x.tail)))
