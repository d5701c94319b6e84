-- Definitions at a place: of a variable or a procedure, of several names, of a record; both sides go on alike.
use Rattle.std.proofs.Common.{◌≡◌, ℕ, suc, List, [], ◌∷◌, map, Bool, true, false, cond, Option, Some, None, Result, refl, sym, ap, ◌∙◌, subst}
use Rattle.scheme_model.specs.Identifiers.{Number, Name, same_name}
use Rattle.scheme_model.specs.Ident.{Ident, erase, same_ident}
use Rattle.scheme_model.specs.Trees.{Tree, map_tree}
use Rattle.scheme_model.specs.ExpansionFaults.{Named, named, named_map}
use Rattle.scheme_model.specs.Requirements.{Known}
use Rattle.scheme_model.specs.Shapes.{Formals, Clause, DefinitionShape, Variable, Procedure, FieldShape, RecordShape}
use Rattle.scheme_model.specs.RulesShape.{option_map}
use Rattle.scheme_model.specs.Cores.{LocalNumber, Binder}
use Rattle.scheme_model.specs.Steps.{Broken, Step, ◌>>=◌, done}
use Rattle.scheme_model.specs.Order.{Here, Form, Item, Value, Function, Assigned, AssignedFunction, ValuesOf, Record, Note, Pending, Renamed, Pass, Transformer, binder_at, told, put, define_all, define_names, fields_bound, position, modifiers, modified, is_some, record_names, record_part, caught, run_variable, run_function, run_define, run_values, run_record}
use Rattle.scheme_model.specs.Substitution.{State, at_form, form_map, item_map, note_map, clause_map, model}
use Rattle.scheme_model.specs.ScopedExpansion.{Frames, FramedIdent, ScopedState, next_number, scoped}
use Rattle.scheme_model.specs.Renaming.{formals_map, definition_map, field_map, record_map}
use Rattle.model_laws.proofs.FrameEras.{Era}
use Rattle.scheme_model.proofs.RenamingLaws.{map_turned, append_map}
use Rattle.scheme_model.proofs.ScopeLaws.{map_map, map_itself}
use Rattle.model_laws.proofs.IdentKinds.{definition_kind, record_kind}
use Rattle.scheme_model.proofs.Clocks.{leq_counted}
use Rattle.scheme_model.proofs.Distinct.{Distinct, ShapeDistinct}
use Rattle.model_laws.proofs.FrameNames.{erase_frame_image, same_frame_image}
use Rattle.model_laws.proofs.FrameAsks.{AllOf, all_of_more}
use Rattle.model_laws.proofs.FrameStates.{names, view, Grows, grows_itself, grows_then, locals_grow, names_later}
use Rattle.model_laws.proofs.FrameLeaves.{Holding, held, all_held, tree_same, Held}
use Rattle.model_laws.proofs.FrameAgrees.{Agrees, agree, break, agrees_at, agrees_bind, agrees_more}
use Rattle.model_laws.proofs.FrameUses.{placed}
use Rattle.model_laws.proofs.FrameReaders.{formals_tree_kind}
use Rattle.model_laws.proofs.FrameHeld.{ItemHeld, PendingHeld, all_same, pending_more, pending_same, put_seen, put_held}
use Rattle.model_laws.proofs.FramePlaces.{seen_pending, On, DefinesSo, PlaceFacts, Together, together_at, CodeGo, ModelGo, RunLaw, on_bind, caught_law, put_law, binder_seen}

-- ---- names, renamed

module _ (A B : Type 0) (f : A → B) where
  modifiers-map : (xs : List (FieldShape A)) → modifiers (map (field_map f) xs) ≡ map (named_map f) (modifiers xs)
  modifiers-map [] = refl
  modifiers-map (x ∷ xs) = go x.modifier (modifiers-map xs)
    where
      go : (o : Option (Named A)) → modifiers (map (field_map f) xs) ≡ map (named_map f) (modifiers xs)
          → modifiers (map (field_map f) (record { field = x.field; accessor = x.accessor; modifier = o } ∷ xs)) ≡ map (named_map f) (modifiers (record { field = x.field; accessor = x.accessor; modifier = o } ∷ xs))
      go None e = e
      go (Some m) e = ap (λ ns. named_map f m ∷ ns) e

  pub record_names-map : (r : RecordShape A) → record_names (record_map f r) ≡ map (named_map f) (record_names r)
  record_names-map r =
      ap (λ ns. named_map f r.type ∷ named_map f r.constructor ∷ named_map f r.predicate ∷ ns)
      (append_map (named_map f) (map (λ (x : FieldShape A). x.accessor) r.fields) (modifiers r.fields)
      (map_turned (λ (x : FieldShape B). x.accessor) (field_map f) (named_map f) (λ (x : FieldShape A). x.accessor) (λ x. refl) r.fields) (modifiers-map r.fields))

  some_same : (o : Option (Named A)) → is_some (option_map (named_map f) o) ≡ is_some o
  some_same None = refl
  some_same (Some x) = refl

  modified-map : (n : ℕ) (xs : List (FieldShape A)) → modified n (map (field_map f) xs) ≡ modified n xs
  modified-map n [] = refl
  modified-map n (x ∷ xs) = let e = some_same x.modifier in let rest = modified-map (suc n) xs in λ j. cond (e j) (n ∷ rest j) (rest j)

  module _ (same : A → A → Bool) (same' : B → B → Bool) (told : (i j : A) → same' (f i) (f j) ≡ same i j) where
    position-map : (i : A) (xs : List (FieldShape A)) → position same' (f i) (map (field_map f) xs) ≡ position same i xs
    position-map i [] = refl
    position-map i (x ∷ xs) = let e = told x.field.name i in let rest = position-map i xs in λ j. cond (e j) 0 (suc (rest j))

    pub record_part-map : (r : RecordShape A) (bs cs : List Binder) → record_part same' (record_map f r) bs cs ≡ record_part same r bs cs
    record_part-map r bs cs =
        let m = modified-map 0 r.fields in
        let u = map_turned (λ (n : Named B). record { field = position same' n.name (map (field_map f) r.fields); occ = n.occ }) (named_map f) (λ x. x) (λ (n : Named A). record { field = position same n.name r.fields; occ = n.occ })
        (λ n. ap (λ p. record { field = p; occ = n.occ }) (position-map n.name r.fields)) r.used ∙ same_list (map (λ (n : Named A). record { field = position same n.name r.fields; occ = n.occ }) r.used) in
        λ j. record { binders = bs; fields = cs; modified = m j; used = u j }
      where
        same_list : {X : Type 0} (xs : List X) → map (λ x. x) xs ≡ xs
        same_list [] = refl
        same_list (x ∷ xs) = ap (λ ys. x ∷ ys) (same_list xs)

-- ---- definitions

module _ (w : Era) (known : Known) (fs : Frames) (Inside : ScopedState → Bool → List Number → Type 0) (Trail : ScopedState → ScopedState → Type 0) (Leaf : ScopedState → Ident → Type 0) (PlaceIn : ScopedState → FramedIdent → Type 0) (RuleLeaf : ScopedState → Transformer Frames Ident → Ident → Type 0) (Ended : ScopedState → List (Note FramedIdent) → List (Note Name) → Type 0)
    (facts : PlaceFacts w known fs Inside Trail Leaf PlaceIn RuleLeaf Ended) (f : CodeGo w known fs Inside Trail Leaf PlaceIn RuleLeaf Ended) (g : ModelGo w known fs Inside Trail Leaf PlaceIn RuleLeaf Ended) (law : RunLaw w known fs Inside Trail Leaf PlaceIn RuleLeaf Ended f g) (here : Here) where
  abbrev seen : ScopedState → Pending Ident FramedIdent → Pending Name Name
  seen t p = seen_pending w known fs Inside Trail Leaf PlaceIn RuleLeaf Ended t p

  abbrev HeldAt : ScopedState → Pending Ident FramedIdent → Type 0
  HeldAt t p = PendingHeld (Leaf t) (PlaceIn t) p

  abbrev Both : Pass Ident FramedIdent × ScopedState → Pass Name Name × State → Type 0
  Both q m = Together w known fs Inside Trail Leaf PlaceIn RuleLeaf Ended q m

  abbrev At : ScopedState → ScopedState → Bool → List Number → Type 0
  At s t i n = On w known fs Inside Trail Leaf PlaceIn RuleLeaf Ended s t i n

  on_itself : (s : ScopedState) → Trail s s
  on_itself s = facts.trail s s (grows_itself w s)

  module _ (s : ScopedState) (i : Bool) (n : List Number) (k : Inside s i n) (p : Pending Ident FramedIdent) (h : HeldAt s p) where
    -- a definition, and its item set aside
    one_law : (x : Named Ident) → Leaf s x.name → (t : Item Ident) (t' : Item Name) → t' ≡ item_map (names s fs) t → ItemHeld (Leaf s) t
        → Both (caught p.notes (told here ((scoped known).define x None fs (put t p) s)) (λ d. f d.pending)) (caught (map (note_map (placed s)) p.notes) (told here ((model known).define (named_map (names s fs) x) None tt (put t' (seen s p)) (view i n s))) (λ d. g d.pending))
    one_law x l t t' e q =
        caught_law w known fs Inside Trail Leaf PlaceIn RuleLeaf Ended facts s i n k p.notes h.2 (λ d. f d.pending) (λ d. g d.pending)
        (agrees_at refl
        (λ j. told here ((model known).define (named_map (names s fs) x) None tt ((ap (λ z. put z (seen s p)) e ∙ put_seen (names s fs) (placed s) t p) j) (view i n s)))
        (facts.defines s i n k here x l None tt (put t p) (put_held (Leaf s) (PlaceIn s) t p q h)))
        (λ a b v i1 n1 k1 r. together_at w known fs Inside Trail Leaf PlaceIn RuleLeaf Ended refl (ap (λ z. g z (view i1 n1 v)) r.seen) (law a.pending v i1 n1 k1 r.held))

    put_one : (t : Item Ident) → ItemHeld (Leaf s) t → Both (f (put t p) s) (g (put (item_map (names s fs) t) (seen s p)) (view i n s))
    put_one t q = put_law w known fs Inside Trail Leaf PlaceIn RuleLeaf Ended facts f g law s i n k p h t q

    binder : (x : Named Ident) → binder_at (model known) tt (view i n s) (named_map (names s fs) x) ≡ binder_at (scoped known) fs s x
    binder x = binder_seen w known fs Inside Trail Leaf PlaceIn RuleLeaf Ended facts s i n k x

    -- over what holds Leaf
    variable_law : (x : Named (Holding (Leaf s))) (t : Tree (Holding (Leaf s))) (b : Bool)
        → Both (run_variable (scoped known) f here fs (named_map (held (Leaf s)) x) (map_tree (held (Leaf s)) t) b p s) (run_variable (model known) g here tt (named_map (names s fs) (named_map (held (Leaf s)) x)) (map_tree (names s fs) (map_tree (held (Leaf s)) t)) b (seen s p) (view i n s))
    variable_law x t true = put_one (Assigned (named_map (held (Leaf s)) x) (record { here = here; tree = map_tree (held (Leaf s)) t })) (record { made = Assigned x (record { here = here; tree = t }); same = refl }, tt)
    variable_law x t false =
        let y = named_map (held (Leaf s)) x in let u : Form Ident = record { here = here; tree = map_tree (held (Leaf s)) t } in
        one_law y x.name.1 (Value (binder_at (scoped known) fs s y) u) (Value (binder_at (model known) tt (view i n s) (named_map (names s fs) y)) (form_map (names s fs) u))
        (ap (λ b. Value b (form_map (names s fs) u)) (binder y)) (record { made = Value (binder_at (scoped known) fs s y) (record { here = here; tree = t }); same = refl }, tt)

    function_law : (x : Named (Holding (Leaf s))) (c : Clause (Holding (Leaf s))) → Distinct (clause_map (held (Leaf s)) c).formals.names → (b : Bool)
        → Both (run_function (scoped known) f here fs (named_map (held (Leaf s)) x) (clause_map (held (Leaf s)) c) b p s) (run_function (model known) g here tt (named_map (names s fs) (named_map (held (Leaf s)) x)) (clause_map (names s fs) (clause_map (held (Leaf s)) c)) b (seen s p) (view i n s))
    function_law x c d true = put_one (AssignedFunction (named_map (held (Leaf s)) x) here (clause_map (held (Leaf s)) c)) (record { made = AssignedFunction x here c; same = refl }, d)
    function_law x c q false =
        let y = named_map (held (Leaf s)) x in let d = clause_map (held (Leaf s)) c in
        one_law y x.name.1 (Function (binder_at (scoped known) fs s y) here d) (Function (binder_at (model known) tt (view i n s) (named_map (names s fs) y)) here (clause_map (names s fs) d))
        (ap (λ b. Function b here (clause_map (names s fs) d)) (binder y)) (record { made = Function (binder_at (scoped known) fs s y) here c; same = refl }, q)

    define_over : (d : DefinitionShape (Holding (Leaf s))) → ShapeDistinct (definition_map (held (Leaf s)) d) → Both (run_define (scoped known) f here fs p (definition_map (held (Leaf s)) d) s) (run_define (model known) g here tt (seen s p) (definition_map (names s fs) (definition_map (held (Leaf s)) d)) (view i n s))
    define_over (Variable x t) q =
        together_at w known fs Inside Trail Leaf PlaceIn RuleLeaf Ended refl
        (ap (λ b. run_variable (model known) g here tt (named_map (names s fs) (named_map (held (Leaf s)) x)) (map_tree (names s fs) (map_tree (held (Leaf s)) t)) b (seen s p) (view i n s)) (facts.assigned s i n k x.name.0 x.name.1))
        (variable_law x t ((scoped known).is_assigned fs s x.name.0))
    define_over (Procedure x c) q =
        together_at w known fs Inside Trail Leaf PlaceIn RuleLeaf Ended refl
        (ap (λ b. run_function (model known) g here tt (named_map (names s fs) (named_map (held (Leaf s)) x)) (clause_map (names s fs) (clause_map (held (Leaf s)) c)) b (seen s p) (view i n s)) (facts.assigned s i n k x.name.0 x.name.1))
        (function_law x c q ((scoped known).is_assigned fs s x.name.0))

    pub define_law : (d : DefinitionShape Ident) → ShapeDistinct d → Held definition_kind (Leaf s) d → Both (run_define (scoped known) f here fs p d s) (run_define (model known) g here tt (seen s p) (definition_map (names s fs) d) (view i n s))
    define_law d z q = subst (λ (e : DefinitionShape Ident). ShapeDistinct e → Both (run_define (scoped known) f here fs p e s) (run_define (model known) g here tt (seen s p) (definition_map (names s fs) e) (view i n s))) q.same (define_over q.made) z

  -- ---- several names

  abbrev Made : ScopedState → ScopedState → Renamed Ident FramedIdent → Renamed Name Name → Type 0
  Made s t q q' = DefinesSo w known fs Inside Trail Leaf PlaceIn RuleLeaf Ended s t q q'

  -- the binders are the same; s0 is where the names stood
  abbrev Several : ScopedState → ScopedState → List Binder × Renamed Ident FramedIdent → List Binder × Renamed Name Name → Type 0
  Several s0 t a b = (b.0 ≡ a.0) × Made s0 t a.1 b.1

  module _ (s0 : ScopedState) where
    -- what the definitions have made of names by then
    abbrev AllLaw : List (Named Ident) → Type 0
    AllLaw ns = (c : Name → Name) (p : Pending Ident FramedIdent) (s : ScopedState) (i : Bool) (n : List Number) → Inside s i n → HeldAt s p → ((x : Ident) → Leaf s0 x → Leaf s x) → ((x : Ident) → Leaf s0 x → c (names s0 fs x) ≡ names s fs x)
        → Agrees (At s) (Several s0) (define_all (scoped known) here fs (λ x. x) ns p s) (define_all (model known) here tt c (map (named_map (names s0 fs)) ns) (seen s p) (view i n s))

    all_law : (ns : List (Named Ident)) → AllOf (λ (x : Named Ident). Leaf s0 x.name) ns → AllLaw ns
    all_law [] l c p s i n k h leaf reads =
        agree ([], record { pending = p; rename = λ x. x }) ([], record { pending = seen s p; rename = c }) s i n refl refl (k, on_itself s) (refl, record { held = h; seen = refl; plain = refl; leaf = leaf; reads = reads })
    all_law (x ∷ ns) l c p s i n k h leaf reads =
        let y = reads x.name l.0 in
        on_bind w known fs Inside Trail Leaf PlaceIn RuleLeaf Ended facts s _
        (agrees_at refl (λ j. told here ((model known).define (named (y j) x.occ) None tt (seen s p) (view i n s))) (facts.defines s i n k here x (leaf x.name l.0) None tt p h)) (λ q q' t i1 n1 k1 r.
        on_bind w known fs Inside Trail Leaf PlaceIn RuleLeaf Ended facts t _
        (agrees_at (ap (λ (e : Ident → Ident). define_all (scoped known) here fs e ns q.pending t) r.plain)
        (ap (λ z. define_all (model known) here tt (λ a. q'.rename (c a)) (map (named_map (names s0 fs)) ns) z (view i1 n1 t)) r.seen)
        (all_law ns l.1 (λ a. q'.rename (c a)) q.pending t i1 n1 k1 r.held (λ z m. r.leaf z (leaf z m)) (λ z m. ap q'.rename (reads z m) ∙ r.reads z (leaf z m)))) (λ a b v i2 n2 k2 e.
        agree (binder_at (scoped known) fs s x ∷ a.0, a.1) (binder_at (model known) tt (view i n s) (named (c (names s0 fs x.name)) x.occ) ∷ b.0, b.1) v i2 n2 refl refl (k2, on_itself v)
        ((let z = ap (λ u. binder_at (model known) tt (view i n s) (named u x.occ)) y ∙ binder_seen w known fs Inside Trail Leaf PlaceIn RuleLeaf Ended facts s i n k x in let bs = e.0 in λ j. z j ∷ bs j), e.1)))

  pub names_law : (ns : List (Named Ident)) (p : Pending Ident FramedIdent) (s : ScopedState) (i : Bool) (n : List Number) → Inside s i n → HeldAt s p → AllOf (λ (x : Named Ident). Leaf s x.name) ns
      → Agrees (At s) (Several s) (define_names (scoped known) here fs ns p s) (define_names (model known) here tt (map (named_map (names s fs)) ns) (seen s p) (view i n s))
  names_law ns p s i n k h l = all_law s ns l (λ x. x) p s i n k h (λ x m. m) (λ x m. refl)

  -- names over what holds P, each by itself
  pub each_name : (P : Ident → Type 0) (ns : List (Named (Holding P))) → AllOf (λ (x : Named Ident). P x.name) (map (named_map (held P)) ns)
  each_name P [] = tt
  each_name P (x ∷ ns) = (x.name.1, each_name P ns)

  -- the value, as the definitions make it read
  module _ (s t : ScopedState) (leaf : (x : Ident) → Leaf s x → Leaf t x) (rest : Bool) where
    value_held : (bs : List Binder) (y : Tree (Holding (Leaf s))) → ItemHeld (Leaf t) (ValuesOf (record { names = bs; rest = rest }) (record { here = here; tree = map_tree (held (Leaf s)) y }))
    value_held bs y = (
      record {
        made = ValuesOf (record { names = bs; rest = rest }) (record { here = here; tree = map_tree (λ (p : Holding (Leaf s)). (p.0, leaf p.0 p.1)) y });
        same = ap (λ u. ValuesOf (record { names = bs; rest = rest }) (record { here = here; tree = u })) (map_map (held (Leaf t)) (λ (p : Holding (Leaf s)). (p.0, leaf p.0 p.1)) y);
      },
      tt,
    )

    value_plain : (e : Ident → Ident) → e ≡ (λ x. x) → (y : Tree Ident) → map_tree e y ≡ y
    value_plain e d y = ap (λ (h : Ident → Ident). map_tree h y) d ∙ map_itself y

    value_reads : (e : Name → Name) → ((x : Ident) → Leaf s x → e (names s fs x) ≡ names t fs x) → (y : Tree (Holding (Leaf s))) → map_tree e (map_tree (names s fs) (map_tree (held (Leaf s)) y)) ≡ map_tree (names t fs) (map_tree (held (Leaf s)) y)
    value_reads e d y = map_map e (names s fs) (map_tree (held (Leaf s)) y) ∙ tree_same (Leaf s) (λ x. e (names s fs x)) (names t fs) d (map_tree (held (Leaf s)) y) (all_held (Leaf s) y)

  module _ (s : ScopedState) (i : Bool) (n : List Number) (k : Inside s i n) (p : Pending Ident FramedIdent) (h : HeldAt s p) where
    values_over : (d : Formals (Holding (Leaf s)) × Tree (Holding (Leaf s)))
        → Both (run_values (scoped known) f here fs p (formals_map (held (Leaf s)) d.0, map_tree (held (Leaf s)) d.1) s)
        (run_values (model known) g here tt (seen s p) (formals_map (names s fs) (formals_map (held (Leaf s)) d.0), map_tree (names s fs) (map_tree (held (Leaf s)) d.1)) (view i n s))
    values_over d =
        caught_law w known fs Inside Trail Leaf PlaceIn RuleLeaf Ended facts s i n k p.notes h.2
        (λ r. f (put (ValuesOf (record { names = r.0; rest = d.0.rest }) (record { here = here; tree = map_tree r.1.rename (map_tree (held (Leaf s)) d.1) })) r.1.pending))
        (λ r. g (put (ValuesOf (record { names = r.0; rest = d.0.rest }) (record { here = here; tree = map_tree r.1.rename (map_tree (names s fs) (map_tree (held (Leaf s)) d.1)) })) r.1.pending))
        (names_law (map (named_map (held (Leaf s))) d.0.names) p s i n k h (each_name (Leaf s) d.0.names))
        (λ a b t i1 n1 k1 e.
        let bs = e.0 in let q = e.1.seen in
        let x = value_plain s t e.1.leaf d.0.rest a.1.rename e.1.plain (map_tree (held (Leaf s)) d.1) in
        let y = value_reads s t e.1.leaf d.0.rest b.1.rename e.1.reads d.1 in
        together_at w known fs Inside Trail Leaf PlaceIn RuleLeaf Ended
        (ap (λ u. f (put (ValuesOf (record { names = a.0; rest = d.0.rest }) (record { here = here; tree = u })) a.1.pending) t) x)
        (λ j. g (put (ValuesOf (record { names = bs j; rest = d.0.rest }) (record { here = here; tree = y j })) (q j)) (view i1 n1 t))
        (put_law w known fs Inside Trail Leaf PlaceIn RuleLeaf Ended facts f g law t i1 n1 k1 a.1.pending e.1.held (ValuesOf (record { names = a.0; rest = d.0.rest }) (record { here = here; tree = map_tree (held (Leaf s)) d.1 }))
        (value_held s t e.1.leaf d.0.rest a.0 d.1)))

    pub values_law : (d : Formals Ident × Tree Ident) → Held formals_tree_kind (Leaf s) d → Both (run_values (scoped known) f here fs p d s) (run_values (model known) g here tt (seen s p) (formals_map (names s fs) d.0, map_tree (names s fs) d.1) (view i n s))
    values_law d q = subst (λ (e : Formals Ident × Tree Ident). Both (run_values (scoped known) f here fs p e s) (run_values (model known) g here tt (seen s p) (formals_map (names s fs) e.0, map_tree (names s fs) e.1) (view i n s))) q.same (values_over q.made)

  -- ---- records

  -- fields are bound to locals of their own
  fields_law : (c : Ident → Name) → ((x : Ident) → erase (c x) ≡ x) → (ns : List (Named Ident)) (s : ScopedState) (i : Bool) (n : List Number) → Inside s i n
      → Agrees (λ t i1 n1. Inside t i1 n1 × Grows w s t) (λ (t : ScopedState) (a : List Binder) (b : List Binder). b ≡ a) (fields_bound (scoped known) ns s) (fields_bound (model known) (map (named_map c) ns) (view i n s))
  fields_law c e [] s i n k = agree [] [] s i n refl refl (k, grows_itself w s) refl
  fields_law c e (x ∷ ns) s i n k =
      agrees_bind _ (agrees_more {K = λ t i1 n1. Inside t i1 n1 × Grows w (record s { locals = at_form s.form suc s.locals }) t} {L = λ t i1 n1. Inside t i1 n1 × Grows w s t} {R = λ (t : ScopedState) (a : List Binder) (b : List Binder). b ≡ a} {Q = λ (t : ScopedState) (a : List Binder) (b : List Binder). b ≡ a}
      (λ t i1 n1 l. (l.0, grows_then w s (record s { locals = at_form s.form suc s.locals }) t (locals_grow w s (at_form s.form suc s.locals) (leq_counted s.form s.locals)) l.1)) (λ t a b q. q)
      (fields_law c e ns (record s { locals = at_form s.form suc s.locals }) i n (facts.local s i n k))) (λ a b t i1 n1 l q.
      agree (record { bound = LocalNumber (next_number s s.locals); ident = x.name; occ = x.occ } ∷ a) (record { bound = LocalNumber (next_number s s.locals); ident = erase (c x.name); occ = x.occ } ∷ b) t i1 n1 refl refl l
      (let z = e x.name in λ j. record { bound = LocalNumber (next_number s s.locals); ident = z j; occ = x.occ } ∷ q j))

  -- a step that changes no older image, and then another
  pub grown_bind : {A B C D : Type 0} {R : ScopedState → A → B → Type 0} {W : ScopedState → C → D → Type 0} {r : Result A Broken × ScopedState} {m : Result B Broken × State} {go : A → Step ScopedState C} (s : ScopedState) (go' : B → Step State D)
      → Agrees (λ t i n. Inside t i n × Grows w s t) R r m → ((a : A) (b : B) (t : ScopedState) (i : Bool) (n : List Number) → Inside t i n → Grows w s t → R t a b → Agrees (At t) W (go a t) (go' b (view i n t))) → Agrees (At s) W (r >>= go) (m >>= go')
  grown_bind {W = W} {go = go} s go' (agree a b t i n e d k q) next =
      agrees_at (ap (λ x. x >>= go) e) (ap (λ x. x >>= go') d) (agrees_more {K = At t} {L = At s} {R = W} {Q = W} (λ v i1 n1 l. (l.0, facts.trail_then s t v (facts.trail s t k.1) l.1)) (λ v c z x. x) (next a b t i n k.0 k.1 q))
  grown_bind {go = go} s go' (break x t i n e d k) next = break x t i n (ap (λ y. y >>= go) e) (ap (λ y. y >>= go') d) (k.0, facts.trail s t k.1)

  -- what the names of a record come to: the binders of its fields, and of the rest
  abbrev RecordLeft : ScopedState → ScopedState → List Binder × (List Binder × Renamed Ident FramedIdent) → List Binder × (List Binder × Renamed Name Name) → Type 0
  RecordLeft s0 t a b = (b.0 ≡ a.0) × (b.1.0 ≡ a.1.0) × HeldAt t a.1.1.pending × (b.1.1.pending ≡ seen t a.1.1.pending)

  record_names_held : (P : Ident → Type 0) (r : RecordShape (Holding P)) → AllOf (λ (x : Named Ident). P x.name) (record_names (record_map (held P) r))
  record_names_held P r = subst (AllOf (λ (x : Named Ident). P x.name)) (sym (record_names-map (Holding P) Ident (held P) r)) (each_name P (record_names r))

  module _ (s : ScopedState) (i : Bool) (n : List Number) (k : Inside s i n) (p : Pending Ident FramedIdent) (h : HeldAt s p) (r0 : RecordShape (Holding (Leaf s))) where
    abbrev shape : RecordShape Ident
    shape = record_map (held (Leaf s)) r0

    abbrev field_names : {X : Type 0} → RecordShape X → List (Named X)
    field_names r = map (λ x. x.field) r.fields

    fields_same : field_names (record_map (names s fs) shape) ≡ map (named_map (names s fs)) (field_names shape)
    fields_same = map_turned (λ (x : FieldShape Name). x.field) (field_map (names s fs)) (named_map (names s fs)) (λ (x : FieldShape Ident). x.field) (λ x. refl) shape.fields

    -- the names are defined in a later state, in which only locals were counted
    defined_law : (t : ScopedState) (i1 : Bool) (n1 : List Number) → Inside t i1 n1 → Grows w s t → (a b : List Binder) → b ≡ a
        → Agrees (At t) (RecordLeft t) (define_names (scoped known) here fs (record_names shape) p t >>= λ q. done (a, q)) (define_names (model known) here tt (record_names (record_map (names s fs) shape)) (seen s p) (view i1 n1 t) >>= λ q. done (b, q))
    defined_law t i1 n1 k1 gr a b e =
        let later = names_later w s t (facts.fine s i n k) gr fs (facts.stands s i n k) in
        let leaf = λ (x : Ident) (l : Leaf s x). later x (facts.below s i n k x l) in
        let ns = record_names-map Ident Name (names s fs) shape ∙ all_same (λ (x : Named Ident). Leaf s x.name) (named_map (names s fs)) (named_map (names t fs)) (λ x l. ap (λ y. named y x.occ) (leaf x.name l)) (record_names shape) (record_names_held (Leaf s) r0) in
        let ps = pending_same (Leaf s) (PlaceIn s) (names s fs) (names t fs) (placed s) (placed t) leaf (facts.placed_later s t i n k gr) p h in
        on_bind w known fs Inside Trail Leaf PlaceIn RuleLeaf Ended facts t _
        (agrees_at refl (λ j. define_names (model known) here tt (ns j) (ps j) (view i1 n1 t))
        (names_law (record_names shape) p t i1 n1 k1 (pending_more (Leaf s) (Leaf t) (PlaceIn s) (PlaceIn t) (facts.leaf_later s t i n k gr) (facts.place_later s t i n k gr) p h)
        (all_of_more (λ (x : Named Ident). Leaf s x.name) (λ (x : Named Ident). Leaf t x.name) (λ x l. facts.leaf_later s t i n k gr x.name l) (record_names shape) (record_names_held (Leaf s) r0))))
        (λ c d v i2 n2 k2 q. agree (a, c) (b, d) v i2 n2 refl refl (k2, on_itself v) (e, q.0, q.1.held, q.1.seen))

    record_over : Both (run_record (scoped known) f here fs p shape s) (run_record (model known) g here tt (seen s p) (record_map (names s fs) shape) (view i n s))
    record_over =
        caught_law w known fs Inside Trail Leaf PlaceIn RuleLeaf Ended facts s i n k p.notes h.2
        (λ q. f (put (Record (record_part same_ident shape q.1.0 q.0)) q.1.1.pending)) (λ q. g (put (Record (record_part same_name (record_map (names s fs) shape) q.1.0 q.0)) q.1.1.pending))
        (agrees_at refl
        (ap (λ xs. fields_bound (model known) xs (view i n s) >>= λ bs t. define_names (model known) here tt (record_names (record_map (names s fs) shape)) (seen s p) t >>= λ q. done (bs, q)) fields_same)
        (grown_bind s _ (fields_law (names s fs) (λ x. erase_frame_image s.places s.definitions fs x) (field_names shape) s i n k) (λ a b t i1 n1 k1 gr e. agrees_more {K = At t} {L = At t} {R = RecordLeft t} {Q = RecordLeft s} (λ v i2 n2 l. l) (λ v c d q. q) (defined_law t i1 n1 k1 gr a b e))))
        (λ a b t i1 n1 k1 e.
        together_at w known fs Inside Trail Leaf PlaceIn RuleLeaf Ended refl
        ((λ j. g (put (Record (record_part same_name (record_map (names s fs) shape) (e.1 j) (e.0 j))) (e.3 j)) (view i1 n1 t))
        ∙ ap (λ y. g (put (Record y) (seen t a.1.1.pending)) (view i1 n1 t)) (record_part-map Ident Name (names s fs) same_ident same_name (same_frame_image s.places s.definitions fs) shape a.1.0 a.0))
        (put_law w known fs Inside Trail Leaf PlaceIn RuleLeaf Ended facts f g law t i1 n1 k1 a.1.1.pending e.2 (Record (record_part same_ident shape a.1.0 a.0)) (record { made = Record (record_part same_ident shape a.1.0 a.0); same = refl }, tt)))

  pub record_law : (s : ScopedState) (i : Bool) (n : List Number) → Inside s i n → (p : Pending Ident FramedIdent) → HeldAt s p → (r : RecordShape Ident) → Held record_kind (Leaf s) r
      → Both (run_record (scoped known) f here fs p r s) (run_record (model known) g here tt (seen s p) (record_map (names s fs) r) (view i n s))
  record_law s i n k p h r q = subst (λ (e : RecordShape Ident). Both (run_record (scoped known) f here fs p e s) (run_record (model known) g here tt (seen s p) (record_map (names s fs) e) (view i n s))) q.same (record_over s i n k p h q.made)
