-- Definitions of macros, and uses of macros, at a place; both sides go on alike.
use Rattle.std.proofs.Common.{◌≡◌, ◌+◌, List, [], ◌∷◌, map, Bool, true, false, cond, Option, Some, None, Result, Err, refl, ap, ◌∙◌, subst}
use Rattle.std.specs.Prelude.{nat_le}
use Rattle.scheme_model.specs.Identifiers.{Number, Name}
use Rattle.scheme_model.specs.Ident.{Ident, erase}
use Rattle.scheme_model.specs.Trees.{Tree, name, atom, list, vector, no_trees, tree, map_tree}
use Rattle.scheme_model.specs.Measures.{tree_size}
use Rattle.scheme_model.specs.ExpansionFaults.{Named, named, named_map, Fault, fault_map, BadForm, NodeBudget}
use Rattle.scheme_model.specs.Meaning.{Head, is_keyword}
use Rattle.scheme_model.specs.Requirements.{Known}
use Rattle.scheme_model.specs.RulesShape.{Rules, rules_of, option_map}
use Rattle.scheme_model.specs.Cores.{Binder}
use Rattle.scheme_model.specs.Steps.{Broken, ◌>>=◌, done, fails}
use Rattle.scheme_model.specs.Order.{Here, Macro, Note, LookedUp, Pending, Pass, Transformer, head_of, binder_at, counting, given, told, put, noted, caught, RulesParts, rules_parts_of, is_rules, rules_parts, rules_note, rules_at, max_nodes, run_syntax}
use Rattle.scheme_model.specs.Substitution.{State, Clock, at_form, note_map, model}
use Rattle.scheme_model.specs.ScopedExpansion.{Frames, FramedIdent, ScopedState, scoped}
use Rattle.model_laws.proofs.FrameEras.{Era}
use Rattle.scheme_model.proofs.RenamingLaws.{size-map}
use Rattle.model_laws.proofs.IdentKinds.{Kind, rules_kind, pointwise, faults_fused}
use Rattle.model_laws.proofs.FrameNames.{erase_frame_image}
use Rattle.model_laws.proofs.FrameAsks.{AllOf}
use Rattle.model_laws.proofs.FrameStates.{names, view, Grows, grows_itself, grows_then, names_later}
use Rattle.model_laws.proofs.FrameLeaves.{TreeAll, Holding, held, lift_trees, lift_tail, lifted_trees, lifted_tail, all_held, Held, held_more}
use Rattle.model_laws.proofs.FrameAgrees.{Agrees, agree, break, agrees_at, agrees_bind}
use Rattle.model_laws.proofs.FrameHeads.{IfMacro, head_seen}
use Rattle.model_laws.proofs.FrameUses.{named_in, placed}
use Rattle.model_laws.proofs.FrameReaders.{parts_map, parts_kind, rules_reader, named_tree_kind, identifiers, model_names}
use Rattle.model_laws.proofs.FrameMacros.{parts_of-map}
use Rattle.model_laws.proofs.FrameHeld.{NoteAll, PendingHeld, pending_more, pending_same, noted_seen, noted_held, ReadTo, read_to, read_broken, read_held}
use Rattle.model_laws.proofs.FramePlaces.{seen_pending, On, PlaceFacts, Together, together_at, CodeGo, ModelGo, RunLaw, caught_law, put_law}
use Rattle.model_laws.proofs.FrameDefinitions.{grown_bind}

-- the parts of rules, over what holds P
parts_held : (P : Ident → Type 0) (t : Tree Ident) → TreeAll P t → IfMacro (Held parts_kind P) (rules_parts_of t)
parts_held P (name i o) l = tt
parts_held P (atom a o) l = tt
parts_held P (vector ts o) l = tt
parts_held P (list no_trees tail o) l = tt
parts_held P (list (tree (name i p) ts) tail o) l = record {
  made = record { head = (i, l.0.0); parts = lift_trees P ts l.0.1; tail = lift_tail P tail l.1 };
  same = (let a = lifted_trees P ts l.0.1 in let b = lifted_tail P tail l.1 in λ j. record { head = i; parts = a j; tail = b j });
}
parts_held P (list (tree (atom a p) ts) tail o) l = tt
parts_held P (list (tree (list us end p) ts) tail o) l = tt
parts_held P (list (tree (vector us p) ts) tail o) l = tt

head_held : (P : Ident → Type 0) (r : RulesParts Ident) → Held parts_kind P r → P r.head
head_held P r h = subst (λ (x : RulesParts Ident). P x.head) h.same h.made.head.1

module _ (w : Era) (known : Known) (fs : Frames) (Inside : ScopedState → Bool → List Number → Type 0) (Trail : ScopedState → ScopedState → Type 0) (Leaf : ScopedState → Ident → Type 0) (PlaceIn : ScopedState → FramedIdent → Type 0) (RuleLeaf : ScopedState → Transformer Frames Ident → Ident → Type 0) (Ended : ScopedState → List (Note FramedIdent) → List (Note Name) → Type 0)
    (facts : PlaceFacts w known fs Inside Trail Leaf PlaceIn RuleLeaf Ended) (f : CodeGo w known fs Inside Trail Leaf PlaceIn RuleLeaf Ended) (g : ModelGo w known fs Inside Trail Leaf PlaceIn RuleLeaf Ended) (law : RunLaw w known fs Inside Trail Leaf PlaceIn RuleLeaf Ended f g) (here : Here) where
  abbrev seen : ScopedState → Pending Ident FramedIdent → Pending Name Name
  seen t p = seen_pending w known fs Inside Trail Leaf PlaceIn RuleLeaf Ended t p

  abbrev HeldAt : ScopedState → Pending Ident FramedIdent → Type 0
  HeldAt t p = PendingHeld (Leaf t) (PlaceIn t) p

  abbrev Both : Pass Ident FramedIdent × ScopedState → Pass Name Name × State → Type 0
  Both q m = Together w known fs Inside Trail Leaf PlaceIn RuleLeaf Ended q m

  -- a later state that changes no older image
  abbrev Grown : ScopedState → ScopedState → Bool → List Number → Type 0
  Grown s t i n = Inside t i n × Grows w s t

  -- what holds Leaf, and what it is on the definition's side
  abbrev SeenHeld : (k : Kind) → ScopedState → k.of Ident → k.of Name → Type 0
  SeenHeld k t a b = Held k (Leaf t) a × (b ≡ k.map Ident Name (names t fs) a)

  -- ---- rules

  module _ (s : ScopedState) (i : Bool) (n : List Number) (k : Inside s i n) where
    some_parts : (o : Option (RulesParts Ident)) → IfMacro (Held parts_kind (Leaf s)) o → Agrees (Grown s) (SeenHeld parts_kind) (rules_parts (scoped known) here fs o s) (rules_parts (model known) here tt (option_map (parts_map (names s fs)) o) (view i n s))
    some_parts None m = break (record { fault = BadForm; here = here }) s i n refl refl (k, grows_itself w s)
    some_parts (Some r) m =
        agrees_at refl (ap (λ (h : Head). cond (is_rules h) (done (parts_map (names s fs) r) (view i n s)) (fails here BadForm (view i n s))) (head_seen w known s (facts.fine s i n k) i n fs r.head)) (go (is_rules (head_of (scoped known) fs s r.head)))
      where
        go : (t : Bool) → Agrees (Grown s) (SeenHeld parts_kind) (cond t (done r s) (fails here BadForm s)) (cond t (done (parts_map (names s fs) r) (view i n s)) (fails here BadForm (view i n s)))
        go true = agree r (parts_map (names s fs) r) s i n refl refl (k, grows_itself w s) (m, refl)
        go false = break (record { fault = BadForm; here = here }) s i n refl refl (k, grows_itself w s)

    parts_law : (t : Tree Ident) → TreeAll (Leaf s) t → Agrees (Grown s) (SeenHeld parts_kind) (rules_parts (scoped known) here fs (rules_parts_of t) s) (rules_parts (model known) here tt (rules_parts_of (map_tree (names s fs) t)) (view i n s))
    parts_law t l = agrees_at refl (ap (λ o. rules_parts (model known) here tt o (view i n s)) (parts_of-map (names s fs) t)) (some_parts (rules_parts_of t) (parts_held (Leaf s) t l))

    told_fault : (y : Fault Ident) → fault_map erase (fault_map (names s fs) y) ≡ fault_map (λ j. j) y
    told_fault y = faults_fused Ident Name Ident erase (names s fs) y ∙ ap (λ (c : Ident → Ident). fault_map c y) (pointwise (λ j. erase (names s fs j)) (λ j. j) (λ j. erase_frame_image s.places s.definitions fs j))

    read_agrees : (l : Kind) (r : Result (l.of Ident) (Fault Ident)) (r' : Result (l.of Name) (Fault Name)) → ReadTo l (Leaf s) (names s fs) r r' → Agrees (Grown s) (SeenHeld l) (given (λ j. j) here r s) (given erase here r' (view i n s))
    read_agrees l r r' (read_to a e d q) = agree a (l.map Ident Name (names s fs) a) s i n (ap (λ x. given (λ j. j) here x s) e) (ap (λ x. given erase here x (view i n s)) d) (k, grows_itself w s) (q, refl)
    read_agrees l r r' (read_broken z e d) =
        break (record { fault = fault_map (λ j. j) z; here = here }) s i n (ap (λ x. given (λ j. j) here x s) e)
        (ap (λ x. given erase here x (view i n s)) d ∙ ap (λ (y : Fault Ident). (Err (record { fault = y; here = here }), view i n s)) (told_fault z)) (k, grows_itself w s)

  -- rules are counted, and then read
  rules_law : (c : Ident → Name) (t : Tree Ident) (a : RulesParts Ident) (b : RulesParts Name) (s : ScopedState) (i : Bool) (n : List Number) → Inside s i n → SeenHeld parts_kind s a b
      → Agrees (Grown s) (SeenHeld rules_kind) (rules_at (scoped known) here t a s) (rules_at (model known) here (map_tree c t) b (view i n s))
  rules_law c t a b s i n k q =
      agrees_at refl (let z = size-map Ident Name c t in let e = q.1 in λ j. counting (model known) here (z j) (view i n s) >>= λ u. given erase here (rules_of model_names (e j).parts (e j).tail))
      (go (nat_le (s.nodes s.form + tree_size t) max_nodes))
    where
      budget : {S : Type 0} → Bool → S → S → Result (Unit {0}) Broken × S
      budget u after v = cond u (done tt after) (fails here NodeBudget v)

      read_then_ : (x : Clock) → Agrees (Grown s) (SeenHeld rules_kind) (given (λ j. j) here (rules_of identifiers a.parts a.tail) (record s { nodes = x })) (given erase here (rules_of model_names (parts_map (names s fs) a).parts (parts_map (names s fs) a).tail) (view i n (record s { nodes = x })))
      read_then_ x =
          read_agrees (record s { nodes = x }) i n (facts.still s i n x s.keywords s.met k) rules_kind (rules_of identifiers a.parts a.tail) (rules_of model_names (parts_map (names s fs) a).parts (parts_map (names s fs) a).tail)
          (read_held parts_kind rules_kind rules_reader (Leaf (record s { nodes = x })) (names s fs) (named_in s fs) a (held_more parts_kind (Leaf s) (Leaf (record s { nodes = x })) (facts.leaf_later s (record s { nodes = x }) i n k (grows_itself w s)) a q.0))

      go : (u : Bool) → Agrees (Grown s) (SeenHeld rules_kind) (budget u (record s { nodes = at_form s.form (λ m. m + tree_size t) s.nodes }) s >>= λ v. given (λ j. j) here (rules_of identifiers a.parts a.tail))
          (budget u (view i n (record s { nodes = at_form s.form (λ m. m + tree_size t) s.nodes })) (view i n s) >>= λ v. given erase here (rules_of model_names (parts_map (names s fs) a).parts (parts_map (names s fs) a).tail))
      go true = read_then_ (at_form s.form (λ m. m + tree_size t) s.nodes)
      go false = break (record { fault = NodeBudget; here = here }) s i n refl refl (k, grows_itself w s)

  -- ---- a definition of a macro

  -- the look-up of the head of rules
  note_seen : (s : ScopedState) (i : Bool) (n : List Number) → Inside s i n → (o : Option (RulesParts Ident)) → rules_note (model known) tt (view i n s) (option_map (parts_map (names s fs)) o) ≡ map (note_map (placed s)) (rules_note (scoped known) fs s o)
  note_seen s i n k None = refl
  note_seen s i n k (Some r) = ap (λ (h : Head). LookedUp (names s fs r.head) false (is_keyword h) ∷ []) (head_seen w known s (facts.fine s i n k) i n fs r.head)

  note_held : (s : ScopedState) (i : Bool) (n : List Number) → Inside s i n → (o : Option (RulesParts Ident)) → IfMacro (Held parts_kind (Leaf s)) o → AllOf (NoteAll (PlaceIn s)) (rules_note (scoped known) fs s o)
  note_held s i n k None m = tt
  note_held s i n k (Some r) m = (facts.here s i n k r.head (head_held (Leaf s) r m), tt)

  module _ (s : ScopedState) (i : Bool) (n : List Number) (k : Inside s i n) (p : Pending Ident FramedIdent) (h : HeldAt s p) where
    -- what a macro's definition leaves: its binder, and what is left
    abbrev MacroLeft : ScopedState → Binder × Pending Ident FramedIdent → Binder × Pending Name Name → Type 0
    MacroLeft t a b = (b.0 ≡ a.0) × HeldAt t a.1 × (b.1 ≡ seen t a.1)

    define_macro : (x : Named Ident) → Leaf s x.name → (t : ScopedState) (i1 : Bool) (n1 : List Number) → Inside t i1 n1 → Grows w s t → (a : Rules Ident) (b : Rules Name) → SeenHeld rules_kind t a b → (q : Pending Ident FramedIdent) → HeldAt s q
        → Agrees (On w known fs Inside Trail Leaf PlaceIn RuleLeaf Ended t) MacroLeft (told here ((scoped known).define x (Some a) fs q t) >>= λ made. done (binder_at (scoped known) fs t x, made.pending))
        (told here ((model known).define (named_map (names s fs) x) (Some b) tt (seen s q) (view i1 n1 t)) >>= λ made. done (binder_at (model known) tt (view i1 n1 t) (named_map (names s fs) x), made.pending))
    define_macro x l t i1 n1 k1 gr a b e q hq =
        let later = names_later w s t (facts.fine s i n k) gr fs (facts.stands s i n k) in
        let leaf = λ (y : Ident) (m : Leaf s y). later y (facts.below s i n k y m) in
        let y = leaf x.name l in
        let ps = pending_same (Leaf s) (PlaceIn s) (names s fs) (names t fs) (placed s) (placed t) leaf (facts.placed_later s t i n k gr) q hq in
        agrees_bind _
        (agrees_at refl (λ j. told here ((model known).define (named (y j) x.occ) (Some (e.1 j)) tt (ps j) (view i1 n1 t)))
        (facts.defines t i1 n1 k1 here x (facts.leaf_later s t i n k gr x.name l) (Some a) e.0 q (pending_more (Leaf s) (Leaf t) (PlaceIn s) (PlaceIn t) (facts.leaf_later s t i n k gr) (facts.place_later s t i n k gr) q hq)))
        (λ c d v i2 n2 k2 r. agree (binder_at (scoped known) fs t x, c.pending) (binder_at (model known) tt (view i1 n1 t) (named_map (names s fs) x), d.pending) v i2 n2 refl refl k2
        ((let z = facts.bound t i1 n1 k1 in let u = erase_frame_image s.places s.definitions fs x.name in λ j. record { bound = z j; ident = u j; occ = x.occ }), r.held, r.seen))

    syntax_over : (d : Named (Holding (Leaf s)) × Tree (Holding (Leaf s)))
        → Both (run_syntax (scoped known) f here fs p (named_map (held (Leaf s)) d.0, map_tree (held (Leaf s)) d.1) s)
        (run_syntax (model known) g here tt (seen s p) (named_map (names s fs) (named_map (held (Leaf s)) d.0), map_tree (names s fs) (map_tree (held (Leaf s)) d.1)) (view i n s))
    syntax_over d =
        together_at w known fs Inside Trail Leaf PlaceIn RuleLeaf Ended refl
        (λ j. caught {B = Binder × Pending Name Name} (noting j).notes
        (rules_parts (model known) here tt (rules_parts_of (map_tree (names s fs) (map_tree (held (Leaf s)) d.1))) (view i n s) >>= λ r t0. rules_at (model known) here (map_tree (names s fs) (map_tree (held (Leaf s)) d.1)) r t0 >>= λ rules t. told here ((model known).define (named_map (names s fs) (named_map (held (Leaf s)) d.0)) (Some rules) tt (noting j) t) >>= λ made. done (binder_at (model known) tt t (named_map (names s fs) (named_map (held (Leaf s)) d.0)), made.pending))
        (λ r. g (put (Macro r.0 here) r.1)))
        (caught_law w known fs Inside Trail Leaf PlaceIn RuleLeaf Ended facts s i n k (noted (rules_note (scoped known) fs s (rules_parts_of (map_tree (held (Leaf s)) d.1))) p).notes hq.2 (λ r. f (put (Macro r.0 here) r.1)) (λ r. g (put (Macro r.0 here) r.1))
        (grown_bind w known fs Inside Trail Leaf PlaceIn RuleLeaf Ended facts f g law here s _ (parts_law s i n k (map_tree (held (Leaf s)) d.1) (all_held (Leaf s) d.1)) (λ a b t i1 n1 k1 gr e.
        grown_bind w known fs Inside Trail Leaf PlaceIn RuleLeaf Ended facts f g law here t _ (rules_law (names s fs) (map_tree (held (Leaf s)) d.1) a b t i1 n1 k1 e) (λ c c' v i2 n2 k2 gr2 e2.
        define_macro (named_map (held (Leaf s)) d.0) d.0.name.1 v i2 n2 k2 (grows_then w s t v gr gr2) c c' e2 (noted (rules_note (scoped known) fs s (rules_parts_of (map_tree (held (Leaf s)) d.1))) p) hq)))
        (λ a b t i1 n1 k1 e.
        together_at w known fs Inside Trail Leaf PlaceIn RuleLeaf Ended refl (λ j. g (put (Macro (e.0 j) here) (e.2 j)) (view i1 n1 t))
        (put_law w known fs Inside Trail Leaf PlaceIn RuleLeaf Ended facts f g law t i1 n1 k1 a.1 e.1 (Macro a.0 here) (record { made = Macro a.0 here; same = refl }, tt))))
      where
        hq : HeldAt s (noted (rules_note (scoped known) fs s (rules_parts_of (map_tree (held (Leaf s)) d.1))) p)
        hq = noted_held (Leaf s) (PlaceIn s) (rules_note (scoped known) fs s (rules_parts_of (map_tree (held (Leaf s)) d.1))) p (note_held s i n k (rules_parts_of (map_tree (held (Leaf s)) d.1)) (parts_held (Leaf s) (map_tree (held (Leaf s)) d.1) (all_held (Leaf s) d.1))) h

        noting : noted (rules_note (model known) tt (view i n s) (rules_parts_of (map_tree (names s fs) (map_tree (held (Leaf s)) d.1)))) (seen s p) ≡ seen s (noted (rules_note (scoped known) fs s (rules_parts_of (map_tree (held (Leaf s)) d.1))) p)
        noting =
            ap (λ ns. noted ns (seen s p)) (ap (rules_note (model known) tt (view i n s)) (parts_of-map (names s fs) (map_tree (held (Leaf s)) d.1)) ∙ note_seen s i n k (rules_parts_of (map_tree (held (Leaf s)) d.1)))
            ∙ noted_seen (names s fs) (placed s) (rules_note (scoped known) fs s (rules_parts_of (map_tree (held (Leaf s)) d.1))) p

    pub syntax_law : (d : Named Ident × Tree Ident) → Held named_tree_kind (Leaf s) d → Both (run_syntax (scoped known) f here fs p d s) (run_syntax (model known) g here tt (seen s p) (named_map (names s fs) d.0, map_tree (names s fs) d.1) (view i n s))
    syntax_law d m = subst (λ (e : Named Ident × Tree Ident). Both (run_syntax (scoped known) f here fs p e s) (run_syntax (model known) g here tt (seen s p) (named_map (names s fs) e.0, map_tree (names s fs) e.1) (view i n s))) m.same (syntax_over m.made)
