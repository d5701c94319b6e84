-- A place whose forms are gone through, a body or a unit: what it has to give, and how both sides go on in it.
use Rattle.std.proofs.Common.{◌≡◌, ℕ, suc, ◌+◌, List, map, Bool, true, false, cond, Option, Result, Ok, Err, refl, sym, ap, ◌∙◌, subst}
use Rattle.std.specs.Prelude.{nat_le}
use Rattle.scheme_model.specs.Identifiers.{Number, Name}
use Rattle.scheme_model.specs.Ident.{Ident, Inserted, erase}
use Rattle.scheme_model.specs.Trees.{Trees, map_trees}
use Rattle.scheme_model.specs.ExpansionFaults.{Named, named_map, Fault, fault_map, NodeBudget}
use Rattle.scheme_model.specs.Requirements.{Known}
use Rattle.scheme_model.specs.RulesShape.{Rules, rules_map, option_map}
use Rattle.scheme_model.specs.Cores.{Target, MacroUse}
use Rattle.scheme_model.specs.Steps.{Broken, Step, ◌>>=◌, done, fails}
use Rattle.scheme_model.specs.Order.{Here, Form, Item, Note, Left, Pending, Renamed, Pass, Going, Transformer, binder_at, counting, given, told, forms_at, put, first, caught, splice, read_then, max_nodes}
use Rattle.scheme_model.specs.Substitution.{State, Clock, at_form, form_map, item_map, note_map, pending_map, model}
use Rattle.scheme_model.specs.ScopedExpansion.{Frames, FramedIdent, ScopedState, next_number, means_at, macro_at, scoped}
use Rattle.scheme_model.proofs.OpenBodies.{Entered}
use Rattle.model_laws.proofs.FrameEras.{Era, Before, Below}
use Rattle.model_laws.proofs.IdentKinds.{Kind, rules_kind, pointwise, faults_fused}
use Rattle.model_laws.proofs.FrameNames.{erase_frame_image}
use Rattle.model_laws.proofs.FrameAsks.{AllOf, BindersCounted}
use Rattle.model_laws.proofs.FrameStates.{names, view, FineState, Grows, grows_itself, Stands}
use Rattle.model_laws.proofs.FrameGrowth.{used_state}
use Rattle.model_laws.proofs.FrameLeaves.{TreesAll, trees_more, Held}
use Rattle.model_laws.proofs.FrameAgrees.{Agrees, agree, break, agrees_bind, agrees_more}
use Rattle.model_laws.proofs.FrameHeads.{IfMacro}
use Rattle.model_laws.proofs.FrameUses.{placed}
use Rattle.model_laws.proofs.FrameHeld.{NoteAll, FormAll, ItemHeld, PendingHeld, left_map, LeftHeld, put_seen, first_seen, forms_seen, forms_held, put_held, first_held, pending_more, ReadTo, read_to, read_broken}

-- Inside holds of the states in which the place's forms are gone through, Trail joins an earlier and a later one; Leaf holds of an
-- identifier that stands there, PlaceIn of one that was noted, RuleLeaf of one in the rules of a macro; Ended of the notes where a
-- fault ends the pass.
module _ (w : Era) (known : Known) (fs : Frames) (Inside : ScopedState → Bool → List Number → Type 0) (Trail : ScopedState → ScopedState → Type 0) (Leaf : ScopedState → Ident → Type 0) (PlaceIn : ScopedState → FramedIdent → Type 0) (RuleLeaf : ScopedState → Transformer Frames Ident → Ident → Type 0) (Ended : ScopedState → List (Note FramedIdent) → List (Note Name) → Type 0) where
  -- what the definition's side has of what is left
  abbrev pub seen_pending : ScopedState → Pending Ident FramedIdent → Pending Name Name
  seen_pending t p = pending_map (names t fs) (placed t) p

  abbrev pub HeldHere : ScopedState → Pending Ident FramedIdent → Type 0
  HeldHere t p = PendingHeld (Leaf t) (PlaceIn t) p

  abbrev pub On : ScopedState → ScopedState → Bool → List Number → Type 0
  On s t in_body mine = Inside t in_body mine × Trail s t

  -- a macro that is used here: where it was defined, what its rules hold, and what a use of it leaves
  pub record MacroHere (s : ScopedState) (in_body : Bool) (mine : List Number) (m : Transformer Frames Ident) : Type 0 where
    pub entered : Entered (Before w s.bodies) m.env
    pub binders : BindersCounted w s.locals m.env
    pub rules : Held rules_kind (RuleLeaf s m) m.rules
    pub below : (i : Ident) → RuleLeaf s m i → Below w s.uses i
    pub inserts : (i : Ident) → RuleLeaf s m i → Leaf (used_state w m.env s) (Inserted i (next_number s s.uses))
    pub place : (i : Ident) → RuleLeaf s m i → PlaceIn s (record { frames = m.env; ident = i })
    pub after : Inside (used_state w m.env s) in_body mine

  -- what a definition gives: what is left, and how names read, that stood here before
  pub record DefinesSo (s t : ScopedState) (q : Renamed Ident FramedIdent) (q' : Renamed Name Name) : Type 0 where
    pub held : HeldHere t q.pending
    pub seen : q'.pending ≡ seen_pending t q.pending
    pub plain : q.rename ≡ (λ x. x)
    pub leaf : (x : Ident) → Leaf s x → Leaf t x
    pub reads : (x : Ident) → Leaf s x → q'.rename (names s fs x) ≡ names t fs x

  -- a definition on both sides
  abbrev pub Defines : ScopedState → Bool → List Number → Type 0
  Defines s in_body mine = (here : Here) (x : Named Ident) → Leaf s x.name → (r : Option (Rules Ident)) → IfMacro (Held rules_kind (Leaf s)) r → (p : Pending Ident FramedIdent) → HeldHere s p
      → Agrees (On s) (DefinesSo s) (told here ((scoped known).define x r fs p s)) (told here ((model known).define (named_map (names s fs) x) (option_map (rules_map (names s fs)) r) tt (seen_pending s p) (view in_body mine s)))

  pub record PlaceFacts : Type 0 where
    pub fine : (s : ScopedState) (i : Bool) (n : List Number) → Inside s i n → FineState w s
    pub stands : (s : ScopedState) (i : Bool) (n : List Number) → Inside s i n → Stands w s fs
    pub below : (s : ScopedState) (i : Bool) (n : List Number) → Inside s i n → (x : Ident) → Leaf s x → Below w s.uses x
    pub here : (s : ScopedState) (i : Bool) (n : List Number) → Inside s i n → (x : Ident) → Leaf s x → PlaceIn s (record { frames = fs; ident = x })
    pub leaf_later : (s t : ScopedState) (i : Bool) (n : List Number) → Inside s i n → Grows w s t → (x : Ident) → Leaf s x → Leaf t x
    pub place_later : (s t : ScopedState) (i : Bool) (n : List Number) → Inside s i n → Grows w s t → (l : FramedIdent) → PlaceIn s l → PlaceIn t l
    pub placed_later : (s t : ScopedState) (i : Bool) (n : List Number) → Inside s i n → Grows w s t → (l : FramedIdent) → PlaceIn s l → placed s l ≡ placed t l
    -- counts alone change nothing
    pub still : (s : ScopedState) (i : Bool) (n : List Number) (x : Clock) (y : ℕ → List Target) (z : ℕ → List MacroUse) → Inside s i n → Inside (record s { nodes = x; keywords = y; met = z }) i n
    pub local : (s : ScopedState) (i : Bool) (n : List Number) → Inside s i n → Inside (record s { locals = at_form s.form suc s.locals }) i n
    pub trail : (s t : ScopedState) → Grows w s t → Trail s t
    pub trail_then : (s t v : ScopedState) → Trail s t → Trail t v → Trail s v
    pub ended : (s t : ScopedState) (i : Bool) (n : List Number) → Inside s i n → Trail s t → (ns : List (Note FramedIdent)) → AllOf (NoteAll (PlaceIn s)) ns → Ended t ns (map (note_map (placed s)) ns)
    pub assigned : (s : ScopedState) (i : Bool) (n : List Number) → Inside s i n → (x : Ident) → Leaf s x → (model known).is_assigned tt (view i n s) (names s fs x) ≡ (scoped known).is_assigned fs s x
    pub bound : (s : ScopedState) (i : Bool) (n : List Number) → Inside s i n → (model known).next_bound tt (view i n s) ≡ (scoped known).next_bound fs s
    pub defines : (s : ScopedState) (i : Bool) (n : List Number) → Inside s i n → Defines s i n
    -- a macro that an identifier here means
    pub macros : (s : ScopedState) (i : Bool) (n : List Number) → Inside s i n → (x : Ident) → Leaf s x → IfMacro (MacroHere s i n) (macro_at s.macros (means_at s fs x))

  -- ---- what a pass came to on both sides

  pub data Came (t : ScopedState) (p : Pass Ident FramedIdent) (p' : Pass Name Name) : Type 0 where
    came : (l : Left Ident) → p.left ≡ Ok l → p'.left ≡ Ok (left_map (names t fs) l) → LeftHeld (Leaf t) l → AllOf (NoteAll (PlaceIn t)) p.notes → p'.notes ≡ map (note_map (placed t)) p.notes → Came t p p'
    broke : (e : Broken) → p.left ≡ Err e → p'.left ≡ Err e → Ended t p.notes p'.notes → Came t p p'

  pub record Together (q : Pass Ident FramedIdent × ScopedState) (m : Pass Name Name × State) : Type 0 where
    pub in_body : Bool
    pub mine : List Number
    pub inside : Inside q.1 in_body mine
    pub state : m.1 ≡ view in_body mine q.1
    pub came_to : Came q.1 q.0 m.0

  pub together_at : {q q' : Pass Ident FramedIdent × ScopedState} {m m' : Pass Name Name × State} → q' ≡ q → m' ≡ m → Together q m → Together q' m'
  together_at {q} {q'} {m} {m'} e d h = subst (λ (x : Pass Ident FramedIdent × ScopedState). Together x m') (sym e) (subst (Together q) (sym d) h)

  abbrev pub CodeGo : Type 0
  CodeGo = Going Ident FramedIdent ScopedState

  abbrev pub ModelGo : Type 0
  ModelGo = Going Name Name State

  abbrev pub RunLaw : CodeGo → ModelGo → Type 0
  RunLaw f g = (p : Pending Ident FramedIdent) (s : ScopedState) (in_body : Bool) (mine : List Number) → Inside s in_body mine → HeldHere s p → Together (f p s) (g (seen_pending s p) (view in_body mine s))

  -- ---- going on

  module _ (facts : PlaceFacts) where
    trail_itself : (s : ScopedState) → Trail s s
    trail_itself s = facts.trail s s (grows_itself w s)

    pub on_bind : {A B C D : Type 0} {R : ScopedState → A → B → Type 0} {W : ScopedState → C → D → Type 0} {r : Result A Broken × ScopedState} {m : Result B Broken × State} {f : A → Step ScopedState C} (s : ScopedState) (g : B → Step State D)
        → Agrees (On s) R r m → ((a : A) (b : B) (t : ScopedState) (in_body : Bool) (mine : List Number) → Inside t in_body mine → R t a b → Agrees (On t) W (f a t) (g b (view in_body mine t))) → Agrees (On s) W (r >>= f) (m >>= g)
    on_bind {W = W} {f = f} s g h next = agrees_bind g h (λ a b t i n k q. agrees_more {K = On t} {L = On s} {R = W} {Q = W} (λ v i1 n1 l. (l.0, facts.trail_then s t v k.1 l.1)) (λ v c d x. x) (next a b t i n k.0 q))

    -- a step that may end the pass
    pub caught_law : {A B : Type 0} {R : ScopedState → A → B → Type 0} {r : Result A Broken × ScopedState} {m : Result B Broken × State} (s : ScopedState) (in_body : Bool) (mine : List Number) → Inside s in_body mine → (ns : List (Note FramedIdent)) → AllOf (NoteAll (PlaceIn s)) ns
        → (f : A → ScopedState → Pass Ident FramedIdent × ScopedState) (g : B → State → Pass Name Name × State) → Agrees (On s) R r m
        → ((a : A) (b : B) (t : ScopedState) (i : Bool) (n : List Number) → Inside t i n → R t a b → Together (f a t) (g b (view i n t)))
        → Together (caught ns r f) (caught (map (note_map (placed s)) ns) m g)
    caught_law s i0 n0 k0 ns h f g (agree a b t i n e d k q) next = together_at (ap (λ x. caught ns x f) e) (ap (λ x. caught (map (note_map (placed s)) ns) x g) d) (next a b t i n k.0 q)
    caught_law s i0 n0 k0 ns h f g (break x t i n e d k) next =
        together_at (ap (λ y. caught ns y f) e) (ap (λ y. caught (map (note_map (placed s)) ns) y g) d)
        (record { in_body = i; mine = n; inside = k.0; state = refl; came_to = broke x refl refl (facts.ended s t i0 n0 k0 k.1 ns h) })

    -- a later state in which only counts differ
    pub held_still : (s : ScopedState) (i : Bool) (n : List Number) → Inside s i n → (x : Clock) (y : ℕ → List Target) (z : ℕ → List MacroUse) (p : Pending Ident FramedIdent) → HeldHere s p → HeldHere (record s { nodes = x; keywords = y; met = z }) p
    held_still s i n k x y z p h =
        pending_more (Leaf s) (Leaf (record s { nodes = x; keywords = y; met = z })) (PlaceIn s) (PlaceIn (record s { nodes = x; keywords = y; met = z }))
        (facts.leaf_later s (record s { nodes = x; keywords = y; met = z }) i n k (grows_itself w s)) (facts.place_later s (record s { nodes = x; keywords = y; met = z }) i n k (grows_itself w s)) p h

    -- nodes are counted
    pub counted_go : (here : Here) (n : ℕ) (s : ScopedState) (i : Bool) (mine : List Number) → Inside s i mine → (ns : List (Note FramedIdent)) → AllOf (NoteAll (PlaceIn s)) ns
        → (f : Unit {0} → ScopedState → Pass Ident FramedIdent × ScopedState) (g : Unit {0} → State → Pass Name Name × State)
        → ((x : Clock) → Together (f tt (record s { nodes = x })) (g tt (view i mine (record s { nodes = x }))))
        → Together (caught ns (counting (scoped known) here n s) f) (caught (map (note_map (placed s)) ns) (counting (model known) here n (view i mine s)) g)
    counted_go here n s i mine k ns h f g next = go (nat_le (s.nodes s.form + n) max_nodes)
      where
        budget : {S : Type 0} → Bool → S → S → Result (Unit {0}) Broken × S
        budget t after s = cond t (done tt after) (fails here NodeBudget s)

        go : (t : Bool) → Together (caught ns (budget t (record s { nodes = at_form s.form (λ m. m + n) s.nodes }) s) f) (caught (map (note_map (placed s)) ns) (budget t (view i mine (record s { nodes = at_form s.form (λ m. m + n) s.nodes })) (view i mine s)) g)
        go true = next (at_form s.form (λ m. m + n) s.nodes)
        go false = record { in_body = i; mine = mine; inside = k; state = refl; came_to = broke (record { fault = NodeBudget; here = here }) refl refl (facts.ended s s i mine k (trail_itself s) ns h) }

    -- a form is read, or it ends the pass
    pub read_go : (l : Kind) (here : Here) (s : ScopedState) (i : Bool) (n : List Number) → Inside s i n → (p : Pending Ident FramedIdent) → HeldHere s p → (r : Result (l.of Ident) (Fault Ident)) (r' : Result (l.of Name) (Fault Name))
        → (f : l.of Ident → ScopedState → Pass Ident FramedIdent × ScopedState) (g : l.of Name → State → Pass Name Name × State) → ReadTo l (Leaf s) (names s fs) r r'
        → ((a : l.of Ident) → r ≡ Ok a → Held l (Leaf s) a → Together (f a s) (g (l.map Ident Name (names s fs) a) (view i n s)))
        → Together (read_then (scoped known) here p r f s) (read_then (model known) here (seen_pending s p) r' g (view i n s))
    read_go l here s i n k p h r r' f g (read_to a e d q) next =
        together_at (ap (λ x. caught p.notes (given (λ j. j) here x s) f) e) (ap (λ x. caught (map (note_map (placed s)) p.notes) (given erase here x (view i n s)) g) d) (next a e q)
    read_go l here s i n k p h r r' f g (read_broken z e d) next =
        together_at (ap (λ x. caught p.notes (given (λ j. j) here x s) f) e)
        (ap (λ x. caught (map (note_map (placed s)) p.notes) (given erase here x (view i n s)) g) d ∙ ap (λ (y : Fault Ident). (record { notes = map (note_map (placed s)) p.notes; left = Err (record { fault = y; here = here }) }, view i n s)) (told_fault z))
        (record { in_body = i; mine = n; inside = k; state = refl; came_to = broke (record { fault = fault_map (λ j. j) z; here = here }) refl refl (facts.ended s s i n k (trail_itself s) p.notes h.2) })
      where
        told_fault : (y : Fault Ident) → fault_map erase (fault_map (names s fs) y) ≡ fault_map (λ j. j) y
        told_fault y =
            faults_fused Ident Name Ident erase (names s fs) y ∙ ap (λ (c : Ident → Ident). fault_map c y) (pointwise (λ j. erase (names s fs j)) (λ j. j) (λ j. erase_frame_image s.places s.definitions fs j))

    -- ---- an item is set aside, or forms come first

    module _ (f : CodeGo) (g : ModelGo) (law : RunLaw f g) (s : ScopedState) (i : Bool) (n : List Number) (k : Inside s i n) (p : Pending Ident FramedIdent) (h : HeldHere s p) where
      pub put_law : (t : Item Ident) → ItemHeld (Leaf s) t → Together (f (put t p) s) (g (put (item_map (names s fs) t) (seen_pending s p)) (view i n s))
      put_law t q = together_at refl (ap (λ (x : Pending Name Name). g x (view i n s)) (put_seen (names s fs) (placed s) t p)) (law (put t p) s i n k (put_held (Leaf s) (PlaceIn s) t p q h))

      pub first_law : (xs : List (Form Ident)) → AllOf (FormAll (Leaf s)) xs → Together (f (first xs p) s) (g (first (map (form_map (names s fs)) xs) (seen_pending s p)) (view i n s))
      first_law xs q = together_at refl (ap (λ (x : Pending Name Name). g x (view i n s)) (first_seen (names s fs) (placed s) xs p)) (law (first xs p) s i n k (first_held (Leaf s) (PlaceIn s) xs p q h))

    pub splice_law : (f : CodeGo) (g : ModelGo) → RunLaw f g → (here : Here) (ts : Trees Ident) (s : ScopedState) (i : Bool) (n : List Number) → Inside s i n → (p : Pending Ident FramedIdent) → HeldHere s p → TreesAll (Leaf s) ts
        → Together (splice (scoped known) f here p ts s) (splice (model known) g here (seen_pending s p) (map_trees (names s fs) ts) (view i n s))
    splice_law f g law here ts s i n k p h q =
        counted_go here 1 s i n k p.notes h.2 (λ u. f (first (forms_at here ts) p)) (λ u. g (first (forms_at here (map_trees (names s fs) ts)) (seen_pending s p))) (λ x.
        together_at refl (ap (λ (zs : List (Form Name)). g (first zs (seen_pending s p)) (view i n (record s { nodes = x }))) (forms_seen (names s fs) (placed s) here ts))
        (first_law f g law (record s { nodes = x }) i n (facts.still s i n x s.keywords s.met k) p (held_still s i n k x s.keywords s.met p h) (forms_at here ts)
        (forms_held (Leaf (record s { nodes = x })) here ts (trees_later s x q))))
      where
        trees_later : (v : ScopedState) (x : Clock) → TreesAll (Leaf s) ts → TreesAll (Leaf (record s { nodes = x })) ts
        trees_later v x e = trees_more (Leaf s) (Leaf (record s { nodes = x })) (facts.leaf_later s (record s { nodes = x }) i n k (grows_itself w s)) ts e

    -- what a definition binds
    pub binder_seen : (s : ScopedState) (i : Bool) (n : List Number) → Inside s i n → (x : Named Ident) → binder_at (model known) tt (view i n s) (named_map (names s fs) x) ≡ binder_at (scoped known) fs s x
    binder_seen s i n k x = let b = facts.bound s i n k in let e = erase_frame_image s.places s.definitions fs x.name in λ j. record { bound = b j; ident = e j; occ = x.occ }
