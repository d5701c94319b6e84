-- The law of units: both sides go through the forms in order, and then expand what each set aside, to the same.
use Rattle.std.proofs.Common.{◌≡◌, ℕ, ◌+◌, List, [], ◌∷◌, map, Bool, false, Option, Some, None, Result, Ok, Err, refl, sym, ap, ◌∙◌, subst}
use Rattle.scheme_model.specs.Identifiers.{Number, Name}
use Rattle.scheme_model.specs.Ident.{Ident}
use Rattle.scheme_model.specs.Trees.{Tree, map_tree}
use Rattle.scheme_model.specs.Requirements.{Known}
use Rattle.scheme_model.specs.Cores.{no_parts, Part}
use Rattle.scheme_model.specs.Steps.{Broken}
use Rattle.scheme_model.specs.Order.{Item, Left, Note, Pass, run}
use Rattle.scheme_model.specs.Expression.{Expander, expand, item_part}
use Rattle.scheme_model.specs.UnitExpansion.{Formed, max_depth, Work, ◌then◌, going, nodes_in, unless_over, one_form, passes, with_part, before_parts, items_parts, form_parts, finished, unit}
use Rattle.scheme_model.specs.Substitution.{State, Clock, item_map, note_map, model}
use Rattle.scheme_model.specs.ScopedExpansion.{Frames, FramedIdent, ScopedState, scoped}
use Rattle.scheme_model.proofs.OpenBodies.{Leq}
use Rattle.model_laws.proofs.FrameEras.{Era, Below, below_more}
use Rattle.model_laws.proofs.IdentKinds.{item_kind}
use Rattle.model_laws.proofs.FrameAsks.{AllOf, all_of_more}
use Rattle.model_laws.proofs.FrameStates.{names, view, made_later, FineState, Grows, grows_itself, grows_then, names_later}
use Rattle.model_laws.proofs.FrameLeaves.{TreeAll, tree_more, tree_same, held_made}
use Rattle.model_laws.proofs.FrameAgrees.{agree, break, Same}
use Rattle.model_laws.proofs.FrameUses.{placed, meet_all_seen, met_later}
use Rattle.model_laws.proofs.FrameHeld.{NoteAll, ItemHeld, left_map, LeftHeld, left_more, left_same, all_same}
use Rattle.model_laws.proofs.FramePlaces.{Came, came, broke, Together}
use Rattle.model_laws.proofs.FrameForms.{forms_law}
use Rattle.model_laws.proofs.FrameItems.{ItemMade, item_law, items_still}
use Rattle.model_laws.proofs.FrameExpressions.{WholeLaw, BodyLaw}
use Rattle.model_laws.proofs.FrameWhole.{expand_law}
use Rattle.model_laws.proofs.UnitEnds.{Both, both_end, both_go, both_at, both_then, both_over}
use Rattle.model_laws.proofs.FrameUnit.{UnitLeaf, UnitPlace, UnitRule, UnitState, UnitInside, Noted, unit_facts, leaf_later}

-- what is left of a form, or its fault
abbrev pub Aside : Type 0 → Type 0
Aside A = Result (Left A) Broken

abbrev pub aside_seen : (Ident → Name) → Aside Ident → Aside Name
aside_seen f (Ok l) = Ok (left_map f l)
aside_seen f (Err e) = Err e

abbrev pub set_seen : (Ident → Name) → ℕ × Aside Ident → ℕ × Aside Name
set_seen f r = (r.0, aside_seen f r.1)

-- the forms of a unit with their numbers
abbrev pub form_seen : (Ident → Name) → ℕ × Tree Ident → ℕ × Tree Name
form_seen f t = (t.0, map_tree f t.1)

module _ (w : Era) where
  abbrev pub AsideMade : Clock → Aside Ident → Type 0
  AsideMade u (Ok l) = LeftHeld (Below w u) l
  AsideMade u (Err e) = Unit {0}

  abbrev pub SetMade : Clock → ℕ × Aside Ident → Type 0
  SetMade u r = AsideMade u r.1

  aside_more : (u v : Clock) → Leq u v → (r : Aside Ident) → AsideMade u r → AsideMade v r
  aside_more u v le (Ok l) h = left_more (Below w u) (Below w v) (below_more w u v le) l h
  aside_more u v le (Err e) h = tt

  aside_same : (u : Clock) (f g : Ident → Name) → ((i : Ident) → Below w u i → f i ≡ g i) → (r : Aside Ident) → AsideMade u r → aside_seen f r ≡ aside_seen g r
  aside_same u f g e (Ok l) h = ap Ok (left_same (Below w u) f g e l h)
  aside_same u f g e (Err x) h = refl

  sets_more : (u v : Clock) → Leq u v → (rs : List (ℕ × Aside Ident)) → AllOf (SetMade u) rs → AllOf (SetMade v) rs
  sets_more u v le rs h = all_of_more (SetMade u) (SetMade v) (λ r q. aside_more u v le r.1 q) rs h

  sets_same : (u : Clock) (f g : Ident → Name) → ((i : Ident) → Below w u i → f i ≡ g i) → (rs : List (ℕ × Aside Ident)) → AllOf (SetMade u) rs → map (set_seen f) rs ≡ map (set_seen g) rs
  sets_same u f g e rs h = all_same (SetMade u) (set_seen f) (set_seen g) (λ r q. ap (λ (x : Aside Name). (r.0, x)) (aside_same u f g e r.1 q)) rs h

module _ (w : Era) (known : Known) where
  abbrev pub FormHeld : ScopedState → ℕ × Tree Ident → Type 0
  FormHeld s t = TreeAll (UnitLeaf w known s) t.1

  -- ---- a form gone through

  pub record Passed (s : ScopedState) (q : Pass Ident FramedIdent × ScopedState) (m : Pass Name Name × State) : Type 0 where
    pub in_body : Bool
    pub mine : List Number
    pub unit_state : UnitState w known q.1
    pub grows : Grows w s q.1
    pub state : m.1 ≡ view in_body mine q.1
    pub left : m.0.left ≡ aside_seen (names q.1 []) q.0.left
    pub made : AsideMade w q.1.uses q.0.left
    pub stood : AllOf (NoteAll (UnitPlace w known q.1)) q.0.notes
    pub notes : m.0.notes ≡ map (note_map (placed q.1)) q.0.notes

  pub passed : (s : ScopedState) (q : Pass Ident FramedIdent × ScopedState) (m : Pass Name Name × State)
      → Together w known [] (UnitInside w known s) (Grows w) (UnitLeaf w known) (UnitPlace w known) (UnitRule w known) (Noted w known s) q m → Passed s q m
  passed s q m h = go h.came_to
    where
      go : Came w known [] (UnitInside w known s) (Grows w) (UnitLeaf w known) (UnitPlace w known) (UnitRule w known) (Noted w known s) q.1 q.0 m.0 → Passed s q m
      go (came l e d hx hn z) = record {
        in_body = h.in_body;
        mine = h.mine;
        unit_state = h.inside.0;
        grows = h.inside.2;
        state = h.state;
        left = d ∙ ap (aside_seen (names q.1 [])) (sym e);
        made = subst (AsideMade w q.1.uses) (sym e) (left_more (UnitLeaf w known q.1) (Below w q.1.uses) (λ y h. h.0) l hx);
        stood = hn;
        notes = z;
      }
      go (broke x e d k) = record {
        in_body = h.in_body;
        mine = h.mine;
        unit_state = h.inside.0;
        grows = h.inside.2;
        state = h.state;
        left = d ∙ ap (aside_seen (names q.1 [])) (sym e);
        made = subst (AsideMade w q.1.uses) (sym e) tt;
        stood = k.stood;
        notes = k.same;
      }

  abbrev pub Sets : Type 0 → Type 0
  Sets A = List (ℕ × Aside A)

  -- a state that both sides reach
  abbrev pub Reached : ScopedState → State → Type 0
  Reached s t = (in_body : Bool) × (mine : List Number) × FineState w s × (t ≡ view in_body mine s)

  -- and one that keeps what was there before
  abbrev pub Kept : ScopedState → ScopedState → State → Type 0
  Kept s0 s t = Reached s t × Grows w s0 s

  -- both give the same there
  abbrev pub Gives : {X : Type 0} → ScopedState → ScopedState → State → X → X → Type 0
  Gives s0 s t x y = Kept s0 s t × (y ≡ x)

  abbrev pub turned : ℕ → ScopedState → ScopedState
  turned form s = record s { form = form }

  -- ---- the whole unit

  pub record AllFormed {F : Type 0} (q : F × ScopedState) (m : F × State) : Type 0 where
    pub in_body : Bool
    pub mine : List Number
    pub fine : FineState w q.1
    pub state : m.1 ≡ view in_body mine q.1
    pub forms : m.0 ≡ q.0

  all_formed : {X : Type 0} (s0 : ScopedState) {q : Option X × ScopedState} {m : Option X × State} → Both Reached (Gives s0) q m → AllFormed q m
  all_formed {X} s0 {q} {m} (both_end s t e d h) =
      subst (λ (x : Option X × ScopedState). AllFormed x m) (sym e) (subst (AllFormed (None, s)) (sym d) (record { in_body = h.0; mine = h.1; fine = h.2; state = h.3; forms = refl }))
  all_formed {X} s0 {q} {m} (both_go x y s t e d h) =
      subst (λ (z : Option X × ScopedState). AllFormed z m) (sym e) (subst (AllFormed (Some x, s)) (sym d) (record { in_body = h.0.0.0; mine = h.0.0.1; fine = h.0.0.2; state = h.0.0.3; forms = ap Some h.1 }))

  module _ (turns : ℕ) (fs : List ℕ) where
    alike : (xs : List ℕ) (i : Bool) (n : List Number) (s : ScopedState) → nodes_in (model known) xs (view i n s) ≡ nodes_in (scoped known) xs s
    alike [] i n s = refl
    alike (x ∷ xs) i n s = ap (λ m. s.nodes x + m) (alike xs i n s)

    alike_at : (i : Bool) (n : List Number) (s : ScopedState) (t : State) → t ≡ view i n s → nodes_in (model known) fs t ≡ nodes_in (scoped known) fs s
    alike_at i n s t e = ap (nodes_in (model known) fs) e ∙ alike fs i n s

    -- ---- all forms gone through

    -- what forms left, in a state that keeps what was there
    abbrev pub PassedTo : ScopedState → ScopedState → State → Sets Ident → Sets Name → Type 0
    PassedTo s0 s t x y = Kept s0 s t × UnitState w known s × (y ≡ map (set_seen (names s [])) x) × AllOf (SetMade w s.uses) x

    abbrev PassesLaw : List (ℕ × Tree Ident) → Type 0
    PassesLaw ts = (ns : List (Note FramedIdent)) (s : ScopedState) (i : Bool) (n : List Number) → UnitState w known s → AllOf (FormHeld s) ts → AllOf (NoteAll (UnitPlace w known s)) ns
        → Both Reached (PassedTo s) (passes (scoped known) turns [] fs ts ns s) (passes (model known) turns tt fs (map (form_seen (names s [])) ts) (map (note_map (placed s)) ns) (view i n s))

    forms_still : (s t : ScopedState) → FineState w s → Grows w s t → (ts : List (ℕ × Tree Ident)) → AllOf (FormHeld s) ts → map (form_seen (names s [])) ts ≡ map (form_seen (names t [])) ts
    forms_still s t f g ts h =
        all_same (FormHeld s) (form_seen (names s [])) (form_seen (names t [])) (λ x q. ap (λ (y : Tree Name). (x.0, y)) (tree_same (UnitLeaf w known s) (names s []) (names t []) (λ i l. names_later w s t f g [] (tt, tt) i l.0) x.1 q)) ts h

    pub forms_later : (s t : ScopedState) → Grows w s t → (ts : List (ℕ × Tree Ident)) → AllOf (FormHeld s) ts → AllOf (FormHeld t) ts
    forms_later s t g ts h = all_of_more (FormHeld s) (FormHeld t) (λ x q. tree_more (UnitLeaf w known s) (UnitLeaf w known t) (leaf_later w known s t g) x.1 q) ts h

    -- the forms behind one that was gone through
    abbrev then_scoped : ℕ → List (ℕ × Tree Ident) → Pass Ident FramedIdent → Work ScopedState (Sets Ident)
    then_scoped form ts q t = passes (scoped known) turns [] fs ts q.notes t then λ rest. going ((form, q.left) ∷ rest)

    abbrev then_model : ℕ → List (ℕ × Tree Name) → Pass Name Name → Work State (Sets Name)
    then_model form ts q t = passes (model known) turns tt fs ts q.notes t then λ rest. going ((form, q.left) ∷ rest)

    then_law : (form : ℕ) (ts : List (ℕ × Tree Ident)) → PassesLaw ts → (s : ScopedState) → FineState w s → AllOf (FormHeld s) ts → (q : Pass Ident FramedIdent × ScopedState) (m : Pass Name Name × State) → Passed s q m
        → Both Reached (PassedTo s) (then_scoped form ts q.0 q.1) (then_model form (map (form_seen (names s [])) ts) m.0 m.1)
    then_law form ts law s f h q m p =
        let a = forms_still s q.1 f p.grows ts h in
        let b = p.notes in
        let c = p.state in
        both_at refl (λ j. passes (model known) turns tt fs (a j) (b j) (c j) then λ rest. going ((form, m.0.left) ∷ rest))
        (both_then _ _ (law q.0.notes q.1 p.in_body p.mine p.unit_state (forms_later s q.1 p.grows ts h) p.stood) (λ xs ys v t k.
        let x = p.left ∙ aside_same w q.1.uses (names q.1 []) (names v []) (names_later w q.1 v p.unit_state.fine k.0.1 [] (tt, tt)) q.0.left p.made in
        let y = k.2 in
        both_go ((form, q.0.left) ∷ xs) ((form, m.0.left) ∷ ys) v t refl refl
        ((k.0.0, grows_then w s q.1 v p.grows k.0.1), k.1, (λ j. (form, x j) ∷ y j), (aside_more w q.1.uses v.uses k.0.1.uses q.0.left p.made, k.3))))

    turned_unit : (form : ℕ) (s : ScopedState) → UnitState w known s → UnitState w known (turned form s)
    turned_unit form s k = record { fine = k.fine; entries = k.entries }

    pub passes_law : (ts : List (ℕ × Tree Ident)) → PassesLaw ts
    passes_law [] ns s i n k h l = both_go [] [] s (view i n s) refl refl (((i, n, k.fine, refl), grows_itself w s), k, refl, tt)
    passes_law (t ∷ ts) ns s i n k h l =
        let s1 = turned t.0 s in
        let q = run (scoped known) turns [] (one_form t.1 ns) s1 in
        let m = run (model known) turns tt (one_form (map_tree (names s []) t.1) (map (note_map (placed s)) ns)) (view false n s1) in
        let p = passed s1 q m (forms_law w known [] (UnitInside w known s1) (Grows w) (UnitLeaf w known) (UnitPlace w known) (UnitRule w known) (Noted w known s1) (unit_facts w known s1) turns (one_form t.1 ns) s1 false n (turned_unit t.0 s k, refl, grows_itself w s1) ((h.0, tt), tt, l, tt)) in
        both_then {Going = λ v u x y. Passed s1 (x, v) (y, u)} (then_scoped t.0 ts) (then_model t.0 (map (form_seen (names s [])) ts))
        (both_over (scoped known) (model known) fs q m (alike_at p.in_body p.mine q.1 m.1 p.state) (p.in_body, p.mine, p.unit_state.fine, p.state) p)
        (λ x y v u p1. then_law t.0 ts (passes_law ts) s1 k.fine h.1 (x, v) (y, u) p1)

    -- ---- what was set aside, expanded

    abbrev F : Expander Frames Ident ScopedState
    F = expand (scoped known) turns

    abbrev G : Expander (Unit {0}) Name State
    G = expand (model known) turns

    whole_law : WholeLaw w known F G
    whole_law = (expand_law w known turns).0

    body_law : BodyLaw w known F G
    body_law = (expand_law w known turns).1

    abbrev Made_so : Clock → Item Ident → Type 0
    Made_so u x = ItemMade w known F G whole_law body_law max_depth [] u x

    -- an item's part, unless the forms count too many
    part_law : (s : ScopedState) {q : Result Part Broken × ScopedState} {m : Result Part Broken × State} → Same w s q m → Both Reached (Gives s) (unless_over (scoped known) fs q) (unless_over (model known) fs m)
    part_law s (agree a b t i n e d k z) =
        both_at (ap (unless_over (scoped known) fs) e) (ap (unless_over (model known) fs) d) (both_over (scoped known) (model known) fs (Ok a, t) (Ok b, view i n t) (alike fs i n t) (i, n, k.0, refl) (((i, n, k.0, refl), k.1), sym (ap Ok z)))
    part_law s (break x t i n e d k) =
        both_at (ap (unless_over (scoped known) fs) e) (ap (unless_over (model known) fs) d) (both_over (scoped known) (model known) fs (Err x, t) (Err x, view i n t) (alike fs i n t) (i, n, k.0, refl) (((i, n, k.0, refl), k.1), refl))

    abbrev ItemsLaw : List (Item Ident) → Type 0
    ItemsLaw xs = (s : ScopedState) → FineState w s → (i : Bool) (n : List Number) → AllOf (Made_so s.uses) xs
        → Both Reached (Gives s) (items_parts (scoped known) fs (item_part F (scoped known) max_depth []) xs s) (items_parts (model known) fs (item_part G (model known) max_depth tt) (map (item_map (names s [])) xs) (view i n s))

    items_law : (xs : List (Item Ident)) → ItemsLaw xs
    items_law [] s f i n h = both_go (Ok no_parts) (Ok no_parts) s (view i n s) refl refl (((i, n, f, refl), grows_itself w s), refl)
    items_law (x ∷ xs) s f i n h = both_then _ _ (part_law s (item_law w known F G whole_law body_law max_depth [] x s f i n (tt, tt) h.0)) (next (items_law xs))
      where
        next : ItemsLaw xs → (p p' : Result Part Broken) (v : ScopedState) (t : State) → Gives s v t p p'
            → Both Reached (Gives s) (before_parts (items_parts (scoped known) fs (item_part F (scoped known) max_depth []) xs) p v) (before_parts (items_parts (model known) fs (item_part G (model known) max_depth tt) (map (item_map (names s [])) xs)) p' t)
        next law p p' v t k = both_at refl (ap (λ z. before_parts (items_parts (model known) fs (item_part G (model known) max_depth tt) (map (item_map (names s [])) xs)) z t) k.1) (go p)
          where
            go : (z : Result Part Broken) → Both Reached (Gives s) (before_parts (items_parts (scoped known) fs (item_part F (scoped known) max_depth []) xs) z v) (before_parts (items_parts (model known) fs (item_part G (model known) max_depth tt) (map (item_map (names s [])) xs)) z t)
            go (Err e) = both_go (Err e) (Err e) v t refl refl (k.0, refl)
            go (Ok y) =
                let a = items_still w known F G whole_law body_law max_depth [] s v f k.0.1 (tt, tt) xs h.1 in let b = k.0.0.3 in
                both_at refl (λ j. items_parts (model known) fs (item_part G (model known) max_depth tt) (a j) (b j) then λ r. going (with_part y r))
                (both_then _ _ (law v k.0.0.2 k.0.0.0 k.0.0.1 (all_of_more (Made_so s.uses) (Made_so v.uses) (λ z q. (made_later item_kind w s.uses v.uses k.0.1.uses z q.0, q.1)) xs h.1)) (λ r r' u t1 k1.
                both_go (with_part y r) (with_part y r') u t1 refl refl ((k1.0.0, grows_then w s v u k.0.1 k1.0.1), ap (with_part y) k1.1)))

    pub aside_law : (r : Aside Ident) (s : ScopedState) → FineState w s → (i : Bool) (n : List Number) → AsideMade w s.uses r
        → Both Reached (Gives s) (form_parts (scoped known) F [] fs r s) (form_parts (model known) G tt fs (aside_seen (names s []) r) (view i n s))
    aside_law (Err e) s f i n h = both_go (Err e) (Err e) s (view i n s) refl refl (((i, n, f, refl), grows_itself w s), refl)
    aside_law (Ok l) s f i n h =
        both_at refl (ap (items_parts (model known) fs (item_part G (model known) max_depth tt) (map (item_map (names s [])) l.items)) (meet_all_seen w known i n [] l.uses s f))
        (met_later known [] (λ t. Both Reached (Gives s) (items_parts (scoped known) fs (item_part F (scoped known) max_depth []) l.items t) (items_parts (model known) fs (item_part G (model known) max_depth tt) (map (item_map (names s [])) l.items) (view i n t))) l.uses s
        (λ z. items_law l.items (record s { met = z }) f i n (all_of_more (ItemHeld (Below w s.uses)) (Made_so s.uses) (λ x r. (held_made item_kind w s.uses x r.0, r.1)) l.items h.1)))

    abbrev FinishedLaw : Sets Ident → Type 0
    FinishedLaw rs = (s : ScopedState) (i : Bool) (n : List Number) → FineState w s → AllOf (SetMade w s.uses) rs
        → Both Reached (Gives s) (finished (scoped known) F [] fs rs s) (finished (model known) G tt fs (map (set_seen (names s [])) rs) (view i n s))

    pub finished_law : (rs : Sets Ident) → FinishedLaw rs
    finished_law [] s i n f h = both_go [] [] s (view i n s) refl refl (((i, n, f, refl), grows_itself w s), refl)
    finished_law (r ∷ rs) s i n f h =
        both_then _ _ (aside_law r.1 (turned r.0 s) f false n h.0) (λ x y v t k.
        let a = sets_same w s.uses (names s []) (names v []) (names_later w s v f k.0.1 [] (tt, tt)) rs h.1 in let b = k.0.0.3 in let c = k.1 in
        both_at refl (λ j. finished (model known) G tt fs (a j) (b j) then λ rest. going (record { form = r.0; result = c j; counted = (model known).counted (b j) } ∷ rest))
        (both_then _ _ (finished_law rs v k.0.0.0 k.0.0.1 k.0.0.2 (sets_more w s.uses v.uses k.0.1.uses rs h.1)) (λ ys zs u t1 k1.
        both_go (record { form = r.0; result = x; counted = (scoped known).counted v } ∷ ys) (record { form = r.0; result = x; counted = (scoped known).counted v } ∷ zs) u t1 refl refl
        ((k1.0.0, grows_then w s v u k.0.1 k1.0.1), ap (λ (q : List Formed). record { form = r.0; result = x; counted = (scoped known).counted v } ∷ q) k1.1))))

    -- ---- both in turn

    pub both_law : (ts : List (ℕ × Tree Ident)) (s : ScopedState) (i : Bool) (n : List Number) → UnitState w known s → AllOf (FormHeld s) ts
        → Both Reached (Gives s) (passes (scoped known) turns [] fs ts [] s then finished (scoped known) F [] fs) (passes (model known) turns tt fs (map (form_seen (names s [])) ts) [] (view i n s) then finished (model known) G tt fs)
    both_law ts s i n k h =
        both_then _ _ (passes_law ts [] s i n k h tt) (λ xs ys v t p.
        let a = p.2 in let b = p.0.0.3 in
        both_at refl (λ j. finished (model known) G tt fs (a j) (b j))
        (both_then_grown s v p.0.1 (finished_law xs v p.0.0.0 p.0.0.1 p.0.0.2 p.3)))
      where
        both_then_grown : {X : Type 0} (s0 v : ScopedState) → Grows w s0 v → {q : Option X × ScopedState} {m : Option X × State} → Both Reached (Gives v) q m → Both Reached (Gives s0) q m
        both_then_grown s0 v g (both_end u t e d z) = both_end u t e d z
        both_then_grown s0 v g (both_go x y u t e d z) = both_go x y u t e d ((z.0.0, grows_then w s0 v u g z.0.1), z.1)

  pub unit_law : (turns : ℕ) (ts : List (ℕ × Tree Ident)) (s : ScopedState) (i : Bool) (n : List Number) → UnitState w known s → AllOf (FormHeld s) ts
      → AllFormed (unit (scoped known) turns [] ts s) (unit (model known) turns tt (map (form_seen (names s [])) ts) (view i n s))
  unit_law turns ts s i n k h =
      subst (λ (fs : List ℕ). AllFormed (unit (scoped known) turns [] ts s) (passes (model known) turns tt fs (map (form_seen (names s [])) ts) [] (view i n s) then finished (model known) (expand (model known) turns) tt fs)) (sym (numbers_same (names s []) ts))
      (all_formed s (both_law turns (map (λ t. t.0) ts) ts s i n k h))
    where
      numbers_same : (f : Ident → Name) (us : List (ℕ × Tree Ident)) → map (λ (t : ℕ × Tree Name). t.0) (map (form_seen f) us) ≡ map (λ (t : ℕ × Tree Ident). t.0) us
      numbers_same f [] = refl
      numbers_same f (u ∷ us) = ap (λ (xs : List ℕ). u.0 ∷ xs) (numbers_same f us)
