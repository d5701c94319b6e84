-- The forms of a place, gone through in order: both sides set the same aside, note the same, and end alike.
use Rattle.std.proofs.Common.{◌≡◌, ℕ, zero, suc, List, [], ◌∷◌, map, Bool, true, false, cond, Option, Some, None, Result, Ok, refl, sym, ap, ◌∙◌, subst}
use Rattle.scheme_model.specs.Identifiers.{Number, Name, same_name, strip}
use Rattle.scheme_model.specs.Ident.{Ident, same_ident, symbol_of}
use Rattle.scheme_model.specs.Keywords.{CoreKeyword, IsQuote, IsQuasiquote, IsLambda, IsCaseLambda, IsIf, IsSet, IsBegin, IsDefine, IsDefineValues, IsDefineRecordType, IsDefineSyntax, IsLetSyntax, IsLetrecSyntax, IsCondExpand, IsSyntaxError, IsInclude}
use Rattle.scheme_model.specs.Trees.{Tree, name, atom, list, vector, Trees, no_trees, tree, Tail, map_tree, map_trees, map_tail}
use Rattle.scheme_model.specs.ExpansionFaults.{OutOfTurns}
use Rattle.scheme_model.specs.Meaning.{Meaning, Head, IsCore, IsAuxiliary, IsMacro, IsNone, is_keyword, same_meaning}
use Rattle.scheme_model.specs.Requirements.{Known, chosen_of}
use Rattle.scheme_model.specs.Shapes.{proper_of, definition_of, values_of, record_of, syntax_of}
use Rattle.scheme_model.specs.RulesShape.{Names, option_map, rules_map, role_of, dots_of}
use Rattle.scheme_model.specs.Matching.{compared}
use Rattle.scheme_model.specs.Cores.{Target}
use Rattle.scheme_model.specs.Steps.{Broken}
use Rattle.scheme_model.specs.Order.{Here, Form, Expression, Note, LookedUp, Compared, Instance, Pending, Pass, Transformer, is_some, head_of, target_of, here_at, comparisons, use_of, has_use, put, waiting, noted, first, caught, or_none, splice, read_then, run_define, run_values, run_record, run_syntax, run_core, run_use, run_head, run_form, run_next, run}
use Rattle.scheme_model.specs.Substitution.{State, at_form, form_map, model}
use Rattle.scheme_model.specs.ScopedExpansion.{Frames, FramedIdent, ScopedState, means_at, macro_at, scoped}
use Rattle.scheme_model.specs.Renaming.{Renames, pair_map}
use Rattle.model_laws.proofs.FrameEras.{Era}
use Rattle.scheme_model.proofs.RulesLaws.{role_of-map, dots_of-map}
use Rattle.scheme_model.proofs.CompareLaws.{compared-map}
use Rattle.model_laws.proofs.IdentKinds.{Kind, tree_kind, trees_kind, definition_kind, record_kind, use_kind, instance_map, instance_kind}
use Rattle.scheme_model.proofs.Distinct.{definition_distinct}
use Rattle.model_laws.proofs.FrameAsks.{AllOf}
use Rattle.model_laws.proofs.FrameStates.{names, view, Grows, grows_itself, names_later}
use Rattle.model_laws.proofs.FrameGrowth.{used_state, use_grows}
use Rattle.model_laws.proofs.FrameLeaves.{TreeAll, TreesAll, TailAll, trees_more, tail_more, Holding, held, lift_trees, lift_tail, lifted_trees, lifted_tail, Held, held_more, tree_held, trees_held}
use Rattle.model_laws.proofs.FrameAgrees.{Agrees, agree, break}
use Rattle.model_laws.proofs.FrameHeads.{seen_transformer, transformer_seen, IfMacro, HeadOf, head_is, head_seen, target_seen, here_seen}
use Rattle.model_laws.proofs.FrameUses.{named_in, placed, comparisons_seen}
use Rattle.model_laws.proofs.FrameInstances.{held_use_law}
use Rattle.model_laws.proofs.FrameReaders.{identifiers, model_names, rest_kind, named_tree_kind, formals_tree_kind, maybe_trees_kind, Reader, proper_reader, definition_reader, values_reader, record_reader, syntax_reader, chosen_reader}
use Rattle.model_laws.proofs.FrameHeld.{NoteAll, FormAll, PendingHeld, pending_more, pending_same, waiting_seen, waiting_held, noted_seen, noted_held, expression_held, read_held}
use Rattle.model_laws.proofs.FramePlaces.{seen_pending, MacroHere, PlaceFacts, came, broke, Together, together_at, CodeGo, ModelGo, RunLaw, held_still, read_go, put_law, first_law, splice_law}
use Rattle.model_laws.proofs.FrameDefinitions.{define_law, values_law, record_law}
use Rattle.model_laws.proofs.FrameSyntax.{syntax_law}

-- what stands behind a keyword, over what holds P
rest_held : (P : Ident → Type 0) (ts : Trees Ident) (tail : Tail Ident) → TreesAll P ts → TailAll P tail → Held rest_kind P (ts, tail)
rest_held P ts tail l e = record { made = (lift_trees P ts l, lift_tail P tail e); same = (let a = lifted_trees P ts l in let b = lifted_tail P tail e in λ j. (a j, b j)) }

chosen_held : (P : Ident → Type 0) (o : Option (Trees Ident)) → Held maybe_trees_kind P o → TreesAll P (or_none o)
chosen_held P o h = subst (λ (x : Option (Trees Ident)). TreesAll P (or_none x)) h.same (go h.made)
  where
    go : (x : Option (Trees (Holding P))) → TreesAll P (or_none (option_map (map_trees (held P)) x))
    go None = tt
    go (Some ts) = trees_held P (map_trees (held P) ts) (record { made = ts; same = refl })

or_none-map : (c : Ident → Name) (o : Option (Trees Ident)) → or_none (option_map (map_trees c) o) ≡ map_trees c (or_none o)
or_none-map c None = refl
or_none-map c (Some ts) = refl

-- identifiers that hold P are told apart as identifiers
abbrev over : (P : Ident → Type 0) → Names (Holding P)
over P = record { same = λ p q. same_ident p.0 q.0; strip = λ p. symbol_of p.0 }

over_told : (P : Ident → Type 0) → Renames (held P) (over P) identifiers
over_told P = record { same = λ p q. refl; strip = λ p. refl }

-- an instance that holds P, by its parts
tree_held_in : (P : Ident → Type 0) (a : Instance Ident) → Held instance_kind P a → Held tree_kind P a.tree
tree_held_in P a h = record { made = h.made.tree; same = ap (λ x. x.tree) h.same }

met_held_in : (P : Ident → Type 0) (a : Instance Ident) → Held instance_kind P a → Held use_kind P a.met
met_held_in P a h = record { made = h.made.met; same = ap (λ x. x.met) h.same }

module _ (w : Era) (known : Known) (fs : Frames) (Inside : ScopedState → Bool → List Number → Type 0) (Trail : ScopedState → ScopedState → Type 0) (Leaf : ScopedState → Ident → Type 0) (PlaceIn : ScopedState → FramedIdent → Type 0) (RuleLeaf : ScopedState → Transformer Frames Ident → Ident → Type 0) (Ended : ScopedState → List (Note FramedIdent) → List (Note Name) → Type 0)
    (facts : PlaceFacts w known fs Inside Trail Leaf PlaceIn RuleLeaf Ended) where
  abbrev seen : ScopedState → Pending Ident FramedIdent → Pending Name Name
  seen t p = seen_pending w known fs Inside Trail Leaf PlaceIn RuleLeaf Ended t p

  abbrev HeldAt : ScopedState → Pending Ident FramedIdent → Type 0
  HeldAt t p = PendingHeld (Leaf t) (PlaceIn t) p

  abbrev Both : Pass Ident FramedIdent × ScopedState → Pass Name Name × State → Type 0
  Both q m = Together w known fs Inside Trail Leaf PlaceIn RuleLeaf Ended q m

  abbrev Scoped_go : Type 0
  Scoped_go = CodeGo w known fs Inside Trail Leaf PlaceIn RuleLeaf Ended

  abbrev Model_go : Type 0
  Model_go = ModelGo w known fs Inside Trail Leaf PlaceIn RuleLeaf Ended

  abbrev Runs : Scoped_go → Model_go → Type 0
  Runs f g = RunLaw w known fs Inside Trail Leaf PlaceIn RuleLeaf Ended f g

  at : {q q' : Pass Ident FramedIdent × ScopedState} {m m' : Pass Name Name × State} → q' ≡ q → m' ≡ m → Both q m → Both q' m'
  at e d h = together_at w known fs Inside Trail Leaf PlaceIn RuleLeaf Ended e d h

  module _ (f : Scoped_go) (g : Model_go) (law : Runs f g) (here : Here) where
    -- ---- a form that is an expression

    expression_law : (s : ScopedState) (i : Bool) (n : List Number) → Inside s i n → (p : Pending Ident FramedIdent) → HeldAt s p → (x : Form Ident) → FormAll (Leaf s) x → Both (f (put (Expression x) p) s) (g (put (Expression (form_map (names s fs) x)) (seen s p)) (view i n s))
    expression_law s i n k p h x l = put_law w known fs Inside Trail Leaf PlaceIn RuleLeaf Ended facts f g law s i n k p h (Expression x) (expression_held (Leaf s) x l)

    -- ---- a core form; its keyword was met

    module _ (s : ScopedState) (i : Bool) (n : List Number) (k : Inside s i n) (p : Pending Ident FramedIdent) (h : HeldAt s p) (ts : Trees Ident) (tail : Tail Ident) (l : TreesAll (Leaf s) ts) (e : TailAll (Leaf s) tail) where
      abbrev readers : (l : Kind) → Reader rest_kind l → (l.of Ident → ScopedState → Pass Ident FramedIdent × ScopedState) → (l.of Name → State → Pass Name Name × State) → Type 0
      readers m r go go' = ((a : m.of Ident) → r.read Ident identifiers (ts, tail) ≡ Ok a → Held m (Leaf s) a → Both (go a s) (go' (m.map Ident Name (names s fs) a) (view i n s)))
          → Both (read_then (scoped known) here p (r.read Ident identifiers (ts, tail)) go s) (read_then (model known) here (seen s p) (r.read Name model_names (map_trees (names s fs) ts, map_tail (names s fs) tail)) go' (view i n s))

      reading : (m : Kind) (r : Reader rest_kind m) (go : m.of Ident → ScopedState → Pass Ident FramedIdent × ScopedState) (go' : m.of Name → State → Pass Name Name × State) → readers m r go go'
      reading m r go go' next =
          read_go w known fs Inside Trail Leaf PlaceIn RuleLeaf Ended facts m here s i n k p h (r.read Ident identifiers (ts, tail)) (r.read Name model_names (map_trees (names s fs) ts, map_tail (names s fs) tail)) go go'
          (read_held rest_kind m r (Leaf s) (names s fs) (named_in s fs) (ts, tail) (rest_held (Leaf s) ts tail l e)) next

      begin_law : Both (read_then (scoped known) here p (proper_of ts tail) (splice (scoped known) f here p) s) (read_then (model known) here (seen s p) (proper_of (map_trees (names s fs) ts) (map_tail (names s fs) tail)) (splice (model known) g here (seen s p)) (view i n s))
      begin_law = reading trees_kind proper_reader (splice (scoped known) f here p) (splice (model known) g here (seen s p)) (λ a z q. splice_law w known fs Inside Trail Leaf PlaceIn RuleLeaf Ended facts f g law here a s i n k p h (trees_held (Leaf s) a q))

      chosen_law : Both (read_then (scoped known) here p (chosen_of symbol_of known ts tail) (λ c. splice (scoped known) f here p (or_none c)) s) (read_then (model known) here (seen s p) (chosen_of strip known (map_trees (names s fs) ts) (map_tail (names s fs) tail)) (λ c. splice (model known) g here (seen s p) (or_none c)) (view i n s))
      chosen_law =
          reading maybe_trees_kind (chosen_reader known) (λ c. splice (scoped known) f here p (or_none c)) (λ c. splice (model known) g here (seen s p) (or_none c)) (λ a z q.
          at refl (ap (λ us. splice (model known) g here (seen s p) us (view i n s)) (or_none-map (names s fs) a)) (splice_law w known fs Inside Trail Leaf PlaceIn RuleLeaf Ended facts f g law here (or_none a) s i n k p h (chosen_held (Leaf s) a q)))

      defined_law : Both (read_then (scoped known) here p (definition_of same_ident ts tail) (run_define (scoped known) f here fs p) s) (read_then (model known) here (seen s p) (definition_of same_name (map_trees (names s fs) ts) (map_tail (names s fs) tail)) (run_define (model known) g here tt (seen s p)) (view i n s))
      defined_law = reading definition_kind definition_reader (run_define (scoped known) f here fs p) (run_define (model known) g here tt (seen s p)) (λ a z q. define_law w known fs Inside Trail Leaf PlaceIn RuleLeaf Ended facts f g law here s i n k p h a (definition_distinct ts tail a z) q)

      several_law : Both (read_then (scoped known) here p (values_of same_ident ts tail) (run_values (scoped known) f here fs p) s) (read_then (model known) here (seen s p) (values_of same_name (map_trees (names s fs) ts) (map_tail (names s fs) tail)) (run_values (model known) g here tt (seen s p)) (view i n s))
      several_law = reading formals_tree_kind values_reader (run_values (scoped known) f here fs p) (run_values (model known) g here tt (seen s p)) (λ a z q. values_law w known fs Inside Trail Leaf PlaceIn RuleLeaf Ended facts f g law here s i n k p h a q)

      fields_law : Both (read_then (scoped known) here p (record_of same_ident ts tail) (run_record (scoped known) f here fs p) s) (read_then (model known) here (seen s p) (record_of same_name (map_trees (names s fs) ts) (map_tail (names s fs) tail)) (run_record (model known) g here tt (seen s p)) (view i n s))
      fields_law = reading record_kind record_reader (run_record (scoped known) f here fs p) (run_record (model known) g here tt (seen s p)) (λ a z q. record_law w known fs Inside Trail Leaf PlaceIn RuleLeaf Ended facts f g law here s i n k p h a q)

      macro_law : Both (read_then (scoped known) here p (syntax_of ts tail) (run_syntax (scoped known) f here fs p) s) (read_then (model known) here (seen s p) (syntax_of (map_trees (names s fs) ts) (map_tail (names s fs) tail)) (run_syntax (model known) g here tt (seen s p)) (view i n s))
      macro_law = reading named_tree_kind syntax_reader (run_syntax (scoped known) f here fs p) (run_syntax (model known) g here tt (seen s p)) (λ a z q. syntax_law w known fs Inside Trail Leaf PlaceIn RuleLeaf Ended facts f g law here s i n k p h a q)

    -- ---- a macro use

    module _ (s : ScopedState) (i : Bool) (n : List Number) (k : Inside s i n) (p : Pending Ident FramedIdent) (h : HeldAt s p) (keyword : Target) (ts : Trees Ident) (tail : Tail Ident) (l : TreesAll (Leaf s) ts) (e : TailAll (Leaf s) tail) where
      module _ (m : Transformer Frames Ident) (mh : MacroHere w known fs Inside Trail Leaf PlaceIn RuleLeaf Ended s i n m) where
        -- what is compared stands in the rules, or in the form
        pairs_held : (qs : List (Holding (RuleLeaf s m) × Holding (Leaf s)))
            → AllOf (NoteAll (PlaceIn s)) (map (λ (q : Ident × Ident). Compared (record { frames = m.env; ident = q.0 }) (record { frames = fs; ident = q.1 }) (same_meaning (means_at s m.env q.0) (means_at s fs q.1))) (map (pair_map (held (RuleLeaf s m)) (held (Leaf s))) qs))
        pairs_held [] = tt
        pairs_held (q ∷ qs) = ((mh.place q.0.0 q.0.1, facts.here s i n k q.1.0 q.1.1), pairs_held qs)

        all_held_pairs : AllOf (NoteAll (PlaceIn s)) (map (λ (q : Ident × Ident). Compared (record { frames = m.env; ident = q.0 }) (record { frames = fs; ident = q.1 }) (same_meaning (means_at s m.env q.0) (means_at s fs q.1))) (compared (role_of identifiers m.rules) (dots_of identifiers m.rules) m.rules.rules ts tail))
        all_held_pairs =
            let r = mh.rules.same in let us = lifted_trees (Leaf s) ts l in let end = lifted_tail (Leaf s) tail e in
            subst (λ (qs : List (Ident × Ident)). AllOf (NoteAll (PlaceIn s)) (map (λ (q : Ident × Ident). Compared (record { frames = m.env; ident = q.0 }) (record { frames = fs; ident = q.1 }) (same_meaning (means_at s m.env q.0) (means_at s fs q.1))) qs))
            (sym (compared-map (Holding (RuleLeaf s m)) (Holding (Leaf s)) Ident Ident (held (RuleLeaf s m)) (held (Leaf s)) (role_of (over (RuleLeaf s m)) mh.rules.made) (role_of identifiers (rules_map (held (RuleLeaf s m)) mh.rules.made)) (role_of-map (Holding (RuleLeaf s m)) Ident (held (RuleLeaf s m)) (over (RuleLeaf s m)) identifiers (over_told (RuleLeaf s m)) mh.rules.made)
            (dots_of (over (RuleLeaf s m)) mh.rules.made) (dots_of identifiers (rules_map (held (RuleLeaf s m)) mh.rules.made)) (dots_of-map (Holding (RuleLeaf s m)) Ident (held (RuleLeaf s m)) (over (RuleLeaf s m)) identifiers (over_told (RuleLeaf s m)) mh.rules.made) mh.rules.made.rules (lift_trees (Leaf s) ts l) (lift_tail (Leaf s) tail e))
            ∙ (λ j. compared (role_of identifiers (r j)) (dots_of identifiers (r j)) (r j).rules (us j) (end j)))
            (pairs_held (compared (role_of (over (RuleLeaf s m)) mh.rules.made) (dots_of (over (RuleLeaf s m)) mh.rules.made) mh.rules.made.rules (lift_trees (Leaf s) ts l) (lift_tail (Leaf s) tail e)))

        compared_held : AllOf (NoteAll (PlaceIn s)) (comparisons (scoped known) fs m ts tail s)
        compared_held = go (has_use (scoped known) s)
          where
            go : (t : Bool) → AllOf (NoteAll (PlaceIn s)) (cond t (map (λ (q : Ident × Ident). Compared (record { frames = m.env; ident = q.0 }) (record { frames = fs; ident = q.1 }) (same_meaning (means_at s m.env q.0) (means_at s fs q.1))) (compared (role_of identifiers m.rules) (dots_of identifiers m.rules) m.rules.rules ts tail)) [])
            go true = all_held_pairs
            go false = tt

        -- what is left, with what was compared
        abbrev left : Pending Ident FramedIdent
        left = noted (comparisons (scoped known) fs m ts tail s) p

        left_held : HeldAt s (noted (comparisons (scoped known) fs m ts tail s) p)
        left_held = noted_held (Leaf s) (PlaceIn s) (comparisons (scoped known) fs m ts tail s) p compared_held h

        abbrev begun : ScopedState
        begun = used_state w m.env s

        begun_grows : Grows w s (used_state w m.env s)
        begun_grows = use_grows w s (facts.fine s i n k) m.env

        -- what the use gives
        abbrev Given : ScopedState → Instance Ident → Instance Name → Type 0
        Given t a b = Grows w begun t × Held instance_kind (Leaf begun) a × (b ≡ instance_map (names t fs) a)

        -- how both sides go on with it
        abbrev going : Instance Ident → ScopedState → Pass Ident FramedIdent × ScopedState
        going a = f (first (record { here = here; tree = a.tree } ∷ []) (waiting a.met left))

        abbrev going_so : Pending Name Name → Instance Name → State → Pass Name Name × State
        going_so q b = g (first (record { here = here; tree = b.tree } ∷ []) (waiting b.met q))

        use_next : {r : Result (Instance Ident) Broken × ScopedState} {d : Result (Instance Name) Broken × State} → Agrees (λ t i1 n1. Inside t i1 n1 × Grows w s t) Given r d → Both (caught left.notes r going) (caught (seen s left).notes d (going_so (seen s left)))
        use_next (break x t i1 n1 er em kk) =
            at (ap (λ z. caught left.notes z going) er) (ap (λ z. caught (seen s left).notes z (going_so (seen s left))) em)
            (record { in_body = i1; mine = n1; inside = kk.0; state = refl; came_to = broke x refl refl (facts.ended s t i n k (facts.trail s t kk.1) left.notes left_held.2) })
        use_next (agree a b t i1 n1 er em kk q) =
            let later = names_later w s t (facts.fine s i n k) kk.1 fs (facts.stands s i n k) in
            let ps = pending_same (Leaf s) (PlaceIn s) (names s fs) (names t fs) (placed s) (placed t) (λ y d. later y (facts.below s i n k y d)) (facts.placed_later s t i n k kk.1) left left_held in
            let z = q.2 in
            let a_held = held_more instance_kind (Leaf begun) (Leaf t) (facts.leaf_later begun t i n mh.after q.0) a q.1 in
            let left_then = pending_more (Leaf s) (Leaf t) (PlaceIn s) (PlaceIn t) (facts.leaf_later s t i n k kk.1) (facts.place_later s t i n k kk.1) left left_held in
            at (ap (λ z. caught left.notes z going) er) (ap (λ z. caught (seen s left).notes z (going_so (seen s left))) em)
            (at refl ((λ j. g (first (record { here = here; tree = (z j).tree } ∷ []) (waiting (z j).met (ps j))) (view i1 n1 t)) ∙ ap (λ y. g (first (record { here = here; tree = map_tree (names t fs) a.tree } ∷ []) y) (view i1 n1 t)) (waiting_seen (names t fs) (placed t) a.met left))
            (first_law w known fs Inside Trail Leaf PlaceIn RuleLeaf Ended facts f g law t i1 n1 kk.0 (waiting a.met left)
            (waiting_held (Leaf t) (PlaceIn t) a.met left (met_held_in (Leaf t) a a_held) left_then)
            (record { here = here; tree = a.tree } ∷ []) (tree_held (Leaf t) a.tree (tree_held_in (Leaf t) a a_held), tt)))

        use_here : Both (caught left.notes (use_of (scoped known) here fs keyword m ts tail s) going)
            (caught (seen s left).notes (use_of (model known) here tt keyword (seen_transformer s.places s.definitions m) (map_trees (names s fs) ts) (map_tail (names s fs) tail) (view i n s)) (going_so (seen s left)))
        use_here =
            use_next (held_use_law w known s (facts.fine s i n k) i n fs (facts.stands s i n k) m mh.entered mh.binders (RuleLeaf s m) (Leaf s) (Leaf begun) mh.below (facts.below s i n k) (facts.leaf_later s begun i n k begun_grows) mh.inserts mh.rules ts tail l e
            (λ t i1 n1. Inside t i1 n1 × Grows w s t) (k, grows_itself w s) (λ y. (facts.still begun i n y s.keywords s.met mh.after, begun_grows)) here keyword)

        noting : noted (comparisons (model known) tt (seen_transformer s.places s.definitions m) (map_trees (names s fs) ts) (map_tail (names s fs) tail) (view i n s)) (seen s p) ≡ seen s (noted (comparisons (scoped known) fs m ts tail s) p)
        noting = ap (λ ns. noted ns (seen s p)) (comparisons_seen w known s (facts.fine s i n k) i n fs m ts tail) ∙ noted_seen (names s fs) (placed s) (comparisons (scoped known) fs m ts tail s) p

      use_law : (x : Form Ident) → FormAll (Leaf s) x → (o : Option (Transformer Frames Ident)) → IfMacro (MacroHere w known fs Inside Trail Leaf PlaceIn RuleLeaf Ended s i n) o
          → Both (run_use (scoped known) f here fs keyword o x ts tail p s) (run_use (model known) g here tt keyword (option_map (seen_transformer s.places s.definitions) o) (form_map (names s fs) x) (map_trees (names s fs) ts) (map_tail (names s fs) tail) (seen s p) (view i n s))
      use_law x lx None mh = expression_law s i n k p h x lx
      use_law x lx (Some m) mh =
          at refl (let q = noting m mh in λ j. caught (q j).notes (use_of (model known) here tt keyword (seen_transformer s.places s.definitions m) (map_trees (names s fs) ts) (map_tail (names s fs) tail) (view i n s)) (going_so m mh (q j)))
          (use_here m mh)

    -- ---- a form by its head

    module _ (s : ScopedState) (i : Bool) (n : List Number) (k : Inside s i n) (p : Pending Ident FramedIdent) (h : HeldAt s p) (x : Form Ident) (lx : FormAll (Leaf s) x) (ts : Trees Ident) (tail : Tail Ident) (l : TreesAll (Leaf s) ts) (e : TailAll (Leaf s) tail) where
      -- the state in which a keyword was met
      abbrev met : Target → ScopedState
      met t = record s { keywords = at_form s.form (λ ks. t ∷ ks) s.keywords }

      met_inside : (t : Target) → Inside (met t) i n
      met_inside t = facts.still s i n s.nodes (at_form s.form (λ ks. t ∷ ks) s.keywords) s.met k

      met_held : (t : Target) → HeldAt (met t) p
      met_held t = held_still w known fs Inside Trail Leaf PlaceIn RuleLeaf Ended facts s i n k s.nodes (at_form s.form (λ ks. t ∷ ks) s.keywords) s.met p h

      met_trees : (t : Target) → TreesAll (Leaf (met t)) ts
      met_trees t = trees_more (Leaf s) (Leaf (met t)) (facts.leaf_later s (met t) i n k (grows_itself w s)) ts l

      met_tail : (t : Target) → TailAll (Leaf (met t)) tail
      met_tail t = tail_more (Leaf s) (Leaf (met t)) (facts.leaf_later s (met t) i n k (grows_itself w s)) tail e

      as_expression : Both (f (put (Expression x) p) s) (g (put (Expression (form_map (names s fs) x)) (seen s p)) (view i n s))
      as_expression = expression_law s i n k p h x lx

      core_law : (c : CoreKeyword) (t : Target) → Both (run_core (scoped known) f here fs c t x ts tail p s) (run_core (model known) g here tt c t (form_map (names s fs) x) (map_trees (names s fs) ts) (map_tail (names s fs) tail) (seen s p) (view i n s))
      core_law IsQuote t = as_expression
      core_law IsQuasiquote t = as_expression
      core_law IsLambda t = as_expression
      core_law IsCaseLambda t = as_expression
      core_law IsIf t = as_expression
      core_law IsSet t = as_expression
      core_law IsBegin t = begin_law (met t) i n (met_inside t) p (met_held t) ts tail (met_trees t) (met_tail t)
      core_law IsDefine t = defined_law (met t) i n (met_inside t) p (met_held t) ts tail (met_trees t) (met_tail t)
      core_law IsDefineValues t = several_law (met t) i n (met_inside t) p (met_held t) ts tail (met_trees t) (met_tail t)
      core_law IsDefineRecordType t = fields_law (met t) i n (met_inside t) p (met_held t) ts tail (met_trees t) (met_tail t)
      core_law IsDefineSyntax t = macro_law (met t) i n (met_inside t) p (met_held t) ts tail (met_trees t) (met_tail t)
      core_law IsLetSyntax t = as_expression
      core_law IsLetrecSyntax t = as_expression
      core_law IsCondExpand t = chosen_law (met t) i n (met_inside t) p (met_held t) ts tail (met_trees t) (met_tail t)
      core_law IsSyntaxError t = as_expression
      core_law IsInclude t = as_expression

      head_law : (m0 : Meaning) → IfMacro (MacroHere w known fs Inside Trail Leaf PlaceIn RuleLeaf Ended s i n) (macro_at s.macros m0) → (c : Head) → HeadOf m0 c → (t : Target) → Both (run_head (scoped known) f here fs c t x ts tail p s) (run_head (model known) g here tt c t (form_map (names s fs) x) (map_trees (names s fs) ts) (map_tail (names s fs) tail) (seen s p) (view i n s))
      head_law m0 mh (IsCore c) q t = core_law c t
      head_law m0 mh (IsAuxiliary a) q t = as_expression
      head_law m0 mh (IsMacro m) q t =
          at refl (ap (λ o. run_use (model known) g here tt t o (form_map (names s fs) x) (map_trees (names s fs) ts) (map_tail (names s fs) tail) (seen s p) (view i n s)) (transformer_seen s.places s.definitions s.macros m))
          (use_law s i n k p h t ts tail l e x lx (macro_at s.macros m) (subst (λ (z : Meaning). IfMacro (MacroHere w known fs Inside Trail Leaf PlaceIn RuleLeaf Ended s i n) (macro_at s.macros z)) (sym q) mh))
      head_law m0 mh IsNone q t = as_expression

    -- ---- any form

    form_law : (s : ScopedState) (i : Bool) (n : List Number) → Inside s i n → (p : Pending Ident FramedIdent) → HeldAt s p → (x : Form Ident) → FormAll (Leaf s) x → (t : Tree Ident) → TreeAll (Leaf s) t
        → Both (run_form (scoped known) f fs here x t p s) (run_form (model known) g tt here (form_map (names s fs) x) (map_tree (names s fs) t) (seen s p) (view i n s))
    form_law s i n k p h x lx (name y o) l = expression_law s i n k p h x lx
    form_law s i n k p h x lx (atom a o) l = expression_law s i n k p h x lx
    form_law s i n k p h x lx (vector ts o) l = expression_law s i n k p h x lx
    form_law s i n k p h x lx (list no_trees tail o) l = expression_law s i n k p h x lx
    form_law s i n k p h x lx (list (tree (name y q) ts) tail o) l =
        let hd = head_seen w known s (facts.fine s i n k) i n fs y in let tg = target_seen w known s (facts.fine s i n k) i n fs y q in
        let c = head_of (scoped known) fs s y in
        let note : List (Note FramedIdent) = LookedUp (record { frames = fs; ident = y }) true (is_keyword c) ∷ [] in
        at refl
        ((λ j. run_head (model known) g here tt (hd j) (tg j) (form_map (names s fs) x) (map_trees (names s fs) ts) (map_tail (names s fs) tail) (noted (LookedUp (names s fs y) true (is_keyword (hd j)) ∷ []) (seen s p)) (view i n s))
        ∙ ap (λ z. run_head (model known) g here tt c (target_of (scoped known) fs s y q) (form_map (names s fs) x) (map_trees (names s fs) ts) (map_tail (names s fs) tail) z (view i n s)) (noted_seen (names s fs) (placed s) note p))
        (head_law s i n k (noted note p) (noted_held (Leaf s) (PlaceIn s) note p (facts.here s i n k y l.0.0, tt) h) x lx ts tail l.0.1 l.1 (means_at s fs y) (facts.macros s i n k y l.0.0) c (head_is (λ m. is_some ((scoped known).transformer s m)) (means_at s fs y)) (target_of (scoped known) fs s y q))
    form_law s i n k p h x lx (list (tree (atom a q) ts) tail o) l = expression_law s i n k p h x lx
    form_law s i n k p h x lx (list (tree (list us end q) ts) tail o) l = expression_law s i n k p h x lx
    form_law s i n k p h x lx (list (tree (vector us q) ts) tail o) l = expression_law s i n k p h x lx

  next_law : (f : Scoped_go) (g : Model_go) → Runs f g → (todo : List (Form Ident)) (s : ScopedState) (i : Bool) (n : List Number) → Inside s i n → (p : Pending Ident FramedIdent) → HeldAt s p → AllOf (FormAll (Leaf s)) todo
      → Both (run_next (scoped known) f fs todo p s) (run_next (model known) g tt (map (form_map (names s fs)) todo) (seen s p) (view i n s))
  next_law f g law [] s i n k p h l = record { in_body = i; mine = n; inside = k; state = refl; came_to = came (record { uses = p.uses; items = p.aside }) refl refl (h.3, h.1) h.2 refl }
  next_law f g law (x ∷ xs) s i n k p h l =
      at refl (ap (λ hr. run_form (model known) g tt hr (form_map (names s fs) x) (map_tree (names s fs) x.tree) (record (seen s p) { todo = map (form_map (names s fs)) xs }) (view i n s)) (here_seen w s fs x.tree x.here))
      (form_law f g law (here_at (λ j. j) x.tree x.here) s i n k (record p { todo = xs }) (l.1, h.1, h.2, h.3) x l.0 x.tree l.0)

  -- both sides go through the forms alike
  pub forms_law : (turns : ℕ) → Runs (run (scoped known) turns fs) (run (model known) turns tt)
  forms_law zero p s i n k h = record { in_body = i; mine = n; inside = k; state = refl; came_to = broke (record { fault = OutOfTurns; here = None }) refl refl (facts.ended s s i n k (facts.trail s s (grows_itself w s)) p.notes h.2) }
  forms_law (suc turns) p s i n k h = next_law (run (scoped known) turns fs) (run (model known) turns tt) (forms_law turns) p.todo s i n k p h h.0
