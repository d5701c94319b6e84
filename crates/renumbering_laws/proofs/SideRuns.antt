-- A form gone through, whatever its head, and all forms of a body or a unit, on both sides.
use Rattle.std.proofs.Common.{ℕ, zero, suc, List, [], ◌∷◌, map, true, Option, Some, Result, refl, ap, ◌∙◌}
use Rattle.scheme_model.specs.Keywords.{CoreKeyword, IsQuote, IsQuasiquote, IsLambda, IsCaseLambda, IsIf, IsSet, IsBegin, IsDefine, IsDefineValues, IsDefineRecordType, IsDefineSyntax, IsLetSyntax, IsLetrecSyntax, IsCondExpand, IsSyntaxError, IsInclude}
use Rattle.scheme_model.specs.Trees.{Tree, name, atom, list, vector, Trees, no_trees, tree, Tail}
use Rattle.scheme_model.specs.ExpansionFaults.{Named, Fault}
use Rattle.scheme_model.specs.Meaning.{Head, IsCore, IsAuxiliary, IsMacro, IsNone, is_keyword}
use Rattle.scheme_model.specs.Requirements.{chosen_of, libraries_in}
use Rattle.scheme_model.specs.RulesShape.{option_map}
use Rattle.scheme_model.specs.Cores.{Target, Binder}
use Rattle.scheme_model.specs.Steps.{◌>>=◌, done}
use Rattle.scheme_model.specs.Order.{Here, Form, Expression, Macro, Note, LookedUp, Pending, Pass, Transformer, Asked, Headed, RulesOf, Library, target_of, head_of, forms_at, told, comparisons, use_of, binder_at, put, waiting, noted, first, caught, rules_parts_of, rules_parts, rules_note, rules_at, run_syntax, splice, or_none, read_then, run_core, run_use, run_head, run_form, run_next, run}
use Rattle.renumbering_laws.specs.Moving.{Change, move_tree, move_trees, move_tail, move_named, move_rules}
use Rattle.renumbering_laws.specs.Renumbering.{Renumbering, place, meaning, target, binder, form_as}
use Rattle.renumbering_laws.proofs.Sides.{no_macro, a_macro, headed, rules_of, Sides, Macros}
use Rattle.renumbering_laws.proofs.MovingSteps.{Reads}
use Rattle.renumbering_laws.proofs.MovedShapes.{proper_of-map, definition_of-map, values_of-map, record_of-map, syntax_of-map}
use Rattle.renumbering_laws.proofs.MovedRequirements.{chosen_of-map}
use Rattle.renumbering_laws.proofs.SideSteps.{moved, goes_bind, meets_bind, Told, goes_of, goes_read, here_seen, counting_goes}
use Rattle.renumbering_laws.proofs.SideQuestions.{libraries_asked}
use Rattle.renumbering_laws.proofs.SideUses.{head_moved, keyword_seen, head_goes, target_goes, use_goes, comparisons_goes}
use Rattle.renumbering_laws.proofs.SideForms.{parts_of_seen, forms_at_seen, or_none_seen, pending_two, Ran, ran, ran_at, OneGo, TwoGo, RanLaw, caught_goes, noted_seen, binder_seen, Renames, define_step, put_goes, first_goes, use_put_goes, define_goes, values_goes, record_goes, note_goes, rules_parts_goes, rules_at_goes}

module _ (h : Sides) where
  abbrev r : Renumbering
  r = h.r

  abbrev mv : Change h.A h.A'
  mv = moved h

  module _ (f : OneGo h) (f' : TwoGo h) (law : RanLaw h f f') (e : h.E) (e' : h.E') (k : h.around e e') where
    module _ (here : Here) where
      -- ---- macro definitions

      syntax_with : (d : Named h.A × Tree h.A) (s : h.S) (s' : h.S') → h.state s s' → (q : Pending h.A h.L)
          → Ran h (caught {B = Binder × Pending h.A h.L} q.notes (rules_parts h.one here e (rules_parts_of d.1) s >>= λ x t0. rules_at h.one here d.1 x t0 >>= λ rules t. told here (h.one.define d.0 (Some rules) e q t) >>= λ made. done (binder_at h.one e t d.0, made.pending)) (λ x. f (put (Macro x.0 here) x.1)))
          (caught {B = Binder × Pending h.A' h.L'} (pending_two h q).notes (rules_parts h.two (place r here) e' (rules_parts_of (move_tree mv d.1)) s' >>= λ x t0. rules_at h.two (place r here) (move_tree mv d.1) x t0 >>= λ rules t. told (place r here) (h.two.define (move_named mv d.0) (Some rules) e' (pending_two h q) t) >>= λ made. done (binder_at h.two e' t (move_named mv d.0), made.pending)) (λ x. f' (put (Macro x.0 (place r here)) x.1)))
      syntax_with d s s' l q =
          caught_goes h {g = λ (v : Binder × Pending h.A h.L). (binder r v.0, pending_two h v.1)} q.notes (λ x. f (put (Macro x.0 here) x.1)) (λ x. f' (put (Macro x.0 (place r here)) x.1))
          (goes_bind h _ _ (rules_parts_goes h here e e' k d.1 s s' l) (λ x t0 t0' l0. goes_bind h _ _ (rules_at_goes h here e e' k d.1 x t0 t0' l0) (λ rules t t' l1.
          goes_of h (meets_bind h (Renames h) (Told h (λ (v : Binder × Pending h.A h.L). (binder r v.0, pending_two h v.1))) (told here (h.one.define d.0 (Some rules) e q t)) (told (place r here) (h.two.define (move_named mv d.0) (Some (move_rules mv rules)) e' (pending_two h q) t')) _ _
          (define_step h here d.0 (Some rules) e e' k q t t' l1)
          (λ made made' m u u' l2. ((let a = binder_seen h e e' k t t' l1 d.0 in let b = m.pending in λ j. (a j, b j)), l2))))))
          (λ x u u' m. put_goes h f f' law here e e' k (Macro x.0 here) x.1 u u' m)

      syntax_goes : (p : Pending h.A h.L) (d : Named h.A × Tree h.A) (s : h.S) (s' : h.S') → h.state s s' → Ran h (run_syntax h.one f here e p d s) (run_syntax h.two f' (place r here) e' (pending_two h p) (move_named mv d.0, move_tree mv d.1) s')
      syntax_goes p d s s' l =
          let note = rules_note h.one e s (rules_parts_of d.1) in
          let q = ap (λ o. noted (rules_note h.two e' s' o) (pending_two h p)) (parts_of_seen r h.A h.A' h.on d.1) ∙ ap (λ ns. noted ns (pending_two h p)) (note_goes h f f' law here e e' k s s' l (rules_parts_of d.1)) ∙ noted_seen h note p in
          ran_at h
          (ap (λ (z : Pending h.A' h.L'). caught {B = Binder × Pending h.A' h.L'} z.notes (rules_parts h.two (place r here) e' (rules_parts_of (move_tree mv d.1)) s' >>= λ x t0. rules_at h.two (place r here) (move_tree mv d.1) x t0 >>= λ rules t. told (place r here) (h.two.define (move_named mv d.0) (Some rules) e' z t) >>= λ made. done (binder_at h.two e' t (move_named mv d.0), made.pending)) (λ x. f' (put (Macro x.0 (place r here)) x.1))) q)
          (syntax_with d s s' l (noted note p))

      -- ---- core forms

      splice_goes : (p : Pending h.A h.L) (ts : Trees h.A) (s : h.S) (s' : h.S') → h.state s s' → Ran h (splice h.one f here p ts s) (splice h.two f' (place r here) (pending_two h p) (move_trees mv ts) s')
      splice_goes p ts s s' l =
          caught_goes h p.notes (λ u. f (first (forms_at here ts) p)) (λ u. f' (first (forms_at (place r here) (move_trees mv ts)) (pending_two h p))) (counting_goes h here 1 s s' l)
          (λ v u u' m. ran_at h (ap (λ ys. f' (first ys (pending_two h p)) u') (forms_at_seen r h.A h.A' h.on here ts)) (first_goes h f f' law here e e' k (forms_at here ts) p u u' m))

      chosen_goes : (p : Pending h.A h.L) (o : Option (Trees h.A)) (s : h.S) (s' : h.S') → h.state s s' → Ran h (splice h.one f here p (or_none o) s) (splice h.two f' (place r here) (pending_two h p) (or_none (option_map (move_trees mv) o)) s')
      chosen_goes p o s s' l = ran_at h (ap (λ ts. splice h.two f' (place r here) (pending_two h p) ts s') (or_none_seen r h.A h.A' h.on o)) (splice_goes p (or_none o) s s' l)

      read_goes : {X Y : Type 0} {g : X → Y} {x : Result X (Fault h.A)} {x' : Result Y (Fault h.A')} (p : Pending h.A h.L) (c : X → h.S → Pass h.A h.L × h.S) (c' : Y → h.S' → Pass h.A' h.L' × h.S') (s : h.S) (s' : h.S') → h.state s s'
          → Reads mv g x x' → ((v : X) (u : h.S) (u' : h.S') → h.state u u' → Ran h (c v u) (c' (g v) u')) → Ran h (read_then h.one here p x c s) (read_then h.two (place r here) (pending_two h p) x' c' s')
      read_goes p c c' s s' l rd next = caught_goes h p.notes c c' (goes_read h here s s' l rd) next

      -- a form set aside as it stands
      aside_goes : (y : Form h.A) (p : Pending h.A h.L) (s : h.S) (s' : h.S') → h.state s s' → Ran h (f (put (Expression y) p) s) (f' (put (Expression (form_as r h.on y)) (pending_two h p)) s')
      aside_goes y p s s' l = put_goes h f f' law here e e' k (Expression y) p s s' l

      core_goes : (c : CoreKeyword) (t : Target) (y : Form h.A) (ts : Trees h.A) (tail : Tail h.A) (p : Pending h.A h.L) (s : h.S) (s' : h.S') → h.state s s'
          → Ran h (run_core h.one f here e c t y ts tail p s) (run_core h.two f' (place r here) e' c (target r t) (form_as r h.on y) (move_trees mv ts) (move_tail mv tail) (pending_two h p) s')
      core_goes IsQuote t y ts tail p s s' l = aside_goes y p s s' l
      core_goes IsQuasiquote t y ts tail p s s' l = aside_goes y p s s' l
      core_goes IsLambda t y ts tail p s s' l = aside_goes y p s s' l
      core_goes IsCaseLambda t y ts tail p s s' l = aside_goes y p s s' l
      core_goes IsIf t y ts tail p s s' l = aside_goes y p s s' l
      core_goes IsSet t y ts tail p s s' l = aside_goes y p s s' l
      core_goes IsBegin t y ts tail p s s' l = read_goes p _ _ (h.one.meet t s) (h.two.meet (target r t) s') (h.meet t s s' l) (proper_of-map h.A h.A' mv ts tail) (λ us u u' m. splice_goes p us u u' m)
      core_goes IsDefine t y ts tail p s s' l =
          read_goes p _ _ (h.one.meet t s) (h.two.meet (target r t) s') (h.meet t s s' l) (definition_of-map h.A h.A' mv h.one.names.same h.two.names.same h.same ts tail) (λ d u u' m. define_goes h f f' law here e e' k p d u u' m)
      core_goes IsDefineValues t y ts tail p s s' l =
          read_goes p _ _ (h.one.meet t s) (h.two.meet (target r t) s') (h.meet t s s' l) (values_of-map h.A h.A' mv h.one.names.same h.two.names.same h.same ts tail) (λ d u u' m. values_goes h f f' law here e e' k p d u u' m)
      core_goes IsDefineRecordType t y ts tail p s s' l =
          read_goes p _ _ (h.one.meet t s) (h.two.meet (target r t) s') (h.meet t s s' l) (record_of-map h.A h.A' mv h.one.names.same h.two.names.same h.same ts tail) (λ x u u' m. record_goes h f f' law here e e' k p x u u' m)
      core_goes IsDefineSyntax t y ts tail p s s' l = read_goes p _ _ (h.one.meet t s) (h.two.meet (target r t) s') (h.meet t s s' l) (syntax_of-map h.A h.A' mv ts tail) (λ d u u' m. syntax_goes p d u u' m)
      core_goes IsLetSyntax t y ts tail p s s' l = aside_goes y p s s' l
      core_goes IsLetrecSyntax t y ts tail p s s' l = aside_goes y p s s' l
      core_goes IsCondExpand t y ts tail p s s' l =
          let asked : List (Asked h.E h.A) = map Library (libraries_in h.one.names.strip ts tail) in let asked' : List (Asked h.E' h.A') = map Library (libraries_in h.two.names.strip (move_trees mv ts) (move_tail mv tail)) in
          ran_at h (ap (λ known. read_then h.two (place r here) (pending_two h p) (chosen_of h.two.names.strip known (move_trees mv ts) (move_tail mv tail)) (λ c. splice h.two f' (place r here) (pending_two h p) (or_none c)) (h.two.ask asked' (h.two.meet (target r t) s'))) h.known)
          (read_goes p _ _ (h.one.ask asked (h.one.meet t s)) (h.two.ask asked' (h.two.meet (target r t) s')) (h.ask asked asked' (libraries_asked h ts tail) _ _ (h.meet t s s' l)) (chosen_of-map h.A h.A' mv h.one.names.strip h.two.names.strip h.strip h.one.known ts tail) (λ o u u' m. chosen_goes p o u u' m))
      core_goes IsSyntaxError t y ts tail p s s' l = aside_goes y p s s' l
      core_goes IsInclude t y ts tail p s s' l = aside_goes y p s s' l

      -- ---- macro uses

      run_use_goes : (t : Target) (o : Option (Transformer h.E h.A)) (o' : Option (Transformer h.E' h.A')) → Macros h.around mv o o' → (y : Form h.A) (ts : Trees h.A) (tail : Tail h.A) (p : Pending h.A h.L) (s : h.S) (s' : h.S') → h.state s s'
          → Ran h (run_use h.one f here e t o y ts tail p s) (run_use h.two f' (place r here) e' (target r t) o' (form_as r h.on y) (move_trees mv ts) (move_tail mv tail) (pending_two h p) s')
      run_use_goes t _ _ no_macro y ts tail p s s' l = aside_goes y p s s' l
      run_use_goes t _ _ (a_macro m d at) y ts tail p s s' l =
          let ns = comparisons h.one e m ts tail s in
          ran_at h
          (ap (λ (z : Pending h.A' h.L'). caught z.notes (use_of h.two (place r here) e' (target r t) (record { env = d; rules = move_rules mv m.rules }) (move_trees mv ts) (move_tail mv tail) s') (λ i. f' (first (record { here = place r here; tree = i.tree } ∷ []) (waiting i.met z))))
          (ap (λ zs. noted zs (pending_two h p)) (comparisons_goes h here e e' k t m d at ts tail s s' l) ∙ noted_seen h ns p))
          (caught_goes h (noted ns p).notes (λ i. f (first (record { here = here; tree = i.tree } ∷ []) (waiting i.met (noted ns p)))) (λ i. f' (first (record { here = place r here; tree = i.tree } ∷ []) (waiting i.met (pending_two h (noted ns p)))))
          (use_goes h here e e' k t m d at ts tail s s' l) (λ i u u' m2. use_put_goes h f f' law here e e' k i.tree i.met (noted ns p) u u' m2))

      by_head : (hd : Head) (t : Target) (y : Form h.A) (ts : Trees h.A) (tail : Tail h.A) (p : Pending h.A h.L) (s : h.S) (s' : h.S') → h.state s s'
          → Ran h (run_head h.one f here e hd t y ts tail p s) (run_head h.two f' (place r here) e' (head_moved r hd) (target r t) (form_as r h.on y) (move_trees mv ts) (move_tail mv tail) (pending_two h p) s')
      by_head (IsCore c) t y ts tail p s s' l = core_goes c t y ts tail p s s' l
      by_head (IsAuxiliary a) t y ts tail p s s' l = aside_goes y p s s' l
      by_head (IsMacro m) t y ts tail p s s' l = run_use_goes t _ _ (h.transformer s s' l m) y ts tail p _ _ (h.ask (RulesOf m ∷ []) (RulesOf (meaning r m) ∷ []) (rules_of m, tt) s s' l)
      by_head IsNone t y ts tail p s s' l = aside_goes y p s s' l

      -- ---- any form

      form_goes : (y : Form h.A) (t : Tree h.A) (p : Pending h.A h.L) (s : h.S) (s' : h.S') → h.state s s' → Ran h (run_form h.one f e here y t p s) (run_form h.two f' e' (place r here) (form_as r h.on y) (move_tree mv t) (pending_two h p) s')
      form_goes y (name i o) p s s' l = aside_goes y p s s' l
      form_goes y (atom a o) p s s' l = aside_goes y p s s' l
      form_goes y (vector ts o) p s s' l = aside_goes y p s s' l
      form_goes y (list no_trees tail o) p s s' l = aside_goes y p s s' l
      form_goes y (list (tree (name i q) ts) tail o) p s s' l =
          let hd = head_goes h e e' k s s' l i in let tg = target_goes h e e' k s s' l i q in let pl = h.place e e' k i in
          let kw = ap is_keyword hd ∙ keyword_seen r (head_of h.one e s i) in
          let note : List (Note h.L) = LookedUp (h.one.place e i) true (is_keyword (head_of h.one e s i)) ∷ [] in
          let asked = h.two.ask (Headed e' (h.on i) ∷ []) s' in
          ran_at h
          ((λ j. run_head h.two f' (place r here) e' (hd j) (tg j) (form_as r h.on y) (move_trees mv ts) (move_tail mv tail) (noted (LookedUp (pl j) true (kw j) ∷ []) (pending_two h p)) asked)
          ∙ ap (λ z. run_head h.two f' (place r here) e' (head_moved r (head_of h.one e s i)) (target r (target_of h.one e s i q)) (form_as r h.on y) (move_trees mv ts) (move_tail mv tail) z asked) (noted_seen h note p))
          (by_head (head_of h.one e s i) (target_of h.one e s i q) y ts tail (noted note p) _ _ (h.ask (Headed e i ∷ []) (Headed e' (h.on i) ∷ []) (headed e e' k i, tt) s s' l))
      form_goes y (list (tree (atom a q) ts) tail o) p s s' l = aside_goes y p s s' l
      form_goes y (list (tree (list us end q) ts) tail o) p s s' l = aside_goes y p s s' l
      form_goes y (list (tree (vector us q) ts) tail o) p s s' l = aside_goes y p s s' l

    next_goes : (todo : List (Form h.A)) (p : Pending h.A h.L) (s : h.S) (s' : h.S') → h.state s s' → Ran h (run_next h.one f e todo p s) (run_next h.two f' e' (map (form_as r h.on) todo) (pending_two h p) s')
    next_goes [] p s s' l = ran refl l
    next_goes (y ∷ ys) p s s' l =
        ran_at h (ap (λ hr. run_form h.two f' e' hr (form_as r h.on y) (move_tree mv y.tree) (pending_two h (record p { todo = ys })) s') (here_seen h y.tree y.here))
        (form_goes _ y y.tree (record p { todo = ys }) s s' l)

  -- all forms, within the same turns
  pub run_goes : (turns : ℕ) (e : h.E) (e' : h.E') → h.around e e' → RanLaw h (run h.one turns e) (run h.two turns e')
  run_goes zero e e' k p s s' l = ran refl l
  run_goes (suc turns) e e' k p s s' l = next_goes (run h.one turns e) (run h.two turns e') (run_goes turns e e' k) e e' k p.todo p s s' l
