-- A form gone through, whatever its head, and all forms of a body or a unit: the third side of counted expansion and each other side.
use Rattle.std.proofs.Common.{ℕ, zero, suc, List, [], ◌∷◌, map, true, Option, Some, None, Result, refl, ap, ◌∙◌}
use Rattle.scheme_model.specs.Ident.{Ident, same_ident, symbol_of}
use Rattle.scheme_model.specs.Keywords.{CoreKeyword, IsQuote, IsQuasiquote, IsLambda, IsCaseLambda, IsIf, IsSet, IsBegin, IsDefine, IsDefineValues, IsDefineRecordType, IsDefineSyntax, IsLetSyntax, IsLetrecSyntax, IsCondExpand, IsSyntaxError, IsInclude}
use Rattle.scheme_model.specs.Trees.{Tree, name, atom, list, vector, Trees, no_trees, tree, Tail, map_tree, map_trees, map_tail}
use Rattle.scheme_model.specs.ExpansionFaults.{Named, named_map, Fault}
use Rattle.scheme_model.specs.Meaning.{Head, IsCore, IsAuxiliary, IsMacro, IsNone, is_keyword}
use Rattle.scheme_model.specs.RulesShape.{option_map}
use Rattle.scheme_model.specs.Cores.{Target, Binder}
use Rattle.scheme_model.specs.Steps.{◌>>=◌, done}
use Rattle.scheme_model.specs.Order.{Here, Form, Expression, Macro, Note, LookedUp, Pending, Pass, Transformer, target_of, head_of, forms_at, told, comparisons, use_of, binder_at, put, waiting, noted, first, caught, rules_parts_of, rules_parts, rules_note, rules_at, run_syntax, splice, or_none, read_then, run_core, run_use, run_head, run_form, run_next, run}
use Rattle.scheme_model.specs.Substitution.{form_map}
use Rattle.scheme_model.specs.ScopedExpansion.{FramedIdent, ScopedState}
use Rattle.scheme_model.proofs.RenamingLaws.{Reads}
use Rattle.scheme_model.proofs.ShapeLaws.{proper_of-map, definition_of-map, values_of-map, record_of-map, syntax_of-map}
use Rattle.model_laws.proofs.RequirementLaws.{chosen_of-map}
use Rattle.model_laws.proofs.CountedOps.{Setting, ToldBound, Side, B, D, T, M, ident, names_over, transformer_map, over, side, goes_read}
use Rattle.model_laws.proofs.CountedUses.{transformer_same, ToldHead, told_head, head_goes, target_goes, counting_goes, use_goes, comparisons_goes}
use Rattle.model_laws.proofs.CountedForms.{parts_of_seen, forms_at_seen, here_seen, or_none_seen, comes, goes_comes, comes_bind, left_seen, ToldLeft, Ran, ran, ran_at, OverGo, SideGo, RanLaw, caught_comes, waiting_seen, noted_seen, told_bound, define_comes, put_goes, first_goes, define_goes, values_goes, record_goes, note_goes, rules_parts_goes, rules_at_goes}

module _ (c : Setting) (x : Side c) where
  module _ (f : OverGo c) (f' : SideGo c) (law : RanLaw c f f') (e : D c) where
    module _ (here : Here) where
      -- ---- macro definitions

      syntax_with : (d : Named (B c) × Tree (B c)) (s : T c) (q : Pending (B c) (M c)) → ToldLeft c q
          → Ran c (caught {B = Binder × Pending (B c) (M c)} q.notes (rules_parts (over c) here e (rules_parts_of d.1) s >>= λ r t0. rules_at (over c) here d.1 r t0 >>= λ rules t. told here ((over c).define d.0 (Some rules) e q t) >>= λ made. done (binder_at (over c) e t d.0, made.pending)) (λ r. f (put (Macro r.0 here) r.1)))
          (caught {B = Binder × Pending Ident FramedIdent} (left_seen c q).notes (rules_parts (side c x) here e.0 (rules_parts_of (map_tree (ident c) d.1)) s.0 >>= λ r t0. rules_at (side c x) here (map_tree (ident c) d.1) r t0 >>= λ rules t. told here ((side c x).define (named_map (ident c) d.0) (Some rules) e.0 (left_seen c q) t) >>= λ made. done (binder_at (side c x) e.0 t (named_map (ident c) d.0), made.pending)) (λ r. f' (put (Macro r.0 here) r.1)))
      syntax_with d s q h =
          caught_comes c {G = λ (v : Binder × Pending (B c) (M c)). ToldBound c.told v.0.bound × ToldLeft c v.1} {g = λ (v : Binder × Pending (B c) (M c)). (v.0, left_seen c v.1)} q.notes (λ r. f (put (Macro r.0 here) r.1)) (λ r. f' (put (Macro r.0 here) r.1))
          (comes_bind c _ _ (goes_comes c (rules_parts_goes c x here e d.1 s)) (λ r t0 a. comes_bind c _ _ (goes_comes c (rules_at_goes c x here e d.1 r t0)) (λ rules t a1. comes_bind c _ _ (define_comes c x here d.0 (Some rules) e q t h) (λ made u a2. comes refl (told_bound c e t, a2.0)))))
          (λ r u a. put_goes c x f f' law here e (Macro r.0 here) r.1 u a.0 a.1)

      syntax_goes : (p : Pending (B c) (M c)) → ToldLeft c p → (d : Named (B c) × Tree (B c)) (s : T c) → Ran c (run_syntax (over c) f here e p d s) (run_syntax (side c x) f' here e.0 (left_seen c p) (named_map (ident c) d.0, map_tree (ident c) d.1) s.0)
      syntax_goes p h d s =
          let note = rules_note (over c) e s (rules_parts_of d.1) in
          let q = ap (λ o. noted (rules_note (side c x) e.0 s.0 o) (left_seen c p)) (parts_of_seen (ident c) d.1) ∙ ap (λ ns. noted ns (left_seen c p)) (note_goes c x f f' law here e s (rules_parts_of d.1)) ∙ noted_seen c note p in
          ran_at c
          (ap (λ (z : Pending Ident FramedIdent). caught {B = Binder × Pending Ident FramedIdent} z.notes (rules_parts (side c x) here e.0 (rules_parts_of (map_tree (ident c) d.1)) s.0 >>= λ r t0. rules_at (side c x) here (map_tree (ident c) d.1) r t0 >>= λ rules t. told here ((side c x).define (named_map (ident c) d.0) (Some rules) e.0 z t) >>= λ made. done (binder_at (side c x) e.0 t (named_map (ident c) d.0), made.pending)) (λ r. f' (put (Macro r.0 here) r.1))) q)
          (syntax_with d s (noted note p) h)

      -- ---- core forms

      splice_goes : (p : Pending (B c) (M c)) → ToldLeft c p → (ts : Trees (B c)) (s : T c) → Ran c (splice (over c) f here p ts s) (splice (side c x) f' here (left_seen c p) (map_trees (ident c) ts) s.0)
      splice_goes p h ts s =
          caught_comes c p.notes (λ u. f (first (forms_at here ts) p)) (λ u. f' (first (forms_at here (map_trees (ident c) ts)) (left_seen c p))) (goes_comes c (counting_goes c x here 1 s))
          (λ v u a. ran_at c (ap (λ ys. f' (first ys (left_seen c p)) u.0) (forms_at_seen (ident c) here ts)) (first_goes c x f f' law here e (forms_at here ts) p u h))

      chosen_goes : (p : Pending (B c) (M c)) → ToldLeft c p → (o : Option (Trees (B c))) (s : T c) → Ran c (splice (over c) f here p (or_none o) s) (splice (side c x) f' here (left_seen c p) (or_none (option_map (map_trees (ident c)) o)) s.0)
      chosen_goes p h o s = ran_at c (ap (λ ts. splice (side c x) f' here (left_seen c p) ts s.0) (or_none_seen (ident c) o)) (splice_goes p h (or_none o) s)

      read_goes : {X Y : Type 0} {g : X → Y} {r : Result X (Fault (B c))} {r' : Result Y (Fault Ident)} (p : Pending (B c) (M c)) (k : X → T c → Pass (B c) (M c) × T c) (k' : Y → ScopedState → Pass Ident FramedIdent × ScopedState) (s : T c)
          → Reads (ident c) g r r' → ((v : X) (u : T c) → Ran c (k v u) (k' (g v) u.0)) → Ran c (read_then (over c) here p r k s) (read_then (side c x) here (left_seen c p) r' k' s.0)
      read_goes p k k' s rd next = caught_comes c p.notes k k' (goes_comes c (goes_read c here s rd)) (λ v u a. next v u)

      core_goes : (k : CoreKeyword) (t : Target) (y : Form (B c)) (ts : Trees (B c)) (tail : Tail (B c)) (p : Pending (B c) (M c)) → ToldLeft c p → (s : T c)
          → Ran c (run_core (over c) f here e k t y ts tail p s) (run_core (side c x) f' here e.0 k t (form_map (ident c) y) (map_trees (ident c) ts) (map_tail (ident c) tail) (left_seen c p) s.0)
      core_goes IsQuote t y ts tail p h s = put_goes c x f f' law here e (Expression y) p s tt h
      core_goes IsQuasiquote t y ts tail p h s = put_goes c x f f' law here e (Expression y) p s tt h
      core_goes IsLambda t y ts tail p h s = put_goes c x f f' law here e (Expression y) p s tt h
      core_goes IsCaseLambda t y ts tail p h s = put_goes c x f f' law here e (Expression y) p s tt h
      core_goes IsIf t y ts tail p h s = put_goes c x f f' law here e (Expression y) p s tt h
      core_goes IsSet t y ts tail p h s = put_goes c x f f' law here e (Expression y) p s tt h
      core_goes IsBegin t y ts tail p h s = read_goes p _ _ ((over c).meet t s) (proper_of-map (B c) Ident (ident c) ts tail) (λ us u. splice_goes p h us u)
      core_goes IsDefine t y ts tail p h s = read_goes p _ _ ((over c).meet t s) (definition_of-map (B c) Ident (ident c) (names_over c).same same_ident (λ i j. refl) ts tail) (λ d u. define_goes c x f f' law here e p h d u)
      core_goes IsDefineValues t y ts tail p h s = read_goes p _ _ ((over c).meet t s) (values_of-map (B c) Ident (ident c) (names_over c).same same_ident (λ i j. refl) ts tail) (λ d u. values_goes c x f f' law here e p h d u)
      core_goes IsDefineRecordType t y ts tail p h s = read_goes p _ _ ((over c).meet t s) (record_of-map (B c) Ident (ident c) (names_over c).same same_ident (λ i j. refl) ts tail) (λ r u. record_goes c x f f' law here e p h r u)
      core_goes IsDefineSyntax t y ts tail p h s = read_goes p _ _ ((over c).meet t s) (syntax_of-map (B c) Ident (ident c) ts tail) (λ d u. syntax_goes p h d u)
      core_goes IsLetSyntax t y ts tail p h s = put_goes c x f f' law here e (Expression y) p s tt h
      core_goes IsLetrecSyntax t y ts tail p h s = put_goes c x f f' law here e (Expression y) p s tt h
      core_goes IsCondExpand t y ts tail p h s = read_goes p _ _ ((over c).meet t s) (chosen_of-map (B c) Ident (ident c) (names_over c).strip symbol_of (λ i. refl) c.known ts tail) (λ o u. chosen_goes p h o u)
      core_goes IsSyntaxError t y ts tail p h s = put_goes c x f f' law here e (Expression y) p s tt h
      core_goes IsInclude t y ts tail p h s = put_goes c x f f' law here e (Expression y) p s tt h

      -- ---- macro uses

      run_use_goes : (k : Target) (o : Option (Transformer (D c) (B c))) (y : Form (B c)) (ts : Trees (B c)) (tail : Tail (B c)) (p : Pending (B c) (M c)) → ToldLeft c p → (s : T c)
          → Ran c (run_use (over c) f here e k o y ts tail p s) (run_use (side c x) f' here e.0 k (option_map (transformer_map c) o) (form_map (ident c) y) (map_trees (ident c) ts) (map_tail (ident c) tail) (left_seen c p) s.0)
      run_use_goes k None y ts tail p h s = put_goes c x f f' law here e (Expression y) p s tt h
      run_use_goes k (Some m) y ts tail p h s =
          let ns = comparisons (over c) e m ts tail s in
          ran_at c
          (ap (λ (z : Pending Ident FramedIdent). caught z.notes (use_of (side c x) here e.0 k (transformer_map c m) (map_trees (ident c) ts) (map_tail (ident c) tail) s.0) (λ i. f' (first (record { here = here; tree = i.tree } ∷ []) (waiting i.met z))))
          (ap (λ zs. noted zs (left_seen c p)) (comparisons_goes c x e m ts tail s) ∙ noted_seen c ns p))
          (caught_comes c (noted ns p).notes (λ i. f (first (record { here = here; tree = i.tree } ∷ []) (waiting i.met (noted ns p)))) (λ i. f' (first (record { here = here; tree = i.tree } ∷ []) (waiting i.met (left_seen c (noted ns p)))))
          (goes_comes c (use_goes c x here e k m ts tail s)) (λ i u a.
          ran_at c (ap (λ z. f' (first (record { here = here; tree = map_tree (ident c) i.tree } ∷ []) z) u.0) (waiting_seen c i.met (noted ns p))) (first_goes c x f f' law here e (record { here = here; tree = i.tree } ∷ []) (waiting i.met (noted ns p)) u h)))

      by_head : (hd : Head) → ToldHead c x hd → (t : Target) (y : Form (B c)) (ts : Trees (B c)) (tail : Tail (B c)) (p : Pending (B c) (M c)) → ToldLeft c p → (s : T c)
          → Ran c (run_head (over c) f here e hd t y ts tail p s) (run_head (side c x) f' here e.0 hd t (form_map (ident c) y) (map_trees (ident c) ts) (map_tail (ident c) tail) (left_seen c p) s.0)
      by_head (IsCore k) q t y ts tail p h s = core_goes k t y ts tail p h s
      by_head (IsAuxiliary a) q t y ts tail p h s = put_goes c x f f' law here e (Expression y) p s tt h
      by_head (IsMacro m) q t y ts tail p h s =
          ran_at c (ap (λ o. run_use (side c x) f' here e.0 t o (form_map (ident c) y) (map_trees (ident c) ts) (map_tail (ident c) tail) (left_seen c p) s.0) (transformer_same c x s m q)) (run_use_goes t ((over c).transformer s m) y ts tail p h s)
      by_head IsNone q t y ts tail p h s = put_goes c x f f' law here e (Expression y) p s tt h

      -- ---- any form

      form_goes : (y : Form (B c)) (t : Tree (B c)) (p : Pending (B c) (M c)) → ToldLeft c p → (s : T c) → Ran c (run_form (over c) f e here y t p s) (run_form (side c x) f' e.0 here (form_map (ident c) y) (map_tree (ident c) t) (left_seen c p) s.0)
      form_goes y (name i o) p h s = put_goes c x f f' law here e (Expression y) p s tt h
      form_goes y (atom a o) p h s = put_goes c x f f' law here e (Expression y) p s tt h
      form_goes y (vector ts o) p h s = put_goes c x f f' law here e (Expression y) p s tt h
      form_goes y (list no_trees tail o) p h s = put_goes c x f f' law here e (Expression y) p s tt h
      form_goes y (list (tree (name i q) ts) tail o) p h s =
          let hd = head_goes c x e s i in let tg = target_goes c x e s i q in
          let note : List (Note (M c)) = LookedUp (e, i) true (is_keyword (head_of (over c) e s i)) ∷ [] in
          ran_at c
          ((λ j. run_head (side c x) f' here e.0 (hd j) (tg j) (form_map (ident c) y) (map_trees (ident c) ts) (map_tail (ident c) tail) (noted (LookedUp (record { frames = e.0; ident = i.0 }) true (is_keyword (hd j)) ∷ []) (left_seen c p)) s.0)
          ∙ ap (λ z. run_head (side c x) f' here e.0 (head_of (over c) e s i) (target_of (over c) e s i q) (form_map (ident c) y) (map_trees (ident c) ts) (map_tail (ident c) tail) z s.0) (noted_seen c note p))
          (by_head (head_of (over c) e s i) (told_head c x e s i) (target_of (over c) e s i q) y ts tail (noted note p) h s)
      form_goes y (list (tree (atom a q) ts) tail o) p h s = put_goes c x f f' law here e (Expression y) p s tt h
      form_goes y (list (tree (list us end q) ts) tail o) p h s = put_goes c x f f' law here e (Expression y) p s tt h
      form_goes y (list (tree (vector us q) ts) tail o) p h s = put_goes c x f f' law here e (Expression y) p s tt h

    next_goes : (todo : List (Form (B c))) (p : Pending (B c) (M c)) → ToldLeft c p → (s : T c) → Ran c (run_next (over c) f e todo p s) (run_next (side c x) f' e.0 (map (form_map (ident c)) todo) (left_seen c p) s.0)
    next_goes [] p h s = ran refl h
    next_goes (y ∷ ys) p h s =
        ran_at c (ap (λ hr. run_form (side c x) f' e.0 hr (form_map (ident c) y) (map_tree (ident c) y.tree) (left_seen c (record p { todo = ys })) s.0) (here_seen (ident c) y.tree y.here))
        (form_goes _ y y.tree (record p { todo = ys }) h s)

  -- all forms, within the same turns
  pub run_goes : (turns : ℕ) (e : D c) → RanLaw c (run (over c) turns e) (run (side c x) turns e.0)
  run_goes zero e p s h = ran refl tt
  run_goes (suc turns) e p s h = next_goes (run (over c) turns e) (run (side c x) turns e.0) (run_goes turns e) e p.todo p h s
