-- The law of binders: procedures, and any step in the region of several binders.
use Rattle.std.proofs.Common.{◌≡◌, ℕ, suc, List, [], ◌∷◌, map, Bool, cond, Result, Ok, Err, refl, sym, ap, ◌∙◌, subst, eq-eqb}
use Rattle.scheme_model.specs.Identifiers.{Number, Name}
use Rattle.scheme_model.specs.Ident.{Ident, erase}
use Rattle.scheme_model.specs.Trees.{Trees, map_trees}
use Rattle.scheme_model.specs.ExpansionFaults.{Named, named_map, Fault}
use Rattle.scheme_model.specs.Requirements.{Known}
use Rattle.scheme_model.specs.Shapes.{Clause}
use Rattle.scheme_model.specs.Cores.{LocalNumber, Lambda, no_clauses, clause}
use Rattle.scheme_model.specs.Steps.{Broken, Step}
use Rattle.scheme_model.specs.Order.{Here, given}
use Rattle.scheme_model.specs.Expression.{body, bound, procedure, lambda, clauses, numbers}
use Rattle.scheme_model.specs.Substitution.{State, Clock, at_form, clause_map, shallow, model}
use Rattle.scheme_model.specs.ScopedExpansion.{Bind, Frames, ScopedState, next_number, scoped}
use Rattle.scheme_model.specs.FrameImages.{bound_as}
use Rattle.scheme_model.proofs.OpenBodies.{Leq}
use Rattle.model_laws.proofs.FrameEras.{Era, Before, Below, before_more, below_more}
use Rattle.scheme_model.proofs.ScopeLaws.{map_map_all, map_same_all}
use Rattle.model_laws.proofs.IdentKinds.{trees_kind, clause_kind, clauses_kind}
use Rattle.scheme_model.proofs.Clocks.{leq_counted}
use Rattle.scheme_model.proofs.Distinct.{Differ, Distinct, AllDistinct, ok_same, not_ok}
use Rattle.model_laws.proofs.FrameNames.{erase_frame_image}
use Rattle.model_laws.proofs.FrameAsks.{AllOf, all_of_more}
use Rattle.model_laws.proofs.FrameStates.{names, view, Old, ident_of, Made, made_later, made_same, FineState, Grows, grows_itself, grows_then, Stands, stands_later, names_later, locals_fine, locals_grow, next_old}
use Rattle.model_laws.proofs.FrameGrowth.{bound_state, bind_names, bind_stands}
use Rattle.model_laws.proofs.FrameLeaves.{all_made_trees}
use Rattle.model_laws.proofs.FrameAgrees.{Agrees, agree, break, agrees_at, agrees_more, Keeps, keeps_bind, Same, same_done}
use Rattle.model_laws.proofs.FrameHeads.{node_law}
use Rattle.model_laws.proofs.FrameExpressions.{Scoped, Modelled, BodyLaw, trees_old}

-- what is known of each value that can be read
pub knows : {A B : Type 0} {K : ScopedState → Bool → List Number → Type 0} {R : ScopedState → A → B → Type 0} {m : Result B Broken × State} (P : A → Type 0) (here : Here) (r : Result A (Fault Ident)) (s : ScopedState)
    → ((x : A) → r ≡ Ok x → P x) → Agrees K R (given (λ i. i) here r s) m → Agrees K (λ t a b. R t a b × P a) (given (λ i. i) here r s) m
knows P here (Ok x) s h (agree a b t i n e d k q) = agree a b t i n e d k (q, subst P (ok_same Broken x a (ap (λ y. y.0) e)) (h x refl))
knows P here (Ok x) s h (break y t i n e d k) = break y t i n e d k
knows P here (Err z) s h (agree a b t i n e d k q) = not_ok _ a (ap (λ y. y.0) e)
knows P here (Err z) s h (break y t i n e d k) = break y t i n e d k

module _ (w : Era) (known : Known) where
  -- names that were made by then
  abbrev pub NamesOld : Clock → List (Named Ident) → Type 0
  NamesOld u ns = AllOf (λ (n : Named Ident). Below w u n.name) ns

  pub names_old : (u v : Clock) → Leq u v → (ns : List (Named Ident)) → NamesOld u ns → NamesOld v ns
  names_old u v le ns h = all_of_more (λ (n : Named Ident). Below w u n.name) (λ (n : Named Ident). Below w v n.name) (λ n e. below_more w u v le n.name e) ns h

  pub names_made : (u : Clock) (ns : List (Named (Old w u))) → NamesOld u (map (named_map (ident_of w u)) ns)
  names_made u [] = tt
  names_made u (n ∷ ns) = (n.name.1, names_made u ns)

  -- a binder changes no other name
  other_names : (s : ScopedState) (fs : Frames) (n : Named Ident) (ms : List (Named Ident)) → Differ n ms
      → map (named_map (names s fs)) ms ≡ map (named_map (names (bound_state w s) (Bind n.name (next_number s s.locals) ∷ fs))) ms
  other_names s fs n [] h = refl
  other_names s fs n (m ∷ ms) h =
      let e = ap (λ t. bound_as t (next_number s s.locals) (names s fs m.name)) (sym h.0) in
      let rest = other_names s fs n ms h.1 in
      λ j. record { name = e j; occ = m.occ } ∷ rest j

  -- the next numbers of a form
  numbers_next : (s : ScopedState) (ns : List (Named Ident)) → numbers (record { unit = s.unit; form = s.form; count = suc (s.locals s.form) }) ns ≡ numbers (next_number (bound_state w s) (at_form s.form suc s.locals)) ns
  numbers_next s ns = ap (λ c. numbers (record { unit = s.unit; form = s.form; count = c }) ns) (sym (ap (λ t. cond t (suc (s.locals s.form)) (s.locals s.form)) (eq-eqb s.form s.form refl)))

  bound_keeps : (s : ScopedState) → Grows w s (bound_state w s)
  bound_keeps s = locals_grow w s (at_form s.form suc s.locals) (leq_counted s.form s.locals)

  -- what follows in the region of these binders, in any later state in which they are counted
  abbrev pub InRegion : {B : Type 0} → List (Named Ident) → ScopedState → Trees Ident → (Frames → Trees Ident → Step ScopedState B) → (Unit {0} → Trees Name → Step State B) → Type 0
  InRegion ns s ts go go' = (fs : Frames) (t : ScopedState) → FineState w t → Grows w s t → Stands w t fs → AllOf (Before w t.locals) (numbers (next_number s s.locals) ns) → (in_body : Bool) (mine : List Number)
      → Same w t (go fs ts t) (go' tt (map_trees (names t fs) ts) (view in_body mine t))

  pub bound_law : {B : Type 0} (go : Frames → Trees Ident → Step ScopedState B) (go' : Unit {0} → Trees Name → Step State B) (ts : Trees Ident) (ns : List (Named Ident)) (fs : Frames) (s : ScopedState) → FineState w s → (in_body : Bool) (mine : List Number)
      → Stands w s fs → Distinct ns → NamesOld s.uses ns → InRegion ns s ts go go' → Same w s (bound (scoped known) go ns fs ts s) (bound (model known) go' (map (named_map (names s fs)) ns) tt (map_trees (names s fs) ts) (view in_body mine s))
  bound_law go go' ts [] fs s f i n h d l law = keeps_bind w s _ (law fs s f (grows_itself w s) h tt i n) (λ a b t i1 n1 k e. same_done w t i1 n1 ([], a) ([], b) k.0 (λ j. ([], e j)))
  bound_law {B} go go' ts (x ∷ xs) fs s f i n h d l law =
      let v = next_number s s.locals in
      let s1 = bound_state w s in
      let trees = map_map_all (shallow (names s fs x.name) v) (names s fs) ts ∙ map_same_all (λ j. shallow (names s fs x.name) v (names s fs j)) (names s1 (Bind x.name v ∷ fs)) (bind_names w s fs x.name) ts in
      let others = other_names s fs x xs d.0 in
      keeps_bind w s _
      (agrees_more {K = Keeps w s1} {L = Keeps w s} (λ t i1 n1 k. (k.0, grows_then w s s1 t (bound_keeps s) k.1)) (λ t a b q. q)
      (agrees_at refl (λ j. bound (model known) go' (others j) tt (trees j) (view i n s1))
      (bound_law go go' ts xs (Bind x.name v ∷ fs) s1 (locals_fine w s (at_form s.form suc s.locals) (leq_counted s.form s.locals) f) i n (bind_stands w s f fs x.name h l.0) d.1 l.1 (region v s1))))
      (λ a b t i1 n1 k e. same_done w t i1 n1 (record { bound = LocalNumber v; ident = x.name; occ = x.occ } ∷ a.0, a.1) (record { bound = LocalNumber v; ident = erase (names s fs x.name); occ = x.occ } ∷ b.0, b.1) k.0
      (let p = sym (erase_frame_image s.places s.definitions fs x.name) in λ j. (record { bound = LocalNumber v; ident = p j; occ = x.occ } ∷ (e j).0, (e j).1)))
    where
      region : (v : Number) (s1 : ScopedState) → InRegion xs (bound_state w s) ts go go'
      region v s1 c t ft g st counted i1 n1 =
          law c t ft (grows_then w s (bound_state w s) t (bound_keeps s) g) st
          (before_more w (at_form s.form suc s.locals) t.locals g.locals (next_number s s.locals) (next_old w s f s.locals), subst (AllOf (Before w t.locals)) (sym (numbers_next s xs)) counted) i1 n1

  -- ---- procedures

  module _ (F : Scoped w known) (G : Modelled w known) (law : BodyLaw w known F G) where
    pub procedure_law : (depth : ℕ) (here : Here) (fs : Frames) (c : Clause Ident) (s : ScopedState) → FineState w s → (in_body : Bool) (mine : List Number) → Stands w s fs → Made clause_kind w s.uses c → Distinct c.formals.names
        → Same w s (procedure F (scoped known) depth here fs c s) (procedure G (model known) depth here tt (clause_map (names s fs) c) (view in_body mine s))
    procedure_law depth here fs c s f i n h m d =
        keeps_bind w s _
        (bound_law (λ e ts. F depth here e (body ts)) (λ e ts. G depth here e (body ts)) c.body c.formals.names fs s f i n h d old
        (λ fs1 t ft g st counted i1 n1. law depth here fs1 c.body t ft i1 n1 st (trees_old w known s t g c.body (all_made_trees w s.uses c.body forms))))
        (λ a b t i1 n1 k e. same_done w t i1 n1 (record { names = a.0; rest = c.formals.rest }, a.1) (record { names = b.0; rest = c.formals.rest }, b.1) k.0 (λ j. (record { names = (e j).0; rest = c.formals.rest }, (e j).1)))
      where
        forms : Made trees_kind w s.uses c.body
        forms = record { clock = m.clock; earlier = m.earlier; made = m.made.body; same = ap (λ (x : Clause Ident). x.body) m.same }

        old : NamesOld s.uses c.formals.names
        old = names_old m.clock s.uses m.earlier c.formals.names (subst (λ (x : Clause Ident). NamesOld m.clock x.formals.names) m.same (names_made m.clock m.made.formals.names))

    pub lambda_law : (depth : ℕ) (here : Here) (fs : Frames) (c : Clause Ident) (s : ScopedState) → FineState w s → (in_body : Bool) (mine : List Number) → Stands w s fs → Made clause_kind w s.uses c → Distinct c.formals.names
        → Same w s (lambda F (scoped known) depth here fs c s) (lambda G (model known) depth here tt (clause_map (names s fs) c) (view in_body mine s))
    lambda_law depth here fs c s f i n h m d =
        node_law w known here 1 depth s f i n _ _ (λ below x.
        keeps_bind w (record s { nodes = x }) _ (procedure_law below here fs c (record s { nodes = x }) f i n h m d) (λ a b t i1 n1 k e. same_done w t i1 n1 (Lambda a.0 a.1) (Lambda b.0 b.1) k.0 (λ j. Lambda (e j).0 (e j).1)))

    abbrev ClausesMade : Clock → List (Clause Ident) → Type 0
    ClausesMade u cs = AllOf (Made clause_kind w u) cs

    clauses_still : (s t : ScopedState) → FineState w s → Grows w s t → (fs : Frames) → Stands w s fs → (cs : List (Clause Ident)) → ClausesMade s.uses cs → map (clause_map (names s fs)) cs ≡ map (clause_map (names t fs)) cs
    clauses_still s t f g fs h [] m = refl
    clauses_still s t f g fs h (c ∷ cs) m =
        let e = made_same clause_kind w s.uses (names s fs) (names t fs) (names_later w s t f g fs h) c m.0 in let rest = clauses_still s t f g fs h cs m.1 in λ j. e j ∷ rest j

    pub clauses_law : (depth : ℕ) (here : Here) (fs : Frames) (cs : List (Clause Ident)) (s : ScopedState) → FineState w s → (in_body : Bool) (mine : List Number) → Stands w s fs → AllOf (Made clause_kind w s.uses) cs → AllDistinct cs
        → Same w s (clauses F (scoped known) depth here fs cs s) (clauses G (model known) depth here tt (map (clause_map (names s fs)) cs) (view in_body mine s))
    clauses_law depth here fs [] s f i n h m d = same_done w s i n no_clauses no_clauses f refl
    clauses_law depth here fs (c ∷ cs) s f i n h m d =
        keeps_bind w s _ (procedure_law depth here fs c s f i n h m.0 d.0) (λ a b t i1 n1 k e.
        keeps_bind w t _ (agrees_at refl (ap (λ ds. clauses G (model known) depth here tt ds (view i1 n1 t)) (clauses_still s t f k.1 fs h cs m.1))
        (clauses_law depth here fs cs t k.0 i1 n1 (stands_later w s t k.1 fs h) (all_of_more (Made clause_kind w s.uses) (Made clause_kind w t.uses) (λ x q. made_later clause_kind w s.uses t.uses k.1.uses x q) cs m.1) d.1)) (λ ps bs v i2 n2 k2 e2.
        same_done w v i2 n2 (clause a.0 a.1 ps) (clause b.0 b.1 bs) k2.0 (λ j. clause (e j).0 (e j).1 (e2 j))))

  -- clauses that were made by then, one by one
  pub each_made : (u : Clock) (cs : List (Clause Ident)) → Made clauses_kind w u cs → AllOf (Made clause_kind w u) cs
  each_made u cs m = subst (AllOf (Made clause_kind w u)) m.same (go m.made)
    where
      go : (xs : List (Clause (Old w m.clock))) → AllOf (Made clause_kind w u) (map (clause_map (ident_of w m.clock)) xs)
      go [] = tt
      go (x ∷ xs) = (record { clock = m.clock; earlier = m.earlier; made = x; same = refl }, go xs)
