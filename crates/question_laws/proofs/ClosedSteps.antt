-- Each step of expansion leaves standing what is imported, and what a macro is kept for: only definitions change what stands, and they add to it.
use Rattle.std.proofs.Common.{◌≡◌, ℕ, List, [], ◌∷◌, map, Bool, true, false, cond, eqb, Option, Some, None, Result, Ok, Err, refl, sym, ap, ◌∙◌, eq-eqb}
use Rattle.std.specs.Prelude.{◌&&◌, nat_lt}
use Rattle.std.proofs.lemmas.Bool.{and_from}
use Rattle.scheme_model.specs.Identifiers.{Number}
use Rattle.scheme_model.specs.Ident.{Ident, same_ident}
use Rattle.scheme_model.specs.Trees.{Tree}
use Rattle.scheme_model.specs.ExpansionFaults.{Named, Fault, KeywordRedefined, Duplicate}
use Rattle.scheme_model.specs.Meaning.{Global, same_meaning}
use Rattle.scheme_model.specs.Requirements.{Known}
use Rattle.scheme_model.specs.RulesShape.{Rules}
use Rattle.scheme_model.specs.Cores.{Bound, no_parts, part, Part}
use Rattle.scheme_model.specs.Steps.{Broken, ◌>>=◌, done}
use Rattle.scheme_model.specs.Order.{Item, Note, Left, Pending, Renamed, Transformer, Ops, is_some, meet_all, run}
use Rattle.scheme_model.specs.Expression.{meaning_of, expand, item_part, parts}
use Rattle.scheme_model.specs.UnitExpansion.{Work, ◌then◌, going, max_depth, max_total, nodes_in, unless_over, LeftOf, one_form, passes, with_part, before_parts, items_parts, form_parts, finished, unit}
use Rattle.scheme_model.specs.Substitution.{Table, Defined, defined_in, any, unchanged}
use Rattle.scheme_model.specs.ScopedExpansion.{Frames, FramedIdent, ScopedState, macro_at, body_around, definition_added, meaning_next, is_defined}
use Rattle.scheme_model.specs.CountedExpansion.{refused_here, counted}
use Rattle.scheme_model.proofs.IdentLaws.{ident_itself}
use Rattle.model_laws.proofs.FrameHeads.{IfMacro}
use Rattle.form_laws.proofs.Sides.{Results, ItemLike, PendingLike, RenamedLike, Sides}
use Rattle.form_laws.proofs.SideSteps.{meet_all_later}
use Rattle.form_laws.proofs.SideRuns.{both_itself, item_itself, run_runs}
use Rattle.form_laws.proofs.SideExpressions.{expand_goes, left_parts}
use Rattle.question_laws.specs.Noted.{is_defined_in, IsClosed}
use Rattle.question_laws.proofs.Roots.{same_one}

-- what stood stands, by the same imports
abbrev pub Later : ScopedState → ScopedState → Type 0
Later s t = (IsClosed s → IsClosed t) × ((u : ℕ) (i : Ident) → is_defined_in s.table u i ≡ true → is_defined_in t.table u i ≡ true) × (t.entry ≡ s.entry)

-- ---- definitions

pub defined_more : (d : Defined) (table : Table) (u : ℕ) (i : Ident) → is_defined_in table u i ≡ true → is_defined_in (d ∷ table) u i ≡ true
defined_more d table u i e = go (eqb d.unit u && same_ident d.ident i)
  where
    go : (b : Bool) → is_some (cond b (Some d) (defined_in table u i)) ≡ true
    go true = refl
    go false = e

pub defined_first : (d : Defined) (table : Table) (u : ℕ) (i : Ident) → d.unit ≡ u → d.ident ≡ i → is_defined_in (d ∷ table) u i ≡ true
defined_first d table u i a b =
    (λ j. is_defined_in (d ∷ table) (sym a j) (sym b j))
    ∙ ap (λ t. is_some (cond t (Some d) (defined_in table d.unit d.ident))) (and_from (eqb d.unit d.unit) (same_ident d.ident d.ident) (eq-eqb d.unit d.unit refl) (ident_itself d.ident))

module _ (s : ScopedState) (n : Named Ident) (fs : Frames) where
  added_closed : (b : Option Number) (r : Option (Rules Ident)) → IsClosed s → IsClosed (definition_added b n r fs s)
  added_closed None None h =
      let d : Defined = record { unit = s.unit; form = s.form; ident = n.name; keyword = false; occ = n.occ } in
      record { imports = λ u x v i e. defined_more d s.table v i (h.imports u x v i e); kept = λ v i e. defined_more d s.table v i (h.kept v i e) }
  added_closed None (Some r) h = record { imports = λ u x v i e. defined_more d s.table v i (h.imports u x v i e); kept = λ v i e. go v i (same_meaning (Global s.unit n.name) (Global v i)) refl (λ f. h.kept v i f) e }
    where
      d : Defined
      d = record { unit = s.unit; form = s.form; ident = n.name; keyword = true; occ = n.occ }

      go : (v : ℕ) (i : Ident) (t : Bool) → same_meaning (Global s.unit n.name) (Global v i) ≡ t → (is_some (macro_at s.macros (Global v i)) ≡ true → is_defined_in s.table v i ≡ true)
          → is_some (cond t (Some (record { env = fs; rules = r })) (macro_at s.macros (Global v i))) ≡ true → is_defined_in (d ∷ s.table) v i ≡ true
      go v i true f k e = let p = same_one s.unit v n.name i f in defined_first d s.table v i p.0 p.1
      go v i false f k e = defined_more d s.table v i (k e)
  added_closed (Some b) None h = h
  added_closed (Some b) (Some r) h = record { imports = h.imports; kept = h.kept }

  added_later : (b : Option Number) (r : Option (Rules Ident)) → Later s (definition_added b n r fs s)
  added_later None r = (added_closed None r, λ u i e. defined_more (record { unit = s.unit; form = s.form; ident = n.name; keyword = is_some r; occ = n.occ }) s.table u i e, refl)
  added_later (Some b) r = (added_closed (Some b) r, λ u i e. e, refl)

  ended_later : (refused stood : Bool) (b : Option Number) (r : Option (Rules Ident)) (p : Pending Ident FramedIdent) → Later s (cond {A = Result (Renamed Ident FramedIdent) (Fault Ident) × ScopedState} refused (Err (KeywordRedefined n), s) (cond stood (Err (Duplicate n), s) (Ok (unchanged p), definition_added b n r fs s))).1
  ended_later true stood b r p = (λ h. h, λ u i e. e, refl)
  ended_later false true b r p = (λ h. h, λ u i e. e, refl)
  ended_later false false b r p = added_later b r

-- ---- all steps

module _ (known : Known) where
  abbrev ops : Ops Frames Ident FramedIdent ScopedState
  ops = counted known

  -- of the second side nothing is asked
  abbrev anything : ScopedState → Frames → Frames → Type 0
  anything s e f = Unit {0}

  abbrev Same : Bound → Bound → Type 0
  Same x y = y ≡ x

  any_frames : (o : Option (Transformer Frames Ident)) → IfMacro (λ (c : Transformer Frames Ident). (g : Frames) × Unit {0}) o
  any_frames None = tt
  any_frames (Some c) = ([], tt)

  pending_itself : (p : Pending Ident FramedIdent) → PendingLike Same (λ ns ms. Unit {0}) p p
  pending_itself p = record { todo = refl; aside = both_itself (ItemLike Same) (item_itself Same (λ x. refl)) p.aside; uses = refl; notes = tt }

  results_itself : (y : Result (Renamed Ident FramedIdent) (Fault Ident)) → (z : Result (Renamed Ident FramedIdent) (Fault Ident)) × Results (RenamedLike Same (λ ns ms. Unit {0})) y z
  results_itself (Ok d) = (Ok d, (pending_itself d.pending, refl))
  results_itself (Err e) = (Err e, refl)

  abbrev steps : Sides ops ops anything
  steps = record {
    same_so_far = λ s. Unit {0};
    later = Later;
    near = λ s t. ⊥;
    defines = λ e. Unit {0};
    like = λ s l m. Unit {0};
    bounds = λ e. Same;
    notes = λ s e ns ms. Unit {0};
    ruled = λ s m. Unit {0};
    ruled_there = λ s m a. tt;
    itself = λ s. (λ h. h, λ u i e. e, refl);
    then_ = λ s t u a b. (λ h. b.0 (a.0 h), λ v i e. b.1 v i (a.1 v i e), b.2 ∙ a.2);
    fits_later = λ s t a e f h. tt;
    notes_later = λ s t a e ns ms d. tt;
    more_notes = λ s e ns ms d n m l. tt;
    placed = λ s e f h i. tt;
    answered = λ s t h qs a. absurd h;
    ask_back = λ s qs a. tt;
    ask_later = λ s qs. (λ h. h, λ u i e. e, refl);
    ask_near = λ s t h qs rs a. h;
    ask_means = λ s qs e i. refl;
    ask_macro = λ s qs m. refl;
    ask_meant = λ t rs f i. refl;
    counts = λ s t h. absurd h;
    spend_back = λ s n a. tt;
    spend_later = λ s n. (λ h. h, λ u i e. e, refl);
    spend_near = λ s t h n. h;
    spend_means = λ s n e i. refl;
    spend_meant = λ t n f i. refl;
    meet_back = λ s x a. tt;
    meet_later = λ s x. (λ h. h, λ u i e. e, refl);
    meet_near = λ s t h x. h;
    meet_use_back = λ s u a. tt;
    meet_use_later = λ s u. (λ h. h, λ v i e. e, refl);
    meet_use_near = λ s t h u. h;
    next_use = λ s t h. absurd h;
    begin_back = λ s e a. tt;
    begin_later = λ s e f h. (λ k. k, λ u i d. d, refl);
    begin_near = λ s t h e f a. h;
    next_local = λ s t h. absurd h;
    take_back = λ s a. tt;
    take_later = λ s. (λ h. h, λ u i e. e, refl);
    take_near = λ s t h. h;
    some_bound = λ s e f h. (ops.next_bound e s, refl);
    next_bound = λ s t h e f a. absurd h;
    same_meant = λ e x y q i. ap (λ z. meaning_of z i) q;
    bind_back = λ s x e ts a. tt;
    bind_later = λ s x e f h ts. (λ k. k, λ u i d. d, refl);
    bind_some = λ s x e f h ts. ([], tt);
    bind_near = λ s t h x e f a ts. absurd h;
    macro = λ s e f h m. any_frames (macro_at s.macros m);
    keep_back = λ s v r e a. tt;
    keep_later = λ s v r e f h. (λ k. record { imports = k.imports; kept = k.kept }, λ u i d. d, refl);
    keep_near = λ s t h v r e f a. h;
    enter_back = λ s e ts a. tt;
    enter_later = λ s e f h ts. (λ k. k, λ u i d. d, refl);
    enter_some = λ s e f h ts. ([], tt);
    enter_near = λ s t h e f a ts. absurd h;
    entered = λ s e f h ts. tt;
    inside = λ s e ts. tt;
    inside_bounds = λ s e ts x y q. q;
    define_back = λ s n r e p a. tt;
    define_later = λ s e f d h n r p q l.
        let b = body_around e in
        ended_later s n e (any (refused_here (definition_added b n r e s) (meaning_next s b n.name) (is_some r)) p.notes) (is_defined s b n.name) b r p;
    define_some = λ s e f d h n r p q l. results_itself (ops.define n r e p s).0;
    define_near = λ s t h e f d a n r p q l b. absurd h;
  }

  -- ---- a form

  module _ (turns : ℕ) where
    pub run_later : (p : Pending Ident FramedIdent) (s : ScopedState) → Later s (run ops turns [] p s).1
    run_later p s = (run_runs ops ops anything steps [] [] tt turns p p s tt (pending_itself p)).after

    pub finish_later : (l : Left Ident) (s : ScopedState) → Later s (parts (item_part (expand ops turns) ops max_depth []) l.items (meet_all ops [] l.uses s)).1
    finish_later l s =
        (left_parts ops ops anything steps (λ s m. tt) (expand ops turns) (expand ops turns) (expand_goes ops ops anything steps (λ s m. tt) turns) Same (λ x y e i. ap (λ z. meaning_of z i) e) max_depth [] [] l l
        (refl, both_itself (ItemLike Same) (item_itself Same (λ x. refl)) l.items) s tt).after

    item_later : (i : Item Ident) (s : ScopedState) → Later s (item_part (expand ops turns) ops max_depth [] i s).1
    item_later i s = go (item_part (expand ops turns) ops max_depth [] i s) (finish_later (record { uses = []; items = i ∷ [] }) s)
      where
        go : (q : Result Part Broken × ScopedState) → Later s (q >>= λ p. λ t. done no_parts t >>= λ ps. done (part p ps)).1 → Later s q.1
        go (Ok p, t) a = a
        go (Err e, t) a = a

    -- ---- a unit

    over_later : {X : Type 0} (fs : List ℕ) (s : ScopedState) (q : X × ScopedState) → Later s q.1 → Later s (unless_over ops fs q).1
    over_later {X} fs s q a = go (nat_lt max_total (nodes_in ops fs q.1))
      where
        go : (b : Bool) → Later s (cond {A = Option X × ScopedState} b (None, q.1) (Some q.0, q.1)).1
        go true = a
        go false = a

    then_later : {X Y : Type 0} (s : ScopedState) (q : Option X × ScopedState) (f : X → Work ScopedState Y) → Later s q.1 → ((x : X) → Later q.1 (f x q.1).1) → Later s (q then f).1
    then_later s (None, t) f a g = a
    then_later s (Some x, t) f a g = let b = g x in (λ h. b.0 (a.0 h), λ v i e. b.1 v i (a.1 v i e), b.2 ∙ a.2)

    -- and then nothing changes
    then_going : {X Y : Type 0} (s : ScopedState) (q : Option X × ScopedState) (f : X → Y) → Later s q.1 → Later s (q then λ x. going (f x)).1
    then_going s q f a = then_later s q (λ x. going (f x)) a (λ x. (λ h. h, λ u i e. e, refl))

    passes_later : (fs : List ℕ) (ts : List (ℕ × Tree Ident)) (notes : List (Note FramedIdent)) (s : ScopedState) → Later s (passes ops turns [] fs ts notes s).1
    passes_later fs [] notes s = (λ h. h, λ u i e. e, refl)
    passes_later fs (t ∷ ts) notes s =
        let one = run ops turns [] (one_form t.1 notes) (ops.turn t.0 s) in
        let over = unless_over ops fs one in
        then_later s over (λ q t1. passes ops turns [] fs ts q.notes t1 then λ rest. going ((t.0, q.left) ∷ rest)) (over_later fs s one (run_later (one_form t.1 notes) (ops.turn t.0 s)))
        (λ q. then_going over.1 (passes ops turns [] fs ts q.notes over.1) (λ rest. (t.0, q.left) ∷ rest) (passes_later fs ts q.notes over.1))

    items_later : (fs : List ℕ) (is : List (Item Ident)) (s : ScopedState) → Later s (items_parts ops fs (item_part (expand ops turns) ops max_depth []) is s).1
    items_later fs [] s = (λ h. h, λ u i e. e, refl)
    items_later fs (i ∷ is) s =
        let f = item_part (expand ops turns) ops max_depth [] in
        let over = unless_over ops fs (f i s) in
        then_later s over (before_parts (items_parts ops fs f is)) (over_later fs s (f i s) (item_later i s)) (λ r. go over.1 r (items_later fs is over.1))
      where
        go : (t : ScopedState) (r : Result Part Broken) → Later t (items_parts ops fs (item_part (expand ops turns) ops max_depth []) is t).1 → Later t (before_parts (items_parts ops fs (item_part (expand ops turns) ops max_depth []) is) r t).1
        go t (Err e) a = (λ h. h, λ u i e. e, refl)
        go t (Ok p) a = then_going t (items_parts ops fs (item_part (expand ops turns) ops max_depth []) is t) (λ r. with_part p r) a

    pub form_later : (fs : List ℕ) (r : Result (Left Ident) Broken) (s : ScopedState) → Later s (form_parts ops (expand ops turns) [] fs r s).1
    form_later fs (Err e) s = (λ h. h, λ u i d. d, refl)
    form_later fs (Ok l) s =
        let m = meet_all ops [] l.uses s in
        let a = meet_all_later ops ops anything steps [] l.uses s in let b = items_later fs l.items m in
        (λ h. b.0 (a.0 h), λ v i e. b.1 v i (a.1 v i e), b.2 ∙ a.2)

    finished_later : (fs : List ℕ) (rs : List (LeftOf Ident)) (s : ScopedState) → Later s (finished ops (expand ops turns) [] fs rs s).1
    finished_later fs [] s = (λ h. h, λ u i e. e, refl)
    finished_later fs (r ∷ rs) s =
        let one = form_parts ops (expand ops turns) [] fs r.1 (ops.turn r.0 s) in
        then_later s one (λ ps t. finished ops (expand ops turns) [] fs rs t then λ rest. going (record { form = r.0; result = ps; counted = ops.counted t } ∷ rest)) (form_later fs r.1 (ops.turn r.0 s))
        (λ ps. then_going one.1 (finished ops (expand ops turns) [] fs rs one.1) (λ rest. record { form = r.0; result = ps; counted = ops.counted one.1 } ∷ rest) (finished_later fs rs one.1))

    pub unit_later : (ts : List (ℕ × Tree Ident)) (s : ScopedState) → Later s (unit ops turns [] ts s).1
    unit_later ts s =
        let fs = map (λ t. t.0) ts in
        let p = passes ops turns [] fs ts [] s in
        then_later s p (finished ops (expand ops turns) [] fs) (passes_later fs ts [] s) (λ rs. finished_later fs rs p.1)
