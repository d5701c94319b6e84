-- A unit at work leaves other units as they are: only definitions change what stands, and they are its own.
use Rattle.std.proofs.Common.{◌≡◌, ℕ, suc, List, [], ◌∷◌, map, Bool, true, false, cond, eqb, Option, Some, None, Result, Ok, Err, refl, sym, ap, ◌∙◌, eq-eqb}
use Rattle.std.specs.Prelude.{◌&&◌, nat_lt}
use Rattle.std.proofs.lemmas.Bool.{eqb-true, false_from_ne_true}
use Rattle.scheme_model.specs.Identifiers.{Number}
use Rattle.scheme_model.specs.Ident.{Ident, same_ident}
use Rattle.scheme_model.specs.Trees.{Tree}
use Rattle.scheme_model.specs.ExpansionFaults.{Named, Fault, KeywordRedefined, Duplicate}
use Rattle.scheme_model.specs.Meaning.{Meaning, Local, Global, Standard, Free, same_meaning}
use Rattle.scheme_model.specs.Requirements.{Known}
use Rattle.scheme_model.specs.RulesShape.{Rules}
use Rattle.scheme_model.specs.Cores.{Bound, no_parts, part, Part}
use Rattle.scheme_model.specs.Steps.{Broken, ◌>>=◌, done}
use Rattle.scheme_model.specs.Order.{Item, Note, Left, Pending, Renamed, Transformer, Ops, is_some, meet_all, run}
use Rattle.scheme_model.specs.Expression.{meaning_of, expand, item_part, parts}
use Rattle.scheme_model.specs.UnitExpansion.{Work, ◌then◌, going, max_depth, max_total, nodes_in, unless_over, LeftOf, one_form, passes, with_part, before_parts, items_parts, form_parts, finished, unit}
use Rattle.scheme_model.specs.Substitution.{Defined, defined_in, definition_count, any, unchanged}
use Rattle.scheme_model.specs.ScopedExpansion.{Frames, FramedIdent, ScopedMacro, ScopedState, macro_at, macro_added, body_around, definition_added, meaning_next, is_defined, next_number}
use Rattle.scheme_model.specs.CountedExpansion.{refused_here, counted}
use Rattle.model_laws.proofs.FrameHeads.{IfMacro}
use Rattle.form_laws.proofs.Sides.{Results, ItemLike, PendingLike, RenamedLike, Sides}
use Rattle.form_laws.proofs.SideSteps.{meet_all_later}
use Rattle.form_laws.proofs.SideRuns.{both_itself, item_itself, run_runs}
use Rattle.form_laws.proofs.SideExpressions.{expand_goes, left_parts}

-- what another unit defines, its macros and all imports
abbrev pub IsOther : ℕ → Meaning → Type 0
IsOther u (Local v) = ⊥
IsOther u (Global z i) = z ≡ u → ⊥
IsOther u (Standard x) = Unit {0}
IsOther u (Free x) = Unit {0}

abbrev pub Later : ScopedState → ScopedState → Type 0
Later s t =
    (t.unit ≡ s.unit) × (t.entry ≡ s.entry) × ((z : ℕ) → (z ≡ s.unit → ⊥) → (i : Ident) → defined_in t.table z i ≡ defined_in s.table z i)
    × ((m : Meaning) → IsOther s.unit m → macro_at t.macros m ≡ macro_at s.macros m) × ((z : ℕ) → (z ≡ s.unit → ⊥) → definition_count t.table z ≡ definition_count s.table z)

other_too : (s t : ScopedState) → t.unit ≡ s.unit → (m : Meaning) → IsOther s.unit m → IsOther t.unit m
other_too s t e (Local v) h = h
other_too s t e (Global z i) h = λ d. h (d ∙ e)
other_too s t e (Standard x) h = tt
other_too s t e (Free x) h = tt

both_later : (s t u : ScopedState) → Later s t → Later t u → Later s u
both_later s t u a b =
    (b.0 ∙ a.0, b.1 ∙ a.1, λ z ne i. b.2 z (λ e. ne (e ∙ a.0)) i ∙ a.2 z ne i, λ m o. b.3 m (other_too s t a.0 m o) ∙ a.3 m o, λ z ne. b.4 z (λ e. ne (e ∙ a.0)) ∙ a.4 z ne)

-- ---- definitions

-- a local, or a definition of this unit
abbrev is_own : ℕ → Meaning → Bool
is_own u (Local v) = true
is_own u (Global z i) = eqb z u
is_own u (Standard x) = false
is_own u (Free x) = false

other_number : (z u : ℕ) → (z ≡ u → ⊥) → eqb u z ≡ false
other_number z u ne = false_from_ne_true (eqb u z) (λ e. ne (sym (eqb-true u z e)))

apart : (u : ℕ) (k m : Meaning) → is_own u k ≡ true → IsOther u m → same_meaning k m ≡ false
apart u k (Local w) e h = absurd h
apart u (Local v) (Global z i) e h = refl
apart u (Local v) (Standard x) e h = refl
apart u (Local v) (Free x) e h = refl
apart u (Global v j) (Global z i) e h = let d = eqb-true v u e in ap (λ y. eqb y z && same_ident j i) d ∙ ap (λ b. b && same_ident j i) (other_number z u h)
apart u (Global v j) (Standard x) e h = refl
apart u (Global v j) (Free x) e h = refl
apart u (Standard y) m e h = let q : false ≡ true = e in absurd cc
apart u (Free y) m e h = let q : false ≡ true = e in absurd cc

keep_other : (u : ℕ) (k : ScopedMacro) (ks : List ScopedMacro) (m : Meaning) → is_own u k.meaning ≡ true → IsOther u m → macro_at (k ∷ ks) m ≡ macro_at ks m
keep_other u k ks m e h = ap (λ b. cond b (Some (record { env = k.frames; rules = k.rules })) (macro_at ks m)) (apart u k.meaning m e h)

module _ (s : ScopedState) (n : Named Ident) (fs : Frames) where
  macros_added : (o : Meaning) → is_own s.unit o ≡ true → (r : Option (Rules Ident)) (m : Meaning) → IsOther s.unit m → macro_at (macro_added o fs r s.macros) m ≡ macro_at s.macros m
  macros_added o e None m h = refl
  macros_added o e (Some r) m h = keep_other s.unit (record { meaning = o; frames = fs; rules = r }) s.macros m e h

  added_later : (b : Option Number) (r : Option (Rules Ident)) → Later s (definition_added b n r fs s)
  added_later None r =
      let one : Defined = record { unit = s.unit; form = s.form; ident = n.name; keyword = is_some r; occ = n.occ } in (
        refl,
        refl,
        λ z ne i. ap (λ b. cond (b && same_ident n.name i) (Some one) (defined_in s.table z i)) (other_number z s.unit ne),
        λ m o. macros_added (Global s.unit n.name) (eq-eqb s.unit s.unit refl) r m o,
        λ z ne. ap (λ b. cond b (suc (definition_count s.table z)) (definition_count s.table z)) (other_number z s.unit ne),
      )
  added_later (Some b) r = (refl, refl, λ z ne i. refl, λ m o. macros_added (Local (next_number s s.locals)) refl r m o, λ z ne. refl)

  ended_later : (refused stood : Bool) (b : Option Number) (r : Option (Rules Ident)) (p : Pending Ident FramedIdent) → Later s (cond {A = Result (Renamed Ident FramedIdent) (Fault Ident) × ScopedState} refused (Err (KeywordRedefined n), s) (cond stood (Err (Duplicate n), s) (Ok (unchanged p), definition_added b n r fs s))).1
  ended_later true stood b r p = (refl, refl, λ z ne i. refl, λ o q. refl, λ z ne. refl)
  ended_later false true b r p = (refl, refl, λ z ne i. refl, λ o q. refl, λ z ne. refl)
  ended_later false false b r p = added_later b r

-- ---- all steps

module _ (known : Known) where
  abbrev ops : Ops Frames Ident FramedIdent ScopedState
  ops = counted known

  -- of the second side nothing is asked
  abbrev anything : ScopedState → Frames → Frames → Type 0
  anything s e f = Unit {0}

  abbrev Same : Bound → Bound → Type 0
  Same x y = y ≡ x

  any_frames : (o : Option (Transformer Frames Ident)) → IfMacro (λ (c : Transformer Frames Ident). (g : Frames) × Unit {0}) o
  any_frames None = tt
  any_frames (Some c) = ([], tt)

  pending_itself : (p : Pending Ident FramedIdent) → PendingLike Same (λ ns ms. Unit {0}) p p
  pending_itself p = record { todo = refl; aside = both_itself (ItemLike Same) (item_itself Same (λ x. refl)) p.aside; uses = refl; notes = tt }

  results_itself : (y : Result (Renamed Ident FramedIdent) (Fault Ident)) → (z : Result (Renamed Ident FramedIdent) (Fault Ident)) × Results (RenamedLike Same (λ ns ms. Unit {0})) y z
  results_itself (Ok d) = (Ok d, (pending_itself d.pending, refl))
  results_itself (Err e) = (Err e, refl)

  abbrev steps : Sides ops ops anything
  steps = record {
    same_so_far = λ s. Unit {0};
    later = Later;
    near = λ s t. ⊥;
    defines = λ e. Unit {0};
    like = λ s l m. Unit {0};
    bounds = λ e. Same;
    notes = λ s e ns ms. Unit {0};
    ruled = λ s m. Unit {0};
    ruled_there = λ s m a. tt;
    itself = λ s. (refl, refl, λ z ne i. refl, λ o q. refl, λ z ne. refl);
    then_ = λ s t u a b. both_later s t u a b;
    fits_later = λ s t a e f h. tt;
    notes_later = λ s t a e ns ms d. tt;
    more_notes = λ s e ns ms d n m l. tt;
    placed = λ s e f h i. tt;
    answered = λ s t h qs a. absurd h;
    ask_back = λ s qs a. tt;
    ask_later = λ s qs. (refl, refl, λ z ne i. refl, λ o q. refl, λ z ne. refl);
    ask_near = λ s t h qs rs a. h;
    ask_means = λ s qs e i. refl;
    ask_macro = λ s qs m. refl;
    ask_meant = λ t rs f i. refl;
    counts = λ s t h. absurd h;
    spend_back = λ s n a. tt;
    spend_later = λ s n. (refl, refl, λ z ne i. refl, λ o q. refl, λ z ne. refl);
    spend_near = λ s t h n. h;
    spend_means = λ s n e i. refl;
    spend_meant = λ t n f i. refl;
    meet_back = λ s x a. tt;
    meet_later = λ s x. (refl, refl, λ z ne i. refl, λ o q. refl, λ z ne. refl);
    meet_near = λ s t h x. h;
    meet_use_back = λ s u a. tt;
    meet_use_later = λ s u. (refl, refl, λ z ne i. refl, λ o q. refl, λ z ne. refl);
    meet_use_near = λ s t h u. h;
    next_use = λ s t h. absurd h;
    begin_back = λ s e a. tt;
    begin_later = λ s e f h. (refl, refl, λ z ne i. refl, λ o q. refl, λ z ne. refl);
    begin_near = λ s t h e f a. h;
    next_local = λ s t h. absurd h;
    take_back = λ s a. tt;
    take_later = λ s. (refl, refl, λ z ne i. refl, λ o q. refl, λ z ne. refl);
    take_near = λ s t h. h;
    some_bound = λ s e f h. (ops.next_bound e s, refl);
    next_bound = λ s t h e f a. absurd h;
    same_meant = λ e x y q i. ap (λ z. meaning_of z i) q;
    bind_back = λ s x e ts a. tt;
    bind_later = λ s x e f h ts. (refl, refl, λ z ne i. refl, λ o q. refl, λ z ne. refl);
    bind_some = λ s x e f h ts. ([], tt);
    bind_near = λ s t h x e f a ts. absurd h;
    macro = λ s e f h m. any_frames (macro_at s.macros m);
    keep_back = λ s v r e a. tt;
    keep_later = λ s v r e f h. (refl, refl, λ z ne i. refl, λ o q. keep_other s.unit (record { meaning = Local v; frames = e; rules = r }) s.macros o refl q, λ z ne. refl);
    keep_near = λ s t h v r e f a. h;
    enter_back = λ s e ts a. tt;
    enter_later = λ s e f h ts. (refl, refl, λ z ne i. refl, λ o q. refl, λ z ne. refl);
    enter_some = λ s e f h ts. ([], tt);
    enter_near = λ s t h e f a ts. absurd h;
    entered = λ s e f h ts. tt;
    inside = λ s e ts. tt;
    inside_bounds = λ s e ts x y q. q;
    define_back = λ s n r e p a. tt;
    define_later = λ s e f d h n r p q l.
        let b = body_around e in
        ended_later s n e (any (refused_here (definition_added b n r e s) (meaning_next s b n.name) (is_some r)) p.notes) (is_defined s b n.name) b r p;
    define_some = λ s e f d h n r p q l. results_itself (ops.define n r e p s).0;
    define_near = λ s t h e f d a n r p q l b. absurd h;
  }

  -- ---- a form

  module _ (turns : ℕ) where
    pub run_later : (p : Pending Ident FramedIdent) (s : ScopedState) → Later s (run ops turns [] p s).1
    run_later p s = (run_runs ops ops anything steps [] [] tt turns p p s tt (pending_itself p)).after

    pub finish_later : (l : Left Ident) (s : ScopedState) → Later s (parts (item_part (expand ops turns) ops max_depth []) l.items (meet_all ops [] l.uses s)).1
    finish_later l s =
        (left_parts ops ops anything steps (λ s m. tt) (expand ops turns) (expand ops turns) (expand_goes ops ops anything steps (λ s m. tt) turns) Same (λ x y e i. ap (λ z. meaning_of z i) e) max_depth [] [] l l
        (refl, both_itself (ItemLike Same) (item_itself Same (λ x. refl)) l.items) s tt).after

    item_later : (i : Item Ident) (s : ScopedState) → Later s (item_part (expand ops turns) ops max_depth [] i s).1
    item_later i s = go (item_part (expand ops turns) ops max_depth [] i s) (finish_later (record { uses = []; items = i ∷ [] }) s)
      where
        go : (q : Result Part Broken × ScopedState) → Later s (q >>= λ p. λ t. done no_parts t >>= λ ps. done (part p ps)).1 → Later s q.1
        go (Ok p, t) a = a
        go (Err e, t) a = a

    -- ---- a unit

    over_later : {X : Type 0} (fs : List ℕ) (s : ScopedState) (q : X × ScopedState) → Later s q.1 → Later s (unless_over ops fs q).1
    over_later {X} fs s q a = go (nat_lt max_total (nodes_in ops fs q.1))
      where
        go : (b : Bool) → Later s (cond {A = Option X × ScopedState} b (None, q.1) (Some q.0, q.1)).1
        go true = a
        go false = a

    then_later : {X Y : Type 0} (s : ScopedState) (q : Option X × ScopedState) (f : X → Work ScopedState Y) → Later s q.1 → ((x : X) → Later q.1 (f x q.1).1) → Later s (q then f).1
    then_later s (None, t) f a g = a
    then_later s (Some x, t) f a g = let b = g x in both_later s t (f x t).1 a b

    -- and then nothing changes
    then_going : {X Y : Type 0} (s : ScopedState) (q : Option X × ScopedState) (f : X → Y) → Later s q.1 → Later s (q then λ x. going (f x)).1
    then_going s q f a = then_later s q (λ x. going (f x)) a (λ x. (refl, refl, λ z ne i. refl, λ o q. refl, λ z ne. refl))

    passes_later : (fs : List ℕ) (ts : List (ℕ × Tree Ident)) (notes : List (Note FramedIdent)) (s : ScopedState) → Later s (passes ops turns [] fs ts notes s).1
    passes_later fs [] notes s = (refl, refl, λ z ne i. refl, λ o q. refl, λ z ne. refl)
    passes_later fs (t ∷ ts) notes s =
        let one = run ops turns [] (one_form t.1 notes) (ops.turn t.0 s) in
        let over = unless_over ops fs one in
        then_later s over (λ q t1. passes ops turns [] fs ts q.notes t1 then λ rest. going ((t.0, q.left) ∷ rest)) (over_later fs s one (run_later (one_form t.1 notes) (ops.turn t.0 s)))
        (λ q. then_going over.1 (passes ops turns [] fs ts q.notes over.1) (λ rest. (t.0, q.left) ∷ rest) (passes_later fs ts q.notes over.1))

    items_later : (fs : List ℕ) (is : List (Item Ident)) (s : ScopedState) → Later s (items_parts ops fs (item_part (expand ops turns) ops max_depth []) is s).1
    items_later fs [] s = (refl, refl, λ z ne i. refl, λ o q. refl, λ z ne. refl)
    items_later fs (i ∷ is) s =
        let f = item_part (expand ops turns) ops max_depth [] in
        let over = unless_over ops fs (f i s) in
        then_later s over (before_parts (items_parts ops fs f is)) (over_later fs s (f i s) (item_later i s)) (λ r. go over.1 r (items_later fs is over.1))
      where
        go : (t : ScopedState) (r : Result Part Broken) → Later t (items_parts ops fs (item_part (expand ops turns) ops max_depth []) is t).1 → Later t (before_parts (items_parts ops fs (item_part (expand ops turns) ops max_depth []) is) r t).1
        go t (Err e) a = (refl, refl, λ z ne i. refl, λ o q. refl, λ z ne. refl)
        go t (Ok p) a = then_going t (items_parts ops fs (item_part (expand ops turns) ops max_depth []) is t) (λ r. with_part p r) a

    pub form_later : (fs : List ℕ) (r : Result (Left Ident) Broken) (s : ScopedState) → Later s (form_parts ops (expand ops turns) [] fs r s).1
    form_later fs (Err e) s = (refl, refl, λ z ne i. refl, λ o q. refl, λ z ne. refl)
    form_later fs (Ok l) s =
        let m = meet_all ops [] l.uses s in
        let a = meet_all_later ops ops anything steps [] l.uses s in let b = items_later fs l.items m in
        both_later s m (items_parts ops fs (item_part (expand ops turns) ops max_depth []) l.items m).1 a b

    finished_later : (fs : List ℕ) (rs : List (LeftOf Ident)) (s : ScopedState) → Later s (finished ops (expand ops turns) [] fs rs s).1
    finished_later fs [] s = (refl, refl, λ z ne i. refl, λ o q. refl, λ z ne. refl)
    finished_later fs (r ∷ rs) s =
        let one = form_parts ops (expand ops turns) [] fs r.1 (ops.turn r.0 s) in
        then_later s one (λ ps t. finished ops (expand ops turns) [] fs rs t then λ rest. going (record { form = r.0; result = ps; counted = ops.counted t } ∷ rest)) (form_later fs r.1 (ops.turn r.0 s))
        (λ ps. then_going one.1 (finished ops (expand ops turns) [] fs rs one.1) (λ rest. record { form = r.0; result = ps; counted = ops.counted one.1 } ∷ rest) (finished_later fs rs one.1))

    pub unit_later : (ts : List (ℕ × Tree Ident)) (s : ScopedState) → Later s (unit ops turns [] ts s).1
    unit_later ts s =
        let fs = map (λ t. t.0) ts in
        let p = passes ops turns [] fs ts [] s in
        then_later s p (finished ops (expand ops turns) [] fs) (passes_later fs ts [] s) (λ rs. finished_later fs rs p.1)
