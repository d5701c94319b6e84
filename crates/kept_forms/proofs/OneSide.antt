-- What each step of a form of a unit keeps holds of all that the form goes to; and each macro that it sets aside is a definition of the
-- unit. The form is set beside itself.
use Rattle.std.proofs.Common.{◌≡◌, ℕ, List, [], ◌∷◌, Bool, true, false, cond, Option, Some, None, Result, Ok, Err, refl, sym, ap, ◌∙◌, subst, suc, ◌+◌, map, arith, ◌≤◌}
use Rattle.std.specs.Prelude.{◌==◌, nat_lt}
use Rattle.std.proofs.lemmas.Bool.{eqb-true, false_from_ne_true}
use Rattle.scheme_model.specs.Identifiers.{Number}
use Rattle.scheme_model.specs.Ident.{Ident}
use Rattle.scheme_model.specs.Trees.{Tree, Trees}
use Rattle.scheme_model.specs.ExpansionFaults.{Named, Fault, KeywordRedefined, Duplicate}
use Rattle.scheme_model.specs.Meaning.{same_meaning}
use Rattle.scheme_model.specs.Requirements.{Known}
use Rattle.scheme_model.specs.RulesShape.{Rules}
use Rattle.scheme_model.specs.Cores.{Bound, Parts, Part, Target, MacroUse, Binder}
use Rattle.scheme_model.specs.Steps.{Broken}
use Rattle.scheme_model.specs.Order.{Item, Expression, Value, Function, Assigned, AssignedFunction, ValuesOf, Record, Macro, Note, LookedUp, Compared, WaitingUse, Left, Pending, Renamed, Transformer, Asked, Meant, Headed, RulesOf, Alike, Assigns, Library, Ops, is_some, head_of, meet_all, meet_waiting, run, target_of}
use Rattle.scheme_model.specs.Expression.{meaning_of, expand, item_part}
use Rattle.scheme_model.specs.UnitExpansion.{max_depth, max_total, Work, ◌then◌, going, nodes_in, unless_over, one_form, before_parts, with_part, items_parts, form_parts}
use Rattle.scheme_model.specs.Substitution.{any, unchanged, at_form, definition_count}
use Rattle.scheme_model.specs.ScopedExpansion.{Frames, FramedIdent, ScopedState, body_around, definition_added, meaning_next, is_defined, bound_next}
use Rattle.scheme_model.specs.CountedExpansion.{refused_here, counted}
use Rattle.model_laws.proofs.FrameAsks.{AllOf}
use Rattle.model_laws.proofs.FrameHeads.{IfMacro}
use Rattle.model_laws.proofs.CountedForms.{OkAll}
use Rattle.kept_forms.specs.KeptForms.{counts_at}
use Rattle.form_laws.specs.Begins.{Each, BindsInUnit, MacroInUnit}
use Rattle.form_laws.proofs.Sides.{Both, Results, NoteLike, ItemLike, PendingLike, RenamedLike, LeftLike, TransformerLike, Answer, Sides, BinderLike}
use Rattle.form_laws.proofs.SideRuns.{item_itself, run_runs}
use Rattle.form_laws.proofs.SideExpressions.{expand_goes, item_goes}

-- B holds of what an item binds
abbrev pub BindsAll : (Bound → Type 0) → Item Ident → Type 0
BindsAll B (Expression x) = Unit {0}
BindsAll B (Value b x) = B b.bound
BindsAll B (Function b here c) = B b.bound
BindsAll B (Assigned n x) = Unit {0}
BindsAll B (AssignedFunction n here c) = Unit {0}
BindsAll B (ValuesOf bs x) = Each (λ (b : Binder). B b.bound) bs.names
BindsAll B (Record r) = Each (λ (b : Binder). B b.bound) r.binders
BindsAll B (Macro b here) = B b.bound

abbrev pub LeftBinds : (Bound → Type 0) → Result (Left Ident) Broken → Type 0
LeftBinds B r = OkAll (λ (l : Left Ident). Each (BindsAll B) l.items) r

abbrev pub MacrosOfUnit : Result (Left Ident) Broken → Type 0
MacrosOfUnit r = OkAll (λ (l : Left Ident). Each MacroInUnit l.items) r

macro_of_unit : (i : Item Ident) → BindsAll BindsInUnit i → MacroInUnit i
macro_of_unit (Expression x) h = tt
macro_of_unit (Value b x) h = tt
macro_of_unit (Function b here c) h = tt
macro_of_unit (Assigned n x) h = tt
macro_of_unit (AssignedFunction n here c) h = tt
macro_of_unit (ValuesOf bs x) h = tt
macro_of_unit (Record r) h = tt
macro_of_unit (Macro b here) h = h

macros_of_unit : (is : List (Item Ident)) → Each (BindsAll BindsInUnit) is → Each MacroInUnit is
macros_of_unit [] h = tt
macros_of_unit (i ∷ is) h = (macro_of_unit i h.0, macros_of_unit is h.1)

pub left_of_unit : (r : Result (Left Ident) Broken) → LeftBinds BindsInUnit r → MacrosOfUnit r
left_of_unit (Ok l) h = macros_of_unit l.items h
left_of_unit (Err e) h = tt

-- ---- work that may end

module _ (known : Known) (I : ScopedState → Type 0) where
  abbrev pub Goes : {X : Type 0} → Option X × ScopedState → Type 0
  Goes q = I q.1

  pub over_keeps : {X : Type 0} (fs : List ℕ) (q : X × ScopedState) → I q.1 → I (unless_over (counted known) fs q).1
  over_keeps {X} fs q h = go (nat_lt max_total (nodes_in (counted known) fs q.1))
    where
      go : (b : Bool) → Goes (cond {A = Option X × ScopedState} b (None, q.1) (Some q.0, q.1))
      go true = h
      go false = h

  pub then_keeps : {X Y : Type 0} (q : Option X × ScopedState) (f : X → Work ScopedState Y) → Goes q → ((x : X) (s : ScopedState) → I s → Goes (f x s)) → Goes (q then f)
  then_keeps (None, s) f h next = h
  then_keeps (Some x, s) f h next = next x s h

  pub before_keeps : (more : Work ScopedState (Result Parts Broken)) → ((s : ScopedState) → I s → Goes (more s)) → (p : Result Part Broken) (s : ScopedState) → I s → Goes (before_parts more p s)
  before_keeps more law (Err e) s h = h
  before_keeps more law (Ok p) s h = then_keeps (more s) (λ r. going (with_part p r)) (law s h) (λ x t k. k)

-- ---- what other forms have counted

pub at_other : {X : Type 0} (form g : ℕ) (h : X → X) (c : ℕ → X) → (g ≡ form → ⊥) → at_form form h c g ≡ c g
at_other form g h c ne = ap (λ t. cond t (h (c g)) (c g)) (false_from_ne_true (g == form) (λ e. ne (eqb-true g form e)))

abbrev pub OthersStay : ScopedState → ScopedState → Type 0
OthersStay s t = (g : ℕ) → (g ≡ s.form → ⊥) → counts_at g t ≡ counts_at g s

module _ (s : ScopedState) where
  abbrev Other : ℕ → Type 0
  Other g = g ≡ s.form → ⊥

  abbrev other_nodes : (n : ℕ) (g : ℕ) → Other g → counts_at g (record s { nodes = at_form s.form (λ m. m + n) s.nodes }) ≡ counts_at g s
  other_nodes n g ne = ap (λ m. record (counts_at g s) { nodes = m }) (at_other s.form g (λ m. m + n) s.nodes ne)

  abbrev other_locals : (g : ℕ) → Other g → counts_at g (record s { locals = at_form s.form suc s.locals }) ≡ counts_at g s
  other_locals g ne = ap (λ m. record (counts_at g s) { locals = m }) (at_other s.form g suc s.locals ne)

  abbrev other_bodies : (g : ℕ) → Other g → counts_at g (record s { bodies = at_form s.form suc s.bodies }) ≡ counts_at g s
  other_bodies g ne = ap (λ m. record (counts_at g s) { bodies = m }) (at_other s.form g suc s.bodies ne)

  abbrev other_keywords : (x : Target) (g : ℕ) → Other g → counts_at g (record s { keywords = at_form s.form (λ xs. x ∷ xs) s.keywords }) ≡ counts_at g s
  other_keywords x g ne = ap (λ m. record (counts_at g s) { keywords = m }) (at_other s.form g (λ xs. x ∷ xs) s.keywords ne)

  abbrev other_met : (u : MacroUse) (g : ℕ) → Other g → counts_at g (record s { met = at_form s.form (λ us. u ∷ us) s.met }) ≡ counts_at g s
  other_met u g ne = ap (λ m. record (counts_at g s) { met = m }) (at_other s.form g (λ us. u ∷ us) s.met ne)

-- ---- one form

-- the unit has no fewer definitions
abbrev pub DefinesMore : ScopedState → ScopedState → Type 0
DefinesMore s t = definition_count s.table s.unit ≤ definition_count t.table t.unit

one_more : (s : ScopedState) (n : Named Ident) (r : Option (Rules Ident)) (fs : Frames) → DefinesMore s (definition_added None n r fs s)
one_more s n r fs = go (s.unit == s.unit)
  where
    go : (b : Bool) → definition_count s.table s.unit ≤ cond b (suc (definition_count s.table s.unit)) (definition_count s.table s.unit)
    go true = omega arith
    go false = omega arith

-- I is kept where a macro use is begun, and where neither the uses nor their places change, nor what other forms have counted; what a
-- definition in the unit binds next holds B
module _ (known : Known) (I : ScopedState → Type 0) (begun : (fs : Frames) (s : ScopedState) → I s → I ((counted known).begin_use fs s)) (still : (s t : ScopedState) → t.unit ≡ s.unit → t.form ≡ s.form → t.uses ≡ s.uses → t.places ≡ s.places → OthersStay s t → DefinesMore s t → I s → I t) (B : Bound → Type 0) (binds : (s : ScopedState) → I s → B (bound_next s None)) where
  abbrev pub ops : Ops Frames Ident FramedIdent ScopedState
  ops = counted known

  added : (b : Option Number) (n : Named Ident) (r : Option (Rules Ident)) (fs : Frames) (s : ScopedState) → I s → I (definition_added b n r fs s)
  added None n r fs s h = still s (definition_added None n r fs s) refl refl refl refl (λ g ne. refl) (one_more s n r fs) h
  added (Some b) n r fs s h = still s (definition_added (Some b) n r fs s) refl refl refl refl (other_locals s) (omega arith) h

  -- ---- one side beside itself

  abbrev fits : ScopedState → Frames → Frames → Type 0
  fits s e f = (f ≡ e) × I s

  abbrev near : ScopedState → ScopedState → Type 0
  near s t = (t ≡ s) × I s

  abbrev BindsIn : Option Number → Bound → Type 0
  BindsIn None x = B x
  BindsIn (Some b) x = Unit {0}

  abbrev bounds : Frames → Bound → Bound → Type 0
  bounds e x y = (y ≡ x) × BindsIn (body_around e) x

  binds_next : (s : ScopedState) → I s → (b : Option Number) → BindsIn b (bound_next s b)
  binds_next s h None = binds s h
  binds_next s h (Some b) = tt

  note_same : (n m : Note FramedIdent) → NoteLike (λ (l k : FramedIdent). k ≡ l) n m → m ≡ n
  note_same (LookedUp l h k) (LookedUp m i j) e = let a = e.0 in let b = e.1 in let c = e.2 in λ z. LookedUp (a z) (b z) (c z)
  note_same (LookedUp l h k) (Compared m n i) e = absurd e
  note_same (Compared l m h) (LookedUp n i j) e = absurd e
  note_same (Compared l m h) (Compared n o i) e = let a = e.0 in let b = e.1 in let c = e.2 in λ z. Compared (a z) (b z) (c z)

  macro_fits : (s : ScopedState) → I s → (o : Option (Transformer Frames Ident)) → IfMacro (λ (c : Transformer Frames Ident). (g : Frames) × fits s c.env g) o
  macro_fits s h None = tt
  macro_fits s h (Some c) = (c.env, (refl, h))

  macro_like : (s : ScopedState) → I s → (o : Option (Transformer Frames Ident)) → TransformerLike (fits s) o o
  macro_like s h None = refl
  macro_like s h (Some c) = (c.env, (refl, h), refl)

  answer : (s t : ScopedState) → near s t → (q : Asked Frames Ident) → Answer ops ops fits s t q
  answer s t n (Meant e i) = λ f h. (let a = h.0 in let b = n.0 in λ j. ops.means (a j) (b j) i)
  answer s t n (Headed e i) = λ f h. (let a = h.0 in let b = n.0 in (λ j. ops.means (a j) (b j) i, λ j. head_of ops (a j) (b j) i))
  answer s t n (RulesOf m) = subst (λ (u : ScopedState). TransformerLike (fits s) (ops.transformer s m) (ops.transformer u m)) (sym n.0) (macro_like s n.1 (ops.transformer s m))
  answer s t n (Alike d l e i) = λ g f x y. (let a = x.0 in let b = y.0 in let c = n.0 in λ j. same_meaning (ops.means (a j) (c j) l) (ops.means (b j) (c j) i))
  answer s t n (Assigns e i) = λ f h. (let a = h.0 in let b = n.0 in λ j. ops.is_assigned (a j) (b j) i)
  answer s t n (Library l) = refl

  answers : (s t : ScopedState) → near s t → (qs : List (Asked Frames Ident)) → AllOf (Answer ops ops fits s t) qs
  answers s t n [] = tt
  answers s t n (q ∷ qs) = (answer s t n q, answers s t n qs)

  -- ---- definitions

  abbrev Notes : List (Note FramedIdent) → List (Note FramedIdent) → Type 0
  Notes ns ms = ms ≡ ns

  module _ (s : ScopedState) (e : Frames) (n : Named Ident) (r : Option (Rules Ident)) (p q : Pending Ident FramedIdent) (l : PendingLike (bounds e) Notes p q) where
    abbrev ending : Pending Ident FramedIdent → Bool → Bool → Result (Renamed Ident FramedIdent) (Fault Ident) × ScopedState
    ending z a b = cond a (Err (KeywordRedefined n), s) (cond b (Err (Duplicate n), s) (Ok (unchanged z), definition_added (body_around e) n r e s))

    abbrev refused : List (Note FramedIdent) → Bool
    refused ns = any (refused_here (definition_added (body_around e) n r e s) (meaning_next s (body_around e) n.name) (is_some r)) ns

    ended_like : (a b : Bool) → Results (RenamedLike (bounds e) Notes) (ending p a b).0 (ending q a b).0
    ended_like true b = refl
    ended_like false true = refl
    ended_like false false = (l, refl)

    ended_placed : I s → (a b : Bool) → near (ending p a b).1 (ending q a b).1
    ended_placed h true b = (refl, h)
    ended_placed h false true = (refl, h)
    ended_placed h false false = (refl, added (body_around e) n r e s h)

    here_is : (t : ScopedState) (f : Frames) → t ≡ s → f ≡ e → ops.define n r f q t ≡ ending q (refused p.notes) (is_defined s (body_around e) n.name)
    here_is t f a b = (λ j. ops.define n r (b j) q (a j)) ∙ ap (λ ns. ending q (refused ns) (is_defined s (body_around e) n.name)) l.notes

    define_there : (t : ScopedState) (f : Frames) → near s t → f ≡ e
        → Results (RenamedLike (bounds e) Notes) (ops.define n r e p s).0 (ops.define n r f q t).0 × near (ops.define n r e p s).1 (ops.define n r f q t).1
    define_there t f z b =
        let x = refused p.notes in let y = is_defined s (body_around e) n.name in
        subst (λ (m : Result (Renamed Ident FramedIdent) (Fault Ident) × ScopedState). Results (RenamedLike (bounds e) Notes) (ending p x y).0 m.0 × near (ending p x y).1 m.1) (sym (here_is t f z.0 b)) (ended_like x y, ended_placed z.1 x y)

    define_after : I s → I (ops.define n r e p s).1
    define_after h = (ended_placed h (refused p.notes) (is_defined s (body_around e) n.name)).1

    define_some : (y : Result (Renamed Ident FramedIdent) (Fault Ident)) × Results (RenamedLike (bounds e) Notes) (ops.define n r e p s).0 y
    define_some = ((ending q (refused p.notes) (is_defined s (body_around e) n.name)).0, ended_like (refused p.notes) (is_defined s (body_around e) n.name))

  -- ---- steps

  spent : (n : ℕ) (s : ScopedState) → I s → I (ops.spend n s)
  spent n s h = still s (ops.spend n s) refl refl refl refl (other_nodes s n) (omega arith) h

  met : (x : Target) (s : ScopedState) → I s → I (ops.meet x s)
  met x s h = still s (ops.meet x s) refl refl refl refl (other_keywords s x) (omega arith) h

  use_met : (u : MacroUse) (s : ScopedState) → I s → I (ops.meet_use u s)
  use_met u s h = still s (ops.meet_use u s) refl refl refl refl (other_met s u) (omega arith) h

  taken : (s : ScopedState) → I s → I (ops.take_local s)
  taken s h = still s (ops.take_local s) refl refl refl refl (other_locals s) (omega arith) h

  kept : (v : Number) (r : Rules Ident) (e : Frames) (s : ScopedState) → I s → I (ops.keep v r e s)
  kept v r e s h = still s (ops.keep v r e s) refl refl refl refl (λ g ne. refl) (omega arith) h

  entered : (e : Frames) (ts : Trees Ident) (s : ScopedState) → I s → I (ops.enter e ts s).state
  entered e ts s h = still s (ops.enter e ts s).state refl refl refl refl (other_bodies s) (omega arith) h

  abbrev sides : Sides ops ops fits
  sides = record {
    same_so_far = λ s. Unit {0};
    later = λ s t. I s → I t;
    near = near;
    defines = λ e. Unit {0};
    like = λ s l m. m ≡ l;
    bounds = bounds;
    notes = λ s e. Notes;
    ruled = λ s m. Unit {0};
    ruled_there = λ s m a. tt;
    itself = λ s h. h;
    then_ = λ s t u a b h. b (a h);
    fits_later = λ s t a e f h. (h.0, a h.1);
    notes_later = λ s t a e ns ms h. h;
    more_notes = λ s e ns ms h n m d. (let a = note_same n m d in λ j. a j ∷ h j);
    placed = λ s e f h i. ap (λ g. ops.place g i) h.0;
    answered = λ s t n qs a. answers s t n qs;
    ask_back = λ s qs a. tt;
    ask_later = λ s qs h. h;
    ask_near = λ s t n qs rs a. n;
    ask_means = λ s qs e i. refl;
    ask_macro = λ s qs m. refl;
    ask_meant = λ t rs f i. refl;
    counts = λ s t n. ap ops.counted n.0;
    spend_back = λ s n a. tt;
    spend_later = λ s n h. spent n s h;
    spend_near = λ s t z n. (ap (ops.spend n) z.0, spent n s z.1);
    spend_means = λ s n e i. refl;
    spend_meant = λ t n f i. refl;
    meet_back = λ s x a. tt;
    meet_later = λ s x h. met x s h;
    meet_near = λ s t z x. (ap (ops.meet x) z.0, met x s z.1);
    meet_use_back = λ s u a. tt;
    meet_use_later = λ s u h. use_met u s h;
    meet_use_near = λ s t z u. (ap (ops.meet_use u) z.0, use_met u s z.1);
    next_use = λ s t z. ap ops.next_use z.0;
    begin_back = λ s e a. tt;
    begin_later = λ s e f h i. begun e s i;
    begin_near = λ s t z e f h. (let a = h.0 in let b = z.0 in (λ j. ops.begin_use (a j) (b j), begun e s z.1));
    next_local = λ s t z. ap ops.next_local z.0;
    take_back = λ s a. tt;
    take_later = λ s h. taken s h;
    take_near = λ s t z. (ap ops.take_local z.0, taken s z.1);
    some_bound = λ s e f h. (ops.next_bound e s, (refl, binds_next s h.1 (body_around e)));
    next_bound = λ s t z e f h. ((let a = h.0 in let b = z.0 in λ j. ops.next_bound (a j) (b j)), binds_next s z.1 (body_around e));
    same_meant = λ e x y d i. ap (λ z. meaning_of z i) d.0;
    bind_back = λ s x e ts a. tt;
    bind_later = λ s x e f h ts i. taken s i;
    bind_some = λ s x e f h ts. ((ops.bind x e ts s).env, (refl, taken s h.1));
    bind_near = λ s t z x e f h ts. (let a = h.0 in let b = z.0 in
        ((λ j. (ops.bind x (a j) ts (b j)).state, taken s z.1), ((λ j. (ops.bind x (a j) ts (b j)).env), taken s z.1), λ j. (ops.bind x (a j) ts (b j)).trees));
    macro = λ s e f h m. macro_fits s h.1 (ops.transformer s m);
    keep_back = λ s v r e a. tt;
    keep_later = λ s v r e f h i. kept v r e s i;
    keep_near = λ s t z v r e f h. (let a = h.0 in let b = z.0 in (λ j. ops.keep v r (a j) (b j), kept v r e s z.1));
    enter_back = λ s e ts a. tt;
    enter_later = λ s e f h ts i. entered e ts s i;
    enter_some = λ s e f h ts. ((ops.enter e ts s).env, (refl, entered e ts s h.1));
    enter_near = λ s t z e f h ts. (let a = h.0 in let b = z.0 in
        ((λ j. (ops.enter (a j) ts (b j)).state, entered e ts s z.1), ((λ j. (ops.enter (a j) ts (b j)).env), entered e ts s z.1), λ j. (ops.enter (a j) ts (b j)).trees));
    entered = λ s e f h ts. refl;
    inside = λ s e ts. tt;
    inside_bounds = λ s e ts x y d. d.0;
    define_back = λ s n r e p a. tt;
    define_later = λ s e f d h n r p q l i. define_after s e n r p q l i;
    define_some = λ s e f d h n r p q l. define_some s e n r p q l;
    define_near = λ s t z e f d h n r p q l a. define_there s e n r p q l t f z h.0;
  }

  -- ---- a form gone through

  names_bound : (bs cs : List Binder) → Both (BinderLike (bounds [])) bs cs → Each (λ (b : Binder). B b.bound) bs
  names_bound [] cs h = tt
  names_bound (b ∷ bs) [] h = absurd h
  names_bound (b ∷ bs) (c ∷ cs) h = (h.0.0.1, names_bound bs cs h.1)

  item_bound : (i j : Item Ident) → ItemLike (bounds []) i j → BindsAll B i
  item_bound (Expression x) j h = tt
  item_bound (Value b x) j h = h.1.0.1
  item_bound (Function b here c) j h = h.1.0.1
  item_bound (Assigned n x) j h = tt
  item_bound (AssignedFunction n here c) j h = tt
  item_bound (ValuesOf bs x) j h = names_bound bs.names h.0.names h.1.0
  item_bound (Record r) j h = names_bound r.binders h.0.binders h.1.0
  item_bound (Macro b here) j h = h.1.0.1

  items_bound : (is js : List (Item Ident)) → Both (ItemLike (bounds [])) is js → Each (BindsAll B) is
  items_bound [] js h = tt
  items_bound (i ∷ is) [] h = absurd h
  items_bound (i ∷ is) (j ∷ js) h = (item_bound i j h.0, items_bound is js h.1)

  left_bound : (r q : Result (Left Ident) Broken) → Results (LeftLike (bounds [])) r q → LeftBinds B r
  left_bound (Ok l) (Ok m) h = items_bound l.items m.items h.1
  left_bound (Ok l) (Err e) h = absurd h
  left_bound (Err x) q h = tt

  pub run_keeps : (turns : ℕ) (t : Tree Ident) (ns : List (Note FramedIdent)) (s : ScopedState) → I s → let q = run (counted known) turns [] (one_form t ns) s in I q.1 × LeftBinds B q.0.left
  run_keeps turns t ns s h =
      let law = run_runs ops ops fits sides [] [] tt turns (one_form t ns) (one_form t ns) s (refl, h) (record { todo = refl; aside = tt; uses = refl; notes = refl }) in
      let x = law.same s (refl, h) tt in
      let q = run (counted known) turns [] (one_form t ns) s in
      (x.1.1, left_bound q.0.left q.0.left x.0.left)

  -- ---- what it set aside, expanded

  item_keeps : (turns : ℕ) (i : Item Ident) (s : ScopedState) → I s → I (item_part (expand (counted known) turns) (counted known) max_depth [] i s).1
  item_keeps turns i s h =
      let F = expand (counted known) turns in
      let law = item_goes ops ops fits sides (λ s m. tt) F F (expand_goes ops ops fits sides (λ s m. tt) turns) (λ (x y : Bound). y ≡ x) (λ x y d j. ap (λ z. meaning_of z j) d) max_depth [] [] i i (item_itself (λ (x y : Bound). y ≡ x) (λ x. refl) i) s (refl, h) in
      (law.same s (refl, h) tt).1.1

  met_keeps : (us : List (WaitingUse Ident)) (s : ScopedState) → I s → I (meet_all ops [] us s)
  met_keeps [] s h = h
  met_keeps (u ∷ us) s h = met_keeps us (meet_waiting ops [] u s) (use_met (record { keyword = u.keyword; literals = map (λ n. target_of ops [] s n.name n.occ) u.literals }) s h)

  module _ (turns : ℕ) (fs : List ℕ) where
    items_keep : (is : List (Item Ident)) (s : ScopedState) → I s → Goes known I (items_parts ops fs (item_part (expand ops turns) ops max_depth []) is s)
    items_keep [] s h = h
    items_keep (i ∷ is) s h =
        then_keeps known I (unless_over ops fs (item_part (expand ops turns) ops max_depth [] i s)) (before_parts (items_parts ops fs (item_part (expand ops turns) ops max_depth []) is)) (over_keeps known I fs (item_part (expand ops turns) ops max_depth [] i s) (item_keeps turns i s h))
        (λ p t k. before_keeps known I (items_parts ops fs (item_part (expand ops turns) ops max_depth []) is) (items_keep is) p t k)

    pub parts_keep : (r : Result (Left Ident) Broken) (s : ScopedState) → I s → I (form_parts (counted known) (expand (counted known) turns) [] fs r s).1
    parts_keep (Err e) s h = h
    parts_keep (Ok l) s h = items_keep l.items (meet_all ops [] l.uses s) (met_keeps l.uses s h)
