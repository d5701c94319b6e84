-- What a form of a unit sets aside binds definitions with numbers up to how many of them the unit has behind it.
use Rattle.std.proofs.Common.{◌≡◌, ℕ, suc, ◌+◌, ◌≤◌, List, [], ◌∷◌, ◌++◌, length, Bool, true, false, cond, min, Option, Some, None, Result, Ok, Err, refl, sym, ap, ◌∙◌, subst, arith}
use Rattle.std.specs.Prelude.{◌==◌}
use Rattle.scheme_model.specs.Identifiers.{Number}
use Rattle.scheme_model.specs.Ident.{Ident}
use Rattle.scheme_model.specs.Trees.{Tree}
use Rattle.scheme_model.specs.ExpansionFaults.{Named, Fault, KeywordRedefined, Duplicate}
use Rattle.scheme_model.specs.RulesShape.{Rules}
use Rattle.scheme_model.specs.Cores.{Bound, LocalNumber, Definition, Binder}
use Rattle.scheme_model.specs.Steps.{Broken}
use Rattle.scheme_model.specs.Order.{Item, Expression, Value, Function, Assigned, AssignedFunction, ValuesOf, Record, Macro, Left, Pending, Renamed, Ops}
use Rattle.scheme_model.specs.Expression.{meaning_of}
use Rattle.scheme_model.specs.UnitExpansion.{one_form}
use Rattle.scheme_model.specs.Substitution.{Table, unchanged, definition_count}
use Rattle.scheme_model.specs.ScopedExpansion.{Bind, Frames, FramedIdent, body_around}
use Rattle.scheme_model.specs.Questions.{Moment, Around, number_in, Outcome, Stands, Redefines, StoodBefore, outcome, Asking, bound_at, ended, asking}
use Rattle.scheme_model.specs.FormsAlike.{set_aside_asking, no_questions}
use Rattle.form_laws.specs.Begins.{Each}
use Rattle.form_laws.proofs.Sides.{Both, Results, BinderLike, ItemLike, LeftLike, PendingLike, RenamedLike, Sides}
use Rattle.form_laws.proofs.SideRuns.{run_runs}
use Rattle.kept_forms.proofs.OneSide.{BindsAll, LeftBinds}
use Rattle.declared_again.proofs.EndingSides as same

abbrev pub AtMost : ℕ → Bound → Type 0
AtMost n (LocalNumber k) = Unit {0}
AtMost n (Definition u m) = m ≤ n

abbrev up_to : ℕ → Bound → Bound
up_to n (LocalNumber k) = LocalNumber k
up_to n (Definition u m) = Definition u (min m n)

up_to_most : (n : ℕ) (x : Bound) → AtMost n (up_to n x)
up_to_most n (LocalNumber k) = tt
up_to_most n (Definition u m) = omega arith

up_to_same : (n : ℕ) (x : Bound) → AtMost n x → x ≡ up_to n x
up_to_same n (LocalNumber k) h = refl
up_to_same n (Definition u m) h = let le : m ≤ n = h in let e : m ≡ min m n = omega (arith, le) in ap (Definition u) e

-- ---- the form beside itself, where what it defines has numbers up to this one

-- how many definitions the unit has at a moment of the form
abbrev pub count_at : Around → Moment → ℕ
count_at w n = definition_count (n.table ++ w.state.table) w.state.unit

module _ (w : Around) (most : ℕ) where
  abbrev pub here : Ops Frames Ident FramedIdent Asking
  here = asking w

  abbrev Few : Asking → Type 0
  Few s = count_at w s.moment ≤ most

  abbrev Near : Asking → Asking → Type 0
  Near s t = (t.moment ≡ s.moment) × Few s

  abbrev bound_in : Option Number → Bound → Bound
  bound_in None x = up_to most x
  bound_in (Some b) x = x

  abbrev Like : Frames → Bound → Bound → Type 0
  Like fs x y = y ≡ bound_in (body_around fs) x

  bound_few : (b : Option Number) (n : Moment) → count_at w n ≤ most → bound_at w n b ≡ bound_in b (bound_at w n b)
  bound_few None n h = up_to_same most (bound_at w n None) h
  bound_few (Some b) n h = refl

  means_same : (b : Option Number) (x y : Bound) → y ≡ bound_in b x → (i : Ident) → meaning_of y i ≡ meaning_of x i
  means_same None (LocalNumber k) y e i = ap (λ z. meaning_of z i) e
  means_same None (Definition u m) y e i = ap (λ z. meaning_of z i) e
  means_same (Some b) x y e i = ap (λ z. meaning_of z i) e

  -- ---- definitions

  module _ (x : Named Ident) (r : Option (Rules Ident)) (fs : Frames) (n : Moment) where
    one_more : (b : Bool) → definition_count (n.table ++ w.state.table) w.state.unit ≤ cond b (suc (count_at w n)) (count_at w n)
    one_more true = omega arith
    one_more false = omega arith

    grows : (o : Outcome) (b : Option Number) (p : Pending Ident FramedIdent) → count_at w n ≤ count_at w (ended o w b x r fs p n).1
    grows Redefines b p = omega arith
    grows StoodBefore b p = omega arith
    grows Stands None p = one_more (w.state.unit == w.state.unit)
    grows Stands (Some b) p = omega arith

  module _ (e : Frames) (x : Named Ident) (r : Option (Rules Ident)) (p q : Pending Ident FramedIdent) (l : PendingLike (Like e) (same.SameNotes w) p q) (n : Moment) where
    abbrev b : Option Number
    b = body_around e

    some_by : (o : Outcome) → (y : Result (Renamed Ident FramedIdent) (Fault Ident)) × Results (RenamedLike (Like e) (same.SameNotes w)) (ended o w b x r e p n).0 y
    some_by Redefines = (Err (KeywordRedefined x), refl)
    some_by StoodBefore = (Err (Duplicate x), refl)
    some_by Stands = (Ok (unchanged q), (l, refl))

    near_by : (o : Outcome) → Results (RenamedLike (Like e) (same.SameNotes w)) (ended o w b x r e p n).0 (ended o w b x r e q n).0 × ((ended o w b x r e q n).1 ≡ (ended o w b x r e p n).1)
    near_by Redefines = (refl, refl)
    near_by StoodBefore = (refl, refl)
    near_by Stands = ((l, refl), refl)

  defined_near : (s t : Asking) → t.moment ≡ s.moment → (e f : Frames) → f ≡ e → (x : Named Ident) (r : Option (Rules Ident)) (p q : Pending Ident FramedIdent) → PendingLike (Like e) (same.SameNotes w) p q →
      let d = here.define x r e p s in let y = here.define x r f q t in Results (RenamedLike (Like e) (same.SameNotes w)) d.0 y.0 × (y.1.moment ≡ d.1.moment)
  defined_near s t h e f d x r p q l =
      let c = body_around e in
      let n = s.moment in
      let o = outcome w n c e x r p.notes in
      let notes = l.notes in
      let there : ended (outcome w t.moment (body_around f) f x r q.notes) w (body_around f) x r f q t.moment ≡ ended o w c x r e q n =
      (λ j. let g : Frames = d j in ended (outcome w (h j) (body_around g) g x r (notes j)) w (body_around g) x r g q (h j)) in
      let z = ended o w c x r e p n in
      subst (λ (y : Result (Renamed Ident FramedIdent) (Fault Ident) × Moment). Results (RenamedLike (Like e) (same.SameNotes w)) z.0 y.0 × (y.1 ≡ z.1)) (sym there) (near_by e x r p q l n o)

  abbrev sides : Sides here here (same.Fits w)
  sides = let k = same.sides w in record {
    same_so_far = Few;
    later = λ s u. Unit {0};
    near = Near;
    defines = λ fs. Unit {0};
    like = λ s l k. k ≡ l;
    bounds = Like;
    notes = λ s fs. same.SameNotes w;
    ruled = λ s m. Unit {0};
    ruled_there = λ s m a. tt;
    itself = λ s. tt;
    then_ = λ s t u a b. tt;
    fits_later = λ s t a e f d. d;
    notes_later = λ s t a e ns ms d. d;
    more_notes = λ s e ns ms d n m h. (let a = same.note_same w n m h in λ j. a j ∷ d j);
    placed = λ s e f d i. (λ j. record { frames = d j; ident = i });
    answered = λ s t h qs a. same.all_answered w s t h.0 qs;
    ask_back = λ s qs a. a;
    ask_later = λ s qs. tt;
    ask_near = λ s t h qs rs l. h;
    ask_means = λ s qs e i. refl;
    ask_macro = λ s qs m. refl;
    ask_meant = λ t rs f i. refl;
    counts = λ s t h. (let a = h.0 in λ j. let z : Moment = a j in record { locals = z.locals; uses = z.uses; nodes = z.nodes; keywords = z.keywords; met = z.met });
    spend_back = λ s n a. a;
    spend_later = λ s n. tt;
    spend_near = λ s t h n. (ap (λ (z : Moment). record z { nodes = z.nodes + n }) h.0, h.1);
    spend_means = λ s n e i. refl;
    spend_meant = λ t n f i. refl;
    meet_back = λ s x a. a;
    meet_later = λ s x. tt;
    meet_near = λ s t h x. (ap (λ (z : Moment). record z { keywords = x ∷ z.keywords }) h.0, h.1);
    meet_use_back = λ s u a. a;
    meet_use_later = λ s u. tt;
    meet_use_near = λ s t h u. (ap (λ (z : Moment). record z { met = u ∷ z.met }) h.0, h.1);
    next_use = λ s t h. ap (λ (z : Moment). number_in w z.uses) h.0;
    begin_back = λ s e a. a;
    begin_later = λ s e f d. tt;
    begin_near = λ s t h e f d. (let a = h.0 in (λ j. let z : Moment = a j in record z { uses = suc z.uses; places = record { use_number = number_in w z.uses; frames = d j } ∷ z.places }), h.1);
    next_local = λ s t h. ap (λ (z : Moment). number_in w z.locals) h.0;
    take_back = λ s a. a;
    take_later = λ s. tt;
    take_near = λ s t h. (ap (λ (z : Moment). record z { locals = suc z.locals }) h.0, h.1);
    some_bound = λ s e f d. (bound_in (body_around e) (here.next_bound e s), refl);
    next_bound = λ s t h e f d. ((let a = h.0 in λ j. bound_at w (a j) (body_around (d j))) ∙ bound_few (body_around e) s.moment h.1);
    same_meant = λ e x y d i. means_same (body_around e) x y d i;
    bind_back = λ s x e ts a. a;
    bind_later = λ s x e f d ts. tt;
    bind_some = λ s x e f d ts. (Bind x (here.next_local s) ∷ e, refl);
    bind_near = λ s t h x e f d ts. ((ap (λ (z : Moment). record z { locals = suc z.locals }) h.0, h.1), (let a = h.0 in λ j. Bind x (number_in w (a j).locals) ∷ d j), refl);
    macro = λ s e f d m. same.macro_some w (here.transformer s m);
    keep_back = λ s v r e a. a;
    keep_later = λ s v r e f d. tt;
    keep_near = λ s t h v r e f d. (k.keep_near s t h.0 v r e f d, h.1);
    enter_back = λ s e ts a. a;
    enter_later = λ s e f d ts. tt;
    enter_some = λ s e f d ts. ((here.enter e ts s).env, refl);
    enter_near = λ s t h e f d ts. (let n = k.enter_near s t h.0 e f d ts in ((n.0, h.1), n.1, n.2));
    entered = λ s e f d ts. refl;
    inside = λ s e ts. tt;
    inside_bounds = λ s e ts x y d. d;
    define_back = λ s n r e p a. (let g = grows n r e s.moment (outcome w s.moment (body_around e) e n r p.notes) (body_around e) p in omega (arith, a, g));
    define_later = λ s e f g d x r p q l. tt;
    define_some = λ s e f g d x r p q l. some_by e x r p q l s.moment (outcome w s.moment (body_around e) e x r p.notes);
    define_near = λ s t h e f g d x r p q l a. (let n = defined_near s t h.0 e f d x r p q l in (n.0, (n.1, a)));
  }

  -- ---- what is set aside

  names_most : (bs cs : List Binder) → Both (BinderLike (Like [])) bs cs → Each (λ (b : Binder). AtMost most b.bound) cs
  names_most [] [] h = tt
  names_most [] (c ∷ cs) h = absurd h
  names_most (b ∷ bs) [] h = absurd h
  names_most (b ∷ bs) (c ∷ cs) h = (subst (AtMost most) (sym h.0.0) (up_to_most most b.bound), names_most bs cs h.1)

  item_most : (i j : Item Ident) → ItemLike (Like []) i j → BindsAll (AtMost most) j
  item_most (Expression x) j h = subst (BindsAll (AtMost most)) (sym h) tt
  item_most (Value b x) j h = subst (BindsAll (AtMost most)) (sym h.2) (subst (AtMost most) (sym h.1.0) (up_to_most most b.bound))
  item_most (Function b at c) j h = subst (BindsAll (AtMost most)) (sym h.2) (subst (AtMost most) (sym h.1.0) (up_to_most most b.bound))
  item_most (Assigned n x) j h = subst (BindsAll (AtMost most)) (sym h) tt
  item_most (AssignedFunction n at c) j h = subst (BindsAll (AtMost most)) (sym h) tt
  item_most (ValuesOf bs x) j h = subst (BindsAll (AtMost most)) (sym h.2) (names_most bs.names h.0.names h.1.0)
  item_most (Record r) j h = subst (BindsAll (AtMost most)) (sym h.2) (names_most r.binders h.0.binders h.1.0)
  item_most (Macro b at) j h = subst (BindsAll (AtMost most)) (sym h.2) (subst (AtMost most) (sym h.1.0) (up_to_most most b.bound))

  items_most : (is js : List (Item Ident)) → Both (ItemLike (Like [])) is js → Each (BindsAll (AtMost most)) js
  items_most [] [] h = tt
  items_most [] (j ∷ js) h = absurd h
  items_most (i ∷ is) [] h = absurd h
  items_most (i ∷ is) (j ∷ js) h = (item_most i j h.0, items_most is js h.1)

  left_most : (r q : Result (Left Ident) Broken) → Results (LeftLike (Like [])) r q → LeftBinds (AtMost most) q
  left_most (Ok l) (Ok m) h = items_most l.items m.items h.1
  left_most (Ok l) (Err e) h = absurd h
  left_most (Err x) (Ok m) h = absurd h
  left_most (Err x) (Err e) h = tt

  most_by : (turns : ℕ) (t : Tree Ident) → count_at w (no_questions w).moment ≤ most → count_at w (set_aside_asking w turns t).1.moment ≤ most → LeftBinds (AtMost most) (set_aside_asking w turns t).0.left
  most_by turns t first last =
      let law = run_runs here here (same.Fits w) sides [] [] tt turns (one_form t []) (one_form t []) (no_questions w) refl (record { todo = refl; aside = tt; uses = refl; notes = refl }) in
      let x = law.same (no_questions w) (refl, first) last in
      let q = set_aside_asking w turns t in
      left_most q.0.left q.0.left x.0.left

  first_by : (turns : ℕ) (t : Tree Ident) → count_at w (set_aside_asking w turns t).1.moment ≤ most → count_at w (no_questions w).moment ≤ most
  first_by turns t last =
      let law = run_runs here here (same.Fits w) sides [] [] tt turns (one_form t []) (one_form t []) (no_questions w) refl (record { todo = refl; aside = tt; uses = refl; notes = refl }) in
      law.back last

pub set_aside_within : (w : Around) (turns : ℕ) (t : Tree Ident) (most : ℕ) → count_at w (set_aside_asking w turns t).1.moment ≤ most → LeftBinds (AtMost most) (set_aside_asking w turns t).0.left
set_aside_within w turns t most h = most_by w most turns t (first_by w most turns t h) h

pub count_within : (ds es : Table) (unit : ℕ) → definition_count (ds ++ es) unit ≤ definition_count es unit + length ds
count_within [] es unit = omega arith
count_within (d ∷ ds) es unit = go (d.unit == unit) (count_within ds es unit)
  where
    go : (b : Bool) → definition_count (ds ++ es) unit ≤ definition_count es unit + length ds → cond b (suc (definition_count (ds ++ es) unit)) (definition_count (ds ++ es) unit) ≤ definition_count es unit + suc (length ds)
    go true h = omega arith
    go false h = omega arith
