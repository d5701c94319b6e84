-- Two expansions that differ in definitions alone, as two sides: so they go through the same forms and expand the same.
use Rattle.std.proofs.Common.{◌≡◌, ℕ, List, [], ◌∷◌, Option, Some, None, Result, Ok, Err, refl, sym, ap, ◌∙◌, subst}
use Rattle.scheme_model.specs.Ident.{Ident}
use Rattle.scheme_model.specs.ExpansionFaults.{Named, Fault}
use Rattle.scheme_model.specs.Meaning.{same_meaning}
use Rattle.scheme_model.specs.RulesShape.{Rules}
use Rattle.scheme_model.specs.Cores.{Bound}
use Rattle.scheme_model.specs.Steps.{Broken}
use Rattle.scheme_model.specs.Order.{Here, Item, Note, LookedUp, Compared, Left, Pending, Renamed, Pass, Transformer, Asked, Meant, Headed, RulesOf, Alike as AlikeAsked, Assigns, Library, Ops, head_of, run}
use Rattle.scheme_model.specs.Expression.{Task, meaning_of, expand, item_part}
use Rattle.model_laws.proofs.FrameAsks.{AllOf}
use Rattle.model_laws.proofs.FrameHeads.{IfMacro}
use Rattle.model_laws.proofs.FrameHeld.{NoteAll, notes_more}
use Rattle.model_laws.proofs.CountedForms.{OkAll}
use Rattle.form_laws.proofs.Sides.{Results, NoteLike, ItemLike, PendingLike, RenamedLike, LeftLike, PartLike, TransformerLike, Answer, Sides}
use Rattle.form_laws.proofs.SideRuns.{both_itself, item_itself, run_runs}
use Rattle.form_laws.proofs.SideExpressions.{items_equal, part_equal, expand_goes, item_goes}
use Rattle.expansion_laws.proofs.AlikeSteps.{Likeness, ops, other, After, On, Notes, Alike}

module _ {E A L S : Type 0} (loud : Ops E A L S) (k : Likeness loud) where
  abbrev fits : S → E → E → Type 0
  fits s e f = (f ≡ e) × (k.good s × k.fits s e)

  abbrev near : S → S → Type 0
  near s t = (t ≡ s) × k.good s

  -- what holds of states after s, where s is good
  abbrev later : S → S → Type 0
  later s u = k.good s → After loud k s u

  abbrev like : S → L → L → Type 0
  like s l m = (m ≡ l) × k.noted s l

  abbrev notes : S → E → List (Note L) → List (Note L) → Type 0
  notes s e ns ms = (ms ≡ ns) × (k.good s × Notes loud k s ns)

  abbrev Equal : Bound → Bound → Type 0
  Equal x y = y ≡ x

  note_same : (s : S) (n m : Note L) → NoteLike (like s) n m → (m ≡ n) × NoteAll (k.noted s) n
  note_same s (LookedUp l h d) (LookedUp m i j) e = ((let a = e.0.0 in let b = e.1 in let c = e.2 in λ z. LookedUp (a z) (b z) (c z)), e.0.1)
  note_same s (LookedUp l h d) (Compared m n i) e = absurd e
  note_same s (Compared l m h) (LookedUp n i j) e = absurd e
  note_same s (Compared l m h) (Compared n o i) e = ((let a = e.0.0 in let b = e.1.0 in let c = e.2 in λ z. Compared (a z) (b z) (c z)), (e.0.1, e.1.1))

  macro_fits : (s : S) → k.good s → (o : Option (Transformer E A)) → IfMacro (λ (c : Transformer E A). k.fits s c.env) o → IfMacro (λ (c : Transformer E A). (g : E) × fits s c.env g) o
  macro_fits s g None h = tt
  macro_fits s g (Some c) h = (c.env, (refl, (g, h)))

  macro_like : (s : S) → k.good s → (o : Option (Transformer E A)) → IfMacro (λ (c : Transformer E A). k.fits s c.env) o → TransformerLike (fits s) o o
  macro_like s g None h = refl
  macro_like s g (Some c) h = (c.env, (refl, (g, h)), refl)

  answer : (s t : S) → near s t → (q : Asked E A) → Answer (ops loud k) (other loud k) fits s t q
  answer s t n (Meant e i) = λ f h. (let a = h.0 in let b = n.0 in λ j. loud.means (a j) (b j) i)
  answer s t n (Headed e i) = λ f h. (let a = h.0 in let b = n.0 in (λ j. loud.means (a j) (b j) i, λ j. head_of loud (a j) (b j) i))
  answer s t n (RulesOf m) = subst (λ (u : S). TransformerLike (fits s) (loud.transformer s m) (loud.transformer u m)) (sym n.0) (macro_like s n.1 (loud.transformer s m) (k.transformer s n.1 m))
  answer s t n (AlikeAsked d l e i) = λ g f x y. (let a = x.0 in let b = y.0 in let c = n.0 in λ j. same_meaning (loud.means (a j) (c j) l) (loud.means (b j) (c j) i))
  answer s t n (Assigns e i) = λ f h. (let a = h.0 in let b = n.0 in λ j. loud.is_assigned (a j) (b j) i)
  answer s t n (Library l) = refl

  answers : (s t : S) → near s t → (qs : List (Asked E A)) → AllOf (Answer (ops loud k) (other loud k) fits s t) qs
  answers s t n [] = tt
  answers s t n (q ∷ qs) = (answer s t n q, answers s t n qs)

  -- ---- definitions

  pending_same : (s : S) (e : E) (p q : Pending A L) → PendingLike Equal (notes s e) p q → q ≡ p
  pending_same s e p q l =
      let a = l.todo in let b = items_equal Equal (λ x y d. d) p.aside q.aside l.aside in let c = l.uses in let d = l.notes.0 in
      λ j. record { todo = a j; aside = b j; uses = c j; notes = d j }

  defined_itself : (u : S) (e : E) (ns : List (Note L)) → k.good u → Notes loud k u ns → (x : Result (Renamed A L) (Fault Ident)) → OkAll (λ (d : Renamed A L). d.pending.notes ≡ ns) x → Results (RenamedLike Equal (notes u e)) x x
  defined_itself u e ns g h (Ok d) l = (record { todo = refl; aside = both_itself (ItemLike Equal) (item_itself Equal (λ x. refl)) d.pending.aside; uses = refl; notes = (refl, (g, subst (Notes loud k u) (sym l) h)) }, refl)
  defined_itself u e ns g h (Err x) l = refl

  module _ (s : S) (e f : E) (d : k.defines e) (h : fits s e f) (n : Named A) (r : Option (Rules A)) (p q : Pending A L) (l : PendingLike Equal (notes s e) p q) where
    abbrev made : Result (Renamed A L) (Fault Ident) × S
    made = loud.define n r e p s

    define_after : After loud k s made.1
    define_after = k.defined s h.1.0 e d h.1.1 n r p

    define_itself : Results (RenamedLike Equal (notes made.1 e)) made.0 made.0
    define_itself = let a = define_after in defined_itself made.1 e p.notes a.0 (notes_more (k.noted s) (k.noted made.1) (k.noted_later s made.1 a.1) p.notes l.notes.1.1) made.0 (k.left s e n r p)

    define_same : (t : S) → near s t → k.define n r f q t ≡ made
    define_same t z = let a = h.0 in let b = pending_same s e p q l in let c = z.0 in (λ j. k.define n r (a j) (b j) (c j)) ∙ k.same s h.1.0 e d h.1.1 n r p l.notes.1.1

    define_there : (t : S) → near s t → Results (RenamedLike Equal (notes made.1 e)) made.0 (k.define n r f q t).0 × near made.1 (k.define n r f q t).1
    define_there t z = subst (λ (x : Result (Renamed A L) (Fault Ident) × S). Results (RenamedLike Equal (notes made.1 e)) made.0 x.0 × near made.1 x.1) (sym (define_same t z)) (define_itself, (refl, define_after.0))

  -- ---- both sides

  abbrev sides : Sides (ops loud k) (other loud k) fits
  sides = record {
    same_so_far = λ s. Unit {0};
    later = later;
    near = near;
    defines = k.defines;
    like = like;
    bounds = λ e. Equal;
    notes = notes;
    ruled = λ s m. Unit {0};
    ruled_there = λ s m a. tt;
    itself = λ s g. (g, k.itself s);
    then_ = λ s t u a b g. (let x = a g in let y = b x.0 in (y.0, k.then_ s t u x.1 y.1));
    fits_later = λ s t a e f h. (let x = a h.1.0 in (h.0, (x.0, k.fits_later s t x.1 e h.1.1)));
    notes_later = λ s t a e ns ms h. (let x = a h.1.0 in (h.0, (x.0, notes_more (k.noted s) (k.noted t) (k.noted_later s t x.1) ns h.1.1)));
    more_notes = λ s e ns ms h n m d. (let x = note_same s n m d in let a = x.0 in let b = h.0 in (λ j. a j ∷ b j, (h.1.0, (x.1, h.1.1))));
    placed = λ s e f h i. (ap (λ g. loud.place g i) h.0, k.placed s e h.1.1 i);
    answered = λ s t n qs a. answers s t n qs;
    ask_back = λ s qs a. tt;
    ask_later = λ s qs g. (g, k.itself s);
    ask_near = λ s t n qs rs a. n;
    ask_means = λ s qs e i. refl;
    ask_macro = λ s qs m. refl;
    ask_meant = λ t rs f i. refl;
    counts = λ s t n. ap loud.counted n.0;
    spend_back = λ s n a. tt;
    spend_later = λ s n g. k.spend s g n;
    spend_near = λ s t z n. (ap (loud.spend n) z.0, (k.spend s z.1 n).0);
    spend_means = k.spend_means;
    spend_meant = k.spend_means;
    meet_back = λ s x a. tt;
    meet_later = λ s x g. k.meet s g x;
    meet_near = λ s t z x. (ap (loud.meet x) z.0, (k.meet s z.1 x).0);
    meet_use_back = λ s u a. tt;
    meet_use_later = λ s u g. k.meet_use s g u;
    meet_use_near = λ s t z u. (ap (loud.meet_use u) z.0, (k.meet_use s z.1 u).0);
    next_use = λ s t z. ap loud.next_use z.0;
    begin_back = λ s e a. tt;
    begin_later = λ s e f h g. k.begin_use s g e h.1.1;
    begin_near = λ s t z e f h. (let a = h.0 in let b = z.0 in (λ j. loud.begin_use (a j) (b j), (k.begin_use s z.1 e h.1.1).0));
    next_local = λ s t z. ap loud.next_local z.0;
    take_back = λ s a. tt;
    take_later = λ s g. k.take_local s g;
    take_near = λ s t z. (ap loud.take_local z.0, (k.take_local s z.1).0);
    some_bound = λ s e f h. (loud.next_bound e s, refl);
    next_bound = λ s t z e f h. (let a = h.0 in let b = z.0 in λ j. loud.next_bound (a j) (b j));
    same_meant = λ e x y d i. ap (λ z. meaning_of z i) d;
    bind_back = λ s x e ts a. tt;
    bind_later = λ s x e f h ts g. (k.bind s g e h.1.1 x ts).0;
    bind_some = λ s x e f h ts. (let b = k.bind s h.1.0 e h.1.1 x ts in ((loud.bind x e ts s).env, (refl, (b.0.0, b.1))));
    bind_near = λ s t z x e f h ts. (let a = h.0 in let b = z.0 in let c = k.bind s h.1.0 e h.1.1 x ts in
        ((λ j. (loud.bind x (a j) ts (b j)).state, c.0.0), (λ j. (loud.bind x (a j) ts (b j)).env, (c.0.0, c.1)), λ j. (loud.bind x (a j) ts (b j)).trees));
    macro = λ s e f h m. macro_fits s h.1.0 (loud.transformer s m) (k.transformer s h.1.0 m);
    keep_back = λ s v r e a. tt;
    keep_later = λ s v r e f h g. k.keep s g e h.1.1 v r;
    keep_near = λ s t z v r e f h. (let a = h.0 in let b = z.0 in (λ j. loud.keep v r (a j) (b j), (k.keep s h.1.0 e h.1.1 v r).0));
    enter_back = λ s e ts a. tt;
    enter_later = λ s e f h ts g. (k.enter s g e h.1.1 ts).0;
    enter_some = λ s e f h ts. (let b = k.enter s h.1.0 e h.1.1 ts in ((loud.enter e ts s).env, (refl, (b.0.0, b.1))));
    enter_near = λ s t z e f h ts. (let a = h.0 in let b = z.0 in let c = k.enter s h.1.0 e h.1.1 ts in
        ((λ j. (loud.enter (a j) ts (b j)).state, c.0.0), (λ j. (loud.enter (a j) ts (b j)).env, (c.0.0, c.1)), λ j. (loud.enter (a j) ts (b j)).trees));
    entered = λ s e f h ts. (refl, ((k.enter s h.1.0 e h.1.1 ts).0.0, tt));
    inside = k.inside;
    inside_bounds = λ s e ts x y d. d;
    define_back = λ s n r e p a. tt;
    define_later = λ s e f d h n r p q l g. define_after s e f d h n r p q l;
    define_some = λ s e f d h n r p q l. ((loud.define n r e p s).0, define_itself s e f d h n r p q l);
    define_near = λ s t z e f d h n r p q l a. define_there s e f d h n r p q l t z;
  }

  -- ---- so both come to the same

  pass_same : (R : List (Note L) → List (Note L) → Type 0) → ((ns ms : List (Note L)) → R ns ms → ms ≡ ns) → (x y : Pass A L) → R x.notes y.notes → Results (LeftLike Equal) x.left y.left → y ≡ x
  pass_same R same x y a b = let c = same x.notes y.notes a in let d = go x.left y.left b in λ j. record { notes = c j; left = d j }
    where
      left_same : (l m : Left A) → LeftLike Equal l m → m ≡ l
      left_same l m h = let a = h.0 in let b = items_equal Equal (λ x y d. d) l.items m.items h.1 in λ j. record { uses = a j; items = b j }

      go : (r q : Result (Left A) Broken) → Results (LeftLike Equal) r q → q ≡ r
      go (Ok l) (Ok m) h = ap (λ z. Ok z) (left_same l m h)
      go (Ok l) (Err m) h = absurd h
      go (Err l) (Ok m) h = absurd h
      go (Err l) (Err m) h = ap (λ z. Err z) h

  value_same : {V : Type 0} (R : V → V → Type 0) → ((v w : V) → R v w → w ≡ v) → (r q : Result V Broken) → Results R r q → q ≡ r
  value_same R same (Ok v) (Ok w) h = ap (λ z. Ok z) (same v w h)
  value_same R same (Ok v) (Err w) h = absurd h
  value_same R same (Err v) (Ok w) h = absurd h
  value_same R same (Err v) (Err w) h = ap (λ z. Err z) h

  pub run_alike : (e : E) → k.defines e → (turns : ℕ) (p : Pending A L) (s : S) → On loud k e s → Notes loud k s p.notes → Alike loud k s (run (ops loud k) turns e p s) (run (other loud k) turns e p s)
  run_alike e d turns p s h l =
      let law = run_runs (ops loud k) (other loud k) fits sides e e d turns p p s (refl, h) (record { todo = refl; aside = both_itself (ItemLike Equal) (item_itself Equal (λ x. refl)) p.aside; uses = refl; notes = (refl, (h.0, l)) }) in
      let x = law.same s (refl, h.0) tt in
      let q = run (ops loud k) turns e p s in
      let a = pass_same (notes q.1 e) (λ ns ms y. y.0) q.0 (run (other loud k) turns e p s).0 x.0.notes x.0.left in let b = x.1.0 in
      record { same = λ j. (a j, b j); after = law.after h.0 }

  pub expand_alike : (turns depth : ℕ) (here : Here) (e : E) (t : Task A) (s : S) → On loud k e s → Alike loud k s (expand (ops loud k) turns depth here e t s) (expand (other loud k) turns depth here e t s)
  expand_alike turns depth here e t s h =
      let law = expand_goes (ops loud k) (other loud k) fits sides (λ s m. tt) turns depth here e e t s (refl, h) in
      let x = law.same s (refl, h.0) tt in
      let a = value_same (λ v w. w ≡ v) (λ v w y. y) (expand (ops loud k) turns depth here e t s).0 (expand (other loud k) turns depth here e t s).0 x.0 in let b = x.1.0 in
      record { same = λ j. (a j, b j); after = law.after h.0 }

  pub item_alike : (turns depth : ℕ) (e : E) (i : Item A) (s : S) → On loud k e s
      → Alike loud k s (item_part (expand (ops loud k) turns) (ops loud k) depth e i s) (item_part (expand (other loud k) turns) (other loud k) depth e i s)
  item_alike turns depth e i s h =
      let F = expand (ops loud k) turns in let G = expand (other loud k) turns in
      let law = item_goes (ops loud k) (other loud k) fits sides (λ s m. tt) F G (expand_goes (ops loud k) (other loud k) fits sides (λ s m. tt) turns) Equal (λ x y d i. ap (λ z. meaning_of z i) d) depth e e i i (item_itself Equal (λ x. refl) i) s (refl, h) in
      let x = law.same s (refl, h.0) tt in
      let a = value_same (PartLike Equal) (part_equal Equal (λ x y d. d)) (item_part F (ops loud k) depth e i s).0 (item_part G (other loud k) depth e i s).0 x.0 in let b = x.1.0 in
      record { same = λ j. (a j, b j); after = law.after h.0 }
