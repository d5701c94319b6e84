-- While what a form set aside is expanded, what it makes is local, its nodes rise, and nothing is expanded behind a fault: one more side that
-- asks.
use Rattle.std.proofs.Common.{◌≡◌, ℕ, ◌≤◌, List, [], ◌∷◌, map, false, true, Option, Some, None, Result, Ok, Err, refl, ap, ◌∙◌, arith}
use Rattle.scheme_model.specs.Identifiers.{Number}
use Rattle.scheme_model.specs.Ident.{Ident}
use Rattle.scheme_model.specs.ExpansionFaults.{Named}
use Rattle.scheme_model.specs.RulesShape.{Rules}
use Rattle.scheme_model.specs.Cores.{Bound, Part}
use Rattle.scheme_model.specs.Steps.{Broken, Step}
use Rattle.scheme_model.specs.Order.{Item, Left, Pending, is_some, meet_all}
use Rattle.scheme_model.specs.Expression.{meaning_of, expand, item_part}
use Rattle.scheme_model.specs.UnitExpansion.{max_depth}
use Rattle.scheme_model.specs.ScopedExpansion.{Frames, FramedIdent, body_around}
use Rattle.scheme_model.specs.Questions.{Moment, Around, Outcome, Stands, Redefines, StoodBefore, outcome, ended, number_in, Asking, asking}
use Rattle.scheme_model.specs.FormsAlike.{start, no_questions}
use Rattle.form_laws.proofs.Sides.{Sides}
use Rattle.form_laws.proofs.SideRuns.{item_itself}
use Rattle.form_laws.proofs.SideSteps.{meet_all_later}
use Rattle.form_laws.proofs.SideExpressions.{item_goes, expand_goes}
use Rattle.form_laws.proofs.Answering.{answering}
use Rattle.form_laws.proofs.AskingSides.{NoLocals, fits}
use Rattle.form_laws.proofs.AskingSides as plain
use Rattle.kept_forms.specs.KeptForms.{KeptItem, KeptParts, item_moved, kept_moved}
use Rattle.kept_forms.specs.Carried.{unless_broken, kept_items, kept_parts}
use Rattle.forgotten_locals.specs.Outside.{macros_outside}

-- ---- from one moment to the next

-- nothing is made at the root, and the nodes don't fall
abbrev pub GrowsTo : Moment → Moment → Type 0
GrowsTo m n = (n.table ≡ m.table) × (macros_outside n.macros ≡ macros_outside m.macros) × (m.nodes ≤ n.nodes)

abbrev pub StopsAt : Result Part Broken → List KeptItem → Type 0
StopsAt (Ok p) ks = Unit {0}
StopsAt (Err e) ks = ks ≡ []

-- so from item to item, and behind a fault there is none
abbrev pub AllGrow : Moment → List KeptItem → Type 0
AllGrow m [] = Unit {0}
AllGrow m (k ∷ ks) = GrowsTo m k.moment × StopsAt k.part ks × AllGrow k.moment ks

-- ---- all steps

abbrev InBody : Frames → Type 0
InBody fs = (b : Number) × (body_around fs ≡ Some b)

module _ (w : Around) (en : NoLocals w) where
  abbrev Grows : Asking → Asking → Type 0
  Grows s u = GrowsTo s.moment u.moment

  ended_grows : (b : Number) (x : Named Ident) (r : Option (Rules Ident)) (fs : Frames) (p : Pending Ident FramedIdent) (o : Outcome) (n : Moment) → GrowsTo n (ended o w (Some b) x r fs p n).1
  ended_grows b x r fs p Redefines n = (refl, refl, omega arith)
  ended_grows b x r fs p StoodBefore n = (refl, refl, omega arith)
  ended_grows b x None fs p Stands n = (refl, refl, omega arith)
  ended_grows b x (Some q) fs p Stands n = (refl, refl, omega arith)

  define_grows : (b : Option Number) → ((c : Number) × (b ≡ Some c)) → (x : Named Ident) (r : Option (Rules Ident)) (fs : Frames) (p : Pending Ident FramedIdent) (n : Moment) → GrowsTo n (ended (outcome w n b fs x r p.notes) w b x r fs p n).1
  define_grows None d x r fs p n = let z : false ≡ true = ap is_some d.1 in absurd cc
  define_grows (Some b) d x r fs p n = ended_grows b x r fs p (outcome w n (Some b) fs x r p.notes) n

  abbrev sides : Sides (asking w) (answering w.state w.known) fits
  sides = let x = plain.sides w w refl refl en en in record {
    same_so_far = x.same_so_far;
    later = Grows;
    near = x.near;
    defines = InBody;
    like = x.like;
    bounds = x.bounds;
    notes = x.notes;
    ruled = x.ruled;
    ruled_there = x.ruled_there;
    itself = λ s. (refl, refl, omega arith);
    then_ = λ s t u a b. (b.0 ∙ a.0, b.1 ∙ a.1, (let c = a.2 in let d = b.2 in omega (arith, c, d)));
    fits_later = λ s t a e f h. h;
    notes_later = λ s t a e ns ms d. d;
    more_notes = x.more_notes;
    placed = x.placed;
    answered = x.answered;
    ask_back = x.ask_back;
    ask_later = λ s qs. (refl, refl, omega arith);
    ask_near = x.ask_near;
    ask_means = x.ask_means;
    ask_macro = x.ask_macro;
    ask_meant = x.ask_meant;
    counts = x.counts;
    spend_back = x.spend_back;
    spend_later = λ s n. (refl, refl, omega arith);
    spend_near = x.spend_near;
    spend_means = x.spend_means;
    spend_meant = x.spend_meant;
    meet_back = x.meet_back;
    meet_later = λ s t. (refl, refl, omega arith);
    meet_near = x.meet_near;
    meet_use_back = x.meet_use_back;
    meet_use_later = λ s u. (refl, refl, omega arith);
    meet_use_near = x.meet_use_near;
    next_use = x.next_use;
    begin_back = x.begin_back;
    begin_later = λ s e f a. (refl, refl, omega arith);
    begin_near = x.begin_near;
    next_local = x.next_local;
    take_back = x.take_back;
    take_later = λ s. (refl, refl, omega arith);
    take_near = x.take_near;
    some_bound = x.some_bound;
    next_bound = x.next_bound;
    same_meant = x.same_meant;
    bind_back = x.bind_back;
    bind_later = λ s i e f a ts. (refl, refl, omega arith);
    bind_some = x.bind_some;
    bind_near = x.bind_near;
    macro = x.macro;
    keep_back = x.keep_back;
    keep_later = λ s v r e f a. (refl, refl, omega arith);
    keep_near = x.keep_near;
    enter_back = x.enter_back;
    enter_later = λ s e f a ts. (refl, refl, omega arith);
    enter_some = x.enter_some;
    enter_near = x.enter_near;
    entered = x.entered;
    inside = λ s e ts. (number_in w s.moment.bodies, refl);
    inside_bounds = x.inside_bounds;
    define_back = x.define_back;
    define_later = λ s e f d a i r p q l. define_grows (body_around e) d i r e p s.moment;
    define_some = λ s e f d a. x.define_some s e f tt a;
    define_near = λ s t h e f d a. x.define_near s t h e f tt a;
  }

  -- ---- the items

  abbrev Same : Bound → Bound → Type 0
  Same x y = y ≡ x

  module _ (turns : ℕ) where
    abbrev one : Item Ident → Step Asking Part
    one = item_part (expand (asking w) turns) (asking w) max_depth []

    item_grows : (i : Item Ident) (s : Asking) → Grows s (one i s).1
    item_grows i s =
        let there = answering w.state w.known in
        let law = item_goes (asking w) there fits sides (λ s m. tt) (expand (asking w) turns) (expand there turns) (expand_goes (asking w) there fits sides (λ s m. tt) turns) Same (λ x y e k. ap (λ z. meaning_of z k) e) max_depth [] [] i i (item_itself Same (λ x. refl) i) s refl in
        law.after

    unless_stops : (r : Result Part Broken) (ks : List KeptItem) → StopsAt r (unless_broken r ks)
    unless_stops (Ok p) ks = tt
    unless_stops (Err e) ks = refl

    unless_grows : (r : Result Part Broken) (m : Moment) (ks : List KeptItem) → AllGrow m ks → AllGrow m (unless_broken r ks)
    unless_grows (Ok p) m ks h = h
    unless_grows (Err e) m ks h = tt

    items_grow : (is : List (Item Ident)) (s : Asking) → AllGrow s.moment (kept_items one is s)
    items_grow [] s = tt
    items_grow (i ∷ is) s = let q = one i s in (item_grows i s, unless_stops q.0 (kept_items one is q.1), unless_grows q.0 q.1.moment (kept_items one is q.1) (items_grow is q.1))

    pub parts_grow : (n : ℕ) (l : Left Ident) → let c = kept_parts w turns n l in GrowsTo (start w.state) c.met × AllGrow c.met c.items
    parts_grow n l =
        let there = answering w.state w.known in
        let s = meet_all (asking w) [] l.uses (no_questions w) in
        (meet_all_later (asking w) there fits sides [] l.uses (no_questions w), items_grow l.items s)

-- ---- with other numbers of definitions

moved_grow : (f : Bound → Bound) (m : Moment) (ks : List KeptItem) → AllGrow m ks → AllGrow m (map (item_moved f) ks)
moved_grow f m [] h = tt
moved_grow f m (k ∷ ks) h = (h.0, stops k.part h.1, moved_grow f k.moment ks h.2)
  where
    stops : (r : Result Part Broken) → StopsAt r ks → StopsAt (item_moved f (record { part = r; moment = k.moment })).part (map (item_moved f) ks)
    stops (Ok p) e = tt
    stops (Err b) e = ap (map (item_moved f)) e

pub moved_parts_grow : (f : Bound → Bound) (c : KeptParts) → GrowsTo c.begun c.met × AllGrow c.met c.items → let d = kept_moved f c in GrowsTo d.begun d.met × AllGrow d.met d.items
moved_parts_grow f c h = (h.0, moved_grow f c.met c.items h.1)
