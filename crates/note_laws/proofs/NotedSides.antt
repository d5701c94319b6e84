-- An expansion with its questions, and one that notes what it asks, as two sides.
use Rattle.std.proofs.Common.{◌≡◌, ℕ, suc, ◌≤◌, List, ◌∷◌, Option, Some, None, refl, sym, ap, ◌∙◌, subst, arith}
use Rattle.scheme_model.specs.Identifiers.{Number}
use Rattle.scheme_model.specs.Ident.{Ident}
use Rattle.scheme_model.specs.Cores.{LocalNumber}
use Rattle.scheme_model.specs.Meaning.{Local}
use Rattle.scheme_model.specs.Order.{Note, LookedUp, Compared, Transformer, Ops}
use Rattle.scheme_model.specs.Expression.{meaning_of}
use Rattle.scheme_model.specs.ScopedExpansion.{Bind, Enter, Frames, FramedIdent, ScopedState, body_around, bound_next}
use Rattle.scheme_model.specs.Questions.{Moment, Around, number_in, outcome, Asking, bound_at, asking}
use Rattle.scheme_model.specs.FormsAlike.{bare_ident, Leaves}
use Rattle.model_laws.proofs.FrameHeads.{IfMacro}
use Rattle.model_laws.proofs.FrameHeld.{NoteAll}
use Rattle.form_laws.specs.Begins.{Begins}
use Rattle.form_laws.proofs.Sides.{NoteLike, Sides}
use Rattle.form_laws.proofs.Bare.{body_same, note_bare}
use Rattle.form_laws.proofs.Leaving.{spent, met_keyword, met_use, taken, entered, next_locals, next_uses, next_bodies, begun, kept, counts_are}
use Rattle.noted_steps.specs.Noting.{Noting, state_of, noting}
use Rattle.forgotten_locals.specs.Outside.{IsOutside}
use Rattle.note_laws.specs.Told.{ImportsOthers}
use Rattle.note_laws.proofs.MeansHere.{Here, Good, here_more, here_same}
use Rattle.note_laws.proofs.GoodMoments.{taken_good, next_in_form, begun_good, kept_good, macro_here}
use Rattle.note_laws.proofs.NotedAsked.{Part, Fit, Near, all_answered, ask_near}
use Rattle.note_laws.proofs.NotedDefined.{Same, NotesLike, Ready, After, notes_after, after_ended, made_some, define_near}

module _ (w : Around) (e0 : ℕ → Option (Transformer Frames Ident)) (out : IsOutside w.state) (begins : Begins w.state) (others : ImportsOthers w.state) (part : Part w e0) where
  abbrev here : Ops Frames Ident FramedIdent Asking
  here = asking w

  abbrev there : Ops Frames Ident FramedIdent Noting
  there = noting w.known

  abbrev pub fits : Asking → Frames → Frames → Type 0
  fits s e f = Fit w e0 out begins part s.moment e f

  abbrev IsReady : Moment → Type 0
  IsReady n = Ready w e0 out begins others part n

  abbrev Later : Moment → Moment → Type 0
  Later n m = After w e0 out begins others part n m

  abbrev NotesAre : Moment → Frames → List (Note FramedIdent) → List (Note FramedIdent) → Type 0
  NotesAre n e ns ms = NotesLike w e0 out begins others part n e ns ms

  -- places of notes
  abbrev Like : Moment → FramedIdent → FramedIdent → Type 0
  Like n l k = (bare_ident k ≡ bare_ident l) × Here w n.locals k.frames

  pub note_parts : (n : Moment) (x y : Note FramedIdent) → NoteLike (Like n) x y → NoteLike (λ (l k : FramedIdent). bare_ident k ≡ bare_ident l) x y × NoteAll (λ (l : FramedIdent). Here w n.locals l.frames) y
  note_parts n (LookedUp l h k) (LookedUp m i j) e = ((e.0.0, e.1, e.2), e.0.1)
  note_parts n (LookedUp l h k) (Compared m o i) e = absurd e
  note_parts n (Compared l m h) (LookedUp o i j) e = absurd e
  note_parts n (Compared l m h) (Compared o p i) e = ((e.0.0, e.1.0, e.2), (e.0.1, e.1.1))

  pub macro_fits : (n : Moment) → IsReady n → (o : Option (Transformer Frames Ident)) → IfMacro (λ (c : Transformer Frames Ident). Here w n.locals c.env) o → IfMacro (λ (c : Transformer Frames Ident). (g : Frames) × Fit w e0 out begins part n c.env g) o
  macro_fits n k None h = tt
  macro_fits n k (Some c) h = (c.env, (refl, (k, h)))

  -- what is made and found is the same
  pub same_good : (n m : Moment) → m.uses ≡ n.uses → m.locals ≡ n.locals → m.places ≡ n.places → m.macros ≡ n.macros → m.definitions ≡ n.definitions → Good w n → Good w m
  same_good n m a b c d e g =
      subst (Good w) (λ j. record m { uses = sym a j; locals = sym b j; places = sym c j; macros = sym d j; definitions = sym e j })
      (record { uses = g.uses; places = g.places; macros = g.macros; binders = g.binders })

  pub same_ready : (n m : Moment) → m.uses ≡ n.uses → m.locals ≡ n.locals → m.places ≡ n.places → m.macros ≡ n.macros → m.definitions ≡ n.definitions → m.table ≡ n.table → IsReady n → IsReady m
  same_ready n m a b c d e f h = (same_good n m a b c d e h.0, part.still n m f h.1)

  -- what the next definition binds
  pub next_same : (n : Moment) (s : ScopedState) → Leaves w n s → (b : Option Number) → bound_next s b ≡ bound_at w n b
  next_same n s l None = ap (λ (x : ScopedState). bound_next x None) l
  next_same n s l (Some b) = ap LocalNumber (next_locals w n s l)

  pub no_more : (n : Moment) → n.locals ≤ n.locals
  no_more n = omega arith

  pub one_more : (n : Moment) → n.locals ≤ suc n.locals
  one_more n = omega arith

  pub more_then : (a b c : ℕ) → a ≤ b → b ≤ c → a ≤ c
  more_then a b c x y = omega (arith, x, y)

  abbrev pub sides : Sides here there fits
  sides = record {
    same_so_far = λ s. Unit {0};
    later = λ s u. Later s.moment u.moment;
    near = Near w e0 out begins part;
    defines = part.defines;
    like = λ s. Like s.moment;
    bounds = λ e. Same w e0 out begins others part;
    notes = λ s. NotesAre s.moment;
    ruled = λ s m. part.ruled s.moment m;
    ruled_there = λ s m a. part.there s.moment m a;
    itself = λ s. (no_more s.moment, λ h. h);
    then_ = λ s t u a b. (more_then s.moment.locals t.moment.locals u.moment.locals a.0 b.0, λ h. b.1 (a.1 h));
    fits_later = λ s t a e f h. (h.0, (a.1 h.1.0, here_more w s.moment.locals t.moment.locals a.0 e h.1.1));
    notes_later = λ s t a e ns ms h. notes_after w e0 out begins others part s.moment t.moment a.0 e ns ms h;
    more_notes = λ s e ns ms h n m k. (let q = note_parts s.moment n m k in ((let a = note_bare n m q.0 in let d = h.0 in λ j. a j ∷ d j), (q.1, h.1)));
    placed = λ s e f h i. ((let d = h.0 in λ j. record { frames = d j; ident = i }), here_same w s.moment.locals e f h.0 h.1.1);
    answered = λ s t z qs a. all_answered w e0 out begins part s t z qs;
    ask_back = λ s qs a. tt;
    ask_later = λ s qs. (no_more s.moment, λ h. h);
    ask_near = λ s t z qs rs a. ask_near w e0 out begins part s t z qs rs a;
    ask_means = λ s qs e i. refl;
    ask_macro = λ s qs m. refl;
    ask_meant = λ t rs f i. refl;
    counts = λ s t z. counts_are w s.moment (state_of t) z.leaves w.known;
    spend_back = λ s n a. tt;
    spend_later = λ s n. (no_more s.moment, λ h. same_ready s.moment (here.spend n s).moment refl refl refl refl refl refl h);
    spend_near = λ s t z n. record { leaves = spent w s.moment (state_of t) z.leaves n; since = z.since; before = z.before; noted = z.noted; ruled = z.ruled; good = same_good s.moment (here.spend n s).moment refl refl refl refl refl z.good; holds = part.still s.moment (here.spend n s).moment refl z.holds };
    spend_means = λ s n e i. refl;
    spend_meant = λ t n f i. refl;
    meet_back = λ s x a. tt;
    meet_later = λ s x. (no_more s.moment, λ h. same_ready s.moment (here.meet x s).moment refl refl refl refl refl refl h);
    meet_near = λ s t z x. record { leaves = met_keyword w s.moment (state_of t) z.leaves x; since = z.since; before = z.before; noted = z.noted; ruled = z.ruled; good = same_good s.moment (here.meet x s).moment refl refl refl refl refl z.good; holds = part.still s.moment (here.meet x s).moment refl z.holds };
    meet_use_back = λ s u a. tt;
    meet_use_later = λ s u. (no_more s.moment, λ h. same_ready s.moment (here.meet_use u s).moment refl refl refl refl refl refl h);
    meet_use_near = λ s t z u. record { leaves = met_use w s.moment (state_of t) z.leaves u; since = z.since; before = z.before; noted = z.noted; ruled = z.ruled; good = same_good s.moment (here.meet_use u s).moment refl refl refl refl refl z.good; holds = part.still s.moment (here.meet_use u s).moment refl z.holds };
    next_use = λ s t z. next_uses w s.moment (state_of t) z.leaves;
    begin_back = λ s e a. tt;
    begin_later = λ s e f h. (no_more s.moment, λ k. (begun_good w s.moment k.0 e h.1.1, part.still s.moment (here.begin_use e s).moment refl k.1));
    begin_near = λ s t z e f h. record { leaves = begun w s.moment (state_of t) z.leaves e f h.0; since = z.since; before = z.before; noted = z.noted; ruled = z.ruled; good = begun_good w s.moment z.good e h.1.1; holds = part.still s.moment (here.begin_use e s).moment refl z.holds };
    next_local = λ s t z. next_locals w s.moment (state_of t) z.leaves;
    take_back = λ s a. tt;
    take_later = λ s. (one_more s.moment, λ k. (taken_good w s.moment k.0, part.still s.moment (here.take_local s).moment refl k.1));
    take_near = λ s t z. record { leaves = taken w s.moment (state_of t) z.leaves; since = z.since; before = z.before; noted = z.noted; ruled = z.ruled; good = taken_good w s.moment z.good; holds = part.still s.moment (here.take_local s).moment refl z.holds };
    some_bound = λ s e f h. (here.next_bound e s, refl);
    next_bound = λ s t z e f h. ap (bound_next (state_of t)) (body_same e f h.0) ∙ next_same s.moment (state_of t) z.leaves (body_around e);
    same_meant = λ e x y d i. ap (λ b. meaning_of b i) d;
    bind_back = λ s x e ts a. tt;
    bind_later = λ s x e f h ts. (one_more s.moment, λ k. (taken_good w s.moment k.0, part.still s.moment (here.bind x e ts s).state.moment refl k.1));
    bind_some = λ s x e f h ts. (
      Bind x (number_in w s.moment.locals) ∷ e,
      (refl, ((taken_good w s.moment h.1.0.0, part.still s.moment (here.bind x e ts s).state.moment refl h.1.0.1), (next_in_form w s.moment h.1.0.0, here_more w s.moment.locals (suc s.moment.locals) (one_more s.moment) e h.1.1))),
    );
    bind_near = λ s t z x e f h ts. (
      record { leaves = taken w s.moment (state_of t) z.leaves; since = z.since; before = z.before; noted = z.noted; ruled = z.ruled; good = taken_good w s.moment z.good; holds = part.still s.moment (here.bind x e ts s).state.moment refl z.holds },
      ((let k = next_locals w s.moment (state_of t) z.leaves in let d = h.0 in λ j. Bind x (k j) ∷ d j), ((taken_good w s.moment z.good, part.still s.moment (here.bind x e ts s).state.moment refl z.holds), (next_in_form w s.moment z.good, here_more w s.moment.locals (suc s.moment.locals) (one_more s.moment) e h.1.1))),
      refl,
    );
    macro = λ s e f h m. macro_fits s.moment h.1.0 (here.transformer s m) (macro_here w s.moment h.1.0.0 begins m);
    keep_back = λ s v r e a. tt;
    keep_later = λ s v r e f h. (no_more s.moment, λ k. (kept_good w s.moment k.0 (Local v) e h.1.1 r, part.still s.moment (here.keep v r e s).moment refl k.1));
    keep_near = λ s t z v r e f h. record { leaves = kept w s.moment (state_of t) z.leaves e f h.0 (Local v) r; since = z.since; before = z.before; noted = z.noted; ruled = z.ruled; good = kept_good w s.moment z.good (Local v) e h.1.1 r; holds = part.still s.moment (here.keep v r e s).moment refl z.holds };
    enter_back = λ s e ts a. tt;
    enter_later = λ s e f h ts. (no_more s.moment, λ k. same_ready s.moment (here.enter e ts s).state.moment refl refl refl refl refl refl k);
    enter_some = λ s e f h ts. (Enter (number_in w s.moment.bodies) (λ x. 0) ∷ e, (refl, (same_ready s.moment (here.enter e ts s).state.moment refl refl refl refl refl refl h.1.0, h.1.1)));
    enter_near = λ s t z e f h ts. (
      record { leaves = entered w s.moment (state_of t) z.leaves; since = z.since; before = z.before; noted = z.noted; ruled = z.ruled; good = same_good s.moment (here.enter e ts s).state.moment refl refl refl refl refl z.good; holds = part.still s.moment (here.enter e ts s).state.moment refl z.holds },
      ((let k = next_bodies w s.moment (state_of t) z.leaves in let d = h.0 in λ j. Enter (k j) (λ x. 0) ∷ d j), (same_ready s.moment (here.enter e ts s).state.moment refl refl refl refl refl refl (z.good, z.holds), h.1.1)),
      refl,
    );
    entered = λ s e f h ts. (refl, tt);
    inside = λ s e ts. part.inside (number_in w s.moment.bodies) e;
    inside_bounds = λ s e ts x y d. d;
    define_back = λ s x r e p a. tt;
    define_later = λ s e f c h x r p q l. after_ended w e0 out begins others part s.moment x r e c h.1.1 p (outcome w s.moment (body_around e) e x r p.notes);
    define_some = λ s e f c h x r p q l. made_some w e0 out begins others part s.moment x r e p q l (body_around e) (outcome w s.moment (body_around e) e x r p.notes);
    define_near = λ s t z e f c h x r p q l a. define_near w e0 out begins others part s.moment x r e p q l s.asked t z f h.0 h.1.1 c;
  }
