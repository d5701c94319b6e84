-- What holds of a form with its questions when it begins holds when it ends, where each step that asks, keeps a macro or defines leaves it so.
use Rattle.std.proofs.Common.{◌≡◌, ℕ, List, [], Option, Ok, refl, ap}
use Rattle.scheme_model.specs.Identifiers.{Number}
use Rattle.scheme_model.specs.Ident.{Ident}
use Rattle.scheme_model.specs.Trees.{Tree, Trees}
use Rattle.scheme_model.specs.ExpansionFaults.{Named}
use Rattle.scheme_model.specs.RulesShape.{Rules}
use Rattle.scheme_model.specs.Order.{Left, Pending, Asked}
use Rattle.scheme_model.specs.Expression.{expand, meaning_of}
use Rattle.scheme_model.specs.UnitExpansion.{max_depth, one_form}
use Rattle.scheme_model.specs.ScopedExpansion.{Frames, FramedIdent}
use Rattle.scheme_model.specs.Questions.{Around, Asking, asking}
use Rattle.scheme_model.specs.FormsAlike.{no_questions, set_aside_asking, finish_asking}
use Rattle.form_laws.proofs.Sides.{ItemLike, Sides}
use Rattle.form_laws.proofs.SideRuns.{both_itself, item_itself, run_runs}
use Rattle.form_laws.proofs.SideExpressions.{expand_goes, left_parts}
use Rattle.form_laws.proofs.Answering.{answering}
use Rattle.form_laws.proofs.AskingSides.{NoLocals, fits, sides}

-- `holds` reads of a state what is defined and kept, and the questions by then; `defines` holds of frames in which definitions are made
pub record Invariant (w : Around) : Type 1 where
  pub holds : Asking → Type 0
  pub defines : Frames → Type 0
  pub still : (s u : Asking) → u.moment.table ≡ s.moment.table → u.moment.macros ≡ s.moment.macros → u.asked ≡ s.asked → holds s → holds u
  pub asks : (s : Asking) (qs : List (Asked Frames Ident)) → holds s → holds ((asking w).ask qs s)
  pub keeps : (s : Asking) (v : Number) (r : Rules Ident) (fs : Frames) → holds s → holds ((asking w).keep v r fs s)
  pub makes : (s : Asking) (fs : Frames) → defines fs → (x : Named Ident) (r : Option (Rules Ident)) (p : Pending Ident FramedIdent) → holds s → holds ((asking w).define x r fs p s).1
  pub inside : (s : Asking) (fs : Frames) (ts : Trees Ident) → defines ((asking w).enter fs ts s).env

module _ (w : Around) (en : NoLocals w) (k : Invariant w) where
  abbrev runs : Sides (asking w) (answering w.state w.known) fits
  runs = let x = sides w w refl refl en en in record {
    same_so_far = x.same_so_far;
    later = λ s u. k.holds s → k.holds u;
    near = x.near;
    defines = k.defines;
    like = x.like;
    bounds = x.bounds;
    notes = x.notes;
    ruled = x.ruled;
    ruled_there = x.ruled_there;
    itself = λ s h. h;
    then_ = λ s t u a b h. b (a h);
    fits_later = λ s t a e f h. h;
    notes_later = λ s t a e ns ms d. d;
    more_notes = x.more_notes;
    placed = x.placed;
    answered = x.answered;
    ask_back = x.ask_back;
    ask_later = λ s qs h. k.asks s qs h;
    ask_near = x.ask_near;
    ask_means = x.ask_means;
    ask_macro = x.ask_macro;
    ask_meant = x.ask_meant;
    counts = x.counts;
    spend_back = x.spend_back;
    spend_later = λ s n h. k.still s ((asking w).spend n s) refl refl refl h;
    spend_near = x.spend_near;
    spend_means = x.spend_means;
    spend_meant = x.spend_meant;
    meet_back = x.meet_back;
    meet_later = λ s t h. k.still s ((asking w).meet t s) refl refl refl h;
    meet_near = x.meet_near;
    meet_use_back = x.meet_use_back;
    meet_use_later = λ s u h. k.still s ((asking w).meet_use u s) refl refl refl h;
    meet_use_near = x.meet_use_near;
    next_use = x.next_use;
    begin_back = x.begin_back;
    begin_later = λ s e f a h. k.still s ((asking w).begin_use e s) refl refl refl h;
    begin_near = x.begin_near;
    next_local = x.next_local;
    take_back = x.take_back;
    take_later = λ s h. k.still s ((asking w).take_local s) refl refl refl h;
    take_near = x.take_near;
    some_bound = x.some_bound;
    next_bound = x.next_bound;
    same_meant = x.same_meant;
    bind_back = x.bind_back;
    bind_later = λ s i e f a ts h. k.still s ((asking w).bind i e ts s).state refl refl refl h;
    bind_some = x.bind_some;
    bind_near = x.bind_near;
    macro = x.macro;
    keep_back = x.keep_back;
    keep_later = λ s v r e f a h. k.keeps s v r e h;
    keep_near = x.keep_near;
    enter_back = x.enter_back;
    enter_later = λ s e f a ts h. k.still s ((asking w).enter e ts s).state refl refl refl h;
    enter_some = x.enter_some;
    enter_near = x.enter_near;
    entered = x.entered;
    inside = λ s e ts. k.inside s e ts;
    inside_bounds = x.inside_bounds;
    define_back = x.define_back;
    define_later = λ s e f d a i r p q l h. k.makes s e d i r p h;
    define_some = λ s e f d a. x.define_some s e f tt a;
    define_near = λ s t h e f d a. x.define_near s t h e f tt a;
  }

  pub pass_holds : k.defines [] → (turns : ℕ) (t : Tree Ident) → k.holds (no_questions w) → k.holds (set_aside_asking w turns t).1
  pass_holds d turns t h =
      (run_runs (asking w) (answering w.state w.known) fits runs [] [] d turns (one_form t []) (one_form t w.notes) (no_questions w) refl (record { todo = refl; aside = tt; uses = refl; notes = refl })).after h

  pub left_holds : (turns : ℕ) (l : Left Ident) → k.holds (no_questions w) → k.holds (finish_asking w turns (Ok l)).1
  left_holds turns l h =
      (left_parts (asking w) (answering w.state w.known) fits runs (λ s m. tt) (expand (asking w) turns) (expand (answering w.state w.known) turns) (expand_goes (asking w) (answering w.state w.known) fits runs (λ s m. tt) turns) (λ x y. y ≡ x)
      (λ x y e i. ap (λ z. meaning_of z i) e) max_depth [] [] l l (refl, both_itself (ItemLike (λ x y. y ≡ x)) (item_itself (λ x y. y ≡ x) (λ x. refl)) l.items) (no_questions w) refl).after h
