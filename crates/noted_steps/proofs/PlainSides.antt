-- An expansion that notes what it asks, and the same without notes, as two sides.
use Rattle.std.proofs.Common.{◌≡◌, ℕ, List, [], ◌∷◌, Bool, true, false, cond, Option, Some, None, Result, Ok, Err, refl, sym, ap, ◌∙◌, subst}
use Rattle.std.specs.Prelude.{◌&&◌}
use Rattle.scheme_model.specs.Identifiers.{Number}
use Rattle.scheme_model.specs.Ident.{Ident}
use Rattle.scheme_model.specs.ExpansionFaults.{Named, Fault, KeywordRedefined, Duplicate}
use Rattle.scheme_model.specs.Meaning.{same_meaning, head_as}
use Rattle.scheme_model.specs.Requirements.{Known}
use Rattle.scheme_model.specs.RulesShape.{Rules}
use Rattle.scheme_model.specs.Cores.{Bound}
use Rattle.scheme_model.specs.Order.{Note, LookedUp, Compared, Pending, Renamed, Transformer, Asked, Meant, Headed, RulesOf, Alike, Assigns, Library, Ops, is_some, Item, run, Left}
use Rattle.scheme_model.specs.Expression.{meaning_of, expand, item_part}
use Rattle.scheme_model.specs.UnitExpansion.{max_depth}
use Rattle.scheme_model.specs.Substitution.{any, unchanged}
use Rattle.scheme_model.specs.ScopedExpansion.{Bind, Enter, Frames, FramedIdent, ScopedState, macro_at, body_around, definition_added, meaning_next, is_defined}
use Rattle.scheme_model.specs.ScopedExpansion as scoped
use Rattle.scheme_model.specs.CountedExpansion as counted
use Rattle.scheme_model.specs.Questions.{Outcome, Stands, Redefines, StoodBefore, outcome_by}
use Rattle.model_laws.proofs.FrameAsks.{AllOf}
use Rattle.model_laws.proofs.FrameHeads.{IfMacro}
use Rattle.form_laws.proofs.Sides.{Results, NoteLike, TransformerLike, PendingLike, RenamedLike, LeftLike, PartLike, Answer, Sides}
use Rattle.form_laws.proofs.SideRuns.{both_itself, item_itself, run_runs}
use Rattle.form_laws.proofs.SideExpressions.{part_equal, items_equal, item_goes, expand_goes}
use Rattle.unit_scopes.specs.Searched.{speaks_of, searched}
use Rattle.noted_steps.specs.Noting.{Noting, state_of, with_state, refused, outcome, ended, owned, define_by, define_noting, noting}

abbrev pub Fits : Noting → Frames → Frames → Type 0
Fits s e f = f ≡ e

pub note_same : (n m : Note FramedIdent) → NoteLike (λ (l k : FramedIdent). k ≡ l) n m → m ≡ n
note_same (LookedUp l h k) (LookedUp m i j) e = let a = e.0 in let b = e.1 in let c = e.2 in λ z. LookedUp (a z) (b z) (c z)
note_same (LookedUp l h k) (Compared m n i) e = absurd e
note_same (Compared l m h) (LookedUp n i j) e = absurd e
note_same (Compared l m h) (Compared n o i) e = let a = e.0 in let b = e.1 in let c = e.2 in λ z. Compared (a z) (b z) (c z)

macro_same : (x y : Option (Transformer Frames Ident)) → y ≡ x → TransformerLike (λ (e f : Frames). f ≡ e) x y
macro_same None y e = e
macro_same (Some m) y e = (m.env, refl, e)

pub macro_some : (x : Option (Transformer Frames Ident)) → IfMacro (λ (c : Transformer Frames Ident). (g : Frames) × (g ≡ c.env)) x
macro_some None = tt
macro_some (Some m) = (m.env, refl)

-- a definition, by whether it is refused and whether there is one
abbrev defined_if : (refused stood : Bool) → Option Number → Named Ident → Option (Rules Ident) → Frames → Pending Ident FramedIdent → ScopedState → Result (Renamed Ident FramedIdent) (Fault Ident) × ScopedState
defined_if a c b n r fs p s = cond a (Err (KeywordRedefined n), s) (cond c (Err (Duplicate n), s) (Ok (unchanged p), definition_added b n r fs s))

ended_state : (b : Option Number) (n : Named Ident) (r : Option (Rules Ident)) (fs : Frames) (ns : List (Note FramedIdent)) (o : Outcome) (s : Noting) → state_of (ended b n r fs ns o s) ≡ state_of s
ended_state None n r fs ns o s = refl
ended_state (Some b) n r fs ns o s = refl

owned_state : (b : Option Number) (n : Named Ident) (k : Bool) (s : Noting) → state_of (owned b n k s) ≡ state_of s
owned_state None n k s = refl
owned_state (Some b) n k s = refl

-- whether notes stand, the editions that they are told by, and what notes there were before them, are as they were
abbrev pub Kept : Noting → Noting → Type 0
Kept s u = (u.exact ≡ s.exact) × (u.since.editions ≡ s.since.editions) × (u.before ≡ s.before) × (u.anew ≡ s.anew)

ended_kept : (b : Option Number) (n : Named Ident) (r : Option (Rules Ident)) (fs : Frames) (ns : List (Note FramedIdent)) (o : Outcome) (s : Noting) → Kept s (ended b n r fs ns o s)
ended_kept None n r fs ns o s = (refl, refl, refl, refl)
ended_kept (Some b) n r fs ns o s = (refl, refl, refl, refl)

owned_kept : (b : Option Number) (n : Named Ident) (k : Bool) (s : Noting) → Kept s (owned b n k s)
owned_kept None n k s = (refl, refl, refl, refl)
owned_kept (Some b) n k s = (refl, refl, refl, refl)

by_kept : (b : Option Number) (n : Named Ident) (r : Option (Rules Ident)) (fs : Frames) (p : Pending Ident FramedIdent) (o : Outcome) (s : Noting) → Kept s (define_by o b n r fs p s).1
by_kept b n r fs p Redefines s = (refl, refl, refl, refl)
by_kept b n r fs p StoodBefore s = (refl, refl, refl, refl)
by_kept b n r fs p Stands s = owned_kept b n (is_some r) (with_state s (definition_added b n r fs (state_of s)))

pub define_kept : (b : Option Number) (n : Named Ident) (r : Option (Rules Ident)) (fs : Frames) (p : Pending Ident FramedIdent) (s : Noting) → Kept s (define_noting b n r fs p s).1
define_kept b n r fs p s =
    let o = outcome b n r fs p s in
    let u = ended b n r fs p.notes o s in
    let x = ended_kept b n r fs p.notes o s in
    let y = by_kept b n r fs p o u in
    (y.0 ∙ x.0, y.1 ∙ x.1, y.2 ∙ x.2, y.3 ∙ x.3)

abbrev pub Same : Bound → Bound → Type 0
Same x y = y ≡ x

abbrev pub SameNotes : List (Note FramedIdent) → List (Note FramedIdent) → Type 0
SameNotes ns ms = ms ≡ ns

module _ (b : Option Number) (n : Named Ident) (r : Option (Rules Ident)) (fs : Frames) (p q : Pending Ident FramedIdent) (l : PendingLike Same SameNotes p q) where
  pub some_by : (o : Outcome) (s : Noting) → (y : Result (Renamed Ident FramedIdent) (Fault Ident)) × Results (RenamedLike Same SameNotes) (define_by o b n r fs p s).0 y
  some_by Redefines s = (Err (KeywordRedefined n), refl)
  some_by StoodBefore s = (Err (Duplicate n), refl)
  some_by Stands s = (Ok (unchanged q), (l, refl))

  near_by : (a c : Bool) (s : Noting) (t : ScopedState) → t ≡ state_of s → let d = define_by (outcome_by a c) b n r fs p s in let e = defined_if a c b n r fs q t in
      Results (RenamedLike Same SameNotes) d.0 e.0 × (e.1 ≡ state_of d.1)
  near_by true c s t h = (refl, h)
  near_by false true s t h = (refl, h)
  near_by false false s t h = ((l, refl), ap (definition_added b n r fs) h ∙ sym (owned_state b n (is_some r) (with_state s (definition_added b n r fs (state_of s)))))

module _ (known : Known) where
  abbrev pub here : Ops Frames Ident FramedIdent Noting
  here = noting known

  abbrev pub there : Ops Frames Ident FramedIdent ScopedState
  there = searched known

  answered : (s : Noting) (t : ScopedState) → t ≡ state_of s → (q : Asked Frames Ident) → Answer here there Fits s t q
  answered s t h (Meant e i) = λ f d. (λ j. counted.means_here (h j) (d j) i)
  answered s t h (Headed e i) = λ f d. ((λ j. counted.means_here (h j) (d j) i), (λ j. let z : ScopedState = h j in head_as (λ m. is_some (macro_at z.macros m)) (counted.means_here z (d j) i)))
  answered s t h (RulesOf m) = macro_same (macro_at s.macros m) (macro_at t.macros m) (ap (λ (z : ScopedState). macro_at z.macros m) h)
  answered s t h (Alike d l e i) = λ g f a b. (λ j. same_meaning (counted.means_here (h j) (a j) l) (counted.means_here (h j) (b j) i))
  answered s t h (Assigns e i) = λ f d. (λ j. scoped.assigned (h j) (body_around (d j)) i)
  answered s t h (Library n) = refl

  pub all_answered : (s : Noting) (t : ScopedState) → t ≡ state_of s → (qs : List (Asked Frames Ident)) → AllOf (Answer here there Fits s t) qs
  all_answered s t h [] = tt
  all_answered s t h (q ∷ qs) = (answered s t h q, all_answered s t h qs)

  pub defined_near : (s : Noting) (t : ScopedState) → t ≡ state_of s → (e f : Frames) → f ≡ e → (n : Named Ident) (r : Option (Rules Ident)) (p q : Pending Ident FramedIdent) → PendingLike Same SameNotes p q
      → let d = define_noting (body_around e) n r e p s in let y = there.define n r f q t in Results (RenamedLike Same SameNotes) d.0 y.0 × (y.1 ≡ state_of d.1)
  defined_near s t h e f d n r p q l =
      let b = body_around e in
      let a = refused b n r e p s in
      let c = is_defined (state_of s) b n.name in
      let notes = l.notes in
      let same : there.define n r f q t ≡ defined_if a c b n r e q (state_of s) =
      (λ j. let z : ScopedState = h j in let g : Frames = d j in let k = body_around g in
      defined_if (any (λ note. speaks_of n.name note && counted.refused_here (definition_added k n r g z) (meaning_next z k n.name) (is_some r) note) (notes j)) (is_defined z k n.name) k n r g q z) in
      let o = outcome_by a c in
      let u = ended b n r e p.notes o s in
      let x = define_by o b n r e p u in
      subst (λ (y : Result (Renamed Ident FramedIdent) (Fault Ident) × ScopedState). Results (RenamedLike Same SameNotes) x.0 y.0 × (y.1 ≡ state_of x.1)) (sym same)
      (near_by b n r e p q l a c u (state_of s) (sym (ended_state b n r e p.notes o s)))

  abbrev pub sides : Sides here there Fits
  sides = record {
    same_so_far = λ s. Unit {0};
    later = Kept;
    near = λ s t. t ≡ state_of s;
    defines = λ fs. Unit {0};
    like = λ s l k. k ≡ l;
    bounds = λ fs. Same;
    notes = λ s fs. SameNotes;
    ruled = λ s m. Unit {0};
    ruled_there = λ s m a. tt;
    itself = λ s. (refl, refl, refl, refl);
    then_ = λ s t u a b. (b.0 ∙ a.0, b.1 ∙ a.1, b.2 ∙ a.2, b.3 ∙ a.3);
    fits_later = λ s t a e f d. d;
    notes_later = λ s t a e ns ms d. d;
    more_notes = λ s e ns ms d n m h. (let a = note_same n m h in λ j. a j ∷ d j);
    placed = λ s e f d i. (λ j. record { frames = d j; ident = i });
    answered = λ s t h qs a. all_answered s t h qs;
    ask_back = λ s qs a. tt;
    ask_later = λ s qs. (refl, refl, refl, refl);
    ask_near = λ s t h qs rs a. h;
    ask_means = λ s qs e i. refl;
    ask_macro = λ s qs m. refl;
    ask_meant = λ t rs f i. refl;
    counts = λ s t h. ap (λ z. there.counted z) h;
    spend_back = λ s n a. tt;
    spend_later = λ s n. (refl, refl, refl, refl);
    spend_near = λ s t h n. ap (λ z. there.spend n z) h;
    spend_means = λ s n e i. refl;
    spend_meant = λ t n f i. refl;
    meet_back = λ s x a. tt;
    meet_later = λ s x. (refl, refl, refl, refl);
    meet_near = λ s t h x. ap (λ z. there.meet x z) h;
    meet_use_back = λ s u a. tt;
    meet_use_later = λ s u. (refl, refl, refl, refl);
    meet_use_near = λ s t h u. ap (λ z. there.meet_use u z) h;
    next_use = λ s t h. ap (λ z. there.next_use z) h;
    begin_back = λ s e a. tt;
    begin_later = λ s e f d. (refl, refl, refl, refl);
    begin_near = λ s t h e f d. (λ j. there.begin_use (d j) (h j));
    next_local = λ s t h. ap (λ z. there.next_local z) h;
    take_back = λ s a. tt;
    take_later = λ s. (refl, refl, refl, refl);
    take_near = λ s t h. ap (λ z. there.take_local z) h;
    some_bound = λ s e f d. (here.next_bound e s, refl);
    next_bound = λ s t h e f d. (λ j. there.next_bound (d j) (h j));
    same_meant = λ e x y d i. ap (λ z. meaning_of z i) d;
    bind_back = λ s x e ts a. tt;
    bind_later = λ s x e f d ts. (refl, refl, refl, refl);
    bind_some = λ s x e f d ts. (Bind x (here.next_local s) ∷ e, refl);
    bind_near = λ s t h x e f d ts. (ap (λ z. there.take_local z) h, (λ j. Bind x (there.next_local (h j)) ∷ d j), refl);
    macro = λ s e f d m. macro_some (macro_at s.macros m);
    keep_back = λ s v r e a. tt;
    keep_later = λ s v r e f d. (refl, refl, refl, refl);
    keep_near = λ s t h v r e f d. (λ j. there.keep v r (d j) (h j));
    enter_back = λ s e ts a. tt;
    enter_later = λ s e f d ts. (refl, refl, refl, refl);
    enter_some = λ s e f d ts. ((here.enter e ts s).env, refl);
    enter_near = λ s t h e f d ts. ((λ j. (there.enter (d j) ts (h j)).state), (λ j. (there.enter (d j) ts (h j)).env), refl);
    entered = λ s e f d ts. refl;
    inside = λ s e ts. tt;
    inside_bounds = λ s e ts x y d. d;
    define_back = λ s n r e p a. tt;
    define_later = λ s e f d h n r p q l. define_kept (body_around e) n r e p s;
    define_some = λ s e f d h n r p q l. some_by (body_around e) n r e p q l (outcome (body_around e) n r e p s) (ended (body_around e) n r e p.notes (outcome (body_around e) n r e p s) s);
    define_near = λ s t h e f d g n r p q l a. defined_near s t h e f g n r p q l;
  }

-- ---- results

result_same : {V W : Type 0} (G : V → V → Type 0) → ((x y : V) → G x y → y ≡ x) → (r q : Result V W) → Results G r q → q ≡ r
result_same G e (Ok x) (Ok y) h = ap (λ z. Ok z) (e x y h)
result_same G e (Ok x) (Err y) h = absurd h
result_same G e (Err x) (Ok y) h = absurd h
result_same G e (Err x) (Err y) h = ap (λ z. Err z) h

left_same : (l m : Left Ident) → LeftLike Same l m → m ≡ l
left_same l m h = let a = h.0 in let b = items_equal Same (λ x y e. e) l.items m.items h.1 in λ j. record { uses = a j; items = b j }

module _ (known : Known) (turns : ℕ) where
  pub run_same : (p : Pending Ident FramedIdent) (s : Noting) → let q = run (noting known) turns [] p s in run (searched known) turns [] p (state_of s) ≡ (q.0, state_of q.1)
  run_same p s =
      let q = run (noting known) turns [] p s in
      let y = run (searched known) turns [] p (state_of s) in
      let law = run_runs (noting known) (searched known) Fits (sides known) [] [] tt turns p p s refl (record { todo = refl; aside = both_itself _ (item_itself Same (λ x. refl)) p.aside; uses = refl; notes = refl }) in
      let x = law.same (state_of s) refl tt in
      let a = result_same (LeftLike Same) left_same q.0.left y.0.left x.0.left in
      let b = x.0.notes in
      let c = x.1 in
      λ j. (record { notes = b j; left = a j }, c j)

  pub item_same : (i : Item Ident) (s : Noting) → let q = item_part (expand (noting known) turns) (noting known) max_depth [] i s in
      item_part (expand (searched known) turns) (searched known) max_depth [] i (state_of s) ≡ (q.0, state_of q.1)
  item_same i s =
      let f = expand (noting known) turns in
      let g = expand (searched known) turns in
      let q = item_part f (noting known) max_depth [] i s in
      let y = item_part g (searched known) max_depth [] i (state_of s) in
      let law = item_goes (noting known) (searched known) Fits (sides known) (λ s m. tt) f g (expand_goes (noting known) (searched known) Fits (sides known) (λ s m. tt) turns) Same (λ x y e k. ap (λ z. meaning_of z k) e) max_depth [] [] i i (item_itself Same (λ x. refl) i) s refl in
      let x = law.same (state_of s) refl tt in
      let a = result_same (PartLike Same) (part_equal Same (λ x y e. e)) q.0 y.0 x.0 in
      let c = x.1 in
      λ j. (a j, c j)

  -- a run leaves whether notes stand, and by which editions
  pub run_kept : (p : Pending Ident FramedIdent) (s : Noting) → Kept s (run (noting known) turns [] p s).1
  run_kept p s =
      let law = run_runs (noting known) (searched known) Fits (sides known) [] [] tt turns p p s refl (record { todo = refl; aside = both_itself _ (item_itself Same (λ x. refl)) p.aside; uses = refl; notes = refl }) in
      law.after

  pub run_exact : (p : Pending Ident FramedIdent) (s : Noting) → (run (noting known) turns [] p s).1.exact ≡ s.exact
  run_exact p s = let kept = run_kept p s in kept.0

  pub run_start : (p : Pending Ident FramedIdent) (s : Noting) → let t = (run (noting known) turns [] p s).1 in (t.before ≡ s.before) × (t.anew ≡ s.anew)
  run_start p s = let kept = run_kept p s in (kept.2, kept.3)

  pub run_editions : (p : Pending Ident FramedIdent) (s : Noting) → (run (noting known) turns [] p s).1.since.editions ≡ s.since.editions
  run_editions p s = let kept = run_kept p s in kept.1

  pub item_kept : (i : Item Ident) (s : Noting) → Kept s (item_part (expand (noting known) turns) (noting known) max_depth [] i s).1
  item_kept i s =
      let law = item_goes (noting known) (searched known) Fits (sides known) (λ s m. tt) (expand (noting known) turns) (expand (searched known) turns) (expand_goes (noting known) (searched known) Fits (sides known) (λ s m. tt) turns) Same (λ x y e k. ap (λ z. meaning_of z k) e) max_depth [] [] i i (item_itself Same (λ x. refl) i) s refl in
      law.after

  pub item_exact : (i : Item Ident) (s : Noting) → (item_part (expand (noting known) turns) (noting known) max_depth [] i s).1.exact ≡ s.exact
  item_exact i s = let kept = item_kept i s in kept.0

  pub item_editions : (i : Item Ident) (s : Noting) → (item_part (expand (noting known) turns) (noting known) max_depth [] i s).1.since.editions ≡ s.since.editions
  item_editions i s = let kept = item_kept i s in kept.1
