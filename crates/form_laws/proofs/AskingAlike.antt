-- A form with its questions, and the same form with its questions in other surroundings, as two sides: as long as these have the same
-- answers, it asks the same.
use Rattle.std.proofs.Common.{◌≡◌, ℕ, suc, List, [], ◌∷◌, ◌++◌, Bool, true, false, cond, Option, Some, None, Result, Ok, Err, refl, sym, ap, ◌∙◌, subst}
use Rattle.scheme_model.specs.Identifiers.{Number}
use Rattle.scheme_model.specs.Ident.{Ident}
use Rattle.scheme_model.specs.Trees.{Tree}
use Rattle.scheme_model.specs.ExpansionFaults.{Named, Fault, KeywordRedefined, Duplicate}
use Rattle.scheme_model.specs.Meaning.{Meaning, Local, Global, Standard, Free, same_meaning, head_as}
use Rattle.scheme_model.specs.RulesShape.{Rules, option_map}
use Rattle.scheme_model.specs.Cores.{Bound, LocalNumber}
use Rattle.scheme_model.specs.Order.{Note, LookedUp, Compared, Left, Pending, Renamed, Transformer, Asked, Meant, Headed, RulesOf, Alike, Assigns, Library, Ops, is_some, head_of}
use Rattle.scheme_model.specs.Expression.{meaning_of, expand}
use Rattle.scheme_model.specs.UnitExpansion.{max_depth, one_form}
use Rattle.scheme_model.specs.Substitution.{unchanged}
use Rattle.scheme_model.specs.ScopedExpansion.{Bind, Enter, Frames, FramedIdent, ScopedMacro, ScopedState, macro_at, body_around}
use Rattle.scheme_model.specs.OwnAnswers.{own_means, own_macro}
use Rattle.scheme_model.specs.Questions.{Moment, Around, at_moment, own_at, number_in, Outcome, Stands, Redefines, StoodBefore, outcome, Question, Defines, bare_macro, SameAnswer, unless_local, in_unit, left_to_ask, dated, all_left, Asking, bound_at, ended, beside, moved, asking}
use Rattle.scheme_model.specs.FormsAlike.{bound_moved, left_with, no_questions, set_aside_asking, finish_asking, questions_of_pass, questions_of_left, again}
use Rattle.model_laws.proofs.FrameAsks.{AllOf}
use Rattle.model_laws.proofs.FrameHeads.{IfMacro}
use Rattle.form_laws.specs.Begins.{Each, IsNoLocal, MacroStands, Begins, SameForm}
use Rattle.form_laws.proofs.Sides.{Both, Results, NoteLike, TransformerLike, PendingLike, RenamedLike, AskedLike, Answer, Sides}
use Rattle.form_laws.proofs.SideRuns.{run_runs}
use Rattle.form_laws.proofs.SideExpressions.{expand_goes, left_parts}
use Rattle.form_laws.proofs.Leaving.{next_definition}
use Rattle.form_laws.proofs.AskingSides.{all_parted, head_same, NoLocals, number_moved, found_moved, means_alike, keyword_alike, rules_alike, both_alike, assigned_alike, known_alike, ends_alike, BindsIn, Binds, some_binds, meant_same}
use Rattle.form_laws.proofs.FormLaws.{each_all, no_locals, Moved, items_moved, moved_meant}

-- ---- what both ask

abbrev Fits : Asking → Frames → Frames → Type 0
Fits s e f = f ≡ e

ask_same : (q r : Asked Frames Ident) → AskedLike (λ m. Unit {0}) (λ (e f : Frames). f ≡ e) q r → r ≡ q
ask_same (Meant e i) r l = let d = l.1 in l.2 ∙ (λ j. Meant (d j) i)
ask_same (Headed e i) r l = let d = l.1 in l.2 ∙ (λ j. Headed (d j) i)
ask_same (RulesOf m) r l = l.1
ask_same (Alike c i e k) r l = let a = l.2 in let b = l.3 in l.4 ∙ (λ j. Alike (a j) i (b j) k)
ask_same (Assigns e i) r l = let d = l.1 in l.2 ∙ (λ j. Assigns (d j) i)
ask_same (Library n) r l = l

asks_same : (qs rs : List (Asked Frames Ident)) → Both (AskedLike (λ m. Unit {0}) (λ (e f : Frames). f ≡ e)) qs rs → rs ≡ qs
asks_same [] [] l = refl
asks_same [] (r ∷ rs) l = absurd l
asks_same (q ∷ qs) [] l = absurd l
asks_same (q ∷ qs) (r ∷ rs) l = let a = ask_same q r l.0 in let b = asks_same qs rs l.1 in λ j. a j ∷ b j

note_same : (n m : Note FramedIdent) → NoteLike (λ (l k : FramedIdent). k ≡ l) n m → m ≡ n
note_same (LookedUp l h k) (LookedUp m i j) e = let a = e.0 in let b = e.1 in let c = e.2 in λ z. LookedUp (a z) (b z) (c z)
note_same (LookedUp l h k) (Compared m n i) e = absurd e
note_same (Compared l m h) (LookedUp n i j) e = absurd e
note_same (Compared l m h) (Compared n o i) e = let a = e.0 in let b = e.1 in let c = e.2 in λ z. Compared (a z) (b z) (c z)

-- ---- macros

macro_itself : (o o2 : Option (Transformer Frames Ident)) → o2 ≡ o → TransformerLike (λ (e f : Frames). f ≡ e) o o2
macro_itself None o2 e = e
macro_itself (Some m) o2 e = (m.env, refl, e)

macro_some : (o : Option (Transformer Frames Ident)) → IfMacro (λ (c : Transformer Frames Ident). (g : Frames) × (g ≡ c.env)) o
macro_some None = tt
macro_some (Some m) = (m.env, refl)

-- one that isn't local stands outside all frames
abbrev Outside : Option (Transformer Frames Ident) → Type 0
Outside o = IfMacro (λ (c : Transformer Frames Ident). c.env ≡ []) o

stands_outside : (s : ScopedState) (n m : Meaning) (k : ScopedMacro) → IsNoLocal m → same_meaning n m ≡ true → MacroStands s n k → k.frames ≡ []
stands_outside s (Local v) (Local z) k l e a = absurd l
stands_outside s (Local v) (Global u i) k l e a = let q : false ≡ true = e in absurd cc
stands_outside s (Local v) (Standard x) k l e a = let q : false ≡ true = e in absurd cc
stands_outside s (Local v) (Free x) k l e a = let q : false ≡ true = e in absurd cc
stands_outside s (Global u i) m k l e a = a.0
stands_outside s (Standard x) m k l e a = a.0
stands_outside s (Free x) m k l e a = a.0

macro_outside : (s : ScopedState) (ks : List ScopedMacro) → Each (λ (k : ScopedMacro). MacroStands s k.meaning k) ks → (m : Meaning) → IsNoLocal m → Outside (macro_at ks m)
macro_outside s [] h m l = tt
macro_outside s (k ∷ ks) h m l = go (same_meaning k.meaning m) refl (macro_outside s ks h.1 m l)
  where
    go : (b : Bool) → same_meaning k.meaning m ≡ b → Outside (macro_at ks m) → Outside (cond b (Some (record { env = k.frames; rules = k.rules })) (macro_at ks m))
    go true e r = stands_outside s k.meaning m k l e h.0
    go false e r = r

abbrev rules_or : Rules Ident → Option (Transformer Frames Ident) → Rules Ident
rules_or r None = r
rules_or r (Some m) = m.rules

outside_same : (o o2 : Option (Transformer Frames Ident)) → Outside o → Outside o2 → option_map bare_macro o2 ≡ option_map bare_macro o → o2 ≡ o
outside_same None None a b e = refl
outside_same None (Some m) a b e = let q : Some (bare_macro m) ≡ None = e in absurd cc
outside_same (Some m) None a b e = let q : None ≡ Some (bare_macro m) = e in absurd cc
outside_same (Some m) (Some n) a b e = let x = b ∙ sym a in let y : n.rules ≡ m.rules = ap (rules_or m.rules) e in λ j. Some (record { env = x j; rules = y j })

-- behind the same macros
behind_same : (ks ls ms : List ScopedMacro) (m : Meaning) → Outside (macro_at ls m) → Outside (macro_at ms m) → option_map bare_macro (macro_at (ks ++ ms) m) ≡ option_map bare_macro (macro_at (ks ++ ls) m) → macro_at (ks ++ ms) m ≡ macro_at (ks ++ ls) m
behind_same [] ls ms m a b e = outside_same (macro_at ls m) (macro_at ms m) a b e
behind_same (k ∷ ks) ls ms m a b e = go (same_meaning k.meaning m) (behind_same ks ls ms m a b) e
  where
    go : (t : Bool) → (option_map bare_macro (macro_at (ks ++ ms) m) ≡ option_map bare_macro (macro_at (ks ++ ls) m) → macro_at (ks ++ ms) m ≡ macro_at (ks ++ ls) m)
        → option_map bare_macro (cond t (Some (record { env = k.frames; rules = k.rules })) (macro_at (ks ++ ms) m)) ≡ option_map bare_macro (cond t (Some (record { env = k.frames; rules = k.rules })) (macro_at (ks ++ ls) m))
        → cond t (Some (record { env = k.frames; rules = k.rules })) (macro_at (ks ++ ms) m) ≡ cond t (Some (record { env = k.frames; rules = k.rules })) (macro_at (ks ++ ls) m)
    go true h d = refl
    go false h d = h d

-- ---- the two sides

module _ (w v : Around) (same : SameForm w v) (bw : Begins w.state) (bv : Begins v.state) where
  abbrev here : Ops Frames Ident FramedIdent Asking
  here = asking w

  abbrev there : Ops Frames Ident FramedIdent Asking
  there = asking v

  abbrev nw : NoLocals w
  nw = no_locals w bw

  abbrev nv : NoLocals v
  nv = no_locals v bv

  abbrev Same : List (Moment × Question) → Type 0
  Same qs = AllOf (SameAnswer w v) qs

  moved_number : (n : ℕ) → number_in v n ≡ number_in w n
  moved_number n = number_moved w v same.unit same.form nw nv n

  macro_same : (n : Moment) (m : Meaning) → Same (dated n (unless_local m)) → own_macro (own_at n) (at_moment v n) m ≡ own_macro (own_at n) (at_moment w n) m
  macro_same n (Local k) a = refl
  macro_same n (Global u i) a =
      behind_same n.macros w.state.macros v.state.macros (Global u i) (macro_outside w.state w.state.macros bw.macros (Global u i) tt) (macro_outside v.state v.state.macros bv.macros (Global u i) tt)
      (rules_alike w v same.unit same.form nw nv n (Global u i) a)
  macro_same n (Standard x) a =
      behind_same n.macros w.state.macros v.state.macros (Standard x) (macro_outside w.state w.state.macros bw.macros (Standard x) tt) (macro_outside v.state v.state.macros bv.macros (Standard x) tt)
      (rules_alike w v same.unit same.form nw nv n (Standard x) a)
  macro_same n (Free x) a =
      behind_same n.macros w.state.macros v.state.macros (Free x) (macro_outside w.state w.state.macros bw.macros (Free x) tt) (macro_outside v.state v.state.macros bv.macros (Free x) tt)
      (rules_alike w v same.unit same.form nw nv n (Free x) a)

  answered : (s t : Asking) → t ≡ s → (q : Asked Frames Ident) → Same (dated s.moment (left_to_ask s.moment q)) → Answer here there Fits s t q
  answered s t h (Meant e i) a = λ f d. (λ j. there.means (d j) (h j) i) ∙ means_alike w v same.unit same.form nw nv s.moment e i a
  answered s t h (Headed e i) a = λ f d.
      let n = s.moment in
      let p = means_alike w v same.unit same.form nw nv n e i a in (
        (λ j. there.means (d j) (h j) i) ∙ p,
        (λ j. head_of there (d j) (h j) i)
            ∙ (ap (head_as (λ m. is_some (own_macro (own_at n) (at_moment v n) m))) p
            ∙ head_same (λ m. is_some (own_macro (own_at n) (at_moment v n) m)) (λ m. is_some (own_macro (own_at n) (at_moment w n) m)) (own_means (own_at n) (at_moment w n) e i) (keyword_alike w v same.unit same.form nw nv n e i a)),
      )
  answered s t h (RulesOf m) a = macro_itself (here.transformer s m) (there.transformer t m) (ap (λ z. there.transformer z m) h ∙ macro_same s.moment m a)
  answered s t h (Alike c l e i) a = λ g f x y. (λ j. same_meaning (there.means (x j) (h j) l) (there.means (y j) (h j) i)) ∙ both_alike w v same.unit same.form nw nv s.moment c l e i a
  answered s t h (Assigns e i) a = λ f d. (λ j. there.is_assigned (d j) (h j) i) ∙ assigned_alike w v same.unit same.form nw nv s.moment (body_around e) i a
  answered s t h (Library l) a = known_alike w v same.unit same.form nw nv s.moment l a

  all_answered : (s t : Asking) → t ≡ s → (qs : List (Asked Frames Ident)) → Same (all_left s.moment qs) → AllOf (Answer here there Fits s t) qs
  all_answered s t h [] a = tt
  all_answered s t h (q ∷ qs) a = let z = all_parted (SameAnswer w v) (dated s.moment (left_to_ask s.moment q)) (all_left s.moment qs) a in (answered s t h q z.0, all_answered s t h qs z.1)

  -- ---- definitions

  abbrev BindsHere : Frames → Bound → Bound → Type 0
  BindsHere e = Binds w v same.unit same.form nw nv e

  next_binds : (n : Moment) (b : Option Number) → BindsIn w v same.unit same.form nw nv b (bound_at w n b) (bound_at v n b)
  next_binds n None = next_definition v n (again v n) refl w same.unit
  next_binds n (Some b) = ap LocalNumber (moved_number n.locals)

  abbrev SameNotes : List (Note FramedIdent) → List (Note FramedIdent) → Type 0
  SameNotes ns ms = ms ≡ ns

  module _ (e : Frames) (x : Named Ident) (r : Option (Rules Ident)) (p q : Pending Ident FramedIdent) (l : PendingLike (BindsHere e) SameNotes p q) (n : Moment) (b : Option Number) where
    made_some : (o : Outcome) → (y : Result (Renamed Ident FramedIdent) (Fault Ident)) × Results (RenamedLike (BindsHere e) SameNotes) (ended o w b x r e p n).0 y
    made_some Redefines = (Err (KeywordRedefined x), refl)
    made_some StoodBefore = (Err (Duplicate x), refl)
    made_some Stands = (Ok (unchanged q), (l, refl))

    made_there : (o : Outcome) → Results (RenamedLike (BindsHere e) SameNotes) (ended o w b x r e p n).0 (ended o v b x r e q n).0 × ((ended o v b x r e q n).1 ≡ (ended o w b x r e p n).1)
    made_there Redefines = (refl, refl)
    made_there StoodBefore = (refl, refl)
    made_there Stands = ((l, refl), found_moved w v same.unit same.form nw nv n b x r e)

  module _ (s : Asking) (e : Frames) (x : Named Ident) (r : Option (Rules Ident)) (p q : Pending Ident FramedIdent) (l : PendingLike (BindsHere e) SameNotes p q) where
    abbrev asked_by : List (Note FramedIdent) → List (Moment × Question)
    asked_by ns = dated s.moment (in_unit (body_around e) (Defines e x r ns)) ++ s.asked

    defined_there : (t : Asking) → t ≡ s → (f : Frames) → f ≡ e → Same (asked_by p.notes)
        → Results (RenamedLike (BindsHere e) SameNotes) (here.define x r e p s).0 (there.define x r f q t).0 × ((there.define x r f q t).1 ≡ (here.define x r e p s).1)
    defined_there t h f d a =
        let n = s.moment in let b = body_around e in
        let o = outcome w n b e x r p.notes in
        let c = (all_parted (SameAnswer w v) (dated n (in_unit b (Defines e x r p.notes))) s.asked a).0 in
        let y : there.define x r f q t ≡ beside (asked_by p.notes) (ended o v b x r e q n) =
        (λ j. there.define x r (d j) q (h j))
        ∙ (ap (λ ns. beside (asked_by ns) (ended (outcome v n b e x r ns) v b x r e q n)) l.notes
        ∙ ap (λ z. beside (asked_by p.notes) (ended z v b x r e q n)) (ends_alike w v same.unit same.form nw nv n b e x r p.notes c)) in
        let m = made_there e x r p q l n b o in
        subst (λ (z : Result (Renamed Ident FramedIdent) (Fault Ident) × Asking). Results (RenamedLike (BindsHere e) SameNotes) (ended o w b x r e p n).0 z.0 × (z.1 ≡ (here.define x r e p s).1)) (sym y)
        (m.0, ap (λ (k : Moment). record { moment = k; asked = asked_by p.notes }) m.1)

  abbrev sides : Sides here there Fits
  sides = record {
    same_so_far = λ s. Same s.asked;
    later = λ s u. Unit {0};
    near = λ s t. t ≡ s;
    defines = λ e. Unit {0};
    like = λ s l k. k ≡ l;
    bounds = BindsHere;
    notes = λ s e. SameNotes;
    ruled = λ s m. Unit {0};
    ruled_there = λ s m a. tt;
    itself = λ s. tt;
    then_ = λ s t u a b. tt;
    fits_later = λ s t a e f d. d;
    notes_later = λ s t a e ns ms d. d;
    more_notes = λ s e ns ms d n m k. (let a = note_same n m k in λ j. a j ∷ d j);
    placed = λ s e f d i. (λ j. record { frames = d j; ident = i });
    answered = λ s t h qs a. all_answered s t h qs (all_parted (SameAnswer w v) (all_left s.moment qs) s.asked a).0;
    ask_back = λ s qs a. (all_parted (SameAnswer w v) (all_left s.moment qs) s.asked a).1;
    ask_later = λ s qs. tt;
    ask_near = λ s t h qs rs a. (let d = asks_same qs rs a in λ j. there.ask (d j) (h j));
    ask_means = λ s qs e i. refl;
    ask_macro = λ s qs m. refl;
    ask_meant = λ t rs f i. refl;
    counts = λ s t h. ap there.counted h;
    spend_back = λ s n a. a;
    spend_later = λ s n. tt;
    spend_near = λ s t h n. ap (there.spend n) h;
    spend_means = λ s n e i. refl;
    spend_meant = λ t n f i. refl;
    meet_back = λ s x a. a;
    meet_later = λ s x. tt;
    meet_near = λ s t h x. ap (there.meet x) h;
    meet_use_back = λ s u a. a;
    meet_use_later = λ s u. tt;
    meet_use_near = λ s t h u. ap (there.meet_use u) h;
    next_use = λ s t h. ap there.next_use h ∙ moved_number s.moment.uses;
    begin_back = λ s e a. a;
    begin_later = λ s e f d. tt;
    begin_near = λ s t h e f d.
        (λ j. there.begin_use (d j) (h j)) ∙ (let k = moved_number s.moment.uses in λ j. moved (record s.moment { uses = suc s.moment.uses; places = record { use_number = k j; frames = e } ∷ s.moment.places }) s);
    next_local = λ s t h. ap there.next_local h ∙ moved_number s.moment.locals;
    take_back = λ s a. a;
    take_later = λ s. tt;
    take_near = λ s t h. ap there.take_local h;
    some_bound = λ s e f d. some_binds w v same.unit same.form nw nv (body_around e) (bound_at w s.moment (body_around e));
    next_bound = λ s t h e f d. subst (λ (b : Bound). BindsHere e (here.next_bound e s) b) (λ j. there.next_bound (sym d j) (sym h j)) (next_binds s.moment (body_around e));
    same_meant = λ e x y d i. meant_same w v same.unit same.form nw nv (body_around e) x y d i;
    bind_back = λ s x e ts a. a;
    bind_later = λ s x e f d ts. tt;
    bind_some = λ s x e f d ts. (Bind x (number_in w s.moment.locals) ∷ e, refl);
    bind_near = λ s t h x e f d ts. (ap there.take_local h, (let k = ap there.next_local h ∙ moved_number s.moment.locals in λ j. Bind x (k j) ∷ d j), refl);
    macro = λ s e f d m. macro_some (here.transformer s m);
    keep_back = λ s k r e a. a;
    keep_later = λ s k r e f d. tt;
    keep_near = λ s t h k r e f d. (λ j. there.keep k r (d j) (h j));
    enter_back = λ s e ts a. a;
    enter_later = λ s e f d ts. tt;
    enter_some = λ s e f d ts. (Enter (number_in w s.moment.bodies) (λ f. 0) ∷ e, refl);
    enter_near = λ s t h e f d ts.
        (ap (λ (z : Asking). (there.enter [] ts z).state) h, (let k = ap (λ (z : Asking). number_in v z.moment.bodies) h ∙ moved_number s.moment.bodies in λ j. Enter (k j) (λ f. 0) ∷ d j), refl);
    entered = λ s e f d ts. refl;
    inside = λ s e ts. tt;
    inside_bounds = λ s e ts x y d. d;
    define_back = λ s x r e p a. (all_parted (SameAnswer w v) (dated s.moment (in_unit (body_around e) (Defines e x r p.notes))) s.asked a).1;
    define_later = λ s e f c d x r p q l. tt;
    define_some = λ s e f c d x r p q l. made_some e x r p q l s.moment (body_around e) (outcome w s.moment (body_around e) e x r p.notes);
    define_near = λ s t h e f c d x r p q l a. defined_there s e x r p q l t h f d a;
  }

  -- ---- the form

  begun : no_questions v ≡ no_questions w
  begun = ap (λ (n : Moment). record { moment = n; asked = [] }) same.counts

  -- it goes to the same moment, and has asked the same by then
  pub pass_alike : (turns : ℕ) (t : Tree Ident) → Each (SameAnswer w v) (questions_of_pass w turns t) → (set_aside_asking v turns t).1 ≡ (set_aside_asking w turns t).1
  pass_alike turns t a =
      let law = run_runs here there Fits sides [] [] tt turns (one_form t []) (one_form t []) (no_questions w) refl (record { todo = refl; aside = tt; uses = refl; notes = refl }) in
      (law.same (no_questions v) begun (each_all (SameAnswer w v) (questions_of_pass w turns t) a)).1

  pub left_alike : (turns from to : ℕ) (l : Left Ident) → Each (SameAnswer w v) (questions_of_left w turns (Ok l)) → (finish_asking v turns (Ok (left_with (bound_moved from to) l))).1 ≡ (finish_asking w turns (Ok l)).1
  left_alike turns from to l a =
      let f = bound_moved from to in
      let law = left_parts here there Fits sides (λ s m. tt) (expand here turns) (expand there turns) (expand_goes here there Fits sides (λ s m. tt) turns) (Moved f) (λ x y d i. ap (λ z. meaning_of z i) d ∙ moved_meant from to x i) max_depth [] [] l (left_with f l) (refl, items_moved f l.items) (no_questions w) refl in
      (law.same (no_questions v) begun (each_all (SameAnswer w v) (questions_of_left w turns (Ok l)) a)).1
