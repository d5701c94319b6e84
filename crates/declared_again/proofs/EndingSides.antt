-- A form that is gone through has made in its unit what its definitions made, at each moment: of all steps these alone make a definition
-- of the unit, or a macro that isn't local.
use Rattle.std.proofs.Common.{◌≡◌, ℕ, suc, ◌+◌, List, [], ◌∷◌, ◌++◌, append_assoc, Option, Some, None, Result, Ok, Err, refl, sym, ap, ◌∙◌, subst}
use Rattle.scheme_model.specs.Identifiers.{Number}
use Rattle.scheme_model.specs.Ident.{Ident}
use Rattle.scheme_model.specs.Trees.{Tree}
use Rattle.scheme_model.specs.ExpansionFaults.{Named, Fault, KeywordRedefined, Duplicate}
use Rattle.scheme_model.specs.Meaning.{Meaning, Local, Global, Standard, Free, same_meaning, head_as}
use Rattle.scheme_model.specs.RulesShape.{Rules}
use Rattle.scheme_model.specs.Cores.{Bound}
use Rattle.scheme_model.specs.Order.{Note, LookedUp, Compared, Pending, Renamed, Transformer, Asked, Meant, Headed, RulesOf, Alike, Assigns, Library, Ops, is_some}
use Rattle.scheme_model.specs.Expression.{meaning_of}
use Rattle.scheme_model.specs.UnitExpansion.{one_form}
use Rattle.scheme_model.specs.Substitution.{unchanged}
use Rattle.scheme_model.specs.ScopedExpansion.{Bind, Enter, Frames, FramedIdent, body_around, assigned}
use Rattle.scheme_model.specs.OwnAnswers.{own_local, own_means, own_macro}
use Rattle.scheme_model.specs.Questions.{Moment, Around, at_moment, own_at, number_in, Question, LooksUp, UsesRules, Compares, IsAssigned, Requires, Defines, Outcome, Stands, Redefines, StoodBefore, unit_outcome, outcome, unless_own, unless_local, in_unit, left_to_ask, dated, all_left, Asking, bound_at, ended, asking}
use Rattle.scheme_model.specs.FormsAlike.{set_aside_asking, no_questions}
use Rattle.model_laws.proofs.FrameAsks.{AllOf}
use Rattle.model_laws.proofs.FrameHeads.{IfMacro}
use Rattle.form_laws.proofs.Sides.{Results, NoteLike, TransformerLike, PendingLike, RenamedLike, Answer, Sides}
use Rattle.form_laws.proofs.SideRuns.{run_runs}
use Rattle.forgotten_locals.specs.Outside.{macros_outside}
use Rattle.declared_again.specs.Endings.{Ending, endings, table_if, macros_if, table_made, macros_made, Made, MadeAtEach}

-- ---- questions that are no definitions

abbrev NoDefinition : Question → Type 0
NoDefinition (LooksUp i) = Unit {0}
NoDefinition (UsesRules m) = Unit {0}
NoDefinition (Compares l i) = Unit {0}
NoDefinition (IsAssigned i) = Unit {0}
NoDefinition (Requires l) = Unit {0}
NoDefinition (Defines fs x r ns) = ⊥

abbrev NoDefinitions : List Question → Type 0
NoDefinitions [] = Unit {0}
NoDefinitions (q ∷ qs) = NoDefinition q × NoDefinitions qs

unless_none : (o : Option Number) (qs : List Question) → NoDefinitions qs → NoDefinitions (unless_own o qs)
unless_none None qs h = h
unless_none (Some v) qs h = tt

rules_none : (m : Meaning) → NoDefinitions (unless_local m)
rules_none (Local v) = tt
rules_none (Global u i) = (tt, tt)
rules_none (Standard x) = (tt, tt)
rules_none (Free x) = (tt, tt)

assigned_none : (b : Option Number) (i : Ident) → NoDefinitions (in_unit b (IsAssigned i))
assigned_none None i = (tt, tt)
assigned_none (Some b) i = tt

left_none : (n : Moment) (q : Asked Frames Ident) → NoDefinitions (left_to_ask n q)
left_none n (Meant fs i) = unless_none (own_local (own_at n) fs i) (LooksUp i ∷ []) (tt, tt)
left_none n (Headed fs i) = unless_none (own_local (own_at n) fs i) (LooksUp i ∷ []) (tt, tt)
left_none n (RulesOf m) = rules_none m
left_none n (Alike ds l fs i) =
    unless_none (own_local (own_at n) ds l) (unless_own (own_local (own_at n) fs i) (Compares l i ∷ [])) (unless_none (own_local (own_at n) fs i) (Compares l i ∷ []) (tt, tt))
left_none n (Assigns fs i) = assigned_none (body_around fs) i
left_none n (Library l) = (tt, tt)

dated_none : (n : Moment) (qs : List Question) (rest : List (Moment × Question)) → NoDefinitions qs → endings (dated n qs ++ rest) ≡ endings rest
dated_none n [] rest h = refl
dated_none n (LooksUp i ∷ qs) rest h = dated_none n qs rest h.1
dated_none n (UsesRules m ∷ qs) rest h = dated_none n qs rest h.1
dated_none n (Compares l i ∷ qs) rest h = dated_none n qs rest h.1
dated_none n (IsAssigned i ∷ qs) rest h = dated_none n qs rest h.1
dated_none n (Requires l ∷ qs) rest h = dated_none n qs rest h.1
dated_none n (Defines fs x r ns ∷ qs) rest h = absurd h.0

pub asked_none : (n : Moment) (qs : List (Asked Frames Ident)) (rest : List (Moment × Question)) → endings (all_left n qs ++ rest) ≡ endings rest
asked_none n [] rest = refl
asked_none n (q ∷ qs) rest =
    ap endings (append_assoc (dated n (left_to_ask n q)) (all_left n qs) rest) ∙ (dated_none n (left_to_ask n q) (all_left n qs ++ rest) (left_none n q) ∙ asked_none n qs rest)

module _ (w : Around) (n : Moment) where
  dated_made : (qs : List Question) (rest : List (Moment × Question)) → NoDefinitions qs → Made w n (endings rest) → MadeAtEach w rest → MadeAtEach w (dated n qs ++ rest)
  dated_made [] rest none now h = h
  dated_made (q ∷ qs) rest none now h = (subst (Made w n) (sym (dated_none n qs rest none.1)) now, dated_made qs rest none.1 now h)

  pub asked_made : (qs : List (Asked Frames Ident)) (rest : List (Moment × Question)) → Made w n (endings rest) → MadeAtEach w rest → MadeAtEach w (all_left n qs ++ rest)
  asked_made [] rest now h = h
  asked_made (q ∷ qs) rest now h =
      subst (MadeAtEach w) (sym (append_assoc (dated n (left_to_ask n q)) (all_left n qs) rest))
      (dated_made (left_to_ask n q) (all_left n qs ++ rest) (left_none n q) (subst (Made w n) (sym (asked_none n qs rest)) now) (asked_made qs rest now h))

-- ---- what was made by a moment

module _ (w : Around) where
  abbrev pub Told : Asking → Type 0
  Told s = Made w s.moment (endings s.asked) × MadeAtEach w s.asked

  module _ (n : Moment) (rest : List (Moment × Question)) (fs : Frames) (x : Named Ident) (p : Pending Ident FramedIdent) where
    abbrev defined_in_unit : Option (Rules Ident) → Outcome → Type 0
    defined_in_unit r o =
        let e : Ending = record { moment = n; frames = fs; name = x; rules = r; notes = p.notes } in let m = (ended o w None x r fs p n).1 in
        (m.table ≡ table_if o w e (table_made w (endings rest))) × (macros_outside m.macros ≡ macros_if o w e (macros_made w (endings rest)))

    unit_told : (r : Option (Rules Ident)) (o : Outcome) → Made w n (endings rest) → defined_in_unit r o
    unit_told r Redefines h = h
    unit_told r StoodBefore h = h
    unit_told None Stands h = (λ j. record { unit = w.state.unit; form = w.state.form; ident = x.name; keyword = is_some {A = Rules Ident} None; occ = x.occ } ∷ h.0 j, h.1)
    unit_told (Some r) Stands h =
        (λ j. record { unit = w.state.unit; form = w.state.form; ident = x.name; keyword = is_some (Some r); occ = x.occ } ∷ h.0 j, λ j. record { meaning = Global w.state.unit x.name; frames = fs; rules = r } ∷ h.1 j)

    body_told : (b : Number) (r : Option (Rules Ident)) (o : Outcome) → Made w n (endings rest) → Made w (ended o w (Some b) x r fs p n).1 (endings rest)
    body_told b r Redefines h = h
    body_told b r StoodBefore h = h
    body_told b None Stands h = h
    body_told b (Some r) Stands h = h

    abbrev after : Option (Rules Ident) → Option Number → Asking
    after r b = record { moment = (ended (outcome w n b fs x r p.notes) w b x r fs p n).1; asked = dated n (in_unit b (Defines fs x r p.notes)) ++ rest }

    pub define_told : (r : Option (Rules Ident)) (b : Option Number) → Made w n (endings rest) → MadeAtEach w rest → Told (after r b)
    define_told r None h each = (unit_told r (unit_outcome w n fs x r p.notes) h, (h, each))
    define_told r (Some b) h each = (body_told b r (outcome w n (Some b) fs x r p.notes) h, each)

  -- ---- the expansion beside itself

  abbrev pub here : Ops Frames Ident FramedIdent Asking
  here = asking w

  abbrev pub Fits : Asking → Frames → Frames → Type 0
  Fits s e f = f ≡ e

  abbrev pub Same : Bound → Bound → Type 0
  Same x y = y ≡ x

  abbrev pub SameNotes : List (Note FramedIdent) → List (Note FramedIdent) → Type 0
  SameNotes ns ms = ms ≡ ns

  pub note_same : (n m : Note FramedIdent) → NoteLike (λ (l k : FramedIdent). k ≡ l) n m → m ≡ n
  note_same (LookedUp l h k) (LookedUp m i j) e = let a = e.0 in let b = e.1 in let c = e.2 in λ z. LookedUp (a z) (b z) (c z)
  note_same (LookedUp l h k) (Compared m n i) e = absurd e
  note_same (Compared l m h) (LookedUp n i j) e = absurd e
  note_same (Compared l m h) (Compared n o i) e = let a = e.0 in let b = e.1 in let c = e.2 in λ z. Compared (a z) (b z) (c z)

  macro_same : (x y : Option (Transformer Frames Ident)) → y ≡ x → TransformerLike (λ (e f : Frames). f ≡ e) x y
  macro_same None y e = e
  macro_same (Some m) y e = (m.env, refl, e)

  pub macro_some : (x : Option (Transformer Frames Ident)) → IfMacro (λ (c : Transformer Frames Ident). (g : Frames) × (g ≡ c.env)) x
  macro_some None = tt
  macro_some (Some m) = (m.env, refl)

  abbrev means_at : Moment → Frames → Ident → Meaning
  means_at n fs i = own_means (own_at n) (at_moment w n) fs i

  abbrev macro_then : Moment → Meaning → Option (Transformer Frames Ident)
  macro_then n m = own_macro (own_at n) (at_moment w n) m

  abbrev Near : Asking → Asking → Type 0
  Near s t = t.moment ≡ s.moment

  answered : (s t : Asking) → Near s t → (q : Asked Frames Ident) → Answer here here Fits s t q
  answered s t h (Meant e i) = λ f d. (λ j. means_at (h j) (d j) i)
  answered s t h (Headed e i) = λ f d. ((λ j. means_at (h j) (d j) i), (λ j. let z : Moment = h j in head_as (λ m. is_some (macro_then z m)) (means_at z (d j) i)))
  answered s t h (RulesOf m) = macro_same (macro_then s.moment m) (macro_then t.moment m) (ap (λ (z : Moment). macro_then z m) h)
  answered s t h (Alike d l e i) = λ g f a b. (λ j. same_meaning (means_at (h j) (a j) l) (means_at (h j) (b j) i))
  answered s t h (Assigns e i) = λ f d. (λ j. assigned (at_moment w (h j)) (body_around (d j)) i)
  answered s t h (Library n) = refl

  pub all_answered : (s t : Asking) → Near s t → (qs : List (Asked Frames Ident)) → AllOf (Answer here here Fits s t) qs
  all_answered s t h [] = tt
  all_answered s t h (q ∷ qs) = (answered s t h q, all_answered s t h qs)

  module _ (b : Option Number) (x : Named Ident) (r : Option (Rules Ident)) (fs : Frames) (p q : Pending Ident FramedIdent) (l : PendingLike Same SameNotes p q) (n : Moment) where
    pub some_by : (o : Outcome) → (y : Result (Renamed Ident FramedIdent) (Fault Ident)) × Results (RenamedLike Same SameNotes) (ended o w b x r fs p n).0 y
    some_by Redefines = (Err (KeywordRedefined x), refl)
    some_by StoodBefore = (Err (Duplicate x), refl)
    some_by Stands = (Ok (unchanged q), (l, refl))

    near_by : (o : Outcome) → Results (RenamedLike Same SameNotes) (ended o w b x r fs p n).0 (ended o w b x r fs q n).0 × ((ended o w b x r fs q n).1 ≡ (ended o w b x r fs p n).1)
    near_by Redefines = (refl, refl)
    near_by StoodBefore = (refl, refl)
    near_by Stands = ((l, refl), refl)

  pub defined_near : (s t : Asking) → Near s t → (e f : Frames) → f ≡ e → (x : Named Ident) (r : Option (Rules Ident)) (p q : Pending Ident FramedIdent) → PendingLike Same SameNotes p q →
      let d = here.define x r e p s in let y = here.define x r f q t in Results (RenamedLike Same SameNotes) d.0 y.0 × (y.1.moment ≡ d.1.moment)
  defined_near s t h e f d x r p q l =
      let b = body_around e in
      let n = s.moment in
      let o = outcome w n b e x r p.notes in
      let notes = l.notes in
      let same : ended (outcome w t.moment (body_around f) f x r q.notes) w (body_around f) x r f q t.moment ≡ ended o w b x r e q n =
      (λ j. let g : Frames = d j in ended (outcome w (h j) (body_around g) g x r (notes j)) w (body_around g) x r g q (h j)) in
      let z = ended o w b x r e p n in
      subst (λ (y : Result (Renamed Ident FramedIdent) (Fault Ident) × Moment). Results (RenamedLike Same SameNotes) z.0 y.0 × (y.1 ≡ z.1)) (sym same) (near_by b x r e p q l n o)

  abbrev pub sides : Sides here here Fits
  sides = record {
    same_so_far = λ s. Unit {0};
    later = λ s u. Told s → Told u;
    near = Near;
    defines = λ fs. Unit {0};
    like = λ s l k. k ≡ l;
    bounds = λ fs. Same;
    notes = λ s fs. SameNotes;
    ruled = λ s m. Unit {0};
    ruled_there = λ s m a. tt;
    itself = λ s h. h;
    then_ = λ s t u a b h. b (a h);
    fits_later = λ s t a e f d. d;
    notes_later = λ s t a e ns ms d. d;
    more_notes = λ s e ns ms d n m h. (let a = note_same n m h in λ j. a j ∷ d j);
    placed = λ s e f d i. (λ j. record { frames = d j; ident = i });
    answered = λ s t h qs a. all_answered s t h qs;
    ask_back = λ s qs a. tt;
    ask_later = λ s qs h. (subst (Made w s.moment) (sym (asked_none s.moment qs s.asked)) h.0, asked_made w s.moment qs s.asked h.0 h.1);
    ask_near = λ s t h qs rs l. h;
    ask_means = λ s qs e i. refl;
    ask_macro = λ s qs m. refl;
    ask_meant = λ t rs f i. refl;
    counts = λ s t h. (λ j. let z : Moment = h j in record { locals = z.locals; uses = z.uses; nodes = z.nodes; keywords = z.keywords; met = z.met });
    spend_back = λ s n a. tt;
    spend_later = λ s n h. h;
    spend_near = λ s t h n. ap (λ (z : Moment). record z { nodes = z.nodes + n }) h;
    spend_means = λ s n e i. refl;
    spend_meant = λ t n f i. refl;
    meet_back = λ s x a. tt;
    meet_later = λ s x h. h;
    meet_near = λ s t h x. ap (λ (z : Moment). record z { keywords = x ∷ z.keywords }) h;
    meet_use_back = λ s u a. tt;
    meet_use_later = λ s u h. h;
    meet_use_near = λ s t h u. ap (λ (z : Moment). record z { met = u ∷ z.met }) h;
    next_use = λ s t h. ap (λ (z : Moment). number_in w z.uses) h;
    begin_back = λ s e a. tt;
    begin_later = λ s e f d h. h;
    begin_near = λ s t h e f d. (λ j. let z : Moment = h j in record z { uses = suc z.uses; places = record { use_number = number_in w z.uses; frames = d j } ∷ z.places });
    next_local = λ s t h. ap (λ (z : Moment). number_in w z.locals) h;
    take_back = λ s a. tt;
    take_later = λ s h. h;
    take_near = λ s t h. ap (λ (z : Moment). record z { locals = suc z.locals }) h;
    some_bound = λ s e f d. (here.next_bound e s, refl);
    next_bound = λ s t h e f d. (λ j. bound_at w (h j) (body_around (d j)));
    same_meant = λ e x y d i. ap (λ z. meaning_of z i) d;
    bind_back = λ s x e ts a. tt;
    bind_later = λ s x e f d ts h. h;
    bind_some = λ s x e f d ts. (Bind x (here.next_local s) ∷ e, refl);
    bind_near = λ s t h x e f d ts. (ap (λ (z : Moment). record z { locals = suc z.locals }) h, (λ j. Bind x (number_in w (h j).locals) ∷ d j), refl);
    macro = λ s e f d m. macro_some (macro_then s.moment m);
    keep_back = λ s v r e a. tt;
    keep_later = λ s v r e f d h. h;
    keep_near = λ s t h v r e f d. (λ j. let z : Moment = h j in record z { macros = record { meaning = Local v; frames = d j; rules = r } ∷ z.macros });
    enter_back = λ s e ts a. tt;
    enter_later = λ s e f d ts h. h;
    enter_some = λ s e f d ts. ((here.enter e ts s).env, refl);
    enter_near = λ s t h e f d ts. (ap (λ (z : Moment). record z { bodies = suc z.bodies }) h, (λ j. Enter (number_in w (h j).bodies) (λ k. 0) ∷ d j), refl);
    entered = λ s e f d ts. refl;
    inside = λ s e ts. tt;
    inside_bounds = λ s e ts x y d. d;
    define_back = λ s n r e p a. tt;
    define_later = λ s e f g d x r p q l h. define_told s.moment s.asked e x p r (body_around e) h.0 h.1;
    define_some = λ s e f g d x r p q l. some_by (body_around e) x r e p q l s.moment (outcome w s.moment (body_around e) e x r p.notes);
    define_near = λ s t h e f g d x r p q l a. defined_near s t h e f d x r p q l;
  }

  pub made_by_then : (turns : ℕ) (t : Tree Ident) → Told (set_aside_asking w turns t).1
  made_by_then turns t =
      let law = run_runs here here Fits sides [] [] tt turns (one_form t []) (one_form t []) (no_questions w) refl (record { todo = refl; aside = tt; uses = refl; notes = refl }) in
      law.after ((refl, refl), tt)
