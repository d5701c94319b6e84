-- A form with its questions, and the same form in other surroundings by its own answers and by what these give at the root, as two sides:
-- whatever the form's own frames, bodies and uses bind is the same in all surroundings.
use Rattle.std.proofs.Common.{◌≡◌, ℕ, suc, List, [], ◌∷◌, ◌++◌, map, Bool, true, false, Option, Some, None, Result, Ok, Err, refl, sym, ap, ◌∙◌, subst}
use Rattle.scheme_model.specs.Identifiers.{Number}
use Rattle.scheme_model.specs.Ident.{Ident, Written, Inserted}
use Rattle.scheme_model.specs.ExpansionFaults.{Named, Fault, KeywordRedefined, Duplicate}
use Rattle.scheme_model.specs.Keywords.{core_named, auxiliary_named}
use Rattle.scheme_model.specs.Meaning.{Meaning, Local, Global, Standard, Free, same_meaning, macro_or_none, standard_head, head_as}
use Rattle.scheme_model.specs.Requirements.{LibraryName}
use Rattle.scheme_model.specs.RulesShape.{Rules, option_map}
use Rattle.scheme_model.specs.Cores.{Bound, LocalNumber, Definition}
use Rattle.scheme_model.specs.Order.{Note, Pending, Renamed, Transformer, Asked, Meant, Headed, RulesOf, Alike, Assigns, Library, Ops, is_some}
use Rattle.scheme_model.specs.Expression.{meaning_of}
use Rattle.scheme_model.specs.Substitution.{Table, Entries, any, is_refused, unchanged}
use Rattle.scheme_model.specs.Scopes.{local_or}
use Rattle.scheme_model.specs.ScopedExpansion.{Bind, Enter, Frames, FramedIdent, ScopedState, find, means_outside, macro_at, macro_added, body_around, is_defined, meaning_next, definition_added, bound_next, assigned}
use Rattle.scheme_model.specs.OwnAnswers.{Own, own_local, root_means, own_means, own_macro, unit_refused, body_refused}
use Rattle.scheme_model.specs.Questions.{Moment, Around, at_moment, own_at, number_in, Outcome, Stands, Redefines, StoodBefore, found, outcome_by, outcome, Question, LooksUp, Compares, IsAssigned, Requires, Defines, Answer, Means, Expands, Says, Ends, bare, bare_macro, SameAnswer, unless_own, unless_local, in_unit, left_to_ask, dated, all_left, Asking, bound_at, ended, asking}
use Rattle.scheme_model.specs.FormsAlike.{moved_by, bare_ident, bare_note, Leaves}
use Rattle.model_laws.proofs.FrameAsks.{AllOf}
use Rattle.model_laws.proofs.EntryLaws.{NoLocal, GivenNoLocal}
use Rattle.model_laws.proofs.FrameUnit.{means_no}
use Rattle.model_laws.proofs.FrameRoots.{AtRoot}
use Rattle.form_laws.proofs.Sides.{Results, PendingLike, RenamedLike, Answer as Answered, Sides}
use Rattle.form_laws.proofs.Answering.{own_since, ended_as, define_own, answering}
use Rattle.form_laws.proofs.Bare.{SameFrames, body_same, bare_twice, some_frames, like_of, own_bare, any_bare, note_bare}
use Rattle.form_laws.proofs.Leaving.{spent, met_keyword, met_use, taken, entered, next_locals, next_uses, next_bodies, begun, kept, added, counts_are, assigned_is, defined_is, unit_is, local_is, means_is, macro_is, keyword_is, found_is, next_definition}

pub all_parted : {X : Type 0} (P : X → Type 0) (xs ys : List X) → AllOf P (xs ++ ys) → AllOf P xs × AllOf P ys
all_parted P [] ys h = (tt, h)
all_parted P (x ∷ xs) ys h = let q = all_parted P xs ys h.1 in ((h.0, q.0), q.1)

pub nothing_behind : {X : Type 0} (xs : List X) → xs ++ [] ≡ xs
nothing_behind [] = refl
nothing_behind (x ∷ xs) = ap (λ zs. x ∷ zs) (nothing_behind xs)

pub head_same : (f g : Meaning → Bool) (m : Meaning) → f m ≡ g m → head_as f m ≡ head_as g m
head_same f g (Local v) e = ap (λ t. macro_or_none t (Local v)) e
head_same f g (Global u i) e = ap (λ t. macro_or_none t (Global u i)) e
head_same f g (Standard s) e = ap (λ t. standard_head (core_named s) (auxiliary_named s) t (Standard s)) e
head_same f g (Free s) e = refl

-- ---- nothing local at the root

abbrev pub NoLocals : Around → Type 0
NoLocals w = (u : ℕ) (s : List ℕ) → GivenNoLocal (w.state.entry u s)

at_root : (i : Ident) → AtRoot [] i
at_root (Written u s) = tt
at_root (Inserted i k) = (refl, at_root i)

pub root_no : (table : Table) (entry : Entries) → ((u : ℕ) (s : List ℕ) → GivenNoLocal (entry u s)) → (i : Ident) → NoLocal (means_outside table entry [] [] i)
root_no table entry en i = means_no table entry en [] [] i (at_root i)

pub apart_left : (k : Number) (m : Meaning) → NoLocal m → same_meaning (Local k) m ≡ false
apart_left k (Local l) h = absurd h
apart_left k (Global u i) h = refl
apart_left k (Standard x) h = refl
apart_left k (Free x) h = refl

pub apart_right : (k : Number) (m : Meaning) → NoLocal m → same_meaning m (Local k) ≡ false
apart_right k (Local l) h = absurd h
apart_right k (Global u i) h = refl
apart_right k (Standard x) h = refl
apart_right k (Free x) h = refl

-- ---- what an answer says

abbrev meaning_in : Answer → Meaning
meaning_in (Means m keyword) = m
meaning_in (Expands o) = Free []
meaning_in (Says b) = Free []
meaning_in (Ends o) = Free []

abbrev truth_in : Answer → Bool
truth_in (Means m keyword) = keyword
truth_in (Expands o) = false
truth_in (Says b) = b
truth_in (Ends o) = false

abbrev macro_in : Answer → Option (Transformer Frames Ident)
macro_in (Means m keyword) = None
macro_in (Expands o) = o
macro_in (Says b) = None
macro_in (Ends o) = None

abbrev outcome_in : Answer → Outcome
outcome_in (Means m keyword) = Stands
outcome_in (Expands o) = Stands
outcome_in (Says b) = Stands
outcome_in (Ends o) = o

-- ---- how a definition ends there

-- outcomes as choices
abbrev ends : Outcome → Option Number → Named Ident → Option (Rules Ident) → Frames → Pending Ident FramedIdent → ScopedState → Result (Renamed Ident FramedIdent) (Fault Ident) × ScopedState
ends Redefines b x r gs p t = (Err (KeywordRedefined x), t)
ends StoodBefore b x r gs p t = (Err (Duplicate x), t)
ends Stands b x r gs p t = (Ok (unchanged p), definition_added b x r gs t)

as_outcome : (b : Option Number) (x : Named Ident) (r : Option (Rules Ident)) (gs : Frames) (p : Pending Ident FramedIdent) (t : ScopedState) (refused stood : Bool) → ended_as refused stood b x r gs p t ≡ ends (outcome_by refused stood) b x r gs p t
as_outcome b x r gs p t true stood = refl
as_outcome b x r gs p t false true = refl
as_outcome b x r gs p t false false = refl

-- the notes that count in a unit are those of the forms before too
abbrev pub earlier : Around → Option Number → List (Note FramedIdent)
earlier v None = v.notes
earlier v (Some b) = []

module _ (v : Around) (n : Moment) (t : ScopedState) (h : Leaves v n t) (x : Named Ident) (r : Option (Rules Ident)) (fs gs : Frames) (e : SameFrames fs gs) (ns : List (Note FramedIdent)) (p : Pending Ident FramedIdent) where
  ends_there : (b : Option Number) → map bare_note p.notes ≡ map bare_note (ns ++ earlier v b) → define_own v.state b x r gs p t ≡ ends (outcome v n b fs x r ns) b x r gs p t
  ends_there None d =
      let m = found v None x r fs n in let t2 = definition_added None x r gs t in
      let leaves : Leaves v m t2 = added v n t h fs gs e None x r in
      let there : FramedIdent → Meaning = λ (q : FramedIdent). own_means (own_since v.state t2) t2 q.frames q.ident in
      let here : FramedIdent → Meaning = λ (q : FramedIdent). own_means (own_at m) (at_moment v m) q.frames q.ident in
      let m2 = Global v.state.unit x.name in
      let one = any_bare (is_some r) (meaning_next t None x.name) there here (λ q. means_is v m t2 leaves (bare q.frames) q.frames (sym (bare_twice q.frames)) q.ident) p.notes in
      let two = any_bare (is_some r) m2 here here (λ q. ap (λ l. local_or l (root_means (at_moment v m) q.ident)) (own_bare (own_at m) q.frames q.ident)) (ns ++ v.notes) in
      let y = unit_is v n t h x.name in
      let a = one ∙ ((λ j. any (is_refused (is_some r) (λ q. same_meaning (here q) (y j)) here) (d j)) ∙ sym two) in
      let b = defined_is v n t h x.name in
      (λ j. ended_as (a j) (b j) None x r gs p t) ∙ as_outcome None x r gs p t (any (unit_refused (own_at m) (at_moment v m) m2 (is_some r)) (ns ++ v.notes)) (is_defined (at_moment v n) None x.name)
  ends_there (Some k) d =
      let m = found v (Some k) x r fs n in let t2 = definition_added (Some k) x r gs t in
      let leaves : Leaves v m t2 = added v n t h fs gs e (Some k) x r in
      let there : FramedIdent → Meaning = λ (q : FramedIdent). local_or (own_local (own_since v.state t2) q.frames q.ident) (Free []) in
      let here : FramedIdent → Meaning = λ (q : FramedIdent). local_or (own_local (own_at m) q.frames q.ident) (Free []) in
      let m2 = Local (number_in v n.locals) in
      let one = any_bare (is_some r) (meaning_next t (Some k) x.name) there here (λ q. ap (λ l. local_or l (Free [])) (local_is v m t2 leaves (bare q.frames) q.frames (sym (bare_twice q.frames)) q.ident)) p.notes in
      let two = any_bare (is_some r) m2 here here (λ q. ap (λ l. local_or l (Free [])) (own_bare (own_at m) q.frames q.ident)) ns in
      let y = ap Local (next_locals v n t h) in
      let d2 = d ∙ ap (map bare_note) (nothing_behind ns) in
      let a = one ∙ ((λ j. any (is_refused (is_some r) (λ q. same_meaning (here q) (y j)) here) (d2 j)) ∙ sym two) in
      let b = found_is v n t h k x.name in
      (λ j. ended_as (a j) (b j) (Some k) x r gs p t) ∙ as_outcome (Some k) x r gs p t (any (body_refused (own_at m) m2 (is_some r)) ns) (is_some (find n.definitions k x.name))

-- ---- the two sides

abbrev pub fits : Asking → Frames → Frames → Type 0
fits s fs gs = SameFrames fs gs

module _ (w v : Around) (same_unit : v.state.unit ≡ w.state.unit) (same_form : v.state.form ≡ w.state.form) (en : NoLocals w) (em : NoLocals v) where
  abbrev here : Ops Frames Ident FramedIdent Asking
  here = asking w

  abbrev there : Ops Frames Ident FramedIdent ScopedState
  there = answering v.state v.known

  pub number_moved : (n : ℕ) → number_in v n ≡ number_in w n
  number_moved n = let u = same_unit in let f = same_form in λ j. record { unit = u j; form = f j; count = n }

  pub found_moved : (n : Moment) (b : Option Number) (x : Named Ident) (r : Option (Rules Ident)) (fs : Frames) → found v b x r fs n ≡ found w b x r fs n
  found_moved n None x r fs = let u = same_unit in let f = same_form in λ j. record n {
    table = record { unit = u j; form = f j; ident = x.name; keyword = is_some r; occ = x.occ } ∷ n.table;
    macros = macro_added (Global (u j) x.name) fs r n.macros;
  }
  found_moved n (Some b) x r fs = let k = number_moved n.locals in λ j. record n {
    locals = suc n.locals;
    definitions = record { body = b; ident = x.name; binder = k j } ∷ n.definitions;
    macros = macro_added (Local (k j)) fs r n.macros;
  }

  -- ---- answers

  abbrev pub Same : List (Moment × Question) → Type 0
  Same qs = AllOf (SameAnswer w v) qs

  module _ (n : Moment) where
    abbrev pub own : Own
    own = own_at n

    pub means_alike : (fs : Frames) (i : Ident) → Same (dated n (unless_own (own_local own fs i) (LooksUp i ∷ []))) → own_means own (at_moment v n) fs i ≡ own_means own (at_moment w n) fs i
    means_alike fs i a = go (own_local own fs i) a
      where
        go : (o : Option Number) → Same (dated n (unless_own o (LooksUp i ∷ []))) → local_or o (root_means (at_moment v n) i) ≡ local_or o (root_means (at_moment w n) i)
        go None a = ap meaning_in a.0
        go (Some k) a = refl

    macro_known : (m : Meaning) → is_some (macro_at (at_moment v n).macros m) ≡ is_some (macro_at (at_moment w n).macros m) → is_some (own_macro own (at_moment v n) m) ≡ is_some (own_macro own (at_moment w n) m)
    macro_known (Local k) a = refl
    macro_known (Global u i) a = a
    macro_known (Standard x) a = a
    macro_known (Free x) a = a

    pub keyword_alike : (fs : Frames) (i : Ident) → Same (dated n (unless_own (own_local own fs i) (LooksUp i ∷ []))) → is_some (own_macro own (at_moment v n) (own_means own (at_moment w n) fs i)) ≡ is_some (own_macro own (at_moment w n) (own_means own (at_moment w n) fs i))
    keyword_alike fs i a = go (own_local own fs i) a
      where
        go : (o : Option Number) → Same (dated n (unless_own o (LooksUp i ∷ []))) → is_some (own_macro own (at_moment v n) (local_or o (root_means (at_moment w n) i))) ≡ is_some (own_macro own (at_moment w n) (local_or o (root_means (at_moment w n) i)))
        go None a = macro_known (root_means (at_moment w n) i) (ap (λ m. is_some (macro_at (at_moment v n).macros m)) (sym (ap meaning_in a.0)) ∙ ap truth_in a.0)
        go (Some k) a = refl

    pub rules_alike : (m : Meaning) → Same (dated n (unless_local m)) → option_map bare_macro (own_macro own (at_moment v n) m) ≡ option_map bare_macro (own_macro own (at_moment w n) m)
    rules_alike (Local k) a = refl
    rules_alike (Global u i) a = ap macro_in a.0
    rules_alike (Standard x) a = ap macro_in a.0
    rules_alike (Free x) a = ap macro_in a.0

    pub both_alike : (ds : Frames) (l : Ident) (fs : Frames) (i : Ident) → Same (dated n (unless_own (own_local own ds l) (unless_own (own_local own fs i) (Compares l i ∷ []))))
        → same_meaning (own_means own (at_moment v n) ds l) (own_means own (at_moment v n) fs i) ≡ same_meaning (own_means own (at_moment w n) ds l) (own_means own (at_moment w n) fs i)
    both_alike ds l fs i a = go (own_local own ds l) (own_local own fs i) a
      where
        go : (o q : Option Number) → Same (dated n (unless_own o (unless_own q (Compares l i ∷ []))))
            → same_meaning (local_or o (root_means (at_moment v n) l)) (local_or q (root_means (at_moment v n) i)) ≡ same_meaning (local_or o (root_means (at_moment w n) l)) (local_or q (root_means (at_moment w n) i))
        go None None a = ap truth_in a.0
        go None (Some k) a = apart_right k (root_means (at_moment v n) l) (root_no (n.table ++ v.state.table) v.state.entry em l) ∙ sym (apart_right k (root_means (at_moment w n) l) (root_no (n.table ++ w.state.table) w.state.entry en l))
        go (Some k) None a = apart_left k (root_means (at_moment v n) i) (root_no (n.table ++ v.state.table) v.state.entry em i) ∙ sym (apart_left k (root_means (at_moment w n) i) (root_no (n.table ++ w.state.table) w.state.entry en i))
        go (Some k) (Some z) a = refl

    pub assigned_alike : (b : Option Number) (i : Ident) → Same (dated n (in_unit b (IsAssigned i))) → assigned (at_moment v n) b i ≡ assigned (at_moment w n) b i
    assigned_alike None i a = ap truth_in a.0
    assigned_alike (Some b) i a = refl

    pub known_alike : (l : LibraryName) → Same (dated n (Requires l ∷ [])) → v.known l ≡ w.known l
    known_alike l a = ap truth_in a.0

    pub ends_alike : (b : Option Number) (fs : Frames) (x : Named Ident) (r : Option (Rules Ident)) (ns : List (Note FramedIdent)) → Same (dated n (in_unit b (Defines fs x r ns))) → outcome v n b fs x r ns ≡ outcome w n b fs x r ns
    ends_alike None fs x r ns a = ap outcome_in a.0
    ends_alike (Some b) fs x r ns a =
        let m = found_moved n (Some b) x r fs in let k = number_moved n.locals in
        λ j. outcome_by (any (body_refused (own_at (m j)) (Local (k j)) (is_some r)) ns) (is_some (find n.definitions b x.name))

  answered : (s : Asking) (t : ScopedState) → Leaves v s.moment t → (q : Asked Frames Ident) → Same (dated s.moment (left_to_ask s.moment q)) → Answered here there fits s t q
  answered s t h (Meant fs i) a = λ gs e. means_is v s.moment t h fs gs e i ∙ means_alike s.moment fs i a
  answered s t h (Headed fs i) a = λ gs e.
      let n = s.moment in let o = own_at n in
      let p = means_is v n t h fs gs e i ∙ means_alike n fs i a in (
        p,
        ap (head_as (λ m. is_some (own_macro (own_since v.state t) t m))) p
            ∙ head_same (λ m. is_some (own_macro (own_since v.state t) t m)) (λ m. is_some (own_macro o (at_moment w n) m)) (own_means o (at_moment w n) fs i) (keyword_is v n t h (own_means o (at_moment w n) fs i) ∙ keyword_alike n fs i a),
      )
  answered s t h (RulesOf m) a = like_of (own_macro (own_at s.moment) (at_moment w s.moment) m) (own_macro (own_since v.state t) t m) (macro_is v s.moment t h m ∙ rules_alike s.moment m a)
  answered s t h (Alike ds l fs i) a = λ gs hs d e. (let p = means_is v s.moment t h ds gs d l in let q = means_is v s.moment t h fs hs e i in λ j. same_meaning (p j) (q j)) ∙ both_alike s.moment ds l fs i a
  answered s t h (Assigns fs i) a = λ gs e. ap (λ b. assigned t b i) (body_same fs gs e) ∙ (assigned_is v s.moment t h (body_around fs) i ∙ assigned_alike s.moment (body_around fs) i a)
  answered s t h (Library l) a = known_alike s.moment l a

  pub all_answered : (s : Asking) (t : ScopedState) → Leaves v s.moment t → (qs : List (Asked Frames Ident)) → Same (all_left s.moment qs) → AllOf (Answered here there fits s t) qs
  all_answered s t h [] a = tt
  all_answered s t h (q ∷ qs) a = let z = all_parted (SameAnswer w v) (dated s.moment (left_to_ask s.moment q)) (all_left s.moment qs) a in (answered s t h q z.0, all_answered s t h qs z.1)

  -- ---- what definitions bind

  abbrev pub BindsIn : Option Number → Bound → Bound → Type 0
  BindsIn None x y = y ≡ moved_by w v x
  BindsIn (Some b) x y = y ≡ x

  abbrev pub Binds : Frames → Bound → Bound → Type 0
  Binds fs x y = BindsIn (body_around fs) x y

  pub some_binds : (b : Option Number) (x : Bound) → (y : Bound) × BindsIn b x y
  some_binds None x = (moved_by w v x, refl)
  some_binds (Some b) x = (x, refl)

  pub next_binds : (n : Moment) (t : ScopedState) → Leaves v n t → (b : Option Number) → BindsIn b (bound_at w n b) (bound_next t b)
  next_binds n t h None = next_definition v n t h w same_unit
  next_binds n t h (Some b) = ap LocalNumber (next_locals v n t h ∙ number_moved n.locals)

  pub meant_same : (b : Option Number) (x y : Bound) → BindsIn b x y → (i : Ident) → meaning_of y i ≡ meaning_of x i
  meant_same None (LocalNumber k) y e i = ap (λ z. meaning_of z i) e
  meant_same None (Definition u n) y e i = ap (λ z. meaning_of z i) e
  meant_same (Some b) x y e i = ap (λ z. meaning_of z i) e

  -- ---- definitions

  abbrev pub NotesLike : Frames → List (Note FramedIdent) → List (Note FramedIdent) → Type 0
  NotesLike fs ns ms = map bare_note ms ≡ map bare_note (ns ++ earlier v (body_around fs))

  module _ (fs : Frames) (x : Named Ident) (r : Option (Rules Ident)) (p q : Pending Ident FramedIdent) (l : PendingLike (Binds fs) (NotesLike fs) p q) (n : Moment) (b : Option Number) where
    pub define_some : (o : Outcome) → (y : Result (Renamed Ident FramedIdent) (Fault Ident)) × Results (RenamedLike (Binds fs) (NotesLike fs)) (ended o w b x r fs p n).0 y
    define_some Redefines = (Err (KeywordRedefined x), refl)
    define_some StoodBefore = (Err (Duplicate x), refl)
    define_some Stands = (Ok (unchanged q), (l, refl))

    defined_by : (t : ScopedState) → Leaves v n t → (gs : Frames) → SameFrames fs gs → (o : Outcome)
        → Results (RenamedLike (Binds fs) (NotesLike fs)) (ended o w b x r fs p n).0 (ends o b x r gs q t).0 × Leaves v (ended o w b x r fs p n).1 (ends o b x r gs q t).1
    defined_by t h gs e Redefines = (refl, h)
    defined_by t h gs e StoodBefore = (refl, h)
    defined_by t h gs e Stands = ((l, refl), subst (λ (m : Moment). Leaves v m (definition_added b x r gs t)) (found_moved n b x r fs) (added v n t h fs gs e b x r))

  pub defined_there : (n : Moment) (t : ScopedState) (h : Leaves v n t) (x : Named Ident) (r : Option (Rules Ident)) (fs gs : Frames) (e : SameFrames fs gs) (p q : Pending Ident FramedIdent) → PendingLike (Binds fs) (NotesLike fs) p q
      → Same (dated n (in_unit (body_around fs) (Defines fs x r p.notes)))
      → let b = body_around fs in let d = ended (outcome w n b fs x r p.notes) w b x r fs p n in
      Results (RenamedLike (Binds fs) (NotesLike fs)) d.0 (define_own v.state (body_around gs) x r gs q t).0 × Leaves v d.1 (define_own v.state (body_around gs) x r gs q t).1
  defined_there n t h x r fs gs e p q l a =
      let b = body_around fs in
      let o = outcome w n b fs x r p.notes in
      let y : define_own v.state (body_around gs) x r gs q t ≡ ends o b x r gs q t =
      ap (λ c. define_own v.state c x r gs q t) (body_same fs gs e)
      ∙ (ends_there v n t h x r fs gs e p.notes q b l.notes
      ∙ ap (λ c. ends c b x r gs q t) (ends_alike n b fs x r p.notes a)) in
      subst (λ (z : Result (Renamed Ident FramedIdent) (Fault Ident) × ScopedState). Results (RenamedLike (Binds fs) (NotesLike fs)) (ended o w b x r fs p n).0 z.0 × Leaves v (ended o w b x r fs p n).1 z.1) (sym y)
      (defined_by fs x r p q l n b t h gs e o)

  abbrev pub sides : Sides here there fits
  sides = record {
    same_so_far = λ s. Same s.asked;
    later = λ s u. Unit {0};
    near = λ s t. Leaves v s.moment t;
    defines = λ fs. Unit {0};
    like = λ s l k. bare_ident k ≡ bare_ident l;
    bounds = Binds;
    notes = λ s fs ns ms. NotesLike fs ns ms;
    ruled = λ s m. Unit {0};
    ruled_there = λ s m a. tt;
    itself = λ s. tt;
    then_ = λ s t u a b. tt;
    fits_later = λ s t a fs gs e. e;
    notes_later = λ s t a fs ns ms d. d;
    more_notes = λ s fs ns ms d n m e. (let a = note_bare n m e in λ j. a j ∷ d j);
    placed = λ s fs gs e i. (λ j. record { frames = e j; ident = i });
    answered = λ s t h qs a. all_answered s t h qs (all_parted (SameAnswer w v) (all_left s.moment qs) s.asked a).0;
    ask_back = λ s qs a. (all_parted (SameAnswer w v) (all_left s.moment qs) s.asked a).1;
    ask_later = λ s qs. tt;
    ask_near = λ s t h qs rs a. h;
    ask_means = λ s qs fs i. refl;
    ask_macro = λ s qs m. refl;
    ask_meant = λ t rs f i. refl;
    counts = λ s t h. counts_are v s.moment t h v.known;
    spend_back = λ s n a. a;
    spend_later = λ s n. tt;
    spend_near = λ s t h n. spent v s.moment t h n;
    spend_means = λ s n fs i. refl;
    spend_meant = λ t n gs i. refl;
    meet_back = λ s x a. a;
    meet_later = λ s x. tt;
    meet_near = λ s t h x. met_keyword v s.moment t h x;
    meet_use_back = λ s u a. a;
    meet_use_later = λ s u. tt;
    meet_use_near = λ s t h u. met_use v s.moment t h u;
    next_use = λ s t h. next_uses v s.moment t h ∙ number_moved s.moment.uses;
    begin_back = λ s fs a. a;
    begin_later = λ s fs gs e. tt;
    begin_near = λ s t h fs gs e.
        subst (λ (k : Number). Leaves v (record s.moment { uses = suc s.moment.uses; places = record { use_number = k; frames = fs } ∷ s.moment.places }) (there.begin_use gs t)) (number_moved s.moment.uses) (begun v s.moment t h fs gs e);
    next_local = λ s t h. next_locals v s.moment t h ∙ number_moved s.moment.locals;
    take_back = λ s a. a;
    take_later = λ s. tt;
    take_near = λ s t h. taken v s.moment t h;
    some_bound = λ s fs gs e. some_binds (body_around fs) (bound_at w s.moment (body_around fs));
    next_bound = λ s t h fs gs e. subst (λ (b : Option Number). BindsIn (body_around fs) (bound_at w s.moment (body_around fs)) (bound_next t b)) (sym (body_same fs gs e)) (next_binds s.moment t h (body_around fs));
    same_meant = λ fs x y e i. meant_same (body_around fs) x y e i;
    bind_back = λ s x fs ts a. a;
    bind_later = λ s x fs gs e ts. tt;
    bind_some = λ s x fs gs e ts. (Bind x (number_in w s.moment.locals) ∷ fs, refl);
    bind_near = λ s t h x fs gs e ts. (taken v s.moment t h, (let k = next_locals v s.moment t h ∙ number_moved s.moment.locals in λ j. Bind x (k j) ∷ e j), refl);
    macro = λ s fs gs e m. some_frames (own_macro (own_at s.moment) (at_moment w s.moment) m);
    keep_back = λ s k r fs a. a;
    keep_later = λ s k r fs gs e. tt;
    keep_near = λ s t h k r fs gs e. kept v s.moment t h fs gs e (Local k) r;
    enter_back = λ s fs ts a. a;
    enter_later = λ s fs gs e ts. tt;
    enter_some = λ s fs gs e ts. (Enter (number_in w s.moment.bodies) (λ f. 0) ∷ fs, refl);
    enter_near = λ s t h fs gs e ts. (entered v s.moment t h, (let k = next_bodies v s.moment t h ∙ number_moved s.moment.bodies in λ j. Enter (k j) (λ f. 0) ∷ e j), refl);
    entered = λ s fs gs e ts. refl;
    inside = λ s fs ts. tt;
    inside_bounds = λ s fs ts x y e. e;
    define_back = λ s x r fs p a. (all_parted (SameAnswer w v) (dated s.moment (in_unit (body_around fs) (Defines fs x r p.notes))) s.asked a).1;
    define_later = λ s fs gs d e x r p q l. tt;
    define_some = λ s fs gs d e x r p q l. define_some fs x r p q l s.moment (body_around fs) (outcome w s.moment (body_around fs) fs x r p.notes);
    define_near = λ s t h fs gs d e x r p q l a. defined_there s.moment t h x r fs gs e p q l (all_parted (SameAnswer w v) (dated s.moment (in_unit (body_around fs) (Defines fs x r p.notes))) s.asked a).0;
  }
