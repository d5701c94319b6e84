-- Surroundings that differ in the times at which bodies were entered alone: what is asked has the same answer in both, a form that may
-- begin in one may begin in the other, and a form that goes to a moment goes to the same in both.
use Rattle.std.proofs.Common.{◌≡◌, List, [], ◌∷◌, ◌++◌, map, Bool, true, false, cond, Option, Some, None, Result, Ok, Err, refl, sym, ap, ◌∙◌, subst}
use Rattle.scheme_model.specs.Identifiers.{Number, same_number}
use Rattle.scheme_model.specs.Ident.{Ident, Written, Inserted}
use Rattle.scheme_model.specs.Trees.{Tree}
use Rattle.scheme_model.specs.ExpansionFaults.{Named}
use Rattle.scheme_model.specs.Meaning.{Meaning, Local, Global, Standard, Free, same_meaning}
use Rattle.scheme_model.specs.RulesShape.{Rules, option_map}
use Rattle.scheme_model.specs.Steps.{Broken}
use Rattle.scheme_model.specs.Order.{Note, LookedUp, Compared, Left, Transformer, is_some}
use Rattle.scheme_model.specs.Substitution.{at_form, defined_in, definition_count, any, is_refused}
use Rattle.scheme_model.specs.FrameImages.{is_before}
use Rattle.scheme_model.specs.Scopes.{local_or}
use Rattle.scheme_model.specs.ScopedExpansion.{Bind, Enter, Frames, UsePlace, FramedIdent, ScopedMacro, ScopedState, around, find, macro_at, is_defined}
use Rattle.scheme_model.specs.OwnAnswers.{root_means, own_means}
use Rattle.scheme_model.specs.Questions.{Moment, Around, at_moment, own_at, found, outcome_by, unit_outcome, Question, LooksUp, UsesRules, Compares, IsAssigned, Requires, Defines, Means, Expands, Ends, bare, bare_macro, answer, SameAnswer}
use Rattle.scheme_model.specs.FormsAlike.{start, again, bare_place, bare_kept, bare_ident, bare_note, bare_state}
use Rattle.model_laws.proofs.IdentKinds.{Kind, tree_kind, rules_kind, item_kind, use_kind}
use Rattle.form_laws.specs.Begins.{Each, With, RulesWith, ItemWith, UseWith, IsCounted, IsMade, IsRooted, IsEntry, MacroStands, Begins, PlaceStands, NoteStands, FormBegins, LeftBegins, RestBegins, SameForm}
use Rattle.form_laws.proofs.Bare.{bare_twice, macro_bare, some_mapped, own_bare, any_bare}

-- ---- without these times

abbrev pub bare_around : Around → Around
bare_around v = record { state = bare_state v.state; known = v.known; notes = map bare_note v.notes }

ident_twice : (p : FramedIdent) → bare_ident (bare_ident p) ≡ bare_ident p
ident_twice p = let a = bare_twice p.frames in λ j. record { frames = a j; ident = p.ident }

note_twice : (n : Note FramedIdent) → bare_note (bare_note n) ≡ bare_note n
note_twice (LookedUp l head keyword) = ap (λ p. LookedUp p head keyword) (ident_twice l)
note_twice (Compared l j held) = let a = ident_twice l in let b = ident_twice j in λ z. Compared (a z) (b z) held

kept_twice : (k : ScopedMacro) → bare_kept (bare_kept k) ≡ bare_kept k
kept_twice k = let a = bare_twice k.frames in λ j. record { meaning = k.meaning; frames = a j; rules = k.rules }

place_twice : (p : UsePlace) → bare_place (bare_place p) ≡ bare_place p
place_twice p = let a = bare_twice p.frames in λ j. record { use_number = p.use_number; frames = a j }

joined : {X : Type 0} (f : X → X) → ((x : X) → f (f x) ≡ f x) → (ns xs : List X) → map f (ns ++ map f xs) ≡ map f (ns ++ xs)
joined f twice [] [] = refl
joined f twice [] (x ∷ xs) = let a = twice x in let b = joined f twice [] xs in λ j. a j ∷ b j
joined f twice (n ∷ ns) xs = ap (λ zs. f n ∷ zs) (joined f twice ns xs)

-- behind the same
both_joined : {X : Type 0} (f : X → X) → ((x : X) → f (f x) ≡ f x) → (ns xs ys : List X) → map f xs ≡ map f ys → map f (ns ++ xs) ≡ map f (ns ++ ys)
both_joined f twice ns xs ys e = sym (joined f twice ns xs) ∙ ap (λ zs. map f (ns ++ zs)) e ∙ joined f twice ns ys

pub notes_joined : (ns xs ys : List (Note FramedIdent)) → map bare_note xs ≡ map bare_note ys → map bare_note (ns ++ xs) ≡ map bare_note (ns ++ ys)
notes_joined ns xs ys e = both_joined bare_note note_twice ns xs ys e

-- ---- answers

module _ (v : Around) (n : Moment) where
  macro_is : (m : Meaning) → option_map bare_macro (macro_at (n.macros ++ map bare_kept v.state.macros) m) ≡ option_map bare_macro (macro_at (n.macros ++ v.state.macros) m)
  macro_is m =
      sym (macro_bare (n.macros ++ map bare_kept v.state.macros) m)
      ∙ ap (λ ks. macro_at ks m) (joined bare_kept kept_twice n.macros v.state.macros)
      ∙ macro_bare (n.macros ++ v.state.macros) m

  keyword_is : (m : Meaning) → is_some (macro_at (n.macros ++ map bare_kept v.state.macros) m) ≡ is_some (macro_at (n.macros ++ v.state.macros) m)
  keyword_is m =
      sym (some_mapped bare_macro (macro_at (n.macros ++ map bare_kept v.state.macros) m)) ∙ ap is_some (macro_is m) ∙ some_mapped bare_macro (macro_at (n.macros ++ v.state.macros) m)

  ends_bare : (fs : Frames) (x : Named Ident) (r : Option (Rules Ident)) (ns : List (Note FramedIdent)) → unit_outcome (bare_around v) n fs x r ns ≡ unit_outcome v n fs x r ns
  ends_bare fs x r ns =
      let m = found v None x r fs n in
      let here : FramedIdent → Meaning = λ (p : FramedIdent). own_means (own_at m) (at_moment v m) p.frames p.ident in
      let same : (p : FramedIdent) → here p ≡ here (bare_ident p) = λ p. ap (λ l. local_or l (root_means (at_moment v m) p.ident)) (own_bare (own_at m) p.frames p.ident) in
      let g = Global v.state.unit x.name in
      let e = any_bare (is_some r) g here here same (ns ++ map bare_note v.notes)
      ∙ ap (any (is_refused (is_some r) (λ p. same_meaning (here p) g) here)) (joined bare_note note_twice ns v.notes)
      ∙ sym (any_bare (is_some r) g here here same (ns ++ v.notes)) in
      ap (λ b. outcome_by b (is_defined (at_moment v n) None x.name)) e

  answer_bare : (q : Question) → answer (bare_around v) n q ≡ answer v n q
  answer_bare (LooksUp i) = ap (Means (root_means (at_moment v n) i)) (keyword_is (root_means (at_moment v n) i))
  answer_bare (UsesRules m) = ap Expands (macro_is m)
  answer_bare (Compares l i) = refl
  answer_bare (IsAssigned i) = refl
  answer_bare (Requires l) = refl
  answer_bare (Defines fs x r ns) = ap Ends (ends_bare fs x r ns)

-- ---- what stands

frames_none : (fs : Frames) → bare fs ≡ [] → fs ≡ []
frames_none [] e = refl
frames_none (Bind x v ∷ fs) e = let q : Bind x v ∷ bare fs ≡ [] = e in absurd cc
frames_none (Enter b u ∷ fs) e = let q : Enter b (λ f. 0) ∷ bare fs ≡ [] = e in absurd cc

around_bare : (ps : List UsePlace) (k : Number) → around (map bare_place ps) k ≡ bare (around ps k)
around_bare [] k = refl
around_bare (p ∷ ps) k = go (same_number p.use_number k) (around_bare ps k)
  where
    go : (b : Bool) → around (map bare_place ps) k ≡ bare (around ps k) → cond b (bare p.frames) (around (map bare_place ps) k) ≡ bare (cond b p.frames (around ps k))
    go true h = refl
    go false h = h

none_mapped : (o : Option (Transformer Frames Ident)) → option_map bare_macro o ≡ None → o ≡ None
none_mapped None e = refl
none_mapped (Some c) e = let q : Some (bare_macro c) ≡ None = e in absurd cc

-- structures over identifiers that hold more
pub with_more : (k : Kind) (P Q : Ident → Type 0) → ((i : Ident) → P i → Q i) → (x : k.of Ident) → (u : k.of (With P)) × (k.map (With P) Ident (λ p. p.0) u ≡ x) → (u : k.of (With Q)) × (k.map (With Q) Ident (λ p. p.0) u ≡ x)
with_more k P Q f x h = (k.map (With P) (With Q) (λ p. (p.0, f p.0 p.1)) h.0, k.fused (With P) (With Q) Ident (λ p. p.0) (λ p. (p.0, f p.0 p.1)) h.0 ∙ h.1)

each_more : {X : Type 0} (P Q : X → Type 0) → ((x : X) → P x → Q x) → (xs : List X) → Each P xs → Each Q xs
each_more P Q f [] h = tt
each_more P Q f (x ∷ xs) h = (f x h.0, each_more P Q f xs h.1)

each_on : {X Y : Type 0} (g : X → Y) (P : X → Type 0) (Q : Y → Type 0) → ((x : X) → P x → Q (g x)) → (xs : List X) → Each P xs → Each Q (map g xs)
each_on g P Q f [] h = tt
each_on g P Q f (x ∷ xs) h = (f x h.0, each_on g P Q f xs h.1)

each_back : {X Y : Type 0} (g : X → Y) (P : X → Type 0) (Q : Y → Type 0) → ((x : X) → Q (g x) → P x) → (xs : List X) → Each Q (map g xs) → Each P xs
each_back g P Q f [] h = tt
each_back g P Q f (x ∷ xs) h = (f x h.0, each_back g P Q f xs h.1)

-- ---- a form that may begin in t may begin in s

module _ (s t : ScopedState) (e : bare_state t ≡ bare_state s) where
  around_none : (k : Number) → around t.places k ≡ [] → around s.places k ≡ []
  around_none k h = frames_none (around s.places k) (sym (around_bare s.places k) ∙ sym (ap (λ (z : ScopedState). around z.places k) e) ∙ around_bare t.places k ∙ ap bare h)

  used : (k : Number) → IsCounted t t.uses k → IsCounted s s.uses k
  used k h = sym (ap (λ (z : ScopedState). is_before z.unit z.uses k) e) ∙ h

  is_made : (i : Ident) → IsMade t i → IsMade s i
  is_made (Written u x) h = tt
  is_made (Inserted i k) h = (used k h.0, is_made i h.1)

  rooted : (i : Ident) → IsRooted t i → IsRooted s i
  rooted (Written u x) h = tt
  rooted (Inserted i k) h = ((used k h.0.0, around_none k h.0.1), rooted i h.1)

  root_macro : (k : ScopedMacro) → (k.frames ≡ []) × RulesWith (IsRooted t) k.rules → (bare k.frames ≡ []) × RulesWith (IsRooted s) k.rules
  root_macro k h = (ap bare h.0, with_more rules_kind (IsRooted t) (IsRooted s) rooted k.rules h.1)

  stands_on : (m : Meaning) (k : ScopedMacro) → MacroStands t m k → MacroStands s m (bare_kept k)
  stands_on (Local v) k h = tt
  stands_on (Global u i) k h = root_macro k h
  stands_on (Standard x) k h = root_macro k h
  stands_on (Free x) k h = root_macro k h

  stands_back : (m : Meaning) (k : ScopedMacro) → MacroStands s m (bare_kept k) → MacroStands s m k
  stands_back (Local v) k h = tt
  stands_back (Global u i) k h = (frames_none k.frames h.0, h.1)
  stands_back (Standard x) k h = (frames_none k.frames h.0, h.1)
  stands_back (Free x) k h = (frames_none k.frames h.0, h.1)

  abbrev Stands : ScopedState → ScopedMacro → Type 0
  Stands z k = MacroStands z k.meaning k

  macros_stand : Each (Stands t) t.macros → Each (Stands s) s.macros
  macros_stand h =
      each_back bare_kept (Stands s) (Stands s) (λ k q. stands_back k.meaning k q) s.macros
      (subst (Each (Stands s)) (ap (λ (z : ScopedState). z.macros) e) (each_on bare_kept (Stands t) (Stands s) (λ k q. stands_on k.meaning k q) t.macros h))

  begins_too : Begins t → Begins s
  begins_too h = record {
    bodies = λ b c i. sym (ap (λ (z : ScopedState). find z.definitions b i) e) ∙ h.bodies b (ap (λ (z : ScopedState). is_before z.unit z.bodies b) e ∙ c) i;
    places = λ k c. around_none k (h.places k (ap (λ (z : ScopedState). is_before z.unit z.uses k) e ∙ c));
    locals = λ v c. none_mapped (macro_at s.macros (Local v))
        (sym (macro_bare s.macros (Local v)) ∙ sym (ap (λ (z : ScopedState). macro_at z.macros (Local v)) e) ∙ macro_bare t.macros (Local v)
        ∙ ap (option_map bare_macro) (h.locals v (ap (λ (z : ScopedState). is_before z.unit z.locals v) e ∙ c)));
    defined = λ u i d. is_made i (h.defined u i (ap (λ (z : ScopedState). is_some (defined_in z.table u i)) e ∙ d));
    macros = macros_stand h.macros;
    entries = λ u x. subst IsEntry (ap (λ (z : ScopedState). z.entry u x) e) (h.entries u x);
  }

  place_on : (l : FramedIdent) → PlaceStands t l → PlaceStands s (bare_ident l)
  place_on l h = (ap bare h.0, rooted l.ident h.1)

  place_back : (l : FramedIdent) → PlaceStands s (bare_ident l) → PlaceStands s l
  place_back l h = (frames_none l.frames h.0, h.1)

  note_on : (n : Note FramedIdent) → NoteStands t n → NoteStands s (bare_note n)
  note_on (LookedUp l head keyword) h = place_on l h
  note_on (Compared l j held) h = (place_on l h.0, place_on j h.1)

  note_back : (n : Note FramedIdent) → NoteStands s (bare_note n) → NoteStands s n
  note_back (LookedUp l head keyword) h = place_back l h
  note_back (Compared l j held) h = (place_back l h.0, place_back j h.1)

  notes_stand : (ns ms : List (Note FramedIdent)) → map bare_note ms ≡ map bare_note ns → Each (NoteStands t) ms → Each (NoteStands s) ns
  notes_stand ns ms d h = each_back bare_note (NoteStands s) (NoteStands s) note_back ns (subst (Each (NoteStands s)) d (each_on bare_note (NoteStands t) (NoteStands s) note_on ms h))

module _ (w v : Around) (e : bare_around v ≡ bare_around w) where
  abbrev states : bare_state v.state ≡ bare_state w.state
  states = ap (λ (z : Around). z.state) e

  pub form_begins_too : (t : Tree Ident) → FormBegins v t → FormBegins w t
  form_begins_too t h = record {
    state = begins_too w.state v.state states h.state;
    stands = with_more tree_kind (IsRooted v.state) (IsRooted w.state) (rooted w.state v.state states) t h.stands;
    notes = notes_stand w.state v.state states w.notes v.notes (ap (λ (z : Around). z.notes) e) h.notes;
  }

  left_begins_too : (l : Left Ident) → LeftBegins v l → LeftBegins w l
  left_begins_too l h = record {
    state = begins_too w.state v.state states h.state;
    uses = each_more (UseWith (IsRooted v.state)) (UseWith (IsRooted w.state)) (λ u q. with_more use_kind (IsRooted v.state) (IsRooted w.state) (rooted w.state v.state states) u q) l.uses h.uses;
    items = each_more (ItemWith (IsRooted v.state)) (ItemWith (IsRooted w.state)) (λ i q. with_more item_kind (IsRooted v.state) (IsRooted w.state) (rooted w.state v.state states) i q) l.items h.items;
    macros = h.macros;
  }

  pub rest_begins_too : (r : Result (Left Ident) Broken) → RestBegins v r → RestBegins w r
  rest_begins_too (Ok l) h = left_begins_too l h
  rest_begins_too (Err x) h = tt

  -- ---- the same in both

  pub same_form_too : SameForm w v
  same_form_too = record { unit = ap (λ (z : ScopedState). z.unit) states; form = ap (λ (z : ScopedState). z.form) states; counts = ap start states }

  pub untimed : (n : Moment) (q : Question) → answer v n q ≡ answer w n q
  untimed n q = sym (answer_bare v n q) ∙ ap (λ z. answer z n q) e ∙ answer_bare w n q

  pub definitions_too : definition_count v.state.table v.state.unit ≡ definition_count w.state.table w.state.unit
  definitions_too = ap (λ (z : ScopedState). definition_count z.table z.unit) states

  pub again_too : (n : Moment) → bare_state (again v n) ≡ bare_state (again w n)
  again_too n =
      let a = both_joined bare_kept kept_twice n.macros v.state.macros w.state.macros (ap (λ (z : ScopedState). z.macros) states) in
      let b = both_joined bare_place place_twice n.places v.state.places w.state.places (ap (λ (z : ScopedState). z.places) states) in
      λ j. let z : ScopedState = states j in record z {
        locals = at_form z.form (λ m. n.locals) z.locals;
        uses = at_form z.form (λ m. n.uses) z.uses;
        nodes = at_form z.form (λ m. n.nodes) z.nodes;
        bodies = at_form z.form (λ m. n.bodies) z.bodies;
        keywords = at_form z.form (λ ts. n.keywords) z.keywords;
        met = at_form z.form (λ us. n.met) z.met;
        table = n.table ++ z.table;
        macros = a j;
        places = b j;
        definitions = n.definitions ++ z.definitions;
      }

  -- what was asked elsewhere
  module _ (old : Around) where
    pub answers_too : (qs : List (Moment × Question)) → Each (SameAnswer old w) qs → Each (SameAnswer old v) qs
    answers_too [] h = tt
    answers_too (q ∷ qs) h = (untimed q.0 q.1 ∙ h.0, answers_too qs h.1)

    pub form_too : SameForm old w → SameForm old v
    form_too h = let s = same_form_too in record { unit = s.unit ∙ h.unit; form = s.form ∙ h.form; counts = s.counts ∙ h.counts }

  pub answers_itself : (qs : List (Moment × Question)) → Each (SameAnswer w v) qs
  answers_itself [] = tt
  answers_itself (q ∷ qs) = (untimed q.0 q.1, answers_itself qs)
