-- Surroundings without what is local: a form that may begin in them with it may begin in them without it, and they give the questions of a
-- form the same answers.
use Rattle.std.proofs.Common.{◌≡◌, List, [], ◌∷◌, ◌++◌, map, filter, Bool, true, false, cond, Option, Some, None, Result, Ok, Err, refl, sym, ap, ◌∙◌}
use Rattle.scheme_model.specs.Identifiers.{Number}
use Rattle.scheme_model.specs.Ident.{Ident, Written, Inserted}
use Rattle.scheme_model.specs.Trees.{Tree}
use Rattle.scheme_model.specs.Meaning.{Meaning, Local, Global, Standard, Free, same_meaning}
use Rattle.scheme_model.specs.RulesShape.{option_map}
use Rattle.scheme_model.specs.Steps.{Broken}
use Rattle.scheme_model.specs.Order.{Note, LookedUp, Compared, Left, Transformer, is_some}
use Rattle.scheme_model.specs.ScopedExpansion.{Frames, FramedIdent, ScopedMacro, ScopedState, macro_at}
use Rattle.scheme_model.specs.OwnAnswers.{root_means}
use Rattle.scheme_model.specs.Questions.{Moment, Around, at_moment, Question, LooksUp, UsesRules, Compares, IsAssigned, Requires, Defines, Means, Expands, bare_macro, answer, SameAnswer}
use Rattle.scheme_model.specs.FormsAlike.{again, bare_kept, bare_state}
use Rattle.model_laws.proofs.EntryLaws.{NoLocal}
use Rattle.model_laws.proofs.IdentKinds.{tree_kind, rules_kind, item_kind, use_kind}
use Rattle.form_laws.specs.Begins.{Each, ItemWith, UseWith, IsMade, IsRooted, MacroStands, Begins, PlaceStands, NoteStands, FormBegins, LeftBegins, RestBegins, SameForm}
use Rattle.form_laws.proofs.AskingSides.{NoLocals, root_no}
use Rattle.form_laws.proofs.OwnStates.{entry_given}
use Rattle.kept_forms.proofs.Bares.{with_more}
use Rattle.forgotten_locals.specs.Outside.{is_outside, macros_outside, outside, around_outside}

-- ---- lists without what is local

module _ {X : Type 0} (f : X → Bool) where
  filter_behind : (xs ys : List X) → filter f (xs ++ ys) ≡ filter f xs ++ filter f ys
  filter_behind [] ys = refl
  filter_behind (x ∷ xs) ys = go (f x) (filter_behind xs ys)
    where
      go : (b : Bool) → filter f (xs ++ ys) ≡ filter f xs ++ filter f ys → cond b (x ∷ filter f (xs ++ ys)) (filter f (xs ++ ys)) ≡ cond b (x ∷ filter f xs) (filter f xs) ++ filter f ys
      go true h = ap (λ zs. x ∷ zs) h
      go false h = h

  filter_twice : (xs : List X) → filter f (filter f xs) ≡ filter f xs
  filter_twice [] = refl
  filter_twice (x ∷ xs) = go (f x) refl (filter_twice xs)
    where
      go : (b : Bool) → f x ≡ b → filter f (filter f xs) ≡ filter f xs → filter f (cond b (x ∷ filter f xs) (filter f xs)) ≡ cond b (x ∷ filter f xs) (filter f xs)
      go true e h = ap (λ c. cond c (x ∷ filter f (filter f xs)) (filter f (filter f xs))) e ∙ ap (λ zs. x ∷ zs) h
      go false e h = h

-- of macros without times the same are outside
pub macros_bare : (ks : List ScopedMacro) → map bare_kept (macros_outside ks) ≡ macros_outside (map bare_kept ks)
macros_bare [] = refl
macros_bare (k ∷ ks) = go (is_outside k.meaning) (macros_bare ks)
  where
    go : (b : Bool) → map bare_kept (macros_outside ks) ≡ macros_outside (map bare_kept ks) → map bare_kept (cond b (k ∷ macros_outside ks) (macros_outside ks)) ≡ cond b (bare_kept k ∷ macros_outside (map bare_kept ks)) (macros_outside (map bare_kept ks))
    go true h = ap (λ zs. bare_kept k ∷ zs) h
    go false h = h

-- ---- macros

-- a local isn't the meaning of what is outside
other_local : (k m : Meaning) → is_outside k ≡ false → is_outside m ≡ true → same_meaning k m ≡ false
other_local (Local v) (Local w) e f = let q : false ≡ true = f in absurd cc
other_local (Local v) (Global u i) e f = refl
other_local (Local v) (Standard x) e f = refl
other_local (Local v) (Free x) e f = refl
other_local (Global u i) m e f = let q : true ≡ false = e in absurd cc
other_local (Standard x) m e f = let q : true ≡ false = e in absurd cc
other_local (Free x) m e f = let q : true ≡ false = e in absurd cc

pub macro_outside : (m : Meaning) → is_outside m ≡ true → (ks : List ScopedMacro) → macro_at (macros_outside ks) m ≡ macro_at ks m
macro_outside m f [] = refl
macro_outside m f (k ∷ ks) = go (is_outside k.meaning) refl (macro_outside m f ks)
  where
    one : Option (Transformer Frames Ident)
    one = Some (record { env = k.frames; rules = k.rules })

    go : (b : Bool) → is_outside k.meaning ≡ b → macro_at (macros_outside ks) m ≡ macro_at ks m → macro_at (cond b (k ∷ macros_outside ks) (macros_outside ks)) m ≡ cond (same_meaning k.meaning m) one (macro_at ks m)
    go true e h = ap (λ o. cond (same_meaning k.meaning m) one o) h
    go false e h = h ∙ sym (ap (λ c. cond c one (macro_at ks m)) (other_local k.meaning m e f))

-- also behind others
macro_behind : (m : Meaning) → is_outside m ≡ true → (ns ks : List ScopedMacro) → macro_at (ns ++ macros_outside ks) m ≡ macro_at (ns ++ ks) m
macro_behind m f [] ks = macro_outside m f ks
macro_behind m f (n ∷ ns) ks = ap (λ o. cond (same_meaning n.meaning m) (Some (record { env = n.frames; rules = n.rules })) o) (macro_behind m f ns ks)

outside_apart : (k : Meaning) (v : Number) → is_outside k ≡ true → same_meaning k (Local v) ≡ false
outside_apart (Local w) v e = let q : false ≡ true = e in absurd cc
outside_apart (Global u i) v e = refl
outside_apart (Standard x) v e = refl
outside_apart (Free x) v e = refl

pub no_local_macro : (ks : List ScopedMacro) (v : Number) → macro_at (macros_outside ks) (Local v) ≡ None
no_local_macro [] v = refl
no_local_macro (k ∷ ks) v = go (is_outside k.meaning) refl (no_local_macro ks v)
  where
    go : (b : Bool) → is_outside k.meaning ≡ b → macro_at (macros_outside ks) (Local v) ≡ None → macro_at (cond b (k ∷ macros_outside ks) (macros_outside ks)) (Local v) ≡ None
    go true e h = ap (λ c. cond c (Some (record { env = k.frames; rules = k.rules })) (macro_at (macros_outside ks) (Local v))) (outside_apart k.meaning v e) ∙ h
    go false e h = h

is_no_local : (m : Meaning) → NoLocal m → is_outside m ≡ true
is_no_local (Local v) h = absurd h
is_no_local (Global u i) h = refl
is_no_local (Standard x) h = refl
is_no_local (Free x) h = refl

-- ---- answers

-- a question that asks for no local macro
abbrev pub AsksOutside : Moment × Question → Type 0
AsksOutside (n, LooksUp i) = Unit {0}
AsksOutside (n, UsesRules m) = is_outside m ≡ true
AsksOutside (n, Compares l i) = Unit {0}
AsksOutside (n, IsAssigned i) = Unit {0}
AsksOutside (n, Requires l) = Unit {0}
AsksOutside (n, Defines fs x r ns) = Unit {0}

module _ (v : Around) (en : NoLocals v) where
  answer_outside : (n : Moment) (q : Question) → AsksOutside (n, q) → answer (around_outside v) n q ≡ answer v n q
  answer_outside n (LooksUp i) h =
      let m = root_means (at_moment v n) i in
      ap (λ o. Means m (is_some o)) (macro_behind m (is_no_local m (root_no (n.table ++ v.state.table) v.state.entry en i)) n.macros v.state.macros)
  answer_outside n (UsesRules m) h = ap (λ o. Expands (option_map bare_macro o)) (macro_behind m h n.macros v.state.macros)
  answer_outside n (Compares l i) h = refl
  answer_outside n (IsAssigned i) h = refl
  answer_outside n (Requires l) h = refl
  answer_outside n (Defines fs x r ns) h = refl

  -- what was asked elsewhere
  pub answers_outside : (w : Around) (qs : List (Moment × Question)) → Each AsksOutside qs → Each (SameAnswer w v) qs → Each (SameAnswer w (around_outside v)) qs
  answers_outside w [] a h = tt
  answers_outside w (q ∷ qs) a h = (answer_outside q.0 q.1 a.0 ∙ h.0, answers_outside w qs a.1 h.1)

  pub answers_inside : (w : Around) (qs : List (Moment × Question)) → Each AsksOutside qs → Each (SameAnswer w (around_outside v)) qs → Each (SameAnswer w v) qs
  answers_inside w [] a h = tt
  answers_inside w (q ∷ qs) a h = (sym (answer_outside q.0 q.1 a.0) ∙ h.0, answers_inside w qs a.1 h.1)

-- ---- what stands

module _ (s : ScopedState) where
  made_outside : (i : Ident) → IsMade s i → IsMade (outside s) i
  made_outside (Written u x) h = tt
  made_outside (Inserted i k) h = (h.0, made_outside i h.1)

  rooted_outside : (i : Ident) → IsRooted s i → IsRooted (outside s) i
  rooted_outside (Written u x) h = tt
  rooted_outside (Inserted i k) h = ((h.0.0, refl), rooted_outside i h.1)

  macro_stands : (m : Meaning) (k : ScopedMacro) → MacroStands s m k → MacroStands (outside s) m k
  macro_stands (Local v) k h = tt
  macro_stands (Global u i) k h = (h.0, with_more rules_kind (IsRooted s) (IsRooted (outside s)) rooted_outside k.rules h.1)
  macro_stands (Standard x) k h = (h.0, with_more rules_kind (IsRooted s) (IsRooted (outside s)) rooted_outside k.rules h.1)
  macro_stands (Free x) k h = (h.0, with_more rules_kind (IsRooted s) (IsRooted (outside s)) rooted_outside k.rules h.1)

  abbrev Stands : ScopedState → ScopedMacro → Type 0
  Stands t k = MacroStands t k.meaning k

  macros_stand : (ks : List ScopedMacro) → Each (Stands s) ks → Each (Stands (outside s)) (macros_outside ks)
  macros_stand [] h = tt
  macros_stand (k ∷ ks) h = go (is_outside k.meaning) (macros_stand ks h.1)
    where
      go : (b : Bool) → Each (Stands (outside s)) (macros_outside ks) → Each (Stands (outside s)) (cond b (k ∷ macros_outside ks) (macros_outside ks))
      go true g = (macro_stands k.meaning k h.0, g)
      go false g = g

  pub begins_outside : Begins s → Begins (outside s)
  begins_outside h = record {
    bodies = λ b c i. refl;
    places = λ k c. refl;
    locals = λ v c. no_local_macro s.macros v;
    defined = λ u i d. made_outside i (h.defined u i d);
    macros = macros_stand s.macros h.macros;
    entries = h.entries;
  }

  place_outside : (l : FramedIdent) → PlaceStands s l → PlaceStands (outside s) l
  place_outside l h = (h.0, rooted_outside l.ident h.1)

  note_outside : (n : Note FramedIdent) → NoteStands s n → NoteStands (outside s) n
  note_outside (LookedUp l head keyword) h = place_outside l h
  note_outside (Compared l j held) h = (place_outside l h.0, place_outside j h.1)

each_more : {X : Type 0} (P Q : X → Type 0) → ((x : X) → P x → Q x) → (xs : List X) → Each P xs → Each Q xs
each_more P Q f [] h = tt
each_more P Q f (x ∷ xs) h = (f x h.0, each_more P Q f xs h.1)

module _ (w : Around) where
  abbrev s : ScopedState
  s = w.state

  pub form_outside : (t : Tree Ident) → FormBegins w t → FormBegins (around_outside w) t
  form_outside t h = record {
    state = begins_outside s h.state;
    stands = with_more tree_kind (IsRooted s) (IsRooted (outside s)) (rooted_outside s) t h.stands;
    notes = each_more (NoteStands s) (NoteStands (outside s)) (note_outside s) w.notes h.notes;
  }

  left_outside : (l : Left Ident) → LeftBegins w l → LeftBegins (around_outside w) l
  left_outside l h = record {
    state = begins_outside s h.state;
    uses = each_more (UseWith (IsRooted s)) (UseWith (IsRooted (outside s))) (λ u q. with_more use_kind (IsRooted s) (IsRooted (outside s)) (rooted_outside s) u q) l.uses h.uses;
    items = each_more (ItemWith (IsRooted s)) (ItemWith (IsRooted (outside s))) (λ i q. with_more item_kind (IsRooted s) (IsRooted (outside s)) (rooted_outside s) i q) l.items h.items;
    macros = h.macros;
  }

  pub rest_outside : (r : Result (Left Ident) Broken) → RestBegins w r → RestBegins (around_outside w) r
  rest_outside (Ok l) h = left_outside l h
  rest_outside (Err e) h = tt

  pub same_outside : SameForm w (around_outside w)
  same_outside = record { unit = refl; form = refl; counts = refl }

pub no_locals : (w : Around) → Begins w.state → NoLocals w
no_locals w h = λ u x. entry_given (w.state.entry u x) (h.entries u x)

-- ---- what is left behind a form

-- outside is outside of the state without times
pub bare_outside : (s : ScopedState) → bare_state (outside s) ≡ outside (bare_state s)
bare_outside s = let e = macros_bare s.macros in λ j. record s { macros = e j; places = []; definitions = [] }

pub outside_alike : (s t : ScopedState) → bare_state s ≡ bare_state t → bare_state (outside s) ≡ bare_state (outside t)
outside_alike s t e = bare_outside s ∙ ap outside e ∙ sym (bare_outside t)

pub outside_twice : (s : ScopedState) → outside (outside s) ≡ outside s
outside_twice s = let e = filter_twice (λ (k : ScopedMacro). is_outside k.meaning) s.macros in λ j. record s { macros = e j; places = []; definitions = [] }

-- a form that went to a moment went to the same outside
pub again_outside : (w : Around) (n : Moment) → outside (again (around_outside w) n) ≡ outside (again w n)
again_outside w n =
    let f : ScopedMacro → Bool = λ (k : ScopedMacro). is_outside k.meaning in
    let e = filter_behind f n.macros (macros_outside w.state.macros) ∙ ap (λ ks. macros_outside n.macros ++ ks) (filter_twice f w.state.macros) ∙ sym (filter_behind f n.macros w.state.macros) in
    λ j. record (again w n) { macros = e j; places = []; definitions = [] }
