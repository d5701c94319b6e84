-- One turn of a form that mentions some units alone, where each of these is the same: it may be kept there too, and leaves them the same.
use Rattle.std.proofs.Common.{◌≡◌, ℕ, ◌+◌, List, [], ◌∷◌, ◌++◌, map, cond, eqb, Option, Some, None, Result, Ok, Err, refl, sym, ap, ◌∙◌, subst}
use Rattle.scheme_model.specs.Ident.{Ident}
use Rattle.scheme_model.specs.Trees.{Tree}
use Rattle.scheme_model.specs.Meaning.{Meaning, Global, Standard, Free}
use Rattle.scheme_model.specs.Requirements.{Known}
use Rattle.scheme_model.specs.Cores.{Part, no_parts}
use Rattle.scheme_model.specs.Steps.{Broken}
use Rattle.scheme_model.specs.Order.{Left, Note, LookedUp, Compared, Pass}
use Rattle.scheme_model.specs.Substitution.{definition_count}
use Rattle.scheme_model.specs.UnitExpansion.{going, nodes_in, with_part, before_parts}
use Rattle.scheme_model.specs.ScopedExpansion.{FramedIdent, ScopedState, macro_at}
use Rattle.scheme_model.specs.CountedExpansion.{counted}
use Rattle.scheme_model.specs.Questions.{Moment, Around, Question, LooksUp, UsesRules, Compares, IsAssigned, Requires, Defines, Answer, Means, Expands, Says, Ends, SameAnswer}
use Rattle.scheme_model.specs.FormsAlike.{bound_moved, left_with, or_fault, set_aside, start, questions_of_pass, questions_of_left, again, bare_note, bare_state}
use Rattle.model_laws.proofs.UnitEnds.{Both, both_end, both_go, both_then, both_over}
use Rattle.form_laws.specs.Begins.{Each, Begins, FormBegins, RestBegins}
use Rattle.form_laws.proofs.Bare.{macro_bare}
use Rattle.form_laws.proofs.OwnStates.{entry_given}
use Rattle.form_laws.proofs.AskingSides.{NoLocals}
use Rattle.question_laws.specs.Noted.{all_noted, IsClosed, SameUnit}
use Rattle.question_laws.proofs.OwnRuns.{pass_known, left_known}
use Rattle.question_laws.proofs.NotedAnswers.{noted_suffice}
use Rattle.kept_forms.specs.KeptForms.{KeptForm, KeptItem, KeptParts, counts_at, put_items, comes_to}
use Rattle.kept_forms.specs.Carried.{PassKept, RestKept, no_counts}
use Rattle.kept_forms.proofs.Bares.{notes_joined}
use Rattle.kept_forms.proofs.Fronts.{EndedLike, GivesLike}
use Rattle.kept_forms.proofs.Numbers.{LeftIs}
use Rattle.kept_forms.proofs.OneForm.{pass_like, BegunAt, rest_like}
use Rattle.kept_forms.proofs.UsesCounted.{counts_here}
use Rattle.mentioned_units.specs.Mentioned.{Mask, MeansIn, NoteIn, Mentions, PassMentions, RestMentions, IsMentioned, IsRestMentioned}
use Rattle.mentioned_units.specs.Unchanged.{defined_as, macro_of, Unchanged, SameSoFar}
use Rattle.mentioned_units.proofs.Told.{defined_behind, macro_behind, count_behind, told_by_units}

-- ---- states

-- and each form has counted as many nodes in both
pub record Alike (mask : Mask) (s t : ScopedState) : Type 0 where
  pub same : Unchanged mask s t
  pub nodes : (f : ℕ) → t.nodes f ≡ s.nodes f

macro_is : (s t : ScopedState) → bare_state t ≡ bare_state s → (m : Meaning) → macro_of t.macros m ≡ macro_of s.macros m
macro_is s t e m = sym (macro_bare t.macros m) ∙ ap (λ (z : ScopedState). macro_at z.macros m) e ∙ macro_bare s.macros m

module _ (mask : Mask) where
  -- times are all one
  pub bare_alike : (s t a b : ScopedState) → bare_state a ≡ bare_state s → bare_state b ≡ bare_state t → Alike mask s t → Alike mask a b
  bare_alike s t a b e d h =
      let k = h.same in
      record {
        same = record {
          unit = ap (λ (z : ScopedState). z.unit) d ∙ k.unit ∙ sym (ap (λ (z : ScopedState). z.unit) e);
          program = ap (λ (z : ScopedState). z.program) d ∙ k.program ∙ sym (ap (λ (z : ScopedState). z.program) e);
          units = λ u q. let x = k.units u q in record {
            defined = λ i. ap (λ (z : ScopedState). defined_as z.table u i) d ∙ x.defined i ∙ sym (ap (λ (z : ScopedState). defined_as z.table u i) e);
            imports = λ y. ap (λ (z : ScopedState). z.entry u y) d ∙ x.imports y ∙ sym (ap (λ (z : ScopedState). z.entry u y) e);
            macros = λ i. macro_is t b d (Global u i) ∙ x.macros i ∙ sym (macro_is s a e (Global u i));
          };
          standard = λ x. macro_is t b d (Standard x) ∙ k.standard x ∙ sym (macro_is s a e (Standard x));
          free = λ x. macro_is t b d (Free x) ∙ k.free x ∙ sym (macro_is s a e (Free x));
          count = ap (λ (z : ScopedState). definition_count z.table z.unit) d ∙ k.count ∙ sym (ap (λ (z : ScopedState). definition_count z.table z.unit) e);
        };
        nodes = λ f. ap (λ (z : ScopedState). z.nodes f) d ∙ h.nodes f ∙ sym (ap (λ (z : ScopedState). z.nodes f) e);
      }

  turned_alike : (s t : ScopedState) → Alike mask s t → (f : ℕ) → Alike mask (record s { form = f }) (record t { form = f })
  turned_alike s t h f =
      let k = h.same in
      record {
        same = record { unit = k.unit; program = k.program; units = λ u q. let x = k.units u q in record { defined = x.defined; imports = x.imports; macros = x.macros }; standard = k.standard; free = k.free; count = k.count };
        nodes = h.nodes;
      }

  -- a form that goes to one moment in both
  module _ (v w : Around) (form : w.state.form ≡ v.state.form) (h : Alike mask v.state w.state) where
    pub again_alike : (n : Moment) → Alike mask (again v n) (again w n)
    again_alike n =
        let k = h.same in
        record {
          same = record {
            unit = k.unit;
            program = k.program;
            units = λ u q. let x = k.units u q in record {
              defined = λ i. defined_behind n.table v.state.table w.state.table u i (x.defined i);
              imports = x.imports;
              macros = λ i. macro_behind n.macros v.state.macros w.state.macros (Global u i) (x.macros i);
            };
            standard = λ x. macro_behind n.macros v.state.macros w.state.macros (Standard x) (k.standard x);
            free = λ x. macro_behind n.macros v.state.macros w.state.macros (Free x) (k.free x);
            count = ap (λ u. definition_count (n.table ++ w.state.table) u) k.unit ∙ count_behind n.table v.state.table w.state.table v.state.unit (ap (λ u. definition_count w.state.table u) (sym k.unit) ∙ k.count);
          };
          nodes = λ f. let d = h.nodes f in λ j. at_one f (form j) (d j);
        }
      where
        at_one : ℕ → ℕ → ℕ → ℕ
        at_one f g c = cond (eqb f g) n.nodes c

  pub nodes_alike : (known there : Known) (fs : List ℕ) (s t : ScopedState) → Alike mask s t → nodes_in (counted there) fs t ≡ nodes_in (counted known) fs s
  nodes_alike known there [] s t h = refl
  nodes_alike known there (f ∷ fs) s t h = let a = h.nodes f in let b = nodes_alike known there fs s t h in λ j. a j + b j

-- ---- questions

abbrev meaning_in : Answer → Meaning
meaning_in (Means m keyword) = m
meaning_in (Expands o) = Free []
meaning_in (Says b) = Free []
meaning_in (Ends o) = Free []

module _ (mask : Mask) (w v : Around) (unit : v.state.unit ≡ w.state.unit) where
  mentions_there : (q : Moment × Question) → SameAnswer w v q → Mentions mask w q → Mentions mask v q
  mentions_there (n, LooksUp i) a h = (h.0, subst (MeansIn mask) (sym (ap meaning_in a)) h.1)
  mentions_there (n, UsesRules m) a h = h
  mentions_there (n, Compares l i) a h = h
  mentions_there (n, IsAssigned i) a h = ap mask.units unit ∙ h
  mentions_there (n, Requires l) a h = h
  mentions_there (n, Defines fs x r ns) a h = (ap mask.units unit ∙ h.0, h.1)

-- w is where the form was expanded, and v and u are surroundings in which its turn comes
module _ (mask : Mask) (w v u : Around) (unit : v.state.unit ≡ w.state.unit) (same : SameSoFar mask v u) where
  answers_there : (qs : List (Moment × Question)) → Each (SameAnswer w v) qs → Each (Mentions mask w) qs → Each (SameAnswer w u) qs
  answers_there [] a m = tt
  answers_there (q ∷ qs) a m = (told_by_units mask v u same q (mentions_there mask w v unit q a.0 m.0) ∙ a.0, answers_there qs a.1 m.1)

no_locals : (w : Around) → Begins w.state → NoLocals w
no_locals w h = λ u x. entry_given (w.state.entry u x) (h.entries u x)

-- ---- the first turn

module _ (mask : Mask) (v u : Around) (turns : ℕ) (same : SameSoFar mask v u) (closed : IsClosed v.state) (there : IsClosed u.state) where
  pass_mentions : (w : Around) (t : Tree Ident) → start v.state ≡ no_counts → start u.state ≡ no_counts → FormBegins v t → FormBegins u t → PassMentions mask w v turns t → PassMentions mask w u turns t
  pass_mentions w t new new2 b c h =
      let k = h.stays in let qs = questions_of_pass w turns t in let en = no_locals w k.begun.state in
      let unit2 = same.state.unit ∙ k.unit in let form2 = same.form ∙ k.form in let program2 = same.state.program ∙ h.program in
      let here : SameUnit w v = record { form = record { unit = k.unit; form = k.form; counts = new ∙ sym k.new }; program = h.program } in
      let beside : SameUnit w u = record { form = record { unit = unit2; form = form2; counts = new2 ∙ sym k.new }; program = program2 } in
      let made = (pass_known w en turns t).1 in
      let noted = (noted_suffice w v here k.begun.state b.state h.closed closed qs made en).1 k.answers in
      let all = (noted_suffice w u beside k.begun.state c.state h.closed there qs made en).0 (answers_there mask w v u k.unit same (all_noted w qs) noted h.mentions) in
      record { stays = record { unit = unit2; form = form2; new = k.new; begun = k.begun; answers = all }; program = program2; closed = h.closed; mentions = h.mentions }

  pub form_mentions : (t : Tree Ident) (o : Option KeptForm) → start v.state ≡ no_counts → start u.state ≡ no_counts → FormBegins v t → FormBegins u t → IsMentioned mask turns v t o → IsMentioned mask turns u t o
  form_mentions t None new new2 b c h = h
  form_mentions t (Some k) new new2 b c (w, h, e, n) = (w, pass_mentions w t new new2 b c h, e, n)

  rest_mentions : (w : Around) (l : Left Ident) → start v.state ≡ start w.state → start u.state ≡ start w.state → Begins v.state → Begins u.state → RestMentions mask w v turns l → RestMentions mask w u turns l
  rest_mentions w l begun begun2 b c h =
      let k = h.stays in let qs = questions_of_left w turns (Ok l) in let en = no_locals w k.begun.state in
      let unit2 = same.state.unit ∙ k.unit in let form2 = same.form ∙ k.form in let program2 = same.state.program ∙ h.program in
      let here : SameUnit w v = record { form = record { unit = k.unit; form = k.form; counts = begun }; program = h.program } in
      let beside : SameUnit w u = record { form = record { unit = unit2; form = form2; counts = begun2 }; program = program2 } in
      let made = (left_known w en turns l).1 in
      let noted = (noted_suffice w v here k.begun.state b h.closed closed qs made en).1 k.answers in
      let all = (noted_suffice w u beside k.begun.state c h.closed there qs made en).0 (answers_there mask w v u k.unit same (all_noted w qs) noted h.mentions) in
      record { stays = record { unit = unit2; form = form2; begun = k.begun; answers = all }; program = program2; closed = h.closed; mentions = h.mentions }

  pub left_mentions : (r : Result (Left Ident) Broken) (o : Option KeptParts) → BegunAt (start v.state) o → BegunAt (start u.state) o → RestBegins v r → RestBegins u r → IsRestMentioned mask turns v r o → IsRestMentioned mask turns u r o
  left_mentions (Err e) None d d2 b c h = tt
  left_mentions (Err e) (Some k) d d2 b c h = absurd h
  left_mentions (Ok m) None d d2 b c h = absurd h
  left_mentions (Ok m) (Some k) d d2 b c (w, l, from, to, h, e) =
      let begun : k.begun ≡ start w.state = ap (λ (z : KeptParts). z.begun) e in
      (w, l, from, to, rest_mentions w l (d ∙ begun) (d2 ∙ begun) b.state c.state h, e)

-- what mentions some units alone may be kept
pub mentioned_kept : (mask : Mask) (turns : ℕ) (v : Around) (t : Tree Ident) (o : Option KeptForm) → IsMentioned mask turns v t o → PassKept v turns t o
mentioned_kept mask turns v t None h = tt
mentioned_kept mask turns v t (Some k) (w, h, e, n) = (w, h.stays, e)

pub mentioned_rest : (mask : Mask) (turns : ℕ) (v : Around) (r : Result (Left Ident) Broken) (o : Option KeptParts) → IsRestMentioned mask turns v r o → RestKept v turns o
mentioned_rest mask turns v (Err e) None h = tt
mentioned_rest mask turns v (Err e) (Some k) h = absurd h
mentioned_rest mask turns v (Ok m) None h = absurd h
mentioned_rest mask turns v (Ok m) (Some k) (w, l, from, to, h, e) = (w, l, from, to, h.stays, e)

-- ---- where it goes to

note_bare_in : (mask : Mask) (n : Note FramedIdent) → NoteIn mask n → NoteIn mask (bare_note n)
note_bare_in mask (LookedUp l head keyword) h = h
note_bare_in mask (Compared l j held) h = h

note_in : (mask : Mask) (n : Note FramedIdent) → NoteIn mask (bare_note n) → NoteIn mask n
note_in mask (LookedUp l head keyword) h = h
note_in mask (Compared l j held) h = h

module _ (mask : Mask) where
  notes_bare : (ns : List (Note FramedIdent)) → Each (NoteIn mask) ns → Each (NoteIn mask) (map bare_note ns)
  notes_bare [] h = tt
  notes_bare (n ∷ ns) h = (note_bare_in mask n h.0, notes_bare ns h.1)

  notes_in : (ns : List (Note FramedIdent)) → Each (NoteIn mask) (map bare_note ns) → Each (NoteIn mask) ns
  notes_in [] h = tt
  notes_in (n ∷ ns) h = (note_in mask n h.0, notes_in ns h.1)

  each_behind : (xs ys : List (Note FramedIdent)) → Each (NoteIn mask) xs → Each (NoteIn mask) ys → Each (NoteIn mask) (xs ++ ys)
  each_behind [] ys h k = k
  each_behind (x ∷ xs) ys h k = (h.0, each_behind xs ys h.1 k)

-- both go to the same
pub record PassAlike (mask : Mask) (form : ℕ) (q m : Pass Ident FramedIdent × ScopedState) : Type 0 where
  pub left : m.0.left ≡ q.0.left
  pub notes : map bare_note m.0.notes ≡ map bare_note q.0.notes
  pub noted : Each (NoteIn mask) q.0.notes
  pub state : Alike mask q.1 m.1
  pub counts : counts_at form m.1 ≡ counts_at form q.1

module _ (mask : Mask) (v u : Around) (turns : ℕ) (same : SameSoFar mask v u) (nodes : (f : ℕ) → u.state.nodes f ≡ v.state.nodes f) where
  abbrev alike : Alike mask v.state u.state
  alike = record { same = same.state; nodes = nodes }

  pub pass_alike : (t : Tree Ident) (o : Option KeptForm) → start v.state ≡ no_counts → start u.state ≡ no_counts → FormBegins v t → FormBegins u t → IsMentioned mask turns v t o → IsMentioned mask turns u t o → PassAlike mask v.state.form (set_aside v turns t) (set_aside u turns t)
  pass_alike t None new new2 b c h k = absurd h
  pass_alike t (Some f) new new2 b c h k =
      let x = pass_like v v refl turns t (Some f) new b (mentioned_kept mask turns v t (Some f) h) in
      let y = pass_like u u refl turns t (Some f) new2 c (mentioned_kept mask turns u t (Some f) k) in
      let n = f.aside.pass.notes in
      record {
        left = y.left ∙ ap (λ m. or_fault (left_with (bound_moved f.aside.before m)) f.aside.pass.left) same.state.count ∙ sym x.left;
        notes = y.notes ∙ notes_joined n u.notes v.notes same.notes ∙ sym x.notes;
        noted = notes_in mask (set_aside v turns t).0.notes (subst (Each (NoteIn mask)) (sym x.notes) (notes_bare mask (n ++ v.notes) (each_behind mask n v.notes h.3 same.noted)));
        state = bare_alike mask (again v f.aside.moment) (again u f.aside.moment) (set_aside v turns t).1 (set_aside u turns t).1 x.state y.state (again_alike mask v u same.form alike f.aside.moment);
        counts = ap (counts_at v.state.form) y.state ∙ (ap (λ z. counts_at z (again u f.aside.moment)) (sym same.form) ∙ (counts_here u f.aside.moment ∙ sym (counts_here v f.aside.moment))) ∙ sym (ap (counts_at v.state.form) x.state);
      }

  -- ---- the second turn

  abbrev EndedAlike : ScopedState → ScopedState → Type 0
  EndedAlike s t = Alike mask s t

  abbrev GivesAlike : {X : Type 0} → ScopedState → ScopedState → X → X → Type 0
  GivesAlike s t x y = Alike mask s t × (y ≡ x)

  put_alike : (fs : List ℕ) (ks : List KeptItem) (s t : ScopedState) → Alike mask s t → Both EndedAlike GivesAlike (put_items v fs ks s) (put_items u fs ks t)
  put_alike fs [] s t h = both_go (Ok no_parts) (Ok no_parts) s t refl refl (h, refl)
  put_alike fs (k ∷ ks) s t h =
      let a = again_alike mask v u same.form alike k.moment in
      both_then (before_parts (put_items v fs ks)) (before_parts (put_items u fs ks))
      (both_over (counted v.known) (counted u.known) fs (k.part, again v k.moment) (k.part, again u k.moment) (nodes_alike mask v.known u.known fs (again v k.moment) (again u k.moment) a) a (a, refl))
      (λ x y c d g. next (λ s t b. put_alike fs ks s t b) x y c d g)
    where
      next : ((s t : ScopedState) → Alike mask s t → Both EndedAlike GivesAlike (put_items v fs ks s) (put_items u fs ks t)) → (x y : Result Part Broken) (s t : ScopedState) → GivesAlike s t x y → Both EndedAlike GivesAlike (before_parts (put_items v fs ks) x s) (before_parts (put_items u fs ks) y t)
      next law x y s t g = subst (λ z. Both EndedAlike GivesAlike (before_parts (put_items v fs ks) x s) (before_parts (put_items u fs ks) z t)) (sym g.1) (one x)
        where
          one : (x : Result Part Broken) → Both EndedAlike GivesAlike (before_parts (put_items v fs ks) x s) (before_parts (put_items u fs ks) x t)
          one (Err e) = both_go (Err e) (Err e) s t refl refl (g.0, refl)
          one (Ok p) = both_then (λ r. going (with_part p r)) (λ r. going (with_part p r)) (law s t g.0) (λ r z a b h. both_go (with_part p r) (with_part p z) a b refl refl (h.0, ap (with_part p) h.1))

  -- as expanded anew
  abbrev value_or : {X : Type 0} → X → Option X → X
  value_or x None = x
  value_or x (Some y) = y

  both_anew : {X : Type 0} {q p m l : Option X × ScopedState} → Both EndedLike GivesLike q p → Both EndedAlike GivesAlike p l → Both EndedLike GivesLike m l → Both EndedAlike GivesAlike q m
  both_anew {X} {q} {p} {m} {l} a b c = go q m (result_of a ∙ result_is b ∙ sym (result_of c)) (joined a b c)
    where
      result_of : {q p : Option X × ScopedState} → Both EndedLike GivesLike q p → q.0 ≡ p.0
      result_of (both_end t s e d h) = ap (λ z. z.0) e ∙ sym (ap (λ z. z.0) d)
      result_of (both_go x y t s e d h) = ap (λ z. z.0) e ∙ sym (ap Some h.1) ∙ sym (ap (λ z. z.0) d)

      result_is : {q p : Option X × ScopedState} → Both EndedAlike GivesAlike q p → q.0 ≡ p.0
      result_is (both_end t s e d h) = ap (λ z. z.0) e ∙ sym (ap (λ z. z.0) d)
      result_is (both_go x y t s e d h) = ap (λ z. z.0) e ∙ sym (ap Some h.1) ∙ sym (ap (λ z. z.0) d)

      state_of : {q p : Option X × ScopedState} → Both EndedLike GivesLike q p → bare_state q.1 ≡ bare_state p.1
      state_of (both_end t s e d h) = ap (λ z. bare_state z.1) e ∙ h ∙ sym (ap (λ z. bare_state z.1) d)
      state_of (both_go x y t s e d h) = ap (λ z. bare_state z.1) e ∙ h.0 ∙ sym (ap (λ z. bare_state z.1) d)

      state_is : {q p : Option X × ScopedState} → Both EndedAlike GivesAlike q p → Alike mask q.1 p.1
      state_is (both_end t s e d h) = subst (λ (z : ScopedState × ScopedState). Alike mask z.0 z.1) (let a = ap (λ z. z.1) (sym e) in let b = ap (λ z. z.1) (sym d) in λ j. (a j, b j)) h
      state_is (both_go x y t s e d h) = subst (λ (z : ScopedState × ScopedState). Alike mask z.0 z.1) (let a = ap (λ z. z.1) (sym e) in let b = ap (λ z. z.1) (sym d) in λ j. (a j, b j)) h.0

      joined : {q p m l : Option X × ScopedState} → Both EndedLike GivesLike q p → Both EndedAlike GivesAlike p l → Both EndedLike GivesLike m l → Alike mask q.1 m.1
      joined {q} {p} {m} {l} a b c = bare_alike mask p.1 l.1 q.1 m.1 (state_of a) (state_of c) (state_is b)

      go : (q m : Option X × ScopedState) → q.0 ≡ m.0 → Alike mask q.1 m.1 → Both EndedAlike GivesAlike q m
      go (None, s) (None, t) e h = both_end s t refl refl h
      go (None, s) (Some y, t) e h = let z : None ≡ Some y = e in absurd cc
      go (Some x, s) (None, t) e h = let z : Some x ≡ None = e in absurd cc
      go (Some x, s) (Some y, t) e h = both_go x y s t refl refl (h, ap (value_or x) (sym e))

  pub rest_alike : (fs : List ℕ) (r : Result (Left Ident) Broken) (o : Option KeptParts) → LeftIs r o → BegunAt (start v.state) o → BegunAt (start u.state) o → RestBegins v r → RestBegins u r → IsRestMentioned mask turns v r o → IsRestMentioned mask turns u r o
      → Both EndedAlike GivesAlike (comes_to v turns fs r None) (comes_to u turns fs r None)
  rest_alike fs (Err e) o i d d2 b c h k = both_go (Err e) (Err e) v.state u.state refl refl (alike, refl)
  rest_alike fs (Ok m) None i d d2 b c h k = absurd h
  rest_alike fs (Ok m) (Some f) i d d2 b c h k =
      both_anew (rest_like v v refl turns fs (Ok m) (Some f) i d b (mentioned_rest mask turns v (Ok m) (Some f) h)) (put_alike fs f.items (again v f.met) (again u f.met) (again_alike mask v u same.form alike f.met))
      (rest_like u u refl turns fs (Ok m) (Some f) i d2 c (mentioned_rest mask turns u (Ok m) (Some f) k))
