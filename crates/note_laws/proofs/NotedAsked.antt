-- Where an expansion that notes goes with one that asks, what it notes when it is asked is told by the questions that are left.
use Rattle.std.proofs.Common.{◌≡◌, ℕ, List, [], ◌∷◌, ◌++◌, map, Bool, true, false, cond, Option, Some, None, refl, sym, ap, ◌∙◌, subst, length}
use Rattle.std.specs.Prelude.{◌||◌}
use Rattle.scheme_model.specs.Identifiers.{Number}
use Rattle.scheme_model.specs.Ident.{Ident}
use Rattle.scheme_model.specs.ExpansionFaults.{Named}
use Rattle.scheme_model.specs.Meaning.{Meaning, Local, Global, Standard, Free, same_meaning, head_as}
use Rattle.scheme_model.specs.RulesShape.{Rules, option_map}
use Rattle.scheme_model.specs.Order.{Transformer, Asked, Meant, Headed, RulesOf, Alike, Assigns, Library, is_some}
use Rattle.scheme_model.specs.Scopes.{local_or}
use Rattle.scheme_model.specs.ScopedExpansion.{Enter, Frames, FramedIdent, ScopedMacro, ScopedState, macro_at, body_around}
use Rattle.scheme_model.specs.ScopedExpansion as scoped
use Rattle.scheme_model.specs.OwnAnswers.{own_local, root_means, own_macro, own_means}
use Rattle.scheme_model.specs.Questions.{Moment, Around, at_moment, own_at, found, Question, LooksUp, UsesRules, Compares, IsAssigned, Answer as ModelAnswer, Means, Expands, Says, bare_macro, unless_own, unless_local, in_unit as ask_in, left_to_ask, dated, all_left, Asking, asking}
use Rattle.scheme_model.specs.FormsAlike.{Leaves}
use Rattle.scheme_model.proofs.RenamingLaws.{append_map}
use Rattle.model_laws.proofs.FrameAsks.{AllOf}
use Rattle.model_laws.proofs.FrameHeads.{IfMacro}
use Rattle.model_laws.proofs.EntryLaws.{NoLocal}
use Rattle.form_laws.specs.Begins.{Each, Begins}
use Rattle.form_laws.proofs.Sides.{Both, AskedLike, TransformerLike, Answer}
use Rattle.form_laws.proofs.AskingSides.{nothing_behind, head_same}
use Rattle.form_laws.proofs.Bare.{SameFrames, body_same, some_mapped, like_of}
use Rattle.form_laws.proofs.Leaving.{assigned_is, outside_macro}
use Rattle.form_laws.proofs.FormLaws.{no_locals}
use Rattle.form_notes.specs.Noted.{Noted, Since, began, is_local, at_start, noted_as, looked_up, compared, is_own, rules_used, assigned_as}
use Rattle.question_laws.specs.Noted.{is_defined_in, before_uses, answers_alone, compares_alone, defines_within}
use Rattle.forgotten_locals.specs.Outside.{IsOutside}
use Rattle.forgotten_locals.proofs.Outsides.{no_local_macro}
use Rattle.noted_steps.specs.Noting.{Noting, state_of, means_here, look_up, in_unit as note_in, note_of, noted_with, noting}
use Rattle.note_laws.specs.Told.{bare_question, bare_noted}
use Rattle.note_laws.proofs.ToldNotes.{since_at, told_at, all_told, IsRuled}
use Rattle.note_laws.proofs.MeansHere.{Here, Good, means_told, root_free}
use Rattle.note_laws.proofs.GoodMoments.{macro_here}

-- ---- lists

all_append : {X : Type 0} (P : X → Type 0) (xs ys : List X) → Each P xs → Each P ys → Each P (xs ++ ys)
all_append P [] ys h l = l
all_append P (x ∷ xs) ys h l = (h.0, all_append P xs ys h.1 l)

append_all : {X : Type 0} (xs ys zs : List X) → (xs ++ ys) ++ zs ≡ xs ++ (ys ++ zs)
append_all [] ys zs = refl
append_all (x ∷ xs) ys zs = ap (λ us. x ∷ us) (append_all xs ys zs)

-- ---- notes without times

bare_as : (r : Since) (now before : Question) (a : ModelAnswer) → bare_question now ≡ now → bare_question before ≡ before → (alone part : Bool) → map bare_noted (noted_as r alone part now before a) ≡ noted_as r alone part now before a
bare_as r now before a p q true part = refl
bare_as r now before a p q false true = λ j. record { behind = length r.own; question = p j; answer = a } ∷ []
bare_as r now before a p q false false = λ j. record { behind = 0; question = q j; answer = a } ∷ []

bare_rules : (m : Meaning) (o : Option (Transformer Frames Ident)) (b : Bool) → map bare_noted (cond b [] (at_start (UsesRules m) (Expands o))) ≡ cond b [] (at_start (UsesRules m) (Expands o))
bare_rules m o true = refl
bare_rules m o false = refl

bare_assigned : (i : Ident) (a : ModelAnswer) (b : Bool) → map bare_noted (cond b [] (at_start (IsAssigned i) a)) ≡ cond b [] (at_start (IsAssigned i) a)
bare_assigned i a true = refl
bare_assigned i a false = refl

free_is : (m : Meaning) → NoLocal m → is_local m ≡ false
free_is (Local v) h = absurd h
free_is (Global u i) h = refl
free_is (Standard x) h = refl
free_is (Free x) h = refl

macro_old : (ks ls : List ScopedMacro) (m : Meaning) → macro_at ls m ≡ None → macro_at (ks ++ ls) m ≡ macro_at ks m
macro_old [] ls m e = e
macro_old (k ∷ ks) ls m e = ap (cond (same_meaning k.meaning m) (Some (record { env = k.frames; rules = k.rules }))) (macro_old ks ls m e)

-- ---- a part of a form

module _ (w : Around) (e0 : ℕ → Option (Transformer Frames Ident)) where
  -- what holds of its moments, where definitions are made in it, and of which macros the rules are asked
  pub record Part : Type 1 where
    pub holds : Moment → Type 0
    pub defines : Frames → Type 0
    pub ruled : Moment → Meaning → Type 0
    -- whether it defines in the unit
    pub unit : Type 0
    pub in_unit : (fs : Frames) → defines fs → body_around fs ≡ None → unit
    pub still : (n m : Moment) → m.table ≡ n.table → holds n → holds m
    pub makes : (n : Moment) (fs : Frames) → defines fs → (x : Named Ident) (r : Option (Rules Ident)) → holds n → holds (found w (body_around fs) x r fs n)
    pub inside : (b : Number) (fs : Frames) → defines (Enter b (λ f. 0) ∷ fs)
    pub there : (n : Moment) (m : Meaning) → is_some (own_macro (own_at n) (at_moment w n) m) ≡ true → ruled n m
    pub own : (n : Moment) (m : Meaning) → holds n → NoLocal m → ruled n m → is_own (since_at w e0 n) m ≡ true → is_some (macro_at (n.macros ++ w.state.macros) m) ≡ true

  all_told_append : (xs ys : List (Moment × Question)) → all_told w e0 (xs ++ ys) ≡ all_told w e0 xs ++ all_told w e0 ys
  all_told_append [] ys = refl
  all_told_append (x ∷ xs) ys = ap (λ zs. told_at w e0 x.0 x.1 ++ zs) (all_told_append xs ys) ∙ sym (append_all (told_at w e0 x.0 x.1) (all_told w e0 xs) (all_told w e0 ys))

  module _ (out : IsOutside w.state) (begins : Begins w.state) (part : Part) where
    abbrev pub Fit : Moment → Frames → Frames → Type 0
    Fit n e f = SameFrames e f × ((Good w n × part.holds n) × Here w n.locals e)

    pub record Near (s : Asking) (t : Noting) : Type 0 where
      pub leaves : Leaves w s.moment (state_of t)
      pub since : t.since ≡ since_at w e0 s.moment
      pub before : part.unit → t.before ≡ length w.notes
      pub noted : map bare_noted t.noted ≡ all_told w e0 s.asked
      pub ruled : Each (IsRuled w e0) s.asked
      pub good : Good w s.moment
      pub holds : part.holds s.moment

    module _ (s : Asking) (t : Noting) (z : Near s t) where
      abbrev n : Moment
      n = s.moment

      abbrev u : ScopedState
      u = state_of t

      -- ---- answers

      pub means_is : (e f : Frames) → Fit n e f → (i : Ident) → means_here t f i ≡ own_means (own_at n) (at_moment w n) e i
      means_is e f h i = means_told w out begins (no_locals w begins) n z.good u z.leaves e f h.0 h.1.1 i

      none_local : (k : Number) → macro_at w.state.macros (Local k) ≡ None
      none_local k = ap (λ ks. macro_at ks (Local k)) (sym (ap (λ (x : ScopedState). x.macros) out)) ∙ no_local_macro w.state.macros k

      macro_is : (m : Meaning) → option_map bare_macro (macro_at t.macros m) ≡ option_map bare_macro (own_macro (own_at n) (at_moment w n) m)
      macro_is (Local k) = outside_macro w n u z.leaves (Local k) ∙ ap (option_map bare_macro) (macro_old n.macros w.state.macros (Local k) (none_local k))
      macro_is (Global v i) = outside_macro w n u z.leaves (Global v i)
      macro_is (Standard x) = outside_macro w n u z.leaves (Standard x)
      macro_is (Free x) = outside_macro w n u z.leaves (Free x)

      keyword_is : (m : Meaning) → is_some (macro_at t.macros m) ≡ is_some (own_macro (own_at n) (at_moment w n) m)
      keyword_is m = sym (some_mapped bare_macro (macro_at t.macros m)) ∙ (ap is_some (macro_is m) ∙ some_mapped bare_macro (own_macro (own_at n) (at_moment w n) m))

      keyword_out : (m : Meaning) → is_some (macro_at t.macros m) ≡ is_some (macro_at (n.macros ++ w.state.macros) m)
      keyword_out m = sym (some_mapped bare_macro (macro_at t.macros m)) ∙ (ap is_some (outside_macro w n u z.leaves m) ∙ some_mapped bare_macro (macro_at (n.macros ++ w.state.macros) m))

      rules_like : (o o2 : Option (Transformer Frames Ident)) → TransformerLike SameFrames o o2 → IfMacro (λ (c : Transformer Frames Ident). Here w n.locals c.env) o → TransformerLike (Fit n) o o2
      rules_like None o2 l h = l
      rules_like (Some c) o2 l h = (l.0, (l.1, ((z.good, z.holds), h)), l.2)

      answered : (q : Asked Frames Ident) → Answer (asking w) (noting w.known) (λ (x : Asking). Fit x.moment) s t q
      answered (Meant e i) = λ f h. means_is e f h i
      answered (Headed e i) = λ f h. (
        means_is e f h i,
        ap (head_as (λ m. is_some (macro_at t.macros m))) (means_is e f h i)
            ∙ head_same (λ m. is_some (macro_at t.macros m)) (λ m. is_some (own_macro (own_at n) (at_moment w n) m)) (own_means (own_at n) (at_moment w n) e i) (keyword_is (own_means (own_at n) (at_moment w n) e i)),
      )
      answered (RulesOf m) = rules_like (own_macro (own_at n) (at_moment w n) m) (macro_at t.macros m) (like_of (own_macro (own_at n) (at_moment w n) m) (macro_at t.macros m) (macro_is m)) (macro_here w n z.good begins m)
      answered (Alike d l e i) = λ g f a b. (let p = means_is d g a l in let q = means_is e f b i in λ j. same_meaning (p j) (q j))
      answered (Assigns e i) = λ f h. ap (λ b. scoped.assigned u b i) (body_same e f h.0) ∙ assigned_is w n u z.leaves (body_around e) i
      answered (Library l) = refl

      pub all_answered : (qs : List (Asked Frames Ident)) → AllOf (Answer (asking w) (noting w.known) (λ (x : Asking). Fit x.moment) s t) qs
      all_answered [] = tt
      all_answered (q ∷ qs) = (answered q, all_answered qs)

      -- ---- what is noted of a question

      abbrev Asks : List Question → List Noted
      Asks qs = all_told w e0 (dated n qs)

      abbrev root : Ident → Meaning
      root i = root_means (at_moment w n) i

      free : (i : Ident) → NoLocal (root i)
      free i = root_free w out begins (no_locals w begins) n z.good u z.leaves i

      look_noted : (i : Ident) (l : Option Number) → map bare_noted (looked_up (since_at w e0 n) i (local_or l (root i)) (is_some (macro_at t.macros (local_or l (root i))))) ≡ Asks (unless_own l (LooksUp i ∷ []))
      look_noted i (Some v) = refl
      look_noted i None =
          let r = since_at w e0 n in
          let with_answer : ModelAnswer → List Noted = λ a. noted_as r (answers_alone (began r) n.table i) (defines_within n.table i) (LooksUp i) (LooksUp (before_uses (began r) i)) a in
          ap (λ b. map bare_noted (cond b [] (with_answer (Means (root i) (is_some (macro_at t.macros (root i))))))) (free_is (root i) (free i))
          ∙ (bare_as r (LooksUp i) (LooksUp (before_uses (began r) i)) (Means (root i) (is_some (macro_at t.macros (root i)))) refl refl (answers_alone (began r) n.table i) (defines_within n.table i)
          ∙ (ap (λ k. with_answer (Means (root i) k)) (keyword_out (root i)) ∙ sym (nothing_behind (told_at w e0 n (LooksUp i)))))

      look_up_noted : (e f : Frames) → Fit n e f → (i : Ident) → map bare_noted (look_up t f i) ≡ Asks (unless_own (own_local (own_at n) e i) (LooksUp i ∷ []))
      look_up_noted e f h i =
          let p = means_is e f h i in let r = z.since in
          (λ j. map bare_noted (looked_up (r j) i (p j) (is_some (macro_at t.macros (p j))))) ∙ look_noted i (own_local (own_at n) e i)

      compare_noted : (l i : Ident) (o q : Option Number) → map bare_noted (compared (since_at w e0 n) l i (local_or o (root l)) (local_or q (root i))) ≡ Asks (unless_own o (unless_own q (Compares l i ∷ [])))
      compare_noted l i (Some v) q = refl
      compare_noted l i None (Some v) =
          let r = since_at w e0 n in
          ap (λ b. map bare_noted (cond (b || true) [] (noted_as r (compares_alone (began r) n.table l i) (defines_within n.table l || defines_within n.table i) (Compares l i) (Compares (before_uses (began r) l) (before_uses (began r) i)) (Says (same_meaning (root l) (Local v)))))) (free_is (root l) (free l))
      compare_noted l i None None =
          let r = since_at w e0 n in
          let both = noted_as r (compares_alone (began r) n.table l i) (defines_within n.table l || defines_within n.table i) (Compares l i) (Compares (before_uses (began r) l) (before_uses (began r) i)) (Says (same_meaning (root l) (root i))) in
          (let a = free_is (root l) (free l) in let b = free_is (root i) (free i) in λ j. map bare_noted (cond (a j || b j) [] both))
          ∙ (bare_as r (Compares l i) (Compares (before_uses (began r) l) (before_uses (began r) i)) (Says (same_meaning (root l) (root i))) refl refl (compares_alone (began r) n.table l i) (defines_within n.table l || defines_within n.table i)
          ∙ sym (nothing_behind (told_at w e0 n (Compares l i))))

      rules_noted : (m : Meaning) → map bare_noted (rules_used t.since m (option_map bare_macro (macro_at t.macros m))) ≡ told_at w e0 n (UsesRules m)
      rules_noted m =
          let p = outside_macro w n u z.leaves m in let r = z.since in
          (λ j. map bare_noted (rules_used (r j) m (p j))) ∙ bare_rules m (option_map bare_macro (macro_at (n.macros ++ w.state.macros) m)) (is_own (since_at w e0 n) m)

      rules_all_noted : (m : Meaning) → map bare_noted (rules_used t.since m (option_map bare_macro (macro_at t.macros m))) ≡ Asks (unless_local m)
      rules_all_noted (Local k) = refl
      rules_all_noted (Global v i) = rules_noted (Global v i) ∙ sym (nothing_behind (told_at w e0 n (UsesRules (Global v i))))
      rules_all_noted (Standard x) = rules_noted (Standard x) ∙ sym (nothing_behind (told_at w e0 n (UsesRules (Standard x))))
      rules_all_noted (Free x) = rules_noted (Free x) ∙ sym (nothing_behind (told_at w e0 n (UsesRules (Free x))))

      assign_noted : (i : Ident) (b : Option Number) → map bare_noted (note_in b (assigned_as t.since i (scoped.assigned u None i))) ≡ Asks (ask_in b (IsAssigned i))
      assign_noted i None =
          let p = assigned_is w n u z.leaves None i in let r = z.since in
          (λ j. map bare_noted (assigned_as (r j) i (p j)))
          ∙ (bare_assigned i (Says (scoped.assigned (at_moment w n) None i)) (is_defined_in n.table w.state.unit i) ∙ sym (nothing_behind (told_at w e0 n (IsAssigned i))))
      assign_noted i (Some b) = refl

      one_noted : (q r : Asked Frames Ident) → AskedLike (part.ruled n) (Fit n) q r → map bare_noted (note_of w.known t r) ≡ Asks (left_to_ask n q)
      one_noted (Meant e i) r a = ap (λ x. map bare_noted (note_of w.known t x)) a.2 ∙ look_up_noted e a.0 a.1 i
      one_noted (Headed e i) r a = ap (λ x. map bare_noted (note_of w.known t x)) a.2 ∙ look_up_noted e a.0 a.1 i
      one_noted (RulesOf m) r a = ap (λ x. map bare_noted (note_of w.known t x)) a.1 ∙ rules_all_noted m
      one_noted (Alike d l e i) r a =
          let p = means_is d a.0 a.2 l in let q = means_is e a.1 a.3 i in let x = z.since in
          ap (λ y. map bare_noted (note_of w.known t y)) a.4
          ∙ ((λ j. map bare_noted (compared (x j) l i (p j) (q j))) ∙ compare_noted l i (own_local (own_at n) d l) (own_local (own_at n) e i))
      one_noted (Assigns e i) r a =
          ap (λ x. map bare_noted (note_of w.known t x)) a.2
          ∙ (ap (λ b. map bare_noted (note_in b (assigned_as t.since i (scoped.assigned u None i)))) (body_same e a.0 a.1.0) ∙ assign_noted i (body_around e))
      one_noted (Library l) r a = ap (λ x. map bare_noted (note_of w.known t x)) a

      asked_noted : (qs rs : List (Asked Frames Ident)) → Both (AskedLike (part.ruled n) (Fit n)) qs rs → map bare_noted (noted_with w.known t rs t.noted) ≡ all_told w e0 (all_left n qs ++ s.asked)
      asked_noted [] [] a = z.noted
      asked_noted [] (r ∷ rs) a = absurd a
      asked_noted (q ∷ qs) [] a = absurd a
      asked_noted (q ∷ qs) (r ∷ rs) a =
          let p = one_noted q r a.0 in let x = asked_noted qs rs a.1 in
          sym (append_map bare_noted (note_of w.known t r) (noted_with w.known t rs t.noted) (sym p) (sym x))
          ∙ (sym (all_told_append (dated n (left_to_ask n q)) (all_left n qs ++ s.asked)) ∙ ap (all_told w e0) (sym (append_all (dated n (left_to_ask n q)) (all_left n qs) s.asked)))

      -- ---- of which macros the rules are asked

      unless_ruled : (o : Option Number) (qs : List Question) → Each (IsRuled w e0) (dated n qs) → Each (IsRuled w e0) (dated n (unless_own o qs))
      unless_ruled None qs h = h
      unless_ruled (Some v) qs h = tt

      in_ruled : (b : Option Number) (i : Ident) → Each (IsRuled w e0) (dated n (ask_in b (IsAssigned i)))
      in_ruled None i = (tt, tt)
      in_ruled (Some b) i = tt

      rules_ruled : (m : Meaning) → part.ruled n m → Each (IsRuled w e0) (dated n (unless_local m))
      rules_ruled (Local k) h = tt
      rules_ruled (Global v i) h = ((tt, λ o. part.own n (Global v i) z.holds tt h o), tt)
      rules_ruled (Standard x) h = ((tt, λ o. part.own n (Standard x) z.holds tt h o), tt)
      rules_ruled (Free x) h = ((tt, λ o. part.own n (Free x) z.holds tt h o), tt)

      one_ruled : (q r : Asked Frames Ident) → AskedLike (part.ruled n) (Fit n) q r → Each (IsRuled w e0) (dated n (left_to_ask n q))
      one_ruled (Meant e i) r a = unless_ruled (own_local (own_at n) e i) (LooksUp i ∷ []) (tt, tt)
      one_ruled (Headed e i) r a = unless_ruled (own_local (own_at n) e i) (LooksUp i ∷ []) (tt, tt)
      one_ruled (RulesOf m) r a = rules_ruled m a.0
      one_ruled (Alike d l e i) r a = unless_ruled (own_local (own_at n) d l) (unless_own (own_local (own_at n) e i) (Compares l i ∷ [])) (unless_ruled (own_local (own_at n) e i) (Compares l i ∷ []) (tt, tt))
      one_ruled (Assigns e i) r a = in_ruled (body_around e) i
      one_ruled (Library l) r a = (tt, tt)

      asked_ruled : (qs rs : List (Asked Frames Ident)) → Both (AskedLike (part.ruled n) (Fit n)) qs rs → Each (IsRuled w e0) (all_left n qs ++ s.asked)
      asked_ruled [] [] a = z.ruled
      asked_ruled [] (r ∷ rs) a = absurd a
      asked_ruled (q ∷ qs) [] a = absurd a
      asked_ruled (q ∷ qs) (r ∷ rs) a =
          subst (Each (IsRuled w e0)) (sym (append_all (dated n (left_to_ask n q)) (all_left n qs) s.asked)) (all_append (IsRuled w e0) (dated n (left_to_ask n q)) (all_left n qs ++ s.asked) (one_ruled q r a.0) (asked_ruled qs rs a.1))

      pub ask_near : (qs rs : List (Asked Frames Ident)) → Both (AskedLike (part.ruled n) (Fit n)) qs rs → Near ((asking w).ask qs s) ((noting w.known).ask rs t)
      ask_near qs rs a = record { leaves = z.leaves; since = z.since; before = z.before; noted = asked_noted qs rs a; ruled = asked_ruled qs rs a; good = z.good; holds = z.holds }
