-- Each question has the same answer in two surroundings exactly where what is noted for it has.
use Rattle.std.proofs.Common.{◌≡◌, ◌⊎◌, inl, inr, ◌↔◌, ℕ, List, [], ◌∷◌, ◌++◌, Bool, true, false, cond, eqb, Option, Some, None, refl, sym, ap, ◌∙◌, subst, zero, suc, ◌<◌, length, arith, Contains}
use Rattle.std.specs.Prelude.{◌&&◌, ◌||◌, not}
use Rattle.std.proofs.lemmas.Bool.{and_parts, not-true, both_ways, or_cases, false_from_ne_true}
use Rattle.scheme_model.specs.Ident.{Ident, same_ident}
use Rattle.scheme_model.specs.ExpansionFaults.{Named}
use Rattle.scheme_model.specs.Meaning.{Meaning, Local, Global, Standard, Free, same_meaning}
use Rattle.scheme_model.specs.RulesShape.{Rules, option_map}
use Rattle.scheme_model.specs.Order.{Note, Transformer, is_some}
use Rattle.scheme_model.specs.Substitution.{Table, Defined, defined_in, is_variable, any}
use Rattle.scheme_model.specs.ScopedExpansion.{Frames, FramedIdent, macro_at, is_defined}
use Rattle.scheme_model.specs.OwnAnswers.{root_means, unit_refused}
use Rattle.scheme_model.specs.Questions.{Moment, Around, at_moment, own_at, found, Outcome, Stands, Redefines, StoodBefore, outcome_by, unit_outcome, Question, LooksUp, UsesRules, Compares, IsAssigned, Requires, Defines, Answer, Means, Expands, Says, Ends, bare_macro, answer, SameAnswer}
use Rattle.scheme_model.specs.FormsAlike.{start}
use Rattle.model_laws.proofs.EntryLaws.{NoLocal}
use Rattle.form_laws.specs.Begins.{Each, Begins}
use Rattle.form_laws.proofs.AskingSides.{NoLocals, root_no}
use Rattle.question_laws.specs.Noted.{before_uses, is_defined_in, defines_within, answers_alone, compares_alone, noted_as, noted, all_noted, AreNotes, IsClosed, SameUnit}
use Rattle.question_laws.proofs.Roots.{or_neither, defined_front, defined_behind, macro_front, macro_behind, macro_either, outside_same, NotYet, to_come_itself, to_come_there, before_same, own_meaning, IsOwn, alone_own, alone_means, StandsThere, root_stands, same_one, own_apart, own_apart_too}
use Rattle.question_laws.proofs.OwnRuns.{Made, IsLocalOr, AllMade, each_append, macro_own}

-- ---- what an answer says

abbrev meaning_in : Answer → Meaning
meaning_in (Means m keyword) = m
meaning_in (Expands o) = Free []
meaning_in (Says b) = Free []
meaning_in (Ends o) = Free []

abbrev truth_in : Answer → Bool
truth_in (Means m keyword) = keyword
truth_in (Expands o) = false
truth_in (Says b) = b
truth_in (Ends o) = false

abbrev outcome_in : Answer → Outcome
outcome_in (Means m keyword) = Stands
outcome_in (Expands o) = Stands
outcome_in (Says b) = Stands
outcome_in (Ends o) = o

-- ---- definitions of the form are new

stands_new : (refused stood : Bool) → outcome_by refused stood ≡ Stands → stood ≡ false
stands_new true stood e = let q : Redefines ≡ Stands = e in absurd cc
stands_new false true e = let q : StoodBefore ≡ Stands = e in absurd cc
stands_new false false e = refl

-- where a definition stands, nothing of its identifier stood before
new_there : (v : Around) (n : Moment) (fs : Frames) (x : Named Ident) (r : Option (Rules Ident)) (ns : List (Note FramedIdent)) → unit_outcome v n fs x r ns ≡ Stands → is_defined_in v.state.table v.state.unit x.name ≡ false
new_there v n fs x r ns e =
    let m = found v None x r fs n in
    let d = stands_new (any (unit_refused (own_at m) (at_moment v m) (Global v.state.unit x.name) (is_some r)) (ns ++ v.notes)) (is_defined (at_moment v n) None x.name) e in
    behind n.table d
  where
    behind : (own : Table) → is_defined_in (own ++ v.state.table) v.state.unit x.name ≡ false → is_defined_in v.state.table v.state.unit x.name ≡ false
    behind own d = go (is_defined_in own v.state.unit x.name) refl
      where
        go : (b : Bool) → is_defined_in own v.state.unit x.name ≡ b → is_defined_in v.state.table v.state.unit x.name ≡ false
        go true f = let q : true ≡ false = sym (ap is_some (defined_front own v.state.table v.state.unit x.name f) ∙ f) ∙ d in absurd cc
        go false f = sym (ap is_some (defined_behind own v.state.table v.state.unit x.name f)) ∙ d

each_split : {X : Type 0} (P : X → Type 0) (xs ys : List X) → Each P (xs ++ ys) → Each P xs × Each P ys
each_split P [] ys h = (tt, h)
each_split P (x ∷ xs) ys h = let q = each_split P xs ys h.1 in ((h.0, q.0), q.1)

module _ (w : Around) where
  pub made_new : (qs : List (Moment × Question)) (u : ℕ) (i : Ident) → Made w qs u i → is_defined_in w.state.table u i ≡ false
  made_new [] u i h = absurd h
  made_new ((n, LooksUp j) ∷ qs) u i (inl h) = absurd h
  made_new ((n, UsesRules m) ∷ qs) u i (inl h) = absurd h
  made_new ((n, Compares l j) ∷ qs) u i (inl h) = absurd h
  made_new ((n, IsAssigned j) ∷ qs) u i (inl h) = absurd h
  made_new ((n, Requires l) ∷ qs) u i (inl h) = absurd h
  made_new ((n, Defines fs x r ns) ∷ qs) u i (inl h) = (let a = h.0 in let b = h.1 in λ j. is_defined_in w.state.table (sym a j) (sym b j)) ∙ new_there w n fs x r ns h.2
  made_new (q ∷ qs) u i (inr h) = made_new qs u i h

  -- nor in surroundings that answer what is noted alike
  made_new_there : (v : Around) → v.state.unit ≡ w.state.unit → (qs : List (Moment × Question)) → Each (SameAnswer w v) (all_noted w qs) → (u : ℕ) (i : Ident) → Made w qs u i → is_defined_in v.state.table u i ≡ false
  made_new_there v same [] a u i h = absurd h
  made_new_there v same ((n, LooksUp j) ∷ qs) a u i (inl h) = absurd h
  made_new_there v same ((n, UsesRules m) ∷ qs) a u i (inl h) = absurd h
  made_new_there v same ((n, Compares l j) ∷ qs) a u i (inl h) = absurd h
  made_new_there v same ((n, IsAssigned j) ∷ qs) a u i (inl h) = absurd h
  made_new_there v same ((n, Requires l) ∷ qs) a u i (inl h) = absurd h
  made_new_there v same ((n, Defines fs x r ns) ∷ qs) a u i (inl h) =
      (let p = same ∙ h.0 in let b = h.1 in λ j. is_defined_in v.state.table (sym p j) (sym b j)) ∙ new_there v n fs x r ns (ap outcome_in a.0 ∙ h.2)
  made_new_there v same (q ∷ qs) a u i (inr h) = made_new_there v same qs (each_split (SameAnswer w v) (noted w q) (all_noted w qs) a).1 u i h

-- ---- what the form has made

module _ (w : Around) (qs : List (Moment × Question)) where
  made_as : (u v : ℕ) (i j : Ident) → (eqb u v && same_ident i j) ≡ true → Made w qs u i → Made w qs v j
  made_as u v i j e h = let p = same_one u v i j e in subst (λ (z : ℕ). Made w qs z j) p.0 (subst (λ (y : Ident). Made w qs u y) p.1 h)

  pub own_made : (ds : Table) → Each (λ (d : Defined). Made w qs d.unit d.ident) ds → (u : ℕ) (i : Ident) → is_defined_in ds u i ≡ true → Made w qs u i
  own_made [] h u i e = let q : false ≡ true = e in absurd cc
  own_made (d ∷ ds) h u i e = go (eqb d.unit u && same_ident d.ident i) refl (λ f. own_made ds h.1 u i f) e
    where
      go : (b : Bool) → (eqb d.unit u && same_ident d.ident i) ≡ b → (is_defined_in ds u i ≡ true → Made w qs u i) → is_some (cond b (Some d) (defined_in ds u i)) ≡ true → Made w qs u i
      go true f k e = made_as d.unit u d.ident i f h.0
      go false f k e = k e

  -- what stood before isn't among it
  pub stands_not_made : (own : Table) → Each (λ (d : Defined). Made w qs d.unit d.ident) own → (m : Meaning) → NoLocal m → StandsThere w.state.table m → IsLocalOr w own m → ⊥
  stands_not_made own h (Local v) a b e = absurd a
  stands_not_made own h (Global u i) a b e = both_ways (is_defined_in w.state.table u i) (made_new w qs u i (own_made own h u i e)) b
  stands_not_made own h (Standard x) a b e = absurd e
  stands_not_made own h (Free x) a b e = absurd e

-- ---- one question

-- none of these definitions stands there
abbrev New : Table → Table → Type 0
New own table = (u : ℕ) (i : Ident) → is_defined_in own u i ≡ true → is_defined_in table u i ≡ false

pub look_as : (a : Around) (n : Moment) (i : Ident) (m : Meaning) → root_means (at_moment a n) i ≡ m → answer a n (LooksUp i) ≡ Means m (is_some (macro_at n.macros m) || is_some (macro_at a.state.macros m))
look_as a n i m e = ap (λ z. Means z (is_some (macro_at (n.macros ++ a.state.macros) z))) e ∙ ap (λ z. Means m z) (macro_either n.macros a.state.macros m)

abbrev rules_as : Option (Transformer Frames Ident) → Answer
rules_as o = Expands (option_map bare_macro o)

no_macro : (a : Around) → IsClosed a.state → (own : Table) → New own a.state.table → (m : Meaning) → IsOwn own m → is_some (macro_at a.state.macros m) ≡ false
no_macro a closed own new (Local v) h = absurd h
no_macro a closed own new (Global u i) h = false_from_ne_true (is_some (macro_at a.state.macros (Global u i))) (λ e. both_ways (is_defined_in a.state.table u i) (new u i h) (closed.kept u i e))
no_macro a closed own new (Standard x) h = absurd h
no_macro a closed own new (Free x) h = absurd h

-- from b or x to x, where b doesn't hold
or_right : (b x : Bool) → b ≡ false → x ≡ (b || x)
or_right b x e = sym (ap (λ z. z || x) e)

module _ (w v : Around) (same : SameUnit w v) (begins : Begins w.state) (there : Begins v.state) where
  -- what has the same answers
  abbrev Same : List (Moment × Question) → Type 0
  Same qs = Each (SameAnswer w v) qs

  not_yet : NotYet w.state w.state
  not_yet = to_come_itself w.state begins

  not_yet_there : NotYet w.state v.state
  not_yet_there = to_come_there w v same.form there

  -- what it means at the form's start, in both
  abbrev here_means : Ident → Meaning
  here_means i = root_means w.state (before_uses w.state i)

  abbrev there_means : Ident → Meaning
  there_means i = root_means v.state (before_uses w.state i)

  module _ (n : Moment) where
    outside_here : (i : Ident) → defines_within n.table i ≡ false → root_means (at_moment w n) i ≡ here_means i
    outside_here i e = outside_same n.table w.state.table w.state.entry i e ∙ before_same w.state w.state not_yet i

    outside_there : (i : Ident) → defines_within n.table i ≡ false → root_means (at_moment v n) i ≡ there_means i
    outside_there i e = outside_same n.table v.state.table v.state.entry i e ∙ before_same w.state v.state not_yet_there i

    alone_here : (i : Ident) → answers_alone w.state n.table i ≡ true → root_means (at_moment w n) i ≡ own_meaning n.table i
    alone_here i e = alone_means w.state w.state not_yet n.table i e

    alone_there : (i : Ident) → answers_alone w.state n.table i ≡ true → root_means (at_moment v n) i ≡ own_meaning n.table i
    alone_there i e = alone_means w.state v.state not_yet_there n.table i e

    -- ---- from what is noted

    look_outside : (i : Ident) → defines_within n.table i ≡ false → SameAnswer w v (start w.state, LooksUp (before_uses w.state i)) → SameAnswer w v (n, LooksUp i)
    look_outside i e a =
        let p = ap meaning_in a in let q = ap truth_in a in
        look_as v n i (there_means i) (outside_there i e) ∙ ((λ j. Means (p j) (is_some (macro_at n.macros (p j)) || q j)) ∙ sym (look_as w n i (here_means i) (outside_here i e)))

    compare_outside : (l i : Ident) → (defines_within n.table l || defines_within n.table i) ≡ false → SameAnswer w v (start w.state, Compares (before_uses w.state l) (before_uses w.state i)) → SameAnswer w v (n, Compares l i)
    compare_outside l i e a =
        let o = or_neither (defines_within n.table l) (defines_within n.table i) e in
        (let p = outside_there l o.0 in let q = outside_there i o.1 in λ j. Says (same_meaning (p j) (q j))) ∙ (a ∙ sym (let p = outside_here l o.0 in let q = outside_here i o.1 in λ j. Says (same_meaning (p j) (q j))))

    rules_to : (m : Meaning) (b : Bool) → is_some (macro_at n.macros m) ≡ b → Same (cond b [] ((start w.state, UsesRules m) ∷ [])) → SameAnswer w v (n, UsesRules m)
    rules_to m true e a = ap rules_as (macro_front n.macros v.state.macros m e) ∙ sym (ap rules_as (macro_front n.macros w.state.macros m e))
    rules_to m false e a = ap rules_as (macro_behind n.macros v.state.macros m e) ∙ (a.0 ∙ sym (ap rules_as (macro_behind n.macros w.state.macros m e)))

    assigned_there : (i : Ident) (o : Option Defined) → defined_in (n.table ++ v.state.table) w.state.unit i ≡ o → answer v n (IsAssigned i) ≡ Says (v.state.program && is_variable o)
    assigned_there i o e = ap (λ u. Says (v.state.program && is_variable (defined_in (n.table ++ v.state.table) u i))) same.form.unit ∙ ap (λ d. Says (v.state.program && is_variable d)) e

    assigned_here : (i : Ident) (o : Option Defined) → defined_in (n.table ++ w.state.table) w.state.unit i ≡ o → answer w n (IsAssigned i) ≡ Says (w.state.program && is_variable o)
    assigned_here i o e = ap (λ d. Says (w.state.program && is_variable d)) e

    -- as it is asked when the form begins
    assigned_first : (i : Ident) → answer v (start w.state) (IsAssigned i) ≡ Says (v.state.program && is_variable (defined_in v.state.table w.state.unit i))
    assigned_first i = ap (λ u. Says (v.state.program && is_variable (defined_in v.state.table u i))) same.form.unit

    assigned_to : (i : Ident) (b : Bool) → is_defined_in n.table w.state.unit i ≡ b → Same (cond b [] ((start w.state, IsAssigned i) ∷ [])) → SameAnswer w v (n, IsAssigned i)
    assigned_to i true e a =
        let o = defined_in n.table w.state.unit i in
        assigned_there i o (defined_front n.table v.state.table w.state.unit i e)
        ∙ (ap (λ p. Says (p && is_variable o)) same.program ∙ sym (assigned_here i o (defined_front n.table w.state.table w.state.unit i e)))
    assigned_to i false e a =
        assigned_there i (defined_in v.state.table w.state.unit i) (defined_behind n.table v.state.table w.state.unit i e)
        ∙ (sym (assigned_first i) ∙ (a.0 ∙ sym (assigned_here i (defined_in w.state.table w.state.unit i) (defined_behind n.table w.state.table w.state.unit i e))))

    module _ (closed : IsClosed w.state) (closed_there : IsClosed v.state) (new : New n.table w.state.table) (new_there : New n.table v.state.table) where
      look_alone : (i : Ident) → answers_alone w.state n.table i ≡ true → SameAnswer w v (n, LooksUp i)
      look_alone i e =
          let m = own_meaning n.table i in let h = alone_own w.state n.table i e in
          let f = no_macro v closed_there n.table new_there m h ∙ sym (no_macro w closed n.table new m h) in
          look_as v n i m (alone_there i e) ∙ (ap (λ z. Means m (is_some (macro_at n.macros m) || z)) f ∙ sym (look_as w n i m (alone_here i e)))

      -- one is the form's, and the other isn't
      one_alone : (l i : Ident) → answers_alone w.state n.table l ≡ true → defines_within n.table i ≡ false → SameAnswer w v (n, Compares l i)
      one_alone l i e f =
          let m = own_meaning n.table l in let h = alone_own w.state n.table l e in
          let a = (let p = alone_there l e in let q = outside_there i f in λ j. same_meaning (p j) (q j)) ∙ own_apart n.table v.state.table new_there m (there_means i) h (root_stands v.state closed_there (before_uses w.state i)) in
          let b = (let p = alone_here l e in let q = outside_here i f in λ j. same_meaning (p j) (q j)) ∙ own_apart n.table w.state.table new m (here_means i) h (root_stands w.state closed (before_uses w.state i)) in
          ap Says (a ∙ sym b)

      other_alone : (l i : Ident) → answers_alone w.state n.table i ≡ true → defines_within n.table l ≡ false → SameAnswer w v (n, Compares l i)
      other_alone l i e f =
          let m = own_meaning n.table i in let h = alone_own w.state n.table i e in
          let a = (let p = outside_there l f in let q = alone_there i e in λ j. same_meaning (p j) (q j)) ∙ own_apart_too n.table v.state.table new_there m (there_means l) h (root_stands v.state closed_there (before_uses w.state l)) in
          let b = (let p = outside_here l f in let q = alone_here i e in λ j. same_meaning (p j) (q j)) ∙ own_apart_too n.table w.state.table new m (here_means l) h (root_stands w.state closed (before_uses w.state l)) in
          ap Says (a ∙ sym b)

      both_alone : (l i : Ident) → answers_alone w.state n.table l ≡ true → answers_alone w.state n.table i ≡ true → SameAnswer w v (n, Compares l i)
      both_alone l i e f =
          (let p = alone_there l e in let q = alone_there i f in λ j. Says (same_meaning (p j) (q j))) ∙ sym (let p = alone_here l e in let q = alone_here i f in λ j. Says (same_meaning (p j) (q j)))

      compare_alone : (l i : Ident) → compares_alone w.state n.table l i ≡ true → SameAnswer w v (n, Compares l i)
      compare_alone l i e =
          let x = answers_alone w.state n.table l in let y = answers_alone w.state n.table i in
          first (or_cases (x && (y || not (defines_within n.table i))) (y && not (defines_within n.table l)) e)
        where
          second : answers_alone w.state n.table l ≡ true → ((answers_alone w.state n.table i ≡ true) ⊎ (not (defines_within n.table i) ≡ true)) → SameAnswer w v (n, Compares l i)
          second e (inl f) = both_alone l i e f
          second e (inr f) = one_alone l i e (not-true (defines_within n.table i) f)

          first : (((answers_alone w.state n.table l && (answers_alone w.state n.table i || not (defines_within n.table i))) ≡ true) ⊎ ((answers_alone w.state n.table i && not (defines_within n.table l)) ≡ true)) → SameAnswer w v (n, Compares l i)
          first (inl h) =
              let p = and_parts (answers_alone w.state n.table l) (answers_alone w.state n.table i || not (defines_within n.table i)) h in
              second p.0 (or_cases (answers_alone w.state n.table i) (not (defines_within n.table i)) p.1)
          first (inr h) = let p = and_parts (answers_alone w.state n.table i) (not (defines_within n.table l)) h in other_alone l i p.0 (not-true (defines_within n.table l) p.1)

      told_by : (alone part : Bool) (q z : Question) → (alone ≡ true → SameAnswer w v (n, q)) → (part ≡ false → SameAnswer w v (start w.state, z) → SameAnswer w v (n, q)) → Same (noted_as w alone part (n, q) z) → SameAnswer w v (n, q)
      told_by true part q z f g a = f refl
      told_by false true q z f g a = a.0
      told_by false false q z f g a = g refl a.0

      told : (q : Question) → Same (noted w (n, q)) → SameAnswer w v (n, q)
      told (LooksUp i) a = told_by (answers_alone w.state n.table i) (defines_within n.table i) (LooksUp i) (LooksUp (before_uses w.state i)) (λ e. look_alone i e) (λ e b. look_outside i e b) a
      told (UsesRules m) a = rules_to m (is_some (macro_at n.macros m)) refl a
      told (Compares l i) a =
          told_by (compares_alone w.state n.table l i) (defines_within n.table l || defines_within n.table i) (Compares l i) (Compares (before_uses w.state l) (before_uses w.state i)) (λ e. compare_alone l i e) (λ e b. compare_outside l i e b) a
      told (IsAssigned i) a = assigned_to i (is_defined_in n.table w.state.unit i) refl a
      told (Requires l) a = a.0
      told (Defines fs x r ns) a = a.0

    -- ---- to what is noted

    -- of what means something outside it, the form has no macro
    look_first : (i : Ident) → defines_within n.table i ≡ false → is_some (macro_at n.macros (here_means i)) ≡ false → SameAnswer w v (n, LooksUp i) → SameAnswer w v (start w.state, LooksUp (before_uses w.state i))
    look_first i e none b =
        let r = sym (look_as v n i (there_means i) (outside_there i e)) ∙ (b ∙ look_as w n i (here_means i) (outside_here i e)) in
        let p = ap meaning_in r in let q = ap truth_in r in
        let no_there = ap (λ m. is_some (macro_at n.macros m)) p ∙ none in
        let z = or_right (is_some (macro_at n.macros (there_means i))) (is_some (macro_at v.state.macros (there_means i))) no_there
        ∙ (q ∙ sym (or_right (is_some (macro_at n.macros (here_means i))) (is_some (macro_at w.state.macros (here_means i))) none)) in
        λ j. Means (p j) (z j)

    compare_first : (l i : Ident) → (defines_within n.table l || defines_within n.table i) ≡ false → SameAnswer w v (n, Compares l i) → SameAnswer w v (start w.state, Compares (before_uses w.state l) (before_uses w.state i))
    compare_first l i e b =
        let o = or_neither (defines_within n.table l) (defines_within n.table i) e in
        sym (let p = outside_there l o.0 in let q = outside_there i o.1 in λ j. Says (same_meaning (p j) (q j))) ∙ (b ∙ (let p = outside_here l o.0 in let q = outside_here i o.1 in λ j. Says (same_meaning (p j) (q j))))

    rules_back : (m : Meaning) (b : Bool) → is_some (macro_at n.macros m) ≡ b → SameAnswer w v (n, UsesRules m) → Same (cond b [] ((start w.state, UsesRules m) ∷ []))
    rules_back m true e a = tt
    rules_back m false e a = (sym (ap rules_as (macro_behind n.macros v.state.macros m e)) ∙ (a ∙ ap rules_as (macro_behind n.macros w.state.macros m e)), tt)

    assigned_back : (i : Ident) (b : Bool) → is_defined_in n.table w.state.unit i ≡ b → SameAnswer w v (n, IsAssigned i) → Same (cond b [] ((start w.state, IsAssigned i) ∷ []))
    assigned_back i true e a = tt
    assigned_back i false e a = (
      assigned_first i
          ∙ (sym (assigned_there i (defined_in v.state.table w.state.unit i) (defined_behind n.table v.state.table w.state.unit i e))
          ∙ (a ∙ assigned_here i (defined_in w.state.table w.state.unit i) (defined_behind n.table w.state.table w.state.unit i e))),
      tt,
    )

    back_by : (alone part : Bool) (q z : Question) → (part ≡ false → SameAnswer w v (n, q) → SameAnswer w v (start w.state, z)) → SameAnswer w v (n, q) → Same (noted_as w alone part (n, q) z)
    back_by true part q z g a = tt
    back_by false true q z g a = (a, tt)
    back_by false false q z g a = (g refl a, tt)

    module _ (outside_no : (i : Ident) → is_some (macro_at n.macros (here_means i)) ≡ false) where
      noted_back : (q : Question) → SameAnswer w v (n, q) → Same (noted w (n, q))
      noted_back (LooksUp i) a = back_by (answers_alone w.state n.table i) (defines_within n.table i) (LooksUp i) (LooksUp (before_uses w.state i)) (λ e b. look_first i e (outside_no i) b) a
      noted_back (UsesRules m) a = rules_back m (is_some (macro_at n.macros m)) refl a
      noted_back (Compares l i) a =
          back_by (compares_alone w.state n.table l i) (defines_within n.table l || defines_within n.table i) (Compares l i) (Compares (before_uses w.state l) (before_uses w.state i)) (λ e b. compare_first l i e b) a
      noted_back (IsAssigned i) a = assigned_back i (is_defined_in n.table w.state.unit i) refl a
      noted_back (Requires l) a = (a, tt)
      noted_back (Defines fs x r ns) a = (a, tt)

  -- ---- all questions

  module _ (closed : IsClosed w.state) (closed_there : IsClosed v.state) (qs : List (Moment × Question)) (made : Each (λ (q : Moment × Question). AllMade w qs q.0) qs) where
    new_here : (n : Moment) → AllMade w qs n → New n.table w.state.table
    new_here n h u i e = made_new w qs u i (own_made w qs n.table h.0 u i e)

    module _ (same_noted : Same (all_noted w qs)) where
      new_then : (n : Moment) → AllMade w qs n → New n.table v.state.table
      new_then n h u i e = made_new_there w v same.form.unit qs same_noted u i (own_made w qs n.table h.0 u i e)

      all_told : (xs : List (Moment × Question)) → Each (λ (q : Moment × Question). AllMade w qs q.0) xs → Same (all_noted w xs) → Same xs
      all_told [] h a = tt
      all_told ((n, q) ∷ xs) h a =
          let z = each_split (SameAnswer w v) (noted w (n, q)) (all_noted w xs) a in
          (told n closed closed_there (new_here n h.0) (new_then n h.0) q z.0, all_told xs h.1 z.1)

    outside_macro : NoLocals w → (n : Moment) → AllMade w qs n → (i : Ident) → is_some (macro_at n.macros (root_means w.state (before_uses w.state i))) ≡ false
    outside_macro en n h i =
        let j = before_uses w.state i in let m = root_means w.state j in
        false_from_ne_true (is_some (macro_at n.macros m)) (λ e. stands_not_made w qs n.table h.0 m (root_no w.state.table w.state.entry en j) (root_stands w.state closed j) (macro_own w n.table n.macros h.1 m e))

    all_back : NoLocals w → (xs : List (Moment × Question)) → Each (λ (q : Moment × Question). AllMade w qs q.0) xs → Same xs → Same (all_noted w xs)
    all_back en [] h a = tt
    all_back en ((n, q) ∷ xs) h a = each_append w (SameAnswer w v) (noted w (n, q)) (all_noted w xs) (noted_back n (outside_macro en n h.0) q a.0) (all_back en xs h.1 a.1)

    pub noted_suffice : NoLocals w → Same (all_noted w qs) ↔ Same qs
    noted_suffice en = (λ a. all_told a qs made a, λ a. all_back en qs made a)

-- ---- in any order

contained : {X : Type 0} (P : X → Type 0) (xs : List X) (x : X) → Each P xs → Contains xs x → P x
contained P [] x h c = let l : c.0 < 0 = c.1 in absurd (omega (arith, l))
contained P (y ∷ ys) x h (zero, l, e) = subst P e h.0
contained P (y ∷ ys) x h (suc k, l, e) = contained P ys x h.1 (k, (let m : suc k < suc (length ys) = l in omega (arith, m)), e)

each_contained : {X : Type 0} (P : X → Type 0) (xs ys : List X) → Each (λ (y : X). Contains xs y) ys → Each P xs → Each P ys
each_contained P xs [] c h = tt
each_contained P xs (y ∷ ys) c h = (contained P xs y h c.0, each_contained P xs ys c.1 h)

pub notes_suffice : (w v : Around) (qs ns : List (Moment × Question)) → AreNotes w qs ns → Each (SameAnswer w v) ns ↔ Each (SameAnswer w v) (all_noted w qs)
notes_suffice w v qs ns h = (λ a. each_contained (SameAnswer w v) ns (all_noted w qs) h.all a, λ a. each_contained (SameAnswer w v) (all_noted w qs) ns h.alone a)
