-- What is noted of a question where it is asked is the note of what is to be noted of it: the question itself where the form's definitions
-- have a part in the answer, else as it is asked when the form begins.
use Rattle.std.proofs.Common.{◌≡◌, ℕ, List, [], ◌∷◌, ◌++◌, map, Bool, true, false, cond, Option, None, refl, sym, ap, ◌∙◌, length}
use Rattle.std.specs.Prelude.{◌&&◌, ◌||◌, not}
use Rattle.std.proofs.lemmas.Bool.{false_from_ne_true, both_ways}
use Rattle.scheme_model.specs.Ident.{Ident, Written, Inserted}
use Rattle.scheme_model.specs.Meaning.{Meaning, Local, Global, Standard, Free, same_meaning}
use Rattle.scheme_model.specs.RulesShape.{option_map}
use Rattle.scheme_model.specs.Order.{Transformer, is_some}
use Rattle.scheme_model.specs.Substitution.{Table, is_variable}
use Rattle.scheme_model.specs.ScopedExpansion.{Frames, macro_at, assigned}
use Rattle.scheme_model.specs.OwnAnswers.{root_means}
use Rattle.scheme_model.specs.Questions.{Moment, Around, at_moment, Question, LooksUp, UsesRules, Compares, IsAssigned, Requires, Defines, Means, Expands, Says, bare, bare_macro, answer}
use Rattle.scheme_model.specs.FormsAlike.{start, bare_note}
use Rattle.scheme_model.proofs.RenamingLaws.{append_map}
use Rattle.model_laws.proofs.EntryLaws.{NoLocal}
use Rattle.form_laws.specs.Begins.{Each, Begins}
use Rattle.form_laws.proofs.AskingSides.{NoLocals, root_no}
use Rattle.question_laws.specs.Noted.{is_to_come, before_uses, is_defined_in, defines_within, answers_alone, compares_alone, noted_as as asked_as, noted, all_noted, IsClosed}
use Rattle.question_laws.proofs.Roots.{or_neither, defined_behind, macro_behind, macro_either, outside_same, to_come_itself, before_same, root_stands}
use Rattle.question_laws.proofs.OwnRuns.{AllMade, macro_own}
use Rattle.question_laws.proofs.NotedAnswers.{look_as, made_new, own_made, stands_not_made}
use Rattle.form_notes.specs.Noted.{Noted, Since, began, at_start, noted_as, is_own, rules_used, assigned_as, required}
use Rattle.note_laws.specs.Told.{bare_question, told, since_of}

module _ (w : Around) (e : ℕ → Option (Transformer Frames Ident)) where
  -- where the part is at a moment
  abbrev pub since_at : Moment → Since
  since_at n = record (since_of w e) { own = n.table }

  -- what is noted of a question, as it is told where it is asked
  abbrev pub told_at : Moment → Question → List Noted
  told_at n (LooksUp i) = noted_as (since_at n) (answers_alone (began (since_at n)) n.table i) (defines_within n.table i) (LooksUp i) (LooksUp (before_uses (began (since_at n)) i)) (answer w n (LooksUp i))
  told_at n (UsesRules m) = rules_used (since_at n) m (option_map bare_macro (macro_at (at_moment w n).macros m))
  told_at n (Compares l i) =
      noted_as (since_at n) (compares_alone (began (since_at n)) n.table l i) (defines_within n.table l || defines_within n.table i) (Compares l i) (Compares (before_uses (began (since_at n)) l) (before_uses (began (since_at n)) i)) (answer w n (Compares l i))
  told_at n (IsAssigned i) = assigned_as (since_at n) i (assigned (at_moment w n) None i)
  told_at n (Requires l) = required l (w.known l)
  told_at n (Defines fs x r ns) = record { behind = length n.table; question = Defines (bare fs) x r (map bare_note ns); answer = answer w n (Defines fs x r ns) } ∷ []

  abbrev pub all_told : List (Moment × Question) → List Noted
  all_told [] = []
  all_told (q ∷ qs) = told_at q.0 q.1 ++ all_told qs

  -- the rules of no local are asked, and of the form's own definitions only those of a macro
  abbrev pub IsRuled : Moment × Question → Type 0
  IsRuled (n, LooksUp i) = Unit {0}
  IsRuled (n, UsesRules m) = NoLocal m × (is_own (since_at n) m ≡ true → is_some (macro_at (n.macros ++ w.state.macros) m) ≡ true)
  IsRuled (n, Compares l i) = Unit {0}
  IsRuled (n, IsAssigned i) = Unit {0}
  IsRuled (n, Requires l) = Unit {0}
  IsRuled (n, Defines fs x r ns) = Unit {0}

  -- ---- as the form began

  alone_began : (own : Table) (n : Moment) (i : Ident) → answers_alone (began (since_at n)) own i ≡ answers_alone w.state own i
  alone_began own n (Written u x) = refl
  alone_began own n (Inserted i k) = ap (λ b. is_defined_in own k.unit (Inserted i k) || (is_to_come w.state k && b)) (alone_began own n i)

  before_began : (n : Moment) (i : Ident) → before_uses (began (since_at n)) i ≡ before_uses w.state i
  before_began n (Written u x) = refl
  before_began n (Inserted i k) = ap (λ j. cond (is_to_come w.state k) j (Inserted i k)) (before_began n i)

  -- ---- one question

  as_told : (n : Moment) (now before : Question) → bare_question now ≡ now → bare_question before ≡ before → (alone part : Bool) → (part ≡ false → answer w n now ≡ answer w (start w.state) before)
      → noted_as (since_at n) alone part now before (answer w n now) ≡ map (told w) (asked_as w alone part (n, now) before)
  as_told n now before p q true part h = refl
  as_told n now before p q false true h = λ j. record { behind = length n.table; question = sym p j; answer = answer w n now } ∷ []
  as_told n now before p q false false h = let x = h refl in λ j. record { behind = 0; question = sym q j; answer = x j } ∷ []

  module _ (begins : Begins w.state) (en : NoLocals w) (closed : IsClosed w.state) (qs : List (Moment × Question)) (n : Moment) (made : AllMade w qs n) where
    -- an identifier when the form begins
    abbrev first_means : Ident → Meaning
    first_means i = root_means w.state (before_uses w.state i)

    outside_first : (i : Ident) → defines_within n.table i ≡ false → root_means (at_moment w n) i ≡ first_means i
    outside_first i f = outside_same n.table w.state.table w.state.entry i f ∙ before_same w.state w.state (to_come_itself w.state begins) i

    not_own : (i : Ident) → is_some (macro_at n.macros (first_means i)) ≡ false
    not_own i =
        let j = before_uses w.state i in let m = root_means w.state j in
        false_from_ne_true (is_some (macro_at n.macros m)) (λ a. stands_not_made w qs n.table made.0 m (root_no w.state.table w.state.entry en j) (root_stands w.state closed j) (macro_own w n.table n.macros made.1 m a))

    look_told : (i : Ident) → told_at n (LooksUp i) ≡ map (told w) (noted w (n, LooksUp i))
    look_told i =
        let a = alone_began n.table n i in let b = before_began n i in
        (λ j. noted_as (since_at n) (a j) (defines_within n.table i) (LooksUp i) (LooksUp (b j)) (answer w n (LooksUp i)))
        ∙ as_told n (LooksUp i) (LooksUp (before_uses w.state i)) refl refl (answers_alone w.state n.table i) (defines_within n.table i)
        (λ f. look_as w n i (first_means i) (outside_first i f) ∙ ap (λ t. Means (first_means i) (t || is_some (macro_at w.state.macros (first_means i)))) (not_own i))

    compare_told : (l i : Ident) → told_at n (Compares l i) ≡ map (told w) (noted w (n, Compares l i))
    compare_told l i =
        let a = alone_began n.table n l in let b = alone_began n.table n i in let c = before_began n l in let d = before_began n i in
        (λ j. noted_as (since_at n) ((a j && (b j || not (defines_within n.table i))) || (b j && not (defines_within n.table l))) (defines_within n.table l || defines_within n.table i) (Compares l i) (Compares (c j) (d j)) (answer w n (Compares l i)))
        ∙ as_told n (Compares l i) (Compares (before_uses w.state l) (before_uses w.state i)) refl refl (compares_alone w.state n.table l i) (defines_within n.table l || defines_within n.table i)
        (λ f. let o = or_neither (defines_within n.table l) (defines_within n.table i) f in let x = outside_first l o.0 in let y = outside_first i o.1 in λ j. Says (same_meaning (x j) (y j)))

    -- a macro of the form's own is one of its definitions, and the other way round
    own_macros : (m : Meaning) → NoLocal m → (is_own (since_at n) m ≡ true → is_some (macro_at (n.macros ++ w.state.macros) m) ≡ true) → is_own (since_at n) m ≡ is_some (macro_at n.macros m)
    own_macros (Local v) l h = absurd l
    own_macros (Global u i) l h = go (is_defined_in n.table u i) refl (is_some (macro_at n.macros (Global u i))) refl
      where
        go : (b : Bool) → is_defined_in n.table u i ≡ b → (c : Bool) → is_some (macro_at n.macros (Global u i)) ≡ c → b ≡ c
        go true d true f = refl
        go true d false f =
            let new = made_new w qs u i (own_made w qs n.table made.0 u i d) in
            let old = sym (ap (λ t. t || is_some (macro_at w.state.macros (Global u i))) f) ∙ (sym (macro_either n.macros w.state.macros (Global u i)) ∙ h d) in
            absurd (both_ways (is_defined_in w.state.table u i) new (closed.kept u i old))
        go false d true f = absurd (both_ways (is_defined_in n.table u i) d (macro_own w n.table n.macros made.1 (Global u i) f))
        go false d false f = refl
    own_macros (Standard x) l h = sym (false_from_ne_true (is_some (macro_at n.macros (Standard x))) (λ a. macro_own w n.table n.macros made.1 (Standard x) a))
    own_macros (Free x) l h = sym (false_from_ne_true (is_some (macro_at n.macros (Free x))) (λ a. macro_own w n.table n.macros made.1 (Free x) a))

    rules_told : (m : Meaning) → IsRuled (n, UsesRules m) → told_at n (UsesRules m) ≡ map (told w) (noted w (n, UsesRules m))
    rules_told m h = ap (λ b. cond b [] (at_start (UsesRules m) (Expands (option_map bare_macro (macro_at (n.macros ++ w.state.macros) m))))) (own_macros m h.0 h.1) ∙ go (is_some (macro_at n.macros m)) refl
      where
        go : (b : Bool) → is_some (macro_at n.macros m) ≡ b → cond b [] (at_start (UsesRules m) (Expands (option_map bare_macro (macro_at (n.macros ++ w.state.macros) m)))) ≡ map (told w) (cond b [] ((start w.state, UsesRules m) ∷ []))
        go true f = refl
        go false f = ap (λ o. at_start (UsesRules m) (Expands (option_map bare_macro o))) (macro_behind n.macros w.state.macros m f)

    assigned_told : (i : Ident) → told_at n (IsAssigned i) ≡ map (told w) (noted w (n, IsAssigned i))
    assigned_told i = go (is_defined_in n.table w.state.unit i) refl
      where
        go : (b : Bool) → is_defined_in n.table w.state.unit i ≡ b → cond b [] (at_start (IsAssigned i) (Says (assigned (at_moment w n) None i))) ≡ map (told w) (cond b [] ((start w.state, IsAssigned i) ∷ []))
        go true f = refl
        go false f = ap (λ d. at_start (IsAssigned i) (Says (w.state.program && is_variable d))) (defined_behind n.table w.state.table w.state.unit i f)

    one_told : (q : Question) → IsRuled (n, q) → told_at n q ≡ map (told w) (noted w (n, q))
    one_told (LooksUp i) h = look_told i
    one_told (UsesRules m) h = rules_told m h
    one_told (Compares l i) h = compare_told l i
    one_told (IsAssigned i) h = assigned_told i
    one_told (Requires l) h = refl
    one_told (Defines fs x r ns) h = refl

  -- ---- all questions

  module _ (begins : Begins w.state) (en : NoLocals w) (closed : IsClosed w.state) (qs : List (Moment × Question)) where
    pub all_noted_told : (xs : List (Moment × Question)) → Each (λ (q : Moment × Question). AllMade w qs q.0) xs → Each IsRuled xs → all_told xs ≡ map (told w) (all_noted w xs)
    all_noted_told [] h r = refl
    all_noted_told ((n, q) ∷ xs) h r = append_map (told w) (noted w (n, q)) (all_noted w xs) (one_told begins en closed qs n h.0 q r.0) (all_noted_told xs h.1 r.1)
