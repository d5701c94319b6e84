-- An answer that is no definition's is read of the root: so notes that are asked behind definitions of the form are tested wherever these
-- stand again.
use Rattle.std.proofs.Common.{◌≡◌, ◌↔◌, inl, inr, ℕ, zero, suc, ◌<◌, List, [], ◌∷◌, map, length, true, false, refl, sym, ap, ◌∙◌, subst, arith, Contains}
use Rattle.std.specs.Prelude.{◌&&◌}
use Rattle.scheme_model.specs.Trees.{Tree}
use Rattle.scheme_model.specs.Ident.{Ident}
use Rattle.scheme_model.specs.Meaning.{Meaning, Local, Global, Standard, Free, same_meaning}
use Rattle.scheme_model.specs.Order.{is_some}
use Rattle.scheme_model.specs.RulesShape.{option_map}
use Rattle.scheme_model.specs.Substitution.{is_variable, defined_in}
use Rattle.scheme_model.specs.ScopedExpansion.{ScopedMacro, ScopedState, macro_at, means_outside}
use Rattle.scheme_model.specs.OwnAnswers.{root_means}
use Rattle.scheme_model.specs.Questions.{Moment, Around, at_moment, Question, LooksUp, UsesRules, Compares, IsAssigned, Requires, Defines, Means, Expands, Says, bare_macro, answer}
use Rattle.scheme_model.specs.FormsAlike.{start, again, bare_kept, questions_of_pass}
use Rattle.model_laws.proofs.EntryLaws.{NoLocal}
use Rattle.form_laws.specs.Begins.{Each, SameForm}
use Rattle.form_laws.proofs.Bare.{macro_bare, some_mapped}
use Rattle.form_laws.proofs.AskingSides.{root_no}
use Rattle.form_laws.proofs.OwnStates.{entry_given}
use Rattle.forgotten_locals.specs.Outside.{is_outside, macros_outside, outside, IsOutsideOf}
use Rattle.forgotten_locals.proofs.Outsides.{macro_outside}
use Rattle.form_notes.specs.Noted.{Noted}
use Rattle.question_laws.specs.Noted.{all_noted, HasPart}
use Rattle.question_laws.proofs.NotedFirst.{all_or, IsFirstOr}
use Rattle.note_laws.specs.Told.{bare_noted, told}
use Rattle.note_laws.specs.Tested.{is_definition, HasAnswer}
use Rattle.note_laws.specs.SameRoots.{SameRoot, NoLocalEntry, IsOfRoot, IsBehind, SameBehind, RootsBehind}
use Rattle.note_laws.proofs.TestedNotes.{later_contained, answer_bare, question_is, answer_is, looks_is, heads, tails}

-- ---- one root

is_no_local : (m : Meaning) → NoLocal m → is_outside m ≡ true
is_no_local (Local v) h = absurd h
is_no_local (Global u i) h = refl
is_no_local (Standard x) h = refl
is_no_local (Free x) h = refl

module _ (v u : Around) (n m : Moment) (entries : NoLocalEntry v.state) (same : SameRoot (at_moment v n) (at_moment u m)) (known : u.known ≡ v.known) where
  means_same : (i : Ident) → root_means (at_moment u m) i ≡ root_means (at_moment v n) i
  means_same i = let a = same.table in let b = same.entry in λ j. means_outside (a j) (b j) [] [] i

  keyword_same : (x : Meaning) → is_outside x ≡ true → is_some (macro_at (at_moment u m).macros x) ≡ is_some (macro_at (at_moment v n).macros x)
  keyword_same x h = sym (some_mapped bare_macro (macro_at (at_moment u m).macros x)) ∙ (ap is_some (same.macros x h) ∙ some_mapped bare_macro (macro_at (at_moment v n).macros x))

  meant_outside : (i : Ident) → is_outside (root_means (at_moment v n) i) ≡ true
  meant_outside i = is_no_local (root_means (at_moment v n) i) (root_no (at_moment v n).table v.state.entry (λ x s. entry_given (v.state.entry x s) (entries x s)) i)

  pub root_answers : (q : Question) → IsOfRoot q → answer u m q ≡ answer v n q
  root_answers (LooksUp i) h =
      let a = means_same i in
      (λ j. Means (a j) (is_some (macro_at (at_moment u m).macros (a j)))) ∙ ap (Means (root_means (at_moment v n) i)) (keyword_same (root_means (at_moment v n) i) (meant_outside i))
  root_answers (UsesRules x) h = ap Expands (same.macros x h)
  root_answers (Compares l i) h = let a = means_same l in let b = means_same i in λ j. Says (same_meaning (a j) (b j))
  root_answers (IsAssigned i) h = let a = same.program in let b = same.table in let c = same.unit in λ j. Says (a j && is_variable (defined_in (b j) (c j) i))
  root_answers (Requires l) h = ap (λ k. Says (k l)) known
  root_answers (Defines fs x r ns) h = absurd h

-- ---- which states have one root

-- the same definitions and imports, and the same macros outside, but for the times at which bodies were entered
pub roots_same : (s t : ScopedState) → t.unit ≡ s.unit → t.program ≡ s.program → t.table ≡ s.table → t.entry ≡ s.entry → map bare_kept (macros_outside t.macros) ≡ map bare_kept (macros_outside s.macros) → SameRoot s t
roots_same s t a b c d e = record {
  unit = a;
  program = b;
  table = c;
  entry = d;
  macros = λ m f. ap (option_map bare_macro) (sym (macro_outside m f t.macros))
      ∙ (sym (macro_bare (macros_outside t.macros) m)
      ∙ (ap (λ (ks : List ScopedMacro). macro_at ks m) e
      ∙ (macro_bare (macros_outside s.macros) m ∙ ap (option_map bare_macro) (macro_outside m f s.macros))));
}

-- a state with nothing local left
pub roots_outside : (s t : ScopedState) → IsOutsideOf s t → SameRoot s t
roots_outside s t e = record {
  unit = ap (λ (z : ScopedState). z.unit) e;
  program = ap (λ (z : ScopedState). z.program) e;
  table = ap (λ (z : ScopedState). z.table) e;
  entry = ap (λ (z : ScopedState). z.entry) e;
  macros = λ m f. sym (macro_bare t.macros m)
      ∙ (ap (λ (z : ScopedState). macro_at z.macros m) e
      ∙ (macro_bare (macros_outside s.macros) m ∙ ap (option_map bare_macro) (macro_outside m f s.macros)));
}

module _ (v : Around) (n : Moment) (entries : NoLocalEntry v.state) where
  -- what the form went to, outside
  abbrev behind : Around
  behind = record { state = outside (again v n); known = v.known; notes = v.notes }

  pub answers_behind : (q : Question) → IsOfRoot q → answer behind (start behind.state) q ≡ answer v n q
  answers_behind q h =
      root_answers v behind n (start behind.state) entries (record { unit = refl; program = refl; table = refl; entry = refl; macros = λ m f. ap (option_map bare_macro) (macro_outside m f (again v n).macros) }) refl q h

-- ---- notes

root_of : (n : Moment) (q : Question) → HasPart (n, q) → is_definition q ≡ false → IsOfRoot q
root_of n (LooksUp i) h d = tt
root_of n (UsesRules m) h d = absurd h
root_of n (Compares l i) h d = tt
root_of n (IsAssigned i) h d = tt
root_of n (Requires l) h d = tt
root_of n (Defines fs x r ns) h d = let z : true ≡ false = d in absurd cc

module _ (w v : Around) (same : SameForm w v) (entries : NoLocalEntry v.state) (u : ℕ → Around) where
  of_root : (q : Moment × Question) → IsFirstOr w q → (length q.0.table ≡ 0 → ⊥) → is_definition q.1 ≡ false → IsOfRoot q.1
  of_root q (inl s) b d = absurd (b (ap (λ (n : Moment). length n.table) s))
  of_root q (inr p) b d = root_of q.0 q.1 p d

  module _ (m : Noted) (q : Moment × Question) (e : bare_noted m ≡ told w q) (first : IsFirstOr w q) (roots : RootsBehind v u q) where
    behind_is : m.behind ≡ length q.0.table
    behind_is = ap (λ (x : Noted). x.behind) e

    abbrev here : Around
    here = u (length q.0.table)

    asked_is : (length q.0.table ≡ 0 → ⊥) → is_definition q.1 ≡ false → answer here (start here.state) m.question ≡ answer v q.0 q.1
    asked_is b d =
        sym (answer_bare here (start here.state) m.question)
        ∙ (ap (answer here (start here.state)) (question_is w v same m q e)
        ∙ (answer_bare here (start here.state) q.1 ∙ root_answers v here q.0 (start here.state) entries (record { unit = roots.root.unit; program = roots.root.program; table = roots.root.table; entry = roots.root.entry; macros = roots.root.macros }) roots.known q.1 (of_root q first b d)))

    to_question : (IsBehind m → HasAnswer (u m.behind) m) → SameBehind w v q
    to_question h b d =
        let t = h (record { behind = λ z. b (sym behind_is ∙ z); looks = looks_is w v same m q e ∙ d }) in
        let y : HasAnswer here m = subst (λ (k : ℕ). HasAnswer (u k) m) behind_is t in
        sym (asked_is b d) ∙ (y ∙ answer_is w v same m q e)

    to_note : SameBehind w v q → IsBehind m → HasAnswer (u m.behind) m
    to_note h k =
        let b : length q.0.table ≡ 0 → ⊥ = λ z. k.behind (behind_is ∙ z) in
        let d : is_definition q.1 ≡ false = sym (looks_is w v same m q e) ∙ k.looks in
        let y : HasAnswer here m = asked_is b d ∙ (h b d ∙ sym (answer_is w v same m q e)) in
        subst (λ (k : ℕ). HasAnswer (u k) m) (sym behind_is) y

  behind_to : (ms : List Noted) (qs : List (Moment × Question)) → map bare_noted ms ≡ map (told w) qs → Each (IsFirstOr w) qs → Each (RootsBehind v u) qs
      → ((m : Noted) → Contains ms m → IsBehind m → HasAnswer (u m.behind) m) → Each (SameBehind w v) qs
  behind_to ms [] e f r h = tt
  behind_to [] (q ∷ qs) e f r h = let z : [] ≡ told w q ∷ map (told w) qs = e in absurd cc
  behind_to (m ∷ ms) (q ∷ qs) e f r h = (
    to_question m q (heads w v same m ms q qs e) f.0 r.0 (h m (zero, omega arith, refl)),
    behind_to ms qs (tails w v same m ms q qs e) f.1 r.1 (λ x c. h x (later_contained m ms x c)),
  )

  behind_from : (ms : List Noted) (qs : List (Moment × Question)) → map bare_noted ms ≡ map (told w) qs → Each (IsFirstOr w) qs → Each (RootsBehind v u) qs → Each (SameBehind w v) qs
      → (m : Noted) → Contains ms m → IsBehind m → HasAnswer (u m.behind) m
  behind_from [] qs e f r h m c k = let l : c.0 < 0 = c.1 in absurd (omega (arith, l))
  behind_from (x ∷ ms) [] e f r h m c k = let z : bare_noted x ∷ map bare_noted ms ≡ [] = e in absurd cc
  behind_from (x ∷ ms) (q ∷ qs) e f r h m (zero, l, p) k = subst (λ (y : Noted). HasAnswer (u y.behind) y) p (to_note x q (heads w v same x ms q qs e) f.0 r.0 h.0 (subst IsBehind (sym p) k))
  behind_from (x ∷ ms) (q ∷ qs) e f r h m (suc c, l, p) k = let j : suc c < suc (length ms) = l in behind_from ms qs (tails w v same x ms q qs e) f.1 r.1 h.1 m (c, omega (arith, j), p) k

  pub pass_behind : (turns : ℕ) (t : Tree Ident) (ms : List Noted) → let qs = all_noted w (questions_of_pass w turns t) in map bare_noted ms ≡ map (told w) qs → Each (RootsBehind v u) qs
      → ((m : Noted) → Contains ms m → IsBehind m → HasAnswer (u m.behind) m) ↔ Each (SameBehind w v) qs
  pass_behind turns t ms e r =
      let qs = questions_of_pass w turns t in
      (behind_to ms (all_noted w qs) e (all_or w qs) r, behind_from ms (all_noted w qs) e (all_or w qs) r)
