-- Where the notes of a form's start have their answers in other surroundings of the form, so have the questions, and the other way round.
use Rattle.std.proofs.Common.{◌≡◌, ◌↔◌, inl, inr, ℕ, zero, suc, ◌<◌, List, [], ◌∷◌, ◌++◌, map, length, Bool, true, false, None, Ok, refl, sym, ap, ◌∙◌, subst, arith, Contains}
use Rattle.std.specs.Prelude.{◌||◌}
use Rattle.scheme_model.specs.Ident.{Ident, Written, Inserted}
use Rattle.scheme_model.specs.Trees.{Tree}
use Rattle.scheme_model.specs.Meaning.{Meaning, Global}
use Rattle.scheme_model.specs.Order.{Left, is_some}
use Rattle.scheme_model.specs.Substitution.{Table, any}
use Rattle.scheme_model.specs.Scopes.{local_or}
use Rattle.scheme_model.specs.ScopedExpansion.{FramedIdent, is_defined}
use Rattle.scheme_model.specs.OwnAnswers.{root_means, own_means, unit_refused}
use Rattle.scheme_model.specs.Questions.{Moment, Around, at_moment, own_at, found, outcome_by, Question, LooksUp, UsesRules, Compares, IsAssigned, Requires, Defines, Ends, answer, SameAnswer}
use Rattle.scheme_model.specs.FormsAlike.{bare_note, start, questions_of_pass, questions_of_left}
use Rattle.form_laws.specs.Begins.{Each, Begins, SameForm}
use Rattle.form_laws.proofs.Bare.{own_bare, any_bare}
use Rattle.form_laws.proofs.FormLaws.{no_locals}
use Rattle.form_notes.specs.Noted.{Noted}
use Rattle.question_laws.specs.Noted.{defines_within, all_noted, HasPart}
use Rattle.question_laws.proofs.NotedFirst.{left_noted_first, all_or, IsFirst, IsFirstOr}
use Rattle.note_laws.specs.Told.{bare_question, bare_noted, told}
use Rattle.note_laws.specs.Tested.{is_definition, IsOfStart, HasAnswer, SameAtStart}

-- ---- lists

tail_or : {X : Type 0} → List X → List X
tail_or [] = []
tail_or (x ∷ xs) = xs

head_or : {X : Type 0} → X → List X → X
head_or d [] = d
head_or d (x ∷ xs) = x

pub later_contained : {X : Type 0} (x : X) (xs : List X) (y : X) → Contains xs y → Contains (x ∷ xs) y
later_contained x xs y c = let l : c.0 < length xs = c.1 in (suc c.0, omega (arith, l), c.2)

-- ---- no answer reads the times at which bodies were entered

either : (a b c : Bool) → (a || (b || c)) ≡ ((a || b) || c)
either true b c = refl
either false b c = refl

append_any : {X : Type 0} (f : X → Bool) (xs zs : List X) → any f (xs ++ zs) ≡ (any f xs || any f zs)
append_any f [] zs = refl
append_any f (x ∷ xs) zs = ap (λ b. f x || b) (append_any f xs zs) ∙ either (f x) (any f xs) (any f zs)

both_any : {X : Type 0} (f : X → Bool) (xs ys zs : List X) → any f xs ≡ any f ys → any f (xs ++ zs) ≡ any f (ys ++ zs)
both_any f xs ys zs e = append_any f xs zs ∙ (ap (λ b. b || any f zs) e ∙ sym (append_any f ys zs))

pub answer_bare : (v : Around) (n : Moment) (q : Question) → answer v n (bare_question q) ≡ answer v n q
answer_bare v n (LooksUp i) = refl
answer_bare v n (UsesRules m) = refl
answer_bare v n (Compares l i) = refl
answer_bare v n (IsAssigned i) = refl
answer_bare v n (Requires l) = refl
answer_bare v n (Defines fs x r ns) =
    let m = found v None x r fs n in
    let means : FramedIdent → Meaning = λ (p : FramedIdent). own_means (own_at m) (at_moment v m) p.frames p.ident in
    let g = Global v.state.unit x.name in
    let timeless = any_bare (is_some r) g means means (λ p. ap (λ l. local_or l (root_means (at_moment v m) p.ident)) (own_bare (own_at m) p.frames p.ident)) ns in
    ap (λ b. Ends (outcome_by b (is_defined (at_moment v n) None x.name))) (both_any (unit_refused (own_at m) (at_moment v m) g (is_some r)) (map bare_note ns) ns v.notes (sym timeless))

pub definition_bare : (q : Question) → is_definition (bare_question q) ≡ is_definition q
definition_bare (LooksUp i) = refl
definition_bare (UsesRules m) = refl
definition_bare (Compares l i) = refl
definition_bare (IsAssigned i) = refl
definition_bare (Requires l) = refl
definition_bare (Defines fs x r ns) = refl

-- ---- what the form's own definitions have a part in isn't of its start

none_within : (own : Table) (i : Ident) → length own ≡ 0 → defines_within own i ≡ false
none_within [] (Written u x) e = refl
none_within [] (Inserted i k) e = none_within [] i e
none_within (d ∷ own) i e = let l : suc (length own) ≡ 0 = e in absurd (omega (arith, l))

no_part : (n : Moment) (q : Question) → length n.table ≡ 0 → is_definition q ≡ false → HasPart (n, q) → ⊥
no_part n (LooksUp i) e d h = let a = none_within n.table i e in let z : false ≡ true = sym a ∙ h in absurd cc
no_part n (UsesRules m) e d h = h
no_part n (Compares l i) e d h = let a = none_within n.table l e in let b = none_within n.table i e in let z : false ≡ true = (λ j. sym a j || sym b j) ∙ h in absurd cc
no_part n (IsAssigned i) e d h = h
no_part n (Requires l) e d h = h
no_part n (Defines fs x r ns) e d h = let z : true ≡ false = d in absurd cc

module _ (w v : Around) (same : SameForm w v) where
  -- a note of the start, and the question that it stands for
  module _ (m : Noted) (q : Moment × Question) (e : bare_noted m ≡ told w q) where
    pub question_is : bare_question m.question ≡ bare_question q.1
    question_is = ap (λ (x : Noted). x.question) e

    pub answer_is : m.answer ≡ answer w q.0 q.1
    answer_is = ap (λ (x : Noted). x.answer) e

    there_is : q.0 ≡ start w.state → answer v (start v.state) m.question ≡ answer v q.0 q.1
    there_is s =
        sym (answer_bare v (start v.state) m.question)
        ∙ (ap (answer v (start v.state)) question_is
        ∙ (answer_bare v (start v.state) q.1 ∙ ap (λ n. answer v n q.1) (same.counts ∙ sym s)))

    to_question : q.0 ≡ start w.state → HasAnswer v m → SameAnswer w v q
    to_question s h = sym (there_is s) ∙ (h ∙ answer_is)

    to_note : q.0 ≡ start w.state → SameAnswer w v q → HasAnswer v m
    to_note s h = there_is s ∙ (h ∙ sym answer_is)

    pub looks_is : is_definition m.question ≡ is_definition q.1
    looks_is = sym (definition_bare m.question) ∙ (ap is_definition question_is ∙ definition_bare q.1)

    -- it is of the start exactly where the question is
    of_start : q.0 ≡ start w.state → is_definition q.1 ≡ false → IsOfStart m
    of_start s d = record { behind = ap (λ (x : Noted). x.behind) e ∙ ap (λ (n : Moment). length n.table) s; looks = looks_is ∙ d }

    is_start : IsFirstOr w q → IsOfStart m → q.0 ≡ start w.state
    is_start (inl s) h = s
    is_start (inr p) h = absurd (no_part q.0 q.1 (sym (ap (λ (x : Noted). x.behind) e) ∙ h.behind) (sym looks_is ∙ h.looks) p)

  pub heads : (m : Noted) (ms : List Noted) (q : Moment × Question) (qs : List (Moment × Question)) → map bare_noted (m ∷ ms) ≡ map (told w) (q ∷ qs) → bare_noted m ≡ told w q
  unfolding head_or
  heads m ms q qs e = ap (head_or (bare_noted m)) e

  pub tails : (m : Noted) (ms : List Noted) (q : Moment × Question) (qs : List (Moment × Question)) → map bare_noted (m ∷ ms) ≡ map (told w) (q ∷ qs) → map bare_noted ms ≡ map (told w) qs
  unfolding tail_or
  tails m ms q qs e = ap tail_or e

  -- ---- those of the start

  tested_to : (ms : List Noted) (qs : List (Moment × Question)) → map bare_noted ms ≡ map (told w) qs → ((m : Noted) → Contains ms m → IsOfStart m → HasAnswer v m) → Each (SameAtStart w v) qs
  tested_to ms [] e h = tt
  tested_to [] (q ∷ qs) e h = let z : [] ≡ told w q ∷ map (told w) qs = e in absurd cc
  tested_to (m ∷ ms) (q ∷ qs) e h = (
    λ s d. to_question m q (heads m ms q qs e) s (h m (zero, omega arith, refl) (of_start m q (heads m ms q qs e) s d)),
    tested_to ms qs (tails m ms q qs e) (λ x c. h x (later_contained m ms x c)),
  )

  tested_from : (ms : List Noted) (qs : List (Moment × Question)) → map bare_noted ms ≡ map (told w) qs → Each (IsFirstOr w) qs → Each (SameAtStart w v) qs → (m : Noted) → Contains ms m → IsOfStart m → HasAnswer v m
  tested_from [] qs e f h m c s = let l : c.0 < 0 = c.1 in absurd (omega (arith, l))
  tested_from (x ∷ ms) [] e f h m c s = let z : bare_noted x ∷ map bare_noted ms ≡ [] = e in absurd cc
  tested_from (x ∷ ms) (q ∷ qs) e f h m (zero, l, p) s =
      let t = subst IsOfStart (sym p) s in let first = is_start x q (heads x ms q qs e) f.0 t in
      subst (HasAnswer v) p (to_note x q (heads x ms q qs e) first (h.0 first (sym (looks_is x q (heads x ms q qs e)) ∙ t.looks)))
  tested_from (x ∷ ms) (q ∷ qs) e f h m (suc k, l, p) s =
      let j : suc k < suc (length ms) = l in tested_from ms qs (tails x ms q qs e) f.1 h.1 m (k, omega (arith, j), p) s

  pub pass_tested : (turns : ℕ) (t : Tree Ident) (ms : List Noted) → map bare_noted ms ≡ map (told w) (all_noted w (questions_of_pass w turns t))
      → ((m : Noted) → Contains ms m → IsOfStart m → HasAnswer v m) ↔ Each (SameAtStart w v) (all_noted w (questions_of_pass w turns t))
  pass_tested turns t ms e =
      let qs = questions_of_pass w turns t in
      (tested_to ms (all_noted w qs) e, tested_from ms (all_noted w qs) e (all_or w qs))

  -- ---- all, where all are of the start

  all_to : (ms : List Noted) (qs : List (Moment × Question)) → map bare_noted ms ≡ map (told w) qs → Each (IsFirst w) qs → ((m : Noted) → Contains ms m → HasAnswer v m) → Each (SameAnswer w v) qs
  all_to ms [] e f h = tt
  all_to [] (q ∷ qs) e f h = let z : [] ≡ told w q ∷ map (told w) qs = e in absurd cc
  all_to (m ∷ ms) (q ∷ qs) e f h = (to_question m q (heads m ms q qs e) f.0 (h m (zero, omega arith, refl)), all_to ms qs (tails m ms q qs e) f.1 (λ x c. h x (later_contained m ms x c)))

  all_from : (ms : List Noted) (qs : List (Moment × Question)) → map bare_noted ms ≡ map (told w) qs → Each (IsFirst w) qs → Each (SameAnswer w v) qs → (m : Noted) → Contains ms m → HasAnswer v m
  all_from [] qs e f h m c = let l : c.0 < 0 = c.1 in absurd (omega (arith, l))
  all_from (x ∷ ms) [] e f h m c = let z : bare_noted x ∷ map bare_noted ms ≡ [] = e in absurd cc
  all_from (x ∷ ms) (q ∷ qs) e f h m (zero, l, p) = subst (HasAnswer v) p (to_note x q (heads x ms q qs e) f.0 h.0)
  all_from (x ∷ ms) (q ∷ qs) e f h m (suc k, l, p) = let j : suc k < suc (length ms) = l in all_from ms qs (tails x ms q qs e) f.1 h.1 m (k, omega (arith, j), p)

  pub left_tested : Begins w.state → (turns : ℕ) (l : Left Ident) (ms : List Noted) → map bare_noted ms ≡ map (told w) (all_noted w (questions_of_left w turns (Ok l)))
      → ((m : Noted) → Contains ms m → HasAnswer v m) ↔ Each (SameAnswer w v) (all_noted w (questions_of_left w turns (Ok l)))
  left_tested b turns l ms e =
      let qs = all_noted w (questions_of_left w turns (Ok l)) in let f = left_noted_first w (no_locals w b) turns l in
      (all_to ms qs e f, all_from ms qs e f)
