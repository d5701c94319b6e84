-- A note that is no definition's: behind definitions of the form it is a look-up or a comparison, which is asked where these are made again;
-- behind none it is asked when the form begins.
use Rattle.std.proofs.Common.{◌≡◌, inl, inr, suc, [], ◌∷◌, length, true, false, None, refl, sym, ap, ◌∙◌, subst, arith}
use Rattle.std.specs.Prelude.{◌||◌}
use Rattle.scheme_model.specs.Ident.{Ident, Written, Inserted}
use Rattle.scheme_model.specs.Substitution.{Table}
use Rattle.scheme_model.specs.Questions.{Moment, Around, Question, LooksUp, UsesRules, Compares, IsAssigned, Requires, Defines, answer}
use Rattle.scheme_model.specs.FormsAlike.{start, again}
use Rattle.form_laws.proofs.OwnStates.{entry_given}
use Rattle.forgotten_locals.specs.Outside.{outside}
use Rattle.question_laws.specs.Noted.{defines_within, HasPart}
use Rattle.question_laws.proofs.NotedFirst.{IsFirstOr}
use Rattle.syntax_tree.specs.Names.{Names}
use Rattle.syntax_tree.specs.declared.trees.Work.{Work}
use Rattle.form_notes.specs.Noted.{Since}
use Rattle.form_notes.specs.Standing.{IsQuestion}
use Rattle.form_notes.specs.declared.notes.Question as code_question
use Rattle.form_notes.specs.declared.notes.Question.TheVariants as code
use Rattle.note_answers.specs.Answered.{answer_now, IsAskedOutside, KeepsEdition}
use Rattle.note_laws.specs.SameRoots.{NoLocalEntry, IsOfRoot}
use Rattle.note_laws.specs.Told.{bare_question}
use Rattle.note_laws.specs.Tested.{is_definition}
use Rattle.note_laws.proofs.BehindNotes.{answers_behind}
use Rattle.note_laws.proofs.TestedNotes.{answer_bare, definition_bare}
use Rattle.unit_scopes.specs.declared.scope.UnitScope.{UnitScope}
use Rattle.declared_parts.specs.Again.{SameLater}
use Rattle.declared_parts.specs.Going.{definition_in}

-- ---- what the form's own definitions have a part in

none_within : (own : Table) (i : Ident) → length own ≡ 0 → defines_within own i ≡ false
none_within [] (Written u x) e = refl
none_within [] (Inserted i k) e = none_within [] i e
none_within (d ∷ own) i e = let l : suc (length own) ≡ 0 = e in absurd (omega (arith, l))

no_part : (n : Moment) (q : Question) → length n.table ≡ 0 → is_definition q ≡ false → HasPart (n, q) → ⊥
no_part n (LooksUp i) e d h = let a = none_within n.table i e in let z : false ≡ true = sym a ∙ h in absurd cc
no_part n (UsesRules m) e d h = h
no_part n (Compares l i) e d h = let a = none_within n.table l e in let b = none_within n.table i e in let z : false ≡ true = (λ j. sym a j || sym b j) ∙ h in absurd cc
no_part n (IsAssigned i) e d h = h
no_part n (Requires l) e d h = h
no_part n (Defines fs x r ns) e d h = let z : true ≡ false = d in absurd cc

-- a look-up or a comparison
abbrev Looks : Question → Type 0
Looks (LooksUp i) = Unit {0}
Looks (UsesRules m) = ⊥
Looks (Compares l i) = Unit {0}
Looks (IsAssigned i) = ⊥
Looks (Requires l) = ⊥
Looks (Defines fs x r ns) = ⊥

looks : (n : Moment) (q : Question) → is_definition q ≡ false → HasPart (n, q) → Looks q
looks n (LooksUp i) d h = tt
looks n (UsesRules m) d h = h
looks n (Compares l i) d h = tt
looks n (IsAssigned i) d h = h
looks n (Requires l) d h = h
looks n (Defines fs x r ns) d h = let z : true ≡ false = d in absurd cc

of_root : (q : Question) → Looks q → IsOfRoot q
of_root (LooksUp i) h = tt
of_root (UsesRules m) h = absurd h
of_root (Compares l i) h = tt
of_root (IsAssigned i) h = tt
of_root (Requires l) h = tt
of_root (Defines fs x r ns) h = h

pub asked_outside : (q : Question) → Looks q → IsAskedOutside (bare_question q)
asked_outside (LooksUp i) h = tt
asked_outside (UsesRules m) h = absurd h
asked_outside (Compares l i) h = tt
asked_outside (IsAssigned i) h = tt
asked_outside (Requires l) h = absurd h
asked_outside (Defines fs x r ns) h = h

no_rules : (q : Question) → Looks q → (r : Question) → (Looks r → ⊥) → bare_question q ≡ r → ⊥
no_rules (LooksUp i) h r non e = non (subst Looks e tt)
no_rules (UsesRules m) h r non e = h
no_rules (Compares l i) h r non e = non (subst Looks e tt)
no_rules (IsAssigned i) h r non e = h
no_rules (Requires l) h r non e = h
no_rules (Defines fs x r ns) h p non e = h

-- ---- the note

-- it tells no definition
pub none_is_told : (names : Names) (r : Since) (x : code_question.Question) (w : Around) (q : Moment × Question) → definition_in x ≡ None → IsQuestion names r x (bare_question q.1) (answer w q.0 q.1) → is_definition q.1 ≡ false
none_is_told names r (code.Lookup i m k) w q none h = sym (definition_bare q.1) ∙ ap is_definition h.2
none_is_told names r (code.Literal l i b) w q none h = sym (definition_bare q.1) ∙ ap is_definition h.2
none_is_told names r (code.Rules m e) w q none h = sym (definition_bare q.1) ∙ ap is_definition h.1
none_is_told names r (code.Assigned i b) w q none h = sym (definition_bare q.1) ∙ ap is_definition h.1
none_is_told names r (code.Library l b) w q none h = sym (definition_bare q.1) ∙ ap is_definition h.1
none_is_told names r (code.Definition d o) w q none h = absurd cc

pub keeps_edition : (work : Work) (u : UnitScope) (v : Around) (r : Since) (x : code_question.Question) (w : Around) (q : Moment × Question) → Looks q.1 → IsQuestion work.symbols r x (bare_question q.1) (answer w q.0 q.1) → KeepsEdition work u v r x
keeps_edition work u v r (code.Lookup i m k) w q l h = tt
keeps_edition work u v r (code.Literal a i b) w q l h = tt
keeps_edition work u v r (code.Rules m e) w q l h = absurd (no_rules q.1 l (UsesRules h.0) (λ z. z) h.1)
keeps_edition work u v r (code.Assigned i b) w q l h = tt
keeps_edition work u v r (code.Library a b) w q l h = tt
keeps_edition work u v r (code.Definition d o) w q l h = tt

module _ (w v : Around) (entries : NoLocalEntry v.state) (q : Moment × Question) (first : IsFirstOr w q) (none : is_definition q.1 ≡ false) where
  abbrev pub there : Around
  there = record { state = outside (again v q.0); known = v.known; notes = v.notes }

  no_start : (length q.0.table ≡ 0 → ⊥) → q.0 ≡ start w.state → ⊥
  no_start behind e = behind (ap (λ (n : Moment). length n.table) e)

  pub later_looks : (length q.0.table ≡ 0 → ⊥) → Looks q.1
  later_looks behind = by first
    where
      by : IsFirstOr w q → Looks q.1
      by (inl e) = absurd (no_start behind e)
      by (inr p) = looks q.0 q.1 none p

  -- its answer there is that of its moment
  later_answer : Looks q.1 → answer_now there (bare_question q.1) ≡ answer v q.0 q.1
  later_answer l = answer_bare there (start there.state) q.1 ∙ answers_behind v q.0 (λ u x. entry_given (v.state.entry u x) (entries u x)) q.1 (of_root q.1 l)

  pub later_same : (length q.0.table ≡ 0 → ⊥) → answer_now there (bare_question q.1) ≡ answer w q.0 q.1 → SameLater w v q
  later_same behind h = λ so. sym (later_answer (later_looks behind)) ∙ h

  pub later_other : (length q.0.table ≡ 0 → ⊥) → SameLater w v q → answer_now there (bare_question q.1) ≡ answer w q.0 q.1
  later_other behind h = later_answer (later_looks behind) ∙ h (λ e. absurd (no_start behind e))

  -- nothing is said of what is asked when the form begins
  pub first_same : length q.0.table ≡ 0 → SameLater w v q
  first_same behind = λ so. absurd (by first so)
    where
      by : IsFirstOr w q → (q.0 ≡ start w.state → is_definition q.1 ≡ true) → ⊥
      by (inl e) so = let z : false ≡ true = sym none ∙ so e in absurd cc
      by (inr p) so = no_part q.0 q.1 behind none p
