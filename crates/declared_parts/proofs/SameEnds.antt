-- A definition of a form ends where it is declared again as it does by the questions of the form; and one that stands is the form's next.
use Rattle.std.proofs.Common.{◌≡◌, ℕ, suc, List, [], ◌∷◌, ◌++◌, map, length, Bool, true, false, Option, None, refl, sym, ap, ◌∙◌, subst}
use Rattle.scheme_model.specs.Ident.{Ident}
use Rattle.scheme_model.specs.ExpansionFaults.{Named}
use Rattle.scheme_model.specs.RulesShape.{Rules}
use Rattle.scheme_model.specs.Order.{Note, is_some}
use Rattle.scheme_model.specs.ScopedExpansion.{Frames, FramedIdent, is_defined}
use Rattle.scheme_model.specs.Questions.{Moment, Around, Outcome, Stands, Redefines, StoodBefore, outcome_by, unit_outcome, Question, LooksUp, UsesRules, Compares, IsAssigned, Requires, Defines, Answer, Means, Expands, Says, Ends, answer}
use Rattle.scheme_model.specs.FormsAlike.{again, bare_note}
use Rattle.form_laws.specs.Begins.{Each}
use Rattle.form_laws.proofs.OwnStates.{entry_given}
use Rattle.forgotten_locals.specs.Outside.{macros_outside, outside}
use Rattle.syntax_tree.specs.Names.{Names}
use Rattle.syntax_tree.specs.Macros.{IsIdent}
use Rattle.form_notes.specs.Noted.{Since}
use Rattle.form_notes.specs.Standing.{IsQuestion, IsDefinitionOf, outcome_as}
use Rattle.form_notes.specs.declared.notes.Definition.{Definition}
use Rattle.form_notes.specs.declared.notes.Outcome as code_outcome
use Rattle.form_notes.specs.declared.notes.Outcome.TheVariants as outcomes
use Rattle.form_notes.specs.declared.notes.Question.TheVariants as code
use Rattle.unit_scopes.specs.Defining.{outcome_here}
use Rattle.note_laws.specs.SameRoots.{NoLocalEntry}
use Rattle.note_laws.specs.Told.{bare_question, ImportsOthers}
use Rattle.note_laws.specs.Tested.{is_definition}
use Rattle.declared_again.specs.Endings.{AtRoot, NoteAtRoot, outcome_outside}
use Rattle.declared_parts.specs.Going.{settled}
use Rattle.declared_again.proofs.OutcomesOutside.{ends_outside}
use Rattle.declared_parts.proofs.Settled.{settled_is, settled_told}
use Rattle.declared_parts.proofs.SpokenRoot.{any_spoken}

-- ---- the question of a note of a definition

-- this definition, in view of so many notes of the form
pub record IsOf (names : Names) (d : Definition) (w : Around) (q : Moment × Question) (o : Outcome) : Type 0 where
  pub frames : Frames
  pub name : Named Ident
  pub rules : Option (Rules Ident)
  pub notes : List (Note FramedIdent)
  pub question : q.1 ≡ Defines frames name rules notes
  pub ends : unit_outcome w q.0 frames name rules notes ≡ o
  pub is : IsDefinitionOf names d name rules notes

abbrev name_in : Named Ident → Question → Named Ident
name_in d (LooksUp i) = d
name_in d (UsesRules m) = d
name_in d (Compares l i) = d
name_in d (IsAssigned i) = d
name_in d (Requires l) = d
name_in d (Defines fs x r ns) = x

abbrev rules_in : Question → Option (Rules Ident)
rules_in (LooksUp i) = None
rules_in (UsesRules m) = None
rules_in (Compares l i) = None
rules_in (IsAssigned i) = None
rules_in (Requires l) = None
rules_in (Defines fs x r ns) = r

abbrev count_in : Question → ℕ
count_in (LooksUp i) = 0
count_in (UsesRules m) = 0
count_in (Compares l i) = 0
count_in (IsAssigned i) = 0
count_in (Requires l) = 0
count_in (Defines fs x r ns) = length ns

abbrev pub ended : Answer → Outcome
ended (Means m k) = Stands
ended (Expands t) = Stands
ended (Says b) = Stands
ended (Ends o) = o

map_length : {X Y : Type 0} (f : X → Y) (xs : List X) → length (map f xs) ≡ length xs
map_length f [] = refl
map_length f (x ∷ xs) = ap suc (map_length f xs)

other_question : {P : Type 0} (q p : Question) → is_definition q ≡ false → is_definition p ≡ true → q ≡ p → P
other_question q p none some e = let never : false ≡ true = sym none ∙ (ap is_definition e ∙ some) in absurd cc

module _ (names : Names) (r : Since) (d : Definition) (o : code_outcome.Outcome) (w : Around) (n : Moment) where
  pub told_definition : (q : Question) → IsQuestion names r (code.Definition d o) (bare_question q) (answer w n q) → IsOf names d w (n, q) (outcome_as o)
  told_definition (LooksUp i) h = other_question (LooksUp i) (Defines h.0 h.1 h.2 h.3) refl refl h.4
  told_definition (UsesRules m) h = other_question (UsesRules m) (Defines h.0 h.1 h.2 h.3) refl refl h.4
  told_definition (Compares l i) h = other_question (Compares l i) (Defines h.0 h.1 h.2 h.3) refl refl h.4
  told_definition (IsAssigned i) h = other_question (IsAssigned i) (Defines h.0 h.1 h.2 h.3) refl refl h.4
  told_definition (Requires l) h = other_question (Requires l) (Defines h.0 h.1 h.2 h.3) refl refl h.4
  told_definition (Defines fs x rules ns) h =
      let name : x ≡ h.1 = ap (name_in x) h.4 in
      let same : rules ≡ h.2 = ap rules_in h.4 in
      let count : length ns ≡ length h.3 = sym (map_length bare_note ns) ∙ ap count_in h.4 in
      record {
        frames = fs;
        name = x;
        rules = rules;
        notes = ns;
        question = refl;
        ends = ap ended h.5;
        is = record {
          name = subst (λ (i : Ident). IsIdent names d.ident i) (sym (ap (λ (y : Named Ident). y.name) name)) h.6.name;
          place = h.6.place ∙ sym (ap (λ (y : Named Ident). y.occ) name);
          keyword = h.6.keyword ∙ sym (ap is_some same);
          asked = h.6.asked ∙ sym count;
        };
      }

-- ---- how it ends

abbrev outcome_code : Outcome → code_outcome.Outcome
outcome_code Stands = outcomes.Stands
outcome_code Redefines = outcomes.Redefines
outcome_code StoodBefore = outcomes.StoodBefore

there_back : (o : code_outcome.Outcome) → outcome_code (outcome_as o) ≡ o
there_back outcomes.Stands = refl
there_back outcomes.Redefines = refl
there_back outcomes.StoodBefore = refl

pub same_code : (o p : code_outcome.Outcome) → outcome_as o ≡ outcome_as p → o ≡ p
same_code o p h = sym (there_back o) ∙ (ap outcome_code h ∙ there_back p)

module _ (v : Around) (others : ImportsOthers v.state) (entries : NoLocalEntry v.state) (n m : Moment) (root : AtRoot n) (table : n.table ≡ m.table) (macros : macros_outside n.macros ≡ macros_outside m.macros)
    (x : Named Ident) (r : Option (Rules Ident)) (ns : List (Note FramedIdent)) (at : Each NoteAtRoot (ns ++ v.notes)) where
  abbrev second : Bool
  second = is_defined (settled v m) None x.name

  -- whatever was counted
  by_outside : outcome_outside v (settled v m) x r ns ≡ outcome_outside v (outside (again v n)) x r ns
  by_outside = sym (λ j. outcome_outside v (settled_told v n m table macros j) x r ns) ∙ sym (λ j. outcome_outside v (settled_is v n j) x r ns)

  pub ends_here : outcome_here None x r [] (ns ++ v.notes) (settled v m) ≡ unit_outcome v n [] x r ns
  ends_here =
      ap (λ (b : Bool). outcome_by b second) (any_spoken v others m x r (ns ++ v.notes) at)
      ∙ (by_outside ∙ sym (ends_outside v n root (λ u s. entry_given (v.state.entry u s) (entries u s)) x r ns at))
