-- Notes of the code don't tell the times at which bodies were entered: they stand for notes exactly where they stand for these without times.
use Rattle.std.proofs.Common.{◌≡◌, ◌↔◌, zero, suc, ◌<◌, List, [], ◌∷◌, map, length, Option, true, false, refl, sym, ap, ◌∙◌, subst, arith, Contains}
use Rattle.std.proofs.lemmas.List.{length-map}
use Rattle.scheme_model.specs.Ident.{Ident}
use Rattle.scheme_model.specs.ExpansionFaults.{Named}
use Rattle.scheme_model.specs.Order.{Note, is_some}
use Rattle.scheme_model.specs.RulesShape.{Rules}
use Rattle.scheme_model.specs.ScopedExpansion.{FramedIdent}
use Rattle.scheme_model.specs.Questions.{Question, LooksUp, UsesRules, Compares, IsAssigned, Requires, Defines, Answer, bare}
use Rattle.scheme_model.specs.FormsAlike.{bare_note}
use Rattle.syntax_tree.specs.Names.{Names}
use Rattle.syntax_tree.specs.Macros.{IsIdent}
use Rattle.form_notes.specs.Noted.{Noted, Since}
use Rattle.form_notes.specs.Standing.{IsQuestion, IsNote, HaveNotes}
use Rattle.form_notes.specs.declared.notes.Note as code_note
use Rattle.form_notes.specs.declared.notes.Question as code_question
use Rattle.form_notes.specs.declared.notes.Question.TheVariants as code
use Rattle.note_laws.specs.Told.{bare_question, bare_noted}
use Rattle.note_laws.specs.Tested.{is_definition}

-- ---- lists

contained_map : {X Y : Type 0} (f : X → Y) (xs : List X) (x : X) → Contains xs x → Contains (map f xs) (f x)
contained_map f [] x c = let l : c.0 < 0 = c.1 in absurd (omega (arith, l))
contained_map f (y ∷ ys) x (zero, l, e) = (zero, omega arith, ap f e)
contained_map f (y ∷ ys) x (suc k, l, e) =
    let m : suc k < suc (length ys) = l in
    let r = contained_map f ys x (k, omega (arith, m), e) in
    let n : r.0 < length (map f ys) = r.1 in
    (suc r.0, omega (arith, n), r.2)

from_map : {X Y : Type 0} (f : X → Y) (xs : List X) (z : Y) → Contains (map f xs) z → (x : X) × Contains xs x × (f x ≡ z)
from_map f [] z c = let l : c.0 < 0 = c.1 in absurd (omega (arith, l))
from_map f (y ∷ ys) z (zero, l, e) = (y, (zero, omega arith, refl), e)
from_map f (y ∷ ys) z (suc k, l, e) =
    let m : suc k < suc (length (map f ys)) = l in
    let r = from_map f ys z (k, omega (arith, m), e) in
    let n : r.1.0 < length ys = r.1.1 in
    (r.0, (suc r.1.0, omega (arith, n), r.1.2), r.2)

-- ---- one note

name_or : Named Ident → Question → Named Ident
name_or d (LooksUp i) = d
name_or d (UsesRules m) = d
name_or d (Compares l i) = d
name_or d (IsAssigned i) = d
name_or d (Requires l) = d
name_or d (Defines fs x r ns) = x

rules_or : Option (Rules Ident) → Question → Option (Rules Ident)
rules_or d (LooksUp i) = d
rules_or d (UsesRules m) = d
rules_or d (Compares l i) = d
rules_or d (IsAssigned i) = d
rules_or d (Requires l) = d
rules_or d (Defines fs x r ns) = r

notes_or : List (Note FramedIdent) → Question → List (Note FramedIdent)
notes_or d (LooksUp i) = d
notes_or d (UsesRules m) = d
notes_or d (Compares l i) = d
notes_or d (IsAssigned i) = d
notes_or d (Requires l) = d
notes_or d (Defines fs x r ns) = ns

-- what is no definition has no times
timeless : (q r : Question) → is_definition r ≡ false → bare_question q ≡ r → q ≡ r
timeless (LooksUp i) r d e = e
timeless (UsesRules m) r d e = e
timeless (Compares l i) r d e = e
timeless (IsAssigned i) r d e = e
timeless (Requires l) r d e = e
timeless (Defines fs x rs ns) r d e = let z : true ≡ false = ap is_definition e ∙ d in absurd cc

module _ (names : Names) (r : Since) where
  without : (c : code_question.Question) (q : Question) (a : Answer) → IsQuestion names r c q a → IsQuestion names r c (bare_question q) a
  without (code.Lookup ident meaning keyword) q a h = (h.0, h.1, ap bare_question h.2, h.3, h.4, h.5)
  without (code.Literal literal ident holds) q a h = (h.0, h.1, ap bare_question h.2, h.3, h.4, h.5)
  without (code.Rules meaning edition) q a h = (h.0, ap bare_question h.1, h.2, h.3)
  without (code.Assigned ident is) q a h = (h.0, ap bare_question h.1, h.2, h.3)
  without (code.Library name is) q a h = (h.0, ap bare_question h.1, h.2, h.3)
  without (code.Definition d ends) q a h =
      let c = length-map h.3 bare_note in (bare h.0, h.1, h.2, map bare_note h.3, ap bare_question h.4, h.5, record { name = h.6.name; place = h.6.place; keyword = h.6.keyword; asked = h.6.asked ∙ sym c })

  -- a definition of the same identifier
  defined_with : (c : code_question.Question) (q : Question) (a : Answer) → IsQuestion names r c (bare_question q) a → IsQuestion names r c q a
  unfolding name_or rules_or notes_or
  defined_with (code.Lookup ident meaning keyword) q a h = (h.0, h.1, timeless q (LooksUp h.0) refl h.2, h.3, h.4, h.5)
  defined_with (code.Literal literal ident holds) q a h = (h.0, h.1, timeless q (Compares h.0 h.1) refl h.2, h.3, h.4, h.5)
  defined_with (code.Rules meaning edition) q a h = (h.0, timeless q (UsesRules h.0) refl h.1, h.2, h.3)
  defined_with (code.Assigned ident is) q a h = (h.0, timeless q (IsAssigned h.0) refl h.1, h.2, h.3)
  defined_with (code.Library name is) q a h = (h.0, timeless q (Requires h.0) refl h.1, h.2, h.3)
  defined_with (code.Definition d ends) (Defines fs x rs ns) a h =
      let e = h.4 in
      let name = sym (ap (name_or h.1) e) in
      let rules = sym (ap (rules_or h.2) e) in
      let notes = sym (ap (notes_or h.3) e) in (
        fs,
        x,
        rs,
        ns,
        refl,
        h.5,
        record {
          name = subst (λ (n : Named Ident). IsIdent names d.ident n.name) name h.6.name;
          place = h.6.place ∙ ap (λ (n : Named Ident). n.occ) name;
          keyword = h.6.keyword ∙ ap is_some rules;
          asked = h.6.asked ∙ (ap length notes ∙ length-map ns bare_note);
        },
      )
  defined_with (code.Definition d ends) (LooksUp i) a h = let z : false ≡ true = ap is_definition h.4 in absurd cc
  defined_with (code.Definition d ends) (UsesRules m) a h = let z : false ≡ true = ap is_definition h.4 in absurd cc
  defined_with (code.Definition d ends) (Compares l i) a h = let z : false ≡ true = ap is_definition h.4 in absurd cc
  defined_with (code.Definition d ends) (IsAssigned i) a h = let z : false ≡ true = ap is_definition h.4 in absurd cc
  defined_with (code.Definition d ends) (Requires l) a h = let z : false ≡ true = ap is_definition h.4 in absurd cc

  note_without : (x : code_note.Note) (m : Noted) → IsNote names r x m → IsNote names r x (bare_noted m)
  note_without x m h = (h.0, without x.question m.question m.answer h.1)

  note_with : (x : code_note.Note) (m : Noted) → IsNote names r x (bare_noted m) → IsNote names r x m
  note_with x m h = (h.0, defined_with x.question m.question m.answer h.1)

  -- ---- all notes

  module _ (xs : List code_note.Note) (ms : List Noted) where
    all_without : HaveNotes names r xs ms → HaveNotes names r xs (map bare_noted ms)
    all_without h = record {
      all = λ m c. (let y = from_map bare_noted ms m c in let x = h.all y.0 y.1 in (x.0, x.1, subst (IsNote names r x.0) y.2 (note_without x.0 y.0 x.2)));
      alone = λ x c. (let m = h.alone x c in (bare_noted m.0, contained_map bare_noted ms m.0 m.1, note_without x m.0 m.2));
    }

    all_with : HaveNotes names r xs (map bare_noted ms) → HaveNotes names r xs ms
    all_with h = record {
      all = λ m c. (let x = h.all (bare_noted m) (contained_map bare_noted ms m c) in (x.0, x.1, note_with x.0 m x.2));
      alone = λ x c. (let m = h.alone x c in let y = from_map bare_noted ms m.0 m.1 in (y.0, y.1, note_with x y.0 (subst (IsNote names r x) (sym y.2) m.2)));
    }

    pub notes_bare : HaveNotes names r xs ms ↔ HaveNotes names r xs (map bare_noted ms)
    notes_bare = (all_without, all_with)
