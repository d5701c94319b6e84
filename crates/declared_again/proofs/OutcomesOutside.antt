-- How a definition of a form ends is told by the state at its moment without what is local.
use Rattle.std.proofs.Common.{◌≡◌, ℕ, List, [], ◌∷◌, ◌++◌, Bool, true, false, Option, None, refl, sym, ap, ◌∙◌}
use Rattle.std.specs.Prelude.{if◌then◌else◌, ◌&&◌, ◌||◌}
use Rattle.scheme_model.specs.Identifiers.{Number, same_number}
use Rattle.scheme_model.specs.Ident.{Ident, Written, Inserted}
use Rattle.scheme_model.specs.ExpansionFaults.{Named}
use Rattle.scheme_model.specs.Meaning.{Meaning, Local, Global, Standard, Free, same_meaning, of_form}
use Rattle.scheme_model.specs.RulesShape.{Rules}
use Rattle.scheme_model.specs.Order.{Note, LookedUp, Compared, is_some}
use Rattle.scheme_model.specs.Scopes.{local_or}
use Rattle.scheme_model.specs.Substitution.{Table, defined_in, any, differ}
use Rattle.scheme_model.specs.ScopedExpansion.{Frames, FramedIdent, UsePlace, ScopedState, around, definition_added, is_defined}
use Rattle.scheme_model.specs.CountedExpansion.{means_here, refused_here}
use Rattle.scheme_model.specs.OwnAnswers.{unless, local_inside, local_outside, own_local, root_means, own_means, unit_refused}
use Rattle.scheme_model.specs.Questions.{Moment, Around, at_moment, own_at, found, outcome_by, unit_outcome}
use Rattle.scheme_model.specs.FormsAlike.{again}
use Rattle.model_laws.proofs.EntryLaws.{NoLocal}
use Rattle.form_laws.specs.Begins.{Each}
use Rattle.form_laws.proofs.AskingSides.{NoLocals, root_no}
use Rattle.forgotten_locals.specs.Outside.{outside}
use Rattle.declared_again.specs.Endings.{AtRoot, NoteAtRoot, outcome_outside}

frames_if : (b : Bool) (p : UsePlace) (fs : Frames) → p.frames ≡ [] → fs ≡ [] → (if b then p.frames else fs) ≡ []
frames_if true p fs e h = e
frames_if false p fs e h = h

none_around : (ps : List UsePlace) (k : Number) → Each (λ (p : UsePlace). p.frames ≡ []) ps → around ps k ≡ []
none_around [] k h = refl
none_around (p ∷ ps) k h = frames_if (same_number p.use_number k) p (around ps k) h.0 (none_around ps k h.1)

unless_none : (b : Bool) (o : Option Number) → o ≡ None → unless b o ≡ None
unless_none true o h = refl
unless_none false o h = h

none_outside : (table : Table) (ps : List UsePlace) → Each (λ (p : UsePlace). p.frames ≡ []) ps → (i : Ident) → local_outside table ps [] i ≡ None
none_outside table ps h (Written u s) = refl
none_outside table ps h (Inserted i k) =
    let b = is_some (defined_in table k.unit (Inserted i k)) in
    ap (λ (fs : Frames). unless b (local_inside [] fs i (local_outside table ps [] i))) (none_around ps k h) ∙ unless_none b (local_outside table ps [] i) (none_outside table ps h i)

of_no_local : (u f : ℕ) (m : Meaning) → NoLocal m → of_form u f m ≡ m
of_no_local u f (Local v) h = absurd h
of_no_local u f (Global v i) h = refl
of_no_local u f (Standard x) h = refl
of_no_local u f (Free x) h = refl

module _ (v : Around) (n : Moment) (root : AtRoot n) (entries : NoLocals v) (x : Named Ident) (r : Option (Rules Ident)) where
  abbrev next : Moment
  next = found v None x r [] n

  abbrev there : ScopedState
  there = at_moment v next

  abbrev here : ScopedState
  here = definition_added None x r [] (outside (again v n))

  abbrev unit_meaning : Meaning
  unit_meaning = Global v.state.unit x.name

  means_same : (l : FramedIdent) → l.frames ≡ [] → own_means (own_at next) there l.frames l.ident ≡ means_here here l.frames l.ident
  means_same l e =
      let i = l.ident in
      let none : own_local (own_at next) [] i ≡ None = ap (λ ds. local_outside next.table n.places ds i) root.2 ∙ none_outside next.table n.places root.0 i in
      (λ j. own_means (own_at next) there (e j) i)
      ∙ (ap (λ (o : Option Number). local_or o (root_means there i)) none
      ∙ (sym (of_no_local v.state.unit v.state.form (root_means there i) (root_no there.table v.state.entry entries i)) ∙ sym (λ j. means_here here (e j) i)))

  refused_same : (note : Note FramedIdent) → NoteAtRoot note → unit_refused (own_at next) there unit_meaning (is_some r) note ≡ refused_here here unit_meaning (is_some r) note
  refused_same (LookedUp l head keyword) e = let a = means_same l e in λ j. same_meaning (a j) unit_meaning && (keyword || (head && is_some r))
  refused_same (Compared l m held) e =
      let a = means_same l e.0 in let b = means_same m e.1 in λ j. (same_meaning (a j) unit_meaning || same_meaning (b j) unit_meaning) && differ held (same_meaning (a j) (b j))

  any_same : (ns : List (Note FramedIdent)) → Each NoteAtRoot ns → any (unit_refused (own_at next) there unit_meaning (is_some r)) ns ≡ any (refused_here here unit_meaning (is_some r)) ns
  any_same [] h = refl
  any_same (note ∷ ns) h = let a = refused_same note h.0 in let b = any_same ns h.1 in λ j. a j || b j

  pub ends_outside : (ns : List (Note FramedIdent)) → Each NoteAtRoot (ns ++ v.notes) → unit_outcome v n [] x r ns ≡ outcome_outside v (outside (again v n)) x r ns
  ends_outside ns h = ap (λ (b : Bool). outcome_by b (is_defined (outside (again v n)) None x.name)) (any_same (ns ++ v.notes) h)
