-- A note at the root that is told otherwise by a definition of the unit has its identifier, or one that uses inserted in its place.
use Rattle.std.proofs.Common.{◌≡◌, ◌==◌, ℕ, eqb-true, List, [], ◌∷◌, Bool, true, false, Option, Some, None, refl, sym, ap, ◌∙◌}
use Rattle.std.specs.Prelude.{◌&&◌, ◌||◌}
use Rattle.scheme_model.specs.Ident.{Ident, Written, Inserted, same_ident}
use Rattle.scheme_model.specs.ExpansionFaults.{Named}
use Rattle.scheme_model.specs.Meaning.{Meaning, Local, Global, Standard, Free, same_meaning, of_form}
use Rattle.scheme_model.specs.RulesShape.{Rules}
use Rattle.scheme_model.specs.Order.{Note, LookedUp, Compared, is_some}
use Rattle.scheme_model.specs.Scopes.{given_or, defined_or}
use Rattle.scheme_model.specs.Substitution.{Defined, defined_in, any, differ}
use Rattle.scheme_model.specs.ScopedExpansion.{FramedIdent, ScopedState, means_outside, definition_added}
use Rattle.scheme_model.specs.CountedExpansion.{means_here, refused_here}
use Rattle.scheme_model.specs.Questions.{Moment, Around}
use Rattle.scheme_model.proofs.IdentLaws.{same_turned}
use Rattle.form_laws.specs.Begins.{Each}
use Rattle.unit_scopes.specs.Asks.{is_inside}
use Rattle.unit_scopes.specs.Searched.{speaks_of}
use Rattle.note_laws.specs.Told.{ImportsOthers}
use Rattle.declared_again.specs.Endings.{NoteAtRoot}
use Rattle.declared_parts.specs.Going.{settled}

or_parts : (a b : Bool) → (a || b) ≡ false → (a ≡ false) × (b ≡ false)
or_parts true b h = absurd cc
or_parts false b h = (refl, h)

and_false : (a b : Bool) → b ≡ false → (a && b) ≡ false
and_false true b h = h
and_false false b h = refl

module _ (v : Around) (others : ImportsOthers v.state) (n : Moment) (x : Named Ident) (r : Option (Rules Ident)) where
  abbrev after : ScopedState
  after = definition_added None x r [] (settled v n)

  abbrev here : Meaning
  here = Global v.state.unit x.name

  abbrev IsOther : Meaning → Type 0
  IsOther m = same_meaning (of_form v.state.unit v.state.form m) here ≡ false

  -- what another unit has
  another : (w : ℕ) (j : Ident) (b : Bool) → (w == v.state.unit) ≡ b → (w ≡ v.state.unit → ⊥) → (b && same_ident j x.name) ≡ false
  another w j true e non = absurd (non (eqb-true w v.state.unit e))
  another w j false e non = refl

  imported : (m : Meaning) → ((i : Ident) → m ≡ Global v.state.unit i → ⊥) → IsOther m
  imported (Local k) non = refl
  imported (Global w j) non = another w j (w == v.state.unit) refl (λ e. non j (λ t. Global (e t) j))
  imported (Standard s) non = refl
  imported (Free s) non = refl

  given : (o : Option Defined) (u : ℕ) (i : Ident) (e : Option Meaning) (other : Meaning) → same_ident x.name i ≡ false → ((j : Ident) → e ≡ Some (Global v.state.unit j) → ⊥) → IsOther other → IsOther (given_or (defined_or o u i e) other)
  given (Some d) u i e other apart non rest = and_false (u == v.state.unit) (same_ident i x.name) (same_turned i x.name ∙ apart)
  given None u i None other apart non rest = rest
  given None u i (Some m) other apart non rest = imported m (λ j is. non j (ap Some is))

  pub unspoken : (i : Ident) → is_inside x.name i ≡ false → IsOther (means_outside after.table v.state.entry [] [] i)
  unspoken (Written u s) h = given (defined_in after.table u (Written u s)) u (Written u s) (v.state.entry u s) (Free s) h (λ j. others u s j) refl
  unspoken (Inserted i k) h =
      let p = or_parts (same_ident x.name (Inserted i k)) (is_inside x.name i) h in
      given (defined_in after.table k.unit (Inserted i k)) k.unit (Inserted i k) None (means_outside after.table v.state.entry [] [] i) p.0 (λ j is. absurd cc) (unspoken i p.1)

  abbrev refused : Note FramedIdent → Bool
  refused note = refused_here after here (is_some r) note

  place_unspoken : (p : FramedIdent) → p.frames ≡ [] → is_inside x.name p.ident ≡ false → same_meaning (means_here after p.frames p.ident) here ≡ false
  place_unspoken p at h = (λ j. same_meaning (means_here after (at j) p.ident) here) ∙ unspoken p.ident h

  note_spoken : (note : Note FramedIdent) → NoteAtRoot note → (speaks_of x.name note && refused note) ≡ refused note
  note_spoken (LookedUp p head keyword) at = go (is_inside x.name p.ident) refl
    where
      go : (t : Bool) → is_inside x.name p.ident ≡ t → (t && refused (LookedUp p head keyword)) ≡ refused (LookedUp p head keyword)
      go true e = refl
      go false e = sym (ap (λ t. t && (keyword || (head && is_some r))) (place_unspoken p at e))
  note_spoken (Compared p q held) at = go (is_inside x.name p.ident || is_inside x.name q.ident) refl
    where
      now : FramedIdent → Meaning
      now l = means_here after l.frames l.ident

      go : (t : Bool) → (is_inside x.name p.ident || is_inside x.name q.ident) ≡ t → (t && refused (Compared p q held)) ≡ refused (Compared p q held)
      go true e = refl
      go false e =
          let both = or_parts (is_inside x.name p.ident) (is_inside x.name q.ident) e in
          let a = place_unspoken p at.0 both.0 in let c = place_unspoken q at.1 both.1 in
          sym (λ i. (a i || c i) && differ held (same_meaning (now p) (now q)))

  -- so the notes that speak of it refuse where all do
  pub any_spoken : (ns : List (Note FramedIdent)) → Each NoteAtRoot ns → any (λ note. speaks_of x.name note && refused note) ns ≡ any refused ns
  any_spoken [] h = refl
  any_spoken (m ∷ ms) h = let a = note_spoken m h.0 in let c = any_spoken ms h.1 in λ j. a j || c j
