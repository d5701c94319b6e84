-- Notes under other numbers stand for what they stood for.
use Rattle.std.proofs.Common.{◌≡◌, ℕ, zero, suc, ◌+◌, ◌<◌, List, [], ◌∷◌, map, length, refl, sym, ap, ◌∙◌, subst, arith, None, Some, Option}
use Rattle.std.specs.Prelude.{Contains}
use Rattle.std.proofs.lemmas.List.{map-append, length-map}
use Rattle.scheme_model.specs.Order.{is_some}
use Rattle.scheme_model.specs.RulesShape.{option_map}
use Rattle.scheme_model.specs.RulesShape as shape
use Rattle.scheme_model.specs.Ident.{Ident as Identifier}
use Rattle.scheme_model.specs.Meaning.{Meaning as ModelMeaning}
use Rattle.scheme_model.specs.Questions.{Answer, Expands, Question as Asked}
use Rattle.syntax_tree.specs.Meant.{IsMeaning}
use Rattle.syntax_tree.specs.Names.{Names}
use Rattle.syntax_tree.specs.declared.meaning.Meaning.{Meaning}
use Rattle.form_notes.specs.Noted.{Noted, Since}
use Rattle.form_notes.specs.Standing.{IsQuestion, IsNote, HaveNotes, stood, IsAsked, RisesTo, InOrder}
use Rattle.form_notes.specs.declared.notes.Note.{Note}
use Rattle.form_notes.specs.declared.notes.Question.{Question}
use Rattle.form_notes.specs.declared.notes.Question.TheVariants.{Lookup, Literal, Rules, Assigned, Library, Definition}
use Rattle.renumbering_laws.specs.Renumbering.{Renumbering, ident, meaning, change}
use Rattle.renumbering_laws.specs.Renumbering as renumbering
use Rattle.renumbering_laws.specs.Moving.{move_named, move_rules}
use Rattle.renumbering_laws.specs.Asked.{new_question, new_answer, new_note, new_frames}
use Rattle.moves.specs.Numbers.{meaning_as}
use Rattle.moves.specs.Works.{NamesMove}
use Rattle.moves.proofs.EntryLaws.{ident_there, meaning_there}
use Rattle.moved_numbers.specs.Notes.{question_as, note_as, noted_as, SinceMoves}

-- ---- lists

mapped : {X Y : Type 0} (f : X → Y) (xs : List X) (x : X) → Contains xs x → Contains (map f xs) (f x)
mapped f [] x c = let l : c.0 < 0 = c.1 in absurd (omega (arith, l))
mapped f (y ∷ ys) x (zero, l, e) = (zero, omega arith, ap f e)
mapped f (y ∷ ys) x (suc k, l, e) =
    let m : suc k < suc (length ys) = l in
    let r = mapped f ys x (k, omega (arith, m), e) in
    let n : r.0 < length (map f ys) = r.1 in
    (suc r.0, omega (arith, n), r.2)

unmapped : {X Y : Type 0} (f : X → Y) (xs : List X) (z : Y) → Contains (map f xs) z → (x : X) × Contains xs x × (f x ≡ z)
unmapped f [] z c = let l : c.0 < 0 = c.1 in absurd (omega (arith, l))
unmapped f (y ∷ ys) z (zero, l, e) = (y, (zero, omega arith, refl), e)
unmapped f (y ∷ ys) z (suc k, l, e) =
    let m : suc k < suc (length (map f ys)) = l in
    let r = unmapped f ys z (k, omega (arith, m), e) in
    let n : r.1.0 < length ys = r.1.1 in
    (r.0, (suc r.1.0, omega (arith, n), r.1.2), r.2)

-- ---- one note

module _ (p : Renumbering) (old new : Names) (move : NamesMove p old new) (r s : Since) (same : SinceMoves p r s) where
  means_there : (c : Meaning) (m : ModelMeaning) → IsMeaning old r.unit r.form c m → IsMeaning new s.unit s.form (meaning_as p c) (meaning p m)
  means_there c m h =
      subst (λ (u : ℕ). IsMeaning new u s.form (meaning_as p c) (meaning p m)) (sym same.unit)
      (subst (λ (f : ℕ). IsMeaning new (p.unit r.unit) f (meaning_as p c) (meaning p m)) (sym same.form) (meaning_there p old new move r.unit r.form c m h))

  rules_there : (o : Option (shape.Rules Identifier)) → is_some (option_map (move_rules (change p)) o) ≡ is_some o
  rules_there None = refl
  rules_there (Some x) = refl

  question_there : (c : Question) (q : Asked) (a : Answer) → IsQuestion old r c q a → IsQuestion new s (question_as p c) (new_question p q) (new_answer p a)
  question_there (Lookup id answer keyword) q a h =
      (ident p h.0, meaning p h.1, ap (new_question p) h.2, ap (new_answer p) h.3, ident_there p old new move id h.0 h.4, means_there answer h.1 h.5)
  question_there (Literal literal id answer) q a h =
      (ident p h.0, ident p h.1, ap (new_question p) h.2, ap (new_answer p) h.3, ident_there p old new move literal h.0 h.4, ident_there p old new move id h.1 h.5)
  question_there (Rules c edition) q a h =
      (meaning p h.0, ap (new_question p) h.1, ap (new_answer p) h.2 ∙ ap Expands (sym (same.editions edition)), means_there c h.0 h.3)
  question_there (Assigned id answer) q a h = (ident p h.0, ap (new_question p) h.1, ap (new_answer p) h.2, ident_there p old new move id h.0 h.3)
  question_there (Library name answer) q a h = (h.0, ap (new_question p) h.1, ap (new_answer p) h.2, h.3)
  question_there (Definition d answer) q a h =
      let is = h.6 in (
        new_frames p h.0,
        move_named (change p) h.1,
        option_map (move_rules (change p)) h.2,
        map (new_note p) h.3,
        ap (new_question p) h.4,
        ap (new_answer p) h.5,
        record {
          name = ident_there p old new move d.ident h.1.name is.name;
          place = ap (renumbering.place p) is.place;
          keyword = is.keyword ∙ sym (rules_there h.2);
          asked = is.asked ∙ sym (length-map h.3 (new_note p));
        },
      )

  pub note_there : (x : Note) (m : Noted) → IsNote old r x m → IsNote new s (note_as p x) (noted_as p m)
  note_there x m h = (h.0, question_there x.question m.question m.answer h.1)

  pub notes_there : (xs : List Note) (ms : List Noted) → HaveNotes old r xs ms → HaveNotes new s (map (note_as p) xs) (map (noted_as p) ms)
  notes_there xs ms h = record {
    all = λ m c. (let y = unmapped (noted_as p) ms m c in let x = h.all y.0 y.1 in (note_as p x.0, mapped (note_as p) xs x.0 x.1, subst (IsNote new s (note_as p x.0)) y.2 (note_there x.0 y.0 x.2)));
    alone = λ x c. (let y = unmapped (note_as p) xs x c in let m = h.alone y.0 y.1 in (noted_as p m.0, mapped (noted_as p) ms m.0 m.1, subst (λ (z : Note). IsNote new s z (noted_as p m.0)) y.2 (note_there y.0 m.0 m.2)));
  }

-- ---- their order

stood_there : (p : Renumbering) (c : Question) → stood (question_as p c) ≡ stood c
stood_there p (Lookup id answer keyword) = refl
stood_there p (Literal literal id answer) = refl
stood_there p (Rules c edition) = refl
stood_there p (Assigned id answer) = refl
stood_there p (Library name answer) = refl
stood_there p (Definition d answer) = refl

asked_there : (p : Renumbering) (c : Question) (made behind : ℕ) → IsAsked c made behind → IsAsked (question_as p c) made behind
asked_there p (Lookup id answer keyword) made behind h = h
asked_there p (Literal literal id answer) made behind h = h
asked_there p (Rules c edition) made behind h = h
asked_there p (Assigned id answer) made behind h = h
asked_there p (Library name answer) made behind h = h
asked_there p (Definition d answer) made behind h = h

rises_there : (p : Renumbering) (xs : List Note) (from to : ℕ) → RisesTo xs from to → RisesTo (map (note_as p) xs) from to
rises_there p [] from to h = h
rises_there p (x ∷ xs) from to h =
    (asked_there p x.question from x.behind h.0, rises_there p xs (from + stood (question_as p x.question)) to (subst (λ (n : ℕ). RisesTo xs (from + n) to) (sym (stood_there p x.question)) h.1))

pub order_there : (p : Renumbering) (xs : List Note) (first made : ℕ) → InOrder first xs made → InOrder first (map (note_as p) xs) made
order_there p xs first made h = record {
  before = map (note_as p) h.before;
  since = map (note_as p) h.since;
  split = ap (map (note_as p)) h.split ∙ map-append (note_as p) h.before h.since;
  count = length-map h.before (note_as p) ∙ h.count;
  rises = rises_there p h.since 0 made h.rises;
}
