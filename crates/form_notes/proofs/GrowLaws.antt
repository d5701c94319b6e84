-- Notes stand in a table of identifiers that has grown.
use Rattle.std.proofs.Common.{◌≡◌, ℕ, List, Bool, true, false, refl, sym, ◌∙◌, subst}
use Rattle.std.specs.BTreeSet.{BTreeSet, contains}
use Rattle.std.specs.Ordering.{nat_cmp}
use Rattle.std.proofs.lemmas.Option.{same_Some, slice_get_within}
use Rattle.scheme_model.specs.Ident.{Ident as Identifier}
use Rattle.scheme_model.specs.Meaning.{Meaning, Local, Global, Standard, Free}
use Rattle.scheme_model.specs.Questions.{Question, Answer}
use Rattle.syntax_tree.specs.Names.{Names, AreToldApart, KeepsNames}
use Rattle.syntax_tree.specs.Macros.{IsIdent}
use Rattle.syntax_tree.specs.Meant.{IsMeaning}
use Rattle.syntax_tree.specs.declared.meaning.Meaning as code_meaning
use Rattle.syntax_tree.specs.declared.meaning.Meaning.TheVariants as meanings
use Rattle.syntax_tree.proofs.Places.{get_within}
use Rattle.question_laws.specs.Noted.{is_defined_in}
use Rattle.form_notes.specs.Noted.{Noted, Since}
use Rattle.form_notes.specs.Standing.{IsQuestion, IsNote, OwnStands, NotingStands}
use Rattle.form_notes.specs.declared.notes.Note as code_note
use Rattle.form_notes.specs.declared.notes.Question as code_question
use Rattle.form_notes.specs.declared.notes.Question.TheVariants as code
use Rattle.form_notes.specs.declared.noting.Noting as code_noting

both_false : (a b : Bool) → (a ≡ true → b ≡ true) → (b ≡ true → a ≡ true) → a ≡ b
both_false true b f g = sym (f refl)
both_false false true f g = g refl
both_false false false f g = refl

module _ (old new : Names) (keeps : KeepsNames old new) where
  meaning_on : (unit form : ℕ) (c : code_meaning.Meaning) (m : Meaning) → IsMeaning old unit form c m → IsMeaning new unit form c m
  meaning_on unit form (meanings.Local n) m h = h
  meaning_on unit form (meanings.Global u n) (Local v) h = absurd h
  meaning_on unit form (meanings.Global u n) (Global w i) h = (h.0, keeps.idents n i h.1)
  meaning_on unit form (meanings.Global u n) (Standard s) h = absurd h
  meaning_on unit form (meanings.Global u n) (Free s) h = absurd h
  meaning_on unit form (meanings.Standard n) (Local v) h = absurd h
  meaning_on unit form (meanings.Standard n) (Global w i) h = absurd h
  meaning_on unit form (meanings.Standard n) (Standard s) h = keeps.symbols n s h
  meaning_on unit form (meanings.Standard n) (Free s) h = absurd h
  meaning_on unit form (meanings.Free n) (Local v) h = absurd h
  meaning_on unit form (meanings.Free n) (Global w i) h = absurd h
  meaning_on unit form (meanings.Free n) (Standard s) h = absurd h
  meaning_on unit form (meanings.Free n) (Free s) h = keeps.symbols n s h

  question_on : (r : Since) (x : code_question.Question) (q : Question) (a : Answer) → IsQuestion old r x q a → IsQuestion new r x q a
  question_on r (code.Lookup ident meaning keyword) q a h = (h.0, h.1, h.2, h.3, keeps.idents ident h.0 h.4, meaning_on r.unit r.form meaning h.1 h.5)
  question_on r (code.Literal literal ident holds) q a h = (h.0, h.1, h.2, h.3, keeps.idents literal h.0 h.4, keeps.idents ident h.1 h.5)
  question_on r (code.Rules meaning edition) q a h = (h.0, h.1, h.2, meaning_on r.unit r.form meaning h.0 h.3)
  question_on r (code.Assigned ident is) q a h = (h.0, h.1, h.2, keeps.idents ident h.0 h.3)
  question_on r (code.Library name is) q a h = h
  question_on r (code.Definition d ends) q a h =
      (h.0, h.1, h.2, h.3, h.4, h.5, record { name = keeps.idents d.ident h.1.name h.6.name; place = h.6.place; keyword = h.6.keyword; asked = h.6.asked })

  note_on : (r : Since) (x : code_note.Note) (m : Noted) → IsNote old r x m → IsNote new r x m
  note_on r x m h = (h.0, question_on r x.question m.question m.answer h.1)

  module _ (apart : AreToldApart new.idents) where
    -- one that was there
    before : (n m : ℕ) (i : Identifier) → IsIdent new n i → IsIdent old m i → IsIdent old n i
    before n m i is was = subst (λ k. IsIdent old k i) (sym (apart n m (slice_get_within new.idents n i is) (is ∙ sym (keeps.idents m i was)))) was

    own_on : (own : BTreeSet ℕ) (r : Since) → OwnStands old own r → OwnStands new own r
    own_on own r o = record {
      has = λ n i is.
          both_false (contains nat_cmp own n) (is_defined_in r.own r.unit i)
          (λ e.
          let there = get_within old.idents n (o.within n e) in
          let same : there.0 ≡ i = same_Some there.0 i (sym (keeps.idents n there.0 there.1) ∙ is) in
          sym (o.has n i (subst (IsIdent old n) same there.1)) ∙ e)
          (λ e. let m = o.named i e in o.has n i (before n m.0 i is m.1) ∙ e);
      others = o.others;
      named = λ i e. let m = o.named i e in (m.0, keeps.idents m.0 i m.1);
      within = λ n e. let there = get_within old.idents n (o.within n e) in slice_get_within new.idents n there.0 (keeps.idents n there.0 there.1);
      count = o.count;
    }

    pub noting_on : (x : code_noting.Noting) (r : Since) (ms : List Noted) → NotingStands old x r ms → NotingStands new x r ms
    noting_on x r ms h = record {
      since = h.since;
      stands = λ kept.
          let s = h.stands kept in
          record {
            own = own_on x.own r s.own;
            notes = record {
              all = λ m there. (let p = s.notes.all m there in (p.0, p.1, note_on r p.0 m p.2));
              alone = λ y there. (let p = s.notes.alone y there in (p.0, p.1, note_on r y p.0 p.2));
            };
            order = s.order;
          };
    }
