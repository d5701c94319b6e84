-- A form that goes on by pairs that are known before has the tree that it had.
use Rattle.std.proofs.Common.{◌≡◌, ℕ, List, length, Bool, true, false, Some, refl, sym, ap, ◌∙◌, subst, arith}
use Rattle.std.specs.Prelude.{◌||◌, ◌&&◌, ◌==◌}
use Rattle.std.specs.Str.{bytes_eq}
use Rattle.std.proofs.lemmas.Bool.{eqb-true}
use Rattle.std.proofs.lemmas.Slice.Eq.{bytes_eq-Decides}
use Rattle.scheme_model.specs.Order.{is_some}
use Rattle.scheme_model.specs.Declarations.{UnitForm, home_of}
use Rattle.scheme_model.specs.Program.{Prepared, UnitResult, known_in, units_of, fault_before}
use Rattle.scheme_model.specs.ScopedProgram.{scoped_work, scoped_before}
use Rattle.renumbering_laws.specs.Moving.{move_tree}
use Rattle.renumbering_laws.specs.Renumbering.{Renumbering, change}
use Rattle.carried_forms.specs.Alike.{same_tree}
use Rattle.carried_forms.specs.Paired.{FormText, UnitText, UnitPair, is_same_form}
use Rattle.carried_forms.specs.Worked.{WorkedForm, OpenDocument, read_documents, units_at_work, unit_text, unit_texts}
use Rattle.carried_forms.specs.Carried.{IsIn, worked_at}
use Rattle.carried_laws.specs.CarriedOver.{prepared_of}
use Rattle.carried_laws.specs.Homes.{At, IsForm, HomesGoOn}
use Rattle.carried_laws.proofs.PairsSend.{PairOf, pairs_found}
use Rattle.carried_laws.proofs.FormsSame.{SameAt, forms_same}
use Rattle.carried_laws.proofs.TreesSame.{trees_same}
use Rattle.carried_laws.proofs.FormsWritten.{IsWritten, form_written}
use Rattle.carried_laws.proofs.HomeTrees.{text_of, text_at, or_none, both, paired_homes}
use Rattle.known_pairs.specs.Known.{known_texts, pairs_known, KnownHomes}
use Rattle.known_pairs.proofs.PairsKnown.{mapped_there}

module _ (before after : List OpenDocument) (p : UnitPair) (i : IsIn p (pairs_known before after)) (q : ℕ × ℕ) (k : IsIn q p.forms) where
  abbrev ps : List Prepared
  ps = prepared_of after

  abbrev rs : List UnitResult
  rs = (scoped_work (units_of (read_documents after)) ps (known_in (read_documents after)) (length ps) scoped_before).results

  abbrev o : PairOf 0 (unit_texts before) (known_texts after) p
  o = pairs_found 0 (unit_texts before) (known_texts after) p i

  abbrev s : SameAt o.unit.forms o.from.unit.forms q.0 q.1
  s = forms_same o.unit.forms o.from.unit.forms p.forms o.from.forms q k

  here : At (unit_texts before) p.before o.unit
  here = let e = o.before in let d : o.place ≡ p.before = omega (arith, e) in subst (λ n. At (unit_texts before) n o.unit) d o.here

  there : At (known_texts after) p.after o.from.unit
  there = let e = o.from.after in let d : o.from.place ≡ p.after = omega (arith, e) in subst (λ n. At (known_texts after) n o.from.unit) d o.from.there

  -- its text is there, whether it is said to be broken or not
  plain : (u : UnitText) × At (unit_texts after) p.after u × (u.forms ≡ o.from.unit.forms)
  plain =
      let z = mapped_there (λ (x : Prepared). record (unit_text after rs x) { broken = is_some (fault_before (units_of (read_documents after)) ps x) }) (unit_text after rs) ps p.after o.from.unit there in
      (unit_text after rs z.0, z.3, ap (λ (x : UnitText). x.forms) z.2)

  other : At plain.0.forms q.1 s.other
  other = subst (λ (fs : List FormText). At fs q.1 s.other) (sym plain.2) s.there

  module _ (r : Renumbering) where
    tree_at_home : (f g : WorkedForm) (a : IsWritten (read_documents before) p.before q.0 f) (b : IsWritten (read_documents after) p.after q.1 g) → r.unit p.before ≡ p.after → r.form p.before q.0 ≡ q.1
        → HomesGoOn r (prepared_of before) (prepared_of after) (pairs_known before after) → move_tree (change r) f.tree ≡ g.tree
    tree_at_home f g a b unit_to form_to homes =
        let x = text_of before p.before q.0 o.unit here s.one s.here f a in
        let y = text_of after p.after q.1 plain.0 plain.1 s.other other g b in
        let home = go (is_some a.form.home || is_some b.form.home) refl in
        ap (move_tree (change r)) a.tree
        ∙ trees_same r p.before p.after (home_of p.before q.0 a.form) (home_of p.after q.1 b.form) a.form.datum b.form.datum ((λ j. same_tree bytes_eq (sym x j) (sym y j)) ∙ s.same) unit_to home.0 home.1
        ∙ sym b.tree
      where
        go : (t : Bool) → (is_some a.form.home || is_some b.form.home) ≡ t → let h = home_of p.before q.0 a.form in let j = home_of p.after q.1 b.form in (r.unit h.unit ≡ j.unit) × (r.form h.unit h.form ≡ j.form)
        go true e = homes p i q k a.form b.form (a.unit, a.in_program, a.there) (b.unit, b.in_program, b.there) e
        go false e = or_none p.before q.0 a.form.datum p.after q.1 b.form.datum r unit_to form_to a.form.home b.form.home e

    pub known_tree : (f g : WorkedForm) → worked_at (units_at_work (read_documents before)) p.before q.0 ≡ Some f → worked_at (units_at_work (read_documents after)) p.after q.1 ≡ Some g → r.unit p.before ≡ p.after → r.form p.before q.0 ≡ q.1
        → HomesGoOn r (prepared_of before) (prepared_of after) (pairs_known before after) → (r.form p.before f.form ≡ g.form) × (move_tree (change r) f.tree ≡ g.tree)
    known_tree f g was is unit form homes =
        let a = form_written (read_documents before) p.before q.0 f was in let b = form_written (read_documents after) p.after q.1 g is in
        (ap (r.form p.before) a.is ∙ (form ∙ sym b.is), tree_at_home f g a b unit form homes)

    pub known_homes : KnownHomes r before after → (f g : UnitForm) → IsForm (prepared_of before) p.before q.0 f → IsForm (prepared_of after) p.after q.1 g → (is_some f.home || is_some g.home) ≡ true →
        let h = home_of p.before q.0 f in let j = home_of p.after q.1 g in (r.unit h.unit ≡ j.unit) × (r.form h.unit h.form ≡ j.form)
    known_homes homes f g a b included =
        let x = text_at before p.before q.0 o.unit here s.one s.here f a in
        let y = text_at after p.after q.1 plain.0 plain.1 s.other other g b in
        let home = paired_homes o.unit.forms o.from.unit.forms p.forms o.from.forms q k s.one s.other s.here s.there ((λ j. x.2 j || y.2 j) ∙ included) in
        let t = both (bytes_eq s.one.home.uri s.other.home.uri) (s.one.home.number == s.other.home.number) (both (is_same_form s.one s.other) (bytes_eq s.one.home.uri s.other.home.uri && (s.one.home.number == s.other.home.number)) home).1 in
        let uri = sym x.0 ∙ ((bytes_eq-Decides s.one.home.uri s.other.home.uri).0 t.0 ∙ y.0) in
        let number = sym x.1 ∙ (eqb-true s.one.home.number s.other.home.number t.1 ∙ y.1) in
        let z = homes p i q k f g a b included uri in
        (z.0, z.1 ∙ number)
