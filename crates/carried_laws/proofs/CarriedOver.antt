-- Each carried form may be kept: it asks alike, and its tree is the one before under the new numbers.
use Rattle.std.proofs.Common.{◌≡◌, ℕ, ◌+◌, List, length, Bool, true, false, Option, Some, None, refl, sym, ap, ◌∙◌, subst, arith, zero, suc, [], ◌∷◌}
use Rattle.std.specs.Prelude.{◌||◌}
use Rattle.std.specs.Str.{bytes_eq}
use Rattle.scheme_model.specs.declared.Home.{Home}
use Rattle.scheme_model.specs.Data.{Datum}
use Rattle.scheme_model.specs.Trees.{placed_in}
use Rattle.scheme_model.specs.DataTrees.{tree_of}
use Rattle.scheme_model.specs.Order.{is_some}
use Rattle.scheme_model.specs.Declarations.{UnitForm, home_of, home_or}
use Rattle.scheme_model.specs.Program.{Prepared, UnitResult, known_in, prepare, units_of}
use Rattle.scheme_model.specs.ScopedProgram.{scoped_work, scoped_before}
use Rattle.scheme_model.specs.Diagnostics.{document_of}
use Rattle.form_laws.specs.Begins.{Each}
use Rattle.renumbering_laws.specs.Moving.{move_tree}
use Rattle.renumbering_laws.specs.Renumbering.{Renumbering, change}
use Rattle.renumbering_laws.specs.NewSurroundings.{HasOldNumbers}
use Rattle.carried_forms.specs.Alike.{same_tree}
use Rattle.carried_forms.specs.Paired.{FormText, UnitText, UnitPair}
use Rattle.carried_forms.specs.Worked.{WorkedForm, OpenDocument, AreOpenOnce, read_documents, units_at_work, uri_at, unit_text, unit_texts}
use Rattle.carried_forms.specs.Carried.{asks_alike, worked_at, both_alike, IsIn, carried}
use Rattle.carried_forms.proofs.CarriedLaws.{carried_only}
use Rattle.carried_forms.proofs.OldNumbers.{pairs_tell}
use Rattle.carried_forms.proofs.ProgramUnits.{programs_told, programs_within}
use Rattle.carried_laws.proofs.HomeTrees.{tree_goes_on}
use Rattle.carried_laws.specs.AtWork.{IsAtWork}
use Rattle.carried_laws.specs.Entries.{Stays, kept_as}
use Rattle.carried_laws.specs.CarriedEntries.{came_to}
use Rattle.carried_laws.specs.Homes.{At, IsForm}
use Rattle.carried_laws.specs.CarriedOver.{numbers_between, pairs_between, prepared_of, AllHomesGoOn, AreOwn, CarriedOver}
use Rattle.carried_laws.proofs.Places.{mapped_at, same_at}
use Rattle.carried_laws.proofs.PairsSend.{pairs_found, unit_sent, form_sent}
use Rattle.carried_laws.proofs.FormsSame.{forms_same}
use Rattle.carried_laws.proofs.TreesSame.{trees_same}
use Rattle.carried_laws.proofs.FormsWritten.{unit_number, texts_at, work_begins, IsWritten, form_written}
use Rattle.carried_laws.proofs.CarriedStays.{carried_stays}

-- ---- both were worked on

pub record Alike (r : Renumbering) (o q : Option WorkedForm) : Type 0 where
  pub one : WorkedForm
  pub other : WorkedForm
  pub here : o ≡ Some one
  pub there : q ≡ Some other
  pub alike : asks_alike r one other ≡ true

pub both_there : (r : Renumbering) (o q : Option WorkedForm) → both_alike r o q ≡ true → Alike r o q
both_there r None q h = let z : false ≡ true = h in absurd cc
both_there r (Some f) None h = let z : false ≡ true = h in absurd cc
both_there r (Some f) (Some g) h = record { one = f; other = g; here = refl; there = refl; alike = h }

module _ (before after : List OpenDocument) (once : AreOpenOnce before) (once_after : AreOpenOnce after) (homes : AllHomesGoOn before after) where
  abbrev us : List UnitText
  us = unit_texts before

  abbrev vs : List UnitText
  vs = unit_texts after

  abbrev r : Renumbering
  r = numbers_between before after

  old_numbers : HasOldNumbers r
  old_numbers = pairs_tell us vs (programs_told before once) (programs_within after once_after)

  module _ (p : UnitPair) (i : IsIn p (pairs_between before after)) (q : ℕ × ℕ) (k : IsIn q p.forms) where
    unit_to : r.unit p.before ≡ p.after
    unit_to = unit_sent us vs (programs_within before once) p i

    form_to : r.form p.before q.0 ≡ q.1
    form_to = form_sent us vs (programs_within before once) p i q k

    module _ (f g : WorkedForm) (a : IsWritten (read_documents before) p.before q.0 f) (b : IsWritten (read_documents after) p.after q.1 g) where
      tree_to : move_tree (change r) f.tree ≡ g.tree
      tree_to = tree_goes_on before after r p i q k f g a b unit_to form_to homes

      stays : asks_alike r f g ≡ true → IsAtWork p.before f → Stays p.after (g.form, g.tree) (Some (kept_as r (came_to f))) g
      stays alike at = subst (λ n. Stays n (g.form, g.tree) (Some (kept_as r (came_to f))) g) unit_to (carried_stays r old_numbers p.before f g at alike (ap (r.form p.before) a.is ∙ form_to ∙ sym b.is) tree_to)

    pub pair_stays : (f g : WorkedForm) → worked_at (units_at_work (read_documents before)) p.before q.0 ≡ Some f → worked_at (units_at_work (read_documents after)) p.after q.1 ≡ Some g → asks_alike r f g ≡ true → Stays p.after (g.form, g.tree) (Some (kept_as r (came_to f))) g
    pair_stays f g here there alike =
        stays f g (form_written (read_documents before) p.before q.0 f here) (form_written (read_documents after) p.after q.1 g there) alike (work_begins (read_documents before) p.before q.0 f here)

    pair_over : both_alike r (worked_at (units_at_work (read_documents before)) p.before q.0) (worked_at (units_at_work (read_documents after)) p.after q.1) ≡ true → CarriedOver before after (p.after, q.1)
    pair_over h =
        let z = both_there r (worked_at (units_at_work (read_documents before)) p.before q.0) (worked_at (units_at_work (read_documents after)) p.after q.1) h in
        record {
          unit = p.before;
          form = q.0;
          old = z.one;
          new = z.other;
          was = z.here;
          is = z.there;
          unit_after = unit_to;
          form_after = form_to;
          stays = pair_stays z.one z.other z.here z.there z.alike;
        }

  pub carried_over : (c : ℕ × ℕ) → IsIn c (carried before after) → CarriedOver before after c
  carried_over c h =
      let z = carried_only r (units_at_work (read_documents before)) (units_at_work (read_documents after)) (pairs_between before after) c h in
      subst (CarriedOver before after) (sym z.is) (pair_over z.unit z.goes_on z.forms z.with_it z.alike)

-- ---- where no form is included

each_at : {X : Type 0} (P : X → Type 0) (xs : List X) → Each P xs → (n : ℕ) (x : X) → At xs n x → P x
each_at P [] e n x h = absurd h
each_at P (y ∷ xs) e zero x h = subst P h e.0
each_at P (y ∷ xs) e (suc n) x h = each_at P xs e.1 n x h

own_home : (ds : List OpenDocument) → AreOwn ds → (u n : ℕ) (f : UnitForm) → IsForm (prepared_of ds) u n f → f.home ≡ None
own_home ds own u n f h = each_at (λ (g : UnitForm). g.home ≡ None) h.0.forms (each_at (λ (p : Prepared). Each (λ (g : UnitForm). g.home ≡ None) p.forms) (prepared_of ds) own u h.0 h.1) n f h.2

pub own_go_on : (before after : List OpenDocument) → AreOwn before → AreOwn after → AllHomesGoOn before after
own_go_on before after own own_after p i n j f g h k e =
    let a = own_home before own p.before n.0 f h in
    let b = own_home after own_after p.after n.1 g k in
    let z : false ≡ true = (λ t. is_some (sym a t) || is_some (sym b t)) ∙ e in absurd cc
