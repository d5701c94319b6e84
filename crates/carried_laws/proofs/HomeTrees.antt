-- The tree of a form that goes on is the one before under any numbers that send its unit, and the homes of forms, to what they go on as; and
-- homes of included forms are told by their uris.
use Rattle.std.proofs.Common.{◌≡◌, ℕ, ◌+◌, List, length, Bool, true, false, Option, Some, None, refl, sym, ap, ◌∙◌, subst, arith, zero, suc, [], ◌∷◌}
use Rattle.std.specs.Prelude.{◌||◌}
use Rattle.std.specs.Str.{bytes_eq}
use Rattle.scheme_model.specs.declared.Home.{Home}
use Rattle.scheme_model.specs.Data.{Datum}
use Rattle.scheme_model.specs.Trees.{placed_in}
use Rattle.scheme_model.specs.DataTrees.{tree_of}
use Rattle.scheme_model.specs.Order.{is_some}
use Rattle.scheme_model.specs.Declarations.{UnitForm, home_of, home_or}
use Rattle.scheme_model.specs.Program.{Prepared, UnitResult, known_in, prepare, units_of}
use Rattle.scheme_model.specs.ScopedProgram.{scoped_work, scoped_before}
use Rattle.scheme_model.specs.Diagnostics.{document_of}
use Rattle.form_laws.specs.Begins.{Each}
use Rattle.renumbering_laws.specs.Moving.{move_tree}
use Rattle.renumbering_laws.specs.Renumbering.{Renumbering, change}
use Rattle.renumbering_laws.specs.NewSurroundings.{HasOldNumbers}
use Rattle.carried_forms.specs.Alike.{same_tree}
use Rattle.carried_forms.specs.Paired.{FormText, UnitText, UnitPair}
use Rattle.carried_forms.specs.Worked.{WorkedForm, OpenDocument, AreOpenOnce, read_documents, units_at_work, uri_at, unit_text, unit_texts}
use Rattle.carried_forms.specs.Carried.{asks_alike, worked_at, both_alike, IsIn, carried}
use Rattle.carried_forms.proofs.CarriedLaws.{carried_only}
use Rattle.carried_forms.proofs.OldNumbers.{pairs_tell}
use Rattle.carried_forms.proofs.ProgramUnits.{programs_told, programs_within}
use Rattle.carried_laws.specs.AtWork.{IsAtWork}
use Rattle.carried_laws.specs.Entries.{Stays, kept_as}
use Rattle.carried_laws.specs.CarriedEntries.{came_to}
use Rattle.carried_laws.specs.Homes.{At, IsForm}
use Rattle.carried_laws.specs.CarriedOver.{numbers_between, pairs_between, prepared_of, AllHomesGoOn, AreOwn, CarriedOver}
use Rattle.carried_laws.proofs.Places.{mapped_at, same_at}
use Rattle.carried_laws.proofs.PairsSend.{pairs_found, unit_sent, form_sent}
use Rattle.carried_laws.proofs.FormsSame.{forms_same}
use Rattle.carried_laws.proofs.TreesSame.{trees_same}
use Rattle.carried_laws.proofs.FormsWritten.{unit_number, texts_at, work_begins, IsWritten, form_written}
use Rattle.carried_laws.proofs.CarriedStays.{carried_stays}
use Rattle.std.proofs.lemmas.Slice.Eq.{bytes_eq-Decides}
use Rattle.std.specs.Prelude.{◌&&◌, ◌==◌}
use Rattle.std.specs.List.{list_any}
use Rattle.std.proofs.Common.{◌++◌, cond, inl, inr}
use Rattle.std.proofs.lemmas.Bool.{eqb-true}
use Rattle.carried_forms.specs.Alike.{same_list}
use Rattle.carried_forms.specs.Paired.{is_same_form, is_same_at_home, in_step, by_ends, form_pairs}
use Rattle.carried_laws.specs.Homes.{At, IsForm, HomesGoOn}
use Rattle.carried_laws.specs.HomeUris.{uri_in, HomesOfUris}

-- ---- the text of a form at work

module _ (ds : List OpenDocument) where
  abbrev units : List Prepared
  units = let all = units_of (read_documents ds) in prepare all 0 all

  abbrev results : List UnitResult
  results = (scoped_work (units_of (read_documents ds)) units (known_in (read_documents ds)) (length units) scoped_before).results

  pub text_of : (n f : ℕ) (u : UnitText) → At (unit_texts ds) n u → (x : FormText) → At u.forms f x → (w : WorkedForm) (k : IsWritten (read_documents ds) n f w)
      → x.tree ≡ tree_of (λ s. s) (placed_in 0 0 (home_of n f k.form).first) k.form.datum
  text_of n f u a x b w k =
      let p = mapped_at (unit_text ds results) units n u a in
      let e : p.0 ≡ k.unit = same_at units n p.0 k.unit p.1 k.in_program in
      let number = unit_number (units_of (read_documents ds)) n p.0 p.1 in
      let q = texts_at (λ m. uri_at ds (document_of results m)) p.0.number 0 p.0.forms f x (subst (λ (z : UnitText). At z.forms f x) (sym p.2) b) in
      let d : q.form ≡ k.form = same_at k.unit.forms f q.form k.form (subst (λ (z : Prepared). At z.forms f q.form) e q.there) k.there in
      let z : 0 + f ≡ f = omega arith in
      sym (ap (λ (y : FormText). y.tree) q.text) ∙ (λ j. tree_of (λ s. s) (placed_in 0 0 (home_of (number j) (z j) (d j)).first) (d j).datum)

-- ---- the tree

tree_at_home : (before after : List OpenDocument) (r : Renumbering) (p : UnitPair) → IsIn p (pairs_between before after) → (q : ℕ × ℕ) → IsIn q p.forms → (f g : WorkedForm)
    → (a : IsWritten (read_documents before) p.before q.0 f) (b : IsWritten (read_documents after) p.after q.1 g) → r.unit p.before ≡ p.after → let h = home_of p.before q.0 a.form in let j = home_of p.after q.1 b.form in
    r.unit h.unit ≡ j.unit → r.form h.unit h.form ≡ j.form → move_tree (change r) f.tree ≡ g.tree
tree_at_home before after r p i q k f g a b unit_to home_unit home_form =
    let us = unit_texts before in let vs = unit_texts after in
    let o = pairs_found 0 us vs p i in
    let s = forms_same o.unit.forms o.from.unit.forms p.forms o.from.forms q k in
    let here : At us p.before o.unit = (let e = o.before in let d : o.place ≡ p.before = omega (arith, e) in subst (λ n. At us n o.unit) d o.here) in
    let there : At vs p.after o.from.unit = (let e = o.from.after in let d : o.from.place ≡ p.after = omega (arith, e) in subst (λ n. At vs n o.from.unit) d o.from.there) in
    let x = text_of before p.before q.0 o.unit here s.one s.here f a in
    let y = text_of after p.after q.1 o.from.unit there s.other s.there g b in
    ap (move_tree (change r)) a.tree
    ∙ trees_same r p.before p.after (home_of p.before q.0 a.form) (home_of p.after q.1 b.form) a.form.datum b.form.datum ((λ j. same_tree bytes_eq (sym x j) (sym y j)) ∙ s.same) unit_to home_unit home_form
    ∙ sym b.tree

-- ---- where forms go on, and homes do

pub or_none : (u f : ℕ) (d : Datum) (v g : ℕ) (e : Datum) (r : Renumbering) → r.unit u ≡ v → r.form u f ≡ g → (h i : Option Home) → (is_some h || is_some i) ≡ false
    → (r.unit (home_or u f d h).unit ≡ (home_or v g e i).unit) × (r.form (home_or u f d h).unit (home_or u f d h).form ≡ (home_or v g e i).form)
or_none u f d v g e r a b None None h = (a, b)
or_none u f d v g e r a b None (Some i) h = let z : true ≡ false = h in absurd cc
or_none u f d v g e r a b (Some i) None h = let z : true ≡ false = h in absurd cc
or_none u f d v g e r a b (Some i) (Some k) h = let z : true ≡ false = h in absurd cc

module _ (before after : List OpenDocument) (r : Renumbering) (p : UnitPair) (i : IsIn p (pairs_between before after)) (q : ℕ × ℕ) (k : IsIn q p.forms) (f g : WorkedForm)
    (a : IsWritten (read_documents before) p.before q.0 f) (b : IsWritten (read_documents after) p.after q.1 g) (unit_to : r.unit p.before ≡ p.after) (form_to : r.form p.before q.0 ≡ q.1)
    (homes : HomesGoOn r (prepared_of before) (prepared_of after) (pairs_between before after)) where
  home_to : let h = home_of p.before q.0 a.form in let j = home_of p.after q.1 b.form in (r.unit h.unit ≡ j.unit) × (r.form h.unit h.form ≡ j.form)
  home_to = go (is_some a.form.home || is_some b.form.home) refl
    where
      go : (t : Bool) → (is_some a.form.home || is_some b.form.home) ≡ t → let h = home_of p.before q.0 a.form in let j = home_of p.after q.1 b.form in (r.unit h.unit ≡ j.unit) × (r.form h.unit h.form ≡ j.form)
      go true e = homes p i q k a.form b.form (a.unit, a.in_program, a.there) (b.unit, b.in_program, b.there) e
      go false e = or_none p.before q.0 a.form.datum p.after q.1 b.form.datum r unit_to form_to a.form.home b.form.home e

  pub tree_goes_on : move_tree (change r) f.tree ≡ g.tree
  tree_goes_on = tree_at_home before after r p i q k f g a b unit_to home_to.0 home_to.1

pub worked_tree : (before after : List OpenDocument) (r : Renumbering) (p : UnitPair) → IsIn p (pairs_between before after) → (q : ℕ × ℕ) → IsIn q p.forms → (f g : WorkedForm) → worked_at (units_at_work (read_documents before)) p.before q.0 ≡ Some f
    → worked_at (units_at_work (read_documents after)) p.after q.1 ≡ Some g → r.unit p.before ≡ p.after → r.form p.before q.0 ≡ q.1 → HomesGoOn r (prepared_of before) (prepared_of after) (pairs_between before after)
    → (r.form p.before f.form ≡ g.form) × (move_tree (change r) f.tree ≡ g.tree)
worked_tree before after r p i q k f g here there unit form homes =
    let a = form_written (read_documents before) p.before q.0 f here in let b = form_written (read_documents after) p.after q.1 g there in
    (ap (r.form p.before) a.is ∙ (form ∙ sym b.is), tree_goes_on before after r p i q k f g a b unit form homes)

-- ---- homes by their uris

any_at : (fs gs : List FormText) (n : ℕ) (f : FormText) → At fs n f → f.included ≡ true → list_any (λ f. f.included) (fs ++ gs) ≡ true
any_at [] gs n f h e = absurd h
any_at (x ∷ fs) gs zero f h e = ap (λ b. b || list_any (λ f. f.included) (fs ++ gs)) (ap (λ (z : FormText). z.included) h ∙ e)
any_at (x ∷ fs) gs (suc n) f h e = go x.included (any_at fs gs n f h e)
  where
    go : (b : Bool) → list_any (λ f. f.included) (fs ++ gs) ≡ true → (b || list_any (λ f. f.included) (fs ++ gs)) ≡ true
    go true k = refl
    go false k = k

any_behind : (fs gs : List FormText) (n : ℕ) (g : FormText) → At gs n g → g.included ≡ true → list_any (λ f. f.included) (fs ++ gs) ≡ true
any_behind [] [] n g h e = absurd h
any_behind [] (x ∷ gs) zero g h e = ap (λ b. b || list_any (λ f. f.included) gs) (ap (λ (z : FormText). z.included) h ∙ e)
any_behind [] (x ∷ gs) (suc n) g h e = go x.included (any_behind [] gs n g h e)
  where
    go : (b : Bool) → list_any (λ f. f.included) gs ≡ true → (b || list_any (λ f. f.included) gs) ≡ true
    go true k = refl
    go false k = k
any_behind (x ∷ fs) gs n g h e = go x.included (any_behind fs gs n g h e)
  where
    go : (b : Bool) → list_any (λ f. f.included) (fs ++ gs) ≡ true → (b || list_any (λ f. f.included) (fs ++ gs)) ≡ true
    go true k = refl
    go false k = k

pub both : (a b : Bool) → (a && b) ≡ true → (a ≡ true) × (b ≡ true)
both true true h = (refl, refl)
both true false h = absurd cc
both false b h = absurd cc

step_even : (n m : ℕ) (q : ℕ × ℕ) → IsIn q (in_step n n m) → q.0 ≡ q.1
step_even n zero q h = absurd h
step_even n (suc m) q (inl e) = ap (λ (z : ℕ × ℕ). z.0) e ∙ ap (λ (z : ℕ × ℕ). z.1) (sym e)
step_even n (suc m) q (inr h) = step_even (suc n) m q h

home_at : (fs gs : List FormText) → same_list is_same_at_home fs gs ≡ true → (n : ℕ) (f g : FormText) → At fs n f → At gs n g → is_same_at_home f g ≡ true
home_at [] gs e n f g h k = absurd h
home_at (x ∷ fs) [] e n f g h k = absurd k
home_at (x ∷ fs) (y ∷ gs) e zero f g h k = (λ j. is_same_at_home (sym h j) (sym k j)) ∙ (both (is_same_at_home x y) (same_list is_same_at_home fs gs) e).0
home_at (x ∷ fs) (y ∷ gs) e (suc n) f g h k = home_at fs gs (both (is_same_at_home x y) (same_list is_same_at_home fs gs) e).1 n f g h k

-- where a form of one of two units is included, their forms that are paired are at home at one place
pub paired_homes : (fs gs : List FormText) (qs : List (ℕ × ℕ)) → form_pairs fs gs ≡ Some qs → (q : ℕ × ℕ) → IsIn q qs → (f g : FormText) → At fs q.0 f → At gs q.1 g → (f.included || g.included) ≡ true → is_same_at_home f g ≡ true
paired_homes fs gs qs e q h f g a b included =
    go (list_any (λ f. f.included) (fs ++ gs)) (any f.included g.included refl refl included) (same_list is_same_at_home fs gs) refl e
  where
    any : (x y : Bool) → f.included ≡ x → g.included ≡ y → (x || y) ≡ true → list_any (λ f. f.included) (fs ++ gs) ≡ true
    any true y m n o = any_at fs gs q.0 f a m
    any false true m n o = any_behind fs gs q.1 g b n
    any false false m n o = absurd cc

    or_these : Option (List (ℕ × ℕ)) → List (ℕ × ℕ)
    or_these None = []
    or_these (Some ps) = ps

    go : (s : Bool) → s ≡ true → (t : Bool) → same_list is_same_at_home fs gs ≡ t → cond s (cond t (Some (in_step 0 0 (length fs))) None) (Some (by_ends fs gs)) ≡ Some qs → is_same_at_home f g ≡ true
    go true m true d k =
        let i = subst (IsIn q) (sym (ap or_these k)) h in
        let even = step_even 0 (length fs) q i in
        home_at fs gs d q.0 f g a (subst (λ n. At gs n g) (sym even) b)
    go true m false d k = let z : is_some (Some qs) ≡ false = ap is_some (sym k) in absurd cc
    go false m t d k = absurd cc

-- the text of a form at its place
pub text_at : (ds : List OpenDocument) (n f : ℕ) (u : UnitText) → At (unit_texts ds) n u → (x : FormText) → At u.forms f x → (y : UnitForm) → IsForm (prepared_of ds) n f y
    → (x.home.uri ≡ uri_in ds (home_of n f y).unit) × (x.home.number ≡ (home_of n f y).form) × (x.included ≡ is_some y.home)
text_at ds n f u a x b y form =
    let p = mapped_at (unit_text ds (results ds)) (units ds) n u a in
    let e : p.0 ≡ form.0 = same_at (units ds) n p.0 form.0 p.1 form.1 in
    let number = unit_number (units_of (read_documents ds)) n p.0 p.1 in
    let q = texts_at (λ m. uri_at ds (document_of (results ds) m)) p.0.number 0 p.0.forms f x (subst (λ (z : UnitText). At z.forms f x) (sym p.2) b) in
    let d : q.form ≡ y = same_at form.0.forms f q.form y (subst (λ (z : Prepared). At z.forms f q.form) e q.there) form.2 in
    let z : 0 + f ≡ f = omega arith in (
      sym (ap (λ (t : FormText). t.home.uri) q.text) ∙ (λ j. uri_in ds (home_of (number j) (z j) (d j)).unit),
      sym (ap (λ (t : FormText). t.home.number) q.text) ∙ (λ j. (home_of (number j) (z j) (d j)).form),
      sym (ap (λ (t : FormText). t.included) q.text) ∙ (λ j. is_some (d j).home),
    )

module _ (before after : List OpenDocument) (r : Renumbering) (homes : HomesOfUris r before after) where
  pub homes_by_uris : HomesGoOn r (prepared_of before) (prepared_of after) (pairs_between before after)
  homes_by_uris p i q k f g a b included =
      let us = unit_texts before in let vs = unit_texts after in
      let o = pairs_found 0 us vs p i in
      let s = forms_same o.unit.forms o.from.unit.forms p.forms o.from.forms q k in
      let here : At us p.before o.unit = (let e = o.before in let d : o.place ≡ p.before = omega (arith, e) in subst (λ n. At us n o.unit) d o.here) in
      let there : At vs p.after o.from.unit = (let e = o.from.after in let d : o.from.place ≡ p.after = omega (arith, e) in subst (λ n. At vs n o.from.unit) d o.from.there) in
      let x = text_at before p.before q.0 o.unit here s.one s.here f a in
      let y = text_at after p.after q.1 o.from.unit there s.other s.there g b in
      let home = paired_homes o.unit.forms o.from.unit.forms p.forms o.from.forms q k s.one s.other s.here s.there ((λ j. x.2 j || y.2 j) ∙ included) in
      let t = both (bytes_eq s.one.home.uri s.other.home.uri) (s.one.home.number == s.other.home.number) (both (is_same_form s.one s.other) (bytes_eq s.one.home.uri s.other.home.uri && (s.one.home.number == s.other.home.number)) home).1 in
      let uri = sym x.0 ∙ ((bytes_eq-Decides s.one.home.uri s.other.home.uri).0 t.0 ∙ y.0) in
      let number = sym x.1 ∙ (eqb-true s.one.home.number s.other.home.number t.1 ∙ y.1) in
      let z = homes p i q k f g a b included uri in
      (z.0, z.1 ∙ number)
