-- Exactly the carried forms may be kept, and then no more is worked than the work of the event.
use Rattle.std.proofs.Common.{◌≡◌, inl, inr, ℕ, List, [], ◌∷◌, map, Bool, true, false, cond, Option, Some, None, Result, Ok, Err, refl, sym, ap, ◌∙◌, subst, eq-eqb}
use Rattle.std.specs.Prelude.{◌==◌, ◌&&◌}
use Rattle.std.proofs.lemmas.Bool.{eqb-true}
use Rattle.std.proofs.lemmas.Option.{same_Some}
use Rattle.scheme_model.specs.Ident.{Ident}
use Rattle.scheme_model.specs.RulesShape.{option_map}
use Rattle.scheme_model.specs.Steps.{Broken}
use Rattle.scheme_model.specs.Order.{Left}
use Rattle.scheme_model.specs.Program.{enough_turns}
use Rattle.form_laws.specs.Begins.{Each}
use Rattle.form_laws.proofs.FormLaws.{set_itself}
use Rattle.renumbering_laws.specs.Renumbering.{Renumbering, ident, result_as, left_as, broken_as}
use Rattle.kept_forms.specs.KeptForms.{KeptForm, FormOrKept}
use Rattle.kept_forms.specs.Carried.{kept_aside}
use Rattle.carried_forms.specs.Paired.{UnitPair}
use Rattle.carried_forms.specs.Worked.{WorkedForm, WorkedUnit, OpenDocument, AreOpenOnce, read_documents, units_at_work}
use Rattle.carried_forms.specs.Carried.{worked_at, both_alike, IsIn, carried}
use Rattle.carried_forms.proofs.CarriedLaws.{carried_only}
use Rattle.carried_laws.specs.AtWork.{IsAtWork}
use Rattle.carried_laws.specs.Entries.{Stays, FormsStay, UnitsStay, aside_as, kept_parts_as, kept_as}
use Rattle.carried_laws.specs.CarriedEntries.{rest_came_to, came_to, IsWhole, IsKeptWhole, KeepsAll}
use Rattle.carried_laws.specs.CarriedOver.{numbers_between, pairs_between, AllHomesGoOn}
use Rattle.carried_laws.specs.CarriedKeeping.{or_else, came_over, entry_in, entry_by, carried_entry, forms_worked, with_entry, carried_keeping}
use Rattle.carried_laws.proofs.FormsWritten.{work_begins}
use Rattle.carried_laws.proofs.CarriedOver.{both_there, pair_stays}
use Rattle.carried_laws.proofs.WorkedOnce.{forms_by_number, form_by_number}

both : (a b : Bool) → (a && b) ≡ true → (a ≡ true) × (b ≡ true)
both true true h = (refl, refl)
both true false h = absurd cc
both false b h = absurd cc

-- ---- what a form came to is kept whole

came_whole : (r : Renumbering) (n : ℕ) (f : WorkedForm) → IsAtWork n f → IsKeptWhole (Some (kept_as r (came_to f)))
came_whole r n f h = go f.left refl
  where
    go : (l : Result (Left Ident) Broken) → f.left ≡ l → IsWhole (aside_as r (kept_aside f.around enough_turns f.tree)) (option_map (kept_parts_as r) (rest_came_to f l))
    go (Ok l) e = tt
    go (Err x) e = (broken_as r x, ap (result_as r (left_as r (ident r))) (sym (set_itself f.around enough_turns f.tree h.begun).rest ∙ sym h.set ∙ e))

abbrev OrWhole : Option KeptForm → Type 0
OrWhole None = Unit {0}
OrWhole (Some k) = IsWhole k.aside k.parts

or_whole : (o q : Option KeptForm) → OrWhole o → IsKeptWhole q → IsKeptWhole (or_else o q)
or_whole None q h k = k
or_whole (Some c) q h k = h

first_whole : (o q : Option KeptForm) → IsKeptWhole o → IsKeptWhole (or_else o q)
first_whole None q h = absurd h
first_whole (Some c) q h = h

whole_or : (o : Option KeptForm) → IsKeptWhole o → OrWhole o
whole_or None h = absurd h
whole_or (Some c) h = h

or_stays : (n : ℕ) (g : WorkedForm) (o q : Option KeptForm) → Stays n (g.form, g.tree) o g → Stays n (g.form, g.tree) q g → Stays n (g.form, g.tree) (or_else o q) g
or_stays n g None q h k = k
or_stays n g (Some c) q h k = h

module _ (before after : List OpenDocument) where
  abbrev us : List WorkedUnit
  us = units_at_work (read_documents before)

  abbrev vs : List WorkedUnit
  vs = units_at_work (read_documents after)

  abbrev r : Renumbering
  r = numbers_between before after

  over_whole : (b f : ℕ) (q : Option WorkedForm) → both_alike r (worked_at us b f) q ≡ true → IsKeptWhole (came_over r (worked_at us b f))
  over_whole b f q h =
      let z = both_there r (worked_at us b f) q h in
      subst IsKeptWhole (ap (came_over r) (sym z.here)) (came_whole r b z.one (work_begins (read_documents before) b f z.one z.here))

  module _ (p : UnitPair) (n : ℕ) where
    in_or_whole : (qs : List (ℕ × ℕ)) → OrWhole (entry_in r us vs p n qs)
    in_or_whole [] = tt
    in_or_whole (q ∷ qs) = go ((q.1 == n) && both_alike r (worked_at us p.before q.0) (worked_at vs p.after q.1)) refl (in_or_whole qs)
      where
        go : (t : Bool) → ((q.1 == n) && both_alike r (worked_at us p.before q.0) (worked_at vs p.after q.1)) ≡ t → OrWhole (entry_in r us vs p n qs) → OrWhole (cond t (came_over r (worked_at us p.before q.0)) (entry_in r us vs p n qs))
        go true e h = whole_or (came_over r (worked_at us p.before q.0)) (over_whole p.before q.0 (worked_at vs p.after q.1) (both (q.1 == n) (both_alike r (worked_at us p.before q.0) (worked_at vs p.after q.1)) e).1)
        go false e h = h

    in_whole : (qs : List (ℕ × ℕ)) (x : ℕ × ℕ) → IsIn x qs → x.1 ≡ n → both_alike r (worked_at us p.before x.0) (worked_at vs p.after x.1) ≡ true → IsKeptWhole (entry_in r us vs p n qs)
    in_whole [] x h e a = absurd h
    in_whole (q ∷ qs) x h e a = go ((q.1 == n) && both_alike r (worked_at us p.before q.0) (worked_at vs p.after q.1)) refl h (λ k. in_whole qs x k e a)
      where
        go : (t : Bool) → ((q.1 == n) && both_alike r (worked_at us p.before q.0) (worked_at vs p.after q.1)) ≡ t → IsIn x (q ∷ qs) → (IsIn x qs → IsKeptWhole (entry_in r us vs p n qs)) → IsKeptWhole (cond t (came_over r (worked_at us p.before q.0)) (entry_in r us vs p n qs))
        go true d h law = over_whole p.before q.0 (worked_at vs p.after q.1) (both (q.1 == n) (both_alike r (worked_at us p.before q.0) (worked_at vs p.after q.1)) d).1
        go false d (inl s) law =
            let m = eq-eqb q.1 n (ap (λ (z : ℕ × ℕ). z.1) (sym s) ∙ e) in
            let b : both_alike r (worked_at us p.before q.0) (worked_at vs p.after q.1) ≡ true = ap (λ (z : ℕ × ℕ). both_alike r (worked_at us p.before z.0) (worked_at vs p.after z.1)) (sym s) ∙ a in
            let z : true ≡ false = (λ j. sym m j && sym b j) ∙ d in absurd cc
        go false d (inr s) law = law s

  by_whole : (ps : List UnitPair) (p : UnitPair) → IsIn p ps → (u n : ℕ) → p.after ≡ u → (x : ℕ × ℕ) → IsIn x p.forms → x.1 ≡ n → both_alike r (worked_at us p.before x.0) (worked_at vs p.after x.1) ≡ true → IsKeptWhole (entry_by r us vs ps u n)
  by_whole [] p h u n e x i d a = absurd h
  by_whole (q ∷ ps) p h u n e x i d a = go (q.after == u) refl h (λ k. by_whole ps p k u n e x i d a)
    where
      go : (t : Bool) → (q.after == u) ≡ t → IsIn p (q ∷ ps) → (IsIn p ps → IsKeptWhole (entry_by r us vs ps u n)) → IsKeptWhole (cond t (or_else (entry_in r us vs q n q.forms) (entry_by r us vs ps u n)) (entry_by r us vs ps u n))
      go true m (inl s) law = first_whole (entry_in r us vs q n q.forms) (entry_by r us vs ps u n) (subst (λ (z : UnitPair). IsKeptWhole (entry_in r us vs z n z.forms)) s (in_whole p n p.forms x i d a))
      go true m (inr s) law = or_whole (entry_in r us vs q n q.forms) (entry_by r us vs ps u n) (in_or_whole q n q.forms) (law s)
      go false m (inl s) law = let z : true ≡ false = sym (eq-eqb q.after u (ap (λ (z : UnitPair). z.after) (sym s) ∙ e)) ∙ m in absurd cc
      go false m (inr s) law = law s

  entry_whole : (u n : ℕ) → IsIn (u, n) (carried before after) → IsKeptWhole (carried_entry before after u n)
  entry_whole u n h =
      let z = carried_only r us vs (pairs_between before after) (u, n) h in
      by_whole (pairs_between before after) z.unit z.goes_on u n (ap (λ (c : ℕ × ℕ). c.0) (sym z.is)) z.forms z.with_it (ap (λ (c : ℕ × ℕ). c.1) (sym z.is)) z.alike

  pub keeps_all : KeepsAll (carried before after) (carried_keeping before after)
  keeps_all n = go (forms_worked vs n)
    where
      go : (gs : List WorkedForm) → Each (λ (x : FormOrKept). IsIn (n, x.form) (carried before after) → IsKeptWhole x.kept) (map (with_entry before after n) gs)
      go [] = tt
      go (g ∷ gs) = ((λ h. entry_whole n g.form h), go gs)

  -- ---- and it has its answers

  module _ (once : AreOpenOnce before) (once_after : AreOpenOnce after) (homes : AllHomesGoOn before after) where
    in_stays : (p : UnitPair) → IsIn p (pairs_between before after) → (n : ℕ) (g : WorkedForm) → worked_at vs p.after n ≡ Some g → (qs : List (ℕ × ℕ)) → ((q : ℕ × ℕ) → IsIn q qs → IsIn q p.forms) → Stays p.after (g.form, g.tree) (entry_in r us vs p n qs) g
    in_stays p i n g w [] sub = tt
    in_stays p i n g w (q ∷ qs) sub = go ((q.1 == n) && both_alike r (worked_at us p.before q.0) (worked_at vs p.after q.1)) refl (in_stays p i n g w qs (λ x h. sub x (inr h)))
      where
        here : (q.1 ≡ n) → both_alike r (worked_at us p.before q.0) (worked_at vs p.after q.1) ≡ true → Stays p.after (g.form, g.tree) (came_over r (worked_at us p.before q.0)) g
        here e a =
            let z = both_there r (worked_at us p.before q.0) (worked_at vs p.after q.1) a in
            let s = pair_stays before after once once_after homes p i q (sub q (inl refl)) z.one z.other z.here z.there z.alike in
            let same : z.other ≡ g = same_Some z.other g (sym z.there ∙ ap (worked_at vs p.after) e ∙ w) in
            let c : Some (kept_as r (came_to z.one)) ≡ came_over r (worked_at us p.before q.0) = ap (came_over r) (sym z.here) in
            subst (λ (y : WorkedForm × Option KeptForm). Stays p.after (y.0.form, y.0.tree) y.1 y.0) (λ j. (same j, c j)) s

        go : (t : Bool) → ((q.1 == n) && both_alike r (worked_at us p.before q.0) (worked_at vs p.after q.1)) ≡ t → Stays p.after (g.form, g.tree) (entry_in r us vs p n qs) g → Stays p.after (g.form, g.tree) (cond t (came_over r (worked_at us p.before q.0)) (entry_in r us vs p n qs)) g
        go true e law = let b = both (q.1 == n) (both_alike r (worked_at us p.before q.0) (worked_at vs p.after q.1)) e in here (eqb-true q.1 n b.0) b.1
        go false e law = law

    by_stays : (ps : List UnitPair) → ((p : UnitPair) → IsIn p ps → IsIn p (pairs_between before after)) → (u n : ℕ) (g : WorkedForm) → worked_at vs u n ≡ Some g → Stays u (g.form, g.tree) (entry_by r us vs ps u n) g
    by_stays [] sub u n g w = tt
    by_stays (p ∷ ps) sub u n g w = go (p.after == u) refl (by_stays ps (λ x h. sub x (inr h)) u n g w)
      where
        go : (t : Bool) → (p.after == u) ≡ t → Stays u (g.form, g.tree) (entry_by r us vs ps u n) g → Stays u (g.form, g.tree) (cond t (or_else (entry_in r us vs p n p.forms) (entry_by r us vs ps u n)) (entry_by r us vs ps u n)) g
        go true e law =
            let d = eqb-true p.after u e in
            let s = in_stays p (sub p (inl refl)) n g (ap (λ m. worked_at vs m n) d ∙ w) p.forms (λ x h. h) in
            or_stays u g (entry_in r us vs p n p.forms) (entry_by r us vs ps u n) (subst (λ m. Stays m (g.form, g.tree) (entry_in r us vs p n p.forms) g) d s) law
        go false e law = law

    forms_stay : (w : WorkedUnit) → IsIn w vs → (gs : List WorkedForm) → ((g : WorkedForm) → IsIn g gs → IsIn g w.forms) → FormsStay w.number (map (with_entry before after w.number) gs) gs
    forms_stay w i [] sub = tt
    forms_stay w i (g ∷ gs) sub =
        (refl, by_stays (pairs_between before after) (λ p h. h) w.number g.form g (form_by_number (read_documents after) w i g (sub g (inl refl))), forms_stay w i gs (λ x h. sub x (inr h)))

    units_stay : (ws : List WorkedUnit) → ((w : WorkedUnit) → IsIn w ws → IsIn w vs) → UnitsStay (carried_keeping before after) ws
    units_stay [] sub = tt
    units_stay (w ∷ ws) sub =
        let i = sub w (inl refl) in
        (subst (λ (gs : List WorkedForm). FormsStay w.number (map (with_entry before after w.number) gs) w.forms) (sym (forms_by_number (read_documents after) w i)) (forms_stay w i w.forms (λ g h. h)), units_stay ws (λ x h. sub x (inr h)))

    pub carried_stay : UnitsStay (carried_keeping before after) (units_at_work (read_documents after))
    carried_stay = units_stay vs (λ w h. h)
