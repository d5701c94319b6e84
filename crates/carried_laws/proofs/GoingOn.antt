-- What is kept of units are entries, under new numbers, where it stays, and where forms are expanded.
use Rattle.std.proofs.Common.{◌≡◌, ℕ, List, [], ◌∷◌, map, Option, Some, None, refl, subst}
use Rattle.scheme_model.specs.Ident.{Ident}
use Rattle.scheme_model.specs.Trees.{Tree}
use Rattle.scheme_model.specs.RulesShape.{option_map}
use Rattle.form_laws.specs.Begins.{Each}
use Rattle.renumbering_laws.specs.Moving.{move_tree}
use Rattle.renumbering_laws.specs.Renumbering.{Renumbering, change}
use Rattle.renumbering_laws.specs.NewSurroundings.{HasOldNumbers, at_old, around_new}
use Rattle.kept_forms.specs.KeptForms.{KeptForm, FormOrKept, form_of}
use Rattle.kept_forms.specs.KeptPrograms.{Keeping}
use Rattle.carried_forms.specs.Worked.{WorkedForm, WorkedUnit}
use Rattle.carried_laws.specs.AtWork.{IsAtWork, AreAtWork}
use Rattle.carried_laws.specs.Entries.{IsEntry, AreEntries, Stays, FormsStay, kept_as, form_or_kept_as, keeping_as}
use Rattle.carried_laws.specs.CarriedEntries.{came_to}
use Rattle.carried_laws.proofs.Renumbered.{entry_moved}
use Rattle.carried_laws.proofs.CarriedStays.{came_to_is_entry}

module _ (r : Renumbering) (b : HasOldNumbers r) where
  one_moved : (n : ℕ) (x : ℕ × Tree Ident) (o : Option KeptForm) → IsEntry n x o → IsEntry (r.unit n) (r.form n x.0, move_tree (change r) x.1) (option_map (kept_as r) o)
  one_moved n x None h = tt
  one_moved n x (Some k) h = (around_new r b h.0, around_new r b h.1, entry_moved r b n x k h.0 h.1 h.2)

  forms_moved : (n : ℕ) (xs : List FormOrKept) → Each (λ (x : FormOrKept). IsEntry n (form_of x) x.kept) xs → Each (λ (x : FormOrKept). IsEntry (r.unit n) (form_of x) x.kept) (map (form_or_kept_as r n) xs)
  forms_moved n [] h = tt
  forms_moved n (x ∷ xs) h = (one_moved n (form_of x) x.kept h.0, forms_moved n xs h.1)

  pub entries_moved : (keep : Keeping) → ((u v : ℕ) → b.unit_back v ≡ Some u → r.unit u ≡ v) → AreEntries keep → AreEntries (keeping_as r b keep)
  entries_moved keep back h v = go (b.unit_back v) refl
    where
      go : (o : Option ℕ) → b.unit_back v ≡ o → Each (λ (x : FormOrKept). IsEntry v (form_of x) x.kept) (at_old [] (λ m. map (form_or_kept_as r m) (keep m)) o)
      go None e = tt
      go (Some u) e = subst (λ m. Each (λ (x : FormOrKept). IsEntry m (form_of x) x.kept) (map (form_or_kept_as r u) (keep u))) (back u v e) (forms_moved u (keep u) (h u))

stays_entry : (n : ℕ) (x : ℕ × Tree Ident) (o : Option KeptForm) (g : WorkedForm) → Stays n x o g → IsEntry n x o
stays_entry n x None g h = tt
stays_entry n x (Some k) g h = (h.0, h.1, h.2)

pub kept_entries : (n : ℕ) (xs : List FormOrKept) (gs : List WorkedForm) → FormsStay n xs gs → Each (λ (x : FormOrKept). IsEntry n (form_of x) x.kept) xs
kept_entries n [] [] h = tt
kept_entries n [] (g ∷ gs) h = absurd h
kept_entries n (x ∷ xs) [] h = absurd h
kept_entries n (x ∷ xs) (g ∷ gs) h = (stays_entry n (form_of x) x.kept g h.1, kept_entries n xs gs h.2)

forms_expanded : (n : ℕ) (gs : List WorkedForm) → Each (IsAtWork n) gs → Each (λ (g : WorkedForm). IsEntry n (g.form, g.tree) (Some (came_to g))) gs
forms_expanded n [] h = tt
forms_expanded n (g ∷ gs) h = ((g.around, g.later, came_to_is_entry n g h.0), forms_expanded n gs h.1)

pub expanded_entries : (w : WorkedUnit) → AreAtWork w → Each (λ (g : WorkedForm). IsEntry w.number (g.form, g.tree) (Some (came_to g))) w.forms
expanded_entries w h = forms_expanded w.number w.forms h
