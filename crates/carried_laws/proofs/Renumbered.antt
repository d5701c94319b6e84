-- What is kept of a form in surroundings under new numbers is what was kept there, under the new numbers; so an entry stays one.
use Rattle.std.proofs.Common.{◌≡◌, ℕ, ◌+◌, ◌-◌, List, [], ◌∷◌, map, Option, Some, None, Result, Ok, Err, refl, sym, ap, ◌∙◌, arith}
use Rattle.scheme_model.specs.Ident.{Ident}
use Rattle.scheme_model.specs.Trees.{Tree}
use Rattle.scheme_model.specs.RulesShape.{option_map}
use Rattle.scheme_model.specs.Cores.{Bound, LocalNumber, Definition, Binder, Part}
use Rattle.scheme_model.specs.Steps.{Broken, Step}
use Rattle.scheme_model.specs.Order.{Item, Expression, Value, Function, Assigned, AssignedFunction, ValuesOf, Record, Macro, Left, meet_all}
use Rattle.scheme_model.specs.Expression.{expand, item_part}
use Rattle.scheme_model.specs.UnitExpansion.{max_depth}
use Rattle.scheme_model.specs.Substitution.{definition_count}
use Rattle.scheme_model.specs.Program.{enough_turns}
use Rattle.scheme_model.specs.Questions.{Around, Asking, asking}
use Rattle.scheme_model.specs.FormsAlike.{bound_moved, binder_with, item_with, left_with, or_fault, no_questions}
use Rattle.renumbering_laws.specs.Moving.{move_tree, move_clause}
use Rattle.renumbering_laws.specs.Renumbering.{Renumbering, IsOneToOne, ident, change, place, with_places, bound, binder, record_type, result_as, part_as, form_as, item_as, use_as, left_as}
use Rattle.renumbering_laws.specs.Asked.{new_moment, new_asking, TurnsMove}
use Rattle.renumbering_laws.specs.NewSurroundings.{HasOldNumbers, around_new}
use Rattle.renumbering_laws.proofs.AskingSide.{set_aside_asks, uses_ask, item_asks}
use Rattle.renumbering_laws.proofs.NewSurroundings.{old_numbers_apart, turns_move}
use Rattle.kept_forms.specs.KeptForms.{KeptAside, KeptItem, KeptParts, KeptForm}
use Rattle.kept_forms.specs.Carried.{kept_aside, kept_parts, kept_items, unless_broken, RestFits}
use Rattle.carried_forms.proofs.NewBeginnings.{form_begins_new, left_begins_new}
use Rattle.carried_laws.specs.Entries.{RestStands, StandsFor, aside_as, kept_item_as, kept_parts_as, kept_as}

-- ---- what is kept

module _ (r : Renumbering) (o : IsOneToOne r) (still : (u n : ℕ) → r.definition u n ≡ n) (w v : Around) (t : TurnsMove r w v) (turns : ℕ) where
  count_moved : definition_count v.state.table v.state.unit ≡ definition_count w.state.table w.state.unit
  count_moved =
      let n = definition_count w.state.table w.state.unit in
      let a = t.counts 0 in let b = still w.state.unit (n + 0) in omega (arith, a, b)

  pub aside_moved : (x : Tree Ident) → kept_aside v turns (move_tree (change r) x) ≡ aside_as r (kept_aside w turns x)
  aside_moved x = let a = set_aside_asks r o w v t turns x in λ j. let q = a j in record { pass = q.0; moment = q.1.moment; before = count_moved j }

  abbrev here : Item Ident → Step Asking Part
  here = item_part (expand (asking w) turns) (asking w) max_depth []

  abbrev there : Item Ident → Step Asking Part
  there = item_part (expand (asking v) turns) (asking v) max_depth []

  abbrev item_to : Item Ident → Item Ident
  item_to = item_as r (ident r)

  items_moved : (is : List (Item Ident)) (s : Asking) → kept_items there (map item_to is) (new_asking r s) ≡ map (kept_item_as r) (kept_items here is s)
  items_moved [] s = refl
  items_moved (i ∷ is) s = (λ j. first (item_asks r o w v t turns max_depth i s j)) ∙ behind (here i s).0 (here i s).1 (λ u. items_moved is u)
    where
      first : Result Part Broken × Asking → List KeptItem
      first q = record { part = q.0; moment = q.1.moment } ∷ unless_broken q.0 (kept_items there (map item_to is) q.1)

      behind : (p : Result Part Broken) (u : Asking) → ((z : Asking) → kept_items there (map item_to is) (new_asking r z) ≡ map (kept_item_as r) (kept_items here is z)) → first (result_as r (part_as r) p, new_asking r u) ≡ map (kept_item_as r) (record { part = p; moment = u.moment } ∷ unless_broken p (kept_items here is u))
      behind (Ok p) u law = ap (λ ks. kept_item_as r (record { part = Ok p; moment = u.moment }) ∷ ks) (law u)
      behind (Err e) u law = refl

  pub parts_moved : (n : ℕ) (l : Left Ident) → kept_parts v turns n (left_as r (ident r) l) ≡ kept_parts_as r (kept_parts w turns n l)
  parts_moved n l =
      let a = t.begun in
      let begin : no_questions v ≡ new_asking r (no_questions w) = (λ j. record { moment = a j; asked = [] }) in
      let s = meet_all (asking w) [] l.uses (no_questions w) in
      let met = ap (meet_all (asking v) [] (left_as r (ident r) l).uses) begin ∙ uses_ask r o w v t l.uses (no_questions w) in
      let items = ap (kept_items there (map item_to l.items)) met ∙ items_moved l.items s in
      λ j. record { left = left_as r (ident r) l; before = n; begun = a j; met = (met j).moment; items = items j }

-- ---- numbers of definitions that move

module _ (r : Renumbering) (still : (u n : ℕ) → r.definition u n ≡ n) (from to : ℕ) where
  abbrev f : Bound → Bound
  f = bound_moved from to

  bound_both : (x : Bound) → f (bound r x) ≡ bound r (f x)
  bound_both (LocalNumber k) = refl
  bound_both (Definition u n) = let e : r.definition u n + to - from ≡ r.definition u (n + to - from) = (let a = still u n in let b = still u (n + to - from) in omega (arith, a, b)) in ap (Definition (r.unit u)) e

  binder_both : (x : Binder) → binder_with f (binder r x) ≡ binder r (binder_with f x)
  binder_both x = let e = bound_both x.bound in λ j. record (binder r x) { bound = e j }

  names_both : (bs : List Binder) → map (binder_with f) (map (binder r) bs) ≡ map (binder r) (map (binder_with f) bs)
  names_both [] = refl
  names_both (x ∷ bs) = let e = binder_both x in let d = names_both bs in λ j. e j ∷ d j

  item_both : (i : Item Ident) → item_with f (item_as r (ident r) i) ≡ item_as r (ident r) (item_with f i)
  item_both (Expression x) = refl
  item_both (Value b x) = ap (λ c. Value c (form_as r (ident r) x)) (binder_both b)
  item_both (Function b here c) = ap (λ d. Function d (place r here) (move_clause (with_places r (ident r)) c)) (binder_both b)
  item_both (Assigned n x) = refl
  item_both (AssignedFunction n here c) = refl
  item_both (ValuesOf bs x) = ap (λ ns. ValuesOf (record { names = ns; rest = bs.rest }) (form_as r (ident r) x)) (names_both bs.names)
  item_both (Record t) = let e = names_both t.binders in ap (λ ns. Record (record (record_type r t) { binders = ns })) e
  item_both (Macro b here) = ap (λ c. Macro c (place r here)) (binder_both b)

  items_both : (is : List (Item Ident)) → map (item_with f) (map (item_as r (ident r)) is) ≡ map (item_as r (ident r)) (map (item_with f) is)
  items_both [] = refl
  items_both (i ∷ is) = let e = item_both i in let d = items_both is in λ j. e j ∷ d j

  left_both : (l : Left Ident) → left_with f (left_as r (ident r) l) ≡ left_as r (ident r) (left_with f l)
  left_both l = ap (λ is. record { uses = map (use_as r (ident r)) l.uses; items = is }) (items_both l.items)

  result_both : (x : Result (Left Ident) Broken) → or_fault (left_with f) (result_as r (left_as r (ident r)) x) ≡ result_as r (left_as r (ident r)) (or_fault (left_with f) x)
  result_both (Ok l) = ap (λ m. Ok m) (left_both l)
  result_both (Err e) = refl

-- ---- entries

module _ (r : Renumbering) (b : HasOldNumbers r) where
  one : IsOneToOne r
  one = old_numbers_apart r b

  rest_stands : (n f : ℕ) (u : Around) (o : Option KeptParts) → RestStands n f u o → RestStands (r.unit n) (r.form n f) (around_new r b u) (option_map (kept_parts_as r) o)
  rest_stands n f u None h = tt
  rest_stands n f u (Some c) h = (
    ap r.unit h.0,
    (let x = h.0 in let y = h.1 in λ j. r.form (x j) (y j)),
    left_begins_new r b u c.left h.2,
    ap (kept_parts_as r) h.3 ∙ sym (parts_moved r one b.definitions u (around_new r b u) (turns_move r b u) enough_turns c.before c.left),
  )

  rest_fits : (a : KeptAside) (o : Option KeptParts) → RestFits a o → RestFits (aside_as r a) (option_map (kept_parts_as r) o)
  rest_fits a None h = tt
  rest_fits a (Some c) h = (ap (new_moment r) h.0, result_both r b.definitions a.before c.before a.pass.left ∙ ap (result_as r (left_as r (ident r))) h.1)

  pub entry_moved : (n : ℕ) (x : ℕ × Tree Ident) (k : KeptForm) (w u : Around) → StandsFor n x k w u → StandsFor (r.unit n) (r.form n x.0, move_tree (change r) x.1) (kept_as r k) (around_new r b w) (around_new r b u)
  entry_moved n x k w u h = record {
    unit_there = ap r.unit h.unit_there;
    form_there = (let x = h.unit_there in let y = h.form_there in λ j. r.form (x j) (y j));
    new = (turns_move r b w).begun ∙ ap (new_moment r) h.new;
    begun = form_begins_new r b w x.1 h.begun;
    aside = ap (aside_as r) h.aside ∙ sym (aside_moved r one b.definitions w (around_new r b w) (turns_move r b w) enough_turns x.1);
    rest = rest_stands n x.0 u k.parts h.rest;
    fits = rest_fits k.aside k.parts h.fits;
  }
