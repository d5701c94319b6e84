-- The forms of a unit define nothing of other units, and leave what units import.
use Rattle.std.proofs.Common.{◌≡◌, ℕ, List, [], ◌∷◌, ◌++◌, map, Bool, true, false, cond, Option, Some, None, Result, Ok, Err, refl, sym, ap, ◌∙◌, subst}
use Rattle.std.specs.Prelude.{nat_lt}
use Rattle.std.proofs.lemmas.Bool.{ne_eqb}
use Rattle.scheme_model.specs.Ident.{Ident}
use Rattle.scheme_model.specs.Trees.{Tree}
use Rattle.scheme_model.specs.Cores.{Part}
use Rattle.scheme_model.specs.Requirements.{Known}
use Rattle.scheme_model.specs.Steps.{Broken}
use Rattle.scheme_model.specs.Order.{Item, Left, Note, WaitingUse}
use Rattle.scheme_model.specs.Expression.{expand, item_part}
use Rattle.scheme_model.specs.UnitExpansion.{LeftOf, Work, ◌then◌, max_depth, max_total, unless_over, nodes_in, passes, before_parts, items_parts, form_parts, finished, unit}
use Rattle.scheme_model.specs.Program.{Prepared, enough_turns}
use Rattle.scheme_model.specs.Substitution.{Defined}
use Rattle.scheme_model.specs.ScopedExpansion.{FramedIdent, ScopedState}
use Rattle.core_tree.specs.Units.{defined_by}
use Rattle.unit_scopes.specs.Others.{Each, InFront, IsOf, OthersStay}
use Rattle.unit_scopes.specs.Searched.{searched, forms_of, searched_unit_over}
use Rattle.unit_scopes.specs.Stepped.{turned}
use Rattle.unit_scopes.specs.Units.{declared, uses_met, expanded}
use Rattle.expansion_laws.proofs.OtherForms.{none_in_front, more_in_front, declared_stays, expanded_stays, met_stays}
use Rattle.form_expansion.proofs.FormAtWork.{item_form, met_form, same_turned}

abbrev pub IsOfUnit : ℕ → Defined → Type 0
IsOfUnit unit d = d.unit ≡ unit

-- after forms of a unit what units import is as it was, and in front of the table stand definitions of this unit alone
pub record UnitGoes (s t : ScopedState) : Type 0 where
  pub unit : t.unit ≡ s.unit
  pub entry : t.entry ≡ s.entry
  pub table : InFront (IsOfUnit s.unit) s.table t.table

pub goes_itself : (s : ScopedState) → UnitGoes s s
goes_itself s = record { unit = refl; entry = refl; table = none_in_front (IsOfUnit s.unit) s.table }

pub goes_then : (s t u : ScopedState) → UnitGoes s t → UnitGoes t u → UnitGoes s u
goes_then s t u a b = record {
  unit = b.unit ∙ a.unit;
  entry = b.entry ∙ a.entry;
  table = more_in_front (IsOfUnit s.unit) s.table t.table u.table a.table (subst (λ (n : ℕ). InFront (IsOfUnit n) t.table u.table) a.unit b.table);
}

goes_turned : (n : ℕ) (s : ScopedState) → UnitGoes s (turned n s)
goes_turned n s = record { unit = refl; entry = refl; table = none_in_front (IsOfUnit s.unit) s.table }

each_of_unit : (unit form : ℕ) (ds : List Defined) → Each (IsOf unit form) ds → Each (IsOfUnit unit) ds
each_of_unit unit form [] h = tt
each_of_unit unit form (d ∷ ds) h = (h.0.0, each_of_unit unit form ds h.1)

goes_other : (n : ℕ) (s t : ScopedState) → OthersStay n s t → UnitGoes s t
goes_other n s t h = record { unit = h.unit; entry = h.entry; table = record { front = h.table.front; each = each_of_unit s.unit n h.table.front h.table.each; whole = h.table.whole } }

module _ (s : ScopedState) {X Y : Type 0} where
  then_goes : (q : Option X × ScopedState) (f : X → Work ScopedState Y) → UnitGoes s q.1 → ((x : X) (t : ScopedState) → UnitGoes s t → UnitGoes s (f x t).1) → UnitGoes s (q then f).1
  then_goes (None, t) f h more = h
  then_goes (Some x, t) f h more = more x t h

module _ (known : Known) (fs : List ℕ) where
  unless_goes : {X : Type 0} (s : ScopedState) (q : X × ScopedState) → UnitGoes s q.1 → UnitGoes s (unless_over (searched known) fs q).1
  unless_goes {X} s q h = go (nat_lt max_total (nodes_in (searched known) fs q.1))
    where
      go : (b : Bool) → UnitGoes s (cond {A = Option X × ScopedState} b (None, q.1) (Some q.0, q.1)).1
      go true = h
      go false = h

  abbrev step : Item Ident → ScopedState → Result Part Broken × ScopedState
  step = item_part (expand (searched known) enough_turns) (searched known) max_depth []

  pub passes_goes : (ts : List (ℕ × Tree Ident)) (notes : List (Note FramedIdent)) (s : ScopedState) → UnitGoes s (passes (searched known) enough_turns [] fs ts notes s).1
  passes_goes [] notes s = goes_itself s
  passes_goes (t ∷ ts) notes s =
      let d = declared known t.0 t.1 notes s in
      then_goes s (unless_over (searched known) fs d) _ (unless_goes s d (goes_other t.0 s d.1 (declared_stays t.0 known t.1 notes s)))
      (λ q u h. then_goes s (passes (searched known) enough_turns [] fs ts q.notes u) _ (goes_then s u (passes (searched known) enough_turns [] fs ts q.notes u).1 h (passes_goes ts q.notes u)) (λ rest v k. k))

  step_goes : (n : ℕ) (i : Item Ident) (s : ScopedState) → s.form ≡ n → UnitGoes s (step i s).1 × ((step i s).1.form ≡ n)
  step_goes n i s work =
      let same = same_turned s n work in (
        subst (λ (t : ScopedState). UnitGoes s (step i t).1) same (goes_other n s (expanded known n i s).1 (expanded_stays n known i s)),
        ap (λ (t : ScopedState). (step i t).1.form) (sym same) ∙ item_form n known i s,
      )

  items_goes : (n : ℕ) (is : List (Item Ident)) (s : ScopedState) → s.form ≡ n → UnitGoes s (items_parts (searched known) fs step is s).1
  items_goes n [] s work = goes_itself s
  items_goes n (i ∷ is) s work = let h = step_goes n i s work in go (step i s) h.0 h.1 (λ t w. items_goes n is t w)
    where
      go : (q : Result Part Broken × ScopedState) → UnitGoes s q.1 → q.1.form ≡ n → ((t : ScopedState) → t.form ≡ n → UnitGoes t (items_parts (searched known) fs step is t).1) →
          UnitGoes s (unless_over (searched known) fs q then before_parts (items_parts (searched known) fs step is)).1
      go (Err e, t) h k more = by (nat_lt max_total (nodes_in (searched known) fs t))
        where
          by : (b : Bool) → UnitGoes s (cond b (None, t) (Some (Err e), t) then before_parts (items_parts (searched known) fs step is)).1
          by true = h
          by false = h
      go (Ok p, t) h k more = by (nat_lt max_total (nodes_in (searched known) fs t))
        where
          by : (b : Bool) → UnitGoes s (cond b (None, t) (Some (Ok p), t) then before_parts (items_parts (searched known) fs step is)).1
          by true = h
          by false = then_goes s (items_parts (searched known) fs step is t) _ (goes_then s t (items_parts (searched known) fs step is t).1 h (more t k)) (λ r u j. j)

  -- a form's uses are met at its turn
  met_goes : (n : ℕ) (us : List (WaitingUse Ident)) (s : ScopedState) → UnitGoes s (uses_met known n us s) × ((uses_met known n us s).form ≡ n)
  met_goes n us s = (goes_other n s (uses_met known n us s) (met_stays n known us s), met_form n known us s)

  of_form : (n : ℕ) (r : Result (Left Ident) Broken) (s : ScopedState) → UnitGoes s (form_parts (searched known) (expand (searched known) enough_turns) [] fs r (turned n s)).1
  of_form n (Ok l) s =
      let m = met_goes n l.uses s in
      goes_then s (uses_met known n l.uses s) (items_parts (searched known) fs step l.items (uses_met known n l.uses s)).1 m.0 (items_goes n l.items (uses_met known n l.uses s) m.1)
  of_form n (Err e) s = goes_turned n s

  pub finished_goes : (rs : List (LeftOf Ident)) (s : ScopedState) → UnitGoes s (finished (searched known) (expand (searched known) enough_turns) [] fs rs s).1
  finished_goes [] s = goes_itself s
  finished_goes (r ∷ rs) s =
      then_goes s (form_parts (searched known) (expand (searched known) enough_turns) [] fs r.1 (turned r.0 s)) _ (of_form r.0 r.1 s)
      (λ parts t h. then_goes s (finished (searched known) (expand (searched known) enough_turns) [] fs rs t) _ (goes_then s t (finished (searched known) (expand (searched known) enough_turns) [] fs rs t).1 h (finished_goes rs t)) (λ rest u k. k))

module _ (known : Known) where
  pub unit_goes : (ts : List (ℕ × Tree Ident)) (s : ScopedState) → UnitGoes s (unit (searched known) enough_turns [] ts s).1
  unit_goes ts s =
      let fs = map (λ t. t.0) ts in
      then_goes s (passes (searched known) enough_turns [] fs ts [] s) (finished (searched known) (expand (searched known) enough_turns) [] fs) (passes_goes known fs ts [] s)
      (λ rs t h. goes_then s t (finished (searched known) (expand (searched known) enough_turns) [] fs rs t).1 h (finished_goes known fs rs t))

  pub searched_goes : (p : Prepared) (s : ScopedState) → UnitGoes s (searched_unit_over known p s).1
  searched_goes p s = unit_goes (forms_of p) s

-- ---- what units define

front_others : (unit u : ℕ) → (u ≡ unit → ⊥) → (front old : List Defined) → Each (IsOfUnit unit) front → defined_by u (front ++ old) ≡ defined_by u old
front_others unit u apart [] old h = refl
front_others unit u apart (d ∷ front) old h =
    ap (λ (b : Bool). cond b (d ∷ defined_by u (front ++ old)) (defined_by u (front ++ old))) (ne_eqb d.unit u (λ same. apart (sym same ∙ h.0))) ∙ front_others unit u apart front old h.1

pub others_define : (unit u : ℕ) → (u ≡ unit → ⊥) → (old new : List Defined) → InFront (IsOfUnit unit) old new → defined_by u new ≡ defined_by u old
others_define unit u apart old new h = ap (defined_by u) h.whole ∙ front_others unit u apart h.front old h.each
