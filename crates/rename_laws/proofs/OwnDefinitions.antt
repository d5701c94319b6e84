-- The forms of a unit define nothing of other units.
use Rattle.std.proofs.Common.{◌≡◌, ℕ, List, [], ◌∷◌, ◌++◌, map, Bool, true, false, cond, Option, Some, None, Result, Ok, Err, refl, sym, ap, ◌∙◌, subst}
use Rattle.std.specs.Prelude.{◌&&◌, nat_lt}
use Rattle.std.proofs.lemmas.Bool.{ne_eqb}
use Rattle.scheme_model.specs.Ident.{Ident, same_ident}
use Rattle.scheme_model.specs.Trees.{Tree}
use Rattle.scheme_model.specs.Cores.{Part}
use Rattle.scheme_model.specs.Requirements.{Known}
use Rattle.scheme_model.specs.Steps.{Broken}
use Rattle.scheme_model.specs.Order.{Item, Left, Note}
use Rattle.scheme_model.specs.Expression.{expand, item_part}
use Rattle.scheme_model.specs.UnitExpansion.{LeftOf, Work, ◌then◌, max_depth, max_total, unless_over, nodes_in, passes, before_parts, items_parts, form_parts, finished, unit}
use Rattle.scheme_model.specs.Program.{Prepared, enough_turns}
use Rattle.scheme_model.specs.Substitution.{Defined, Table, defined_in}
use Rattle.scheme_model.specs.ScopedExpansion.{FramedIdent, ScopedState}
use Rattle.unit_scopes.specs.Others.{Each, InFront, IsOf, OthersStay}
use Rattle.unit_scopes.specs.Searched.{searched, forms_of, searched_unit_over}
use Rattle.unit_scopes.specs.Stepped.{turned}
use Rattle.unit_scopes.specs.Units.{declared, uses_met, expanded}
use Rattle.expansion_laws.proofs.OtherForms.{none_in_front, more_in_front, declared_stays, expanded_stays, met_stays}

abbrev pub IsOfUnit : ℕ → Defined → Type 0
IsOfUnit unit d = d.unit ≡ unit

-- after forms of a unit, definitions of this unit alone stand in front of the table
pub record UnitGoes (s t : ScopedState) : Type 0 where
  pub unit : t.unit ≡ s.unit
  pub table : InFront (IsOfUnit s.unit) s.table t.table

goes_itself : (s : ScopedState) → UnitGoes s s
goes_itself s = record { unit = refl; table = none_in_front (IsOfUnit s.unit) s.table }

goes_then : (s t u : ScopedState) → UnitGoes s t → UnitGoes t u → UnitGoes s u
goes_then s t u a b = record {
  unit = b.unit ∙ a.unit;
  table = more_in_front (IsOfUnit s.unit) s.table t.table u.table a.table (subst (λ (n : ℕ). InFront (IsOfUnit n) t.table u.table) a.unit b.table);
}

goes_turned : (n : ℕ) (s : ScopedState) → UnitGoes s (turned n s)
goes_turned n s = record { unit = refl; table = none_in_front (IsOfUnit s.unit) s.table }

each_of_unit : (unit form : ℕ) (ds : List Defined) → Each (IsOf unit form) ds → Each (IsOfUnit unit) ds
each_of_unit unit form [] h = tt
each_of_unit unit form (d ∷ ds) h = (h.0.0, each_of_unit unit form ds h.1)

goes_other : (n : ℕ) (s t : ScopedState) → OthersStay n s t → UnitGoes s t
goes_other n s t h = record { unit = h.unit; table = record { front = h.table.front; each = each_of_unit s.unit n h.table.front h.table.each; whole = h.table.whole } }

then_goes : {X Y : Type 0} (s : ScopedState) (q : Option X × ScopedState) (f : X → Work ScopedState Y) → UnitGoes s q.1 → ((x : X) (t : ScopedState) → UnitGoes s t → UnitGoes s (f x t).1) → UnitGoes s (q then f).1
then_goes s (None, t) f h more = h
then_goes s (Some x, t) f h more = more x t h

module _ (known : Known) (fs : List ℕ) where
  unless_goes : {X : Type 0} (s : ScopedState) (q : X × ScopedState) → UnitGoes s q.1 → UnitGoes s (unless_over (searched known) fs q).1
  unless_goes {X} s q h = go (nat_lt max_total (nodes_in (searched known) fs q.1))
    where
      go : (b : Bool) → UnitGoes s (cond {A = Option X × ScopedState} b (None, q.1) (Some q.0, q.1)).1
      go true = h
      go false = h

  abbrev step : Item Ident → ScopedState → Result Part Broken × ScopedState
  step = item_part (expand (searched known) enough_turns) (searched known) max_depth []

  abbrev gone : List (ℕ × Tree Ident) → List (Note FramedIdent) → ScopedState → Option (List (LeftOf Ident)) × ScopedState
  gone ts notes s = passes (searched known) enough_turns [] fs ts notes s

  passes_goes : (ts : List (ℕ × Tree Ident)) (notes : List (Note FramedIdent)) (s : ScopedState) → UnitGoes s (gone ts notes s).1
  passes_goes [] notes s = goes_itself s
  passes_goes (t ∷ ts) notes s =
      let d = declared known t.0 t.1 notes s in
      then_goes s (unless_over (searched known) fs d) _ (unless_goes s d (goes_other t.0 s d.1 (declared_stays t.0 known t.1 notes s)))
      (λ q u h. then_goes s (gone ts q.notes u) _ (goes_then s u (gone ts q.notes u).1 h (passes_goes ts q.notes u)) (λ rest v k. k))

  -- whatever form is at work
  step_goes : (i : Item Ident) (s : ScopedState) → UnitGoes s (step i s).1
  step_goes i s = goes_other s.form s (expanded known s.form i s).1 (expanded_stays s.form known i s)

  items_goes : (is : List (Item Ident)) (s : ScopedState) → UnitGoes s (items_parts (searched known) fs step is s).1
  items_goes [] s = goes_itself s
  items_goes (i ∷ is) s = go (step i s) (step_goes i s) (λ t. items_goes is t)
    where
      go : (q : Result Part Broken × ScopedState) → UnitGoes s q.1 → ((t : ScopedState) → UnitGoes t (items_parts (searched known) fs step is t).1) → UnitGoes s (unless_over (searched known) fs q then before_parts (items_parts (searched known) fs step is)).1
      go (Err e, t) h more = by (nat_lt max_total (nodes_in (searched known) fs t))
        where
          by : (b : Bool) → UnitGoes s (cond b (None, t) (Some (Err e), t) then before_parts (items_parts (searched known) fs step is)).1
          by true = h
          by false = h
      go (Ok p, t) h more = by (nat_lt max_total (nodes_in (searched known) fs t))
        where
          by : (b : Bool) → UnitGoes s (cond b (None, t) (Some (Ok p), t) then before_parts (items_parts (searched known) fs step is)).1
          by true = h
          by false = then_goes s (items_parts (searched known) fs step is t) _ (goes_then s t (items_parts (searched known) fs step is t).1 h (more t)) (λ r u j. j)

  of_form : (n : ℕ) (r : Result (Left Ident) Broken) (s : ScopedState) → UnitGoes s (form_parts (searched known) (expand (searched known) enough_turns) [] fs r (turned n s)).1
  of_form n (Ok l) s =
      let m = goes_other n s (uses_met known n l.uses s) (met_stays n known l.uses s) in
      goes_then s (uses_met known n l.uses s) (items_parts (searched known) fs step l.items (uses_met known n l.uses s)).1 m (items_goes l.items (uses_met known n l.uses s))
  of_form n (Err e) s = goes_turned n s

  finished_goes : (rs : List (LeftOf Ident)) (s : ScopedState) → UnitGoes s (finished (searched known) (expand (searched known) enough_turns) [] fs rs s).1
  finished_goes [] s = goes_itself s
  finished_goes (r ∷ rs) s =
      then_goes s (form_parts (searched known) (expand (searched known) enough_turns) [] fs r.1 (turned r.0 s)) _ (of_form r.0 r.1 s)
      (λ parts t h. then_goes s (finished (searched known) (expand (searched known) enough_turns) [] fs rs t) _ (goes_then s t (finished (searched known) (expand (searched known) enough_turns) [] fs rs t).1 h (finished_goes rs t)) (λ rest u k. k))

module _ (known : Known) where
  unit_goes : (ts : List (ℕ × Tree Ident)) (s : ScopedState) → UnitGoes s (unit (searched known) enough_turns [] ts s).1
  unit_goes ts s =
      let fs = map (λ t. t.0) ts in
      then_goes s (passes (searched known) enough_turns [] fs ts [] s) (finished (searched known) (expand (searched known) enough_turns) [] fs) (passes_goes known fs ts [] s)
      (λ rs t h. goes_then s t (finished (searched known) (expand (searched known) enough_turns) [] fs rs t).1 h (finished_goes known fs rs t))

  pub searched_goes : (p : Prepared) (s : ScopedState) → UnitGoes s (searched_unit_over known p s).1
  searched_goes p s = unit_goes (forms_of p) s

-- ---- what other units define

front_in : (unit u : ℕ) → (u ≡ unit → ⊥) → (i : Ident) (front old : List Defined) → Each (IsOfUnit unit) front → defined_in (front ++ old) u i ≡ defined_in old u i
front_in unit u apart i [] old h = refl
front_in unit u apart i (d ∷ front) old h =
    ap (λ (b : Bool). cond (b && same_ident d.ident i) (Some d) (defined_in (front ++ old) u i)) (ne_eqb d.unit u (λ same. apart (sym same ∙ h.0))) ∙ front_in unit u apart i front old h.1

pub others_in : (unit u : ℕ) → (u ≡ unit → ⊥) → (old new : Table) → InFront (IsOfUnit unit) old new → (i : Ident) → defined_in new u i ≡ defined_in old u i
others_in unit u apart old new h i = ap (λ (t : Table). defined_in t u i) h.whole ∙ front_in unit u apart i h.front old h.each
