-- An entry stays one with other numbers of the unit's definitions: expanding what was set aside with other numbers gives the same with these.
use Rattle.std.proofs.Common.{◌≡◌, ℕ, List, [], ◌∷◌, map, Option, Some, None, Result, Ok, Err, refl, sym, ap, ◌∙◌, subst}
use Rattle.scheme_model.specs.Ident.{Ident}
use Rattle.scheme_model.specs.Trees.{Tree}
use Rattle.scheme_model.specs.RulesShape.{option_map}
use Rattle.scheme_model.specs.Cores.{Bound, LocalNumber, Definition, Binder, Core, Part, Expression as expression_part, Define as define_part, Values as values_part, Syntax as syntax_part}
use Rattle.scheme_model.specs.Steps.{Broken, Step, ◌>>=◌, done}
use Rattle.scheme_model.specs.Order.{Item, Expression, Value, Function, Assigned, AssignedFunction, ValuesOf, Record, Macro, Left, Transformer, RulesOf, meet_all}
use Rattle.scheme_model.specs.Expression.{meaning_of, macro_with as macro_of, leaves_asked, macro_asked, expand, item_part}
use Rattle.scheme_model.specs.UnitExpansion.{max_depth}
use Rattle.scheme_model.specs.Substitution.{definition_count, item_map}
use Rattle.scheme_model.specs.Program.{enough_turns}
use Rattle.scheme_model.specs.ScopedExpansion.{Frames}
use Rattle.scheme_model.specs.Questions.{Around, Asking, asking}
use Rattle.scheme_model.specs.FormsAlike.{bound_moved, binder_with, binders_with, macro_with, item_with, left_with, part_with, or_fault, no_questions}
use Rattle.form_laws.specs.Begins.{Each, With, plain_of, ItemWith, IsRooted, BindsInUnit, MacroInUnit, LeftBegins}
use Rattle.form_laws.proofs.FormLaws.{set_itself}
use Rattle.kept_forms.specs.KeptForms.{KeptAside, KeptItem, KeptParts, KeptForm, item_moved, kept_moved}
use Rattle.kept_forms.specs.Carried.{kept_parts, kept_items, unless_broken, RestFits}
use Rattle.kept_forms.proofs.OneSide.{LeftBinds}
use Rattle.kept_forms.proofs.Numbers.{AtLeast, set_numbers, moved_left}
use Rattle.carried_laws.specs.Entries.{RestStands, StandsFor, parts_from, kept_from}

-- ---- what is expanded

module _ (from to : ℕ) where
  abbrev f : Bound → Bound
  f = bound_moved from to

  means_the_same : (x : Bound) (i : Ident) → meaning_of (f x) i ≡ meaning_of x i
  means_the_same (LocalNumber k) i = refl
  means_the_same (Definition u n) i = refl

  module _ (w : Around) (turns : ℕ) where
    abbrev one : Item Ident → Step Asking Part
    one = item_part (expand (asking w) turns) (asking w) max_depth []

    abbrev moved : Result Part Broken × Asking → Result Part Broken × Asking
    moved q = (or_fault (part_with f) q.0, q.1)

    then_moved : (q : Result Core Broken × Asking) (one other : Core → Part) → ((c : Core) → other c ≡ part_with f (one c)) → (q >>= λ c. done (other c)) ≡ moved (q >>= λ c. done (one c))
    then_moved (Ok c, s) one other e = let d = e c in λ j. (Ok (d j), s)
    then_moved (Err x, s) one other e = refl

    macro_moved : (s : Asking) (b : Binder) (o : Option (Transformer Frames Ident)) → macro_of (asking w) s (binder_with f b) o ≡ macro_with f (macro_of (asking w) s b o)
    macro_moved s b None = refl
    macro_moved s b (Some m) = refl

    one_moved : (i : Item Ident) (s : Asking) → one (item_with f i) s ≡ moved (one i s)
    one_moved (Expression x) s = then_moved _ (λ c. expression_part c) (λ c. expression_part c) (λ c. refl)
    one_moved (Value b x) s = then_moved _ (λ c. define_part b c) (λ c. define_part (binder_with f b) c) (λ c. refl)
    one_moved (Function b here x) s = then_moved _ (λ c. define_part b c) (λ c. define_part (binder_with f b) c) (λ c. refl)
    one_moved (Assigned n x) s = then_moved _ (λ c. expression_part c) (λ c. expression_part c) (λ c. refl)
    one_moved (AssignedFunction n here x) s = then_moved _ (λ c. expression_part c) (λ c. expression_part c) (λ c. refl)
    one_moved (ValuesOf bs x) s = then_moved _ (λ c. values_part bs c) (λ c. values_part (binders_with f bs) c) (λ c. refl)
    one_moved (Record r) s = refl
    one_moved (Macro b here) s =
        let e = means_the_same b.bound b.ident in
        (λ j. (let o = (asking w).transformer s (e j) in (Ok (syntax_part (macro_of (asking w) s (binder_with f b) o)), (asking w).ask (RulesOf (e j) ∷ leaves_asked (asking w) o) s)))
        ∙ (let d = macro_moved s b ((asking w).transformer s (meaning_of b.bound b.ident)) in λ j. (Ok (syntax_part (d j)), (asking w).ask (macro_asked (asking w) s b) s))

    items_moved : (is : List (Item Ident)) (s : Asking) → kept_items one (map (item_with f) is) s ≡ map (item_moved f) (kept_items one is s)
    items_moved [] s = refl
    items_moved (i ∷ is) s = ap first (one_moved i s) ∙ behind (one i s).0 (one i s).1 (λ t. items_moved is t)
      where
        first : Result Part Broken × Asking → List KeptItem
        first q = record { part = q.0; moment = q.1.moment } ∷ unless_broken q.0 (kept_items one (map (item_with f) is) q.1)

        behind : (p : Result Part Broken) (t : Asking) → ((z : Asking) → kept_items one (map (item_with f) is) z ≡ map (item_moved f) (kept_items one is z))
            → first (or_fault (part_with f) p, t) ≡ map (item_moved f) (record { part = p; moment = t.moment } ∷ unless_broken p (kept_items one is t))
        behind (Ok p) t law = ap (λ ks. record { part = Ok (part_with f p); moment = t.moment } ∷ ks) (law t)
        behind (Err e) t law = refl

    parts_moved : (l : Left Ident) → kept_parts w turns to (left_with f l) ≡ record (kept_moved f (kept_parts w turns from l)) { before = to }
    parts_moved l =
        let s = meet_all (asking w) [] l.uses (no_questions w) in
        let k = kept_parts w turns from l in
        let e = items_moved l.items s in
        λ j. record { left = left_with f l; before = to; begun = k.begun; met = k.met; items = e j }

  -- ---- it may begin as before

  module _ (P : Ident → Type 0) where
    mapped_both : (i : Item (With P)) → item_map plain_of (item_with f i) ≡ item_with f (item_map plain_of i)
    mapped_both (Expression x) = refl
    mapped_both (Value b x) = refl
    mapped_both (Function b here c) = refl
    mapped_both (Assigned n x) = refl
    mapped_both (AssignedFunction n here c) = refl
    mapped_both (ValuesOf bs x) = refl
    mapped_both (Record r) = refl
    mapped_both (Macro b here) = refl

    items_with : (is : List (Item Ident)) → Each (ItemWith P) is → Each (ItemWith P) (map (item_with f) is)
    items_with [] h = tt
    items_with (i ∷ is) h = ((item_with f h.0.0, mapped_both h.0.0 ∙ ap (item_with f) h.0.1), items_with is h.1)

  bound_in_unit : (x : Bound) → BindsInUnit x → BindsInUnit (f x)
  bound_in_unit (LocalNumber k) h = absurd h
  bound_in_unit (Definition u n) h = tt

  macro_in_unit : (i : Item Ident) → MacroInUnit i → MacroInUnit (item_with f i)
  macro_in_unit (Expression x) h = tt
  macro_in_unit (Value b x) h = tt
  macro_in_unit (Function b here c) h = tt
  macro_in_unit (Assigned n x) h = tt
  macro_in_unit (AssignedFunction n here c) h = tt
  macro_in_unit (ValuesOf bs x) h = tt
  macro_in_unit (Record r) h = tt
  macro_in_unit (Macro b here) h = bound_in_unit b.bound h

  macros_in_unit : (is : List (Item Ident)) → Each MacroInUnit is → Each MacroInUnit (map (item_with f) is)
  macros_in_unit [] h = tt
  macros_in_unit (i ∷ is) h = (macro_in_unit i h.0, macros_in_unit is h.1)

  left_begins : (w : Around) (l : Left Ident) → LeftBegins w l → LeftBegins w (left_with f l)
  left_begins w l h = record { state = h.state; uses = h.uses; items = items_with (IsRooted w.state) l.items h.items; macros = macros_in_unit l.items h.macros }

-- ---- the entry

module _ (n : ℕ) (x : ℕ × Tree Ident) (k : KeptForm) (w u : Around) (h : StandsFor n x k w u) (to : ℕ) where
  numbers : LeftBinds (AtLeast k.aside.before) k.aside.pass.left
  numbers =
      subst (λ (a : KeptAside). LeftBinds (AtLeast a.before) a.pass.left) (sym h.aside)
      (subst (LeftBinds (AtLeast (definition_count w.state.table w.state.unit))) (set_itself w enough_turns x.1 h.begun).rest (set_numbers w enough_turns x.1))

  rest_stands : (o : Option KeptParts) → RestStands n x.0 u o → RestStands n x.0 u (option_map (parts_from to) o)
  rest_stands None s = tt
  rest_stands (Some c) s = (s.0, s.1, left_begins c.before to u c.left s.2, ap (λ (z : KeptParts). record (kept_moved (bound_moved c.before to) z) { before = to }) s.3 ∙ sym (parts_moved c.before to u enough_turns c.left))

  rest_fits : (o : Option KeptParts) → RestFits k.aside o → RestFits k.aside (option_map (parts_from to) o)
  rest_fits None s = tt
  rest_fits (Some c) s = (s.0, moved_left k.aside.before c.before to k.aside.pass.left c.left numbers s.1)

  pub entry_from : StandsFor n x (kept_from to k) w u
  entry_from = record { unit_there = h.unit_there; form_there = h.form_there; new = h.new; begun = h.begun; aside = h.aside; rest = rest_stands k.parts h.rest; fits = rest_fits k.parts h.fits }
