-- What a unit's forms come to, once they were gone through and what they set aside was expanded.
use Rattle.std.proofs.Common.{◌≡◌, ℕ, ◌+◌, List, [], ◌∷◌, map, Bool, true, false, Option, Some, None, refl, sym, ap, ◌∙◌, subst, arith}
use Rattle.std.specs.Prelude.{nat_lt, reverse}
use Rattle.scheme_model.specs.Ident.{Ident as Identifier, Written}
use Rattle.scheme_model.specs.Order.{Note}
use Rattle.scheme_model.specs.Trees.{Tree}
use Rattle.scheme_model.specs.Declarations.{UnitForm}
use Rattle.scheme_model.specs.Program.{Prepared, forms_at_work}
use Rattle.scheme_model.specs.ScopedProgram.{forms_over}
use Rattle.scheme_model.specs.UnitExpansion.{Formed, ◌then◌, max_total, nodes_in}
use Rattle.scheme_model.specs.CountedExpansion.{counted}
use Rattle.scheme_model.specs.Substitution.{Table}
use Rattle.kept_forms.specs.KeptForms.{LeftOrKept, form_of}
use Rattle.forgotten_locals.specs.Outside.{IsOutsideOf}
use Rattle.forgotten_locals.specs.Ways.{firsts_by, seconds_by, unit_by}
use Rattle.note_laws.specs.Searching.{none_kept, forms_anew}
use Rattle.scheme_model.specs.Requirements.{Known}
use Rattle.scheme_model.specs.ScopedExpansion.{Frames, FramedIdent, ScopedState}
use Rattle.macro_uses.specs.MacroUses.{total_of}
use Rattle.macro_uses.specs.ScopedUses.{form_numbers}
use Rattle.core_tree.specs.Units.{FormsStand, AreDefinitions, definitions_from, defined_by}
use Rattle.core_tree.specs.declared.units.UnitForm as code_form
use Rattle.unit_scopes.specs.Searched.{searched_unit_over}
use Rattle.form_expansion.specs.Ends.{numbers_of, Rise}
use Rattle.form_expansion.specs.Forms.{StandsOutside, StandsAt, MayForget, AreUnfolded, Unfolds, Passes, Finishes, CanFinishAll, used_by, numbers_left}
use Rattle.form_expansion.specs.declared.forms.Bench.{Bench}
use Rattle.form_expansion.specs.declared.forms.Declared as code
use Rattle.form_expansion.proofs.UnitForms.{forms_rise, counted_alike}
use Rattle.form_expansion.proofs.OutsideWalk.{way, passed_numbers}

-- ---- what came of the unit, where what is local was forgotten

module _ (b : Bench) (known : Known) (p : Prepared) (s m : ScopedState) (may : MayForget known p s m) where
  abbrev came : Option (List Formed) × ScopedState
  came = searched_unit_over known p s

  -- the bench stands for the last state
  stands_last : (o : Option (List Formed)) (t : ScopedState) (ls : List Frames) (notes : List (Note FramedIdent)) → StandsOutside b ls t notes → unit_by way known (forms_anew p) m ≡ (o, t) → StandsAt b came.1
  stands_last o t ls notes stands is =
      record { layout = ls; state = t; notes = notes; stands = stands; is = subst (λ (q : Option (List Formed) × ScopedState). IsOutsideOf came.1 q.1) is may.state }

  -- the unit comes to the same
  came_to : (o : Option (List Formed)) (t : ScopedState) → unit_by way known (forms_anew p) m ≡ (o, t) → came.0 ≡ o
  came_to o t is = sym may.result ∙ ap (λ (q : Option (List Formed) × ScopedState). q.0) is

  -- with the same counts and definitions
  last_bare : (o : Option (List Formed)) (t : ScopedState) → unit_by way known (forms_anew p) m ≡ (o, t) → IsOutsideOf came.1 t
  last_bare o t is = subst (λ (q : Option (List Formed) × ScopedState). IsOutsideOf came.1 q.1) is may.state

  last_table : (o : Option (List Formed)) (t : ScopedState) → unit_by way known (forms_anew p) m ≡ (o, t) → t.table ≡ came.1.table
  last_table o t is = ap (λ (u : ScopedState). u.table) (last_bare o t is)

  pub last_uses : (o : Option (List Formed)) (t : ScopedState) → unit_by way known (forms_anew p) m ≡ (o, t) → t.uses ≡ came.1.uses
  last_uses o t is = ap (λ (u : ScopedState). u.uses) (last_bare o t is)

  none_unfolds : (t : ScopedState) (ls : List Frames) (notes : List (Note FramedIdent)) → StandsOutside b ls t notes → unit_by way known (forms_anew p) m ≡ (None, t) → Unfolds b known p s None
  none_unfolds t ls notes stands is = record {
    stands = stands_last None t ls notes stands is;
    forms = subst (λ (o : Option (List Formed)). AreUnfolded b p.number came.1 None o) (sym (came_to None t is)) tt;
  }

  some_unfolds : (t : ScopedState) (ls : List Frames) (notes : List (Note FramedIdent)) → StandsOutside b ls t notes → (cs : List code_form.UnitForm) (fs : List Formed) → FormsStand b.work p.number 0 cs fs →
      AreDefinitions b.work.symbols (reverse (definitions_from 0 cs)) (defined_by p.number t.table) → unit_by way known (forms_anew p) m ≡ (Some fs, t) → Unfolds b known p s (Some cs)
  some_unfolds t ls notes stands cs fs forms definitions is = record {
    stands = stands_last (Some fs) t ls notes stands is;
    forms =
        subst (λ (o : Option (List Formed)). AreUnfolded b p.number came.1 (Some cs) o) (sym (came_to (Some fs) t is))
        (forms, subst (λ (x : Table). AreDefinitions b.work.symbols (reverse (definitions_from 0 cs)) (defined_by p.number x)) (last_table (Some fs) t is) definitions);
  }

forms_are : (ts : List (ℕ × Tree Identifier)) → map form_of (none_kept ts) ≡ ts
forms_are [] = refl
forms_are (t ∷ ts) = ap (λ (us : List (ℕ × Tree Identifier)). t ∷ us) (forms_are ts)

module _ (known : Known) (p : Prepared) (s m : ScopedState) (may : MayForget known p s m) (n : ℕ) (own : p.number ≡ n) (fs : List UnitForm) (forms : forms_at_work p ≡ fs) where
  abbrev ts : List (ℕ × Tree Identifier)
  ts = forms_over (Written n) n 0 fs

  abbrev gone : Option (List LeftOrKept) × ScopedState
  gone = firsts_by way known (numbers_of ts) (none_kept ts) [] m

  abbrev then_finished : Option (List LeftOrKept) × ScopedState → Option (List Formed) × ScopedState
  then_finished q = q then seconds_by way known (numbers_of ts)

  unit_is : unit_by way known (forms_anew p) m ≡ then_finished gone
  unit_is =
      ap (λ (k : ℕ). unit_by way known (none_kept (forms_over (Written k) k 0 (forms_at_work p))) m) own
      ∙ ap (λ (gs : List UnitForm). unit_by way known (none_kept (forms_over (Written n) n 0 gs)) m) forms
      ∙ ap (λ (ns : List ℕ). firsts_by way known ns (none_kept ts) [] m then seconds_by way known ns) (ap (λ (us : List (ℕ × Tree Identifier)). numbers_of us) (forms_are ts))

  numbers_are : form_numbers p ≡ numbers_of ts
  numbers_are = ap (λ (k : ℕ). numbers_of (forms_over (Written k) k 0 (forms_at_work p))) own ∙ ap (λ (gs : List UnitForm). numbers_of (forms_over (Written n) n 0 gs)) forms

  module _ (b : Bench) (total : ℕ) (ds : List code.Declared) (h : Passes b n known ts m total ds) where
    module _ (many : nat_lt max_total total ≡ true) where
      ends_passing : unit_by way known (forms_anew p) m ≡ (None, h.held.state)
      ends_passing = unit_is ∙ ap then_finished (h.comes.over many)

      -- each macro use of those that were gone through was a step
      pub passing_steps : (before after : ℕ) → after ≡ before + used_by ds → after ≡ before + total_of (searched_unit_over known p s).1.uses (form_numbers p)
      passing_steps before after gone =
          let last : h.held.state.uses ≡ (searched_unit_over known p s).1.uses = last_uses b known p s m may None h.held.state ends_passing in
          let there : total_of (searched_unit_over known p s).1.uses (form_numbers p) ≡ total_of h.held.state.uses (numbers_of ts) = λ j. total_of ((sym last) j) (numbers_are j) in
          let used = h.used in omega (arith, gone, there, used)

      -- too many nodes as they were gone through
      pub passing_unfolds : Unfolds b known p s None
      passing_unfolds = none_unfolds b known p s m may h.held.state h.held.layout h.held.notes h.held.stands ends_passing

    module _ (few : nat_lt max_total total ≡ false) where
      -- what is left of the forms
      abbrev pub left : List LeftOrKept
      left = (h.comes.whole few).0

      numbers : numbers_left left ≡ numbers_of ts
      numbers = passed_numbers known (numbers_of ts) ts [] m h.held.state left (h.comes.whole few).1

      pub can_finish_all : CanFinishAll b n known left h.held.state total ds
      can_finish_all = record {
        few = few;
        rise = subst (λ (ns : List ℕ). Rise 0 ns) (sym numbers) (forms_rise (Written n) n 0 fs);
        counted = counted_alike known h.held.state (numbers_left left) ∙ ap (λ (ns : List ℕ). nodes_in (counted known) ns h.held.state) numbers ∙ h.comes.counted;
        forms = (h.comes.whole few).2;
      }

      -- the unit is what is left of them, finished
      finished_is : unit_by way known (forms_anew p) m ≡ seconds_by way known (numbers_left left) left h.held.state
      finished_is = unit_is ∙ ap then_finished (h.comes.whole few).1 ∙ ap (λ (ns : List ℕ). seconds_by way known ns left h.held.state) (sym numbers)

      module _ (c : Bench) (all : ℕ) (from to : ℕ) (cs : List code_form.UnitForm) (k : Finishes c n known left h.held.state all from to cs) where
        -- too many as it was expanded
        pub finishing_unfolds : nat_lt max_total all ≡ true → Unfolds c known p s None
        finishing_unfolds many = none_unfolds c known p s m may k.last k.layout k.notes k.stands (finished_is ∙ k.comes.over many)

        pub all_unfolds : nat_lt max_total all ≡ false → Unfolds c known p s (Some cs)
        all_unfolds still =
            let f = k.comes.whole still in
            some_unfolds c known p s m may k.last k.layout k.notes k.stands cs f.0 (subst (λ (q : ℕ). FormsStand c.work q 0 cs f.0) (sym own) f.2)
            (subst (λ (q : ℕ). AreDefinitions c.work.symbols (reverse (definitions_from 0 cs)) (defined_by q k.last.table)) (sym own) (k.definitions still))
            (finished_is ∙ f.1)

        -- the uses when the unit ends, whatever came of it
        ends_with : k.last.uses ≡ (searched_unit_over known p s).1.uses
        ends_with = by (nat_lt max_total all) refl
          where
            by : (q : Bool) → nat_lt max_total all ≡ q → k.last.uses ≡ (searched_unit_over known p s).1.uses
            by true many = last_uses c known p s m may None k.last (finished_is ∙ k.comes.over many)
            by false still = last_uses c known p s m may (Some (k.comes.whole still).0) k.last (finished_is ∙ (k.comes.whole still).1)

        -- each macro use was a step
        pub all_steps : (before : ℕ) → from ≡ before + used_by ds → to ≡ before + total_of (searched_unit_over known p s).1.uses (form_numbers p)
        all_steps before gone =
            let used = h.used in let steps = k.steps in
            let same : numbers_left left ≡ form_numbers p = numbers ∙ sym numbers_are in
            let there : total_of (searched_unit_over known p s).1.uses (form_numbers p) ≡ total_of k.last.uses (numbers_left left) = λ j. total_of ((sym ends_with) j) ((sym same) j) in
            let was : total_of h.held.state.uses (numbers_left left) ≡ used_by ds = ap (total_of h.held.state.uses) numbers ∙ used in
            omega (arith, steps, there, was, gone)
