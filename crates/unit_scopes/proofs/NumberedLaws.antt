-- Definitions of units by their numbers: what one more comes to.
use Rattle.std.proofs.Common.{◌≡◌, ℕ, suc, ◌==◌, List, [], ◌∷◌, ◌++◌, reverse, length, Bool, true, false, cond, refl, sym, ap, ◌∙◌, subst, arith, eq-eqb}
use Rattle.std.specs.Prelude.{filter}
use Rattle.std.proofs.lemmas.List.{reverse-append}
use Rattle.scheme_model.specs.Substitution.{Defined, Table, definition_count}
use Rattle.syntax_tree.specs.Names.{Names}
use Rattle.core_tree.specs.Names.{AllMatch}
use Rattle.core_tree.specs.Units.{IsDefinition, defined_by}
use Rattle.core_tree.specs.declared.cores.Binder as code_binder
use Rattle.unit_scopes.specs.State.{numbered, numbered_in, IsNumbered}

-- ---- one more

count_by : (d : Defined) (ds : List Defined) (n : ℕ) (q : Bool) → length ds ≡ n → length (cond q (d ∷ ds) ds) ≡ cond q (suc n) n
count_by d ds n true h = ap suc h
count_by d ds n false h = h

-- a unit has as many definitions as are told of it
pub count_is : (unit : ℕ) (table : Table) → length (defined_by unit table) ≡ definition_count table unit
count_is unit [] = refl
count_is unit (d ∷ ds) = count_by d (defined_by unit ds) (definition_count ds unit) (d.unit == unit) (count_is unit ds)

none_of : (ds : List Defined) → length ds ≡ 0 → ds ≡ []
none_of [] h = refl
none_of (d ∷ ds) h = absurd (omega (arith, h))

-- a unit that has defined nothing has no definition of any form
pub none_numbered : (unit form : ℕ) (table : Table) → definition_count table unit ≡ 0 → numbered_in unit form table ≡ []
none_numbered unit form table none = ap (λ ds. filter (λ (d : ℕ × Defined). d.1.form == form) (numbered ds)) (none_of (defined_by unit table) (count_is unit table ∙ none))

module _ (unit form : ℕ) (d : Defined) (ds : Table) where
  abbrev of_form : ℕ × Defined → Bool
  of_form e = e.1.form == form

  abbrev before : List Defined
  before = defined_by unit ds

  -- of this form
  pub numbered_here : d.unit ≡ unit → d.form ≡ form → numbered_in unit form (d ∷ ds) ≡ (length before, d) ∷ numbered_in unit form ds
  numbered_here own same =
      ap (λ b. filter of_form (numbered (cond b (d ∷ before) before))) (eq-eqb d.unit unit own)
      ∙ ap (λ b. cond b ((length before, d) ∷ filter of_form (numbered before)) (filter of_form (numbered before))) (eq-eqb d.form form same)

  -- of another
  numbered_by : (b : Bool) → (d.form == form) ≡ false → filter of_form (numbered (cond b (d ∷ before) before)) ≡ filter of_form (numbered before)
  numbered_by true h = ap (λ b. cond b ((length before, d) ∷ filter of_form (numbered before)) (filter of_form (numbered before))) h
  numbered_by false h = refl

  pub numbered_else : (d.form == form) ≡ false → numbered_in unit form (d ∷ ds) ≡ numbered_in unit form ds
  numbered_else h = numbered_by (d.unit == unit) h

-- the last of the code's list is the latest
pub one_more_numbered : (names : Names) (unit form : ℕ) (bs : List code_binder.Binder) (b : code_binder.Binder) (d : Defined) (table : Table) → d.unit ≡ unit → d.form ≡ form → IsDefinition names (length (defined_by unit table)) (form, b) d →
    AllMatch (IsNumbered names form) (reverse bs) (numbered_in unit form table) → AllMatch (IsNumbered names form) (reverse (bs ++ b ∷ [])) (numbered_in unit form (d ∷ table))
one_more_numbered names unit form bs b d table own same is h =
    subst (λ ds. AllMatch (IsNumbered names form) (reverse (bs ++ b ∷ [])) ds) (sym (numbered_here unit form d table own same))
    (subst (λ (cs : List code_binder.Binder). AllMatch (IsNumbered names form) cs ((length (defined_by unit table), d) ∷ numbered_in unit form table)) (sym (reverse-append bs (b ∷ []))) (is, h))
