-- What a form defines in its unit is of that unit, and under other numbers it stands for what it stood for.
use Rattle.std.proofs.Common.{◌≡◌, ℕ, ◌+◌, List, [], ◌∷◌, ◌++◌, map, length, reverse, refl, sym, ap, ◌∙◌, subst}
use Rattle.std.proofs.lemmas.List.{length-map, reverse-append, map-append}
use Rattle.scheme_model.specs.Substitution.{Defined, Table}
use Rattle.scheme_model.specs.Questions.{Around, Outcome, Stands, Redefines, StoodBefore}
use Rattle.syntax_tree.specs.Names.{Names}
use Rattle.core_tree.specs.Names.{AllMatch}
use Rattle.core_tree.specs.declared.cores.Binder.{Binder}
use Rattle.form_laws.specs.Begins.{Each}
use Rattle.renumbering_laws.specs.Renumbering.{Renumbering, place}
use Rattle.renumbering_laws.specs.States.{defined_as}
use Rattle.declared_again.specs.Endings.{Ending, ending_in, table_if, table_made}
use Rattle.moves.specs.Works.{NamesMove}
use Rattle.moves.proofs.EntryLaws.{ident_there}
use Rattle.moved_numbers.specs.Leaves.{binder_as}
use Rattle.unit_scopes.specs.State.{IsNumbered}
use Rattle.form_cache.specs.Entries.{numbered_from}

pub reverse_map : {X Y : Type 0} (f : X → Y) (xs : List X) → reverse (map f xs) ≡ map f (reverse xs)
reverse_map f [] = refl
reverse_map f (x ∷ xs) =
    reverse-append (f x ∷ []) (map f xs) ∙ ap (λ ys. ys ++ f x ∷ []) (reverse_map f xs) ∙ sym (map-append f (reverse xs) (x ∷ [])) ∙ ap (map f) (sym (reverse-append (x ∷ []) xs))

-- ---- what is defined where a form is gone through

abbrev pub IsOf : ℕ → Defined → Type 0
IsOf unit d = d.unit ≡ unit

module _ (w : Around) where
  one_of : (o : Outcome) (e : Ending) (t : Table) → Each (IsOf w.state.unit) t → Each (IsOf w.state.unit) (table_if o w e t)
  one_of Stands e t h = (refl, h)
  one_of Redefines e t h = h
  one_of StoodBefore e t h = h

  pub made_of : (es : List Ending) → Each (IsOf w.state.unit) (table_made w es)
  made_of [] = tt
  made_of (e ∷ es) = one_of (ending_in w e) e (table_made w es) (made_of es)

-- ---- under other numbers

module _ (r : Renumbering) (old now : Names) (move : NamesMove r old now) (unit form : ℕ) where
  numbered_on : (before : ℕ) (bs : List Binder) (ds : Table) → Each (IsOf unit) ds → AllMatch (IsNumbered old form) bs (numbered_from before ds) →
      AllMatch (IsNumbered now (r.form unit form)) (map (binder_as r) bs) (numbered_from before (map (defined_as r) ds))
  numbered_on before [] [] of h = tt
  numbered_on before [] (d ∷ ds) of h = absurd h
  numbered_on before (b ∷ bs) [] of h = absurd h
  numbered_on before (b ∷ bs) (d ∷ ds) of h =
      let is = h.0 in
      let here = of.0 in
      let count : length ds ≡ length (map (defined_as r) ds) = sym (length-map ds (defined_as r)) in (
        record {
          form = (λ j. r.form (sym here j) (is.form j));
          number_is = is.number_is ∙ ap (λ (n : ℕ). before + n) count;
          ident = ident_there r old now move b.ident d.ident is.ident;
          place = ap (place r) is.place;
        },
        numbered_on before bs ds of.1 h.1,
      )

  pub definitions_on : (before : ℕ) (bs cs : List Binder) (ds : Table) → cs ≡ map (binder_as r) bs → Each (IsOf unit) ds → AllMatch (IsNumbered old form) (reverse bs) (numbered_from before ds) →
      AllMatch (IsNumbered now (r.form unit form)) (reverse cs) (numbered_from before (map (defined_as r) ds))
  definitions_on before bs cs ds is of h =
      subst (λ (xs : List Binder). AllMatch (IsNumbered now (r.form unit form)) xs (numbered_from before (map (defined_as r) ds))) (sym (ap reverse is ∙ reverse_map (binder_as r) bs)) (numbered_on before (reverse bs) ds of h)
