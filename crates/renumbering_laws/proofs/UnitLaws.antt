-- A unit of a program under another number: the states in which it begins correspond, and its forms come to the same.
use Rattle.std.proofs.Common.{[], map, refl, sym, subst}
use Rattle.scheme_model.specs.RulesShape.{option_map}
use Rattle.scheme_model.specs.Ident.{Written}
use Rattle.scheme_model.specs.Requirements.{Known}
use Rattle.scheme_model.specs.CountedExpansion.{counted}
use Rattle.scheme_model.specs.UnitExpansion.{unit}
use Rattle.scheme_model.specs.Substitution.{Entries}
use Rattle.scheme_model.specs.Program.{Prepared, Progress, start_of, form_trees, enough_turns, unit_over, forms_at_work}
use Rattle.scheme_model.specs.ScopedProgram.{ScopedProgress, forms_over, scoped_start_of, scoped_unit_over}
use Rattle.renumbering_laws.specs.Renumbering.{Renumbering, IsOneToOne, formed_as, IsRenumbered}
use Rattle.renumbering_laws.specs.States.{EntriesMove, StatesRest, StatesGoRest}
use Rattle.renumbering_laws.specs.ScopedStates.{IsOnto, ScopedRest, ScopedGoRest}
use Rattle.renumbering_laws.specs.Units.{ProgressMoves, ScopedProgressMoves, UnitMoves, FormsMove, ScopedFormsMove}
use Rattle.renumbering_laws.proofs.FormLaws.{named_unit, scoped_unit}

module _ (r : Renumbering) (o : IsOneToOne r) (known : Known) (p q : Prepared) (entry entry' : Entries) (entries : EntriesMove r entry entry') where
  module _ (g h : Progress) (moves : UnitMoves r p q g.table h.table) (so_far : ProgressMoves r g h) where
    begins : StatesRest r p.number (start_of p g.table g.macros entry) (start_of q h.table h.macros entry')
    begins f = record {
      at = refl;
      unit = moves.number;
      program = moves.kind;
      form = refl;
      locals = λ g. refl;
      uses = λ g. refl;
      nodes = λ g. refl;
      bodies = λ g. refl;
      keywords = λ g. refl;
      met = λ g. refl;
      table = so_far.table;
      counts = moves.counts;
      entry = entries;
      macros = so_far.macros;
      in_body = refl;
      mine = refl;
    }

    pub unit_moved : FormsMove r p q
        → IsRenumbered (option_map (map (formed_as r p.number))) (StatesGoRest r p.number (start_of p g.table g.macros entry) (start_of q h.table h.macros entry')) (unit_over known (form_trees p.number 0 (forms_at_work p)) (start_of p g.table g.macros entry)) (unit_over known (form_trees q.number 0 (forms_at_work q)) (start_of q h.table h.macros entry'))
    unit_moved forms =
        subst (λ ts. IsRenumbered (option_map (map (formed_as r p.number))) (StatesGoRest r p.number (start_of p g.table g.macros entry) (start_of q h.table h.macros entry')) (unit_over known (form_trees p.number 0 (forms_at_work p)) (start_of p g.table g.macros entry)) (unit_over known ts (start_of q h.table h.macros entry'))) (sym forms)
        (named_unit r o known p.number enough_turns (form_trees p.number 0 (forms_at_work p)) _ _ begins)

  module _ (w : IsOnto r) (g h : ScopedProgress) (moves : UnitMoves r p q g.table h.table) (so_far : ScopedProgressMoves r w g h) where
    scoped_begins : ScopedRest r w p.number (scoped_start_of p g entry) (scoped_start_of q h entry')
    scoped_begins f = record {
      at = refl;
      unit = moves.number;
      program = moves.kind;
      form = refl;
      locals = λ g. refl;
      uses = refl;
      nodes = λ g. refl;
      bodies = λ g. refl;
      keywords = λ g. refl;
      met = λ g. refl;
      table = so_far.table;
      counts = moves.counts;
      entry = entries;
      macros = so_far.macros;
      places = so_far.places;
      definitions = so_far.definitions;
    }

    pub scoped_unit_moved : ScopedFormsMove r p q → IsRenumbered (option_map (map (formed_as r p.number))) (ScopedGoRest r w p.number (scoped_start_of p g entry) (scoped_start_of q h entry')) (scoped_unit_over known p (scoped_start_of p g entry)) (scoped_unit_over known q (scoped_start_of q h entry'))
    scoped_unit_moved forms =
        subst (λ ts. IsRenumbered (option_map (map (formed_as r p.number))) (ScopedGoRest r w p.number (scoped_start_of p g entry) (scoped_start_of q h entry')) (scoped_unit_over known p (scoped_start_of p g entry)) (unit (counted known) enough_turns [] ts (scoped_start_of q h entry'))) (sym forms)
        (scoped_unit r o w known p.number enough_turns (forms_over (Written p.number) p.number 0 (forms_at_work p)) _ _ scoped_begins)
