-- What a call on the order of units answers.
use Rattle.std.proofs.Common.{◌≡◌, ◌≢◌, ℕ, List, [], length, sym, ap, ◌∙◌, arith}
use Rattle.scheme_model.specs.Requirements.{LibraryName}
use Rattle.scheme_model.specs.IncludedUnits.{Placed}
use Rattle.scheme_model.specs.Program.{Prepared, is_in}
use Rattle.unit_sources.specs.declared.units.UnitSource as code
use Rattle.unit_sources.specs.Sources.{TellsNames, AreUnits}
use Rattle.unit_sources.specs.Orders.{with_imports, AreInTurn, AreOnCircles}
use Rattle.import_sets.specs.InTurn.{in_turn}
use Rattle.unit_sources.specs.Graphs.{SameRows, graph_of, names_at}
use Rattle.import_sets.specs.Graphs.{IsGraph, is_circular, passing}
use Rattle.unit_sources.proofs.GraphLaws.{are_numbered, prepare_length, is_graph, rows_within}
use Rattle.import_sets.proofs.WalkLaws.{graph_within}
use Rattle.import_sets.proofs.CircleLaws.{passing_none}
use Rattle.unit_sources.proofs.CircleLaws.{none_on_circles, some_on_circles, names_on_circles}
use Rattle.import_sets.proofs.TurnLaws.{every_unit, comes_after}

as_many : (spelled : LibraryName → List ℕ) → TellsNames spelled → (cs : List code.UnitSource) (us : List Placed) → AreUnits spelled cs us → (g : List (List ℕ)) → SameRows g (graph_of cs) → length g ≡ length us
as_many spelled tells cs us are g same = (is_graph spelled tells cs us are g same).size ∙ prepare_length us us 0

-- no unit is on a circle, so all come in their turns
pub in_turns : (spelled : LibraryName → List ℕ) → TellsNames spelled → (cs : List code.UnitSource) (us : List Placed) → AreUnits spelled cs us → (g : List (List ℕ)) → SameRows g (graph_of cs) → (places order : List ℕ) →
    places ≡ [] → ((ps : List Prepared) → IsGraph g ps → places ≡ passing (is_circular ps) (length g)) → order ≡ in_turn (with_imports us) (length (with_imports us)) [] → AreInTurn us order
in_turns spelled tells cs us are g same places order none circular turns = record {
  no_circle = none_on_circles us here;
  turns = turns ∙ ap (λ n. in_turn (with_imports us) n []) (prepare_length us us 0);
  each = λ n lt.
      ap (is_in n) turns
      ∙ every_unit (with_imports us) (are_numbered us) (graph_within g (with_imports us) (rows_within cs g same) is)
      (λ m l. passing_none (is_circular (with_imports us)) (length us) here m (let e = prepare_length us us 0 in omega arith)) n (let e = prepare_length us us 0 in omega arith);
  after = λ n before rest e. comes_after (with_imports us) (are_numbered us) (length (with_imports us)) [] before rest n (sym turns ∙ e);
}
  where
    is : IsGraph g (with_imports us)
    is = is_graph spelled tells cs us are g same

    here : passing (is_circular (with_imports us)) (length us) ≡ []
    here = ap (passing (is_circular (with_imports us))) (sym (as_many spelled tells cs us are g same)) ∙ sym (circular (with_imports us) is) ∙ none

-- some are, and their names are told
pub on_circle_names : (spelled : LibraryName → List ℕ) → TellsNames spelled → (cs : List code.UnitSource) (us : List Placed) → AreUnits spelled cs us → (g : List (List ℕ)) → SameRows g (graph_of cs) → (places : List ℕ) (names : List (List ℕ)) →
    places ≢ [] → ((ps : List Prepared) → IsGraph g ps → places ≡ passing (is_circular ps) (length g)) → names ≡ names_at cs places → AreOnCircles spelled us names
on_circle_names spelled tells cs us are g same places names some circular told = record {
  some = λ none. some (here ∙ some_on_circles us none);
  all_names = told ∙ ap (names_at cs) here ∙ names_on_circles spelled cs us are;
}
  where
    here : places ≡ passing (is_circular (with_imports us)) (length us)
    here = circular (with_imports us) (is_graph spelled tells cs us are g same) ∙ ap (passing (is_circular (with_imports us))) (as_many spelled tells cs us are g same)
