use Rattle.std.proofs.Common.{◌≡◌, ℕ, ◌≤◌, List, length, take}
use Rattle.std.specs.Prelude.{min}
use Rattle.scheme_model.specs.Includes.{max_units}
use Rattle.text_parts.specs.Documents.{documents_in}
use Rattle.text_parts.specs.Places.{Each}
use Rattle.text_parts.specs.Programs.{IsProgramPlace, units_in}
use Rattle.text_parts.proofs.programs.programs.Given as goal

abbrev pub invariant-loop-text : goal.invariant-loop-text
invariant-loop-text l = record {
  few : l.before ≤ max_units;
  size : length l.programs.items ≡ l.text-index;
  counted : (uris : List (List ℕ)) → l.before ≡ min (units_in (take l.text-index (documents_in uris l.texts))) max_units;
  each : (uris : List (List ℕ)) → Each (IsProgramPlace (documents_in uris l.texts)) l.programs.items;
}
