use Rattle.scheme_model.specs.Included.{Texts, Homed}
use Rattle.scheme_model.specs.Requirements.{Known}
use Rattle.known_libraries.specs.PartsRead.{Knows}
use Rattle.included_forms.proofs.ClauseLaws.{ChosenUpTo, IsLighter}
use Rattle.included_forms.proofs.choices.chosen.Given as goal

abbrev pub invariant-loop-place : goal.invariant-loop-place
invariant-loop-place l = record {
  whole : (t : Texts) (has : Known) → Knows l.known.names has → (h : Homed) → ChosenUpTo t has h l.parts l.place l.chosen;
  smaller : IsLighter l.parts l.chosen;
}
