-- Units and forms that are paired give a renumbering with an inverse, which keeps the prelude where this stands in no pair.
use Rattle.std.proofs.Common.{ℕ, List, refl}
use Rattle.scheme_model.specs.Program.{prelude_unit}
use Rattle.renumbering_laws.specs.Pairings.{back, IsAside, paired}
use Rattle.renumbering_laws.specs.NewStates.{HasInverse}
use Rattle.renumbering_laws.specs.Units.{KeepsPrelude}
use Rattle.renumbering_laws.proofs.PairingLaws.{back_forth, forth_back, keeps}

module _ (units : List (ℕ × ℕ)) (forms : ℕ → List (ℕ × ℕ)) where
  pub has_inverse : HasInverse (paired units forms)
  has_inverse = record {
    forms = record { back = λ u. back (forms u); there = λ u. forth_back (forms u); here = λ u. back_forth (forms u) };
    unit_back = back units;
    unit_there = forth_back units;
    unit_here = back_forth units;
    definitions = λ u n. refl;
  }

  pub keeps_prelude : IsAside prelude_unit units → IsAside 0 (forms prelude_unit) → KeepsPrelude (paired units forms)
  keeps_prelude h k = record { unit = keeps units prelude_unit h; form = keeps (forms prelude_unit) 0 k }
