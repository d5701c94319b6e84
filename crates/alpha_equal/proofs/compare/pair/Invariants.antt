use Rattle.std.proofs.Common.{ℕ, ◌++◌, take}
use Rattle.std.specs.List.{zip}
use Rattle.rename_model.specs.SameProgram.{Partners}
use Rattle.alpha_equal.specs.Points.{locals_of}
use Rattle.alpha_equal.specs.Compared.{ArePartners}
use Rattle.alpha_equal.proofs.compare.pair.Given as goal

abbrev pub invariant-loop-k : goal.invariant-loop-k
invariant-loop-k l = (unit form : ℕ) (ps : Partners) → ArePartners unit form l.fn.partners ps →
    ArePartners unit form l.partners (zip (locals_of unit form (take l.k l.old)) (locals_of unit form (take l.k l.new)) ++ ps)
