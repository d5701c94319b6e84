use Rattle.std.proofs.Common.{◌≡◌, ℕ, ◌≤◌, List, [], Bool, Option, drop, length}
use Rattle.scheme_model.specs.declared.Occ.{Occ}
use Rattle.rename_model.specs.Walks as walk
use Rattle.rename_model.specs.SameProgram as same
use Rattle.rename_model.specs.Difference.{first_apart}
use Rattle.core_tree.specs.Names.{AllMatch}
use Rattle.alpha_equal.specs.Points.{IsPoint}
use Rattle.alpha_equal.specs.Compared.{ArePartners, TellsLive}
use Rattle.alpha_equal.proofs.compare.first_apart.Given as goal

abbrev pub invariant-loop-k : goal.invariant-loop-k
invariant-loop-k l = (unit form : ℕ) (is_live : Option Occ → Bool) (os ns : List walk.Point) → TellsLive l.live is_live →
    AllMatch (IsPoint l.work.symbols unit form) l.old os → AllMatch (IsPoint l.work.symbols unit form) l.new ns →
    (ps : same.Partners) × ArePartners unit form l.partners ps × (first_apart is_live ps (drop l.k os) (drop l.k ns) ≡ first_apart is_live [] os ns) × (l.k ≤ length l.new)
