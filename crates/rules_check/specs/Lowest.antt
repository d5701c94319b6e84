-- Variables by number, and the lowest fault of a rule.
use Rattle.std.specs.Prelude.{ℕ, List, [], ◌∷◌, Bool, true, false, nat_eq, Option, Some, None, Result, Ok, Err, if◌then◌else◌}
use Rattle.std.specs.List.{list_any}
use Rattle.syntax_tree.specs.declared.rules.Named.{Named}
use Rattle.rules_check.specs.declared.pattern.Variable.{Variable}
use Rattle.rules_check.specs.declared.fault.RulesFault.{RulesFault}
use Rattle.rules_check.specs.declared.fault.RulesFault.TheVariants as fault

-- the depth of the first variable with a number
abbrev pub depth_by_number : List Variable → ℕ → Option ℕ
depth_by_number [] n = None
depth_by_number (v ∷ vs) n = if nat_eq n v.name.ident then Some v.depth else depth_by_number vs n

-- the first variable whose number is among those before it
abbrev pub twice_by_number : List ℕ → List Variable → Option Named
twice_by_number seen [] = None
twice_by_number seen (v ∷ vs) = if list_any (nat_eq v.name.ident) seen then Some v.name else twice_by_number (v.name.ident ∷ seen) vs

-- the lowest fault that holds
abbrev pub lowest_of : Bool → Bool → Option Named → Option Named → Bool → Result (Unit {0}) RulesFault
lowest_of true two twice shallow idle = Err fault.BadShape
lowest_of false true twice shallow idle = Err fault.TwoEllipses
lowest_of false false (Some n) shallow idle = Err (fault.DuplicateVariable n)
lowest_of false false None (Some n) idle = Err (fault.Depth n)
lowest_of false false None None true = Err fault.IdleEllipsis
lowest_of false false None None false = Ok tt
