use Rattle.part_homes.proofs.PartsThere.{all_at_home}
use Rattle.part_homes.proofs.laws.included_forms_are_at_home_in_parts.Goals as goal

pub returns : goal.returns
returns c = λ ds. all_at_home ds
