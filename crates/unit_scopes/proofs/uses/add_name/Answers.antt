use Rattle.scheme_model.specs.Trees.{name}
use Rattle.unit_scopes.proofs.uses.add_name.Goals as goal

pub returns-in_default : goal.returns-in_default
returns-in_default c = λ n is. absurd (c.in_default.ensures (name n.name n.occ) is)

pub name_at-requires : goal.name_at-requires
name_at-requires c = let n = c.requires.0 in (name n.name n.occ, c.requires.1)

pub returns : goal.returns
returns c = λ n is. (c.in-Some.name, c.in_ok-push.ensures.items, c.in-Some.ensures (name n.name n.occ) is)
