use Rattle.class_laws.proofs.OpenedClasses.{opened_prefixed, opened_joined, opened_whole, opened_same, opened_none}
use Rattle.class_laws.proofs.laws.classes_are_by_links.Goals as goal

pub returns-clause-prefixed : goal.returns-clause-prefixed
returns-clause-prefixed c = opened_prefixed

pub returns-clause-joined : goal.returns-clause-joined
returns-clause-joined c = opened_joined

pub returns-clause-whole : goal.returns-clause-whole
returns-clause-whole c = opened_whole

pub returns-clause-same : goal.returns-clause-same
returns-clause-same c = opened_same

pub returns-clause-none : goal.returns-clause-none
returns-clause-none c = opened_none
