use Rattle.arrow_index.proofs.ClassLaws.{class_holds, class_closed, class_least, same_class}
use Rattle.arrow_index.proofs.laws.classes_are_least.Goals as goal

pub returns-clause-holds : goal.returns-clause-holds
returns-clause-holds c = class_holds

pub returns-clause-closed : goal.returns-clause-closed
returns-clause-closed c = class_closed

pub returns-clause-least : goal.returns-clause-least
returns-clause-least c = class_least

pub returns-clause-order : goal.returns-clause-order
returns-clause-order c = λ ls ms o p h. same_class ls ms o (λ l. (h l).0) (λ l. (h l).1) p
