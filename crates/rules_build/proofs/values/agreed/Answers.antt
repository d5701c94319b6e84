use Rattle.rules_build.proofs.ValueLaws.{many_worth, agreed_first, agreed_more, agreed_not}
use Rattle.std.proofs.Common.{length}
use Rattle.rules_build.proofs.values.agreed.Goals as goal

pub returns-then-count-list : goal.returns-then-count-list
returns-then-count-list c = λ work region x h.
    let m = many_worth work region c.args.value c.in-Many.list x c.in-Many.is h in
    agreed_not c.args.places x m.0 (length c.in-Many.list.now) m.1 m.2 c.in-Some.count c.in-Some.is c.if-count-list.true

pub returns-in-None : goal.returns-in-None
returns-in-None c = λ work region x h.
    let m = many_worth work region c.args.value c.in-Many.list x c.in-Many.is h in
    agreed_first c.args.places x m.0 (length c.in-Many.list.now) m.1 m.2 c.in-None.is

pub returns-else-count-list : goal.returns-else-count-list
returns-else-count-list c = λ work region x h.
    let m = many_worth work region c.args.value c.in-Many.list x c.in-Many.is h in
    agreed_more c.args.places x m.0 (length c.in-Many.list.now) m.1 m.2 c.in-Some.count c.in-Some.is c.if-count-list.false
