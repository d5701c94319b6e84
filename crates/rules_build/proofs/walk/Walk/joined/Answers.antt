use Rattle.std.proofs.Common.{[], refl, sym, ◌∙◌}
use Rattle.rules_build.proofs.EndLaws.{joined_empty, joined_list, none_left, some_left}
use Rattle.rules_build.proofs.DraftLaws.{plans_all}
use Rattle.rules_build.proofs.walk.Walk.joined.Goals as goal

pub returns-then-is_empty : goal.returns-then-is_empty
returns-then-is_empty c = λ region k first us t v e parts last.
    joined_empty c.args.self.now.work.now region k first c.args.room.now [] c.args.parts.items us t c.args.last (none_left c.args.parts (sym c.is_empty.ensures ∙ c.if-is_empty.true)) refl c.if-is_none.ensures e v parts last

pub returns : goal.returns
returns c = λ region k first us t v e parts last.
    let w = c.args.self.now.work.now in
    let pl = plans_all w region k c.args.parts.items us [] refl (parts c.if-is_none.ensures) in
    let q = last c.if-is_none.ensures in
    joined_list w region k first c.args.room.now c.spend.result us t c.behind.new.parts c.in_ok-end.end c.args.parts.items c.args.last pl.0 q.0 (some_left c.args.parts (sym c.is_empty.ensures ∙ c.if-is_empty.false)) e c.spend.ensures pl.1 pl.2 pl.3 q.2
    q.3 (c.in_ok-end.ensures region k pl.0 q.0 pl.1 q.1)
