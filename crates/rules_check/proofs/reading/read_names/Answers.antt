use Rattle.std.proofs.Common.{ap, subst, add-one, List, ℕ, suc, sym, arith}
use Rattle.syntax_tree.proofs.Looking.{part_standing, part_there, behind_past}
use Rattle.scheme_model.specs.RulesShape.{bad}
use Rattle.rules_check.proofs.ReadLaws.{IsNoName, NamesUpTo, names_more, names_all, names_end}
use Rattle.rules_check.proofs.reading.read_names.Goals as goal

pub look_at-requires : goal.look_at-requires
look_at-requires c = part_standing c.args.work.now c.loop-item.item-index c.args.items.now _ c.requires (omega arith)

pub returns-in-Atom : goal.returns-in-Atom
returns-in-Atom c = λ ts stands.
    let w = c.args.work.now in
    let k = c.loop-item.item-index in
    let p = part_there w k c.args.items.now ts (record { number = 0 }) stands (omega arith) in
    let l = c.in-Atom.ensures.look p.part p.stands in
    names_end w ts k c.loop-item.names p.part (c.loop-item.invariant ts stands) p.split (subst IsNoName (sym l.2) tt)

pub returns-in-List : goal.returns-in-List
returns-in-List c = λ ts stands.
    let w = c.args.work.now in
    let k = c.loop-item.item-index in
    let p = part_there w k c.args.items.now ts (record { number = 0 }) stands (omega arith) in
    let l = c.in-List.ensures.look p.part p.stands in
    names_end w ts k c.loop-item.names p.part (c.loop-item.invariant ts stands) p.split (subst IsNoName (sym l.3) tt)

pub returns-in-Vector : goal.returns-in-Vector
returns-in-Vector c = λ ts stands.
    let w = c.args.work.now in
    let k = c.loop-item.item-index in
    let p = part_there w k c.args.items.now ts (record { number = 0 }) stands (omega arith) in
    let l = c.in-Vector.ensures.look p.part p.stands in
    names_end w ts k c.loop-item.names p.part (c.loop-item.invariant ts stands) p.split (subst IsNoName (sym l.2) tt)

pub loop-item-preserved : goal.loop-item-preserved
loop-item-preserved c = λ ts stands.
    let w = c.args.work.now in
    let k = c.loop-item.item-index in
    let p = part_there w k c.args.items.now ts (record { number = 0 }) stands (omega arith) in
    let n = c.in-Name.ensures.look p.part p.stands in
    let more = names_more w ts k c.loop-item.names p.part c.in-Name.id n.0 n.1 (c.loop-item.invariant ts stands) p.split n.2 n.3 in
    rw add-one (subst (λ (ns : List ℕ). NamesUpTo w ts (suc k) ns) (sym c.in_ok-push-in-Name.ensures.ok) more)

pub returns : goal.returns
returns c = λ ts stands.
    let w = c.args.work.now in
    let k = c.loop-item.item-index in
    let a = names_all w ts k c.loop-item.names (c.loop-item.invariant ts stands) (behind_past w k c.args.items.now ts stands (omega arith)) in
    (a.0, ap bad a.1, a.2)
