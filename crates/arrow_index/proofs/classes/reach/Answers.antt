use Rattle.std.proofs.Common.{◌≡◌, ◌+◌, suc, Bool, sym, ◌∙◌, subst, arith}
use Rattle.std.specs.Prelude.{if◌then◌else◌}
use Rattle.std.specs.BTreeSet.{btree_set_len}
use Rattle.arrow_index.proofs.ClassWalks.{reaches_one}
use Rattle.arrow_index.proofs.classes.reach.Goals as goal

pub returns-in_ok-push : goal.returns-in_ok-push
returns-in_ok-push c =
    let s = c.args.outside.now in
    let t = c.remove.new.self in
    let size = subst (λ (b : Bool). btree_set_len t + (if b then 1 else 0) ≡ btree_set_len s) c.if-remove.true c.remove.ensures.len in
    let less : suc (btree_set_len t) ≡ btree_set_len s = omega (arith, size) in
    reaches_one s t c.args.left.now.items c.push.new.self.items c.args.occ (sym c.remove.ensures.test ∙ c.if-remove.true) c.remove.ensures.updates.0 less c.in_ok-push.ensures.items
