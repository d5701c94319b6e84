use Rattle.std.proofs.Common.{arith}
use Rattle.std.specs.BTreeMap.{get}
use Rattle.std.specs.Ordering.{nat_cmp}
use Rattle.text_edits.specs.Views.{occ_cmp}
use Rattle.text_edits.proofs.KeyLaws.{noted_more}
use Rattle.text_edits.proofs.names.note_names.Goals as goal

pub loop-occ-preserved : goal.loop-occ-preserved
loop-occ-preserved c = λ n.
    noted_more (λ o. get occ_cmp c.args.members.now o) c.args.firsts.now c.args.identifiers.now c.loop-occ.occ-index n (record { unit = 0; form = 0; token = 0 })
    (get nat_cmp c.args.names.now n) (get nat_cmp c.loop-occ.names n) (get nat_cmp c.note_name.new.names n) (omega arith) (c.loop-occ.invariant n) (c.in_ok-note_name.ensures n)
