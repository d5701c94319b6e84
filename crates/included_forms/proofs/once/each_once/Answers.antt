use Rattle.std.proofs.Common.{◌≡◌, ◌∙◌, List, true, cond, take, sym, ap, arith}
use Rattle.std.specs.BTreeSet.{contains}
use Rattle.std.specs.List.{list_any}
use Rattle.std.specs.Ordering.{is_eq}
use Rattle.scheme_model.specs.Included as model
use Rattle.included_forms.specs.declared.once.Spot.{Spot}
use Rattle.included_forms.specs.Counted.{lost_of}
use Rattle.included_forms.specs.Losses.{lost_in, spot_cmp, spot_of, stands_at}
use Rattle.included_forms.proofs.OnceLaws.{one_more, found_more, kept_more, kept_same, all_kept, was_new, was_there}
use Rattle.included_forms.proofs.once.each_once.Goals as goal
use Rattle.included_forms.proofs.once.each_once.Goals.{then-branch+in_ok-push, else-branch}

pub loop-string-preserved : goal.loop-string-preserved
loop-string-preserved c =
    let found = c.args.found.now in
    let i = c.loop-string.string-index in
    let s = c.string-item.result in
    let old = c.loop-string.spots in
    let l = lost_of s in
    let before = lost_in (take i found) in
    let more = found_more found i s (omega arith) c.string-item.is in
    let key = c.spot_of.ensures in
    let there : contains spot_cmp old c.spot_of.result ≡ list_any (stands_at (spot_of l)) before =
    c.loop-string.invariant.spots c.spot_of.result ∙ ap (λ (q : Spot). list_any (stands_at q) before) key in
    record {
      spots = λ q.
          one_more l q before (contains spot_cmp old q) (contains spot_cmp c.insert.new.self q) (c.loop-string.invariant.spots q)
          (c.in_ok-insert.ensures.updates.0 q ∙ ap (λ (k : Spot). cond (is_eq (spot_cmp k q)) true (contains spot_cmp old q)) key)
          ∙ ap (λ (ls : List model.LostString). list_any (stands_at q) ls) (sym more);
      lost = elim c.if-branch.branch [
        | then-branch+in_ok-push w ↦
            kept_more found i s (omega arith) c.string-item.is c.loop-string.lost.items c.if-branch.lost.items c.loop-string.invariant.lost
            (sym there ∙ was_new c.in_ok-insert.field-0 (contains spot_cmp old c.spot_of.result) c.in_ok-insert.ensures.added w.if-branch.true) (rw w.lost-is w.in_ok-push.ensures.items)
        | else-branch w ↦
            kept_same found i s (omega arith) c.string-item.is c.if-branch.lost.items (rw w.lost-is c.loop-string.invariant.lost)
            (sym there ∙ was_there c.in_ok-insert.field-0 (contains spot_cmp old c.spot_of.result) c.in_ok-insert.ensures.added w.if-branch.false)
      ];
    }

pub returns : goal.returns
returns c = all_kept c.args.found.now c.loop-string.lost.items c.reverse.new.self.items c.loop-string.string-index (omega arith) c.loop-string.invariant.lost c.reverse.ensures.items
