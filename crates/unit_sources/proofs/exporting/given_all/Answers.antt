use Rattle.std.proofs.Common.{true, arith, ap, ◌∙◌}
use Rattle.std.specs.String.{string_bytes}
use Rattle.std.specs.BTreeSet.{contains_text}
use Rattle.std.proofs.lemmas.Map.Text.{btree_set_updates_text}
use Rattle.unit_sources.specs.Exported.{put_export}
use Rattle.unit_sources.proofs.ExportLaws.{put_next, outer_more}
use Rattle.unit_sources.proofs.exporting.given_all.Goals as goal

pub loop-place-preserved : goal.loop-place-preserved
loop-place-preserved c =
    let xs = c.args.specs.now in
    let i = c.loop-place.place in
    let x = c.index-specs-place.result in
    let es = c.args.names.now in
    let key = string_bytes c.in_ok-from_str.field-0 in
    record {
      given =
          put_next es xs i x c.loop-place.exports c.in_ok-exports.exports c.contains-again.result (omega arith) c.index-specs-place.is
          (c.contains-again.ensures ∙ ap (contains_text c.loop-place.seen) c.as_str.ensures ∙ c.loop-place.invariant.seen x.outer.name)
          (c.in_ok-exports.ensures ∙ ap (put_export i c.loop-place.exports) c.in_ok-export.ensures)
          ∙ c.loop-place.invariant.given;
      seen = λ s.
          outer_more xs i x key s (contains_text c.loop-place.seen s) (contains_text c.insert.new.self s) (omega arith) c.index-specs-place.is (c.in_ok-from_str.ensures.ok ∙ c.as_str-in-loop-place.ensures)
          (c.loop-place.invariant.seen s) (btree_set_updates_text key c.loop-place.seen c.insert.new.self true c.in_ok-insert.ensures.updates s);
    }
