use Rattle.std.proofs.Common.{ℕ, List, Option, Some, map, ap, ◌∙◌, arith}
use Rattle.std.specs.BTreeMap.{get}
use Rattle.std.specs.Ordering.{nat_cmp}
use Rattle.std.proofs.lemmas.List.{take_all}
use Rattle.ls_base.specs.declared.places.Span.{Span}
use Rattle.text_edits.specs.NewNames.{edits_from}
use Rattle.text_edits.specs.Views.{edit_of, span_seen}
use Rattle.text_edits.proofs.CutLaws.{can_edit}
use Rattle.text_edits.proofs.EditRuns.{edits_none, edits_some}
use Rattle.text_edits.proofs.edits.edits_of.Goals as goal
use Rattle.text_edits.proofs.edits.edits_of.Goals.{in-Some+in_ok-push_edit, in_default}

pub loop-number-preserved : goal.loop-number-preserved
loop-number-preserved c =
    let new : ℕ → Option (List ℕ) = λ n. get nat_cmp c.args.names.now n in
    let text = c.args.text.now in
    let spans = c.args.spans.now in
    let i = c.loop-number.number in
    let d : Span = record { start = 0; end = 0 } in
    elim c.match-name_of.branch [
      | in-Some+in_ok-push_edit w ↦
          ap (map edit_of) w.edits-is
          ∙ edits_some new text spans i d w.as_str.result.now (map edit_of c.loop-number.edits) _ (omega arith) c.loop-number.invariant (ap Some w.as_str.ensures ∙ w.in-Some.ensures) w.in_ok-push_edit.ensures
      | in_default w ↦ ap (map edit_of) w.edits-is ∙ edits_none new text spans i d (map edit_of c.loop-number.edits) (omega arith) c.loop-number.invariant w.in_default.ensures
    ]

pub returns-clause-made : goal.returns-clause-made
returns-clause-made c = λ ts read same.
    let new : ℕ → Option (List ℕ) = λ n. get nat_cmp c.args.names.now n in
    let text = c.args.text.now in
    let spans = c.args.spans.now in
    let all = c.loop-number.invariant ∙ ap (λ (q : List Span). edits_from new text 0 (map span_seen q)) (take_all c.loop-number.number spans (omega arith)) in
    record { cuts = can_edit new text ts (map span_seen spans) (map edit_of c.loop-number.edits) c.utf8.text read same all }
