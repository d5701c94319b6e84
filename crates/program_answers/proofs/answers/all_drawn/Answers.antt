use Rattle.std.proofs.Common.{◌<◌, List, map, filter, length, sym, ap, ◌∙◌, subst, arith}
use Rattle.std.specs.FinMap.{entries}
use Rattle.std.proofs.lemmas.List.{take_all}
use Rattle.scheme_model.specs.Diagnostics.{Bytes}
use Rattle.program_leaves.specs.Members.{IsIn}
use Rattle.program_leaves.specs.declared.pairs.Pair.{Pair}
use Rattle.program_answers.specs.BytesKept.{drawn_seen, has_end, pair_bytes}
use Rattle.program_answers.specs.ToldAnswers.{facts_in}
use Rattle.program_answers.specs.declared.bytes.Drawn.{Drawn}
use Rattle.program_answers.proofs.ListedLaws.{each_more, told_if, told_over}
use Rattle.program_answers.proofs.answers.all_drawn.Goals as goal
use Rattle.program_answers.proofs.answers.all_drawn.Goals.{then-has_end+in_ok-push, else-has_end}

pub loop-pair-init : goal.loop-pair-init
loop-pair-init c = record {
  inside = λ b i. absurd (subst (IsIn b) (ap (map drawn_seen) c.new-all.ensures.items) i);
  exact = λ rs source. ap (map drawn_seen) c.new-all.ensures.items;
}

pub loop-pair-preserved : goal.loop-pair-preserved
loop-pair-preserved c =
    let none : Pair = record { binder = record { unit = 0; form = 0; token = 0 }; target = record { unit = 0; form = 0; token = 0 } } in
    let count = length (entries c.args.asked.now.texts.now) in
    let i = c.loop-pair.pair-index in
    let pairs = c.as_slice-pair-items.result.now in
    let old = c.loop-pair.all.items in
    let drawn = c.drawn_of-drawn.result in
    let here : (drawn.from.document < count) × (drawn.to.document < count) = (c.drawn_of-drawn.ensures.from, c.drawn_of-drawn.ensures.to) in
    elim c.if-has_end.branch [
      | then-has_end+in_ok-push w ↦
          let more = ap (λ v. v.items) w.all-is ∙ w.in_ok-push.ensures.items in
          record {
            inside = each_more drawn_seen (λ (d : Bytes × Bytes). (d.0.document < count) × (d.1.document < count)) old c.if-has_end.all.items drawn c.loop-pair.invariant.inside more here;
            exact = λ rs source.
                told_if drawn_seen (pair_bytes (facts_in rs).bytes) (has_end c.args.document) pairs i none old c.if-has_end.all.items drawn (omega arith) (c.loop-pair.invariant.exact rs source) more (c.drawn_of-drawn.ensures.exact rs source)
                (sym c.has_end.ensures ∙ w.if-has_end.true);
          }
      | else-has_end w ↦
          let same = ap (λ v. v.items) w.all-is in
          record {
            inside = λ d k. c.loop-pair.invariant.inside d (subst (λ (xs : List Drawn). IsIn d (map drawn_seen xs)) same k);
            exact = λ rs source.
                ap (map drawn_seen) same
                ∙ told_over drawn_seen (pair_bytes (facts_in rs).bytes) (has_end c.args.document) pairs i none old drawn (omega arith) (c.loop-pair.invariant.exact rs source) (c.drawn_of-drawn.ensures.exact rs source) (sym c.has_end.ensures ∙ w.if-has_end.false);
          }
    ]

pub returns-clause-exact : goal.returns-clause-exact
returns-clause-exact c = λ rs source.
    c.loop-pair.invariant.exact rs source
    ∙ ap (λ (ps : List Pair). filter (has_end c.args.document) (map (pair_bytes (facts_in rs).bytes) ps)) (take_all c.loop-pair.pair-index c.as_slice-pair-items.result.now (omega arith) ∙ c.as_slice-pair-items.ensures)
