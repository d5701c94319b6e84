use Rattle.std.proofs.Common.{◌<◌, map, length, sym, ap, ◌∙◌, subst, arith}
use Rattle.std.specs.FinMap.{entries}
use Rattle.std.proofs.lemmas.List.{take_all}
use Rattle.scheme_model.specs.declared.Occ.{Occ}
use Rattle.scheme_model.specs.Diagnostics.{Bytes}
use Rattle.program_leaves.specs.Members.{IsIn}
use Rattle.program_answers.specs.BytesKept.{bytes_seen}
use Rattle.program_answers.specs.ToldAnswers.{facts_in}
use Rattle.program_answers.proofs.ListedLaws.{each_more, kept_more}
use Rattle.program_answers.proofs.answers.all_bytes.Goals as goal

pub loop-occ-init : goal.loop-occ-init
loop-occ-init c = record {
  inside = λ b i. absurd (subst (IsIn b) (ap (map bytes_seen) c.new-all.ensures.items) i);
  exact = λ rs source. ap (map bytes_seen) c.new-all.ensures.items;
}

pub loop-occ-preserved : goal.loop-occ-preserved
loop-occ-preserved c =
    let none : Occ = record { unit = 0; form = 0; token = 0 } in
    let count = length (entries c.args.asked.now.texts.now) in
    let here = subst (λ (b : Bytes). b.document < count) (sym c.of.ensures) (c.bytes_of.ensures.inside c.requires) in
    record {
      inside = each_more bytes_seen (λ (b : Bytes). b.document < count) c.loop-occ.all.items c.push.new.self.items c.of.result c.loop-occ.invariant.inside c.in_ok-push.ensures.items here;
      exact = λ rs source.
          kept_more bytes_seen (facts_in rs).bytes c.args.occs.now c.loop-occ.occ-index none c.loop-occ.all.items c.push.new.self.items c.of.result (omega arith) (c.loop-occ.invariant.exact rs source) c.in_ok-push.ensures.items
          (c.of.ensures ∙ c.bytes_of.ensures.exact rs source.read);
    }

pub returns-clause-exact : goal.returns-clause-exact
returns-clause-exact c = λ rs source. c.loop-occ.invariant.exact rs source ∙ ap (map (facts_in rs).bytes) (take_all c.loop-occ.occ-index c.args.occs.now (omega arith))
