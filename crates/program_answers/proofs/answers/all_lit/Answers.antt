use Rattle.std.proofs.Common.{◌<◌, ℕ, List, map, filter, length, sym, ap, ◌∙◌, subst, arith}
use Rattle.std.specs.FinMap.{entries}
use Rattle.std.proofs.lemmas.List.{take_all}
use Rattle.scheme_model.specs.declared.Occ.{Occ}
use Rattle.scheme_model.specs.Diagnostics.{Bytes}
use Rattle.program_leaves.specs.Members.{IsIn}
use Rattle.scheme_model.specs.Answers.{is_in, kind_of}
use Rattle.program_answers.specs.BytesKept.{lit_seen}
use Rattle.program_answers.specs.ToldAnswers.{facts_in}
use Rattle.program_answers.specs.declared.bytes.Lit.{Lit}
use Rattle.program_answers.proofs.AskedLaws.{lit_more, lit_over}
use Rattle.program_answers.proofs.ListedLaws.{each_more}
use Rattle.program_answers.proofs.answers.all_lit.Goals as goal
use Rattle.program_answers.proofs.answers.all_lit.Goals.{then-bytes-document+in_ok-push, else-bytes-document}

pub loop-occ-init : goal.loop-occ-init
loop-occ-init c = record {
  inside = λ b i. absurd (subst (IsIn b) (ap (map lit_seen) c.new-all.ensures.items) i);
  exact = λ rs source. ap (map lit_seen) c.new-all.ensures.items;
}

pub loop-occ-preserved : goal.loop-occ-preserved
loop-occ-preserved c =
    let none : Occ = record { unit = 0; form = 0; token = 0 } in
    let count = length (entries c.args.asked.now.texts.now) in
    let here = subst (λ (b : Bytes). b.document < count) (sym c.of-bytes.ensures) (c.bytes_of.ensures.inside c.requires) in
    let i = c.loop-occ.occ-index in
    let occs = c.args.occs.now in
    let old = c.loop-occ.all.items in
    elim c.if-bytes-document.branch [
      | then-bytes-document+in_ok-push w ↦
          let more = ap (λ v. v.items) w.all-is ∙ w.in_ok-push.ensures.items in
          record {
            inside = each_more lit_seen (λ (l : Bytes × ℕ). l.0.document < count) old c.if-bytes-document.all.items (record { bytes = c.of-bytes.result; kind = w.kind_of-kind.result }) c.loop-occ.invariant.inside more here;
            exact = λ rs source.
                lit_more (facts_in rs) c.args.document occs i none old c.of-bytes.result c.if-bytes-document.all.items w.kind_of-kind.result (omega arith) (c.loop-occ.invariant.exact rs source) more (c.of-bytes.ensures ∙ c.bytes_of.ensures.exact rs source.read)
                (w.kind_of-kind.ensures _ _ source.index) w.if-bytes-document.true;
          }
      | else-bytes-document w ↦
          let same = ap (λ v. v.items) w.all-is in
          record {
            inside = λ l k. c.loop-occ.invariant.inside l (subst (λ (ls : List Lit). IsIn l (map lit_seen ls)) same k);
            exact = λ rs source.
                ap (map lit_seen) same ∙ lit_over (facts_in rs) c.args.document occs i none old c.of-bytes.result (omega arith) (c.loop-occ.invariant.exact rs source) (c.of-bytes.ensures ∙ c.bytes_of.ensures.exact rs source.read) w.if-bytes-document.false;
          }
    ]

pub returns-clause-exact : goal.returns-clause-exact
returns-clause-exact c = λ rs source.
    c.loop-occ.invariant.exact rs source
    ∙ ap (λ (os : List Occ). map (λ o. ((facts_in rs).bytes o, kind_of (facts_in rs) o)) (filter (λ o. is_in c.args.document ((facts_in rs).bytes o)) os)) (take_all c.loop-occ.occ-index c.args.occs.now (omega arith))
