use Rattle.std.proofs.Common.{◌≡◌, ◌++◌, ◌∷◌, [], map, sym, ap, ◌∙◌, subst}
use Rattle.std.specs.FinMap.{entries}
use Rattle.std.specs.List.{All}
use Rattle.std.proofs.lemmas.List.{map-append}
use Rattle.std.proofs.lemmas.List.Elements.{All-push}
use Rattle.program_answers.specs.Classed.{bare_part}
use Rattle.program_answers.specs.ToldAnswers.{facts_in, has_bars}
use Rattle.program_answers.specs.declared.classes.ClassPart.{ClassPart}
use Rattle.program_answers.proofs.classes.with_bars.Goals as goal

pub loop-occ-preserved : goal.loop-occ-preserved
loop-occ-preserved c =
    let ds = entries c.args.asked.now.texts.now in
    let p : ClassPart = record { occ = c.in-Some.field-0.occ; prefix = c.in-Some.field-0.prefix; bars = c.has_bars-bars.result } in
    record {
      same = ap (map bare_part) c.in_ok-push.ensures.ok ∙ map-append bare_part c.loop-occ.all (p ∷ []) ∙ (λ j. c.loop-occ.invariant.same j ++ c.in-Some.field-0 ∷ []);
      bars = λ rs source.
          let P : ClassPart → Type 0 = λ (q : ClassPart). q.bars ≡ has_bars ds ((facts_in rs).bytes q.occ) in
          subst (All P) (sym c.in_ok-push.ensures.ok) (All-push P c.loop-occ.all p (c.loop-occ.invariant.bars rs source) (c.has_bars-bars.ensures ∙ ap (has_bars ds) (c.bytes_of.ensures.exact rs source.read)));
    }
