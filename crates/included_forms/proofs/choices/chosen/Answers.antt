use Rattle.std.proofs.Common.{◌+◌, ◌<◌, ℕ, List, length, Option, Some, refl, ap, ◌∙◌, arith}
use Rattle.std.specs.Borrow.{Bor}
use Rattle.std.proofs.lemmas.Bool.Decides.{nat_tests}
use Rattle.scheme_model.specs.declared.Occ.{Occ}
use Rattle.scheme_model.specs.Data.{row}
use Rattle.scheme_model.specs.Included.{nothing}
use Rattle.datum_reader.specs.declared.datum.Datum as code
use Rattle.datum_reader.specs.Views.{data_of}
use Rattle.datum_reader.specs.Looks.{end_with}
use Rattle.included_forms.proofs.ClauseLaws.{listing_or_bad, picks, choice_dotted}
use Rattle.included_forms.proofs.ChoiceLaws.{last_is, requirement_stops, chosen_more, all_same, chosen_end, choice_err, lighter_more, some_weight}
use Rattle.included_forms.proofs.choices.chosen.Goals as goal

-- tokens by their numbers alone
abbrev alone : ℕ → Occ
alone n = record { unit = 0; form = 0; token = n }

pub returns-then-dotted-clause-whole : goal.returns-then-dotted-clause-whole
returns-then-dotted-clause-whole c = λ t has k h end e whole. choice_dotted t has h whole c.args.parts.now end (e ∙ c.if-dotted.true)

pub returns-in_err-hold-clause-whole : goal.returns-in_err-hold-clause-whole
returns-in_err-hold-clause-whole c = λ t has k h end e.
    let ds = c.args.parts.now in
    let i = c.loop-place.place in
    let cl = c.in-Some.clause in
    let some : 0 < length ds = omega arith in
    let r = row (data_of ds) (end_with end) in
    choice_err t has h c.from_residual.result c.in_err-hold.field-0.0 r c.from_residual.ensures.1
    (requirement_stops t has h ds i c.index-parts-place.result c.loop-place.chosen (omega arith) c.index-parts-place.is (c.loop-place.invariant.whole t has k h) cl.requirement.now cl.forms.now (c.in-Some.ensures.0 t has h) c.in_err-hold.field-0.0
    (λ later q. c.in_err-hold.ensures has k alone later (q ∙ last_is ds (i + 1) _ (omega arith) refl)) r (all_same t has h ds end (e ∙ c.if-dotted.false) some))

pub loop-place-preserved : goal.loop-place-preserved
loop-place-preserved c =
    let ds = c.args.parts.now in
    let i = c.loop-place.place in
    let cl = c.in-Some.clause in
    record {
      whole = λ t has k h. chosen_more t has h ds i c.index-parts-place.result c.loop-place.chosen (omega arith) c.index-parts-place.is (c.loop-place.invariant.whole t has k h) cl.requirement.now cl.forms.now (c.in-Some.ensures.0 t has h) c.in_ok-hold.hold
          c.or_these-chosen.result (λ later q. c.in_ok-hold.ensures has k alone later (q ∙ last_is ds (i + 1) _ (omega arith) refl)) c.or_these-chosen.ensures;
      smaller = lighter_more ds i c.index-parts-place.result c.loop-place.chosen c.in_ok-hold.hold cl c.or_these-chosen.result (omega arith) c.index-parts-place.is c.in-Some.ensures c.loop-place.invariant.smaller c.or_these-chosen.ensures;
    }

pub returns-in-None-clause-whole : goal.returns-in-None-clause-whole
returns-in-None-clause-whole c = λ t has k h end e whole.
    let ds = c.args.parts.now in
    let some : 0 < length ds = grind (arith, nat_tests) in
    all_same t has h ds end (e ∙ c.if-dotted.false) some whole
    ∙ ap (listing_or_bad whole) (chosen_end t has h ds c.loop-place.place c.loop-place.chosen (omega arith) (c.loop-place.invariant.whole t has k h) ∙ ap (λ (o : Option (Bor (List code.Datum))). picks t has h o (Some nothing)) c.in-None.is)

pub returns-in-None-clause-smaller : goal.returns-in-None-clause-smaller
returns-in-None-clause-smaller c = some_weight c.args.parts.now (grind (arith, nat_tests))

pub returns-in-Some-chosen-clause-whole : goal.returns-in-Some-chosen-clause-whole
returns-in-Some-chosen-clause-whole c = λ t has k h end e whole.
    let ds = c.args.parts.now in
    let some : 0 < length ds = grind (arith, nat_tests) in
    all_same t has h ds end (e ∙ c.if-dotted.false) some whole
    ∙ ap (listing_or_bad whole) (chosen_end t has h ds c.loop-place.place c.loop-place.chosen (omega arith) (c.loop-place.invariant.whole t has k h) ∙ ap (λ (o : Option (Bor (List code.Datum))). picks t has h o (Some nothing)) c.in-Some-chosen.is)
