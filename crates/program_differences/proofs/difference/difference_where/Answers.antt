use Rattle.std.proofs.Common.{List, sym, ◌∙◌, subst}
use Rattle.std.specs.Prelude.{Some, None}
use Rattle.scheme_model.specs.declared.Occ.{Occ}
use Rattle.rename_model.specs.SameProgram.{stretches, live_in}
use Rattle.rename_model.specs.Difference.{first_among, option_difference, difference}
use Rattle.program_leaves.proofs.PlacedLaws.{units_formed}
use Rattle.program_differences.specs.Both.{ProgramsStand}
use Rattle.program_differences.specs.Differences.{IsDifference, AreOne}
use Rattle.program_differences.specs.Exported.{changes_as}
use Rattle.program_differences.proofs.ApartLaws.{none_found}
use Rattle.program_differences.proofs.BothLaws.{are_standing, tells_live, one_found, found_of}
use Rattle.program_differences.proofs.difference.difference_where.Goals as goal

pub of-requires : goal.of-requires
of-requires c = let h = c.requires.0 in units_formed c.args.programs.now.work.now h.text h.uris h.before h.p c.args.programs.now.old.now.units h.old_stands

pub of-requires-in-Some : goal.of-requires-in-Some
of-requires-in-Some c = let h = c.requires.0 in units_formed c.args.programs.now.work.now h.text h.uris h.before h.p c.args.programs.now.old.now.units h.old_stands

pub of-requires-in-Some-2 : goal.of-requires-in-Some-2
of-requires-in-Some-2 c = let h = c.requires.0 in units_formed c.args.programs.now.work.now h.text h.uris h.after h.q c.args.programs.now.new.now.units h.new_stands

pub apart_in-requires : goal.apart_in-requires
apart_in-requires c = are_standing c.args.programs.now c.requires.0

pub returns-in-None : goal.returns-in-None
returns-in-None c = λ text uris before after p q tells apart stand numbered given others.
    let work = c.args.programs.now.work.now in
    let ss = stretches p q (changes_as c.as_slice.result.now) c.args.reach.now in
    let sees = c.in_ok-of.ensures.program text uris before p stand.old in
    let found = c.in_ok-apart_in.ensures text uris before after p q (live_in before p) tells apart stand numbered given others (tells_live work c.in_ok-of.field-0 before p sees) in
    let none = none_found work.symbols (first_among (live_in before p) ss) (found_of work.symbols (first_among (live_in before p) ss) _ None c.in-None.is found) in
    let whole = (λ j. first_among (live_in before p) (stretches p q (changes_as (sym c.as_slice.ensures j)) c.args.reach.now)) ∙ none in
    subst (λ x. AreOne None (option_difference p q c.args.plan.now.class x)) (sym whole) tt

pub told-requires : goal.told-requires
told-requires c =
    let h = c.requires.0 in
    let work = c.args.programs.now.work.now in
    let ss = stretches h.p h.q (changes_as c.as_slice.result.now) c.args.reach.now in
    let stand : ProgramsStand h.text h.uris h.before h.after c.args.programs.now h.p h.q = record { old = h.old_stands; new = h.new_stands } in
    let sees = c.in_ok-of.ensures.program h.text h.uris h.before h.p h.old_stands in
    let found = c.in_ok-apart_in.ensures h.text h.uris h.before h.after h.p h.q (live_in h.before h.p) h.tells h.distinct stand c.requires.1 h.old_given h.new_given (tells_live work c.in_ok-of.field-0 h.before h.p sees) in
    let one = one_found work.symbols (first_among (live_in h.before h.p) ss) c.in-Some.apart (found_of work.symbols (first_among (live_in h.before h.p) ss) _ (Some c.in-Some.apart) c.in-Some.is found) in
    (one.0, one.2)

pub returns : goal.returns
returns c = λ text uris before after p q tells apart stand numbered given others.
    let work = c.args.programs.now.work.now in
    let ss = stretches p q (changes_as c.as_slice.result.now) c.args.reach.now in
    let sees = c.in_ok-of.ensures.program text uris before p stand.old in
    let found = c.in_ok-apart_in.ensures text uris before after p q (live_in before p) tells apart stand numbered given others (tells_live work c.in_ok-of.field-0 before p sees) in
    let one = one_found work.symbols (first_among (live_in before p) ss) c.in-Some.apart (found_of work.symbols (first_among (live_in before p) ss) _ (Some c.in-Some.apart) c.in-Some.is found) in
    let whole = (λ j. first_among (live_in before p) (stretches p q (changes_as (sym c.as_slice.ensures j)) c.args.reach.now)) ∙ one.1 in
    subst (λ x. AreOne (Some c.in_ok-told-in-Some.field-0) (option_difference p q c.args.plan.now.class x)) (sym whole)
    (subst (λ (os : List Occ). IsDifference c.in_ok-told-in-Some.field-0 (difference p q os one.0)) c.as_slice-class.ensures (c.in_ok-told-in-Some.ensures before after p q one.0 (c.in_ok-before-in-Some.ensures.program text uris before p stand.old) (c.in_ok-after-in-Some.ensures.program text uris after q stand.new) one.2))
