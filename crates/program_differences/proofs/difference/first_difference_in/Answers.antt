use Rattle.std.proofs.Common.{◌≡◌, true, rules, refl, sym, ◌∙◌, subst}
use Rattle.std.specs.Prelude.{None, false}
use Rattle.std.specs.Option.{is_none}
use Rattle.rename_model.specs.SameProgram.{stretches, live_in}
use Rattle.rename_model.specs.Difference.{first_among, option_difference}
use Rattle.program_differences.specs.Differences.{AreOne}
use Rattle.program_differences.specs.Exported.{changes_as}
use Rattle.program_differences.proofs.ApartLaws.{none_more}
use Rattle.program_differences.proofs.BothLaws.{are_standing, comparable, programs_are, nothing_found}
use Rattle.program_differences.proofs.difference.first_difference_in.Goals as goal

pub apart_in-requires : goal.apart_in-requires
apart_in-requires c =
    let are = c.in_ok-programs.ensures.told in
    are_standing c.in_ok-programs.programs (comparable c.in_ok-programs.programs c.args.work.now c.args.old.now c.args.new.now are.0 are.1 are.2 c.requires)

pub returns-then-is_none : goal.returns-then-is_none
returns-then-is_none c = λ text uris before after p q tells apart one other given others.
    let are = c.in_ok-programs.ensures.told in
    let stand = programs_are c.in_ok-programs.programs c.args.work.now c.args.old.now c.args.new.now text uris before after p q are.0 are.1 are.2 one other in
    let ss = stretches p q (changes_as c.as_slice.result.now) c.args.reach.now in
    let found = c.in_ok-apart.ensures text uris before after p q (λ o. false) tells apart stand (c.in_ok-programs.ensures.numbered text uris before after p q one other) given others (λ o. refl) in
    let gone : is_none c.in_ok-apart.apart ≡ true = first_of (search rules, cc) in
    let none = nothing_found c.in_ok-programs.programs.work.now.symbols (first_among (λ o. false) ss) c.in_ok-apart.apart gone found in
    let whole = (λ j. first_among (live_in before p) (stretches p q (changes_as (sym c.as_slice.ensures j)) c.args.reach.now)) ∙ none_more (live_in before p) ss none in
    subst (λ x. AreOne None (option_difference p q c.args.plan.now.class x)) (sym whole) tt

pub difference_where-requires : goal.difference_where-requires
difference_where-requires c =
    let are = c.in_ok-programs.ensures.told in
    let h = c.requires in (
      comparable c.in_ok-programs.programs c.args.work.now c.args.old.now c.args.new.now are.0 are.1 are.2 h,
      c.in_ok-programs.ensures.numbered h.text h.uris h.before h.after h.p h.q h.old_stands h.new_stands,
    )

pub returns : goal.returns
returns c = λ text uris before after p q tells apart one other given others.
    let are = c.in_ok-programs.ensures.told in
    let stand = programs_are c.in_ok-programs.programs c.args.work.now c.args.old.now c.args.new.now text uris before after p q are.0 are.1 are.2 one other in
    c.in_ok-difference_where.ensures text uris before after p q tells apart stand (c.in_ok-programs.ensures.numbered text uris before after p q one other) given others
