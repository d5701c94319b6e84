use Rattle.std.proofs.Common.{◌≡◌, ◌+◌, List, [], ◌∷◌, ◌++◌, map, drop, refl, sym, ◌∙◌, subst, add-one, drop-cons, arith}
use Rattle.std.proofs.Math.ListN.{drop_of_length-le}
use Rattle.scheme_model.specs.Live.{NameUse}
use Rattle.scheme_model.specs.Spelling.{name_links}
use Rattle.core_tree.specs.Names.{AllMatch}
use Rattle.core_tree.specs.declared.units.NameUse as code_name
use Rattle.core_tree.specs.declared.units.Unit.{Unit as CodeUnit}
use Rattle.program_leaves.specs.Sights.{IsNameOf, all_names}
use Rattle.program_leaves.proofs.AddLaws.{Past, past_none, past_more, past_all}
use Rattle.program_leaves.proofs.Growing.{grows_by_none, grows_twice}
use Rattle.arrow_index.specs.Links.{as_link}
use Rattle.arrow_index.proofs.LinkLaws.{names-append}
use Rattle.arrow_index.proofs.SpelledLaws.{names_at}
use Rattle.arrow_index.proofs.use_links.link_all_names.Goals as goal

pub loop-unit-init : goal.loop-unit-init
loop-unit-init c = λ ns match. past_none (IsNameOf c.args.work.now) (all_names c.args.units.now) ns _ match (grows_by_none as_link c.args.links.now.items [] refl)

pub link_names-requires : goal.link_names-requires
link_names-requires c =
    let w = c.args.work.now in
    let us = c.args.units.now in
    let i = c.loop-unit.unit-index in
    let u = c.unit-item.result in
    let a = names_at w us i u c.requires.0 (omega arith) c.unit-item.is c.requires.1 in
    (a.0, subst (λ (xs : List code_name.NameUse). AllMatch (IsNameOf w) xs a.0) (sym c.as_slice.ensures) a.1)

pub loop-unit-preserved : goal.loop-unit-preserved
loop-unit-preserved c = λ ns match.
    let w = c.args.work.now in
    let us = c.args.units.now in
    let i = c.loop-unit.unit-index in
    let u = c.unit-item.result in
    let at : drop i us ≡ u ∷ drop (i + 1) us = drop-cons us i u (omega arith) ∙ (λ j. sym c.unit-item.is j ∷ drop (sym (add-one i) j) us) in
    let p = subst (λ (xs : List CodeUnit). Past (IsNameOf w) (all_names xs) ns (λ done. map as_link c.loop-unit.links.items ≡ map as_link c.args.links.now.items ++ name_links done)) at (c.loop-unit.invariant ns match) in
    past_more (IsNameOf w) u.names (all_names (drop (i + 1) us)) ns _ _ p
    (λ r.
    let first = subst (λ (xs : List code_name.NameUse). AllMatch (IsNameOf w) xs r.first) (sym c.as_slice.ensures) r.one in
    grows_twice as_link c.args.links.now.items c.loop-unit.links.items c.link_names.new.links.items (name_links p.done) (name_links r.first) (name_links (p.done ++ r.first)) p.holds (c.in_ok-link_names.ensures r.first first) (names-append p.done r.first))

pub returns : goal.returns
returns c = λ ns match.
    let us = c.args.units.now in
    let Q = λ (done : List NameUse). map as_link c.loop-unit.links.items ≡ map as_link c.args.links.now.items ++ name_links done in
    past_all (IsNameOf c.args.work.now) ns Q (subst (λ (xs : List CodeUnit). Past (IsNameOf c.args.work.now) (all_names xs) ns Q) (drop_of_length-le us (omega arith)) (c.loop-unit.invariant ns match))
