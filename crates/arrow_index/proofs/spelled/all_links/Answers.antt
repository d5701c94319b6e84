use Rattle.std.proofs.Common.{◌≡◌, ◌↔◌, ◌++◌, List, [], map, sym, ap, ◌∙◌, subst, append_assoc}
use Rattle.scheme_model.specs.declared.Occ.{Occ}
use Rattle.scheme_model.specs.ProgramArrows.{core_targets, is_live_at, binders_in, program_leaves, program_keywords, program_names, program_table}
use Rattle.scheme_model.specs.Spelling.{Link, target_links, name_links, links_to_themselves, macro_links, second_places_in}
use Rattle.core_tree.specs.Names.{AllMatch}
use Rattle.core_tree.specs.declared.units.Unit.{Unit as CodeUnit}
use Rattle.program_leaves.specs.declared.sight.PlacedLeaf.{PlacedLeaf}
use Rattle.program_leaves.specs.declared.sight.PlacedTarget.{PlacedTarget}
use Rattle.program_leaves.specs.Placed.{placed_of, use_of, AreAllSeen, IsUseOf}
use Rattle.program_leaves.specs.Members.{IsIn}
use Rattle.program_leaves.specs.Sights.{IsNameOf, all_names, all_seconds}
use Rattle.program_leaves.proofs.ToldLaws.{names_told}
use Rattle.arrow_index.specs.Links.{as_link}
use Rattle.arrow_index.proofs.LinkLaws.{themselves-append}
use Rattle.arrow_index.proofs.SpelledLaws.{links_law, seconds_told, same_before}
use Rattle.arrow_index.proofs.spelled.all_links.Goals as goal

pub link_uses-requires-clause-leaves : goal.link_uses-requires-clause-leaves
link_uses-requires-clause-leaves c =
    let q = c.requires in
    let ls = program_leaves q.3.units in
    (ls, subst (λ (xs : List PlacedLeaf). AreAllSeen c.args.work.now (map placed_of xs) ls) (sym c.as_slice.ensures.value) q.5.leaves_are)

pub link_uses-requires-clause-entries : goal.link_uses-requires-clause-entries
link_uses-requires-clause-entries c = let q = c.requires in (q.3.units, c.in_ok-entries.ensures c.args.work.now q.0 q.1 q.2 q.3 q.4)

pub link_targets-requires-clause-targets : goal.link_targets-requires-clause-targets
link_targets-requires-clause-targets c =
    let q = c.requires in
    let met = q.5.met_are in
    (met.told, subst (λ (xs : List PlacedTarget). AllMatch (IsUseOf c.args.work.now) (map use_of xs) met.told) (sym c.as_slice-2.ensures.value) met.match)

pub link_targets-requires-clause-entries : goal.link_targets-requires-clause-entries
link_targets-requires-clause-entries c = let q = c.requires in (q.3.units, c.in_ok-entries.ensures c.args.work.now q.0 q.1 q.2 q.3 q.4)

pub link_all_names-requires : goal.link_all_names-requires
link_all_names-requires c =
    let q = c.requires in
    let found = names_told c.args.work.now q.0 q.1 q.2 q.3 0 c.args.program.now.units q.3.units q.4 in
    (found.told, subst (λ (xs : List CodeUnit). AllMatch (IsNameOf c.args.work.now) (all_names xs) found.told) (sym c.as_slice-3.ensures) found.match)

pub link_macros-requires-clause-leaves : goal.link_macros-requires-clause-leaves
link_macros-requires-clause-leaves c =
    let q = c.requires in
    let ls = program_leaves q.3.units in
    (ls, subst (λ (xs : List PlacedLeaf). AreAllSeen c.args.work.now (map placed_of xs) ls) (sym c.as_slice-5.ensures.value) q.5.leaves_are)

pub link_macros-requires-clause-entries : goal.link_macros-requires-clause-entries
link_macros-requires-clause-entries c = let q = c.requires in (q.3.units, c.in_ok-entries.ensures c.args.work.now q.0 q.1 q.2 q.3 q.4)

pub returns : goal.returns
returns c = λ text uris all p h sees are l.
    let w = c.args.work.now in
    let ls = program_leaves p.units in
    let ks = program_keywords p.units in
    let ms = program_names all p p.units in
    let table = program_table p in
    let rs = p.units in
    let live = is_live_at ls ks ms in
    let gives = c.in_ok-entries.ensures w text uris all p h in
    let met = sees.met_are in
    let found = names_told w text uris all p 0 c.args.program.now.units p.units h in
    let seen = subst (λ (xs : List PlacedLeaf). AreAllSeen w (map placed_of xs) ls) (sym c.as_slice.ensures.value) sees.leaves_are in
    let uses = subst (λ (xs : List PlacedTarget). AllMatch (IsUseOf w) (map use_of xs) met.told) (sym c.as_slice-2.ensures.value) met.match in
    let named = subst (λ (xs : List CodeUnit). AllMatch (IsNameOf w) (all_names xs) found.told) (sym c.as_slice-3.ensures) found.match in
    let again = subst (λ (xs : List PlacedLeaf). AreAllSeen w (map placed_of xs) ls) (sym c.as_slice-5.ensures.value) sees.leaves_are in
    let none : map as_link c.new-links.result.items ≡ [] = ap (map as_link) c.new-links.ensures.items in
    let A = target_links ls table rs (core_targets ls) in
    let B = target_links ls table rs met.told in
    let C = name_links found.told in
    let S = all_seconds c.args.program.now.units in
    let places = c.args.binders.now ++ S in
    let D = links_to_themselves c.args.binders.now in
    let E = links_to_themselves S in
    let one = c.in_ok-link_uses.ensures ls ks ms table rs ls sees gives seen ∙ ap (λ (q : List Link). q ++ A) none in
    let two = c.in_ok-link_targets.ensures ls ks ms table rs met.told sees gives uses ∙ ap (λ (q : List Link). q ++ B) one in
    let three = c.in_ok-link_all_names.ensures found.told named ∙ ap (λ (q : List Link). q ++ C) two in
    let four = c.in_ok-link_themselves.ensures ∙ ap (λ (q : List Link). q ++ D) three in
    let more = c.in_ok-link_seconds.ensures ∙ ap (λ (us : List CodeUnit). map as_link c.link_themselves.new.links.items ++ links_to_themselves (all_seconds us)) c.as_slice-4.ensures in
    let both = more ∙ ap (λ (q : List Link). q ++ E) four ∙ append_assoc ((A ++ B) ++ C) D E ∙ ap (λ (q : List Link). ((A ++ B) ++ C) ++ q) (sym (themselves-append c.args.binders.now S)) in
    let five = c.in_ok-link_macros.ensures ls ks ms table rs ls sees gives again ∙ ap (λ (q : List Link). q ++ macro_links live ls table rs ls) both in
    let these : (o : Occ) → IsIn o places ↔ IsIn o (binders_in p ++ second_places_in p.units) = same_before c.args.binders.now (binders_in p) S (second_places_in p.units) are (seconds_told w text uris all p 0 c.args.program.now.units p.units h) in
    links_law ls ks ms table rs (binders_in p ++ second_places_in p.units) (map as_link c.link_macros.new.links.items) met.told found.told places (λ x. (met.there x, met.back x)) (λ x. (found.there x, found.back x)) these five l
