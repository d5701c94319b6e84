use Rattle.std.proofs.Common.{◌≡◌, List, [], ◌++◌, map, sym, ap, ◌∙◌, subst}
use Rattle.scheme_model.specs.ProgramArrows.{binder_of, is_live_at, target_arrows, name_arrows, program_leaves, program_keywords, program_names, program_table}
use Rattle.core_tree.specs.Names.{AllMatch}
use Rattle.program_leaves.specs.declared.sight.PlacedLeaf.{PlacedLeaf}
use Rattle.program_leaves.specs.declared.sight.PlacedTarget.{PlacedTarget}
use Rattle.program_leaves.specs.Members.{IsIn}
use Rattle.program_leaves.specs.Placed.{placed_of, use_of, AreAllSeen, IsUseOf}
use Rattle.program_leaves.specs.Pairs.{as_arrow}
use Rattle.program_leaves.specs.Sights.{IsNameOf, all_names}
use Rattle.program_leaves.specs.Variables.{all_arrows_at}
use Rattle.program_leaves.proofs.ToldLaws.{names_told}
use Rattle.arrow_index.proofs.ArrowLaws.{arrows_there, arrows_back}
use Rattle.arrow_index.proofs.arrows.all_arrows.Goals as goal

pub add_leaves-requires : goal.add_leaves-requires
add_leaves-requires c =
    (c.requires.0, subst (λ (xs : List PlacedLeaf). AreAllSeen c.args.work.now (map placed_of xs) c.requires.0) (sym c.as_slice.ensures.value) c.requires.1)

pub returns : goal.returns
returns c = λ text uris all p h sees a.
    let w = c.args.work.now in
    let ls = program_leaves p.units in
    let ks = program_keywords p.units in
    let ms = program_names all p p.units in
    let table = program_table p in
    let binder = binder_of ls table in
    let live = is_live_at ls ks ms in
    let met = sees.met_are in
    let found = names_told w text uris all p 0 c.args.program.now.units p.units h in
    let seen = subst (λ (xs : List PlacedLeaf). AreAllSeen w (map placed_of xs) ls) (sym c.as_slice.ensures.value) sees.leaves_are in
    let uses = subst (λ (xs : List PlacedTarget). AllMatch (IsUseOf w) (map use_of xs) met.told) (sym c.as_slice-2.ensures.value) met.match in
    let named = subst (λ xs. AllMatch (IsNameOf w) (all_names xs) found.told) (sym c.as_slice-3.ensures) found.match in
    let none : map as_arrow c.new-pairs.result.items ≡ [] = ap (map as_arrow) c.new-pairs.ensures.items in
    let one = c.in_ok-add_leaves.ensures ls ks ms table ls sees seen in
    let two = c.in_ok-add_met.ensures w ls ks ms table met.told sees uses in
    let three = c.in_ok-add_all_names.ensures w ls ks ms table found.told sees named in
    let whole : map as_arrow c.add_all_names.new.pairs.items ≡ (all_arrows_at binder live ls ++ target_arrows binder met.told) ++ name_arrows binder found.told =
    three ∙ (λ j. (two ∙ (λ i. (one ∙ (λ k. none k ++ all_arrows_at binder live ls)) i ++ target_arrows binder met.told)) j ++ name_arrows binder found.told) in (
      λ k. arrows_there binder live ls met.told ks found.told ms met.there found.there a (subst (IsIn a) whole k),
      λ k. subst (IsIn a) (sym whole) (arrows_back binder live ls met.told ks found.told ms met.back found.back a k),
    )
