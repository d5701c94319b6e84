use Rattle.std.proofs.Common.{◌≡◌, List, map, length, subst, arith}
use Rattle.std.proofs.lemmas.List.{nil_from_length}
use Rattle.scheme_model.specs.declared.Occ.{Occ}
use Rattle.scheme_model.specs.Entries.{same_occ}
use Rattle.scheme_model.specs.ProgramArrows.{uses_at}
use Rattle.arrow_index.specs.Links.{as_link}
use Rattle.program_leaves.specs.declared.pairs.Pair.{Pair}
use Rattle.program_leaves.specs.Pairs.{AreArrows, AreOccs}
use Rattle.arrow_index.specs.Classes.{ways_of, Reaches}
use Rattle.arrow_index.proofs.ClassWalks.{IsWalk, walk_first, walk_next, walk_done}
use Rattle.arrow_index.proofs.classes.outside_of.Goals as goal

pub loop-place-init : goal.loop-place-init
loop-place-init c =
    let first = subst (λ (xs : List Occ). Reaches c.in_ok-outside.outside xs c.reach.new.outside c.reach.new.left.items (same_occ c.args.occ)) c.new-left.ensures.items c.in_ok-reach.ensures in
    walk_first (map as_link c.args.links.now) c.args.occ c.in_ok-outside.outside c.reach.new.outside c.reach.new.left.items c.in_ok-outside.ensures first

pub loop-place-preserved : goal.loop-place-preserved
loop-place-preserved c =
    let ls = map as_link c.args.links.now in
    let n = c.in-Some.place in
    let rest = c.pop.new.self.items in
    let slice : c.in_ok-ways.ways ≡ c.as_slice.result.now = cc in
    let are = subst (λ (ps : List Pair). AreArrows ps (ways_of ls)) slice c.in_ok-ways.ensures in
    let found : c.in_ok-next.next ≡ c.as_slice-in-Some.result.now = cc in
    let next = subst (λ (os : List Occ). AreOccs os (uses_at (ways_of ls) n)) found (c.in_ok-next.ensures (ways_of ls) are) in
    let walk = subst (λ (os : List Occ). IsWalk ls c.args.occ c.loop-place.outside os) c.in-Some.ensures.items c.loop-place.invariant in
    walk_next ls c.args.occ n c.loop-place.outside c.reach_all.new.outside rest c.reach_all.new.left.items c.as_slice-in-Some.result.now next c.in_ok-reach_all.ensures walk

pub returns : goal.returns
returns c =
    let ls = map as_link c.args.links.now in
    let left = c.loop-place.left.items in
    let none : length left ≡ 0 = let z = c.in_default.ensures.cases.0 in let items = c.loop-place.left.ok.0 in omega arith in
    walk_done ls c.args.occ c.loop-place.outside (subst (IsWalk ls c.args.occ c.loop-place.outside) (nil_from_length left none) c.loop-place.invariant)
