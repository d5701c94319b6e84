use Rattle.std.proofs.Common.{◌≡◌, [], ◌∷◌, refl, ap, ◌∙◌, subst}
use Rattle.rename_model.specs.Walks as walk
use Rattle.rename_model.specs.Walks.{leaf_spot}
use Rattle.alpha_equal.specs.Points.{node_as, spot_as, IsPoint}
use Rattle.program_leaves.proofs.AddLaws.{adds_one, adds_both}
use Rattle.alpha_equal.proofs.slots.add_leaf.Goals as goal

pub meaning_at-point-requires : goal.meaning_at-point-requires
meaning_at-point-requires c = let h = c.requires in (h.0, h.1, h.2.target.meaning, h.3.target.meaning)

pub returns : goal.returns
returns c = λ table unit form l knows is.
    let P = IsPoint c.args.work.now.symbols unit form in
    let old = c.args.points.now.items in
    let mid = c.push.new.self.items in
    let new = c.push-2.new.self.items in
    let first = walk.point walk.AtRule (walk.OfNode (node_as c.args.kind)) l.target.occ (walk.ShowsMeaning l.target.meaning) in
    let second = walk.meaning_at table (leaf_spot l.literal) l.target.meaning l.target.occ in
    let spot = c.leaf_spot-spot.ensures ∙ ap leaf_spot is.literal in
    let same : walk.meaning_at table (spot_as c.leaf_spot-spot.result) l.target.meaning c.args.leaf.target.occ ≡ second = λ j. walk.meaning_at table (spot j) l.target.meaning (is.target.place j) in
    let there = subst (P c.meaning_at-point.result) same (c.meaning_at-point.ensures table unit form l.target.meaning knows is.target.meaning) in
    adds_both P old mid new (first ∷ []) (second ∷ []) (adds_one P old mid _ first c.in_ok-push.ensures.items (record { told = record { spot = refl; place = is.target.place; shown = (l.target.meaning, is.target.meaning, refl) }; seen = refl })) (adds_one P mid new c.meaning_at-point.result second c.in_ok-push-2.ensures.items there)
