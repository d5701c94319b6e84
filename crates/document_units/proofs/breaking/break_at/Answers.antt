use Rattle.std.proofs.Common.{ℕ, List, [], ◌∷◌, ◌++◌, length, take, get_or, slice_set, refl, sym, subst, arith}
use Rattle.std.proofs.lemmas.List.{take_more}
use Rattle.std.proofs.lemmas.Option.{slice_get_read}
use Rattle.import_sets.proofs.ReachLaws.{in_at}
use Rattle.read_documents.specs.declared.heads.Head.{Head}
use Rattle.read_documents.specs.Broken.{Breaks}
use Rattle.document_units.proofs.BrokenLaws.{breaks_none, breaks_more}
use Rattle.document_units.proofs.breaking.break_at.Goals as goal

pub loop-place-init : goal.loop-place-init
loop-place-init c = breaks_none c.args.fault c.args.heads.now.items

pub index_mut-requires : goal.index_mut-requires
index_mut-requires c =
    let lt = c.requires (get_or c.args.places.now c.loop-place.place-index 0) (in_at c.args.places.now c.loop-place.place-index (omega arith)) in
    let size = c.loop-place.invariant.size in
    omega (arith, c.loop-place.heads.ok.0, c.args.heads.now.ok.0)

pub loop-place-preserved : goal.loop-place-preserved
loop-place-preserved c =
    let f = c.args.fault in
    let ps = c.args.places.now in
    let i = c.loop-place.place-index in
    let p = get_or ps i 0 in
    let old = c.args.heads.now.items in
    let hs = c.loop-place.heads.items in
    let h = c.index_mut.result.now in
    let lt = c.requires p (in_at ps i (omega arith)) in
    let size = c.loop-place.invariant.size in
    let at = slice_get_read hs (length hs) p h refl (omega (arith, c.loop-place.heads.ok.0, c.args.heads.now.ok.0)) c.index_mut.ensures.value in
    subst (λ (qs : List ℕ). Breaks f qs old (slice_set hs p c.break_one.new.head)) (sym (take_more ps i 0 (omega arith)))
    (subst (λ (g : Head). Breaks f (take i ps ++ p ∷ []) old (slice_set hs p g)) (sym c.break_one.ensures) (breaks_more f (take i ps) p old hs h c.loop-place.invariant at))
