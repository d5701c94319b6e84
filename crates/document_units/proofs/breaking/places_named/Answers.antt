use Rattle.std.proofs.Common.{List, ℕ, refl, sym, ap, ◌∙◌, arith}
use Rattle.std.specs.BTreeMap.{get_by_text}
use Rattle.read_documents.specs.Libraries.{places_by}
use Rattle.document_units.proofs.BrokenLaws.{place_step}
use Rattle.document_units.proofs.breaking.places_named.Goals as goal

pub push_place-requires : goal.push_place-requires
push_place-requires c = λ n e. c.requires c.as_str.result.now n (sym c.place_for.ensures ∙ e)

pub loop-name-preserved : goal.loop-name-preserved
loop-name-preserved c =
    let find = λ (s : List ℕ). get_by_text c.args.firsts.now s in
    place_step find (places_by find) (λ x xs. refl) c.args.names.now c.loop-name.name-index c.name-item.result c.place_for.result c.loop-name.places c.push_place.new.places (places_by find c.args.names.now) (omega arith) c.name-item.is
    (c.place_for.ensures ∙ ap find c.as_str.ensures) c.in_ok-push_place.ensures c.loop-name.invariant
