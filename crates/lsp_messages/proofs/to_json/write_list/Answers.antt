use Rattle.std.proofs.Common.{◌≡◌, ℕ, List, Bool, [], ◌+◌, ◌∷◌, ◌++◌, drop, map, false, refl, sym, ap, ◌∙◌, subst, arith, string_bytes}
use Rattle.std.proofs.lemmas.List.{drop_more, drop_all}
use Rattle.serde_json.specs.Data.{no_items}
use Rattle.serde_json.specs.View.{items_of}
use Rattle.serde_json.specs.Written.{items_text}
use Rattle.lsp_messages.proofs.Pieces.{items_step, Writes-array}
use Rattle.lsp_messages.proofs.Readable.{AreReadable, AreReadable-item, AreReadable-none}
use Rattle.lsp_messages.proofs.to_json.write_list.Goals as goal

ended : (later : Bool) (s : List ℕ) → s ++ 93 ∷ [] ≡ s ++ items_text later no_items
ended later s = refl

pub loop-item-preserved : goal.loop-item-preserved
loop-item-preserved g c =
    let l = c.loop-item in
    let json = g.T.ToJson.json in
    let xs = c.args.items.now in
    let x = c.item-item.result in
    let here : drop l.item-index xs ≡ x ∷ drop (l.item-index + 1) xs = drop_more xs l.item-index x (omega arith) ∙ ap (λ y. y ∷ drop (l.item-index + 1) xs) (sym c.item-item.is) in
    let rest = items_of (map json (drop (l.item-index + 1) xs)) in
    let written = c.in_ok-write_json.ensures in
    let text = subst (λ ys. string_bytes l.text ++ items_text l.later (items_of (map json ys)) ≡ string_bytes c.put.new.text ++ items_text false (items_of (map json xs))) here l.invariant.0 in
    let readable = subst (λ ys. AreReadable (items_of (map json ys)) → AreReadable (items_of (map json xs))) here l.invariant.1 in
    (items_step l.later (json x) rest _ _ _ _ c.in_ok-comma.ensures written text, λ more. readable (AreReadable-item (json x) rest written.readable more))

pub returns : goal.returns
returns g c =
    let l = c.loop-item in
    let json = g.T.ToJson.json in
    let xs = c.args.items.now in
    let over : drop l.item-index xs ≡ [] = drop_all l.item-index xs (omega arith) in
    let text = subst (λ ys. string_bytes l.text ++ items_text l.later (items_of (map json ys)) ≡ string_bytes c.put.new.text ++ items_text false (items_of (map json xs))) over l.invariant.0 in
    let readable = subst (λ ys. AreReadable (items_of (map json ys)) → AreReadable (items_of (map json xs))) over l.invariant.1 in
    Writes-array (items_of (map json xs)) _ _ _ _ c.in_ok-put.ensures (ended l.later _ ∙ text) c.in_ok-put-2.ensures (readable AreReadable-none)
