use Rattle.std.proofs.Common.{◌≡◌, ◌++◌, false, map, drop, string_bytes}
use Rattle.serde_json.specs.View.{items_of}
use Rattle.serde_json.specs.Written.{items_text}
use Rattle.lsp_messages.proofs.Readable.{AreReadable}
use Rattle.lsp_messages.proofs.to_json.write_list.Given as goal

-- the text so far, with that of the items that are left; the list is readable where these are
abbrev pub invariant-loop-item : goal.invariant-loop-item
invariant-loop-item g l =
    (string_bytes l.text ++ items_text l.later (items_of (map g.T.ToJson.json (drop l.item-index l.items))) ≡ string_bytes l.initial.text ++ items_text false (items_of (map g.T.ToJson.json l.items)))
    × (AreReadable (items_of (map g.T.ToJson.json (drop l.item-index l.items))) → AreReadable (items_of (map g.T.ToJson.json l.items)))
