use Rattle.std.proofs.Common.{◌≡◌, drop}
use Rattle.serde_json.specs.View.{items_view}
use Rattle.lsp_messages.specs.Encodings.{first_encoding}
use Rattle.lsp_messages.proofs.encodings.first_encoding.Given as goal

-- the values before name no encoding
abbrev pub invariant-loop-value : goal.invariant-loop-value
invariant-loop-value l = first_encoding (items_view (drop l.value-index l.values)) ≡ first_encoding (items_view l.values)
