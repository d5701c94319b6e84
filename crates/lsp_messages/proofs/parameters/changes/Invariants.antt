use Rattle.std.proofs.Common.{◌≡◌, drop}
use Rattle.serde_json.specs.View.{items_view}
use Rattle.lsp_messages.specs.Parameters.{changes_of}
use Rattle.lsp_messages.proofs.Changes.{with_front}
use Rattle.lsp_messages.proofs.parameters.changes.Given as goal

-- the changes so far, and those of the values that are left
abbrev pub invariant-loop-value : goal.invariant-loop-value
invariant-loop-value l = with_front l.changes (changes_of (items_view (drop l.value-index l.values))) ≡ changes_of (items_view l.values)
