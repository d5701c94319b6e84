use Rattle.std.proofs.Common.{◌≡◌, map, take}
use Rattle.std.specs.List.{All}
use Rattle.included_documents.specs.Kept.{IsRead, uris_in}
use Rattle.included_documents.proofs.named.read_each.Given as goal

abbrev pub invariant-loop-uri : goal.invariant-loop-uri
invariant-loop-uri l = All IsRead l.documents.items × (uris_in l.documents.items ≡ map (λ uri. uri.now) (take l.uri-index l.uris))
