use Rattle.std.proofs.Common.{◌≡◌, ℕ, List, take}
use Rattle.std.specs.BTreeMap.{get_by_text}
use Rattle.included_documents.specs.Meant.{first_place, is_at}
use Rattle.included_documents.specs.Kept.{uris_in}
use Rattle.included_documents.proofs.firsts.first_urls.Given as goal

abbrev pub invariant-loop-place : goal.invariant-loop-place
invariant-loop-place l = (s : List ℕ) → get_by_text l.firsts s ≡ first_place (is_at s) 0 (uris_in (take l.place l.documents))
