-- What is known once all that is published was kept.
use Rattle.std.proofs.Common.{◌≡◌, ◌≢◌, ◌⊎◌, inl, inr, ℕ, zero, suc, List, [], ◌∷◌, slice_get, Bool, true, false, cond, Option, Some, BTreeMap, String, string_bytes, bytes_eq, nat_cmp, refl, sym, ap, ◌∙◌}
use Rattle.std.specs.BTreeMap.{is_at}
use Rattle.std.specs.Cmp.Lexicographic.{slice_cmp}
use Rattle.std.specs.FinMap.{empty, entries, find, get-entries, len, len-empty, len-entries}
use Rattle.std.specs.List.{fold}
use Rattle.std.specs.Map.{lookup}
use Rattle.std.proofs.lemmas.List.{nil_from_length}
use Rattle.std.proofs.lemmas.Slice.Eq.{bytes_eq-Decides}
use Rattle.ls_base.specs.declared.answers.Diagnostic.{Diagnostic}
use Rattle.ls_base.specs.declared.encoding.Encoding.{Encoding}
use Rattle.document_store.specs.Texts.{Document, Texts}
use Rattle.program_answers.specs.Listings.{or_none}
use Rattle.program_answers.specs.Updates.{IsNewsOf, Lists, list_at, listed_in}
use Rattle.program_answers.specs.declared.publications.Published.{Published}
use Rattle.program_answers.proofs.SameDiagnostics.{same_diagnostics}
use Rattle.program_answers.proofs.TextLists.{one_lists, told_rows}
use Rattle.generated_workspace.specs.Known.{IsKnownOf, Known, with_published}

-- ---- nothing yet

no_entries : (texts : Texts) → texts ≡ empty → entries texts ≡ []
no_entries texts none = nil_from_length (entries texts) (sym (len-entries texts) ∙ ap (λ (t : Texts). len t) none ∙ len-empty (slice_cmp nat_cmp) Document)

pub nothing_at : {Y : Type 0} (m : BTreeMap (String Y) (List Diagnostic)) → m.entries ≡ [] → (uri : List ℕ) → list_at m uri ≡ []
nothing_at {Y} m none uri = ap (λ (es : List (String Y × List Diagnostic)). or_none (lookup (is_at (λ (k : String Y). slice_cmp nat_cmp uri (string_bytes k))) es)) none

pub nothing_known : (e : Encoding) (texts : Texts) (known : Known) → texts ≡ empty → ((uri : List ℕ) → known uri ≡ []) → IsKnownOf e texts known
nothing_known e texts known none nothing = λ lists are uri.
    let rows : entries lists ≡ [] = are.2 ∙ ap (λ (ds : List (List ℕ × Document)). told_rows e ds are.0) (no_entries texts none) in
    nothing uri ∙ sym (ap or_none (get-entries lists uri ∙ ap (λ (es : List (List ℕ × List Diagnostic)). find (slice_cmp nat_cmp) uri es) rows))

-- ---- one list after another

-- one of them is of a document
abbrev IsAmong : List Published → List ℕ → Type 0
IsAmong ps uri = (n : ℕ) × (p : Published) × (slice_get ps n ≡ Some p) × (p.uri ≡ uri)

none_at : (n : ℕ) (p : Published) → slice_get [] n ≡ Some p → ⊥
none_at n p h = cc

in_rest : (p : Published) (ps : List Published) (uri : List ℕ) → bytes_eq p.uri uri ≡ false → (n : ℕ) (q : Published) → slice_get (p ∷ ps) n ≡ Some q → q.uri ≡ uri → IsAmong ps uri
in_rest p ps uri other zero q at is =
    let same : p ≡ q = cc in
    let there : bytes_eq p.uri uri ≡ true = (bytes_eq-Decides p.uri uri).1 (ap (λ (x : Published). x.uri) same ∙ is) in
    let clash : true ≡ false = sym there ∙ other in
    absurd cc
in_rest p ps uri other (suc n) q at is = (n, q, at, is)

-- lists that are those by now, with one of each document of which these weren't known, make all known
last_known : (now known : Known) (ps : List Published) (uri : List ℕ) → ((n : ℕ) (p : Published) → slice_get ps n ≡ Some p → p.list ≡ now p.uri) → (known uri ≡ now uri) ⊎ IsAmong ps uri →
    fold with_published known ps uri ≡ now uri
last_known now known [] uri each (inl is) = is
last_known now known [] uri each (inr there) = absurd (none_at there.0 there.1 there.2)
last_known now known (p ∷ ps) uri each h = last_known now (with_published known p) ps uri (λ n q at. each (suc n) q at) (next (bytes_eq p.uri uri) refl h)
  where
    next : (b : Bool) → bytes_eq p.uri uri ≡ b → (known uri ≡ now uri) ⊎ IsAmong (p ∷ ps) uri → (with_published known p uri ≡ now uri) ⊎ IsAmong ps uri
    next true is h = inl (ap (λ b. cond b p.list (known uri)) is ∙ each 0 p refl ∙ ap now ((bytes_eq-Decides p.uri uri).0 is))
    next false is (inl k) = inl (ap (λ b. cond b p.list (known uri)) is ∙ k)
    next false is (inr there) = inr (in_rest p ps uri is there.0 there.1 there.2 there.3)

-- after an event all that is published is kept
pub known_after : (e : Encoding) (before after : Texts) (changed : List ℕ) (ps : List Published) (known : Known) → IsKnownOf e before known → IsNewsOf e before after changed ps → IsKnownOf e after (fold with_published known ps)
known_after e before after changed ps known was news = λ lists are uri.
    let now : Known = listed_in news.new in
    let by : (now uri ≡ listed_in news.old uri) ⊎ (now uri ≢ listed_in news.old uri) → (known uri ≡ now uri) ⊎ IsAmong ps uri =
    λ h. elim h as (λ _. (known uri ≡ now uri) ⊎ IsAmong ps uri) [
      | inl same ↦ inl (was news.old news.were uri ∙ sym same)
      | inr other ↦ inr (news.published.all uri (inr other))
    ] in
    last_known now known ps uri (λ n p at. (news.published.each n p at).list_is) (by (same_diagnostics (now uri) (listed_in news.old uri)))
    ∙ ap (λ (l : Lists). listed_in l uri) (one_lists e after news.new lists news.are are)

-- what is known so is known
pub known_alike : (e : Encoding) (texts : Texts) (known other : Known) → IsKnownOf e texts known → ((uri : List ℕ) → other uri ≡ known uri) → IsKnownOf e texts other
known_alike e texts known other is same = λ lists are uri. same uri ∙ is lists are uri

pub none_past : (b : Bool) (list : List Diagnostic) (o : Option (List Diagnostic)) → or_none (cond b (Some list) o) ≡ cond b list (or_none o)
none_past true list o = refl
none_past false list o = refl
