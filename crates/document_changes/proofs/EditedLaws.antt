-- Edited documents stand in the order of their uris, as those before.
use Rattle.std.proofs.Common.{◌≡◌, ◌<◌, List, ◌∷◌, [], ℕ, zero, suc, length, slice_get, Some, arith, Bool, ◌&&◌, refl, sym, ap, subst, T, nat_cmp}
use Rattle.std.specs.FinMap.{entries, entries_sorted, entries-from_sorted}
use Rattle.std.specs.FinMap.Entries.{below_all, is_sorted}
use Rattle.std.specs.Cmp.Lexicographic.{slice_cmp}
use Rattle.std.specs.Ordering.{is_lt}
use Rattle.ls_base.specs.declared.answers.DocEdits.{DocEdits}
use Rattle.ls_base.specs.declared.encoding.Encoding.{Encoding}
use Rattle.document_store.specs.Texts.{Document, Texts}
use Rattle.program_answers.specs.ToldAnswers.{text_of}
use Rattle.document_changes.specs.Edited.{edited_documents, edited_texts}

module _ (encoding : Encoding) (ds : List DocEdits) where
  below_edited : (uri : List ℕ) (es : List (List ℕ × Document)) → below_all (slice_cmp nat_cmp) uri (edited_documents encoding ds es) ≡ below_all (slice_cmp nat_cmp) uri es
  below_edited uri [] = refl
  below_edited uri (e ∷ es) = ap (λ (b : Bool). is_lt (slice_cmp nat_cmp uri e.0) && b) (below_edited uri es)

  sorted_edited : (es : List (List ℕ × Document)) → is_sorted (slice_cmp nat_cmp) (edited_documents encoding ds es) ≡ is_sorted (slice_cmp nat_cmp) es
  sorted_edited [] = refl
  sorted_edited (e ∷ es) = λ j. below_edited e.0 es j && sorted_edited es j

  pub edited_entries : (texts : Texts) → entries (edited_texts encoding ds texts) ≡ edited_documents encoding ds (entries texts)
  edited_entries texts =
      entries-from_sorted (slice_cmp nat_cmp) (edited_documents encoding ds (entries texts)) (subst T (sym (sorted_edited (entries texts))) (entries_sorted texts))

-- the nth document is there, with its text
pub within : {X : Type 0} (xs : List X) (n : ℕ) (x : X) → slice_get xs n ≡ Some x → n < length xs
within [] n x h = absurd cc
within (y ∷ ys) zero x h = omega arith
within (y ∷ ys) (suc n) x h = let below = within ys n x h in omega (arith, below)

pub text_at : (ds : List (List ℕ × Document)) (n : ℕ) (d : List ℕ × Document) → slice_get ds n ≡ Some d → text_of ds n ≡ d.1.1
text_at [] n d h = absurd cc
text_at (e ∷ es) zero d h = let same : e ≡ d = cc in ap (λ (x : List ℕ × Document). x.1.1) same
text_at (e ∷ es) (suc n) d h = text_at es n d h
