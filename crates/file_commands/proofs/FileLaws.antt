-- Files one after another.
use Rattle.std.proofs.Common.{◌≡◌, ◌⊎◌, inl, inr, ℕ, pos, not, cond, Bool, true, false, List, [], ◌∷◌, map, Option, Some, None, String, string_bytes, string_cmp, Ordering, Less, Equal, Greater, nat_cmp, Vec, Global, refl, sym, ap, ◌∙◌}
use Rattle.std.specs.BTreeMap.{insert_entry}
use Rattle.std.specs.Cmp.Lexicographic.{slice_cmp}
use Rattle.std.specs.FinMap.{insert}
use Rattle.std.specs.FinMap.Entries.{put, by_order}
use Rattle.std.specs.List.{fold, zip}
use Rattle.std.specs.Ordering.{match_ordering}
use Rattle.std.specs.Str.{IsUtf8, is_utf8}
use Rattle.std.proofs.lemmas.Bool.{cases_Bool}
use Rattle.std.proofs.lemmas.Str.{IsUtf8-from_is_utf8, is_utf8-from_IsUtf8}
use Rattle.ls_base.specs.declared.answers.Diagnostic.{Diagnostic}
use Rattle.document_store.specs.Texts.{Refusal, Texts, TooLong, TooMany, added, has_room, is_long}
use Rattle.command_lines.specs.Diagnostics.{not_utf8}
use Rattle.file_commands.specs.Checking.{Listed, bytes_in, open_file, with_file}

-- ---- one file

pub not_text : (p : List ℕ) → (IsUtf8 p → ⊥) → is_utf8 p ≡ false
not_text p n = elim (cases_Bool (is_utf8 p)) [ inl t ↦ absurd (n (IsUtf8-from_is_utf8 p t)) | inr f ↦ f ]

pub left_out : (texts : Texts) (name content : List ℕ) → (IsUtf8 content → ⊥) → texts ≡ open_file texts (name, content)
left_out texts name content bad = ap (λ b. cond b (insert texts name (pos 0, content)) texts) (sym (not_text content bad))

inserted : (room long : Bool) (old new it : Texts) → ◌≡◌ {A = Texts × Option Refusal} (cond (not room) (old, Some TooMany) (cond long (old, Some TooLong) (it, None))) (new, None) → new ≡ it
inserted true false old new it e = sym (ap (λ (p : Texts × Option Refusal). p.0) e)
inserted true true old new it e = let f : ◌≡◌ {A = Option Refusal} (Some TooLong) None = ap (λ (p : Texts × Option Refusal). p.1) e in absurd cc
inserted false long old new it e = let f : ◌≡◌ {A = Option Refusal} (Some TooMany) None = ap (λ (p : Texts × Option Refusal). p.1) e in absurd cc

pub put_in : (old new : Texts) (name content : List ℕ) → IsUtf8 content → added old name (pos 0) content ≡ (new, None) → new ≡ open_file old (name, content)
put_in old new name content text e =
    inserted (has_room old name) (is_long content) old new (insert old name (pos 0, content)) e
    ∙ ap (λ b. cond b (insert old name (pos 0, content)) old) (sym (is_utf8-from_IsUtf8 content text))

-- ---- lists

module _ {Y : Type 0} where
  abbrev pub shown : String Y × List Diagnostic → Listed
  shown e = (string_bytes e.0, e.1)

  shown_by : (r : Ordering) (e : String Y × List Diagnostic) (es : List (String Y × List Diagnostic)) (k : String Y) (v : List Diagnostic) → map shown (insert_entry string_cmp es k v) ≡ put (slice_cmp nat_cmp) (string_bytes k) v (map shown es) →
      map shown (match_ordering r ((k, v) ∷ e ∷ es) ((e.0, v) ∷ es) (e ∷ insert_entry string_cmp es k v))
      ≡ by_order r ((string_bytes k, v) ∷ shown e ∷ map shown es) ((string_bytes e.0, v) ∷ map shown es) (shown e ∷ put (slice_cmp nat_cmp) (string_bytes k) v (map shown es))
  shown_by Less e es k v rest = refl
  shown_by Equal e es k v rest = refl
  shown_by Greater e es k v rest = ap (λ (xs : List Listed). shown e ∷ xs) rest

  put_shown : (es : List (String Y × List Diagnostic)) (k : String Y) (v : List Diagnostic) → map shown (insert_entry string_cmp es k v) ≡ put (slice_cmp nat_cmp) (string_bytes k) v (map shown es)
  put_shown [] k v = refl
  put_shown (e ∷ es) k v = shown_by (slice_cmp nat_cmp (string_bytes k) (string_bytes e.0)) e es k v (put_shown es k v)

pub kept_out : (lists : List Listed) (name content : List ℕ) → IsUtf8 content → lists ≡ with_file lists (name, content)
kept_out lists name content text = ap (λ b. cond b lists (put (slice_cmp nat_cmp) name (not_utf8 ∷ []) lists)) (sym (is_utf8-from_IsUtf8 content text))

pub put_out : (lists : List Listed) (name content : List ℕ) → (IsUtf8 content → ⊥) → put (slice_cmp nat_cmp) name (not_utf8 ∷ []) lists ≡ with_file lists (name, content)
put_out lists name content bad = ap (λ b. cond b lists (put (slice_cmp nat_cmp) name (not_utf8 ∷ []) lists)) (sym (not_text content bad))

-- ---- one file more

module _ {B : Type 0} (f : B → List ℕ × List ℕ → B) (ns : List (List ℕ)) (vs : List (Vec ℕ Global)) (was all : B) where
  -- one of the files that are left is gone through
  pub files_more : (ms : List (List ℕ)) (ws : List (Vec ℕ Global)) (n : List ℕ) (v : Vec ℕ Global) (bytes : List ℕ) (now : B) → ns ≡ n ∷ ms → vs ≡ v ∷ ws → bytes ≡ v.items → now ≡ f was (n, bytes) →
      fold f was (zip ns (bytes_in vs)) ≡ all → fold f now (zip ms (bytes_in ws)) ≡ all
  files_more ms ws n v bytes now names contents same is before =
      ap (λ (b : B). fold f b (zip ms (bytes_in ws))) (is ∙ ap (λ (c : List ℕ). f was (n, c)) same)
      ∙ (λ i. fold f was (zip (sym names i) (bytes_in (sym contents i)))) ∙ before

  -- none is left
  pub files_none : (ns ≡ []) ⊎ (vs ≡ []) → fold f was (zip ns (bytes_in vs)) ≡ all → was ≡ all
  files_none (inl e) before = sym (ap (λ (xs : List (List ℕ)). fold f was (zip xs (bytes_in vs))) e) ∙ before
  files_none (inr e) before = sym (ap (fold f was) (no_pairs ns)) ∙ sym (ap (λ (ws : List (Vec ℕ Global)). fold f was (zip ns (bytes_in ws))) e) ∙ before
    where
      no_pairs : (xs : List (List ℕ)) → zip xs (bytes_in []) ≡ []
      no_pairs [] = refl
      no_pairs (x ∷ xs) = refl

-- the list of a file that isn't UTF-8 is put in
pub put_as : {Y : Type 0} (es : List (String Y × List Diagnostic)) (new : List (String Y × List Diagnostic)) (k : String Y) (v : List Diagnostic) (name : List ℕ) → new ≡ insert_entry string_cmp es k v → string_bytes k ≡ name → v ≡ not_utf8 ∷ [] →
    map shown new ≡ put (slice_cmp nat_cmp) name (not_utf8 ∷ []) (map shown es)
put_as es new k v name is key list = ap (map shown) is ∙ put_shown es k v ∙ (λ j. put (slice_cmp nat_cmp) (key j) (list j) (map shown es))
